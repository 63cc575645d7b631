-- What a sender's channels are known to have, since they fit the settings.
use Rattle.std.specs.Prelude.{◌≡◌, ℕ, ◌*◌, ◌<◌, ◌≤◌, true, List, [], ◌∷◌, length, map, Option, Some, slice_get, slice_index_or, unwrap_or}
use Rattle.std.proofs.Common.{refl, sym, ap, ◌∙◌, subst, arith}
use Rattle.std.proofs.Math.ListN.{get_or-map}
use Rattle.std.proofs.lemmas.List.{get_or-replicate, length-map, length-replicate}
use Rattle.std.proofs.lemmas.List.Elements.{All-map}
use Rattle.std.proofs.lemmas.Option.{get_or_from_slice_get, slice_get-map, slice_get_within}
use Rattle.std.specs.Option.{option_map}
use Rattle.cal_alloc.specs.Limits.{max_memory_size}
use Rattle.cal_connection.specs.Channel.{Shape, emptied, empty, is_used, no_segment, samples_of, segment_at}
use Rattle.cal_connection.specs.ShapeLemmas.{shape-after_acquire}
use Rattle.cal_connection.specs.declared.segment_details.SegmentDetails.{SegmentDetails}
use Rattle.cal_connection.specs.declared.settings.ConnectionSettings.{ConnectionSettings}
use Rattle.cal_shared.specs.Acquiring.{FitsChannels, IsAcquirable, after_acquire, after_acquiring}
use Rattle.cal_shared.specs.Channels.{FitsSender, Rings, SendingChannel}
use Rattle.cal_shared.specs.Port.{IsSoundPort, SendingPort, pair_of_sender}
use Rattle.cal_shared.specs.Sending.{segments_at}

module _ (settings : ConnectionSettings) (channel : SendingChannel) (fits : FitsSender settings channel) where
  pub length-segments : length channel.segments ≡ settings.number_of_segments
  length-segments =
      sym (length-map channel.segments samples_of) ∙ ap length fits.samples
      ∙ length-replicate settings.number_of_segments settings.number_of_samples

  pub samples-segment_at : (segment : ℕ) → segment < settings.number_of_segments →
      samples_of (segment_at channel.segments segment) ≡ settings.number_of_samples
  samples-segment_at segment below =
      sym (get_or-map samples_of channel.segments segment no_segment)
      ∙ ap (λ (counts : List ℕ). slice_index_or counts segment 0) fits.samples
      ∙ get_or-replicate settings.number_of_segments segment settings.number_of_samples 0 below

-- a channel fits as before where none of its samples is in use any more
samples-emptied : (segments : List SegmentDetails) → map samples_of (map emptied segments) ≡ map samples_of segments
samples-emptied segments =
    ap (λ (s : Shape). s.samples)
    (shape-after_acquire (record { submission = empty 1; completion = empty 1; segments = segments; word = 0 }))

FitsSender-after_acquire : (settings : ConnectionSettings) (channel : SendingChannel) → FitsSender settings channel
    → FitsSender settings (after_acquire channel)
FitsSender-after_acquire settings channel fits = record {
  buffer = fits.buffer;
  completion = fits.completion;
  samples = samples-emptied channel.segments ∙ fits.samples;
}

-- the segments of the channel that is found at a number
pub segments_at-there : (port : SendingPort) (index : ℕ) (channel : SendingChannel)
    → slice_get port.channels index ≡ Some channel → segments_at port index ≡ channel.segments
segments_at-there port index channel there =
    ap (λ (found : Option (List SegmentDetails)). unwrap_or found [])
    (slice_get-map (λ (c : SendingChannel). c.segments) port.channels index
    ∙ ap (option_map (λ (c : SendingChannel). c.segments)) there)

-- and its rings stay
rings-after_acquire : (channels : List SendingChannel) →
    map (λ (channel : SendingChannel). channel.rings) (map after_acquire channels)
    ≡ map (λ (channel : SendingChannel). channel.rings) channels
rings-after_acquire [] = refl
rings-after_acquire (channel ∷ rest) = ap (λ (rings : List Rings). channel.rings ∷ rings) (rings-after_acquire rest)

abbrev pub with_channels : SendingPort → List SendingChannel → SendingPort
with_channels port channels = record port { channels = channels }

pub pair_of-acquired : (port : SendingPort) (channels : List SendingChannel) → channels ≡ map after_acquire port.channels
    → pair_of_sender (with_channels port channels) ≡ pair_of_sender port
pair_of-acquired port channels is =
    ap (λ (cs : List SendingChannel). pair_of_sender (with_channels port cs)) is
    ∙ ap (λ (rings : List Rings). record { settings = port.settings; words = port.words; rings = rings })
    (rings-after_acquire port.channels)

module _ (port : SendingPort) (sound : IsSoundPort FitsSender port) where
  -- the channel that is found at a number
  pub FitsSender-there : (index : ℕ) (channel : SendingChannel) → slice_get port.channels index ≡ Some channel
      → FitsSender port.settings channel
  FitsSender-there index channel there =
      subst (FitsSender port.settings) (get_or_from_slice_get port.channels index channel channel there)
      (sound.fits index channel (slice_get_within port.channels index channel there))

  pub IsSoundPort-acquired : IsSoundPort FitsSender (after_acquiring port)
  IsSoundPort-acquired = record {
    clamped = sound.clamped;
    few = sound.few;
    words = sound.words;
    count = length-map port.channels after_acquire ∙ sound.count;
    fits = All-map (FitsSender port.settings) after_acquire port.channels
        (λ index d within. FitsSender-after_acquire port.settings _ (sound.fits index d within));
  }

  -- it is sound where its channels are those after all samples were taken out of use
  pub IsSoundPort-with_acquired : (channels : List SendingChannel) → channels ≡ map after_acquire port.channels
      → IsSoundPort FitsSender (with_channels port channels)
  IsSoundPort-with_acquired channels is =
      subst (λ (cs : List SendingChannel). IsSoundPort FitsSender (with_channels port cs)) (sym is) IsSoundPort-acquired

  -- what can be acquired of a port can be acquired of each of its channels
  pub FitsChannels-acquirable : port.settings.number_of_segments ≤ 256 → IsAcquirable port
      → FitsChannels port.channels
  FitsChannels-acquirable few acquirable = record {
    numbered = λ index channel there.
        omega (arith, length-segments port.settings channel (FitsSender-there index channel there));
    fits = λ index channel there. record {
      below = λ segment sample used.
          let same : segments_at port index ≡ channel.segments = segments_at-there port index channel there in
          subst
          (λ (segments : List SegmentDetails). sample * (segment_at segments segment).sample_size < max_memory_size)
          same
          (acquirable.below index segment sample
          (subst (λ (segments : List SegmentDetails). is_used segments segment sample ≡ true) (sym same) used));
    };
  }
