-- What follows of an entry's soundness, and how the entry of a handle is read and written in a registry.
use Rattle.std.specs.Prelude.{◌≡◌, ◌≢◌, ℕ, ◌<◌, ◌≤◌, ◌^◌, false, List, [], ◌∷◌, length, map, replicate, slice_index_or}
use Rattle.std.proofs.Common.{refl, sym, ap, ◌∙◌, subst, inl, inr, arith}
use Rattle.std.proofs.Math.Seq.{map-set_same}
use Rattle.std.proofs.Math.ListN.{get_or-map}
use Rattle.std.proofs.lemmas.Bool.{cases_lt}
use Rattle.std.proofs.lemmas.List.{get_or_default, get_or_past, get_or-replicate, get_or-set_other, length-map, length-replicate, same_lists}
use Rattle.cal_connection.specs.declared.settings.ConnectionSettings.{ConnectionSettings}
use Rattle.cal_connection.specs.Closing.{closed_channel, with_closed_channels}
use Rattle.cal_connection.specs.Acquisition.{after_acquiring}
use Rattle.cal_connection.specs.Settings.{IsClamped, completion_size}
use Rattle.cal_connection.specs.Words.{IsPortWord}
use Rattle.cal_connection.specs.Channel.{after_acquire, new_channel, new_segment, ChannelEntry, Shape, shape, shape_of, samples_of, no_segment, segment_at}
use Rattle.cal_connection.specs.ShapeLemmas.{shape-after_acquire}
use Rattle.cal_connection.specs.Port.{PortEntry, IsSoundPort, new_port, no_channel, channel_at, with_channel}

module _ (port : PortEntry) (sound : IsSoundPort port) where
  pub length-channels : length port.channels ≡ port.settings.number_of_channels
  length-channels =
      sym (length-map port.channels shape) ∙ ap length sound.shapes
      ∙ length-replicate port.settings.number_of_channels (shape_of port.settings)

  pub shape-channel_at : (channel : ℕ) → channel < port.settings.number_of_channels →
      shape (channel_at port channel) ≡ shape_of port.settings
  shape-channel_at channel within =
      sym (get_or-map shape port.channels channel no_channel)
      ∙ ap (λ xs. slice_index_or xs channel (shape no_channel)) sound.shapes
      ∙ get_or-replicate port.settings.number_of_channels channel (shape_of port.settings) (shape no_channel) within

  pub length-segments : (channel : ℕ) → channel < port.settings.number_of_channels →
      length (channel_at port channel).segments ≡ port.settings.number_of_segments
  length-segments channel within =
      sym (length-map (channel_at port channel).segments samples_of)
      ∙ ap (λ (s : Shape). length s.samples) (shape-channel_at channel within)
      ∙ length-replicate port.settings.number_of_segments port.settings.number_of_samples

  pub length-segments-most : port.settings.number_of_segments ≤ 256 → (channel : ℕ) →
      length (channel_at port channel).segments ≤ 256
  length-segments-most few channel = elim (cases_lt channel port.settings.number_of_channels) [
    | inl within ↦ omega (arith, length-segments channel within)
    | inr past ↦
        let none : channel_at port channel ≡ no_channel =
        get_or_past port.channels channel no_channel (omega (arith, length-channels)) in
        subst (λ (c : ChannelEntry). length c.segments ≤ 256) (sym none) (omega arith)
  ]

  pub samples-segment_at : (channel segment : ℕ) → channel < port.settings.number_of_channels →
      segment < port.settings.number_of_segments →
      samples_of (segment_at (channel_at port channel).segments segment) ≡ port.settings.number_of_samples
  samples-segment_at channel segment within below =
      sym (get_or-map samples_of (channel_at port channel).segments segment no_segment)
      ∙ ap (λ (s : Shape). slice_index_or s.samples segment 0) (shape-channel_at channel within)
      ∙ get_or-replicate port.settings.number_of_segments segment port.settings.number_of_samples 0 below

  -- what was found at a channel's number is the channel
  pub channel_at-found : (channel : ℕ) (found : ChannelEntry) → channel < port.settings.number_of_channels →
      found ≡ slice_index_or port.channels channel found → found ≡ channel_at port channel
  channel_at-found channel found within is =
      is ∙ get_or_default port.channels channel found no_channel (subst (λ n. channel < n) (sym length-channels) within)

  -- an entry stays sound where a channel changes, and its room doesn't
  pub IsSoundPort-changed : (channel : ℕ) (found changed : ChannelEntry) →
      found ≡ slice_index_or port.channels channel found → shape changed ≡ shape found →
      IsSoundPort (with_channel port channel changed)
  IsSoundPort-changed channel found changed is same = record {
    clamped = sound.clamped;
    fits = sound.fits;
    word = sound.word;
    shapes = map-set_same shape port.channels channel changed found (same ∙ ap shape is) ∙ sound.shapes;
  }

  -- a call on a channel leaves every other channel as it was
  pub channel_at-other : (channel other : ℕ) (changed : ChannelEntry) → other ≢ channel →
      channel_at (with_channel port channel changed) other ≡ channel_at port other
  channel_at-other channel other changed apart =
      get_or-set_other port.channels channel other changed no_channel apart

  -- an entry stays sound where only the port word changes
  pub IsSoundPort-with_word : (word : ℕ) → IsPortWord word → IsSoundPort (record port { word = word })
  IsSoundPort-with_word word is =
      record { clamped = sound.clamped; fits = sound.fits; word = is; shapes = sound.shapes }

  -- and where all its channels are closed
  pub IsSoundPort-closed : IsSoundPort (with_closed_channels port)
  IsSoundPort-closed = record {
    clamped = sound.clamped;
    fits = sound.fits;
    word = sound.word;
    shapes = same port.channels ∙ sound.shapes;
  }
    where
      same : (channels : List ChannelEntry) → map shape (map closed_channel channels) ≡ map shape channels
      same [] = refl
      same (channel ∷ channels) = ap (λ shapes. shape channel ∷ shapes) (same channels)

  -- and where no sample is in use any more
  pub IsSoundPort-acquired : IsSoundPort (after_acquiring port)
  IsSoundPort-acquired = record {
    clamped = sound.clamped;
    fits = sound.fits;
    word = sound.word;
    shapes = same port.channels ∙ sound.shapes;
  }
    where
      same : (channels : List ChannelEntry) → map shape (map after_acquire channels) ≡ map shape channels
      same [] = refl
      same (channel ∷ channels) =
          ap (λ s. s ∷ map shape (map after_acquire channels)) (shape-after_acquire channel)
          ∙ ap (λ shapes. shape channel ∷ shapes) (same channels)

-- ---- what is made

map-replicate : {X Y : Type 0} (f : X → Y) (n : ℕ) (x : X) → map f (replicate n x) ≡ replicate n (f x)
map-replicate f n x =
    same_lists (map f (replicate n x)) (replicate n (f x))
    (length-map (replicate n x) f ∙ length-replicate n x ∙ sym (length-replicate n (f x)))
    (λ k d below.
    let within : k < n = subst (λ m. k < m) (length-map (replicate n x) f ∙ length-replicate n x) below in
    get_or_default (map f (replicate n x)) k d (f x) below ∙ get_or-map f (replicate n x) k x
    ∙ ap f (get_or-replicate n k x x within) ∙ sym (get_or-replicate n k (f x) d within))

shape-new_channel : (settings : ConnectionSettings) (word : ℕ) → shape (new_channel settings word) ≡ shape_of settings
shape-new_channel settings word =
    ap (λ samples. record {
      submission = settings.buffer_size;
      completion = completion_size settings;
      samples = samples;
    })
    (map-replicate samples_of settings.number_of_segments (new_segment settings)
    ∙ ap (replicate settings.number_of_segments) (length-replicate settings.number_of_samples false))

-- a new entry is sound
pub IsSoundPort-new : (settings : ConnectionSettings) (word state : ℕ) → IsClamped settings →
    completion_size settings < 2 ^ 63 → IsPortWord word → IsSoundPort (new_port settings word state)
IsSoundPort-new settings word state clamped fits is = record {
  clamped = clamped;
  fits = fits;
  word = is;
  shapes =
      map-replicate shape settings.number_of_channels (new_channel settings state)
      ∙ ap (replicate settings.number_of_channels) (shape-new_channel settings state);
}
