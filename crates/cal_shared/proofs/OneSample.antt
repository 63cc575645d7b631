-- With one sample a segment each offset is 0, so that all of them can be acquired.
use Rattle.std.proofs.Common.{◌≡◌, ℕ, ◌*◌, ◌<◌, ◌≤◌, false, List, sym, subst, ap, ◌∙◌, inl, inr, arith}
use Rattle.std.specs.Prelude.{[], Option, Some, None, slice_get, unwrap_or, refl}
use Rattle.std.specs.Option.{option_map}
use Rattle.std.proofs.lemmas.Option.{slice_get-map}
use Rattle.std.proofs.lemmas.Bool.{cases_lt, false≢true}
use Rattle.std.proofs.lemmas.List.{get_or_past}
use Rattle.cal_alloc.specs.Limits.{max_memory_size}
use Rattle.cal_connection.specs.Channel.{no_segment, samples_of, segment_at}
use Rattle.cal_connection.specs.declared.segment_details.SegmentDetails.{SegmentDetails}
use Rattle.cal_shared.specs.Acquiring.{IsAcquirable}
use Rattle.cal_shared.specs.Channels.{FitsSender, SendingChannel}
use Rattle.cal_shared.specs.Port.{IsSoundPort, SendingPort}
use Rattle.cal_shared.specs.Sending.{segments_at}
use Rattle.cal_shared.proofs.FittingChannels.{FitsSender-there, length-segments, samples-segment_at, segments_at-there}

module _ (port : SendingPort) (sound : IsSoundPort FitsSender port) (one : port.settings.number_of_samples ≡ 1) where
  few_of : (channel : SendingChannel) (segment : ℕ) → FitsSender port.settings channel
      → samples_of (segment_at channel.segments segment) ≤ 1
  few_of channel segment fits = elim (cases_lt segment port.settings.number_of_segments) [
    | inl below ↦ omega (arith, samples-segment_at port.settings channel fits segment below)
    | inr past ↦
        let none : segment_at channel.segments segment ≡ no_segment =
        get_or_past channel.segments segment no_segment
        (omega (arith, length-segments port.settings channel fits)) in
        subst (λ (d : SegmentDetails). samples_of d ≤ 1) (sym none) (omega arith)
  ]

  few : (index segment : ℕ) → samples_of (segment_at (segments_at port index) segment) ≤ 1
  few index segment = by_channel (slice_get port.channels index) refl
    where
      by_channel : (found : Option SendingChannel) → slice_get port.channels index ≡ found
          → samples_of (segment_at (segments_at port index) segment) ≤ 1
      by_channel None is =
          let none : segments_at port index ≡ [] =
          ap (λ (o : Option (List SegmentDetails)). unwrap_or o [])
          (slice_get-map (λ (c : SendingChannel). c.segments) port.channels index
          ∙ ap (option_map (λ (c : SendingChannel). c.segments)) is) in
          subst (λ (segments : List SegmentDetails). samples_of (segment_at segments segment) ≤ 1) (sym none)
          (omega arith)
      by_channel (Some channel) is =
          subst (λ (segments : List SegmentDetails). samples_of (segment_at segments segment) ≤ 1)
          (sym (segments_at-there port index channel is))
          (few_of channel segment (FitsSender-there port sound index channel is))

  pub all_acquirable : IsAcquirable port
  all_acquirable = record {
    below = λ channel segment index used. elim (cases_lt index 1) [
      | inl first ↦
          let zero : index ≡ 0 = omega arith in
          subst
          (λ i. i * (segment_at (segments_at port channel) segment).sample_size < max_memory_size)
          (sym zero)
          (omega arith)
      | inr past ↦
          absurd (false≢true (sym (get_or_past (segment_at (segments_at port channel) segment).used.marks index false
          (omega (arith, few channel segment))) ∙ used))
    ];
  }
