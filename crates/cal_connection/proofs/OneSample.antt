-- With one sample a segment each offset is 0, so that all of them can be acquired.
use Rattle.std.proofs.Common.{◌≡◌, ℕ, ◌*◌, ◌<◌, ◌≤◌, false, sym, subst, ◌∙◌, inl, inr, arith}
use Rattle.std.proofs.lemmas.Bool.{cases_lt, false≢true}
use Rattle.std.proofs.lemmas.List.{get_or_past}
use Rattle.cal_alloc.specs.Limits.{max_memory_size}
use Rattle.cal_connection.specs.Acquisition.{IsAcquirable}
use Rattle.cal_connection.specs.Channel.{ChannelEntry, no_segment, samples_of, segment_at}
use Rattle.cal_connection.specs.Port.{PortEntry, IsSoundPort, channel_at, no_channel}
use Rattle.cal_connection.specs.PortLemmas.{length-channels, length-segments, samples-segment_at}

module _ (port : PortEntry) (sound : IsSoundPort port) (one : port.settings.number_of_samples ≡ 1) where
  few : (channel segment : ℕ) → samples_of (segment_at (channel_at port channel).segments segment) ≤ 1
  few channel segment = elim (cases_lt channel port.settings.number_of_channels) [
    | inr past ↦
        let none : channel_at port channel ≡ no_channel =
        get_or_past port.channels channel no_channel (omega (arith, length-channels port sound)) in
        subst (λ (c : ChannelEntry). samples_of (segment_at c.segments segment) ≤ 1) (sym none) (omega arith)
    | inl within ↦
        elim (cases_lt segment port.settings.number_of_segments) [
          | inl below ↦ omega (arith, samples-segment_at port sound channel segment within below)
          | inr past ↦
              let none : segment_at (channel_at port channel).segments segment ≡ no_segment =
              get_or_past (channel_at port channel).segments segment no_segment
              (omega (arith, length-segments port sound channel within)) in
              subst (λ d. samples_of d ≤ 1) (sym none) (omega arith)
        ]
  ]

  pub all_acquirable : IsAcquirable port
  all_acquirable = record {
    below = λ channel segment index used. elim (cases_lt index 1) [
      | inl first ↦
          let zero : index ≡ 0 = omega arith in
          subst
          (λ i. i * (segment_at (channel_at port channel).segments segment).sample_size < max_memory_size)
          (sym zero)
          (omega arith)
      | inr past ↦
          absurd (false≢true (sym (get_or_past (segment_at (channel_at port channel).segments segment).used.marks
          index false (omega (arith, few channel segment))) ∙ used))
    ];
  }
