-- Where each sample that is in use was sent with the size that is stored for its segment, the sender can acquire all of
-- them.
use Rattle.std.proofs.Common.{◌≡◌, ℕ, ◌+◌, ◌*◌, ◌/◌, ◌%◌, ◌^◌, ◌<◌, ◌==◌, Bool, true, false, List, length, replicate, Option, refl, sym, ap, subst, ◌∙◌, inl, inr, arith}
use Rattle.std.specs.Prelude.{◌⊎◌, slice_index_or, if◌then◌else◌}
use Rattle.std.proofs.lemmas.Bool.{and_parts, cases_eq, cases_lt, eqb-true, false≢true}
use Rattle.std.proofs.lemmas.List.{get_or_past, get_or-replicate, get_or-set_other, get_or-set_same, length-replicate, set_past}
use Rattle.cal_alloc.specs.Limits.{max_memory_size}
use Rattle.cal_alloc.specs.PointerOffset.{offset_of, segment_of}
use Rattle.cal_connection.specs.declared.segment_details.SegmentDetails.{SegmentDetails}
use Rattle.cal_connection.specs.declared.settings.ConnectionSettings.{ConnectionSettings}
use Rattle.cal_connection.specs.declared.errors.ZeroCopySendError.TheVariants.{ConnectionCorrupted}
use Rattle.cal_connection.specs.Acquisition.{FitsSegments, IsAcquirable}
use Rattle.cal_connection.specs.Channel.{ChannelEntry, capacity_of, contains, no_segment, segment_at, is_used, new_segment, new_channel, with_used, with_entry, after_return, is_refused, after_send, after_receive, is_at_limit, after_pop, after_release, is_full, after_push, after_reclaim, oldest, overflow_of, with_room}
use Rattle.cal_connection.specs.Port.{PortEntry, IsSendable, IsSoundPort, new_port, no_channel, channel_at, with_channel}
use Rattle.cal_connection.specs.PortLemmas.{length-segments, samples-segment_at}
use Rattle.cal_connection.specs.UsedPairs.{one_if, is_pair_of, HasSize}
use Rattle.cal_connection.specs.UsedPairLemmas.{entered_pair, returned_pair, size-after_return}

-- ---- segments

-- where two tests count alike with something more, the first doesn't hold without the second
no_more : (before after : Bool) (more : ℕ) → one_if after + more ≡ one_if before → after ≡ true → before ≡ true
no_more true after more is holds = refl
no_more false after more is holds =
    let one : 1 + more ≡ 0 = ap (λ b. one_if b + more) (sym holds) ∙ is in
    absurd (omega arith)

-- what is in use after a return was so before, and has the size that it had
pub FitsSegments-after_return : (segments : List SegmentDetails) (returned : Option ℕ) → FitsSegments segments →
    FitsSegments (after_return segments returned)
FitsSegments-after_return segments returned fits = record {
  below = λ segment index used.
      subst (λ size. index * size < max_memory_size) (sym (size-after_return segments returned segment))
      (fits.below segment index
      (no_more (is_used segments segment index) (is_used (after_return segments returned) segment index) _
      (returned_pair segments ConnectionCorrupted segment index returned) used));
}

either : (after before pair : Bool) → one_if after ≡ one_if before + one_if pair → after ≡ true →
    (before ≡ true) ⊎ (pair ≡ true)
either after true pair is holds = inl refl
either after false true is holds = inr refl
either after false false is holds =
    let one : one_if true ≡ one_if after = ap one_if (sym holds) in
    absurd (omega arith)

-- an offset that its size divides is its index times its size
whole : (offset size : ℕ) → 0 < size → offset % size ≡ 0 → offset / size * size ≡ offset
whole offset size some divides = omega arith

small : (pointer : ℕ) → pointer < 2 ^ 64 → offset_of pointer < max_memory_size
small pointer fits = omega arith

module _ (segments : List SegmentDetails) (pointer sample_size : ℕ) (fits_word : pointer < 2 ^ 64)
    (some : 0 < sample_size) (divides : offset_of pointer % sample_size ≡ 0)
    (there : segment_of pointer < length segments)
    (within : offset_of pointer / sample_size < capacity_of (segment_at segments (segment_of pointer)).used)
    (unused : is_used segments (segment_of pointer) (offset_of pointer / sample_size) ≡ false)
    (sized : HasSize segments (segment_of pointer) sample_size) (fits : FitsSegments segments) where
  abbrev after : List SegmentDetails
  after = with_entry segments pointer sample_size

  abbrev entry : SegmentDetails
  entry =
      with_used (segment_at segments (segment_of pointer)) sample_size (offset_of pointer / sample_size)

  size_is : (segment_at after (segment_of pointer)).sample_size ≡ sample_size
  size_is = ap (λ (d : SegmentDetails). d.sample_size)
      (get_or-set_same segments (segment_of pointer) entry no_segment there)

  -- a sample that was in use before
  was_in_use : (segment index : ℕ) → is_used segments segment index ≡ true →
      index * (segment_at after segment).sample_size < max_memory_size
  was_in_use segment index used = elim (cases_eq segment (segment_of pointer)) [
    | inl same ↦
        let size_after : (segment_at after segment).sample_size ≡ sample_size =
        ap (λ s. (segment_at after s).sample_size) same ∙ size_is in
        let size_before : (segment_at segments segment).sample_size ≡ sample_size =
        ap (λ s. (segment_at segments s).sample_size) same
        ∙ sized index (subst (λ s. is_used segments s index ≡ true) same used) in
        subst (λ size. index * size < max_memory_size) (size_before ∙ sym size_after)
        (fits.below segment index used)
    | inr apart ↦
        subst (λ (d : SegmentDetails). index * d.sample_size < max_memory_size)
        (sym (get_or-set_other segments (segment_of pointer) segment entry no_segment apart))
        (fits.below segment index used)
  ]

  -- the sample that was sent
  was_sent : (segment index : ℕ) → is_pair_of after pointer segment index ≡ true →
      index * (segment_at after segment).sample_size < max_memory_size
  was_sent segment index pair =
      let both = and_parts (segment_of pointer == segment)
      (offset_of pointer / (segment_at after (segment_of pointer)).sample_size == index) pair in
      let of_segment : segment_of pointer ≡ segment = eqb-true (segment_of pointer) segment both.0 in
      let of_index : offset_of pointer / (segment_at after (segment_of pointer)).sample_size ≡ index =
      eqb-true (offset_of pointer / (segment_at after (segment_of pointer)).sample_size) index both.1 in
      let at_index : offset_of pointer / sample_size ≡ index =
      ap (λ size. offset_of pointer / size) (sym size_is) ∙ of_index in
      let told : index * (segment_at after segment).sample_size ≡ offset_of pointer =
      ap (λ s. index * (segment_at after s).sample_size) (sym of_segment) ∙ ap (λ size. index * size) size_is
      ∙ ap (λ i. i * sample_size) (sym at_index) ∙ whole (offset_of pointer) sample_size some divides in
      subst (λ offset. offset < max_memory_size) (sym told) (small pointer fits_word)

  -- what is in use after a send, before something leaves for it
  FitsSegments-with_entry : FitsSegments after
  FitsSegments-with_entry = record {
    below = λ segment index used.
        elim (either (is_used after segment index) (is_used segments segment index)
        (is_pair_of after pointer segment index)
        (entered_pair segments pointer sample_size there within unused segment index) used) [
          | inl before ↦ was_in_use segment index before
          | inr pair ↦ was_sent segment index pair
        ];
  }

-- a new channel has no sample in use
none_marked : (n index : ℕ) → slice_index_or (replicate n false) index false ≡ false
none_marked n index = elim (cases_lt index n) [
  | inl within ↦ get_or-replicate n index false false within
  | inr past ↦ get_or_past (replicate n false) index false (omega (arith, length-replicate n false))
]

FitsSegments-new : (settings : ConnectionSettings) →
    FitsSegments (replicate settings.number_of_segments (new_segment settings))
FitsSegments-new settings = record {
  below = λ segment index used. absurd (false≢true (sym (unused segment index) ∙ used));
}
  where
    unused : (segment index : ℕ) →
        is_used (replicate settings.number_of_segments (new_segment settings)) segment index ≡ false
    unused segment index = elim (cases_lt segment settings.number_of_segments) [
      | inl within ↦
          ap (λ (d : SegmentDetails). contains d.used index)
          (get_or-replicate settings.number_of_segments segment (new_segment settings) no_segment within)
          ∙ none_marked settings.number_of_samples index
      | inr past ↦
          ap (λ (d : SegmentDetails). contains d.used index)
          (get_or_past (replicate settings.number_of_segments (new_segment settings)) segment no_segment
          (omega (arith, length-replicate settings.number_of_segments (new_segment settings))))
    ]

-- ---- entries

-- a channel that changes so that all its samples in use fit
pub IsAcquirable-changed : (port : PortEntry) (channel : ℕ) (changed : ChannelEntry) → IsAcquirable port →
    FitsSegments changed.segments → IsAcquirable (with_channel port channel changed)
IsAcquirable-changed port channel changed acquirable fits = record {
  below = λ other segment index. elim (cases_eq other channel) [
    | inl same ↦ elim (cases_lt channel (length port.channels)) [
      | inl there ↦
          let is : channel_at (with_channel port channel changed) other ≡ changed =
          ap (channel_at (with_channel port channel changed)) same
          ∙ get_or-set_same port.channels channel changed no_channel there in
          subst (λ (c : ChannelEntry). is_used c.segments segment index ≡ true →
          index * (segment_at c.segments segment).sample_size < max_memory_size) (sym is)
          (fits.below segment index)
      | inr past ↦
          subst (λ channels. is_used (slice_index_or channels other no_channel).segments segment index ≡ true →
          index * (segment_at (slice_index_or channels other no_channel).segments segment).sample_size
          < max_memory_size) (sym (set_past port.channels channel changed past))
          (acquirable.below other segment index)
    ]
    | inr apart ↦
        subst (λ (c : ChannelEntry). is_used c.segments segment index ≡ true →
        index * (segment_at c.segments segment).sample_size < max_memory_size)
        (sym (get_or-set_other port.channels channel other changed no_channel apart))
        (acquirable.below other segment index)
  ];
}

pub IsAcquirable-new : (settings : ConnectionSettings) (word state : ℕ) →
    IsAcquirable (new_port settings word state)
IsAcquirable-new settings word state = record {
  below = λ channel. elim (cases_lt channel settings.number_of_channels) [
    | inl within ↦
        subst (λ (c : ChannelEntry). (segment index : ℕ) → is_used c.segments segment index ≡ true →
        index * (segment_at c.segments segment).sample_size < max_memory_size)
        (sym (get_or-replicate settings.number_of_channels channel (new_channel settings state) no_channel within))
        (FitsSegments-new settings).below
    | inr past ↦
        subst (λ (c : ChannelEntry). (segment index : ℕ) → is_used c.segments segment index ≡ true →
        index * (segment_at c.segments segment).sample_size < max_memory_size)
        (sym (get_or_past (replicate settings.number_of_channels (new_channel settings state)) channel no_channel
        (omega (arith, length-replicate settings.number_of_channels (new_channel settings state)))))
        (λ segment index used. absurd (false≢true used))
  ];
}

module _ (port : PortEntry) (channel : ℕ) (acquirable : IsAcquirable port) where
  abbrev before : ChannelEntry
  before = channel_at port channel

  fits_before : FitsSegments before.segments
  fits_before = record { below = acquirable.below channel }

  pub IsAcquirable-sent : (overflow : Bool) (pointer sample_size : ℕ) → IsSoundPort port →
      IsSendable port channel pointer sample_size → pointer < 2 ^ 64 →
      HasSize before.segments (segment_of pointer) sample_size →
      IsAcquirable (with_channel port channel (after_send overflow before pointer sample_size))
  IsAcquirable-sent overflow pointer sample_size sound sendable small sized =
      IsAcquirable-changed port channel (after_send overflow before pointer sample_size) acquirable
      (by_test (is_refused overflow before))
    where
      entered : FitsSegments (with_entry before.segments pointer sample_size)
      entered =
          FitsSegments-with_entry before.segments pointer sample_size small sendable.within.size
          sendable.within.divides
          (subst (λ n. segment_of pointer < n) (sym (length-segments port sound channel sendable.within.there))
          sendable.within.segment)
          (subst (λ n. offset_of pointer / sample_size < n)
          (sym (samples-segment_at port sound channel (segment_of pointer) sendable.within.there
          sendable.within.segment))
          sendable.within.index)
          sendable.unused sized fits_before

      by_test : (refused : Bool) →
          (let after : ChannelEntry = if refused then before else record before {
            submission = after_push (with_room before.submission) pointer;
            segments = after_return (with_entry before.segments pointer sample_size)
                (overflow_of before.submission);
          } in
          FitsSegments after.segments)
      by_test true = fits_before
      by_test false =
          FitsSegments-after_return (with_entry before.segments pointer sample_size)
          (overflow_of before.submission) entered

  pub IsAcquirable-reclaimed : IsAcquirable (with_channel port channel (after_reclaim before))
  IsAcquirable-reclaimed =
      IsAcquirable-changed port channel (after_reclaim before) acquirable
      (FitsSegments-after_return before.segments (oldest before.completion) fits_before)

  -- a call that leaves what is in use
  pub IsAcquirable-left : (changed : ChannelEntry) → changed.segments ≡ before.segments →
      IsAcquirable (with_channel port channel changed)
  IsAcquirable-left changed same =
      IsAcquirable-changed port channel changed acquirable (subst FitsSegments (sym same) fits_before)

pub segments-after_receive : (limit count : ℕ) (channel : ChannelEntry) →
    (after_receive limit count channel).segments ≡ channel.segments
segments-after_receive limit count channel = by_test (is_at_limit limit count)
  where
    by_test : (at_limit : Bool) →
        (let after : ChannelEntry = if at_limit then channel
        else record channel { submission = after_pop channel.submission } in
        after.segments ≡ channel.segments)
    by_test true = refl
    by_test false = refl

pub segments-after_release : (channel : ChannelEntry) (pointer : ℕ) →
    (after_release channel pointer).segments ≡ channel.segments
segments-after_release channel pointer = by_test (is_full channel.completion)
  where
    by_test : (full : Bool) →
        (let after : ChannelEntry = if full then channel
        else record channel { completion = after_push channel.completion pointer } in
        after.segments ≡ channel.segments)
    by_test true = refl
    by_test false = refl
