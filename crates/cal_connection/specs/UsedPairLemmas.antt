-- How often a pair is in use once a sample was put into use or taken out of it.
use Rattle.std.proofs.Common.{◌≡◌, ℕ, ◌+◌, ◌/◌, ◌%◌, ◌<◌, ◌==◌, ◌&&◌, Bool, true, false, not, cond, List, length, Option, Some, None, Result, Ok, Err, refl, sym, ap, ◌∙◌, subst, inl, inr, arith}
use Rattle.std.specs.Prelude.{slice_index_or, slice_set, if◌then◌else◌}
use Rattle.std.proofs.Math.ListN.{get_or-map}
use Rattle.std.proofs.Math.Seq.{map-set_same}
use Rattle.std.proofs.lemmas.Bool.{and_left, and_parts, cases_lt, cond-true, cond-false, eq-eqb, eqb-true, false≢true}
use Rattle.std.proofs.lemmas.Bool.Decides.{eqb_tells}
use Rattle.std.proofs.lemmas.List.{get_or_past, get_or-set_same, get_or-set_other}
use Rattle.cal_alloc.specs.PointerOffset.{offset_of, segment_of}
use Rattle.cal_connection.specs.declared.segment_details.SegmentDetails.{SegmentDetails}
use Rattle.cal_connection.specs.Channel.{capacity_of, contains, no_segment, segment_at, is_used, names_used_entry, with_used, without_used, with_entry, without_entry, after_return, return_answer}
use Rattle.cal_connection.specs.UsedPairs.{one_if, times_used, times_named}

plus_zero : (n : ℕ) → n + 0 ≡ n
plus_zero n = omega arith

-- ---- one mark

mark_set : (marks : List Bool) (at index : ℕ) (mark : Bool) → at < length marks →
    slice_index_or (slice_set marks at mark) index false ≡ cond (at == index) mark (slice_index_or marks index false)
mark_set marks at index mark within = elim (eqb_tells at index) [
  | inl same ↦
      subst (λ k. slice_index_or (slice_set marks at mark) k false
      ≡ cond (at == k) mark (slice_index_or marks k false)) same.1
      (get_or-set_same marks at mark false within
      ∙ sym (cond-true (at == at) mark (slice_index_or marks at false) (eq-eqb at at refl)))
  | inr other ↦
      get_or-set_other marks at index mark false (λ e. other.1 (sym e))
      ∙ sym (cond-false (at == index) mark (slice_index_or marks index false) other.0)
]

-- a mark that is set is within
mark_within : (marks : List Bool) (at : ℕ) → slice_index_or marks at false ≡ true → at < length marks
mark_within marks at set = elim (cases_lt at (length marks)) [
  | inl within ↦ within
  | inr past ↦ absurd (false≢true (sym (get_or_past marks at false past) ∙ set))
]

-- ---- one segment

module _ (segments : List SegmentDetails) (at place : ℕ) (changed : SegmentDetails) (mark : Bool)
    (marks : changed.used.marks ≡ slice_set (segment_at segments at).used.marks place mark)
    (there : at < length segments) (within : place < capacity_of (segment_at segments at).used) where
  used_here : (index : ℕ) → is_used (slice_set segments at changed) at index
      ≡ cond (at == at && place == index) mark (is_used segments at index)
  used_here index =
      ap (λ (d : SegmentDetails). contains d.used index) (get_or-set_same segments at changed no_segment there)
      ∙ ap (λ (ms : List Bool). slice_index_or ms index false) marks
      ∙ mark_set (segment_at segments at).used.marks place index mark within
      ∙ sym (ap (λ t. cond (t && place == index) mark (is_used segments at index)) (eq-eqb at at refl))

  -- of all pairs one has another mark
  used_set : (segment index : ℕ) → is_used (slice_set segments at changed) segment index
      ≡ cond (at == segment && place == index) mark (is_used segments segment index)
  used_set segment index = elim (eqb_tells at segment) [
    | inl same ↦
        subst (λ s. is_used (slice_set segments at changed) s index
        ≡ cond (at == s && place == index) mark (is_used segments s index)) same.1 (used_here index)
    | inr other ↦
        ap (λ (d : SegmentDetails). contains d.used index)
        (get_or-set_other segments at segment changed no_segment (λ e. other.1 (sym e)))
        ∙ sym (cond-false (at == segment && place == index) mark (is_used segments segment index)
        (and_left (at == segment) (place == index) other.0))
  ]

-- the pair that is tested for is the one that is meant
used_at : (segments : List SegmentDetails) (at place segment index : ℕ) (mark : Bool) →
    is_used segments at place ≡ mark → (at == segment && place == index) ≡ true →
    is_used segments segment index ≡ mark
used_at segments at place segment index mark is test =
    let both = and_parts (at == segment) (place == index) test in
    subst (λ s. is_used segments s index ≡ mark) (eqb-true at segment both.0)
    (subst (λ k. is_used segments at k ≡ mark) (eqb-true place index both.1) is)

entered : (test used : Bool) → (test ≡ true → used ≡ false) →
    one_if (cond test true used) ≡ one_if used + one_if test
entered true used is = ap (λ u. one_if u + 1) (sym (is refl))
entered false used is = sym (plus_zero (one_if used))

taken : (test used : Bool) → (test ≡ true → used ≡ true) →
    one_if (cond test false used) + one_if test ≡ one_if used
taken true used is = ap one_if (sym (is refl))
taken false used is = plus_zero (one_if used)

-- ---- a sample that is put into use

module _ (segments : List SegmentDetails) (pointer sample_size : ℕ) where
  abbrev place : ℕ
  place = offset_of pointer / sample_size

  abbrev entry : SegmentDetails
  entry = with_used (segment_at segments (segment_of pointer)) sample_size place

  pub entered_pair : segment_of pointer < length segments →
      place < capacity_of (segment_at segments (segment_of pointer)).used →
      is_used segments (segment_of pointer) place ≡ false → (segment index : ℕ) →
      times_used (with_entry segments pointer sample_size) segment index
      ≡ times_used segments segment index
      + times_named (with_entry segments pointer sample_size) (Some pointer) segment index
  entered_pair there within unused segment index =
      ap one_if (used_set segments (segment_of pointer) place entry true refl there within segment index)
      ∙ entered (segment_of pointer == segment && place == index) (is_used segments segment index)
      (used_at segments (segment_of pointer) place segment index false unused)
      ∙ sym (ap (λ (d : SegmentDetails). one_if (is_used segments segment index)
      + one_if (segment_of pointer == segment && offset_of pointer / d.sample_size == index))
      (get_or-set_same segments (segment_of pointer) entry no_segment there))

-- ---- a sample that is taken out of use

abbrev size_of : SegmentDetails → ℕ
size_of details = details.sample_size

module _ (segments : List SegmentDetails) (pointer : ℕ) where
  abbrev details : SegmentDetails
  details = segment_at segments (segment_of pointer)

  abbrev left : SegmentDetails
  left = without_used details (offset_of pointer)

  -- the sample sizes stay
  size-without_entry : (segment : ℕ) →
      (segment_at (without_entry segments pointer) segment).sample_size ≡ (segment_at segments segment).sample_size
  size-without_entry segment =
      sym (get_or-map size_of (without_entry segments pointer) segment no_segment)
      ∙ ap (λ (sizes : List ℕ). slice_index_or sizes segment 0)
      (map-set_same size_of segments (segment_of pointer) left no_segment refl)
      ∙ get_or-map size_of segments segment no_segment

  taken_pair : names_used_entry segments pointer ≡ true → (segment index : ℕ) →
      times_used (without_entry segments pointer) segment index
      + times_named (without_entry segments pointer) (Some pointer) segment index
      ≡ times_used segments segment index
  taken_pair named segment index =
      let used : is_used segments (segment_of pointer) (offset_of pointer / details.sample_size) ≡ true =
      (and_parts (not (details.sample_size == 0) && offset_of pointer % details.sample_size == 0)
      (contains details.used (offset_of pointer / details.sample_size)) named).1 in
      let within : offset_of pointer / details.sample_size < capacity_of details.used =
      mark_within details.used.marks (offset_of pointer / details.sample_size) used in
      ap (λ u. one_if u + times_named (without_entry segments pointer) (Some pointer) segment index)
      (used_set segments (segment_of pointer) (offset_of pointer / details.sample_size) left false refl
      (segment_there within) within segment index)
      ∙ ap (λ size. one_if (cond (segment_of pointer == segment
      && offset_of pointer / details.sample_size == index) false (is_used segments segment index))
      + one_if (segment_of pointer == segment && offset_of pointer / size == index))
      (size-without_entry (segment_of pointer))
      ∙ taken (segment_of pointer == segment && offset_of pointer / details.sample_size == index)
      (is_used segments segment index)
      (used_at segments (segment_of pointer) (offset_of pointer / details.sample_size) segment index true used)
    where
      segment_there : offset_of pointer / details.sample_size < capacity_of details.used →
          segment_of pointer < length segments
      segment_there within = elim (cases_lt (segment_of pointer) (length segments)) [
        | inl there ↦ there
        | inr past ↦
            let none : details ≡ no_segment = get_or_past segments (segment_of pointer) no_segment past in
            let empty : capacity_of details.used ≡ 0 = ap (λ (d : SegmentDetails). capacity_of d.used) none in
            absurd (omega arith)
      ]

-- ---- what came back

-- what is given back, if something is
abbrev pub given_back : {E : Type 0} → Result (Option ℕ) E → Option ℕ
given_back (Ok back) = back
given_back (Err error) = None

module _ (segments : List SegmentDetails) where
  pub size-after_return : (returned : Option ℕ) (segment : ℕ) →
      (segment_at (after_return segments returned) segment).sample_size ≡ (segment_at segments segment).sample_size
  size-after_return None segment = refl
  size-after_return (Some pointer) segment = by_test (names_used_entry segments pointer)
    where
      by_test : (named : Bool) →
          (segment_at (if named then without_entry segments pointer else segments) segment).sample_size
          ≡ (segment_at segments segment).sample_size
      by_test true = size-without_entry segments pointer segment
      by_test false = refl

  module _ {E : Type 0} (error : E) (segment index : ℕ) where
    pub returned_pair : (returned : Option ℕ) →
        times_used (after_return segments returned) segment index
        + times_named (after_return segments returned) (given_back (return_answer error segments returned)) segment
        index ≡ times_used segments segment index
    returned_pair None = plus_zero (times_used segments segment index)
    returned_pair (Some pointer) = by_test (names_used_entry segments pointer) (λ is. is)
      where
        by_test : (named : Bool) → (named ≡ true → names_used_entry segments pointer ≡ true) →
            (let left : List SegmentDetails = if named then without_entry segments pointer else segments in
            let answer : Result (Option ℕ) E = if named then Ok (Some pointer) else Err error in
            times_used left segment index + times_named left (given_back answer) segment index
            ≡ times_used segments segment index)
        by_test true named = taken_pair segments pointer (named refl) segment index
        by_test false named = plus_zero (times_used segments segment index)
