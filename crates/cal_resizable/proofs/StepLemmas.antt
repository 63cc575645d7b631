-- What the steps of a chunk leave: the bytes that were written, and how often the view has an offset registered.
use Rattle.std.proofs.Common.{◌≡◌, ◌≢◌, ℕ, ◌+◌, ◌-◌, ◌<◌, ◌≤◌, Option, Some, None, IsSomeAnd, List, ◌++◌, length, take, drop, option_map, refl, sym, ap, ◌∙◌, subst, inl, inr, arith}
use Rattle.std.proofs.Math.Seq.{take-append_seam, drop-append_seam}
use Rattle.std.proofs.lemmas.Bool.{cases_eq}
use Rattle.std.proofs.lemmas.List.{length-append, length-take-le, length-drop, take_all}
use Rattle.std.proofs.lemmas.Option.{none-some}
use Rattle.std.specs.List.{slice_range}
use Rattle.cal_storage.specs.declared.entry.Entry.{Entry}
use Rattle.cal_storage.specs.Contents.{Contents, entry_of, value_of, after_opening}
use Rattle.cal_storage.specs.ContentsLaws.{one_holder_more}
use Rattle.cal_storage.specs.EntryLemmas.{after_opening-ChangesEntry}
use Rattle.cal_storage.specs.HoldingLemmas.{value-with_value}
use Rattle.cal_shm.specs.Calls.{OfValue, IsInPayload, with_written, with_written_in}
use Rattle.cal_shm.specs.Segment.{Segment, overwritten, with_bytes}
use Rattle.cal_resizable.specs.Chunks.{value_in, segment_value}
use Rattle.cal_resizable.specs.Growth.{OfSegment}
use Rattle.cal_resizable.specs.Slots.{Slots, HeldSegment, segment_at, count_in, count_at, id_in, id_at_slot, empty_slots}
use Rattle.cal_resizable.proofs.SlotLemmas.{segment_at-empty}

-- ---- bytes that were written

module _ (bytes written : List ℕ) (offset : ℕ) (fits : offset + length written ≤ length bytes) where
  abbrev front : List ℕ
  front = take offset bytes

  abbrev back : List ℕ
  back = drop (length written) (drop offset bytes)

  length-front : length front ≡ offset
  length-front = length-take-le offset bytes (omega (arith, fits))

  length-whole : length (front ++ (written ++ back)) ≡ length bytes
  length-whole = omega (
    arith,
    fits,
    length-front,
    length-append front (written ++ back),
    length-append written back,
    length-drop (length written) (drop offset bytes),
    length-drop offset bytes,
  )

  overwritten-whole : overwritten bytes offset written ≡ front ++ (written ++ back)
  overwritten-whole = take_all (length bytes) (front ++ (written ++ back)) (omega (arith, length-whole))

  overwritten-read : slice_range (overwritten bytes offset written) offset (offset + length written) ≡ written
  overwritten-read =
      let rest : drop offset (front ++ (written ++ back)) ≡ written ++ back =
      subst (λ n. drop n (front ++ (written ++ back)) ≡ written ++ back) length-front
      (drop-append_seam front (written ++ back)) in
      let same : (offset + length written) - offset ≡ length written = omega arith in
      ap (λ xs. slice_range xs offset (offset + length written)) overwritten-whole
      ∙ ap (λ n. take n (drop offset (front ++ (written ++ back)))) same
      ∙ ap (take (length written)) rest
      ∙ take-append_seam written back

entry_there : {T : Type 0} (at : Option (Entry T)) (value : T) →
    option_map (λ (entry : Entry T). entry.value) at ≡ Some value → IsSomeAnd at (λ entry. Unit {0})
entry_there None value is = absurd (none-some value is)
entry_there (Some entry) value is = tt

module _ {A : Type 0} (contents : Contents (Segment A)) (slots : Slots) (number offset : ℕ) (written : List ℕ) where
  abbrev later : Contents (Segment A)
  later = with_written with_bytes contents (id_at_slot slots number) offset written

  written_here : (id : ℕ) (was : Segment A) → value_of contents id ≡ Some was →
      value_of (with_written with_bytes contents id offset written) id ≡ Some (with_bytes was offset written)
  written_here id was at =
      ap (λ found. value_of (with_written_in with_bytes contents id offset written found) id) at
      ∙ value-with_value contents id (with_bytes was offset written) (λ entry. Unit {0})
      (entry_there (entry_of contents id) was at)

  -- what is known of the segment in which bytes were written, from what it was
  of_written : (was fact : Segment A → Type 0) →
      ((segment : Segment A) → was segment → fact (with_bytes segment offset written)) →
      OfSegment contents slots number was → OfSegment later slots number fact
  of_written was fact then = by_slot (segment_at slots number)
    where
      by_value : (id : ℕ) (found : Option (Segment A)) → value_of contents id ≡ found → IsSomeAnd found was →
          OfValue (with_written with_bytes contents id offset written) id fact
      by_value id None at holds = absurd holds
      by_value id (Some segment) at holds =
          subst (λ found. IsSomeAnd found fact) (sym (written_here id segment at)) (then segment holds)

      by_slot : (slot : Option HeldSegment) → IsSomeAnd slot (λ held. OfValue contents held.handle.id was) →
          IsSomeAnd slot (λ held.
          OfValue (with_written with_bytes contents (id_in slot) offset written) held.handle.id fact)
      by_slot None holds = absurd holds
      by_slot (Some held) holds = by_value held.handle.id (value_of contents held.handle.id) refl holds

  -- they are there
  pub written_there : OfSegment contents slots number (λ segment. IsInPayload segment.payload offset (length written)) →
      OfSegment later slots number
      (λ segment. slice_range segment.payload offset (offset + length written) ≡ written)
  written_there = of_written (λ segment. IsInPayload segment.payload offset (length written))
      (λ segment. slice_range segment.payload offset (offset + length written) ≡ written)
      (λ segment fits. overwritten-read segment.payload written offset fits)

-- ---- a registry with one holder more

pub value_of-after_opening : {T : Type 0} (contents : Contents T) (id other : ℕ) →
    value_of (after_opening contents id) other ≡ value_of contents other
value_of-after_opening {T = T} contents id other = elim (cases_eq other id) [
  | inl same ↦ subst (λ i. value_of (after_opening contents id) i ≡ value_of contents i) (sym same) here
  | inr apart ↦
      let changes = after_opening-ChangesEntry contents id in
      ap (option_map (λ (entry : Entry T). entry.value)) (changes.others other apart)
]
  where
    value_more : (at : Option (Entry T)) → option_map (λ (entry : Entry T). entry.value) (option_map one_holder_more at)
        ≡ option_map (λ (entry : Entry T). entry.value) at
    value_more None = refl
    value_more (Some entry) = refl

    here : value_of (after_opening contents id) id ≡ value_of contents id
    here =
        let changes = after_opening-ChangesEntry contents id in
        ap (option_map (λ (entry : Entry T). entry.value)) changes.entry ∙ value_more (entry_of contents id)

pub segment_value-after_opening : {T : Type 0} (contents : Contents T) (id : ℕ) (slots : Slots) (number : ℕ) →
    segment_value (after_opening contents id) slots number ≡ segment_value contents slots number
segment_value-after_opening contents id slots number = by_slot (segment_at slots number)
  where
    by_slot : (slot : Option HeldSegment) → value_in (after_opening contents id) slot ≡ value_in contents slot
    by_slot None = refl
    by_slot (Some held) = value_of-after_opening contents id held.handle.id

-- ---- a view that maps no segment

pub none_counted : (slots : Slots) → slots ≡ empty_slots 256 → (number : ℕ) → count_at slots number ≡ 0
none_counted slots is number = ap (λ s. count_at s number) is ∙ ap count_in (segment_at-empty 256 number)

-- ---- an offset that has arrived

module _ (before after : Slots) (number : ℕ) (counted : count_at after number ≡ count_at before number + 1)
    (elsewhere : (n : ℕ) → n ≢ number → count_at after n ≡ count_at before n) where
  pub still_counted : (n : ℕ) → count_at before n ≤ count_at after n
  still_counted n = elim (cases_eq n number) [
    | inl same ↦ subst (λ m. count_at before m ≤ count_at after m) (sym same) (omega (arith, counted))
    | inr apart ↦ omega (arith, elsewhere n apart)
  ]

-- or has left
module _ (before after : Slots) (number : ℕ) (counted : count_at after number + 1 ≡ count_at before number)
    (elsewhere : (n : ℕ) → n ≢ number → count_at after n ≡ count_at before n) where
  pub fewer_counted : (n : ℕ) → count_at after n ≤ count_at before n
  fewer_counted n = elim (cases_eq n number) [
    | inl same ↦ subst (λ m. count_at after m ≤ count_at before m) (sym same) (omega (arith, counted))
    | inr apart ↦ omega (arith, elsewhere n apart)
  ]

-- a segment that is counted
pub registered_once : (slots : Slots) (number : ℕ) → 0 < count_at slots number →
    IsSomeAnd (segment_at slots number) (λ held. 0 < held.count)
registered_once slots number = by_slot (segment_at slots number)
  where
    by_slot : (slot : Option HeldSegment) → 0 < count_in slot → IsSomeAnd slot (λ held. 0 < held.count)
    by_slot None some = absurd (omega (arith, some))
    by_slot (Some held) some = some
