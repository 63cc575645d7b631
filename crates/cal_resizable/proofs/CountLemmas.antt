-- How often segments are counted after a change to the slots, and after the calls of a view.
use Rattle.std.proofs.Common.{◌≡◌, ◌≢◌, ℕ, zero, suc, ◌+◌, ◌<◌, ◌==◌, Bool, true, false, if◌then◌else◌, Option, Some, None, IsSome, is_some, [], ◌∷◌, refl, sym, ap, ◌∙◌, subst, inl, inr, arith, eqb-true}
use Rattle.std.specs.Option.{option_map, option_or, option_and_then}
use Rattle.std.proofs.lemmas.Bool.{cases_eq}
use Rattle.std.proofs.lemmas.Option.{none-some}
use Rattle.cal_shm.specs.Plan.{SegmentPlan, path_of}
use Rattle.cal_shm.specs.Refusals.{opening_error, size_refusal, open_refusal}
use Rattle.cal_shm.specs.Segment.{Segment}
use Rattle.cal_storage.specs.declared.dynamic_storage.errors.DynamicStorageOpenError.TheVariants as storage
use Rattle.cal_storage.specs.declared.entry.Entry.{Entry}
use Rattle.cal_storage.specs.Contents.{Contents, id_at, entry_of}
use Rattle.cal_storage.specs.Refusals.{is_too_long, entry_refusal}
use Rattle.cal_resizable.specs.Slots.{Slots, HeldSegment, segment_at, with_more, with_less, counted_more, counted_less, count_in, count_at, without_unused, without_segment}
use Rattle.cal_resizable.specs.View.{View, IsView, segment_path, segment_plan, without_unused_of, with_found, leaving_of, mapping, registering, unregistering, view_after_arrival, arrival_refusal}
use Rattle.cal_resizable.proofs.KeepingLemmas.{less_at}
use Rattle.cal_resizable.proofs.MemoryLemmas.{some_is}
use Rattle.cal_resizable.proofs.SlotLemmas.{segment_at-set-same, segment_at-set-other, within_slots}
use Rattle.cal_resizable.proofs.ViewSlotLemmas.{fresh, mapped-here}

-- ---- slots without an unused segment

set_none : (slots : Slots) (number : ℕ) → segment_at (without_segment slots number) number ≡ None
set_none [] number = refl
set_none (slot ∷ slots) zero = refl
set_none (slot ∷ slots) (suc number) = set_none slots number

module _ (slots : Slots) (number : ℕ) where
  no_count : (n : ℕ) → n ≡ number → (count_at slots number == 0) ≡ true → count_at slots n ≡ 0
  no_count n same none = ap (count_at slots) same ∙ eqb-true (count_at slots number) 0 none

  -- each segment is as often counted as before
  pub count-without_unused : (n : ℕ) → count_at (without_unused slots number) n ≡ count_at slots n
  count-without_unused n = by_test (count_at slots number == 0) refl
    where
      by_test : (test : Bool) → (count_at slots number == 0) ≡ test →
          count_at (if test then without_segment slots number else slots) n ≡ count_at slots n
      by_test true none = elim (cases_eq n number) [
        | inl same ↦
            ap (count_at (without_segment slots number)) same ∙ ap count_in (set_none slots number)
            ∙ sym (no_count n same none)
        | inr apart ↦ ap count_in (segment_at-set-other slots number None n apart)
      ]
      by_test false some = refl

  -- and one that is counted is still held
  pub counted-without_unused : (n : ℕ) → 0 < count_at slots n →
      segment_at (without_unused slots number) n ≡ segment_at slots n
  counted-without_unused n counted = by_test (count_at slots number == 0) refl
    where
      by_test : (test : Bool) → (count_at slots number == 0) ≡ test →
          segment_at (if test then without_segment slots number else slots) n ≡ segment_at slots n
      by_test true none = elim (cases_eq n number) [
        | inl same ↦ absurd (omega (arith, counted, no_count n same none))
        | inr apart ↦ segment_at-set-other slots number None n apart
      ]
      by_test false some = refl

module _ (slots : Slots) where
  pub count-without_unused_of : (retired : Option ℕ) (n : ℕ) →
      count_at (without_unused_of slots retired) n ≡ count_at slots n
  count-without_unused_of None n = refl
  count-without_unused_of (Some number) n = count-without_unused slots number n

-- ---- slots with a segment that is counted once more, or once less

module _ (slots : Slots) (number : ℕ) where
  pub count-with_more-other : (n : ℕ) → n ≢ number → count_at (with_more slots number) n ≡ count_at slots n
  count-with_more-other n apart =
      ap count_in (segment_at-set-other slots number (counted_more (segment_at slots number)) n apart)

  pub count-with_less-other : (n : ℕ) → n ≢ number → count_at (with_less slots number) n ≡ count_at slots n
  count-with_less-other n apart =
      ap count_in (segment_at-set-other slots number (counted_less (segment_at slots number)) n apart)

  module _ (held : HeldSegment) (at : segment_at slots number ≡ Some held) where
    pub count-with_more : count_at (with_more slots number) number ≡ count_at slots number + 1
    count-with_more =
        ap count_in (segment_at-set-same slots number (counted_more (segment_at slots number))
        (within_slots slots number held at) ∙ ap counted_more at)
        ∙ sym (ap (λ slot. count_in slot + 1) at)

    pub count-with_less : 0 < held.count → count_at (with_less slots number) number + 1 ≡ count_at slots number
    count-with_less some = omega (arith, some, ap count_in (less_at slots number held at), ap count_in at)

-- ---- the calls of a view

-- what is opened was found
found-opened : {A : Type 0} (checks : Bool) (contents : Contents (Segment A)) (plan : SegmentPlan) →
    open_refusal checks contents plan ≡ None → IsSome (id_at contents (path_of plan))
found-opened {A = A} checks contents plan =
    from (is_too_long plan.settings plan.name) (id_at contents (path_of plan))
  where
    from : (long : Bool) (found : Option ℕ) →
        option_or (option_map opening_error (if long then Some storage.PathTooLong
        else entry_refusal checks (option_and_then (entry_of contents) found)))
        (size_refusal plan.options.size (option_map (λ (e : Entry (Segment A)). e.value)
        (option_and_then (entry_of contents) found))) ≡ None → IsSome found
    from true None opens = absurd (none-some _ (sym opens))
    from false None opens = absurd (none-some _ (sym opens))
    from long (Some id) opens = refl

module _ {T : Type 0} (contents : Contents T) (view : View) (number : ℕ) where
  -- where the segment is mapped, or was found
  pub count-arrived : IsView view → number < 256 →
      (segment_at view.slots number ≡ None → IsSome (id_at contents (segment_path view number))) →
      count_at (view_after_arrival contents view number).slots number ≡ count_at view.slots number + 1
  count-arrived is small found = by_slot (segment_at view.slots number) refl
    where
      opened : (id : ℕ) → segment_at view.slots number ≡ None →
          count_at (registering (mapping view number (Some id)) number).slots number ≡ count_at view.slots number + 1
      opened id unmapped =
          count-with_more (without_unused_of (with_found view number id) view.current) number
          (fresh view is number id unmapped small) (mapped-here view is number id unmapped small)
          ∙ ap (λ n. n + 1) (ap count_in (mapped-here view is number id unmapped small) ∙ sym (ap count_in unmapped))

      by_slot : (slot : Option HeldSegment) → segment_at view.slots number ≡ slot →
          count_at (if is_some slot then registering view number
          else registering (mapping view number (id_at contents (segment_path view number))) number).slots number
          ≡ count_at view.slots number + 1
      by_slot (Some held) at = count-with_more view.slots number held at
      by_slot None at =
          let id = some_is (id_at contents (segment_path view number)) (found at) in
          ap (λ o. count_at (registering (mapping view number o) number).slots number) id.1 ∙ opened id.0 at

  pub count-arrived-other : (other : ℕ) → other ≢ number →
      count_at (view_after_arrival contents view number).slots other ≡ count_at view.slots other
  count-arrived-other other apart = by_slot (segment_at view.slots number)
    where
      mapped : (found : Option ℕ) → count_at (mapping view number found).slots other ≡ count_at view.slots other
      mapped None = refl
      mapped (Some id) =
          count-without_unused_of (with_found view number id) view.current other
          ∙ ap count_in (segment_at-set-other view.slots number _ other apart)

      by_slot : (slot : Option HeldSegment) →
          count_at (if is_some slot then registering view number
          else registering (mapping view number (id_at contents (segment_path view number))) number).slots other
          ≡ count_at view.slots other
      by_slot (Some held) = count-with_more-other view.slots number other apart
      by_slot None =
          count-with_more-other (mapping view number (id_at contents (segment_path view number))).slots number other
          apart
          ∙ mapped (id_at contents (segment_path view number))

pub found-arrived : {A : Type 0} (checks : Bool) (contents : Contents (Segment A)) (view : View) (number : ℕ) →
    arrival_refusal checks contents view number ≡ None → segment_at view.slots number ≡ None →
    IsSome (id_at contents (segment_path view number))
found-arrived checks contents view number not_refused unmapped =
    found-opened checks contents (segment_plan view number)
    (subst (λ slot. (if is_some slot then None else open_refusal checks contents (segment_plan view number)) ≡ None)
    unmapped not_refused)

module _ (view : View) (number : ℕ) where
  pub count-returned : (held : HeldSegment) → segment_at view.slots number ≡ Some held → 0 < held.count →
      count_at (unregistering view number).slots number + 1 ≡ count_at view.slots number
  count-returned held at some =
      ap (λ n. n + 1) (count-without_unused_of (with_less view.slots number) (leaving_of view.current number) number)
      ∙ count-with_less view.slots number held at some

  pub count-returned-other : (other : ℕ) → other ≢ number →
      count_at (unregistering view number).slots other ≡ count_at view.slots other
  count-returned-other other apart =
      count-without_unused_of (with_less view.slots number) (leaving_of view.current number) other
      ∙ count-with_less-other view.slots number other apart
