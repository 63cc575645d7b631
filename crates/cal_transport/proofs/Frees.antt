-- What a memory's segments are after a bucket was given back, as its calls say it.
use Rattle.std.proofs.Common.{ℕ, ◌-◌, ◌/◌, ◌<◌, ◌≡◌, Bool, true, false, cond, ◌||◌, nat_eq, nat_lt, length, Some, None, is_some, inl, inr, refl, sym, ap, ◌∙◌, subst, arith}
use Rattle.std.proofs.lemmas.Bool.{cases_lt, eq-eqb, ne_eqb, ltb-true, ltb-false}
use Rattle.std.proofs.lemmas.List.{get_or-set_same, get_or_past, length-set}
use Rattle.std.proofs.lemmas.Option.{none-some}
use Rattle.cal_alloc.specs.Pool.{Pool, with_mark, FreesBucket}
use Rattle.cal_alloc.specs.PointerOffset.{offset_of, segment_of, pointer_offset}
use Rattle.cal_storage.specs.Contents.{Contents}
use Rattle.cal_shm.specs.Segment.{Segment}
use Rattle.cal_resizable.specs.Chunks.{segment_value, value_in, ReturnsChunk}
use Rattle.cal_resizable.specs.Growth.{after_return}
use Rattle.cal_resizable.specs.Memory.{MemoryState}
use Rattle.cal_resizable.specs.Slots.{Slots, HeldSegment, segment_at, count_in, count_at, counted_less, with_less, without_segment, without_unused}
use Rattle.cal_resizable.specs.Together.{AreTogether}
use Rattle.cal_resizable.specs.View.{View}
use Rattle.cal_transport.specs.Core.{ActiveSegment, given_back}
use Rattle.cal_transport.specs.State.{active_of, active_at}
use Rattle.cal_transport.specs.Sharing.{FreesUnless}

within_slots : (slots : Slots) (number : ℕ) (held : HeldSegment) → segment_at slots number ≡ Some held →
    number < length slots
within_slots slots number held there = elim (cases_lt number (length slots)) [
  | inl below ↦ below
  | inr past ↦ absurd (none-some held (sym (get_or_past slots number None past) ∙ there))
]

module _ (old new : Contents (Segment Pool)) (before after : MemoryState) (view : View) (pointer : ℕ)
    (held : HeldSegment) (there : segment_at before.slots (segment_of pointer) ≡ Some held)
    (returned : ReturnsChunk (λ was is. FreesBucket was (pointer_offset (offset_of pointer) 0) is) old before.slots
    (segment_of pointer) new after.slots)
    (memory_is : after ≡ after_return before (segment_of pointer)) (together : AreTogether new after view) where
  abbrev n : ℕ
  n = segment_of pointer

  abbrev less : Slots
  less = with_less before.slots n

  abbrev bucket : ℕ
  bucket = offset_of pointer / returned.was.allocator.buckets.size

  abbrev one_less : HeldSegment
  one_less = record held { count = held.count - 1 }

  abbrev freed : ActiveSegment
  freed = record {
    pool = with_mark returned.was.allocator bucket false;
    payload = returned.was.payload;
    chunks = held.count - 1;
  }

  within : n < length before.slots
  within = within_slots before.slots n held there

  less_slot : segment_at less n ≡ Some one_less
  less_slot = get_or-set_same before.slots n (counted_less (segment_at before.slots n)) None within
      ∙ ap counted_less there

  slots_are : (b : Bool) → nat_eq n before.current ≡ b → after.slots ≡ cond b less (without_unused less n)
  slots_are b e = ap (λ (m : MemoryState). m.slots) memory_is ∙ ap (λ c. cond c less (without_unused less n)) e

  left_is : returned.left ≡ with_mark returned.was.allocator bucket false
  left_is = returned.change.after
      ∙ ap (λ m. with_mark returned.was.allocator (m / returned.was.allocator.buckets.size) false)
      (let back : offset_of (pointer_offset (offset_of pointer) 0) ≡ offset_of pointer = omega arith in back)

  -- the segment stays, or goes
  stays : segment_at after.slots n ≡ Some one_less → active_at new after.slots n ≡ Some freed
  stays slot =
      ap (λ o. active_of o (count_at after.slots n)) (returned.still (ap is_some slot))
      ∙ ap (λ o. active_of (Some (record returned.was { allocator = returned.left })) (count_in o)) slot
      ∙ ap (λ p. active_of (Some (record returned.was { allocator = p })) (held.count - 1)) left_is

  goes : segment_at after.slots n ≡ None → active_at new after.slots n ≡ None
  goes slot = ap (λ o. active_of (value_in new o) (count_in o)) slot

  kept_or_gone : given_back (nat_eq n before.current) bucket (active_at old before.slots n)
      ≡ cond (nat_eq n before.current || nat_lt 0 (held.count - 1)) (Some freed) None
  kept_or_gone =
      ap (λ o. given_back (nat_eq n before.current) bucket (active_of o (count_at before.slots n))) returned.origin
      ∙ ap (λ o. given_back (nat_eq n before.current) bucket (active_of (Some returned.was) (count_in o))) there

  unused_slot : (b : Bool) → nat_eq (held.count - 1) 0 ≡ b → nat_eq n before.current ≡ false →
      segment_at after.slots n ≡ segment_at (cond b (without_segment less n) less) n
  unused_slot b e other =
      ap (λ s. segment_at s n) (slots_are false other)
      ∙ ap (λ o. segment_at (cond (nat_eq (count_in o) 0) (without_segment less n) less) n) less_slot
      ∙ ap (λ c. segment_at (cond c (without_segment less n) less) n) e

  by_count : nat_eq n before.current ≡ false → (b : Bool) → nat_lt 0 (held.count - 1) ≡ b →
      active_at new after.slots n ≡ cond b (Some freed) None
  by_count other true e =
      let some = ltb-true 0 (held.count - 1) e in
      stays (unused_slot false (ne_eqb (held.count - 1) 0 (λ none. omega arith)) other ∙ less_slot)
  by_count other false e =
      let none = ltb-false 0 (held.count - 1) e in
      goes (unused_slot true (eq-eqb (held.count - 1) 0 (omega arith)) other
      ∙ get_or-set_same less n None None (subst (λ m. n < m)
      (sym (length-set before.slots n (counted_less (segment_at before.slots n)))) within))

  by_current : (b : Bool) → nat_eq n before.current ≡ b →
      active_at new after.slots n ≡ cond (b || nat_lt 0 (held.count - 1)) (Some freed) None
  by_current true e = stays (ap (λ s. segment_at s n) (slots_are true e) ∙ less_slot)
  by_current false e = by_count e (nat_lt 0 (held.count - 1)) refl

  pub frees : FreesUnless false view old before n bucket new after
  frees = record {
    together = together;
    current = ap (λ (m : MemoryState). m.current) memory_is;
    strategy = ap (λ (m : MemoryState). m.strategy) memory_is;
    others = λ other apart.
        ap (λ o. active_of o (count_at after.slots other)) (returned.others.values other apart)
        ∙ ap (λ o. active_of (segment_value old before.slots other) (count_in o)) (returned.others.slots other apart);
    here = by_current (nat_eq n before.current) refl ∙ sym kept_or_gone;
  }

pub frees_none : (contents : Contents (Segment Pool)) (memory : MemoryState) (view : View) (number bucket : ℕ) →
    AreTogether contents memory view → FreesUnless true view contents memory number bucket contents memory
frees_none contents memory view number place together = record {
  together = together;
  current = refl;
  strategy = refl;
  others = λ other apart. refl;
  here = refl;
}
