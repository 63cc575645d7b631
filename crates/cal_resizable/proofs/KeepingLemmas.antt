-- What calls leave of the entries of a growing memory.
use Rattle.std.proofs.Common.{◌≡◌, ◌≢◌, ℕ, ◌+◌, ◌-◌, ◌<◌, ◌⊎◌, ◌==◌, Bool, true, false, if◌then◌else◌, Option, Some, None, IsSomeAnd, option_map, length, slice_set, refl, sym, ap, ◌∙◌, subst, inl, inr, arith, true≢false, eqb-true, eq-eqb}
use Rattle.std.proofs.lemmas.List.{length-set}
use Rattle.std.proofs.lemmas.Option.{none-some, same_Some}
use Rattle.cal_alloc.specs.PointerOffset.{pointer_offset, offset_of}
use Rattle.cal_alloc.specs.SizeAndAlignment.{SizeAndAlignment}
use Rattle.cal_alloc.specs.declared.shm_allocator.ShmAllocator as allocator
use Rattle.cal_storage.specs.Contents.{Contents, Has}
use Rattle.cal_storage.specs.Holding.{Holds, IsNamed}
use Rattle.cal_shm.specs.Calls.{ChangesAllocator}
use Rattle.cal_shm.specs.Segment.{Segment, with_allocator}
use Rattle.cal_resizable.specs.Growth.{AllocatesHere, TakesBack, after_return, returned_contents}
use Rattle.cal_resizable.specs.Memory.{MemoryState, IsSoundMemory, HasAll, KeepsOwn}
use Rattle.cal_resizable.specs.Slots.{Handle, Slots, HeldSegment, segment_at, with_more, with_less, counted_more, counted_less, count_in, count_at, without_unused, without_segment, AreApart, IsSpared, IsHeldId, EachHeld, EachHandle, LeavesHandle, SparesHandles}
use Rattle.cal_resizable.proofs.LeavingLemmas.{LeavesHandle-with_value, SparesHandles-after}
use Rattle.cal_resizable.proofs.MemoryLemmas.{WasHeld, IsKept, each_is_kept, AreApart-was_held, some_is, was_held-recounted, IsSoundMemory-recounted, IsSoundMemory-without}
use Rattle.cal_resizable.proofs.SlotLemmas.{segment_at-set-same, within_slots, set_twice}

-- the segment of a slot, by what was read there
pub held_is : (slot : Option HeldSegment) (handle : Handle) →
    option_map (λ (held : HeldSegment). held.handle) slot ≡ Some handle →
    (held : HeldSegment) × (slot ≡ Some held) × (held.handle ≡ handle)
held_is None handle is = absurd (none-some handle is)
held_is (Some held) handle is = (held, refl, same_Some held.handle handle is)

module _ {T : Type 0} (old new : Contents T) where
  -- what a registry has of a handle that was just made
  pub record IsNewHandle (handle : Handle) : Type 0 where
    pub has : Has new handle
    pub holds : Holds new 1 handle
    pub named : IsNamed new handle

  module _ (before after : MemoryState) where
    -- a segment was held by the same handle, which was left, or it is new
    abbrev pub Stays : ℕ → HeldSegment → Type 0
    Stays number held = (WasHeld before.slots number held × LeavesHandle old new held.handle) ⊎ IsNewHandle held.handle

    module _ (same : before.management ≡ after.management) (left : LeavesHandle old new before.management)
        (stays : EachHeld after.slots Stays) where
      each_stays : (P Q : Handle → Type 0) → ((handle : Handle) → LeavesHandle old new handle → P handle → Q handle) →
          ((handle : Handle) → IsNewHandle handle → Q handle) → EachHandle before.management before.slots P →
          EachHandle after.management after.slots Q
      each_stays P Q over first each = record {
        of_management = subst Q same (over before.management left each.of_management);
        of_segments = λ number held at. elim (stays number held at) [
          | inl was ↦ over held.handle was.1 (subst P was.0.same (each.of_segments number was.0.one was.0.there))
          | inr is ↦ first held.handle is
        ];
      }

      pub KeepsOwn-stays : HasAll old before → KeepsOwn old before new after
      KeepsOwn-stays has = record {
        has = each_stays (Has old) (Has new) (λ handle leaves. leaves.has) (λ handle is. is.has) has;
        holds = λ holds. each_stays (Holds old 1) (Holds new 1)
            (λ handle leaves h. leaves.holds 1 (omega arith) (omega arith) h) (λ handle is. is.holds) holds;
        names = λ names.
            each_stays (IsNamed old) (IsNamed new) (λ handle leaves. leaves.named) (λ handle is. is.named) names;
      }

  -- where every handle is left, and no segment is new
  pub KeepsOwn-leaves : (before after : MemoryState) → before.management ≡ after.management →
      EachHeld after.slots (WasHeld before.slots) → ((handle : Handle) → LeavesHandle old new handle) →
      HasAll old before → KeepsOwn old before new after
  KeepsOwn-leaves before after same was leaves has =
      KeepsOwn-stays before after same (leaves before.management)
      (λ number held at. inl (was number held at, leaves held.handle)) has

-- a call, and then another
pub KeepsOwn-then : {T : Type 0} (old mid new : Contents T) (before between after : MemoryState) →
    KeepsOwn old before mid between → KeepsOwn mid between new after → KeepsOwn old before new after
KeepsOwn-then old mid new before between after first second = record {
  has = second.has;
  holds = λ holds. second.holds (first.holds holds);
  names = λ names. second.names (first.names names);
}

-- ---- a chunk of a segment, more or less

module _ (slots : Slots) (number : ℕ) (held : HeldSegment) (at : segment_at slots number ≡ Some held) where
  pub with_more-is : with_more slots number ≡ slice_set slots number (Some (record held { count = held.count + 1 }))
  with_more-is = ap (λ slot. slice_set slots number (counted_more slot)) at

  pub was_held-more : EachHeld (with_more slots number) (WasHeld slots)
  was_held-more =
      subst (λ s. EachHeld s (WasHeld slots)) (sym with_more-is) (was_held-recounted slots number held at
      (held.count + 1))

module _ (memory : MemoryState) (sound : IsSoundMemory memory) (slots : Slots)
    (more : slots ≡ with_more memory.slots memory.current) where
  current_held : (held : HeldSegment) × (segment_at memory.slots memory.current ≡ Some held)
  current_held = some_is (segment_at memory.slots memory.current) sound.current

  pub was_held-current : EachHeld slots (WasHeld memory.slots)
  was_held-current = let is = current_held in
      subst (λ s. EachHeld s (WasHeld memory.slots)) (sym more)
      (was_held-more memory.slots memory.current is.0 is.1)

  pub IsSoundMemory-more : IsSoundMemory (record memory { slots = slots })
  IsSoundMemory-more = let is = current_held in
      subst (λ s. IsSoundMemory (record memory { slots = s }))
      (sym (more ∙ with_more-is memory.slots memory.current is.0 is.1))
      (IsSoundMemory-recounted memory sound memory.current is.0 is.1 (is.0.count + 1) (λ apart. absurd (apart refl)))

-- ---- an allocator that has changed

module _ {A : Type 0} where
  pub LeavesHandle-ChangesAllocator : (old new : Contents (Segment A)) (id : ℕ) (Change : A → A → Type 0) →
      ChangesAllocator old id Change new → (handle : Handle) → LeavesHandle old new handle
  LeavesHandle-ChangesAllocator old new id Change changes handle =
      subst (λ contents. LeavesHandle old contents handle) (sym changes.after)
      (LeavesHandle-with_value old id (with_allocator changes.segment changes.allocator) handle)

module _ {A C : Type 0} (rules : allocator.Ghosts A C) (old new : Contents (Segment A)) (before : MemoryState)
    (layout : SizeAndAlignment) (chunk pointer : ℕ) (slots : Slots) (handle : Handle)
    (handle_is : option_map (λ (held : HeldSegment). held.handle) (segment_at before.slots before.current)
    ≡ Some handle)
    (given : ChangesAllocator old handle.id (λ was is. rules.Allocates was layout chunk is) new) where
  pub AllocatesHere-by : pointer ≡ pointer_offset (offset_of chunk) before.current →
      slots ≡ with_more before.slots before.current →
      AllocatesHere rules old before layout pointer new (record before { slots = slots })
  AllocatesHere-by carries more =
      let is = held_is (segment_at before.slots before.current) handle handle_is in
      record {
        chunk = chunk;
        held = is.0;
        is_current = is.1;
        given = subst (λ (h : Handle). ChangesAllocator old h.id (λ was is. rules.Allocates was layout chunk is) new)
            (sym is.2) given;
        carries = carries;
        counted = ap (λ s. record before { slots = s }) more;
      }

-- ---- a chunk that comes back

module _ (slots : Slots) (number : ℕ) (held : HeldSegment) (at : segment_at slots number ≡ Some held) where
  pub with_less-is : with_less slots number ≡ slice_set slots number (Some (record held { count = held.count - 1 }))
  with_less-is = ap (λ slot. slice_set slots number (counted_less slot)) at

  pub was_held-less : EachHeld (with_less slots number) (WasHeld slots)
  was_held-less =
      subst (λ s. EachHeld s (WasHeld slots)) (sym with_less-is) (was_held-recounted slots number held at
      (held.count - 1))

  pub length_less : length (with_less slots number) ≡ length slots
  length_less = length-set slots number (counted_less (segment_at slots number))

  pub less_at : segment_at (with_less slots number) number ≡ Some (record held { count = held.count - 1 })
  less_at = ap (λ s. segment_at s number) with_less-is
      ∙ segment_at-set-same slots number (Some (record held { count = held.count - 1 }))
      (within_slots slots number held at)

module _ (memory : MemoryState) (sound : IsSoundMemory memory) (number : ℕ) (held : HeldSegment)
    (at : segment_at memory.slots number ≡ Some held) where
  abbrev pub less : Slots
  less = with_less memory.slots number

  pub apart_less : AreApart less
  apart_less = AreApart-was_held memory.slots less (was_held-less memory.slots number held at) sound.apart

  pub within_less : number < length less
  within_less = omega (arith, length_less memory.slots number held at, within_slots memory.slots number held at)

  abbrev pub IsKeptThere : ℕ → HeldSegment → Type 0
  IsKeptThere = IsKept less number within_less apart_less

  pub kept_there : EachHeld (without_unused less number) IsKeptThere
  kept_there = each_is_kept less number within_less apart_less

  pub IsSoundMemory-return : 0 < held.count → IsSoundMemory (after_return memory number)
  IsSoundMemory-return some = by_test (number == memory.current) refl
    where
      by_count : number ≢ memory.current → (test : Bool) → (count_at less number == 0) ≡ test →
          IsSoundMemory (record memory { slots = if test then without_segment less number else less })
      by_count apart true none =
          subst (λ s. IsSoundMemory (record memory { slots = s }))
          (sym (set_twice memory.slots number (counted_less (segment_at memory.slots number)) None))
          (IsSoundMemory-without memory sound number held at apart)
      by_count apart false left =
          subst (λ s. IsSoundMemory (record memory { slots = s })) (sym (with_less-is memory.slots number held at))
          (IsSoundMemory-recounted memory sound number held at (held.count - 1)
          (λ _.
          let some_left : held.count - 1 ≢ 0 =
          λ none. true≢false (sym (ap (λ (n : ℕ). n == 0) (ap count_in (less_at memory.slots number held at) ∙ none))
          ∙ left) in omega arith))

      by_test : (test : Bool) → (number == memory.current) ≡ test →
          IsSoundMemory (record memory { slots = if test then less else without_unused less number })
      by_test true same =
          subst (λ s. IsSoundMemory (record memory { slots = s })) (sym (with_less-is memory.slots number held at))
          (IsSoundMemory-recounted memory sound number held at (held.count - 1)
          (λ apart. absurd (apart (eqb-true number memory.current same))))
      by_test false apart =
          by_count (λ same. true≢false (sym (eq-eqb number memory.current same) ∙ apart))
          (count_at less number == 0) refl

  module _ {T : Type 0} (freed new : Contents T) where
    -- which handles are left
    abbrev pub LeavesSpared : Type 0
    LeavesSpared =
        (handle : Handle) → (number ≢ memory.current → IsSpared (segment_at less number) handle) →
        LeavesHandle freed new handle

    pub each_stays_there : LeavesSpared → EachHeld (after_return memory number).slots
        (Stays freed new memory (after_return memory number))
    each_stays_there leaves other one = by_test (number == memory.current) refl
      where
        by_test : (test : Bool) → (number == memory.current) ≡ test →
            segment_at (if test then less else without_unused less number) other ≡ Some one →
            Stays freed new memory (after_return memory number) other one
        by_test true same is = inl (
          was_held-less memory.slots number held at other one is,
          leaves one.handle (λ apart. absurd (apart (eqb-true number memory.current same))),
        )
        by_test false apart is =
            let kept = kept_there other one is in
            inl (
              was_held-less memory.slots number held at other one kept.there,
              leaves one.handle (λ _. kept.spared),
            )

    pub KeepsOwn-return : LeavesSpared → HasAll freed memory → KeepsOwn freed memory new (after_return memory number)
    KeepsOwn-return leaves has =
        KeepsOwn-stays freed new memory (after_return memory number) refl
        (leaves memory.management (λ _ h h_at none same.
        let was = was_held-less memory.slots number held at number h h_at in
        let active = sound.active number was.one was.there in
        active.apart (ap (λ (s : Handle). s.id) was.same ∙ sym same)))
        (each_stays_there leaves) has

-- a slot that is counted
pub some_counted : (slot : Option HeldSegment) → 0 < count_in slot →
    (held : HeldSegment) × (slot ≡ Some held) × (0 < held.count)
some_counted None some = absurd (omega arith)
some_counted (Some held) some = (held, refl, some)

pub some_and : (P : HeldSegment → Type 0) (slot : Option HeldSegment) → IsSomeAnd slot P →
    (held : HeldSegment) × (slot ≡ Some held) × P held
some_and P None is = absurd is
some_and P (Some held) is = (held, refl, is)

module _ {T : Type 0} where
  pub EachHandle-leaves : (old new : Contents T) (management : Handle) (slots : Slots) →
      ((handle : Handle) → LeavesHandle old new handle) → EachHandle management slots (Has old) →
      EachHandle management slots (Has new)
  EachHandle-leaves old new management slots leaves has = record {
    of_management = let left = leaves management in left.has has.of_management;
    of_segments = λ number held at. let left = leaves held.handle in left.has (has.of_segments number held at);
  }

  pub has_segment : (contents : Contents T) (management : Handle) (slots : Slots) →
      EachHandle management slots (Has contents) → (number : ℕ) (handle : Handle) →
      option_map (λ (held : HeldSegment). held.handle) (segment_at slots number) ≡ Some handle →
      IsSomeAnd (segment_at slots number) (λ held. Has contents held.handle)
  has_segment contents management slots has number handle is =
      let held = held_is (segment_at slots number) handle is in
      subst (λ slot. IsSomeAnd slot (λ h. Has contents h.handle)) (sym held.1) (has.of_segments number held.0 held.1)

  -- of the handles on what was held before no more are lost
  pub SparesHandles-was_held : (old new : Contents T) (before between after : Slots) →
      EachHeld between (WasHeld before) → SparesHandles old new between after → SparesHandles old new before after
  SparesHandles-was_held old new before between after was spares = record {
    others = λ handle stays. spares.others handle (λ held_id.
        let one = was held_id.number held_id.held held_id.there in
        stays (record {
          number = held_id.number;
          held = one.one;
          there = one.there;
          same = ap (λ (h : Handle). h.id) one.same ∙ held_id.same;
        }));
    sharers = spares.sharers;
  }

module _ {A : Type 0} (Change : A → A → Type 0) (old freed new : Contents (Segment A)) (memory : MemoryState)
    (sound : IsSoundMemory memory) (number : ℕ) (slots : Slots) (some : 0 < count_at memory.slots number)
    (slots_is : slots ≡ (if number == memory.current then with_less memory.slots number
    else without_unused (with_less memory.slots number) number)) where
  abbrev pub after_it : MemoryState
  after_it = record memory { slots = slots }

  returned : (held : HeldSegment) × (segment_at memory.slots number ≡ Some held) × (0 < held.count)
  returned = some_counted (segment_at memory.slots number) some

  is_after_return : after_return memory number ≡ after_it
  is_after_return = ap (λ s. record memory { slots = s }) (sym slots_is)

  pub IsSoundMemory-returned : IsSoundMemory after_it
  IsSoundMemory-returned = let is = returned in
      subst IsSoundMemory is_after_return (IsSoundMemory-return memory sound number is.0 is.1 is.2)

  module _ (handle : Handle)
      (handle_is : option_map (λ (held : HeldSegment). held.handle) (segment_at memory.slots number) ≡ Some handle)
      (change : ChangesAllocator old handle.id Change freed) where
    pub TakesBack-by : new ≡ returned_contents freed memory number → TakesBack Change old memory number new after_it
    TakesBack-by registry =
        let is = held_is (segment_at memory.slots number) handle handle_is in
        record {
          freed = freed;
          held = is.0;
          there = is.1;
          change = subst (λ (h : Handle). ChangesAllocator old h.id Change freed) (sym is.2) change;
          registry = registry;
          memory = sym is_after_return;
        }

    left_by_change : (h : Handle) → LeavesHandle old freed h
    left_by_change = LeavesHandle-ChangesAllocator old freed handle.id Change change

    pub KeepsOwn-returned : ((h : Handle) →
        (number ≢ memory.current → IsSpared (segment_at (with_less memory.slots number) number) h) →
        LeavesHandle freed new h) → HasAll old memory → KeepsOwn old memory new after_it
    KeepsOwn-returned leaves has =
        let is = returned in
        subst (KeepsOwn old memory new) is_after_return
        (KeepsOwn-then old freed new memory memory (after_return memory number)
        (KeepsOwn-leaves old freed memory memory refl
        (λ n h at. record { one = h; there = at; same = refl }) left_by_change has)
        (KeepsOwn-return memory sound number is.0 is.1 freed new leaves
        (EachHandle-leaves old freed memory.management memory.slots left_by_change has)))

    pub SparesHandles-returned : (AreApart memory.slots → SparesHandles freed new memory.slots slots) →
        SparesHandles old new memory.slots slots
    SparesHandles-returned spares =
        SparesHandles-after old freed new memory.slots slots left_by_change (spares sound.apart)

-- a segment that is held after a chunk was handed out was held before
pub still_held : {A C : Type 0} (rules : allocator.Ghosts A C) (old new : Contents (Segment A))
    (before after : MemoryState) (layout : SizeAndAlignment) (pointer : ℕ) →
    AllocatesHere rules old before layout pointer new after → (id : ℕ) → IsHeldId after.slots id →
    IsHeldId before.slots id
still_held rules old new before after layout pointer here id is =
    let at : segment_at (with_more before.slots before.current) is.number ≡ Some is.held =
    ap (λ (m : MemoryState). segment_at m.slots is.number) (sym here.counted) ∙ is.there in
    let was = was_held-more before.slots before.current here.held here.is_current is.number is.held at in
    record {
      number = is.number;
      held = was.one;
      there = was.there;
      same = ap (λ (h : Handle). h.id) was.same ∙ is.same;
    }
