-- Which segment a call of a growing memory changes.
use Rattle.std.proofs.Common.{◌≡◌, ◌≢◌, ℕ, ◌+◌, ◌-◌, ◌<◌, ◌==◌, Bool, true, false, if◌then◌else◌, Option, Some, None, IsSome, IsSomeAnd, List, length, slice_set, option_map, refl, sym, ap, ◌∙◌, subst, arith, eqb-true}
use Rattle.std.proofs.lemmas.Bool.{false≢true}
use Rattle.std.proofs.lemmas.Option.{none-some}
use Rattle.cal_alloc.specs.Chunks.{IsAllocation, chunk_size}
use Rattle.cal_alloc.specs.PointerOffset.{pointer_offset, offset_of, segment_of}
use Rattle.cal_alloc.specs.SizeAndAlignment.{SizeAndAlignment}
use Rattle.cal_alloc.specs.declared.shm_allocator.ShmAllocator as shm_allocator
use Rattle.cal_storage.specs.declared.entry.Entry.{Entry}
use Rattle.cal_storage.specs.Contents.{Contents, value_of, after_creation, after_close}
use Rattle.cal_storage.specs.EntryLemmas.{after_creation-LeavesOthers, after_creation-MakesEntry}
use Rattle.cal_storage.specs.ValueLemmas.{entry_of-after_close-other, value_of-with_value-same, value_of-with_value-other}
use Rattle.cal_shm.specs.Calls.{IsInPayload, IsChunkWithin}
use Rattle.cal_shm.specs.Segment.{Segment, with_allocator}
use Rattle.cal_resizable.specs.Chunks.{value_in, segment_value, LeavesSegments, GrowsTo, GivesChunk, ReturnsChunk}
use Rattle.cal_resizable.specs.Growth.{OfSegment, AllocatesHere, TakesBack, after_return, next_handle, grown_memory}
use Rattle.cal_resizable.specs.Memory.{MemoryState, IsSoundMemory, HasAll, segment_path}
use Rattle.cal_resizable.specs.Slots.{Handle, Slots, HeldSegment, segment_at, with_less, counted_more, counted_less, count_in, count_at, without_unused, without_segment, with_segment, after_retiring, IsSpared}
use Rattle.cal_resizable.proofs.ChunkLemmas.{offset_back, segment_back, in_first}
use Rattle.cal_resizable.proofs.GrowthLemmas.{not_new, value_of-after_retiring}
use Rattle.cal_resizable.proofs.KeepingLemmas.{less_at}
use Rattle.cal_resizable.proofs.MemoryLemmas.{kept_here, length_kept_here}
use Rattle.cal_resizable.proofs.SlotLemmas.{segment_at-set-same, segment_at-set-other, within_slots, set_twice}

-- what is known of the segment of a number, by its value
pub of_value : {T : Type 0} (contents : Contents T) (slots : Slots) (number : ℕ) (fact : T → Type 0) (value : T) →
    OfSegment contents slots number fact → segment_value contents slots number ≡ Some value → fact value
of_value contents slots number fact value holds is = from (segment_at slots number) holds is
  where
    from : (slot : Option HeldSegment) → IsSomeAnd slot (λ held. IsSomeAnd (value_of contents held.handle.id) fact) →
        value_in contents slot ≡ Some value → fact value
    from None holds is = absurd holds
    from (Some held) holds is = subst (λ o. IsSomeAnd o fact) is holds

pub value_of-segment : {T : Type 0} (contents : Contents T) (slots : Slots) (number : ℕ) (fact : T → Type 0)
    (value : T) → segment_value contents slots number ≡ Some value → fact value → OfSegment contents slots number fact
value_of-segment contents slots number fact value is holds = from (segment_at slots number) is
  where
    from : (slot : Option HeldSegment) → value_in contents slot ≡ Some value →
        IsSomeAnd slot (λ held. IsSomeAnd (value_of contents held.handle.id) fact)
    from None is = absurd (none-some value is)
    from (Some held) is = subst (λ o. IsSomeAnd o fact) (sym is) holds

-- where one slot has changed, and no value of a segment under another number
module _ {T : Type 0} (old new : Contents T) (before : Slots) (number : ℕ) (slot : Option HeldSegment)
    (same : (other : ℕ) (held : HeldSegment) → other ≢ number → segment_at before other ≡ Some held →
    value_of new held.handle.id ≡ value_of old held.handle.id) (after : Slots)
    (is : after ≡ slice_set before number slot) where
  there : (other : ℕ) → other ≢ number → segment_at after other ≡ segment_at before other
  there other apart = ap (λ s. segment_at s other) is ∙ segment_at-set-other before number slot other apart

  value_there : (other : ℕ) → other ≢ number → (at : Option HeldSegment) → segment_at before other ≡ at →
      value_in new at ≡ value_in old at
  value_there other apart None at_is = refl
  value_there other apart (Some held) at_is = same other held apart at_is

  pub LeavesSegments-set : LeavesSegments old before number new after
  LeavesSegments-set = record {
    slots = there;
    values = λ other apart.
        ap (value_in new) (there other apart) ∙ value_there other apart (segment_at before other) refl;
  }

-- ---- a chunk is handed out

module _ {A C : Type 0} (rules : shm_allocator.Ghosts A C) (allocation : (old : A) (layout : SizeAndAlignment)
    (pointer : ℕ) (new : A) → rules.Allocates old layout pointer new →
    IsAllocation (rules.properties old) (rules.properties new) (rules.IsByteUsed old) (rules.IsByteUsed new)
    (rules.IsAllocated old) (rules.IsAllocated new) (rules.IsPadding old pointer) layout pointer)
    (old new : Contents (Segment A)) (before after : MemoryState) (layout : SizeAndAlignment) (pointer : ℕ)
    (sound : IsSoundMemory before) (has : HasAll old before)
    (here : AllocatesHere rules old before layout pointer new after)
    (fits : OfSegment new after.slots (segment_of pointer)
    (λ segment. IsChunkWithin rules.properties segment layout pointer)) where
  abbrev number : ℕ
  number = before.current

  abbrev slot : Option HeldSegment
  slot = counted_more (segment_at before.slots number)

  abbrev segment : Segment A
  segment = here.given.segment

  abbrev left : A
  left = here.given.allocator

  law : IsAllocation (rules.properties segment.allocator) (rules.properties left) (rules.IsByteUsed segment.allocator)
      (rules.IsByteUsed left) (rules.IsAllocated segment.allocator) (rules.IsAllocated left)
      (rules.IsPadding segment.allocator here.chunk) layout here.chunk
  law = allocation segment.allocator layout here.chunk left here.given.change

  same_offset : offset_of pointer ≡ offset_of here.chunk
  same_offset = ap offset_of here.carries ∙ offset_back (offset_of here.chunk) number sound.below

  carries : segment_of pointer ≡ number
  carries = ap segment_of here.carries ∙ segment_back (offset_of here.chunk) number sound.below

  in_segment : here.chunk ≡ pointer_offset (offset_of pointer) 0
  in_segment = in_first here.chunk law.segment ∙ ap (λ offset. pointer_offset offset 0) (sym same_offset)

  slots_are : after.slots ≡ slice_set before.slots number slot
  slots_are = ap (λ (m : MemoryState). m.slots) here.counted

  inside : number < length before.slots
  inside = within_slots before.slots number here.held here.is_current

  new_slot : segment_at after.slots number ≡ Some (record here.held { count = here.held.count + 1 })
  new_slot =
      ap (λ s. segment_at s number) slots_are ∙ segment_at-set-same before.slots number slot inside
      ∙ ap counted_more here.is_current

  new_value : value_of new here.held.handle.id ≡ Some (with_allocator segment left)
  new_value =
      ap (λ contents. value_of contents here.held.handle.id) here.given.after
      ∙ value_of-with_value-same old here.held.handle.id (with_allocator segment left) here.held.handle refl
      (has.of_segments number here.held here.is_current)

  becomes : segment_value new after.slots number ≡ Some (with_allocator segment left)
  becomes = ap (value_in new) new_slot ∙ new_value

  fits_before : IsChunkWithin rules.properties segment layout pointer
  fits_before =
      subst (λ p. IsInPayload segment.payload (offset_of pointer) (chunk_size p layout)) law.properties
      (of_value new after.slots (segment_of pointer) (λ s. IsChunkWithin rules.properties s layout pointer)
      (with_allocator segment left) fits (ap (segment_value new after.slots) carries ∙ becomes))

  pub GivesChunk-here : GivesChunk rules old before.slots before.current layout pointer new after.slots
  GivesChunk-here = record {
    was = segment;
    left = left;
    origin = ap (value_in old) here.is_current ∙ here.given.was;
    given = subst (λ p. rules.Allocates segment.allocator layout p left) in_segment here.given.change;
    within = fits_before;
    carries = carries;
    becomes = becomes;
    one_more = ap count_in new_slot ∙ ap (λ s. count_in s + 1) (sym here.is_current);
    others = LeavesSegments-set old new before.slots number slot
        (λ other held apart at. ap (λ contents. value_of contents held.handle.id) here.given.after
        ∙ value_of-with_value-other old here.held.handle.id (with_allocator segment left) held.handle.id
        (sound.apart other number held here.held apart at here.is_current))
        after.slots slots_are;
  }

-- ---- the memory grows

-- the value of an entry whose handle is spared by a retirement
pub value_of-spared : {T : Type 0} (contents : Contents T) (slot : Option HeldSegment) (handle : Handle) →
    IsSpared slot handle → value_of (after_retiring contents slot) handle.id ≡ value_of contents handle.id
value_of-spared contents None handle spared = refl
value_of-spared {T = T} contents (Some held) handle spared = by_test (held.count == 0) refl
  where
    by_test : (test : Bool) → (held.count == 0) ≡ test →
        value_of (if test then after_close contents held.handle else contents) handle.id ≡ value_of contents handle.id
    by_test true none =
        ap (option_map (λ (entry : Entry T). entry.value))
        (entry_of-after_close-other contents held.handle handle.id (spared held refl (eqb-true held.count 0 none)))
    by_test false some = refl

module _ {T : Type 0} (old : Contents T) (before : MemoryState) (made : T) (version : ℕ) (sound : IsSoundMemory before)
    (has : HasAll old before) (below : before.current < 255) where
  abbrev next : ℕ
  next = before.current + 1

  abbrev path : List ℕ
  path = segment_path before.settings before.name next

  abbrev mid : Contents T
  mid = after_creation old path made version

  abbrev grown : Contents T
  grown = after_retiring mid (segment_at before.slots before.current)

  abbrev kept : Slots
  kept = without_unused before.slots before.current

  abbrev next_held : HeldSegment
  next_held = record { handle = next_handle old before; count = 0 }

  within_kept : next < length kept
  within_kept = omega (arith, length_kept_here before sound, below)

  was_none : segment_at before.slots next ≡ None
  was_none = from (segment_at before.slots next) refl
    where
      from : (slot : Option HeldSegment) → segment_at before.slots next ≡ slot → slot ≡ None
      from None at = refl
      from (Some held) at = let active = sound.active next held at in absurd (omega (arith, active.not_later))

  made_value : value_of mid (length old.slots) ≡ Some made
  made_value =
      let makes = after_creation-MakesEntry old path made version in
      ap (option_map (λ (entry : Entry T). entry.value)) makes.entry

  grown_value : value_of grown (length old.slots) ≡ Some made
  grown_value =
      value_of-after_retiring mid (segment_at before.slots before.current) (length old.slots)
      (λ held at same. not_new old held.handle (has.of_segments before.current held at) (sym same))
      ∙ made_value

  at_next : segment_at (with_segment kept next (next_handle old before)) next ≡ Some next_held
  at_next = segment_at-set-same kept next (Some next_held) within_kept

  left_value : (other : ℕ) (at : Option HeldSegment) → segment_at kept other ≡ at → value_in grown at ≡ value_in old at
  left_value other None is = refl
  left_value other (Some held) is =
      let stays = kept_here before sound other held is in
      let leaves = after_creation-LeavesOthers old path made version in
      value_of-spared mid (segment_at before.slots before.current) held.handle stays.spared
      ∙ ap (option_map (λ (entry : Entry T). entry.value))
      (leaves.entries held.handle.id (not_new old held.handle (has.of_segments other held stays.there)))

  pub GrowsTo-grown : GrowsTo old before made grown (grown_memory old before)
  GrowsTo-grown = record {
    current = refl;
    was_none = was_none;
    made_is = ap (value_in grown) at_next ∙ grown_value;
    none_out = ap count_in at_next;
    others = record {
      slots = λ other apart. segment_at-set-other kept next (Some next_held) other apart;
      values = λ other apart.
          ap (value_in grown) (segment_at-set-other kept next (Some next_held) other apart)
          ∙ left_value other (segment_at kept other) refl;
    };
  }

-- ---- a chunk is taken back

module _ {A : Type 0} (Change : A → A → Type 0) (old new : Contents (Segment A)) (before after : MemoryState)
    (number : ℕ) (sound : IsSoundMemory before) (has : HasAll old before) (some : 0 < count_at before.slots number)
    (takes : TakesBack Change old before number new after) where
  abbrev held : HeldSegment
  held = takes.held

  abbrev was : Segment A
  was = takes.change.segment

  abbrev left_over : A
  left_over = takes.change.allocator

  abbrev freed : Contents (Segment A)
  freed = takes.freed

  abbrev less : Slots
  less = with_less before.slots number

  less_is : segment_at less number ≡ Some (record held { count = held.count - 1 })
  less_is = less_at before.slots number held takes.there

  some_held : 0 < held.count
  some_held = omega (arith, some, ap count_in takes.there)

  abbrev Returns : Contents (Segment A) → Slots → Type 0
  Returns contents slots = ReturnsChunk Change old before.slots number contents slots

  freed_value : value_of freed held.handle.id ≡ Some (with_allocator was left_over)
  freed_value =
      ap (λ contents. value_of contents held.handle.id) takes.change.after
      ∙ value_of-with_value-same old held.handle.id (with_allocator was left_over) held.handle refl
      (has.of_segments number held takes.there)

  freed_other : (other : ℕ) (h : HeldSegment) → other ≢ number → segment_at before.slots other ≡ Some h →
      value_of freed h.handle.id ≡ value_of old h.handle.id
  freed_other other h apart at =
      ap (λ contents. value_of contents h.handle.id) takes.change.after
      ∙ value_of-with_value-other old held.handle.id (with_allocator was left_over) h.handle.id
      (sound.apart other number h held apart at takes.there)

  -- the segment stays
  stays : Returns freed less
  stays = record {
    was = was;
    left = left_over;
    origin = ap (value_in old) takes.there ∙ takes.change.was;
    change = takes.change.change;
    still = λ _. ap (value_in freed) less_is ∙ freed_value;
    one_less = omega (arith, some_held, ap count_in takes.there, ap count_in less_is);
    others = LeavesSegments-set old freed before.slots number (counted_less (segment_at before.slots number))
        freed_other less refl;
  }

  -- it is retired
  retires : held.count - 1 ≡ 0 → Returns (after_close freed held.handle) (without_segment less number)
  retires last =
      let once : without_segment less number ≡ slice_set before.slots number None =
      set_twice before.slots number (counted_less (segment_at before.slots number)) None in
      let gone : segment_at (without_segment less number) number ≡ None =
      ap (λ s. segment_at s number) once
      ∙ segment_at-set-same before.slots number None (within_slots before.slots number held takes.there) in
      record {
        was = was;
        left = left_over;
        origin = ap (value_in old) takes.there ∙ takes.change.was;
        change = takes.change.change;
        still = λ active. absurd (false≢true (subst IsSome gone active));
        one_less = omega (arith, some_held, last, ap count_in takes.there, ap count_in gone);
        others = LeavesSegments-set old (after_close freed held.handle) before.slots number None
            (λ other h apart at. ap (option_map (λ (entry : Entry (Segment A)). entry.value))
            (entry_of-after_close-other freed held.handle h.handle.id
            (sound.apart other number h held apart at takes.there))
            ∙ freed_other other h apart at)
            (without_segment less number) once;
      }

  by_count : (test : Bool) → (held.count - 1 == 0) ≡ test →
      Returns (if test then after_close freed held.handle else freed)
      (if test then without_segment less number else less)
  by_count true none = retires (eqb-true (held.count - 1) 0 none)
  by_count false some_left = stays

  not_current : Returns (after_retiring freed (segment_at less number)) (without_unused less number)
  not_current =
      subst (λ slot. Returns (after_retiring freed slot)
      (if count_in slot == 0 then without_segment less number else less)) (sym less_is)
      (by_count (held.count - 1 == 0) refl)

  by_test : (test : Bool) → Returns (if test then freed else after_retiring freed (segment_at less number))
      (if test then less else without_unused less number)
  by_test true = stays
  by_test false = not_current

  pub ReturnsChunk-by : ReturnsChunk Change old before.slots number new after.slots
  ReturnsChunk-by =
      subst (λ s. Returns new s) (sym (ap (λ (m : MemoryState). m.slots) takes.memory))
      (subst (λ c. Returns c (after_return before number).slots) (sym takes.registry)
      (by_test (number == before.current)))
