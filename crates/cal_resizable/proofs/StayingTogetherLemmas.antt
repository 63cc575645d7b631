-- That a memory and a view of it stay together over the memory's calls.
use Rattle.std.proofs.Common.{◌≡◌, ◌≢◌, ℕ, zero, suc, ◌+◌, ◌<◌, ◌≤◌, ◌==◌, ◌⊎◌, ◌&&◌, ◌||◌, Bool, true, false, not, if◌then◌else◌, Option, Some, None, IsSomeAnd, Err, List, [], ◌∷◌, refl, sym, ap, ◌∙◌, subst, inl, inr, arith, true≢false, eq-eqb}
use Rattle.std.specs.Prelude.{nat_le}
use Rattle.std.proofs.lemmas.Bool.{cases_eq}
use Rattle.std.proofs.lemmas.Option.{none-some, same_Some}
use Rattle.cal_alloc.specs.SizeAndAlignment.{SizeAndAlignment}
use Rattle.cal_alloc.specs.declared.shm_allocator.SharedMemorySetupHint.{SharedMemorySetupHint}
use Rattle.cal_alloc.specs.declared.shm_allocator.ShmAllocationError.{ShmAllocationError}
use Rattle.cal_alloc.specs.declared.shm_allocator.ShmAllocator as shm_allocator
use Rattle.cal_storage.specs.Contents.{Contents, Has, id_at, value_of, after_creation, with_value}
use Rattle.cal_storage.specs.Holding.{HasHolders, Holds}
use Rattle.cal_storage.specs.NameLemmas.{is_path-apart}
use Rattle.cal_storage.specs.Refusals.{finished_version}
use Rattle.cal_storage.specs.SoundnessLemmas.{id_at-after_creation-other}
use Rattle.cal_shm.specs.Calls.{OfValue, with_written, with_written_in}
use Rattle.cal_shm.specs.Segment.{Segment, with_allocator, with_bytes}
use Rattle.cal_resizable.specs.Growth.{AllocatesHere, AllocatesBy, AllocatesAfter, Allocates, TakesBack, hint_or_error, may_help, grows, made_segment, next_handle, grown_contents, grown_memory, after_return, returned_contents}
use Rattle.cal_resizable.specs.Memory.{MemoryState, IsSoundMemory, KeepsOwn, segment_path}
use Rattle.cal_resizable.specs.Slots.{Handle, Slots, HeldSegment, segment_at, with_more, with_less, count_in, count_at, without_unused, after_retiring, EachHeld, IsHeldId, LeavesHandle, SparesHandles}
use Rattle.cal_resizable.specs.Together.{AllFinished, ShareSegments, NoneLater, AreTogether}
use Rattle.cal_resizable.specs.View.{View, HasView}
use Rattle.cal_resizable.specs.declared.errors.ResizableShmAllocationError.{ResizableShmAllocationError}
use Rattle.cal_resizable.specs.declared.errors.ResizableShmAllocationError.TheVariants as error
use Rattle.cal_resizable.proofs.FinishedLemmas.{AllFinished-with_value, AllFinished-after_creation, AllFinished-after_retiring, none-after_retiring}
use Rattle.cal_resizable.proofs.GrowthLemmas.{not_new}
use Rattle.cal_resizable.proofs.GuestLemmas.{same_paths}
use Rattle.cal_resizable.proofs.KeepingLemmas.{was_held-current, was_held-less, kept_there, IsSoundMemory-more, IsSoundMemory-return}
use Rattle.cal_resizable.proofs.LeavingLemmas.{LeavesHandle-with_value}
use Rattle.cal_resizable.proofs.MemoryLemmas.{WasHeld, kept_here, IsSoundMemory-grown}
use Rattle.cal_resizable.proofs.SharingLemmas.{same_path, same_number}
use Rattle.cal_resizable.proofs.SlotLemmas.{segment_at-set-other, within_slots}
use Rattle.cal_resizable.proofs.TogetherLemmas.{guests_of}
use Rattle.cal_resizable.proofs.ViewSlotLemmas.{HasPaths, HasPaths-view, management_path-apart, segment_path-apart}

-- whether an id is that of a segment that is held
decide_held : (slots : Slots) (id : ℕ) → IsHeldId slots id ⊎ (IsHeldId slots id → ⊥)
decide_held [] id = inr (λ is. none-some is.held is.there)
decide_held (slot ∷ slots) id = elim (decide_held slots id) [
  | inl is ↦ inl (record { number = suc is.number; held = is.held; there = is.there; same = is.same })
  | inr not_there ↦ here slot not_there
]
  where
    later_one : (first : Option HeldSegment) → (IsHeldId slots id → ⊥) →
        ((held : HeldSegment) → first ≡ Some held → held.handle.id ≡ id → ⊥) → (number : ℕ) (held : HeldSegment) →
        segment_at (first ∷ slots) number ≡ Some held → held.handle.id ≡ id → ⊥
    later_one first not_there not_here zero held there same = not_here held there same
    later_one first not_there not_here (suc number) held there same =
        not_there (record { number = number; held = held; there = there; same = same })

    here : (first : Option HeldSegment) → (IsHeldId slots id → ⊥) →
        IsHeldId (first ∷ slots) id ⊎ (IsHeldId (first ∷ slots) id → ⊥)
    here None not_there = inr (λ is.
        later_one None not_there (λ held none _. none-some held none) is.number is.held is.there is.same)
    here (Some held) not_there = elim (cases_eq held.handle.id id) [
      | inl same ↦ inl (record { number = zero; held = held; there = refl; same = same })
      | inr apart ↦ inr (λ is.
          later_one (Some held) not_there
          (λ other is_held same. apart (ap (λ (h : HeldSegment). h.handle.id) (same_Some held other is_held) ∙ same))
          is.number is.held is.there is.same)
    ]

-- a segment that a memory has now under a number that it had was there before
abbrev pub HadSegments : MemoryState → MemoryState → Type 0
HadSegments before after =
    (number : ℕ) (one : HeldSegment) → segment_at after.slots number ≡ Some one → number ≤ before.current →
    WasHeld before.slots number one

-- an entry that the memory has too is held twice
module _ {T : Type 0} (old : Contents T) (before : MemoryState) (view : View) (both : AreTogether old before view) where
  paths : HasPaths view
  paths = HasPaths-view view both.view_sound

  view_management : IsHeldId before.slots view.management.id → Holds old 2 view.management
  view_management held_id =
      let sound = both.memory_sound in
      let has_memory = both.has_memory in
      let has_view = both.has_view in
      let active = sound.active held_id.number held_id.held held_id.there in
      absurd (management_path-apart view paths.name held_id.number
      (omega (arith, within_slots before.slots held_id.number held_id.held held_id.there, sound.places))
      (sym paths.management
      ∙ sym (same_paths old held_id.held.handle view.management
      (has_memory.of_segments held_id.number held_id.held held_id.there) has_view.of_management held_id.same)
      ∙ active.path ∙ sym (same_path before view both.name both.settings held_id.number)))

  pub view_segment : (number : ℕ) (other : HeldSegment) → segment_at view.slots number ≡ Some other →
      IsHeldId before.slots other.handle.id → Holds old 2 other.handle
  view_segment number other at held_id =
      let has_view = both.has_view in
      let is : held_id.number ≡ number =
      same_number old before both.memory_sound view paths both.name both.settings
      (guests_of view both.view_sound) has_view both.holds both.names both.share held_id.number number held_id.held
      other held_id.there at (sym held_id.same) in
      let shared = both.share number held_id.held other (ap (segment_at before.slots) (sym is) ∙ held_id.there) at in
      (has_view.of_segments number other at, subst (λ i. HasHolders old 2 i) held_id.same shared.1.1)

module _ {T : Type 0} (old new : Contents T) (before after : MemoryState) (view : View)
    (both : AreTogether old before view) (own : KeepsOwn old before new after)
    (spares : SparesHandles old new before.slots after.slots) where
  still_there : (handle : Handle) → Has old handle → (IsHeldId before.slots handle.id → Holds old 2 handle) →
      Has new handle
  still_there handle has two = elim (decide_held before.slots handle.id) [
    | inl held ↦ (spares.sharers 1 handle (omega arith) (omega arith) (two held)).0
    | inr not_held ↦
        let leaves = spares.others handle (λ held. absurd (not_held held)) in leaves.has has
  ]

  still_viewed : HasView new view
  still_viewed = let has = both.has_view in record {
    of_management = still_there view.management has.of_management (view_management old before view both);
    of_segments = λ number other at.
        still_there other.handle (has.of_segments number other at)
        (view_segment old before view both number other at);
  }

  still_shared : HadSegments before after → ShareSegments new after.slots view.slots
  still_shared had number one other at_one at_other =
      let was = had number one at_one (both.mapped number other at_other) in
      let shared = both.share number was.one other was.there at_other in
      let leaves : LeavesHandle old new one.handle =
      spares.others one.handle (λ _. record { number = number; held = one; there = at_one; same = refl }) in (
        shared.0 ∙ ap (λ (h : Handle). h.id) was.same,
        leaves.holds 2 (omega arith) (omega arith) (subst (Holds old 2) was.same shared.1),
      )

  pub AreTogether-memory : IsSoundMemory after → after.name ≡ before.name → after.settings ≡ before.settings →
      before.current ≤ after.current → HadSegments before after → AllFinished new → NoneLater new after →
      AreTogether new after view
  AreTogether-memory sound name settings grows had finished later = record {
    memory_sound = sound;
    view_sound = both.view_sound;
    name = both.name ∙ sym name;
    settings = both.settings ∙ sym settings;
    has_memory = own.has;
    has_view = still_viewed;
    holds = own.holds both.holds;
    names = own.names both.names;
    finished = finished;
    share = still_shared had;
    later = later;
    mapped = λ number held at. omega (arith, both.mapped number held at, grows);
  }

-- ---- the current segment hands out a chunk

module _ {A C : Type 0} (rules : shm_allocator.Ghosts A C) (old new : Contents (Segment A))
    (before after : MemoryState) (layout : SizeAndAlignment) (pointer : ℕ) (sound : IsSoundMemory before)
    (here : AllocatesHere rules old before layout pointer new after) where
  here_sound : IsSoundMemory after
  here_sound = subst IsSoundMemory (sym here.counted)
      (IsSoundMemory-more before sound (with_more before.slots before.current) refl)

  here_was : EachHeld after.slots (WasHeld before.slots)
  here_was = was_held-current before sound after.slots (ap (λ (m : MemoryState). m.slots) here.counted)

  here_finished : AllFinished old → AllFinished new
  here_finished finished = subst AllFinished (sym here.given.after)
      (AllFinished-with_value old here.held.handle.id (with_allocator here.given.segment here.given.allocator) finished)

  here_later : NoneLater old before → NoneLater new after
  here_later later = subst (NoneLater new) (sym here.counted)
      (λ number after_current within.
      ap (λ c. id_at c (segment_path before.settings before.name number)) here.given.after
      ∙ later number after_current within)

  pub AreTogether-here : (view : View) → KeepsOwn old before new after →
      SparesHandles old new before.slots after.slots → AreTogether old before view → AreTogether new after view
  AreTogether-here view own spares both =
      AreTogether-memory old new before after view both own spares here_sound
      (ap (λ (m : MemoryState). m.name) here.counted) (ap (λ (m : MemoryState). m.settings) here.counted)
      (omega (arith, ap (λ (m : MemoryState). m.current) here.counted)) (λ number one at within. here_was number one at)
      (here_finished both.finished) (here_later both.later)

-- ---- the memory grows, and then the new segment does

module _ {A C : Type 0} (rules : shm_allocator.Ghosts A C) (old : Contents (Segment A)) (before : MemoryState)
    (hint : SharedMemorySetupHint C) (view : View) (both : AreTogether old before view)
    (below : before.current < 255) where
  abbrev mid : Contents (Segment A)
  mid = grown_contents rules old before hint

  abbrev between : MemoryState
  between = grown_memory old before

  abbrev next : ℕ
  next = before.current + 1

  abbrev kept : Slots
  kept = without_unused before.slots before.current

  abbrev made : Contents (Segment A)
  made = after_creation old (segment_path before.settings before.name next) (made_segment rules hint) finished_version

  grown_sound : IsSoundMemory between
  grown_sound =
      let has = both.has_memory in
      IsSoundMemory-grown before both.memory_sound (next_handle old before)
      (λ number held at. not_new old held.handle (has.of_segments number held at))
      (λ same. not_new old before.management has.of_management (sym same)) refl refl (omega arith)

  grown_finished : AllFinished mid
  grown_finished =
      AllFinished-after_retiring made (segment_at before.slots before.current)
      (AllFinished-after_creation old (segment_path before.settings before.name next) (made_segment rules hint)
      both.finished)

  grown_later : NoneLater mid between
  grown_later number after_next within =
      let paths = HasPaths-view view both.view_sound in
      let apart : segment_path before.settings before.name next ≢ segment_path before.settings before.name number =
      λ same. segment_path-apart view paths.name next number (omega (arith, below)) within
      (λ is. absurd (omega (arith, is, after_next)))
      (same_path before view both.name both.settings next ∙ same
      ∙ sym (same_path before view both.name both.settings number)) in
      none-after_retiring made (segment_at before.slots before.current)
      (segment_path before.settings before.name number)
      (id_at-after_creation-other old (segment_path before.settings before.name next) (made_segment rules hint)
      finished_version (segment_path before.settings before.name number)
      (is_path-apart (segment_path before.settings before.name next) (segment_path before.settings before.name number)
      apart)
      ∙ both.later number (omega (arith, after_next)) within)

  module _ (new : Contents (Segment A)) (after : MemoryState) (layout : SizeAndAlignment) (pointer : ℕ)
      (here : AllocatesHere rules mid between layout pointer new after) where
    grown_had : HadSegments before after
    grown_had number one at within =
        let was = here_was rules mid new between after layout pointer grown_sound here number one at in
        let there : segment_at kept number ≡ Some was.one =
        sym (segment_at-set-other kept next (Some (record { handle = next_handle old before; count = 0 })) number
        (λ same. absurd (omega (arith, same, within)))) ∙ was.there in
        let is = kept_here before both.memory_sound number was.one there in
        record { one = was.one; there = is.there; same = was.same }

    pub AreTogether-grown : KeepsOwn old before new after → SparesHandles old new before.slots after.slots →
        AreTogether new after view
    AreTogether-grown own spares =
        AreTogether-memory old new before after view both own spares
        (here_sound rules mid new between after layout pointer grown_sound here)
        (ap (λ (m : MemoryState). m.name) here.counted) (ap (λ (m : MemoryState). m.settings) here.counted)
        (omega (arith, ap (λ (m : MemoryState). m.current) here.counted)) grown_had
        (here_finished rules mid new between after layout pointer grown_sound here grown_finished)
        (here_later rules mid new between after layout pointer grown_sound here grown_later)

-- ---- an allocation, in one way or the other

module _ {A C : Type 0} (rules : shm_allocator.Ghosts A C) (old new : Contents (Segment A))
    (before after : MemoryState) (layout : SizeAndAlignment) (pointer : ℕ) where
  -- the next segment hands out a chunk
  pub record AllocatesNext : Type 0 where
    pub hint : SharedMemorySetupHint C
    pub not_last : before.current ≢ 255
    pub here : AllocatesHere rules (grown_contents rules old before hint) (grown_memory old before) layout pointer new
        after

  by_growth : (refused last : Bool) → (before.current == 255) ≡ last → (why other_why : ResizableShmAllocationError)
      (hint : Option (SharedMemorySetupHint C)) →
      AllocatesBy rules old before layout pointer new after
      (if refused then Err why else if last then Err other_why else hint_or_error rules hint) → AllocatesNext
  by_growth true last is why other_why hint by = absurd by
  by_growth false true is why other_why hint by = absurd by
  by_growth false false is why other_why None by = absurd by
  by_growth false false is why other_why (Some hint) by = record {
    hint = hint;
    not_last = λ last. true≢false (sym (eq-eqb before.current 255 last) ∙ is);
    here = by;
  }

  with_refusal : (allocator : A) (refusal : Option ShmAllocationError) →
      AllocatesAfter rules old before layout pointer new after allocator refusal →
      AllocatesHere rules old before layout pointer new after ⊎ AllocatesNext
  with_refusal allocator None here = inl here
  with_refusal allocator (Some refusal) by = inr (by_growth
      (not (may_help refusal && (grows before.strategy && (rules.growth_raises_alignment
      || nat_le layout.alignment (rules.properties allocator).max_alignment))))
      (before.current == 255) refl (error.ShmAllocationError refusal) error.MaxReallocationsReached
      (rules.resize_hint allocator layout before.strategy) by)

  pub allocates-cases : Allocates rules old before layout pointer new after →
      AllocatesHere rules old before layout pointer new after ⊎ AllocatesNext
  allocates-cases = from_slot (segment_at before.slots before.current)
    where
      from_value : (value : Option (Segment A)) →
          IsSomeAnd value (λ segment. AllocatesAfter rules old before layout pointer new after segment.allocator
          (rules.refusal segment.allocator layout)) →
          AllocatesHere rules old before layout pointer new after ⊎ AllocatesNext
      from_value None is = absurd is
      from_value (Some segment) is = with_refusal segment.allocator (rules.refusal segment.allocator layout) is

      from_slot : (slot : Option HeldSegment) → IsSomeAnd slot (λ held. OfValue old held.handle.id (λ segment.
          AllocatesAfter rules old before layout pointer new after segment.allocator
          (rules.refusal segment.allocator layout))) →
          AllocatesHere rules old before layout pointer new after ⊎ AllocatesNext
      from_slot None is = absurd is
      from_slot (Some held) is = from_value (value_of old held.handle.id) is

  pub AreTogether-allocated : Allocates rules old before layout pointer new after → (view : View) →
      KeepsOwn old before new after → SparesHandles old new before.slots after.slots → AreTogether old before view →
      AreTogether new after view
  AreTogether-allocated allocates view own spares both = elim (allocates-cases allocates) [
    | inl here ↦ AreTogether-here rules old new before after layout pointer both.memory_sound here view own spares both
    | inr next ↦
        let sound = both.memory_sound in
        AreTogether-grown rules old before next.hint view both (omega (arith, sound.below, next.not_last)) new after
        layout pointer next.here own spares
  ]

  -- the numbers of the segments only grow
  pub numbers_grow : Allocates rules old before layout pointer new after →
      (after.current ≡ before.current) ⊎ (after.current ≡ before.current + 1)
  numbers_grow allocates = elim (allocates-cases allocates) [
    | inl here ↦ inl (ap (λ (m : MemoryState). m.current) here.counted)
    | inr next ↦ let here = next.here in inr (ap (λ (m : MemoryState). m.current) here.counted)
  ]

-- ---- a chunk is taken back

module _ {A : Type 0} (Change : A → A → Type 0) (old new : Contents (Segment A)) (before after : MemoryState)
    (number : ℕ) (some : 0 < count_at before.slots number) (takes : TakesBack Change old before number new after)
    (view : View) (both : AreTogether old before view) where
  abbrev held : HeldSegment
  held = takes.held

  taken_sound : IsSoundMemory after
  taken_sound = subst IsSoundMemory (sym takes.memory)
      (IsSoundMemory-return before both.memory_sound number held takes.there
      (omega (arith, some, ap count_in takes.there)))

  taken_had : HadSegments before (after_return before number)
  taken_had other one at within = by_test (number == before.current) at
    where
      by_test : (test : Bool) →
          segment_at (if test then with_less before.slots number
          else without_unused (with_less before.slots number) number) other ≡ Some one →
          WasHeld before.slots other one
      by_test true is = was_held-less before.slots number held takes.there other one is
      by_test false is =
          let kept = kept_there before both.memory_sound number held takes.there other one is in
          was_held-less before.slots number held takes.there other one kept.there

  freed_finished : AllFinished takes.freed
  freed_finished = subst AllFinished (sym takes.change.after)
      (AllFinished-with_value old held.handle.id (with_allocator takes.change.segment takes.change.allocator)
      both.finished)

  taken_finished : AllFinished (returned_contents takes.freed before number)
  taken_finished = by_test (number == before.current)
    where
      by_test : (test : Bool) → AllFinished (if test then takes.freed
          else after_retiring takes.freed (segment_at (with_less before.slots number) number))
      by_test true = freed_finished
      by_test false =
          AllFinished-after_retiring takes.freed (segment_at (with_less before.slots number) number) freed_finished

  taken_none : (path : List ℕ) → id_at old path ≡ None → id_at (returned_contents takes.freed before number) path ≡ None
  taken_none path none = by_test (number == before.current)
    where
      freed_none : id_at takes.freed path ≡ None
      freed_none = ap (λ c. id_at c path) takes.change.after ∙ none

      by_test : (test : Bool) → id_at (if test then takes.freed
          else after_retiring takes.freed (segment_at (with_less before.slots number) number)) path ≡ None
      by_test true = freed_none
      by_test false =
          none-after_retiring takes.freed (segment_at (with_less before.slots number) number) path freed_none

  pub AreTogether-returned : KeepsOwn old before new after → SparesHandles old new before.slots after.slots →
      AreTogether new after view
  AreTogether-returned own spares =
      AreTogether-memory old new before after view both own spares taken_sound
      (ap (λ (m : MemoryState). m.name) takes.memory) (ap (λ (m : MemoryState). m.settings) takes.memory)
      (omega (arith, ap (λ (m : MemoryState). m.current) takes.memory))
      (subst (HadSegments before) (sym takes.memory) taken_had)
      (subst AllFinished (sym takes.registry) taken_finished)
      (subst (NoneLater new) (sym takes.memory) (λ n after_current within.
      ap (λ c. id_at c (segment_path before.settings before.name n)) takes.registry
      ∙ taken_none (segment_path before.settings before.name n) (both.later n after_current within)))

-- ---- bytes are written

pub AreTogether-written : {A : Type 0} (contents : Contents (Segment A)) (memory : MemoryState) (view : View)
    (id offset : ℕ) (written : List ℕ) → AreTogether contents memory view →
    AreTogether (with_written with_bytes contents id offset written) memory view
AreTogether-written {A = A} contents memory view id offset written both = from (value_of contents id)
  where
    by_value : (value : Segment A) → AreTogether (with_value contents id value) memory view
    by_value value =
        let has = both.has_memory in
        let viewed = both.has_view in
        let holds = both.holds in
        record {
          memory_sound = both.memory_sound;
          view_sound = both.view_sound;
          name = both.name;
          settings = both.settings;
          has_memory = record {
            of_management = let left = LeavesHandle-with_value contents id value memory.management in
                left.has has.of_management;
            of_segments = λ n one at. let left = LeavesHandle-with_value contents id value one.handle in
                left.has (has.of_segments n one at);
          };
          has_view = record {
            of_management = let left = LeavesHandle-with_value contents id value view.management in
                left.has viewed.of_management;
            of_segments = λ n one at. let left = LeavesHandle-with_value contents id value one.handle in
                left.has (viewed.of_segments n one at);
          };
          holds = record {
            of_management = let left = LeavesHandle-with_value contents id value memory.management in
                left.holds 1 (omega arith) (omega arith) holds.of_management;
            of_segments = λ n one at. let left = LeavesHandle-with_value contents id value one.handle in
                left.holds 1 (omega arith) (omega arith) (holds.of_segments n one at);
          };
          names = both.names;
          finished = AllFinished-with_value contents id value both.finished;
          share = λ n one other at_one at_other.
              let shared = both.share n one other at_one at_other in
              let left = LeavesHandle-with_value contents id value one.handle in
              (shared.0, left.holds 2 (omega arith) (omega arith) shared.1);
          later = both.later;
          mapped = both.mapped;
        }

    from : (found : Option (Segment A)) →
        AreTogether (with_written_in with_bytes contents id offset written found) memory view
    from None = both
    from (Some segment) = by_value (with_bytes segment offset written)
