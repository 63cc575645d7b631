-- That closing the segments one by one closes all of them.
use Rattle.std.specs.Prelude.{◌≡◌, ◌≢◌, ℕ, ◌+◌, ◌<◌, ◌≤◌, zero, suc, Option, Some, None, IsSomeAnd, List, [], ◌∷◌, length}
use Rattle.std.proofs.Common.{arith, refl, sym, ap, ◌∙◌, subst, inl, inr}
use Rattle.std.proofs.lemmas.Bool.{cases_eq}
use Rattle.std.proofs.lemmas.Option.{none-some, same_Some}
use Rattle.cal_storage.specs.declared.entry.Entry.{Entry}
use Rattle.cal_storage.specs.Contents.{Contents, Has, entry_of, after_close}
use Rattle.cal_storage.specs.Holding.{KeepsOtherHandles}
use Rattle.cal_storage.specs.HoldingLemmas.{Holds-weaker, KeepsOtherHandles-after_close, LeavesSharers-after_close}
use Rattle.cal_storage.specs.Soundness.{IsSound}
use Rattle.cal_storage.specs.SoundnessLemmas.{after_close-IsSound}
use Rattle.std.specs.Option.{option_map}
use Rattle.cal_resizable.specs.Closing.{held_handles, AreElsewhere, after_closing, CanClose, LeavesAllSharers}
use Rattle.cal_resizable.proofs.LeavingLemmas.{LeavesHandle-same, LeavesHandle-then, LeavesHandle-after_close}
use Rattle.cal_resizable.proofs.ViewLemmas.{view-management, view-AreApart}
use Rattle.cal_resizable.proofs.ViewSlotLemmas.{HasPaths, HasPaths-view}
use Rattle.cal_resizable.specs.Memory.{MemoryState, IsSoundMemory, HasAll}
use Rattle.cal_resizable.specs.View.{View, IsView, HasView}
use Rattle.cal_resizable.specs.Slots.{Handle, Slots, HeldSegment, EachHeld, AreApart, LeavesHandle, segment_at, without_segment}

-- the first segment that is held closes first
pub first-held : (slots : Slots) (n : ℕ) → ((k : ℕ) → k < n → segment_at slots k ≡ None) → (held : HeldSegment) →
    segment_at slots n ≡ Some held → held_handles slots ≡ held.handle ∷ held_handles (without_segment slots n)
first-held [] n none held there = absurd (none-some held there)
first-held (slot ∷ slots) zero none held there = from slot there
  where
    from : (at : Option HeldSegment) → at ≡ Some held →
        held_handles (at ∷ slots) ≡ held.handle ∷ held_handles (None ∷ slots)
    from None is = absurd (none-some held is)
    from (Some first) is = ap (λ (h : HeldSegment). h.handle ∷ held_handles slots) (same_Some _ _ is)
first-held (slot ∷ slots) (suc n) none held there =
    let rest : held_handles slots ≡ held.handle ∷ held_handles (without_segment slots n) =
    first-held slots n (λ k before. none (suc k) (omega (arith, before))) held there in
    ap (λ at. held_handles (at ∷ slots)) (none zero (omega arith))
    ∙ rest
    ∙ ap (λ at. held.handle ∷ held_handles (at ∷ without_segment slots n)) (sym (none zero (omega arith)))

-- where none is held there is nothing to close
pub none-held : (slots : Slots) → ((k : ℕ) → k < length slots → segment_at slots k ≡ None) → held_handles slots ≡ []
none-held [] none = refl
none-held (slot ∷ slots) none =
    ap (λ at. held_handles (at ∷ slots)) (none zero (omega arith))
    ∙ none-held slots (λ k before. none (suc k) (omega (arith, before)))

module _ {T : Type 0} (contents new : Contents T) (closing : Handle)
    (keeps : KeepsOtherHandles contents new closing.id) where
  keeps-Has : (handle : Handle) → handle.id ≢ closing.id → Has contents handle → Has new handle
  keeps-Has handle apart has = (keeps 0 handle apart (has, from (entry_of contents handle.id) has)).0
    where
      from : (at : Option (Entry T)) → IsSomeAnd at (λ entry. entry.path ≡ handle.path) →
          IsSomeAnd at (λ entry. 0 ≤ entry.holders)
      from None h = absurd h
      from (Some entry) h = omega arith

  -- those on other entries can close still
  pub CanClose-rest : (handles : List Handle) → AreElsewhere closing handles → CanClose contents handles →
      CanClose new handles
  CanClose-rest [] apart can = tt
  CanClose-rest (handle ∷ handles) apart can =
      (keeps-Has handle apart.0 can.0, can.1, CanClose-rest handles apart.1 can.2)

-- the segment of a number closes, below which none is held
module _ {T : Type 0} (contents new : Contents T) (slots : Slots) (n : ℕ)
    (none : (k : ℕ) → k < n → segment_at slots k ≡ None) (can : CanClose contents (held_handles slots))
    (closing : Handle)
    (handle_is : option_map (λ (held : HeldSegment). held.handle) (segment_at slots n) ≡ Some closing) (left : Slots)
    (removed : left ≡ without_segment slots n) where
  closing_is : (held : HeldSegment) × (segment_at slots n ≡ Some held) × (held.handle ≡ closing)
  closing_is = from (segment_at slots n) handle_is
    where
      from : (at : Option HeldSegment) → option_map (λ (held : HeldSegment). held.handle) at ≡ Some closing →
          (held : HeldSegment) × (at ≡ Some held) × (held.handle ≡ closing)
      from None is = absurd (none-some closing is)
      from (Some held) is = (held, refl, same_Some held.handle closing is)

  in_turn : held_handles slots ≡ closing ∷ held_handles left
  in_turn = first-held slots n none closing_is.0 closing_is.1
      ∙ ap (λ h. h ∷ held_handles (without_segment slots n)) closing_is.2
      ∙ ap (λ s. closing ∷ held_handles s) (sym removed)

  parts : CanClose contents (closing ∷ held_handles left)
  parts = subst (CanClose contents) in_turn can

  pub closing-there : Has contents closing
  closing-there = parts.0

  pub closing-same : new ≡ after_close contents closing →
      after_closing new (held_handles left) ≡ after_closing contents (held_handles slots)
  closing-same closed =
      ap (λ c. after_closing c (held_handles left)) closed ∙ ap (after_closing contents) (sym in_turn)

  pub closing-rest : KeepsOtherHandles contents new closing.id → CanClose new (held_handles left)
  closing-rest keeps = CanClose-rest contents new closing keeps (held_handles left) parts.1 parts.2

-- nothing is left
pub closing-ended : {T : Type 0} (contents now : Contents T) (before slots : Slots) (n : ℕ) →
    after_closing now (held_handles slots) ≡ after_closing contents (held_handles before) →
    ((k : ℕ) → k < n → segment_at slots k ≡ None) → length slots ≤ n →
    now ≡ after_closing contents (held_handles before)
closing-ended contents now before slots n same gone all =
    ap (after_closing now) (sym (none-held slots (λ k within. gone k (omega (arith, within, all))))) ∙ same

-- ---- a memory or a view closes

elsewhere : (slots : Slots) (handle : Handle) →
    ((n : ℕ) (other : HeldSegment) → segment_at slots n ≡ Some other → other.handle.id ≢ handle.id) →
    AreElsewhere handle (held_handles slots)
elsewhere [] handle apart = tt
elsewhere (None ∷ slots) handle apart = elsewhere slots handle (λ n. apart (suc n))
elsewhere (Some held ∷ slots) handle apart =
    (apart zero held refl, elsewhere slots handle (λ n. apart (suc n)))

-- segments that are there, no two on the same entry, can close
pub CanClose-apart : {T : Type 0} (contents : Contents T) (slots : Slots) →
    EachHeld slots (λ n held. Has contents held.handle) → AreApart slots → CanClose contents (held_handles slots)
CanClose-apart contents [] has apart = tt
CanClose-apart contents (None ∷ slots) has apart =
    CanClose-apart contents slots (λ n. has (suc n)) (λ m n one other differ. apart (suc m) (suc n) one other
    (λ same. differ (omega (arith, same))))
CanClose-apart contents (Some held ∷ slots) has apart = (
  has zero held refl,
  elsewhere slots held.handle (λ n other there. apart (suc n) zero other held (λ same. omega (arith, same)) there refl),
  CanClose-apart contents slots (λ n. has (suc n)) (λ m n one other differ. apart (suc m) (suc n) one other
      (λ same. differ (omega (arith, same)))),
)

-- all handles of a memory, and of a view, can close
can_close-memory : {T : Type 0} (contents : Contents T) (memory : MemoryState) → IsSoundMemory memory →
    HasAll contents memory → CanClose contents (memory.management ∷ held_handles memory.slots)
can_close-memory contents memory sound has = (
  has.of_management,
  elsewhere memory.slots memory.management (λ n other there.
      let active = sound.active n other there in active.apart),
  CanClose-apart contents memory.slots has.of_segments sound.apart,
)

can_close-view : {T : Type 0} (contents : Contents T) (view : View) → IsView view → HasView contents view →
    CanClose contents (view.management ∷ held_handles view.slots)
can_close-view contents view is has =
    let paths : HasPaths view = HasPaths-view view is in (
      has.of_management,
      elsewhere view.slots view.management (λ n other there here.
          view-management contents view paths has n other there (sym here)),
      CanClose-apart contents view.slots has.of_segments (view-AreApart contents view paths has),
    )

-- after a memory's management segment has closed, the others can
pub closing-memory : {T : Type 0} (contents new : Contents T) (memory whole : MemoryState) → memory ≡ whole →
    IsSoundMemory memory → HasAll contents whole → KeepsOtherHandles contents new memory.management.id →
    CanClose new (held_handles memory.slots)
closing-memory contents new memory whole same sound has_whole keeps =
    let has : HasAll contents memory = subst (HasAll contents) (sym same) has_whole in
    CanClose-rest contents new memory.management keeps (held_handles memory.slots)
    (elsewhere memory.slots memory.management (λ n other there.
    let active = sound.active n other there in active.apart))
    (CanClose-apart contents memory.slots has.of_segments sound.apart)

-- after the management segment of a view has closed, the others can
pub closing-view : {T : Type 0} (contents new : Contents T) (view whole : View) → view ≡ whole → IsView view →
    HasView contents whole → KeepsOtherHandles contents new view.management.id → CanClose new (held_handles view.slots)
closing-view contents new view whole same is has_whole keeps =
    let has : HasView contents view = subst (HasView contents) (sym same) has_whole in
    let paths : HasPaths view = HasPaths-view view is in
    CanClose-rest contents new view.management keeps (held_handles view.slots)
    (elsewhere view.slots view.management (λ n other there here.
    view-management contents view paths has n other there (sym here)))
    (CanClose-apart contents view.slots has.of_segments (view-AreApart contents view paths has))

-- ---- what a close leaves

elsewhere-same : (one other : Handle) → one.id ≡ other.id → (handles : List Handle) → AreElsewhere one handles →
    AreElsewhere other handles
elsewhere-same one other same [] apart = tt
elsewhere-same one other same (handle ∷ handles) apart =
    (λ is. apart.0 (is ∙ sym same), elsewhere-same one other same handles apart.1)

module _ {T : Type 0} where
  module _ (contents : Contents T) (sound : IsSound contents) (closing : Handle) (handles : List Handle)
      (can : CanClose contents (closing ∷ handles)) where
    abbrev left : Contents T
    left = after_close contents closing

    left_sound : IsSound left
    left_sound = after_close-IsSound contents sound closing can.0

    left_can : CanClose left handles
    left_can = CanClose-rest contents left closing (KeepsOtherHandles-after_close contents sound closing can.0) handles
        can.1 can.2

    left_apart : (handle : Handle) → handle.id ≢ closing.id → LeavesHandle contents left handle
    left_apart = LeavesHandle-after_close contents sound closing can.0

  leaves_elsewhere : (handles : List Handle) (contents : Contents T) → IsSound contents → CanClose contents handles →
      (handle : Handle) → AreElsewhere handle handles →
      LeavesHandle contents (after_closing contents handles) handle
  leaves_elsewhere [] contents sound can handle apart = LeavesHandle-same contents handle
  leaves_elsewhere (closing ∷ handles) contents sound can handle apart =
      LeavesHandle-then contents (after_close contents closing)
      (after_closing (after_close contents closing) handles) handle
      (left_apart contents sound closing handles can handle (λ same. apart.0 (sym same)))
      (leaves_elsewhere handles (after_close contents closing) (left_sound contents sound closing handles can)
      (left_can contents sound closing handles can) handle apart.1)

  leaves_sharers : (handles : List Handle) (contents : Contents T) → IsSound contents → CanClose contents handles →
      LeavesAllSharers contents (after_closing contents handles)
  leaves_sharers [] contents sound can count handle some small holds =
      Holds-weaker contents (count + 1) count handle (omega arith) holds
  leaves_sharers (closing ∷ handles) contents sound can count handle some small holds =
      let rest_sound = left_sound contents sound closing handles can in
      let rest_can = left_can contents sound closing handles can in
      elim (cases_eq handle.id closing.id) [
        | inl same ↦
            let stays : LeavesHandle (after_close contents closing)
            (after_closing (after_close contents closing) handles) handle =
            leaves_elsewhere handles (after_close contents closing) rest_sound rest_can handle
            (elsewhere-same closing handle (sym same) handles can.1) in
            stays.holds count some (omega arith)
            (LeavesSharers-after_close contents sound closing can.0 count handle same some holds)
        | inr apart ↦
            let stays : LeavesHandle contents (after_close contents closing) handle =
            left_apart contents sound closing handles can handle apart in
            leaves_sharers handles (after_close contents closing) rest_sound rest_can count handle some small
            (stays.holds (count + 1) (omega arith) small holds)
      ]

  -- a memory or a view closes: `mid` is the registry after its management segment has closed
  module _ (contents mid new : Contents T) (sound : IsSound contents) where
    module _ (memory whole : MemoryState) (same : memory ≡ whole) (memory_sound : IsSoundMemory memory)
        (has : HasAll contents whole) (first : mid ≡ after_close contents memory.management)
        (all : new ≡ after_closing mid (held_handles memory.slots)) where
      memory_closed : new ≡ after_closing contents (whole.management ∷ held_handles whole.slots)
      memory_closed =
          all ∙ ap (λ c. after_closing c (held_handles memory.slots)) first
          ∙ ap (λ (m : MemoryState). after_closing contents (m.management ∷ held_handles m.slots)) same

      memory_can : CanClose contents (whole.management ∷ held_handles whole.slots)
      memory_can = can_close-memory contents whole (subst IsSoundMemory same memory_sound) has

      pub memory-leaves : (handle : Handle) → AreElsewhere handle (whole.management ∷ held_handles whole.slots) →
          LeavesHandle contents new handle
      memory-leaves handle apart = subst (λ c. LeavesHandle contents c handle) (sym memory_closed)
          (leaves_elsewhere (whole.management ∷ held_handles whole.slots) contents sound memory_can handle apart)

      pub memory-sharers : LeavesAllSharers contents new
      memory-sharers = subst (λ c. LeavesAllSharers contents c) (sym memory_closed)
          (leaves_sharers (whole.management ∷ held_handles whole.slots) contents sound memory_can)

    module _ (view whole : View) (same : view ≡ whole) (is : IsView view) (has : HasView contents whole)
        (first : mid ≡ after_close contents view.management)
        (all : new ≡ after_closing mid (held_handles view.slots)) where
      view_closed : new ≡ after_closing contents (whole.management ∷ held_handles whole.slots)
      view_closed =
          all ∙ ap (λ c. after_closing c (held_handles view.slots)) first
          ∙ ap (λ (v : View). after_closing contents (v.management ∷ held_handles v.slots)) same

      view_can : CanClose contents (whole.management ∷ held_handles whole.slots)
      view_can = can_close-view contents whole (subst IsView same is) has

      pub view-leaves : (handle : Handle) → AreElsewhere handle (whole.management ∷ held_handles whole.slots) →
          LeavesHandle contents new handle
      view-leaves handle apart = subst (λ c. LeavesHandle contents c handle) (sym view_closed)
          (leaves_elsewhere (whole.management ∷ held_handles whole.slots) contents sound view_can handle apart)

      pub view-sharers : LeavesAllSharers contents new
      view-sharers = subst (λ c. LeavesAllSharers contents c) (sym view_closed)
          (leaves_sharers (whole.management ∷ held_handles whole.slots) contents sound view_can)
