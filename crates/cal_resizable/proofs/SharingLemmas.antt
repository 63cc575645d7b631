-- What is left of a memory and its view where the view gives up a segment.
use Rattle.std.proofs.Common.{◌≡◌, ◌≢◌, ℕ, ◌<◌, ◌==◌, Bool, true, false, if◌then◌else◌, Option, Some, None, List, ◌++◌, codes, length, refl, sym, ap, ◌∙◌, inl, inr, arith, eqb-true}
use Rattle.std.proofs.lemmas.Bool.{cases_eq}
use Rattle.std.proofs.lemmas.Option.{same_Some}
use Rattle.cal_names.specs.ConceptSettings.{file_path_for}
use Rattle.cal_storage.specs.Contents.{Contents, Has, id_at, after_close}
use Rattle.cal_storage.specs.Holding.{Holds, IsNamed}
use Rattle.cal_storage.specs.ValueLemmas.{entry_of-after_close-other}
use Rattle.cal_resizable.specs.Chunks.{value_in, segment_value}
use Rattle.cal_resizable.specs.Memory.{MemoryState, IsSoundMemory, HasAll, HoldsAll, NamesAll}
use Rattle.cal_resizable.specs.Memory as memory_paths
use Rattle.cal_resizable.specs.SegmentNames.{number_end}
use Rattle.cal_resizable.specs.Slots.{Handle, Slots, HeldSegment, segment_at, after_retiring, EachHeld, EachHandle, AreApart, IsSpared, LeavesHandle}
use Rattle.cal_resizable.specs.Together.{AllFinished, ShareSegments}
use Rattle.cal_resizable.specs.View.{View, HasView, segment_path, management_path, without_unused_of, after_retiring_of}
use Rattle.cal_resizable.proofs.FinishedLemmas.{AllFinished-after_retiring}
use Rattle.cal_resizable.proofs.GuestLemmas.{same_paths, guest-names, LeavesHandle-entry, StaysOpen, StaysOpen-same, StaysOpen-after_close}
use Rattle.cal_resizable.proofs.LeavingLemmas.{LeavesHandle-same}
use Rattle.cal_resizable.proofs.SlotLemmas.{within_slots}
use Rattle.cal_resizable.proofs.ViewLemmas.{retired-HasView}
use Rattle.cal_resizable.proofs.ViewSlotLemmas.{ComesFrom, HasPaths, segment_path-apart, management_path-apart, held-within, retired-lookup}

-- the paths of a memory's segments are those of its view's
module _ (memory : MemoryState) (view : View) (name : view.name ≡ memory.name)
    (settings : view.settings ≡ memory.settings) where
  pub same_path : (number : ℕ) →
      segment_path view number ≡ memory_paths.segment_path memory.settings memory.name number
  same_path number =
      ap (λ s. file_path_for s (view.name ++ number_end number)) settings
      ∙ ap (λ base. file_path_for memory.settings (base ++ number_end number)) name

  pub same_management_path : management_path view ≡ memory_paths.management_path memory.settings memory.name
  same_management_path =
      ap (λ s. file_path_for s (view.name ++ codes "__mgmt")) settings
      ∙ ap (λ base. file_path_for memory.settings (base ++ codes "__mgmt")) name

pub share-from : {T : Type 0} (contents : Contents T) (ours after before : Slots) → ComesFrom after before →
    ShareSegments contents ours before → ShareSegments contents ours after
share-from contents ours after before from share number one other at_one at_other =
    let old = from number other at_other in
    let both = share number one old.0 at_one old.1 in
    (ap (λ (h : Handle). h.id) old.2 ∙ both.0, both.1)

module _ {T : Type 0} (mid : Contents T) (memory : MemoryState) (sound : IsSoundMemory memory) (view : View)
    (paths : HasPaths view) (name : view.name ≡ memory.name) (settings : view.settings ≡ memory.settings)
    (guests : EachHeld view.slots (λ number held. held.handle.is_owner ≡ false)) (has_view : HasView mid view)
    (holds : HoldsAll mid memory) (names : NamesAll mid memory)
    (share : ShareSegments mid memory.slots view.slots) where
  small : (number : ℕ) (held : HeldSegment) → segment_at view.slots number ≡ Some held → number < 256
  small number held at = omega (arith, held-within view.slots number held at, paths.slots)

  -- an entry that both have, they have under the same number
  pub same_number : (number other_number : ℕ) (one other : HeldSegment) → segment_at memory.slots number ≡ Some one →
      segment_at view.slots other_number ≡ Some other → other.handle.id ≡ one.handle.id → number ≡ other_number
  same_number number other_number one other at_one at_other same = elim (cases_eq number other_number) [
    | inl is ↦ is
    | inr differ ↦
        let active = sound.active number one at_one in
        let holds_one = holds.of_segments number one at_one in
        absurd (segment_path-apart view paths.name number other_number
        (omega (arith, within_slots memory.slots number one at_one, sound.places)) (small other_number other at_other)
        differ (same_path memory view name settings number ∙ sym active.path
        ∙ same_paths mid one.handle other.handle holds_one.0 (has_view.of_segments other_number other at_other)
        (sym same) ∙ paths.segments other_number other at_other))
  ]

  not_management : (number : ℕ) (other : HeldSegment) → segment_at view.slots number ≡ Some other →
      other.handle.id ≢ memory.management.id
  not_management number other at same =
      let holds_management = holds.of_management in
      management_path-apart view paths.name number (small number other at)
      (same_management_path memory view name settings ∙ sym sound.path
      ∙ same_paths mid memory.management other.handle holds_management.0 (has_view.of_segments number other at)
      (sym same) ∙ paths.segments number other at)

  -- ---- the segment of a number, if one is given, is given up where it isn't counted

  pub retired_leaves : (retired : Option ℕ) (handle : Handle) →
      ((number : ℕ) → retired ≡ Some number → IsSpared (segment_at view.slots number) handle) →
      LeavesHandle mid (after_retiring_of mid view.slots retired) handle
  retired_leaves None handle spared = LeavesHandle-same mid handle
  retired_leaves (Some number) handle spared = from (segment_at view.slots number) refl
    where
      from : (slot : Option HeldSegment) → segment_at view.slots number ≡ slot →
          LeavesHandle mid (after_retiring mid slot) handle
      from None at = LeavesHandle-same mid handle
      from (Some held) at = by_test (held.count == 0) refl
        where
          by_test : (test : Bool) → (held.count == 0) ≡ test →
              LeavesHandle mid (if test then after_close mid held.handle else mid) handle
          by_test true none =
              LeavesHandle-entry mid (after_close mid held.handle) handle
              (entry_of-after_close-other mid held.handle handle.id
              (spared number refl held at (eqb-true held.count 0 none)))
              (guest-names mid held.handle (guests number held at) handle.path)
          by_test false some = LeavesHandle-same mid handle

  retired_opens : (retired : Option ℕ) (handle : Handle) → IsNamed mid handle → Holds mid 1 handle →
      ((number : ℕ) (other : HeldSegment) → segment_at view.slots number ≡ Some other →
      other.handle.id ≡ handle.id → Holds mid 2 handle) →
      StaysOpen mid (after_retiring_of mid view.slots retired) handle
  retired_opens None handle named one shared = StaysOpen-same mid handle named one
  retired_opens (Some number) handle named one shared = from (segment_at view.slots number) refl
    where
      from : (slot : Option HeldSegment) → segment_at view.slots number ≡ slot →
          StaysOpen mid (after_retiring mid slot) handle
      from None at = StaysOpen-same mid handle named one
      from (Some held) at = by_test (held.count == 0)
        where
          by_test : (test : Bool) → StaysOpen mid (if test then after_close mid held.handle else mid) handle
          by_test true =
              StaysOpen-after_close mid held.handle (guests number held at) (has_view.of_segments number held at)
              handle named one (shared number held at)
          by_test false = StaysOpen-same mid handle named one

  -- every name stays
  pub retired_names : (retired : Option ℕ) (path : List ℕ) →
      id_at (after_retiring_of mid view.slots retired) path ≡ id_at mid path
  retired_names None path = refl
  retired_names (Some number) path = from (segment_at view.slots number) refl
    where
      from : (slot : Option HeldSegment) → segment_at view.slots number ≡ slot →
          id_at (after_retiring mid slot) path ≡ id_at mid path
      from None at = refl
      from (Some held) at = by_test (held.count == 0)
        where
          by_test : (test : Bool) → id_at (if test then after_close mid held.handle else mid) path ≡ id_at mid path
          by_test true = guest-names mid held.handle (guests number held at) path
          by_test false = refl

  pub retired_finished : (retired : Option ℕ) → AllFinished mid →
      AllFinished (after_retiring_of mid view.slots retired)
  retired_finished None finished = finished
  retired_finished (Some number) finished = AllFinished-after_retiring mid (segment_at view.slots number) finished

  module _ (retired : Option ℕ) (within : (number : ℕ) → retired ≡ Some number → number < length view.slots)
      (apart : AreApart view.slots) where
    abbrev pub new : Contents T
    new = after_retiring_of mid view.slots retired

    each_open : EachHandle memory.management memory.slots (StaysOpen mid new)
    each_open = record {
      of_management = retired_opens retired memory.management names.of_management holds.of_management
          (λ number other at same. absurd (not_management number other at same));
      of_segments = λ number one at_one.
          retired_opens retired one.handle (names.of_segments number one at_one) (holds.of_segments number one at_one)
          (λ other_number other at_other same.
          let is : number ≡ other_number = same_number number other_number one other at_one at_other same in
          let both = share number one other at_one (ap (segment_at view.slots) is ∙ at_other) in both.1);
    }

    pub retired_HasAll : HasAll new memory
    retired_HasAll = record {
      of_management = let open_one = each_open.of_management in open_one.has;
      of_segments = λ number one at. let open_one = each_open.of_segments number one at in open_one.has;
    }

    pub retired_HoldsAll : HoldsAll new memory
    retired_HoldsAll = record {
      of_management = let open_one = each_open.of_management in open_one.holds;
      of_segments = λ number one at. let open_one = each_open.of_segments number one at in open_one.holds;
    }

    pub retired_NamesAll : NamesAll new memory
    retired_NamesAll = record {
      of_management = let open_one = each_open.of_management in open_one.named;
      of_segments = λ number one at. let open_one = each_open.of_segments number one at in open_one.named;
    }

    pub retired_values : (number : ℕ) → segment_value new memory.slots number ≡ segment_value mid memory.slots number
    retired_values number = from (segment_at memory.slots number) refl
      where
        from : (slot : Option HeldSegment) → segment_at memory.slots number ≡ slot →
            value_in new slot ≡ value_in mid slot
        from None at = refl
        from (Some one) at = let open_one = each_open.of_segments number one at in open_one.value

    pub retired_has_view : EachHandle view.management (without_unused_of view.slots retired) (Has new)
    retired_has_view = retired-HasView mid view paths has_view new retired within (retired_leaves retired)

    pub retired_share : ShareSegments new memory.slots (without_unused_of view.slots retired)
    retired_share number one other at_one at_other =
        let left = retired-lookup view.slots retired within number other at_other in
        let both = share number one other at_one left.0 in
        let leaves : LeavesHandle mid new one.handle =
        retired_leaves retired one.handle (λ gone_number gone held there zero same.
        elim (cases_eq gone_number number) [
          | inl is ↦ left.1 (gone ∙ ap Some is)
              (ap (λ (h : HeldSegment). h.count)
              (same_Some other held (sym left.0 ∙ ap (segment_at view.slots) (sym is) ∙ there)) ∙ zero)
          | inr differ ↦ apart gone_number number held other differ there left.0 (sym same ∙ sym both.0)
        ]) in
        (both.0, leaves.holds 2 (omega arith) (omega arith) both.1)
