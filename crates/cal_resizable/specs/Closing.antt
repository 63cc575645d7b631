-- What it means that a memory or a view closes.
use Rattle.std.specs.Prelude.{◌≢◌, ℕ, ◌+◌, ◌<◌, ◌^◌, Some, None, List, [], ◌∷◌, ⊤}
use Rattle.cal_storage.specs.Contents.{Contents, Has, after_close}
use Rattle.cal_storage.specs.Holding.{Holds}
use Rattle.cal_resizable.specs.Slots.{Handle, Slots}

-- the handles of the segments that are held, by their numbers
abbrev pub held_handles : Slots → List Handle
held_handles [] = []
held_handles (None ∷ slots) = held_handles slots
held_handles (Some held ∷ slots) = held.handle ∷ held_handles slots

-- none of these handles is on the entry of this one
abbrev pub AreElsewhere : Handle → List Handle → Type 0
AreElsewhere handle [] = ⊤
AreElsewhere handle (other ∷ others) = (other.id ≢ handle.id) × AreElsewhere handle others

module _ {T : Type 0} where
  -- a registry after these handles have closed in turn
  abbrev pub after_closing : Contents T → List Handle → Contents T
  after_closing contents [] = contents
  after_closing contents (handle ∷ handles) = after_closing (after_close contents handle) handles

  -- a registry has the entry of each of these handles, and no two are on the same
  abbrev pub CanClose : Contents T → List Handle → Type 0
  CanClose contents [] = ⊤
  CanClose contents (handle ∷ handles) = Has contents handle × AreElsewhere handle handles × CanClose contents handles

  -- of the holders of any entry one is lost at most
  abbrev pub LeavesAllSharers : Contents T → Contents T → Type 0
  LeavesAllSharers old new =
      (count : ℕ) (handle : Handle) → 0 < count → count + 1 < 2 ^ 64 → Holds old (count + 1) handle →
      Holds new count handle
