-- What the slots of a registry end as of which one was lent.
use Rattle.std.specs.Prelude.{ℕ}
use Rattle.std.specs.Borrow.{MutBor, Fml, RattleType}
use Rattle.std.specs.declared.vec.Vec.{Vec}
use Rattle.std.specs.Vec.{vec_follows_item}
use Rattle.std.specs.declared.alloc.Global.{Global}
use Rattle.std.specs.contracts.alloc.Global as global
use Rattle.std.specs.contracts.impls.GlobalAllocator.TheImpl.{ghosts}
use Rattle.cal_storage.specs.declared.entry.Slot.{Slot}
use Rattle.cal_storage.specs.contracts.entry.Slot as slot

module _ (T : RattleType) where
  -- the slot of the id is the last one that was written
  abbrev pub LendsSlot : MutBor (Vec (Slot T.Denot) Global) → ℕ → MutBor (Slot T.Denot) → Fml
  LendsSlot slots id result = vec_follows_item (slot.the_row T) global.the_row ghosts slots id result
