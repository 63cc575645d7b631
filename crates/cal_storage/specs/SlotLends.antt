-- What a slot ends as whose value was lent.
use Rattle.std.specs.Borrow.{Lends, MutBor, Fml, RattleType}
use Rattle.cal_storage.specs.contracts.entry.Slot.{the_row}
use Rattle.cal_storage.specs.Contents.{slot_with_value}

module _ (T : RattleType) where
  -- it has the last value
  abbrev pub LendsValue : MutBor (the_row T).Denot → MutBor T.Denot → Fml
  LendsValue slot value = Lends (the_row T) T slot value (λ last. slot_with_value last slot.now)
