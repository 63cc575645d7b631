-- What a registry ends as of which a value was lent.
use Rattle.std.specs.Prelude.{ℕ}
use Rattle.std.specs.Borrow.{Lends, MutBor, Fml, RattleType}
use Rattle.cal_storage.specs.contracts.registry.Registry.{the_row}
use Rattle.cal_storage.specs.Contents.{with_value}

module _ (T : RattleType) where
  -- the entry of the id has the last value
  abbrev pub LendsValue : MutBor (the_row T).Denot → ℕ → MutBor T.Denot → Fml
  LendsValue registry id value = Lends (the_row T) T registry value (λ last. with_value registry.now id last)
