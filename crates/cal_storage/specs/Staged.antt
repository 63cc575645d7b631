-- What is known of an entry that is being made.
use Rattle.std.specs.Prelude.{ℕ, List}
use Rattle.cal_storage.specs.Contents.{Handle}

-- the name, the entry, and the room that its initializer has, in bytes
pub record Staged : Type 0 where
  pub name : List ℕ
  pub handle : Handle
  pub room : ℕ
