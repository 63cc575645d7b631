-- The rule of type names.
use Rattle.std.specs.Prelude.{ℕ, ◌≤◌, List, length}

-- any bytes, at most 255
pub record IsTypeName (name : List ℕ) : Type 0 where
  pub fits : length name ≤ 255
