-- What contracts see of a list of replies.
use Rattle.std.specs.Prelude.{ℕ, List}

-- the replies, and for how many more there is room without taking memory
pub record ReplyList (R : Type 0) : Type 0 where
  pub items : List R
  pub spare : ℕ
