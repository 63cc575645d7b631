-- what a layout is: the size of a chunk in bytes, and the alignment of its first byte
use Rattle.std.specs.Prelude.{ℕ}

pub record SizeAndAlignment : Type 0 where
  pub size : ℕ
  pub alignment : ℕ
