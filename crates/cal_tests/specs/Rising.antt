-- Values that rise.
use Rattle.std.specs.Prelude.{ℕ, ◌<◌, List, length, slice_index}

-- each value is above those before it
abbrev pub IsRising : List ℕ → Type 0
IsRising values = (i j : ℕ) → i < j → j < length values → slice_index values i < slice_index values j
