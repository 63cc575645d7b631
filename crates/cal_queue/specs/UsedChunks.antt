-- A used list as contracts see it: which of the numbers below its capacity are in use.
use Rattle.std.specs.Prelude.{ℕ, ◌-◌, Bool, true, false, List, length, replicate, Option, slice_get, slice_index_or, slice_set}
use Rattle.std.specs.List.{filter, range_with_len}

-- one mark for each number below the capacity, in rising order
pub record UsedChunks : Type 0 where
  pub marks : List Bool

abbrev pub capacity_of : UsedChunks → ℕ
capacity_of used = length used.marks

-- whether a number is in use; none from the capacity on is
abbrev pub contains : UsedChunks → ℕ → Bool
contains used value = slice_index_or used.marks value false

-- the numbers in use, in rising order
abbrev pub members : UsedChunks → List ℕ
members used = filter (contains used) (range_with_len 0 (capacity_of used))

-- the numbers in use from this one on, in rising order
abbrev pub members_from : UsedChunks → ℕ → List ℕ
members_from used start = filter (contains used) (range_with_len start (capacity_of used - start))

-- the first number in use from this one on
abbrev pub next_member : UsedChunks → ℕ → Option ℕ
next_member used from = slice_get (members_from used from) 0

-- the list in which no number is in use
abbrev pub none_used : ℕ → UsedChunks
none_used capacity = record { marks = replicate capacity false }

-- the list with this number in use; all others stay
abbrev pub after_insertion : UsedChunks → ℕ → UsedChunks
after_insertion used value = record { marks = slice_set used.marks value true }

-- the list with this number not in use; all others stay
abbrev pub after_removal : UsedChunks → ℕ → UsedChunks
after_removal used value = record { marks = slice_set used.marks value false }
