-- The words of a ring's table, which both rings lay out alike: the read position, the write position, and then the
-- slots, which the positions use in turn.
use Rattle.std.specs.Prelude.{◌≡◌, ℕ, ◌+◌, ◌%◌, ◌<◌, ◌≤◌, List, length, slice_index}

-- the index of the word that is a position's slot
abbrev pub slot_of : ℕ → ℕ → ℕ
slot_of slots position = position % slots + 2

-- the words show the read position, and as the write position the number of values; each value from the read position
-- on lies in its slot
pub record WordsFit (slots : ℕ) (words values : List ℕ) (read : ℕ) : Type 0 where
  pub sized : length words ≡ slots + 2
  pub read_position : slice_index words 0 ≡ read
  pub write_position : slice_index words 1 ≡ length values
  pub read_within : read ≤ length values
  pub in_slots : (position : ℕ) → read ≤ position → position < length values
      → slice_index words (slot_of slots position) ≡ slice_index values position
