-- Which state the words of a completion ring represent, beside the passes of its two ends.
use Rattle.std.specs.Prelude.{◌≡◌, ℕ, ◌+◌, ◌-◌, ◌^◌, ◌<◌, ◌≤◌, List, length, slice_index, take, Some}
use Rattle.atomic_table.specs.Table.{State}
use Rattle.cal_queue.specs.CompletionPass.{new_get_pass, new_put_pass}
use Rattle.cal_queue.specs.RingState.{IsCompleted}
use Rattle.cal_queue.specs.RingWords.{WordsFit, slot_of}
use Rattle.cal_queue.specs.Sides.{HasTwoSides, both_sides, spent_sides}
use Rattle.cal_queue.specs.declared.completion_ring.pass.PutPass.{PutPass}
use Rattle.cal_queue.specs.declared.completion_ring.pass.GetPass.{GetPass}
use Rattle.cal_queue.specs.declared.sided.Sided.{Sided}

-- what was got is the beginning of what was put, and at most the capacity waits
pub record ValuesFit (capacity : ℕ) (put got : List ℕ) : Type 0 where
  pub some_room : 1 ≤ capacity
  pub got_first : got ≡ take (length got) put
  pub room : length put ≤ length got + capacity

-- The putting end's pass. A value that is to be put lies in the next slot, which is free, and its position can be
-- counted
pub record WriterFits (capacity : ℕ) (words got : List ℕ) (p : PutPass) : Type 0 where
  pub sized : p.capacity ≡ capacity
  pub read_within : p.seen_read ≤ length got
  pub to_put_in_slot : (value : ℕ) → p.to_put ≡ Some value
      → slice_index words (slot_of capacity (length p.put)) ≡ value
  pub to_put_room : (value : ℕ) → p.to_put ≡ Some value → length p.put < p.seen_read + capacity
  pub to_put_counts : (value : ℕ) → p.to_put ≡ Some value → length p.put < 2 ^ 64 - 1

-- The getting end's pass. A value that it has loaded waits, and is the one that was put at the read position
pub record ReaderFits (capacity : ℕ) (put : List ℕ) (p : GetPass) : Type 0 where
  pub sized : p.capacity ≡ capacity
  pub write_within : p.seen_write ≤ length put
  pub value_waits : (value : ℕ) → p.seen_value ≡ Some value → length p.got < p.seen_write
  pub value_put : (value : ℕ) → p.seen_value ≡ Some value → slice_index put (length p.got) ≡ value

-- the words and both passes fit together
pub record Fits (capacity : ℕ) (words : List ℕ) (writer : PutPass) (reader : GetPass) : Type 0 where
  pub words_fit : WordsFit capacity words writer.put (length reader.got)
  pub values_fit : ValuesFit capacity writer.put reader.got
  pub writer_fits : WriterFits capacity words reader.got writer
  pub reader_fits : ReaderFits capacity writer.put reader

-- the words and both passes represent a state that a schedule leads to
pub record IsSoundRing (capacity : ℕ) (words : List ℕ) (writer : PutPass) (reader : GetPass) : Type 0 where
  pub fits : Fits capacity words writer reader
  pub reached : IsCompleted capacity writer.put (length reader.got)

-- the rule of a ring's table
abbrev pub IsSoundTable : ℕ → State (Unit {0}) (Sided PutPass GetPass) → Type 0
IsSoundTable capacity = HasTwoSides (IsSoundRing capacity)

-- what the first seat of a new ring has
abbrev pub new_view : ℕ → Sided PutPass GetPass
new_view capacity = both_sides (new_put_pass capacity) (new_get_pass capacity)

abbrev pub spent_view : Sided PutPass GetPass
spent_view = spent_sides (new_put_pass 0) (new_get_pass 0)
