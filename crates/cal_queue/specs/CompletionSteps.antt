-- What each step on the table of a completion ring tells the end that makes it: its own new pass, and of the other end
-- no more than that a position is at most, or at least, some number.
use Rattle.std.specs.Prelude.{◌≡◌, ℕ, ◌+◌, ◌≤◌, length, take}
use Rattle.atomic_table.specs.Table.{Me, Step}
use Rattle.cal_queue.specs.CompletionPass.{after_read_load, after_slot_look, after_write_look, after_read_store, after_slot_store, after_write_store}
use Rattle.cal_queue.specs.RingState.{IsCompleted}
use Rattle.cal_queue.specs.Sides.{with_reader, with_writer}
use Rattle.cal_queue.specs.declared.completion_ring.pass.PutPass.{PutPass}
use Rattle.cal_queue.specs.declared.completion_ring.pass.GetPass.{GetPass}
use Rattle.cal_queue.specs.declared.sided.Sided.{Sided}

abbrev pub End : Type 0
End = Me (Unit {0}) (Sided PutPass GetPass)

-- the putting end loads the read position
pub record WriterLoadsRead (step : Step (Unit {0})) (me : End) (position : ℕ) (me' : End) : Type 0 where
  pub loaded : me' ≡ with_writer me (after_read_load position me.0.writer)
  pub within : position ≤ length me.0.writer.put
  pub room : length me.0.writer.put ≤ position + me.0.writer.capacity

-- the putting end stores a value into the next slot
abbrev pub WriterStoresSlot : Step (Unit {0}) → End → ℕ → End → Type 0
WriterStoresSlot step me value me' = me' ≡ with_writer me (after_slot_store value me.0.writer)

-- the putting end stores the write position
abbrev pub WriterStoresWrite : Step (Unit {0}) → End → ℕ → End → Type 0
WriterStoresWrite step me position me' = me' ≡ with_writer me (after_write_store me.0.writer)

-- the getting end loads the write position
pub record ReaderLoadsWrite (step : Step (Unit {0})) (me : End) (position : ℕ) (me' : End) : Type 0 where
  pub loaded : me' ≡ with_reader me (after_write_look position me.0.reader)
  pub within : length me.0.reader.got ≤ position

-- the getting end loads the slot of the read position
abbrev pub ReaderLoadsSlot : Step (Unit {0}) → End → ℕ → End → Type 0
ReaderLoadsSlot step me value me' = me' ≡ with_reader me (after_slot_look value me.0.reader)

-- the getting end stores the read position
abbrev pub ReaderStoresRead : Step (Unit {0}) → End → ℕ → End → Type 0
ReaderStoresRead step me position me' = me' ≡ with_reader me (after_read_store me.0.reader)

-- with both ends in hand: what was got is the beginning of what was put, and some schedule released and reclaimed as
-- much
pub record IsSettled (writer : PutPass) (reader : GetPass) : Type 0 where
  pub got_first : reader.got ≡ take (length reader.got) writer.put
  pub read_within : length reader.got ≤ length writer.put
  pub room : length writer.put ≤ length reader.got + writer.capacity
  pub completed : IsCompleted writer.capacity writer.put (length reader.got)

pub record Settles (step : Step (Unit {0})) (me : End) (position : ℕ) (me' : End) : Type 0 where
  pub same : me' ≡ me
  pub settled : IsSettled me.0.writer me.0.reader
