-- Which state the words of a submission ring represent, beside the passes of its two ends.
use Rattle.std.specs.Prelude.{◌≡◌, ℕ, ◌+◌, ◌-◌, ◌^◌, ◌<◌, ◌≤◌, true, false, List, length, slice_index, Some, None}
use Rattle.atomic_table.specs.Table.{State}
use Rattle.cal_queue.specs.RingState.{Tag, received, overflowed, IsSubmitted, tagged_positions}
use Rattle.cal_queue.specs.RingWords.{WordsFit, slot_of}
use Rattle.cal_queue.specs.Sides.{HasTwoSides, both_sides, spent_sides}
use Rattle.cal_queue.specs.SubmissionPass.{new_send_pass, new_take_pass}
use Rattle.cal_queue.specs.declared.sided.Sided.{Sided}
use Rattle.cal_queue.specs.declared.submission_ring.pass.SendPass.{SendPass}
use Rattle.cal_queue.specs.declared.submission_ring.pass.TakePass.{TakePass}

-- The sender's pass. A value that is to be sent lies in the next slot, which is free, and its position can be counted.
-- While an exchange is due, one value more is queued than the buffer holds
pub record WriterFits (buffer : ℕ) (words : List ℕ) (tags : List Tag) (p : SendPass) : Type 0 where
  pub sized : p.buffer ≡ buffer
  pub overflowed_tagged : p.overflowed ≡ tagged_positions overflowed 0 tags p.sent
  pub read_within : p.seen_read ≤ length tags
  pub room : p.exchange_due ≡ false → length p.sent ≤ length tags + buffer
  pub due_room : p.exchange_due ≡ true → length p.sent ≤ length tags + buffer + 1
  pub due_read : p.exchange_due ≡ true → length p.sent ≡ p.seen_read + buffer + 1
  pub due_none_to_send : p.exchange_due ≡ true → p.to_send ≡ None
  pub to_send_in_slot : (value : ℕ) → p.to_send ≡ Some value
      → slice_index words (slot_of (buffer + 1) (length p.sent)) ≡ value
  pub to_send_room : (value : ℕ) → p.to_send ≡ Some value → length p.sent ≤ p.seen_read + buffer
  pub to_send_counts : (value : ℕ) → p.to_send ≡ Some value → length p.sent < 2 ^ 64 - 1

-- The taker's pass. A value that it has loaded was queued, and is the one that was sent there unless its position has
-- left the ring meanwhile
pub record ReaderFits (buffer : ℕ) (sent : List ℕ) (tags : List Tag) (p : TakePass) : Type 0 where
  pub sized : p.buffer ≡ buffer
  pub received_tagged : p.received ≡ tagged_positions received 0 tags sent
  pub read_within : p.seen_read ≤ length tags
  pub write_within : (write : ℕ) → p.seen_write ≡ Some write → write ≤ length sent
  pub write_not_behind : (write : ℕ) → p.seen_write ≡ Some write → p.seen_read ≤ write
  pub value_queued : (value : ℕ) → p.seen_value ≡ Some value
      → (write : ℕ) × (p.seen_write ≡ Some write) × (p.seen_read < write)
  pub value_sent : (value : ℕ) → p.seen_value ≡ Some value
      → length tags ≡ p.seen_read → slice_index sent p.seen_read ≡ value

-- the words and both passes fit together, where the values at the first positions left the ring with these tags. There
-- is one slot more than the buffer, for the value that makes the oldest one overflow
pub record Fits (buffer : ℕ) (words : List ℕ) (writer : SendPass) (reader : TakePass) (tags : List Tag) : Type 0 where
  pub words_fit : WordsFit (buffer + 1) words writer.sent (length tags)
  pub writer_fits : WriterFits buffer words tags writer
  pub reader_fits : ReaderFits buffer writer.sent tags reader

-- the words and both passes represent a state that a schedule leads to
abbrev pub IsSoundRing : ℕ → List ℕ → SendPass → TakePass → Type 0
IsSoundRing buffer words writer reader =
    (tags : List Tag) × Fits buffer words writer reader tags × IsSubmitted buffer writer.sent tags

-- the rule of a ring's table
abbrev pub IsSoundTable : ℕ → State (Unit {0}) (Sided SendPass TakePass) → Type 0
IsSoundTable buffer = HasTwoSides (IsSoundRing buffer)

-- what the first seat of a new ring has
abbrev pub new_view : ℕ → Sided SendPass TakePass
new_view buffer = both_sides (new_send_pass buffer) (new_take_pass buffer)

abbrev pub spent_view : Sided SendPass TakePass
spent_view = spent_sides (new_send_pass 0) (new_take_pass 0)
