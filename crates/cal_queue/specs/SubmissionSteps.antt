-- What each step on the table of a submission ring tells the end that makes it: its own new pass, and of the other end
-- no more than that a position is at most, or at least, some number.
use Rattle.std.specs.Prelude.{◌≡◌, ◌≢◌, ℕ, ◌+◌, ◌<◌, ◌≤◌, false, List, length}
use Rattle.atomic_table.specs.Table.{Me, Step}
use Rattle.cal_queue.specs.RingState.{IsSubmitted, Tag, received, overflowed, tagged_positions}
use Rattle.cal_queue.specs.Sides.{with_writer, with_reader}
use Rattle.cal_queue.specs.SubmissionPass.{after_read_load, after_slot_store, after_write_store, after_won_exchange, after_lost_exchange, after_read_look, after_write_look, after_slot_look, after_take, after_miss}
use Rattle.cal_queue.specs.declared.sided.Sided.{Sided}
use Rattle.cal_queue.specs.declared.submission_ring.pass.SendPass.{SendPass}
use Rattle.cal_queue.specs.declared.submission_ring.pass.TakePass.{TakePass}

abbrev pub End : Type 0
End = Me (Unit {0}) (Sided SendPass TakePass)

-- the sender loads the read position
abbrev pub WriterLoadsRead : Step (Unit {0}) → End → ℕ → End → Type 0
WriterLoadsRead step me position me' =
    (me' ≡ with_writer me (after_read_load position me.0.writer)) × (position ≤ length me.0.writer.sent)
    × (length me.0.writer.sent ≤ position + me.0.writer.buffer)

-- the sender stores a value into the next slot
abbrev pub WriterStoresSlot : Step (Unit {0}) → End → ℕ → End → Type 0
WriterStoresSlot step me value me' = me' ≡ with_writer me (after_slot_store value me.0.writer)

-- the sender stores the write position
abbrev pub WriterStoresWrite : Step (Unit {0}) → End → ℕ → End → Type 0
WriterStoresWrite step me position me' = me' ≡ with_writer me (after_write_store me.0.writer)

-- the sender exchanges the read position
abbrev pub WriterExchangesRead : Step (Unit {0}) → End → ℕ → End → Type 0
WriterExchangesRead step me position me' =
    (position ≡ me.0.writer.seen_read → (me' ≡ with_writer me (after_won_exchange me.0.writer))
    × (length me.0.writer.overflowed < length me.0.writer.sent))
    × (position ≢ me.0.writer.seen_read → me' ≡ with_writer me (after_lost_exchange me.0.writer))

-- the taker loads the read position
abbrev pub ReaderLoadsRead : Step (Unit {0}) → End → ℕ → End → Type 0
ReaderLoadsRead step me position me' = me' ≡ with_reader me (after_read_look position me.0.reader)

-- the taker loads the write position
abbrev pub ReaderLoadsWrite : Step (Unit {0}) → End → ℕ → End → Type 0
ReaderLoadsWrite step me position me' = (me' ≡ with_reader me (after_write_look position me.0.reader))
    × (me.0.reader.seen_read ≤ position)

-- the taker loads the slot of the read position
abbrev pub ReaderLoadsSlot : Step (Unit {0}) → End → ℕ → End → Type 0
ReaderLoadsSlot step me value me' = me' ≡ with_reader me (after_slot_look value me.0.reader)

-- the taker exchanges the read position
abbrev pub ReaderExchangesRead : Step (Unit {0}) → End → ℕ → End → Type 0
ReaderExchangesRead step me position me' =
    (position ≡ me.0.reader.seen_read → (length me.0.reader.received ≤ me.0.reader.seen_read)
    × (me' ≡ with_reader me (after_take me.0.reader)))
    × (position ≢ me.0.reader.seen_read → me' ≡ with_reader me (after_miss me.0.reader))

-- with both ends in hand: how the values sent are spread over those received, those returned and those left
pub record IsSettled (writer : SendPass) (reader : TakePass) (position : ℕ) (tags : List Tag) : Type 0 where
  pub read_position : position ≡ length tags
  pub read_within : length tags ≤ length writer.sent
  pub room : writer.exchange_due ≡ false → length writer.sent ≤ length tags + writer.buffer
  pub overflowed_tagged : writer.overflowed ≡ tagged_positions overflowed 0 tags writer.sent
  pub received_tagged : reader.received ≡ tagged_positions received 0 tags writer.sent
  pub submitted : IsSubmitted writer.buffer writer.sent tags

abbrev pub Settles : Step (Unit {0}) → End → ℕ → End → Type 0
Settles step me position me' = (me' ≡ me) × ((tags : List Tag) × IsSettled me.0.writer me.0.reader position tags)
