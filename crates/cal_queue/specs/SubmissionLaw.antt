-- The submission ring as a machine: its steps, when each may be taken, the moment after it, the event that it means,
-- and the states that its moments represent.
use Rattle.std.specs.Prelude.{◌≡◌, ℕ, ◌+◌, ◌-◌, ◌^◌, ◌<◌, ◌≤◌, ◌==◌, Bool, true, false, List, [], ◌∷◌, length, map, replicate, slice_index, slice_set, Option, Some, None, IsSome, nat_lt, if◌then◌else◌, ⊤}
use Rattle.std.specs.Option.{option_to_list}
use Rattle.cal_queue.specs.RingMachine.{Machine, Moment}
use Rattle.cal_queue.specs.RingState.{Event, RingState, overflows, receives, sends}
use Rattle.cal_queue.specs.RingWords.{slot_of}
use Rattle.cal_queue.specs.SubmissionPass.{IsIdle, after_lost_exchange, after_miss, after_read_load, after_read_look, after_slot_look, after_slot_store, after_take, after_won_exchange, after_write_look, after_write_store, new_send_pass, new_take_pass}
use Rattle.cal_queue.specs.SubmissionRule.{Fits}
use Rattle.cal_queue.specs.declared.submission_ring.pass.SendPass.{SendPass}
use Rattle.cal_queue.specs.declared.submission_ring.pass.TakePass.{TakePass}

abbrev pub RingMoment : Type 0
RingMoment = Moment SendPass TakePass

abbrev pub new_ring : ℕ → RingMoment
new_ring buffer =
    record { words = replicate (buffer + 3) 0; writer = new_send_pass buffer; reader = new_take_pass buffer }

-- the steps of the sending end, and then those of the taking end
pub data RingStep : Type 0 where
  writer_loads_read : RingStep
  writer_stores_slot : ℕ → RingStep
  writer_stores_write : RingStep
  writer_exchanges_read : RingStep
  reader_loads_read : RingStep
  reader_loads_write : RingStep
  reader_loads_slot : RingStep
  reader_exchanges_read : RingStep

-- when an end may take a step, by its own pass alone
abbrev pub MayStep : ℕ → RingMoment → RingStep → Type 0
MayStep buffer m writer_loads_read = IsIdle m.writer
MayStep buffer m (writer_stores_slot value) =
    IsIdle m.writer × (length m.writer.sent ≤ m.writer.seen_read + buffer) × (length m.writer.sent < 2 ^ 64 - 1)
MayStep buffer m writer_stores_write = IsSome m.writer.to_send
MayStep buffer m writer_exchanges_read = m.writer.exchange_due ≡ true
MayStep buffer m reader_loads_read = ⊤
MayStep buffer m reader_loads_write = ⊤
MayStep buffer m reader_loads_slot = ⊤
MayStep buffer m reader_exchanges_read = IsSome m.reader.seen_value

-- whether the taker has found the write position ahead of the read position
abbrev pub is_ahead : ℕ → Option ℕ → Bool
is_ahead read None = false
is_ahead read (Some write) = nat_lt read write

-- the moment after a step. An exchange is won where the read position is still the one that was loaded, and a slot is
-- loaded where the write position was found ahead
abbrev pub after_step : ℕ → RingMoment → RingStep → RingMoment
after_step buffer m writer_loads_read = record m { writer = after_read_load (slice_index m.words 0) m.writer }
after_step buffer m (writer_stores_slot value) = record m {
  words = slice_set m.words (slot_of (buffer + 1) (length m.writer.sent)) value;
  writer = after_slot_store value m.writer;
}
after_step buffer m writer_stores_write =
    record m { words = slice_set m.words 1 (length m.writer.sent + 1); writer = after_write_store m.writer }
after_step buffer m writer_exchanges_read =
    if slice_index m.words 0 == m.writer.seen_read
    then record m { words = slice_set m.words 0 (m.writer.seen_read + 1); writer = after_won_exchange m.writer }
    else record m { writer = after_lost_exchange m.writer }
after_step buffer m reader_loads_read = record m { reader = after_read_look (slice_index m.words 0) m.reader }
after_step buffer m reader_loads_write = record m { reader = after_write_look (slice_index m.words 1) m.reader }
after_step buffer m reader_loads_slot =
    if is_ahead m.reader.seen_read m.reader.seen_write
    then record m { reader = after_slot_look (slice_index m.words (slot_of (buffer + 1) m.reader.seen_read)) m.reader }
    else m
after_step buffer m reader_exchanges_read =
    if slice_index m.words 0 == m.reader.seen_read
    then record m { words = slice_set m.words 0 (m.reader.seen_read + 1); reader = after_take m.reader }
    else record m { reader = after_miss m.reader }

-- the event of each step: the store of the write position sends, an exchange that the sender wins overflows, one that
-- the taker wins receives, and no other step is an event
abbrev pub events_of : RingMoment → RingStep → List Event
events_of m writer_loads_read = []
events_of m (writer_stores_slot value) = []
events_of m writer_stores_write = map sends (option_to_list m.writer.to_send)
events_of m writer_exchanges_read = if slice_index m.words 0 == m.writer.seen_read then overflows ∷ [] else []
events_of m reader_loads_read = []
events_of m reader_loads_write = []
events_of m reader_loads_slot = []
events_of m reader_exchanges_read = if slice_index m.words 0 == m.reader.seen_read then receives ∷ [] else []

-- a moment represents a state: its values are those sent, and its tags fit the words and both passes. What is released
-- and reclaimed there is another ring's to represent
pub record Represents (buffer : ℕ) (m : RingMoment) (c : RingState) : Type 0 where
  pub sent : c.sent ≡ m.writer.sent
  pub fits : Fits buffer m.words m.writer m.reader c.tags

abbrev pub submission_machine : ℕ → Machine RingMoment RingStep
submission_machine buffer = record {
  may = MayStep buffer;
  after = after_step buffer;
  events = events_of;
  represents = Represents buffer;
}
