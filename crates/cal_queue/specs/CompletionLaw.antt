-- The completion ring as a machine: its steps, when each may be taken, the moment after it, the event that it means,
-- and the states that its moments represent.
use Rattle.std.specs.Prelude.{◌≡◌, ℕ, ◌+◌, ◌-◌, ◌^◌, ◌<◌, List, [], ◌∷◌, length, map, replicate, slice_index, slice_set, None, IsSome, ⊤}
use Rattle.std.specs.Option.{option_to_list}
use Rattle.cal_queue.specs.CompletionPass.{after_read_load, after_read_store, after_slot_look, after_slot_store, after_write_look, after_write_store, new_get_pass, new_put_pass}
use Rattle.cal_queue.specs.CompletionRule.{Fits}
use Rattle.cal_queue.specs.RingMachine.{Machine, Moment}
use Rattle.cal_queue.specs.RingState.{Event, RingState, reclaims, releases}
use Rattle.cal_queue.specs.RingWords.{slot_of}
use Rattle.cal_queue.specs.declared.completion_ring.pass.GetPass.{GetPass}
use Rattle.cal_queue.specs.declared.completion_ring.pass.PutPass.{PutPass}

abbrev pub RingMoment : Type 0
RingMoment = Moment PutPass GetPass

abbrev pub new_ring : ℕ → RingMoment
new_ring capacity =
    record { words = replicate (capacity + 2) 0; writer = new_put_pass capacity; reader = new_get_pass capacity }

-- the steps of the putting end, and then those of the getting end
pub data RingStep : Type 0 where
  writer_loads_read : RingStep
  writer_stores_slot : ℕ → RingStep
  writer_stores_write : RingStep
  reader_loads_write : RingStep
  reader_loads_slot : RingStep
  reader_stores_read : RingStep

-- when an end may take a step, by its own pass alone
abbrev pub MayStep : ℕ → RingMoment → RingStep → Type 0
MayStep capacity m writer_loads_read = m.writer.to_put ≡ None
MayStep capacity m (writer_stores_slot value) =
    (m.writer.to_put ≡ None) × (length m.writer.put < m.writer.seen_read + capacity)
    × (length m.writer.put < 2 ^ 64 - 1)
MayStep capacity m writer_stores_write = IsSome m.writer.to_put
MayStep capacity m reader_loads_write = ⊤
MayStep capacity m reader_loads_slot = length m.reader.got < m.reader.seen_write
MayStep capacity m reader_stores_read = IsSome m.reader.seen_value

-- the moment after a step
abbrev pub after_step : ℕ → RingMoment → RingStep → RingMoment
after_step capacity m writer_loads_read = record m { writer = after_read_load (slice_index m.words 0) m.writer }
after_step capacity m (writer_stores_slot value) = record m {
  words = slice_set m.words (slot_of capacity (length m.writer.put)) value;
  writer = after_slot_store value m.writer;
}
after_step capacity m writer_stores_write =
    record m { words = slice_set m.words 1 (length m.writer.put + 1); writer = after_write_store m.writer }
after_step capacity m reader_loads_write = record m { reader = after_write_look (slice_index m.words 1) m.reader }
after_step capacity m reader_loads_slot =
    record m { reader = after_slot_look (slice_index m.words (slot_of capacity (length m.reader.got))) m.reader }
after_step capacity m reader_stores_read =
    record m { words = slice_set m.words 0 (length m.reader.got + 1); reader = after_read_store m.reader }

-- the event of each step: the store of the write position releases, the store of the read position reclaims, and no
-- other step is an event
abbrev pub events_of : RingMoment → RingStep → List Event
events_of m writer_loads_read = []
events_of m (writer_stores_slot value) = []
events_of m writer_stores_write = map releases (option_to_list m.writer.to_put)
events_of m reader_loads_write = []
events_of m reader_loads_slot = []
events_of m reader_stores_read = reclaims ∷ []

-- a moment represents a state: its values are those that were released, as many as were got are reclaimed, and the
-- words and both passes fit together. What is sent there and how that left is another ring's to represent
pub record Represents (capacity : ℕ) (m : RingMoment) (c : RingState) : Type 0 where
  pub released : c.released ≡ m.writer.put
  pub reclaimed : c.reclaimed ≡ length m.reader.got
  pub fits : Fits capacity m.words m.writer m.reader

abbrev pub completion_machine : ℕ → Machine RingMoment RingStep
completion_machine capacity = record {
  may = MayStep capacity;
  after = after_step capacity;
  events = events_of;
  represents = Represents capacity;
}
