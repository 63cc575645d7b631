-- What the calls of a completion ring's two ends do, as a caller of one end knows it: by the pass of that end, which
-- only its own steps change. Each answer tells which steps the call took.
use Rattle.std.specs.Prelude.{◌≡◌, ℕ, ◌+◌, ◌-◌, ◌^◌, ◌<◌, length, Option, Some, None, Result, Ok, Err}
use Rattle.cal_queue.specs.CompletionPass.{after_read_load, after_slot_look, after_write_look, after_read_store, after_slot_store, after_write_store}
use Rattle.cal_queue.specs.declared.completion_ring.get_seat.GetSeat.{GetSeat}
use Rattle.cal_queue.specs.declared.completion_ring.pass.GetPass.{GetPass}
use Rattle.cal_queue.specs.declared.completion_ring.pass.PutPass.{PutPass}
use Rattle.cal_queue.specs.declared.completion_ring.put_seat.PutSeat.{PutSeat}
use Rattle.cal_queue.specs.declared.push_refusal.PushRefusal.{PushRefusal}
use Rattle.cal_queue.specs.declared.push_refusal.PushRefusal.TheVariants.{Full, PositionsUsedUp}

-- what each end knows of the ring
abbrev pub put_pass : PutSeat → PutPass
put_pass put = put.seat.me.0.writer

abbrev pub get_pass : GetSeat → GetPass
get_pass get = get.seat.me.0.reader

-- both are ends of one ring
abbrev pub IsOneRing : PutSeat → GetSeat → Type 0
IsOneRing put get = put.seat.table_id ≡ get.seat.table_id

-- still the putting end, or the getting end, of the same ring
abbrev pub SamePutEnd : PutSeat → PutSeat → Type 0
SamePutEnd old new = (new.seat.table_id ≡ old.seat.table_id) × ((put_pass new).capacity ≡ (put_pass old).capacity)

abbrev pub SameGetEnd : GetSeat → GetSeat → Type 0
SameGetEnd old new = (new.seat.table_id ≡ old.seat.table_id) × ((get_pass new).capacity ≡ (get_pass old).capacity)

-- one load of the read position showed room, and the value was put after all others
pub record Puts (value : ℕ) (before after : PutPass) : Type 0 where
  pub position : ℕ
  pub room : length before.put < position + before.capacity
  pub steps : after ≡ after_write_store (after_slot_store value (after_read_load position before))

-- one load of the read position showed that as many values wait as may, and there was no other step
pub record SeesFull (before after : PutPass) : Type 0 where
  pub position : ℕ
  pub full : length before.put ≡ position + before.capacity
  pub steps : after ≡ after_read_load position before

-- the steps of a push, by its answer: none at all where no position is left
abbrev pub IsPush : {A : Type 0} → ℕ → Result A PushRefusal → PutPass → PutPass → Type 0
IsPush value (Ok done) before after = Puts value before after
IsPush value (Err Full) before after = SeesFull before after
IsPush value (Err PositionsUsedUp) before after = (length before.put ≡ 2 ^ 64 - 1) × (after ≡ before)

-- one load of the write position showed a value that waits, and this value was got after all others
pub record Gets (value : ℕ) (before after : GetPass) : Type 0 where
  pub position : ℕ
  pub waits : length before.got < position
  pub steps : after ≡ after_read_store (after_slot_look value (after_write_look position before))

-- one load of the write position showed that no value waits, and there was no other step
pub record SeesEmpty (before after : GetPass) : Type 0 where
  pub position : ℕ
  pub none_waits : position ≡ length before.got
  pub steps : after ≡ after_write_look position before

-- the steps of a pop, by its answer
abbrev pub IsPop : Option ℕ → GetPass → GetPass → Type 0
IsPop None before after = SeesEmpty before after
IsPop (Some value) before after = Gets value before after
