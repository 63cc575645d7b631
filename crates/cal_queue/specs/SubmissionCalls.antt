-- What the calls of a submission ring's two ends do, as a caller of one end knows it: by the pass of that end, which
-- only its own steps change. Each answer tells which steps the call took.
use Rattle.std.specs.Prelude.{◌≡◌, ℕ, ◌+◌, ◌-◌, ◌^◌, ◌<◌, ◌⊎◌, Bool, IsFalse, IsTrue, List, [], ◌∷◌, ◌++◌, length, slice_get, Option, Some, None, Result, Ok, Err}
use Rattle.cal_queue.specs.RingState.{IsSubmitted, Tag, overflowed, received, tagged_positions}
use Rattle.cal_queue.specs.SubmissionPass.{after_lost_exchange, after_miss, after_read_load, after_read_look, after_slot_look, after_stores, after_take, after_won_exchange, after_write_look}
use Rattle.cal_queue.specs.declared.push_refusal.PushRefusal.{PushRefusal}
use Rattle.cal_queue.specs.declared.push_refusal.PushRefusal.TheVariants.{Full, PositionsUsedUp}
use Rattle.cal_queue.specs.declared.submission_ring.pass.SendPass.{SendPass}
use Rattle.cal_queue.specs.declared.submission_ring.pass.TakePass.{TakePass}
use Rattle.cal_queue.specs.declared.submission_ring.send_seat.SendSeat.{SendSeat}
use Rattle.cal_queue.specs.declared.submission_ring.take_seat.TakeSeat.{TakeSeat}

-- what each end knows of the ring
abbrev pub send_pass : SendSeat → SendPass
send_pass s = s.seat.me.0.writer

abbrev pub take_pass : TakeSeat → TakePass
take_pass t = t.seat.me.0.reader

-- both are ends of one ring
abbrev pub IsOneRing : SendSeat → TakeSeat → Type 0
IsOneRing s t = s.seat.table_id ≡ t.seat.table_id

-- still the sending end, or the taking end, of the same ring
abbrev pub SameSendEnd : SendSeat → SendSeat → Type 0
SameSendEnd old new = (new.seat.table_id ≡ old.seat.table_id) × ((send_pass new).buffer ≡ (send_pass old).buffer)

abbrev pub SameTakeEnd : TakeSeat → TakeSeat → Type 0
SameTakeEnd old new = (new.seat.table_id ≡ old.seat.table_id) × ((take_pass new).buffer ≡ (take_pass old).buffer)

-- ---- the sender

-- nothing was sent and nothing overflowed
abbrev pub SameLists : SendPass → SendPass → Type 0
SameLists old new = (new.sent ≡ old.sent) × (new.overflowed ≡ old.overflowed)

-- the pass after a load of the read position and the stores that send a value
abbrev pub after_send : ℕ → ℕ → SendPass → SendPass
after_send position value p = after_stores value (after_read_load position p)

-- one load of the read position showed that fewer values waited than the buffer holds, and the value was sent after all
-- others
pub record Sends (value : ℕ) (before after : SendPass) : Type 0 where
  pub position : ℕ
  pub room : length before.sent < position + before.buffer
  pub steps : after ≡ after_send position value before

-- one load of the read position showed that as many values waited as the buffer holds. The value was sent after all
-- others, and by the exchange that followed the oldest one overflowed, with the value that was sent there
pub record Overflows (oldest value : ℕ) (before after : SendPass) : Type 0 where
  pub position : ℕ
  pub full : length before.sent ≡ position + before.buffer
  pub steps : after ≡ after_won_exchange (after_send position value before)
  pub overflowed_last : after.overflowed ≡ before.overflowed ++ (position, oldest) ∷ []
  pub sent_there : slice_get after.sent position ≡ Some oldest

-- the same, but the exchange came too late, since the oldest value was received meanwhile
pub record LosesExchange (value : ℕ) (before after : SendPass) : Type 0 where
  pub position : ℕ
  pub full : length before.sent ≡ position + before.buffer
  pub steps : after ≡ after_lost_exchange (after_send position value before)

-- one load of the read position showed that as many values waited as the buffer holds, and there was no other step
pub record SeesFull (before after : SendPass) : Type 0 where
  pub position : ℕ
  pub full : length before.sent ≡ position + before.buffer
  pub steps : after ≡ after_read_load position before

-- the steps of a push that sent a value and gave nothing back, or the oldest value
abbrev pub IsSend : Bool → ℕ → Option ℕ → SendPass → SendPass → Type 0
IsSend overflow value None before after =
    Sends value before after ⊎ (IsTrue overflow × LosesExchange value before after)
IsSend overflow value (Some oldest) before after = IsTrue overflow × Overflows oldest value before after

-- the steps of a push, by its answer: none at all where no position is left
abbrev pub IsPush : Bool → ℕ → Result (Option ℕ) PushRefusal → SendPass → SendPass → Type 0
IsPush overflow value (Ok back) before after = IsSend overflow value back before after
IsPush overflow value (Err Full) before after = IsFalse overflow × SeesFull before after
IsPush overflow value (Err PositionsUsedUp) before after = (length before.sent ≡ 2 ^ 64 - 1) × (after ≡ before)

-- the read position was loaded once, and there was no other step
abbrev pub LoadsOnce : SendPass → SendPass → Type 0
LoadsOnce old new = new ≡ after_read_load new.seen_read old

-- ---- the taker

-- what a turn loaded whose exchange came too late
pub record LostTurn : Type 0 where
  pub read : ℕ
  pub write : ℕ

-- the pass after such a turn, and after several
abbrev pub after_lost_turn : LostTurn → TakePass → TakePass
after_lost_turn turn p = after_miss (after_write_look turn.write (after_read_look turn.read p))

abbrev pub after_lost_turns : List LostTurn → TakePass → TakePass
after_lost_turns [] p = p
after_lost_turns (turn ∷ turns) p = after_lost_turns turns (after_lost_turn turn p)

-- some turns, none of which took a value
pub record LosesTurns (before after : TakePass) : Type 0 where
  pub turns : List LostTurn
  pub steps : after ≡ after_lost_turns turns before

-- after some lost turns, both positions were loaded and a value waited; it was loaded, and the exchange that followed
-- took it
pub record Takes (value : ℕ) (before after : TakePass) : Type 0 where
  pub turns : List LostTurn
  pub read : ℕ
  pub write : ℕ
  pub waits : read < write
  pub steps : after
      ≡ after_take (after_slot_look value
      (after_write_look write (after_read_look read (after_lost_turns turns before))))

-- after some lost turns, both positions were loaded, and the write position was found where the read position had been
-- before
pub record SeesEmpty (before after : TakePass) : Type 0 where
  pub turns : List LostTurn
  pub position : ℕ
  pub steps : after ≡ after_write_look position (after_read_look position (after_lost_turns turns before))

-- the steps of a pop, by its answer
abbrev pub IsPop : Option ℕ → TakePass → TakePass → Type 0
IsPop None before after = SeesEmpty before after
IsPop (Some value) before after = Takes value before after

-- the read position was loaded once and then the write position, and there was no other step
abbrev pub LooksOnce : TakePass → TakePass → Type 0
LooksOnce old new = (written : ℕ) × (new ≡ after_write_look written (after_read_look new.seen_read old))

-- ---- both

-- a schedule of the channel leads to these lists
abbrev pub IsScheduled : SendPass → TakePass → Type 0
IsScheduled send take = (tags : List Tag) × IsSubmitted send.buffer send.sent tags
    × (send.overflowed ≡ tagged_positions overflowed 0 tags send.sent)
    × (take.received ≡ tagged_positions received 0 tags send.sent)
