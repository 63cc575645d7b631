-- What each step of the submission ring does to the pass of the end that makes it.
use Rattle.std.specs.Prelude.{◌≡◌, ℕ, ◌+◌, ◌==◌, false, [], ◌∷◌, ◌++◌, length, map, slice_index, Some, None}
use Rattle.std.specs.Option.{option_to_list}
use Rattle.cal_queue.specs.declared.submission_ring.pass.SendPass.{SendPass}
use Rattle.cal_queue.specs.declared.submission_ring.pass.TakePass.{TakePass}

-- the passes of a new ring
abbrev pub new_send_pass : ℕ → SendPass
new_send_pass buffer = record {
  buffer = buffer;
  sent = [];
  overflowed = [];
  seen_read = 0;
  loads = 0;
  lost_exchanges = 0;
  to_send = None;
  exchange_due = false;
}

abbrev pub new_take_pass : ℕ → TakePass
new_take_pass buffer = record {
  buffer = buffer;
  received = [];
  seen_read = 0;
  seen_write = None;
  seen_value = None;
  read_loads = 0;
  write_loads = 0;
}

-- the sender has loaded the read position
abbrev pub after_read_load : ℕ → SendPass → SendPass
after_read_load position p = record p { seen_read = position; loads = p.loads + 1 }

-- the sender has stored a value into the slot of the next position
abbrev pub after_slot_store : ℕ → SendPass → SendPass
after_slot_store value p = record p { to_send = Some value }

-- the sender has stored the write position, so that the value that was to be sent is sent. Where the ring had been seen
-- full, an exchange is due
abbrev pub after_write_store : SendPass → SendPass
after_write_store p = record p {
  sent = p.sent ++ option_to_list p.to_send;
  to_send = None;
  exchange_due = length p.sent == p.seen_read + p.buffer;
}

-- the sender has stored a value and then the write position
abbrev pub after_stores : ℕ → SendPass → SendPass
after_stores value p = after_write_store (after_slot_store value p)

-- the sender has moved the read position on, so that the oldest value comes back
abbrev pub after_won_exchange : SendPass → SendPass
after_won_exchange p = record p {
  overflowed = p.overflowed ++ (p.seen_read, slice_index p.sent p.seen_read) ∷ [];
  exchange_due = false;
}

-- the other end had moved the read position on
abbrev pub after_lost_exchange : SendPass → SendPass
after_lost_exchange p = record p { lost_exchanges = p.lost_exchanges + 1; exchange_due = false }

-- the taker has loaded the read position, and what it had loaded before is out of date
abbrev pub after_read_look : ℕ → TakePass → TakePass
after_read_look position p = record p {
  seen_read = position;
  seen_write = None;
  seen_value = None;
  read_loads = p.read_loads + 1;
}

-- the taker has loaded the write position
abbrev pub after_write_look : ℕ → TakePass → TakePass
after_write_look position p = record p { seen_write = Some position; write_loads = p.write_loads + 1 }

-- the taker has loaded the slot of the read position, in which there was a value
abbrev pub after_slot_look : ℕ → TakePass → TakePass
after_slot_look value p = record p { seen_value = Some value }

-- the taker has moved the read position on, so that the value that it loaded is its own
abbrev pub after_take : TakePass → TakePass
after_take p = record p {
  received = p.received ++ map (λ value. (p.seen_read, value)) (option_to_list p.seen_value);
  seen_write = None;
  seen_value = None;
}

-- the sender had moved the read position on
abbrev pub after_miss : TakePass → TakePass
after_miss p = record p { seen_write = None; seen_value = None }

-- nothing is under way: no value is to be sent and no exchange is due
pub record IsIdle (p : SendPass) : Type 0 where
  pub none_to_send : p.to_send ≡ None
  pub none_due : p.exchange_due ≡ false
