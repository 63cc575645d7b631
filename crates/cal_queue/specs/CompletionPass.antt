-- What each step of the completion ring does to the pass of the end that makes it.
use Rattle.std.specs.Prelude.{ℕ, ◌+◌, [], ◌++◌, Some, None}
use Rattle.std.specs.Option.{option_to_list}
use Rattle.cal_queue.specs.declared.completion_ring.pass.PutPass.{PutPass}
use Rattle.cal_queue.specs.declared.completion_ring.pass.GetPass.{GetPass}

-- the passes of a new ring
abbrev pub new_put_pass : ℕ → PutPass
new_put_pass capacity = record { capacity = capacity; put = []; seen_read = 0; loads = 0; to_put = None }

abbrev pub new_get_pass : ℕ → GetPass
new_get_pass capacity = record { capacity = capacity; got = []; seen_write = 0; loads = 0; seen_value = None }

-- the putting end has loaded the read position
abbrev pub after_read_load : ℕ → PutPass → PutPass
after_read_load position p = record p { seen_read = position; loads = p.loads + 1 }

-- the putting end has stored a value into the slot of the next position
abbrev pub after_slot_store : ℕ → PutPass → PutPass
after_slot_store value p = record p { to_put = Some value }

-- the putting end has stored the write position, so that the value that was to be put is put
abbrev pub after_write_store : PutPass → PutPass
after_write_store p = record p { put = p.put ++ option_to_list p.to_put; to_put = None }

-- the getting end has loaded the write position, and a value that it had loaded before is forgotten
abbrev pub after_write_look : ℕ → GetPass → GetPass
after_write_look position p = record p { seen_write = position; seen_value = None; loads = p.loads + 1 }

-- the getting end has loaded the slot of the read position
abbrev pub after_slot_look : ℕ → GetPass → GetPass
after_slot_look value p = record p { seen_value = Some value }

-- the getting end has stored the read position, so that the value that it loaded is its own
abbrev pub after_read_store : GetPass → GetPass
after_read_store p = record p { got = p.got ++ option_to_list p.seen_value; seen_value = None }
