-- The word of a channel, and the word that says which ports are there, as numbers.
use Rattle.std.specs.Prelude.{ℕ, ◌+◌, ◌-◌, ◌^◌, ◌%◌, Bool, ◌&&◌, ◌||◌, ◌==◌, if◌then◌else◌}
pub use Rattle.cal_queue.specs.StateTable.{has_bit, mark, IsPortWord, IsPortBit}

-- ---- channels

-- the greatest number of which a state can be made
abbrev pub greatest_state : ℕ
greatest_state = 2 ^ 62

-- the word of a closed channel
abbrev pub closed : ℕ
closed = 2 ^ 64 - 1

-- the bit by which a word says that the other side is asked to disconnect
abbrev pub hint_bit : ℕ
hint_bit = 2 ^ 63

-- the word without that bit, and a state with it
abbrev pub without_hint : ℕ → ℕ
without_hint word = word % hint_bit

abbrev pub with_hint : ℕ → ℕ
with_hint state = without_hint state + hint_bit

abbrev pub is_closed : ℕ → Bool
is_closed word = word == closed

-- whether a word is that of a state, whether or not it has the bit
abbrev pub has_state : ℕ → ℕ → Bool
has_state word state = without_hint word == state

-- whether a word is that of a state with the bit
abbrev pub has_hint : ℕ → ℕ → Bool
has_hint word state = word == with_hint state

-- a state is set only on a closed channel
abbrev pub after_set : ℕ → ℕ → ℕ
after_set word state = if is_closed word then state else word

-- the bit is set only on a channel of that state
abbrev pub after_hint : ℕ → ℕ → ℕ
after_hint word state = if word == state then with_hint state else word

-- a channel is closed only where its word is that of the state, with the bit or without
abbrev pub after_close : ℕ → ℕ → ℕ
after_close word state = if word == state || has_hint word state then closed else word

-- ---- ports

-- the bit of the sender, and that of the receiver
abbrev pub sender_bit : ℕ
sender_bit = 1

abbrev pub receiver_bit : ℕ
receiver_bit = 2

-- both ports are there
abbrev pub is_connected : ℕ → Bool
is_connected word = has_bit word sender_bit && has_bit word receiver_bit

-- a port that leaves alone marks the connection
abbrev pub leaves_mark : ℕ → ℕ → Bool
leaves_mark word bit = word == bit

-- a port that leaves another takes its own bit away, and one that isn't there changes nothing
abbrev pub after_leave : ℕ → ℕ → ℕ
after_leave word bit =
    if leaves_mark word bit then mark
    else if has_bit word bit then word - bit
    else word
