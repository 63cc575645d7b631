-- A step of the ledger: the reply that a command owes, and the ledger after it.
use Rattle.std.specs.Prelude.{ℕ, ◌+◌, ◌*◌, ◌/◌, ◌%◌, ◌≡◌, Bool, true, false, ◌&&◌, ◌==◌, nat_lt, IsTrue, if◌then◌else◌, length, take, drop, map, replicate, slice_set, List, [], ◌∷◌, ◌++◌, Option, Some, None, option_map, option_to_list}
use Rattle.cal_transport.specs.declared.command.Command.{Command}
use Rattle.cal_transport.specs.declared.command.Command.TheVariants as command
use Rattle.cal_transport.specs.declared.reply.Reply.{Reply}
use Rattle.cal_transport.specs.declared.reply.Reply.TheVariants.{Loaned, Written, Sent, Received, Shown, Released, Reclaimed, Discarded, Counted, Refused}
use Rattle.cal_transport.specs.declared.reply.Slot.{Slot}
use Rattle.cal_transport.specs.declared.reply.Count.{Count}
use Rattle.cal_transport.specs.declared.reply.Refusal.{Refusal}
use Rattle.cal_transport.specs.Ledger.{Ledger, Chunk, ChannelHistory, ByReceive, ByOverflow, history_on, layout_at, current, chunk_named, is_free, is_mapped, queued_names, completed_names, active_segments, mapped_segments}
use Rattle.cal_transport.specs.LoanCause.{serves, next_segment}
use Rattle.cal_transport.specs.Cause.{cause, current_segment, is_buffer_full}

-- ---- slots

-- the first name of a list, if there is one
abbrev pub front : List ℕ → Option ℕ
front [] = None
front (name ∷ names) = Some name

-- where a chunk lies: its bucket's place in bytes
abbrev pub slot_of : Ledger → Chunk → Slot
slot_of l chunk = record {
  chunk = chunk.name;
  segment = chunk.segment;
  place = chunk.bucket * (layout_at l chunk.segment).size;
}

-- where the chunk of that name lies, if there is one of that name
abbrev pub slot_named : Ledger → Option ℕ → Option Slot
slot_named l None = None
slot_named l (Some name) = option_map (slot_of l) (chunk_named l name)

-- ---- the change of each command that has no cause

-- the next segment is made where the current one doesn't serve
abbrev pub grown_ledger : Ledger → ℕ → ℕ → Ledger
grown_ledger l size alignment =
    if serves (current_segment l) size alignment then l
    else record l { segments = l.segments ++ next_segment (current_segment l) size alignment ∷ [] }

-- a chunk that was just loaned: its bytes are zeros, as many as the bucket has
abbrev pub new_chunk : ℕ → ℕ → ℕ → ℕ → Chunk
new_chunk name segment bucket size = record {
  name = name;
  segment = segment;
  bucket = bucket;
  bytes = replicate size 0;
  loaned = true;
  sent = false;
}

-- a chunk of that name takes the bucket at a place of the current segment
abbrev pub with_loan_at : Ledger → ℕ → ℕ → Ledger
with_loan_at l name place =
    let size = (layout_at l (current l)).size in
    record l { chunks = l.chunks ++ new_chunk name (current l) (place / size) size ∷ [] }

-- the chunk of a name is changed, and no other
abbrev pub with_changed_chunk : (Chunk → Chunk) → ℕ → List Chunk → List Chunk
with_changed_chunk change name = map (λ chunk. if chunk.name == name then change chunk else chunk)

abbrev pub with_chunk : Ledger → ℕ → (Chunk → Chunk) → Ledger
with_chunk l name change = record l { chunks = with_changed_chunk change name l.chunks }

abbrev pub with_history : Ledger → ℕ → ChannelHistory → Ledger
with_history l number channel = record l { histories = slice_set l.histories number channel }

-- bytes, with others put over them from a place on
abbrev pub with_bytes : List ℕ → ℕ → List ℕ → List ℕ
with_bytes bytes at others = take at bytes ++ others ++ drop (at + length others) bytes

-- the chunk that a send takes back: the oldest, where the buffer is full
abbrev pub name_sent_back : Ledger → ChannelHistory → Option ℕ
name_sent_back l channel = if is_buffer_full l channel then front (queued_names channel) else None

-- the chunk is queued, and another left by overflow, if one did
abbrev pub history_after_send : ChannelHistory → ℕ → Option ℕ → ChannelHistory
history_after_send channel name back = record channel {
  sent = channel.sent ++ name ∷ [];
  departures = channel.departures ++ map ByOverflow (option_to_list back);
}

-- the receiver takes a chunk from the queue, if there is one
abbrev pub history_after_receive : ChannelHistory → Option ℕ → ChannelHistory
history_after_receive channel taken =
    record channel { departures = channel.departures ++ map ByReceive (option_to_list taken) }

-- the receiver gives a chunk back
abbrev pub history_after_release : ChannelHistory → ℕ → ChannelHistory
history_after_release channel name = record channel { released = channel.released ++ name ∷ [] }

-- a completed chunk comes back to the sender, if there is one
abbrev pub history_after_reclaim : ChannelHistory → Option ℕ → ChannelHistory
history_after_reclaim channel back = record channel { reclaimed = channel.reclaimed ++ option_to_list back }

-- the view opens the segment of a received chunk, unless it has it
abbrev pub opened_after_receive : Ledger → Option Chunk → Option ℕ
opened_after_receive l None = l.opened_last
opened_after_receive l (Some chunk) = if is_mapped l chunk.segment then l.opened_last else Some chunk.segment

-- the chunk that a receive takes, if one is queued
abbrev pub chunk_to_receive : Ledger → Option ℕ → Option Chunk
chunk_to_receive l None = None
chunk_to_receive l (Some name) = chunk_named l name

-- what a loan changes: the reply tells the bucket
abbrev pub after_loan : Ledger → ℕ → Reply → Ledger
after_loan l name (Loaned slot) = with_loan_at l name slot.place
after_loan l name reply = l

-- what a command without a cause changes; its place in the list names a new chunk
abbrev pub after_command : Ledger → ℕ → Command → Reply → Ledger
after_command l place (command.Loan size alignment) reply = after_loan (grown_ledger l size alignment) place reply
after_command l place (command.Write name at bytes) reply =
    with_chunk l name (λ chunk. record chunk { bytes = with_bytes chunk.bytes at bytes })
after_command l place (command.Send channel name) reply =
    let history = history_on l channel in
    with_chunk (with_history l channel (history_after_send history name (name_sent_back l history))) name
    (λ chunk. record chunk { sent = true })
after_command l place (command.Receive channel) reply =
    let history = history_on l channel in
    let taken = front (queued_names history) in
    record (with_history l channel (history_after_receive history taken))
    { opened_last = opened_after_receive l (chunk_to_receive l taken) }
after_command l place (command.Release channel name) reply =
    with_history l channel (history_after_release (history_on l channel) name)
after_command l place (command.Reclaim channel) reply =
    let history = history_on l channel in
    with_history l channel (history_after_reclaim history (front (completed_names history)))
after_command l place (command.Discard name) reply = with_chunk l name (λ chunk. record chunk { loaned = false })
after_command l place (command.Read channel name at length) reply = l
after_command l place command.Count reply = l

-- ---- the reply that each command without a cause owes

-- a place of the current segment is the start of a bucket that is free
abbrev pub is_free_place : Ledger → ℕ → Bool
is_free_place l place =
    let buckets = layout_at l (current l) in
    place % buckets.size == 0 && nat_lt (place / buckets.size) buckets.count && is_free l (current l)
    (place / buckets.size)

-- the loan is in any free bucket of the current segment
abbrev pub IsLoan : Ledger → ℕ → Reply → Type 0
IsLoan l name (Loaned slot) =
    (slot.chunk ≡ name) × (slot.segment ≡ current l) × IsTrue (is_free_place l slot.place)
IsLoan l name reply = ⊥

-- bytes of a chunk, from a place on
abbrev pub bytes_of_chunk : Option Chunk → ℕ → ℕ → List ℕ
bytes_of_chunk None at length = []
bytes_of_chunk (Some chunk) at length = take length (drop at chunk.bytes)

abbrev pub count_of : Ledger → Count
count_of l = record {
  active = length (active_segments l);
  mapped = length (mapped_segments l);
  current = current l;
  size = (layout_at l (current l)).size;
  buckets = (layout_at l (current l)).count;
}

abbrev pub Owes : Ledger → ℕ → Command → Reply → Type 0
Owes l place (command.Loan size alignment) reply = IsLoan (grown_ledger l size alignment) place reply
Owes l place (command.Write name at bytes) reply = reply ≡ Written
Owes l place (command.Send channel name) reply = reply ≡ Sent (slot_named l (name_sent_back l (history_on l channel)))
Owes l place (command.Receive channel) reply =
    reply ≡ Received (slot_named l (front (queued_names (history_on l channel))))
Owes l place (command.Read channel name at length) reply = reply ≡ Shown (bytes_of_chunk (chunk_named l name) at length)
Owes l place (command.Release channel name) reply = reply ≡ Released
Owes l place (command.Reclaim channel) reply =
    reply ≡ Reclaimed (slot_named l (front (completed_names (history_on l channel))))
Owes l place (command.Discard name) reply = reply ≡ Discarded
Owes l place command.Count reply = reply ≡ Counted (count_of l)

-- ---- steps

abbrev pub IsStepBy : Option Refusal → Ledger → ℕ → Command → Reply → Type 0
IsStepBy None l place asked reply = Owes l place asked reply
IsStepBy (Some refusal) l place asked reply = reply ≡ Refused refusal

abbrev pub after_step_by : Option Refusal → Ledger → ℕ → Command → Reply → Ledger
after_step_by None l place asked reply = after_command l place asked reply
after_step_by (Some refusal) l place asked reply = l

-- the reply answers the command at its place in the list: it is the refusal of its first cause, or what it owes
abbrev pub IsStep : Ledger → ℕ → Command → Reply → Type 0
IsStep l place asked reply = IsStepBy (cause l asked) l place asked reply

-- the ledger after the answer: a refused command changes nothing
abbrev pub after_step : Ledger → ℕ → Command → Reply → Ledger
after_step l place asked reply = after_step_by (cause l asked) l place asked reply
