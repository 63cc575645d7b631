-- Why a command is refused: for each command the first cause that holds, if any does.
use Rattle.std.specs.Prelude.{ℕ, ◌+◌, Bool, not, ◌&&◌, ◌||◌, nat_lt, nat_le, if◌then◌else◌, length, Option, Some, None}
use Rattle.cal_transport.specs.declared.command.Command.{Command}
use Rattle.cal_transport.specs.declared.command.Command.TheVariants as command
use Rattle.cal_transport.specs.declared.reply.Refusal.{Refusal}
use Rattle.cal_transport.specs.declared.reply.Refusal.TheVariants.{NotLoaned, WriteAfterSend, OutsideChunk, OutsideConnection, AlreadyInTransit, ReceiveBufferFull, ReceiveWouldExceedMaxBorrowValue, NotBorrowed, RetrieveBufferFull}
use Rattle.cal_transport.specs.Settings.{completion_size}
use Rattle.cal_transport.specs.LoanCause.{CurrentSegment, loan_cause}
use Rattle.cal_transport.specs.Ledger.{Ledger, Chunk, ChannelHistory, history_on, layout_at, current, chunk_named, loaned_chunk, has_free_bucket, queued_names, completed_names, is_borrowed, borrow_count, is_in_transit}

-- ---- loans

-- no bucket of the current segment is free
abbrev pub is_full : Ledger → Bool
is_full l = not (has_free_bucket l (current l))

-- what a loan looks at
abbrev pub current_segment : Ledger → CurrentSegment
current_segment l = record {
  strategy = l.settings.strategy;
  number = current l;
  layout = layout_at l (current l);
  full = is_full l;
}

-- ---- chunks and channels

-- these bytes pass the end of the chunk's bucket
abbrev pub exceeds_bucket : Ledger → Chunk → ℕ → ℕ → Bool
exceeds_bucket l chunk at length = nat_lt (layout_at l chunk.segment).size (at + length)

-- the connection has no such channel
abbrev pub is_channel_outside : Ledger → ℕ → Bool
is_channel_outside l channel = nat_le l.settings.channels channel

-- the connection can't name the chunk's bucket
abbrev pub is_bucket_outside : Ledger → Chunk → Bool
is_bucket_outside l chunk = nat_le l.settings.segments chunk.segment || nat_le l.settings.samples chunk.bucket

-- as many chunks are queued as the buffer holds
abbrev pub is_buffer_full : Ledger → ChannelHistory → Bool
is_buffer_full l channel = nat_le l.settings.buffer (length (queued_names channel))

abbrev pub write_cause : Ledger → Option Chunk → ℕ → ℕ → Option Refusal
write_cause l None at length = Some NotLoaned
write_cause l (Some chunk) at length =
    if chunk.sent then Some WriteAfterSend
    else if exceeds_bucket l chunk at length then Some OutsideChunk
    else None

abbrev pub send_cause : Ledger → ℕ → Option Chunk → Option Refusal
send_cause l channel None = Some NotLoaned
send_cause l channel (Some chunk) =
    if is_channel_outside l channel || is_bucket_outside l chunk then Some OutsideConnection
    else if is_in_transit (history_on l channel) chunk.name then Some AlreadyInTransit
    else if not l.settings.overflow && is_buffer_full l (history_on l channel) then Some ReceiveBufferFull
    else None

abbrev pub receive_cause : Ledger → ℕ → Option Refusal
receive_cause l channel =
    if is_channel_outside l channel then Some OutsideConnection
    else if nat_le l.settings.borrow (borrow_count (history_on l channel)) then Some ReceiveWouldExceedMaxBorrowValue
    else None

abbrev pub read_cause : Ledger → ℕ → Option Chunk → ℕ → ℕ → Option Refusal
read_cause l channel None at length = if is_channel_outside l channel then Some OutsideConnection else Some NotBorrowed
read_cause l channel (Some chunk) at length =
    if is_channel_outside l channel then Some OutsideConnection
    else if not (is_borrowed (history_on l channel) chunk.name) then Some NotBorrowed
    else if exceeds_bucket l chunk at length then Some OutsideChunk
    else None

abbrev pub release_cause : Ledger → ℕ → ℕ → Option Refusal
release_cause l channel name =
    if is_channel_outside l channel then Some OutsideConnection
    else if not (is_borrowed (history_on l channel) name) then Some NotBorrowed
    else if nat_le (completion_size l.settings) (length (completed_names (history_on l channel))) then Some
    RetrieveBufferFull
    else None

abbrev pub reclaim_cause : Ledger → ℕ → Option Refusal
reclaim_cause l channel = if is_channel_outside l channel then Some OutsideConnection else None

abbrev pub discard_cause : Option Chunk → Option Refusal
discard_cause None = Some NotLoaned
discard_cause (Some chunk) = None

-- the first cause of a command that holds in a ledger
abbrev pub cause : Ledger → Command → Option Refusal
cause l (command.Loan size alignment) = loan_cause (current_segment l) size alignment
cause l (command.Write name at bytes) = write_cause l (loaned_chunk l name) at (length bytes)
cause l (command.Send channel name) = send_cause l channel (loaned_chunk l name)
cause l (command.Receive channel) = receive_cause l channel
cause l (command.Read channel name at length) = read_cause l channel (chunk_named l name) at length
cause l (command.Release channel name) = release_cause l channel name
cause l (command.Reclaim channel) = reclaim_cause l channel
cause l (command.Discard name) = discard_cause (loaned_chunk l name)
cause l command.Count = None
