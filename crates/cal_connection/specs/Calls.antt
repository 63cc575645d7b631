-- Calls of both ports of a connection, one after the other, with whatever the caller hands to them: what each answers,
-- and what it leaves.
use Rattle.std.specs.Prelude.{◌≡◌, ℕ, ◌<◌, ◌/◌, ◌%◌, Bool, true, not, ◌&&◌, ◌==◌, nat_lt, List, [], ◌∷◌, length, Option, Result, Ok, Err, slice_index_or, slice_set, if◌then◌else◌}
use Rattle.std.specs.List.{filter}
use Rattle.cal_alloc.specs.PointerOffset.{offset_of, segment_of}
use Rattle.cal_storage.specs.Contents.{Contents, Has}
use Rattle.cal_connection.specs.declared.errors.ZeroCopySendError.{ZeroCopySendError}
use Rattle.cal_connection.specs.declared.errors.ZeroCopySendError.TheVariants.{ReceiveBufferFull}
use Rattle.cal_connection.specs.declared.errors.ZeroCopyReceiveError.{ZeroCopyReceiveError}
use Rattle.cal_connection.specs.declared.errors.ZeroCopyReclaimError.{ZeroCopyReclaimError}
use Rattle.cal_connection.specs.declared.errors.ZeroCopyReleaseError.{ZeroCopyReleaseError}
use Rattle.cal_connection.specs.declared.port_call.PortCall.{PortCall}
use Rattle.cal_connection.specs.declared.port_call.PortCall.TheVariants.{Send, Receive, Release, Reclaim}
use Rattle.cal_connection.specs.declared.port_reply.PortReply.{PortReply}
use Rattle.cal_connection.specs.declared.port_reply.PortReply.TheVariants.{Sent, Full, Broken, Received, OverLimit, Released, CompletionFull, Reclaimed, Corrupted, Unsuited}
use Rattle.cal_connection.specs.declared.segment_details.SegmentDetails.{SegmentDetails}
use Rattle.cal_connection.specs.declared.settings.ConnectionSettings.{ConnectionSettings}
use Rattle.cal_connection.specs.Channel.{is_used, send_answer, receive_answer, release_answer, reclaim_answer}
use Rattle.cal_connection.specs.Port.{PortEntry, SenderEnd, ReceiverEnd, IsSendable, IsSoundPort, channel_at, with_channel, port_at, with_port, settings_at}
use Rattle.cal_connection.specs.Traffic.{ChannelCall, sends, receives, releases, reclaims, Side, side_after}

-- ---- what both ends have

-- the entry that both ends see, and how many offsets the receiver borrows from each channel
pub record BothEnds : Type 0 where
  pub port : PortEntry
  pub borrow_counts : List ℕ

abbrev pub ends_of : Contents PortEntry → ReceiverEnd → BothEnds
ends_of contents receiver =
    record { port = port_at contents receiver.handle; borrow_counts = receiver.borrow_counts }

abbrev pub with_counts : ReceiverEnd → List ℕ → ReceiverEnd
with_counts receiver counts = record receiver { borrow_counts = counts }

-- what they have of one channel, and the ends in which that is this
abbrev pub side_at : BothEnds → ℕ → Side
side_at ends channel = record {
  channel = channel_at ends.port channel;
  count = slice_index_or ends.borrow_counts channel 0;
}

abbrev pub with_side : BothEnds → ℕ → Side → BothEnds
with_side ends channel side = record {
  port = with_channel ends.port channel side.channel;
  borrow_counts = slice_set ends.borrow_counts channel side.count;
}

-- The entry is sound, and there is a borrow count for each of its channels.
pub record IsSoundPair (ends : BothEnds) : Type 0 where
  pub sound : IsSoundPort ends.port
  pub counts : length ends.borrow_counts ≡ ends.port.settings.number_of_channels

-- A sender and a receiver are the ends of one entry, and the receiver has a borrow count for each of its channels.
pub record AreJoined (contents : Contents PortEntry) (sender : SenderEnd) (receiver : ReceiverEnd) : Type 0 where
  pub sender_there : Has contents sender.handle
  pub receiver_there : Has contents receiver.handle
  pub same : sender.handle.id ≡ receiver.handle.id
  pub counts : length receiver.borrow_counts ≡ (settings_at contents receiver.handle).number_of_channels

-- ---- calls

-- the channel that a call names, and what it asks there
abbrev pub called_channel : PortCall → ℕ
called_channel (Send channel pointer sample_size) = channel
called_channel (Receive channel) = channel
called_channel (Release channel pointer) = channel
called_channel (Reclaim channel) = channel

abbrev pub channel_call : PortCall → ChannelCall
channel_call (Send channel pointer sample_size) = sends pointer sample_size
channel_call (Receive channel) = receives
channel_call (Release channel pointer) = releases pointer
channel_call (Reclaim channel) = reclaims

-- ---- conditions

-- the condition of a call, as the ports state it
abbrev pub IsSuited : BothEnds → PortCall → Type 0
IsSuited ends (Send channel pointer sample_size) = IsSendable ends.port channel pointer sample_size
IsSuited ends (Receive channel) = channel < ends.port.settings.number_of_channels
IsSuited ends (Release channel pointer) =
    (channel < ends.port.settings.number_of_channels) × (0 < slice_index_or ends.borrow_counts channel 0)
IsSuited ends (Reclaim channel) = channel < ends.port.settings.number_of_channels

-- whether an offset and a sample size are within the settings, and the sample isn't in use
abbrev pub is_free_sample : ConnectionSettings → List SegmentDetails → ℕ → ℕ → Bool
is_free_sample settings segments pointer sample_size =
    nat_lt 0 sample_size
    && offset_of pointer % sample_size == 0
    && nat_lt (segment_of pointer) settings.number_of_segments
    && nat_lt (offset_of pointer / sample_size) settings.number_of_samples
    && not (is_used segments (segment_of pointer) (offset_of pointer / sample_size))

-- whether a channel that is there is as a call wants it
abbrev pub serves_call : ConnectionSettings → Side → ChannelCall → Bool
serves_call settings side (sends pointer sample_size) =
    is_free_sample settings side.channel.segments pointer sample_size
serves_call settings side receives = true
serves_call settings side (releases pointer) = nat_lt 0 side.count
serves_call settings side reclaims = true

-- whether the condition of a call on a channel holds
abbrev pub is_suited_on : ConnectionSettings → ℕ → Side → ChannelCall → Bool
is_suited_on settings channel side asked =
    nat_lt channel settings.number_of_channels && serves_call settings side asked

abbrev pub is_suited : BothEnds → PortCall → Bool
is_suited ends call =
    is_suited_on ends.port.settings (called_channel call) (side_at ends (called_channel call)) (channel_call call)

-- ---- replies

-- the replies that stand for the answers of the ports
abbrev pub sent_reply : Result (Option ℕ) ZeroCopySendError → PortReply
sent_reply (Ok back) = Sent back
sent_reply (Err ReceiveBufferFull) = Full
sent_reply (Err _) = Broken

abbrev pub received_reply : Result (Option ℕ) ZeroCopyReceiveError → PortReply
received_reply (Ok taken) = Received taken
received_reply (Err error) = OverLimit

abbrev pub released_reply : Result (Unit {0}) ZeroCopyReleaseError → PortReply
released_reply (Ok done) = Released
released_reply (Err error) = CompletionFull

abbrev pub reclaimed_reply : Result (Option ℕ) ZeroCopyReclaimError → PortReply
reclaimed_reply (Ok back) = Reclaimed back
reclaimed_reply (Err error) = Corrupted

-- the reply to a call whose condition holds
abbrev pub suited_reply : ConnectionSettings → Side → ChannelCall → PortReply
suited_reply settings side (sends pointer sample_size) =
    sent_reply (send_answer settings.enable_safe_overflow side.channel pointer sample_size)
suited_reply settings side receives =
    received_reply (receive_answer settings.max_borrowed_samples side.count side.channel)
suited_reply settings side (releases pointer) = released_reply (release_answer side.channel)
suited_reply settings side reclaims = reclaimed_reply (reclaim_answer side.channel)

-- ---- one call

-- the reply to a call on a channel, and what it leaves there; a call that isn't suited changes nothing
abbrev pub reply_on : ConnectionSettings → ℕ → Side → ChannelCall → PortReply
reply_on settings channel side asked =
    if is_suited_on settings channel side asked then suited_reply settings side asked else Unsuited

abbrev pub side_left : ConnectionSettings → ℕ → Side → ChannelCall → Side
side_left settings channel side asked =
    if is_suited_on settings channel side asked
    then side_after settings.enable_safe_overflow settings.max_borrowed_samples side asked
    else side

-- the reply to a call, and the ends after it
abbrev pub reply_to : BothEnds → PortCall → PortReply
reply_to ends call =
    reply_on ends.port.settings (called_channel call) (side_at ends (called_channel call)) (channel_call call)

abbrev pub after_call : BothEnds → PortCall → BothEnds
after_call ends call =
    with_side ends (called_channel call)
    (side_left ends.port.settings (called_channel call) (side_at ends (called_channel call)) (channel_call call))

-- A call is made: what it answers and leaves at both ends, and that all else is as before.
pub record MakesCall (old : Contents PortEntry) (before : ReceiverEnd) (call : PortCall) (reply : PortReply)
    (new : Contents PortEntry) (after : ReceiverEnd) : Type 0 where
  pub answers : reply ≡ reply_to (ends_of old before) call
  pub leaves : ends_of new after ≡ after_call (ends_of old before) call
  pub entry_alone : new ≡ with_port old before.handle (port_at new before.handle)
  pub counts_alone : after ≡ with_counts before after.borrow_counts

-- ---- any calls

-- the replies to calls, and the ends after them
abbrev pub replies_to : BothEnds → List PortCall → List PortReply
replies_to ends [] = []
replies_to ends (call ∷ calls) = reply_to ends call ∷ replies_to (after_call ends call) calls

abbrev pub after_calls : BothEnds → List PortCall → BothEnds
after_calls ends [] = ends
after_calls ends (call ∷ calls) = after_calls (after_call ends call) calls

-- ---- one channel

-- whether a call names this channel
abbrev pub is_on : ℕ → PortCall → Bool
is_on channel call = called_channel call == channel

-- the calls that name a channel, and the replies to these
abbrev pub calls_on : ℕ → List PortCall → List PortCall
calls_on channel calls = filter (is_on channel) calls

abbrev pub replies_on : ℕ → List PortCall → List PortReply → List PortReply
replies_on channel [] replies = []
replies_on channel (call ∷ calls) [] = []
replies_on channel (call ∷ calls) (reply ∷ replies) =
    if is_on channel call then reply ∷ replies_on channel calls replies else replies_on channel calls replies
