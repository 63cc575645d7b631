-- What the two workers of a relay have done at their ports, each of which has the one channel 0.
use Rattle.std.specs.Prelude.{ℕ, ◌≡◌, ◌≤◌, false, true, List, length, map, Option, Some, None, Ok}
use Rattle.std.specs.List.{range_with_len}
use Rattle.cal_alloc.specs.PointerOffset.{pointer_offset}
use Rattle.cal_queue.specs.StateTable.{channel_index}
use Rattle.cal_connection.specs.Channel.{is_used}
use Rattle.cal_connection.specs.Words.{is_closed}
use Rattle.cal_shared.specs.Channels.{SendingChannel}
use Rattle.cal_shared.specs.Port.{AtWords, OnChannel, ReceivingPort, SendingPort, channel_at}
use Rattle.cal_shared.specs.Receiving.{Receives}
use Rattle.cal_shared.specs.Rest.{received_at, released_at, sent_at}
use Rattle.cal_shared.specs.Sending.{segments_at}
use Rattle.cal_shared.specs.Words.{ClosesChannel, LoadsWord}

-- the state in which the channel begins
abbrev pub open_state : ℕ
open_state = 0

-- the offsets below the count, in rising order
abbrev pub relayed_offsets : ℕ → List ℕ
relayed_offsets count = map (λ (index : ℕ). pointer_offset index 0) (range_with_len 0 count)

-- The offsets below the count were sent in rising order, and no sample from there on is in use
pub record HasSent (count : ℕ) (port : SendingPort) : Type 0 where
  pub sent : sent_at port 0 ≡ relayed_offsets count
  pub unused : (index : ℕ) → count ≤ index → is_used (segments_at port 0) 0 index ≡ false

-- the last look at what came back showed that all of it was taken
abbrev pub TookAll : Option SendingChannel → Type 0
TookAll None = ⊥
TookAll (Some channel) = channel.completion.seen_write ≡ length channel.completion.got

abbrev pub HasReclaimedAll : SendingPort → Type 0
HasReclaimedAll port = TookAll (channel_at port 0)

-- the sender sent the offsets below the count, and then closed the channel
pub record HasEnded (count : ℕ) (port : SendingPort) : Type 0 where
  pub before : SendingPort
  pub sent : HasSent count before
  pub closed : AtWords (ClosesChannel 0 open_state) before port

-- all that the sender did at the words that both ports share: it closed the channel once
abbrev pub ClosesRelay : SendingPort → SendingPort → Type 0
ClosesRelay before after = ClosesChannel 0 open_state before.states after.states

-- each offset that was received was given back, in the order in which they came
abbrev pub HasGivenBackAll : ReceivingPort → Type 0
HasGivenBackAll port = released_at port 0 ≡ map (λ (entry : ℕ × ℕ). entry.1) (received_at port 0)

-- the receiver saw the channel closed, and then received nothing
pub record HasSeenEnd (port : ReceivingPort) : Type 0 where
  pub before : ReceivingPort
  pub looked : ReceivingPort
  pub closed : AtWords (LoadsWord (channel_index 0) is_closed true) before looked
  pub nothing : OnChannel 0 (Receives looked.settings.max_borrowed_samples (Ok None)) looked port
