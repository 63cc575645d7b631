-- How a step moves one channel.
use Rattle.std.specs.Prelude.{ℕ, ◌<◌, ◌≡◌, ◌≢◌, true, length, List, [], ◌∷◌, Option, Some, None}
use Rattle.std.specs.List.{slice_get}
use Rattle.cal_transport.specs.declared.command.Command.{Command}
use Rattle.cal_transport.specs.declared.command.Command.TheVariants as command
use Rattle.cal_transport.specs.declared.reply.Reply.{Reply}
use Rattle.cal_transport.specs.declared.reply.Reply.TheVariants.{Sent, Received, Released, Reclaimed, Refused}
use Rattle.cal_transport.specs.declared.reply.Slot.{Slot}
use Rattle.cal_transport.specs.declared.reply.Refusal.{Refusal}
use Rattle.cal_transport.specs.Settings.{completion_size}
use Rattle.cal_transport.specs.Ledger.{Ledger, Chunk, ChannelHistory, queued_names, completed_names, is_borrowed, borrow_count}
use Rattle.cal_transport.specs.Cause.{cause}
use Rattle.cal_transport.specs.Step.{history_after_send, history_after_receive, history_after_release, history_after_reclaim}
use Rattle.cal_transport.specs.Soundness.{weight}

-- the channel that a command names
abbrev pub channel_of : Command → Option ℕ
channel_of (command.Loan size alignment) = None
channel_of (command.Write name at bytes) = None
channel_of (command.Send channel name) = Some channel
channel_of (command.Receive channel) = Some channel
channel_of (command.Read channel name at len) = None
channel_of (command.Release channel name) = Some channel
channel_of (command.Reclaim channel) = Some channel
channel_of (command.Discard name) = None
channel_of command.Count = None

-- a loaned chunk whose bucket the connection can name
pub record IsSendable (l : Ledger) (name : ℕ) : Type 0 where
  pub index : ℕ
  pub chunk : Chunk
  pub stands : slice_get l.chunks index ≡ Some chunk
  pub same_name : chunk.name ≡ name
  pub loaned : chunk.loaned ≡ true
  pub segment : chunk.segment < l.settings.segments
  pub bucket : chunk.bucket < l.settings.samples

-- why a step leaves a channel as it was
pub data LeavesAlone (l : Ledger) (k : ℕ) (asked : Command) (reply : Reply) (c : ChannelHistory) : Type 0 where
  Refuses : (refusal : Refusal) → cause l asked ≡ Some refusal → reply ≡ Refused refusal →
      LeavesAlone l k asked reply c
  Elsewhere : cause l asked ≡ None → channel_of asked ≢ Some k → LeavesAlone l k asked reply c
  ReceivesNone : asked ≡ command.Receive k → reply ≡ Received None → queued_names c ≡ [] →
      LeavesAlone l k asked reply c
  ReclaimsNone : asked ≡ command.Reclaim k → reply ≡ Reclaimed None → completed_names c ≡ [] →
      LeavesAlone l k asked reply c

-- a chunk is sent, and the queue has room
pub record Sends (l : Ledger) (k : ℕ) (asked : Command) (reply : Reply) (old new : ChannelHistory) : Type 0 where
  pub name : ℕ
  pub asked_is : asked ≡ command.Send k name
  pub none : cause l asked ≡ None
  pub replied : reply ≡ Sent None
  pub chunk : IsSendable l name
  pub new_here : weight old name ≡ 0
  pub room : length (queued_names old) < l.settings.buffer
  pub made : new ≡ history_after_send old name None

-- a chunk is sent, and takes the place of the oldest in a full queue
pub record Overflows (l : Ledger) (k : ℕ) (asked : Command) (reply : Reply) (old new : ChannelHistory) : Type 0 where
  pub name : ℕ
  pub oldest : ℕ
  pub rest : List ℕ
  pub slot : Slot
  pub asked_is : asked ≡ command.Send k name
  pub none : cause l asked ≡ None
  pub replied : reply ≡ Sent (Some slot)
  pub told : slot.chunk ≡ oldest
  pub allowed : l.settings.overflow ≡ true
  pub chunk : IsSendable l name
  pub new_here : weight old name ≡ 0
  pub front : queued_names old ≡ oldest ∷ rest
  pub made : new ≡ history_after_send old name (Some oldest)

pub record Receives (l : Ledger) (k : ℕ) (asked : Command) (reply : Reply) (old new : ChannelHistory) : Type 0 where
  pub name : ℕ
  pub rest : List ℕ
  pub slot : Slot
  pub asked_is : asked ≡ command.Receive k
  pub replied : reply ≡ Received (Some slot)
  pub told : slot.chunk ≡ name
  pub front : queued_names old ≡ name ∷ rest
  pub room : borrow_count old < l.settings.borrow
  pub made : new ≡ history_after_receive old (Some name)

pub record Releases (l : Ledger) (k : ℕ) (asked : Command) (reply : Reply) (old new : ChannelHistory) : Type 0 where
  pub name : ℕ
  pub asked_is : asked ≡ command.Release k name
  pub replied : reply ≡ Released
  pub borrowed : is_borrowed old name ≡ true
  pub room : length (completed_names old) < completion_size l.settings
  pub made : new ≡ history_after_release old name

pub record Reclaims (l : Ledger) (k : ℕ) (asked : Command) (reply : Reply) (old new : ChannelHistory) : Type 0 where
  pub name : ℕ
  pub rest : List ℕ
  pub slot : Slot
  pub asked_is : asked ≡ command.Reclaim k
  pub replied : reply ≡ Reclaimed (Some slot)
  pub told : slot.chunk ≡ name
  pub front : completed_names old ≡ name ∷ rest
  pub made : new ≡ history_after_reclaim old (Some name)

-- what the answer to a command makes of a channel
pub data Move (l : Ledger) (k : ℕ) (asked : Command) (reply : Reply) (old new : ChannelHistory) : Type 0 where
  Stays : LeavesAlone l k asked reply old → new ≡ old → Move l k asked reply old new
  BySend : Sends l k asked reply old new → Move l k asked reply old new
  ByOverflow : Overflows l k asked reply old new → Move l k asked reply old new
  ByReceive : Receives l k asked reply old new → Move l k asked reply old new
  ByRelease : Releases l k asked reply old new → Move l k asked reply old new
  ByReclaim : Reclaims l k asked reply old new → Move l k asked reply old new
