-- What commands and their replies tell of a channel, without a ledger.
use Rattle.std.specs.Prelude.{ℕ, ◌==◌, if◌then◌else◌, List, [], ◌∷◌, ◌++◌, map, Option, option_to_list}
use Rattle.cal_transport.specs.declared.command.Command.{Command}
use Rattle.cal_transport.specs.declared.command.Command.TheVariants as command
use Rattle.cal_transport.specs.declared.reply.Reply.{Reply}
use Rattle.cal_transport.specs.declared.reply.Reply.TheVariants.{Sent, Received, Released, Reclaimed}
use Rattle.cal_transport.specs.declared.reply.Slot.{Slot}
use Rattle.cal_transport.specs.Ledger.{ChannelHistory, Departure, ByReceive, ByOverflow, new_history}

-- one history, and then another
abbrev pub followed_by : ChannelHistory → ChannelHistory → ChannelHistory
followed_by first next = record {
  sent = first.sent ++ next.sent;
  departures = first.departures ++ next.departures;
  released = first.released ++ next.released;
  reclaimed = first.reclaimed ++ next.reclaimed;
}

-- a chunk left the queue, if one did
abbrev pub departed : (ℕ → Departure) → Option Slot → List Departure
departed way slot = map (λ s. way s.chunk) (option_to_list slot)

-- the answer to a send of that name
abbrev pub told_by_send : ℕ → Reply → ChannelHistory
told_by_send name (Sent back) = record new_history { sent = name ∷ []; departures = departed ByOverflow back }
told_by_send name reply = new_history

abbrev pub told_by_receive : Reply → ChannelHistory
told_by_receive (Received taken) = record new_history { departures = departed ByReceive taken }
told_by_receive reply = new_history

-- the answer to a release of that name
abbrev pub told_by_release : ℕ → Reply → ChannelHistory
told_by_release name Released = record new_history { released = name ∷ [] }
told_by_release name reply = new_history

abbrev pub told_by_reclaim : Reply → ChannelHistory
told_by_reclaim (Reclaimed back) = record new_history { reclaimed = map (λ s. s.chunk) (option_to_list back) }
told_by_reclaim reply = new_history

-- what the answer to a command tells of a channel
abbrev pub told_by : ℕ → Command → Reply → ChannelHistory
told_by k (command.Send channel name) reply = if channel == k then told_by_send name reply else new_history
told_by k (command.Receive channel) reply = if channel == k then told_by_receive reply else new_history
told_by k (command.Release channel name) reply = if channel == k then told_by_release name reply else new_history
told_by k (command.Reclaim channel) reply = if channel == k then told_by_reclaim reply else new_history
told_by k (command.Loan size alignment) reply = new_history
told_by k (command.Write name at bytes) reply = new_history
told_by k (command.Read channel name at length) reply = new_history
told_by k (command.Discard name) reply = new_history
told_by k command.Count reply = new_history

-- the history of a channel that commands and their replies tell
abbrev pub told_history : ℕ → List Command → List Reply → ChannelHistory
told_history k commands [] = new_history
told_history k [] (reply ∷ replies) = new_history
told_history k (asked ∷ commands) (reply ∷ replies) =
    followed_by (told_by k asked reply) (told_history k commands replies)
