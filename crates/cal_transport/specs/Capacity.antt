-- A channel's completion queue is large enough, over places in commands and replies alone.
use Rattle.std.specs.Prelude.{ℕ, ◌<◌, ◌≡◌, List, Option, Some, None}
use Rattle.std.specs.List.{slice_get}
use Rattle.cal_transport.specs.declared.command.Command.{Command}
use Rattle.cal_transport.specs.declared.command.Command.TheVariants.{Send, Release, Reclaim}
use Rattle.cal_transport.specs.declared.reply.Reply.{Reply}
use Rattle.cal_transport.specs.declared.reply.Reply.TheVariants.{Sent, Reclaimed, Refused}
use Rattle.cal_transport.specs.declared.reply.Slot.{Slot}
use Rattle.cal_transport.specs.declared.reply.Refusal.TheVariants.{RetrieveBufferFull}

-- the command at a place, from zero, has this reply
pub record IsAnswered (commands : List Command) (replies : List Reply) (place : ℕ) (asked : Command) (reply : Reply) :
    Type 0 where
  pub asked_there : slice_get commands place ≡ Some asked
  pub replied_there : slice_get replies place ≡ Some reply

-- a chunk is sent there
pub record IsAcceptedSend (channel : ℕ) (commands : List Command) (replies : List Reply) (place : ℕ) : Type 0 where
  pub name : ℕ
  pub back : Option Slot
  pub answered : IsAnswered commands replies place (Send channel name) (Sent back)

-- a reclaim there finds nothing
pub record IsEmptyReclaim (channel : ℕ) (commands : List Command) (replies : List Reply) (place : ℕ) : Type 0 where
  pub answered : IsAnswered commands replies place (Reclaim channel) (Reclaimed None)

-- an empty reclaim stands between two places
pub record IsReclaimedBetween (channel : ℕ) (commands : List Command) (replies : List Reply) (first last : ℕ) : Type
    0 where
  pub place : ℕ
  pub after : first < place
  pub before : place < last
  pub empty : IsEmptyReclaim channel commands replies place

-- no chunk is sent between two places
abbrev pub HasNoSendBetween : ℕ → List Command → List Reply → ℕ → ℕ → Type 0
HasNoSendBetween channel commands replies first last = (place : ℕ) → first < place → place < last →
    IsAcceptedSend channel commands replies place → ⊥

-- between any two successive accepted sends on the channel that come before a place an empty reclaim stands
abbrev pub KeepsUp : ℕ → List Command → List Reply → ℕ → Type 0
KeepsUp channel commands replies end = (first last : ℕ) → IsAcceptedSend channel commands replies first →
    IsAcceptedSend channel commands replies last → first < last → last < end →
    HasNoSendBetween channel commands replies first last → IsReclaimedBetween channel commands replies first last

-- where the sender keeps up to a release there, its completion queue isn't full
abbrev pub HasCapacity : List Command → List Reply → Type 0
HasCapacity commands replies = (channel place name : ℕ) → KeepsUp channel commands replies place →
    IsAnswered commands replies place (Release channel name) (Refused RetrieveBufferFull) → ⊥
