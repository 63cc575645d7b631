-- What a run keeps of chunks: where loans lie, and what reads show.
use Rattle.std.specs.Prelude.{ℕ, ◌+◌, ◌≡◌, ◌≢◌, true, length, List, Option, Some}
use Rattle.std.specs.List.{slice_get}
use Rattle.cal_transport.specs.declared.command.Command.{Command}
use Rattle.cal_transport.specs.declared.command.Command.TheVariants as command
use Rattle.cal_transport.specs.declared.reply.Reply.{Reply}
use Rattle.cal_transport.specs.declared.reply.Reply.TheVariants.{Sent, Shown}
use Rattle.cal_transport.specs.declared.reply.Slot.{Slot}
use Rattle.cal_transport.specs.Ledger.{Ledger, Chunk, is_live}
use Rattle.cal_transport.specs.Step.{IsStep, after_step, slot_of}
use Rattle.cal_transport.specs.Run.{AreSteps, after_steps}

-- no live chunk lies there
abbrev pub HasNoLiveChunk : Ledger → Slot → Type 0
HasNoLiveChunk l slot = (i : ℕ) (a : Chunk) → slice_get l.chunks i ≡ Some a → is_live l a ≡ true →
    (slot_of l a).segment ≡ slot.segment → (slot_of l a).place ≢ slot.place

-- a chunk was sent, other commands were answered, and then these bytes of it were read
pub record IsReadAfterSend (l : Ledger) (place name at long : ℕ) (bytes : List ℕ) : Type 0 where
  pub sent_on : ℕ
  pub back : Option Slot
  pub sent : IsStep l place (command.Send sent_on name) (Sent back)
  pub commands : List Command
  pub replies : List Reply
  pub between : AreSteps (after_step l place (command.Send sent_on name) (Sent back)) (place + 1) commands replies
  pub read_on : ℕ
  pub read : IsStep
      (after_steps (after_step l place (command.Send sent_on name) (Sent back)) (place + 1) commands replies)
      (place + 1 + length replies) (command.Read read_on name at long) (Shown bytes)
