-- A command that was answered with no refusal was done.
use Rattle.std.proofs.Common.{ℕ, ◌≡◌, ◌≢◌, Option, Some, None, refl, ap}
use Rattle.cal_transport.specs.declared.command.Command.{Command}
use Rattle.cal_transport.specs.declared.reply.Reply.{Reply}
use Rattle.cal_transport.specs.declared.reply.Reply.TheVariants.{Refused}
use Rattle.cal_transport.specs.declared.reply.Refusal.{Refusal}
use Rattle.cal_transport.specs.Ledger.{Ledger}
use Rattle.cal_transport.specs.Cause.{cause}
use Rattle.cal_transport.specs.Step.{Owes, IsStep, IsStepBy, after_command, after_step, after_step_by}

-- the reply is what the command owes, and the ledger after it is what the command makes
pub record IsDone (l : Ledger) (place : ℕ) (asked : Command) (reply : Reply) : Type 0 where
  pub owes : Owes l place asked reply
  pub after : after_step l place asked reply ≡ after_command l place asked reply

pub done : (l : Ledger) (place : ℕ) (asked : Command) (reply : Reply) → ((why : Refusal) → reply ≢ Refused why) →
    IsStep l place asked reply → IsDone l place asked reply
done l place asked reply accepted step = go (cause l asked) refl step
  where
    go : (o : Option Refusal) → cause l asked ≡ o → IsStepBy o l place asked reply → IsDone l place asked reply
    go None is owes = record { owes = owes; after = ap (λ o. after_step_by o l place asked reply) is }
    go (Some why) is refused = absurd (accepted why refused)
