-- A command's answer as a reply.
use Rattle.std.proofs.Common.{◌≡◌, ◌∙◌, ℕ, List, Option, Result, Ok, Err, sym, ap, subst}
use Rattle.std.specs.Prelude.{MatchResult}
use Rattle.std.specs.Result.{IsOkAnd}
use Rattle.cal_transport.specs.declared.command.Command.{Command}
use Rattle.cal_transport.specs.declared.command.Command.TheVariants as command
use Rattle.cal_transport.specs.declared.reply.Reply.{Reply}
use Rattle.cal_transport.specs.declared.reply.Reply.TheVariants.{Written, Sent, Received, Released, Reclaimed, Discarded, Refused}
use Rattle.cal_transport.specs.declared.reply.Slot.{Slot}
use Rattle.cal_transport.specs.declared.reply.Refusal.{Refusal}
use Rattle.cal_transport.specs.CommandsDo.{WriteDoes, SendDoes, ReceiveDoes, ReleaseDoes, ReclaimDoes, DiscardDoes}
use Rattle.cal_transport.specs.Serve.{reply_to, reply_at_end}
use Rattle.cal_transport.specs.Standing.{Does, DoesAnywhere}
use Rattle.cal_transport.specs.State.{TransportState}

-- the command that was asked is this one, and so is its reply
pub told_by : (old new : TransportState) (place : ℕ) (asked told : Command) (reply made : Reply) → asked ≡ told →
    reply ≡ made → DoesAnywhere old told made new → Does old place asked reply new
told_by old new place asked told reply made is e does =
    subst (λ c. Does old place c reply new) (sym is) (subst (λ r. Does old place told r new) (sym e) (does place))

-- an answer was made a reply
abbrev pub IsMapped : {A : Type 0} → (A → Reply) → Result A Refusal → Result Reply Refusal → Type 0
IsMapped given answer mapped = MatchResult answer (λ x. IsOkAnd mapped (λ r. r ≡ given x)) (λ why. mapped ≡ Err why)

module _ (old new : TransportState) (place : ℕ) (asked : Command) where
  pub write_served : (name at : ℕ) (bytes : List ℕ) (answer : Result (Unit {0}) Refusal) (reply : Reply) →
      asked ≡ command.Write name at bytes → WriteDoes old name at bytes answer new →
      reply ≡ reply_at_end answer Written →
      Does old place asked reply new
  write_served name at bytes (Ok done) reply is step e = told_by old new place asked
      (command.Write name at bytes) reply Written is e step
  write_served name at bytes (Err why) reply is step e = told_by old new place asked
      (command.Write name at bytes) reply (Refused why) is e step

  pub send_served : (channel name : ℕ) (answer : Result (Option Slot) Refusal) (mapped : Result Reply Refusal)
      (reply : Reply) → asked ≡ command.Send channel name → SendDoes old channel name answer new →
      IsMapped Sent answer mapped → reply ≡ reply_to mapped → Does old place asked reply new
  send_served channel name (Ok back) (Ok made) reply is step given e =
      told_by old new place asked (command.Send channel name) reply (Sent back) is (e ∙ given) step
  send_served channel name (Ok back) (Err why) reply is step given e = absurd given
  send_served channel name (Err why) mapped reply is step given e =
      told_by old new place asked (command.Send channel name) reply (Refused why) is (e ∙ ap reply_to given) step

  pub receive_served : (channel : ℕ) (answer : Result (Option Slot) Refusal) (mapped : Result Reply Refusal)
      (reply : Reply) → asked ≡ command.Receive channel → ReceiveDoes old channel answer new →
      IsMapped Received answer mapped → reply ≡ reply_to mapped → Does old place asked reply new
  receive_served channel (Ok taken) (Ok made) reply is step given e =
      told_by old new place asked (command.Receive channel) reply (Received taken) is (e ∙ given) step
  receive_served channel (Ok taken) (Err why) reply is step given e = absurd given
  receive_served channel (Err why) mapped reply is step given e =
      told_by old new place asked (command.Receive channel) reply (Refused why) is (e ∙ ap reply_to given) step

  pub release_served : (channel name : ℕ) (answer : Result (Unit {0}) Refusal) (reply : Reply) →
      asked ≡ command.Release channel name → ReleaseDoes old channel name answer new →
      reply ≡ reply_at_end answer Released →
      Does old place asked reply new
  release_served channel name (Ok done) reply is step e = told_by old new place asked
      (command.Release channel name) reply Released is e step
  release_served channel name (Err why) reply is step e = told_by old new place asked
      (command.Release channel name) reply (Refused why) is e step

  pub reclaim_served : (channel : ℕ) (answer : Result (Option Slot) Refusal) (mapped : Result Reply Refusal)
      (reply : Reply) → asked ≡ command.Reclaim channel → ReclaimDoes old channel answer new →
      IsMapped Reclaimed answer mapped → reply ≡ reply_to mapped → Does old place asked reply new
  reclaim_served channel (Ok back) (Ok made) reply is step given e =
      told_by old new place asked (command.Reclaim channel) reply (Reclaimed back) is (e ∙ given) step
  reclaim_served channel (Ok back) (Err why) reply is step given e = absurd given
  reclaim_served channel (Err why) mapped reply is step given e =
      told_by old new place asked (command.Reclaim channel) reply (Refused why) is (e ∙ ap reply_to given) step

  pub discard_served : (name : ℕ) (answer : Result (Unit {0}) Refusal) (reply : Reply) →
      asked ≡ command.Discard name → DiscardDoes old name answer new → reply ≡ reply_at_end answer Discarded →
      Does old place asked reply new
  discard_served name (Ok done) reply is step e = told_by old new place asked
      (command.Discard name) reply Discarded is e step
  discard_served name (Err why) reply is step e = told_by old new place asked
      (command.Discard name) reply (Refused why) is e step
