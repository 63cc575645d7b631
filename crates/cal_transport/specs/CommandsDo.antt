-- What each command does, by its answer.
use Rattle.std.specs.Prelude.{ℕ, List, Option, Result, Ok, Err}
use Rattle.std.specs.Borrow.{Bor}
use Rattle.cal_transport.specs.declared.command.Command.TheVariants as command
use Rattle.cal_transport.specs.declared.reply.Reply.TheVariants.{Loaned, Written, Sent, Received, Shown, Released, Reclaimed, Discarded, Counted, Refused}
use Rattle.cal_transport.specs.declared.reply.Slot.{Slot}
use Rattle.cal_transport.specs.declared.reply.Refusal.{Refusal}
use Rattle.cal_transport.specs.declared.reply.Count.{Count}
use Rattle.cal_transport.specs.declared.transport.loaning.LoanError.{LoanError}
use Rattle.cal_transport.specs.declared.transport.loaning.LoanError.TheVariants as loan_error
use Rattle.cal_transport.specs.Ledger.{Ledger}
use Rattle.cal_transport.specs.Served.{RunsOut}
use Rattle.cal_transport.specs.Standing.{StandsFor, Does, DoesAnywhere}
use Rattle.cal_transport.specs.State.{TransportState}

-- a loan that found no memory leaves the ledgers that the transport stands for, each of which wanted a further segment
pub record LoanRunsOut (old : TransportState) (size alignment : ℕ) (new : TransportState) : Type 0 where
  pub wanted : RunsOut old (command.Loan size alignment)
  pub same : (l : Ledger) → StandsFor old l → StandsFor new l

abbrev pub LoanDoes : TransportState → ℕ → ℕ → ℕ → Result Slot LoanError → TransportState → Type 0
LoanDoes old name size alignment (Ok slot) new = Does old name (command.Loan size alignment) (Loaned slot) new
LoanDoes old name size alignment (Err (loan_error.Refused why)) new =
    Does old name (command.Loan size alignment) (Refused why) new
LoanDoes old name size alignment (Err loan_error.NoMemory) new = LoanRunsOut old size alignment new

abbrev pub WriteDoes : TransportState → ℕ → ℕ → List ℕ → Result (Unit {0}) Refusal → TransportState → Type 0
WriteDoes old name at bytes (Ok done) new = DoesAnywhere old (command.Write name at bytes) Written new
WriteDoes old name at bytes (Err why) new = DoesAnywhere old (command.Write name at bytes) (Refused why) new

abbrev pub SendDoes : TransportState → ℕ → ℕ → Result (Option Slot) Refusal → TransportState → Type 0
SendDoes old channel name (Ok back) new = DoesAnywhere old (command.Send channel name) (Sent back) new
SendDoes old channel name (Err why) new = DoesAnywhere old (command.Send channel name) (Refused why) new

abbrev pub ReceiveDoes : TransportState → ℕ → Result (Option Slot) Refusal → TransportState → Type 0
ReceiveDoes old channel (Ok taken) new = DoesAnywhere old (command.Receive channel) (Received taken) new
ReceiveDoes old channel (Err why) new = DoesAnywhere old (command.Receive channel) (Refused why) new

-- a read changes nothing
abbrev pub ReadDoes : TransportState → ℕ → ℕ → ℕ → ℕ → Result (Bor (List ℕ)) Refusal → Type 0
ReadDoes t channel name at length (Ok bytes) =
    DoesAnywhere t (command.Read channel name at length) (Shown bytes.now) t
ReadDoes t channel name at length (Err why) = DoesAnywhere t (command.Read channel name at length) (Refused why) t

abbrev pub ReleaseDoes : TransportState → ℕ → ℕ → Result (Unit {0}) Refusal → TransportState → Type 0
ReleaseDoes old channel name (Ok done) new = DoesAnywhere old (command.Release channel name) Released new
ReleaseDoes old channel name (Err why) new = DoesAnywhere old (command.Release channel name) (Refused why) new

abbrev pub ReclaimDoes : TransportState → ℕ → Result (Option Slot) Refusal → TransportState → Type 0
ReclaimDoes old channel (Ok back) new = DoesAnywhere old (command.Reclaim channel) (Reclaimed back) new
ReclaimDoes old channel (Err why) new = DoesAnywhere old (command.Reclaim channel) (Refused why) new

abbrev pub DiscardDoes : TransportState → ℕ → Result (Unit {0}) Refusal → TransportState → Type 0
DiscardDoes old name (Ok done) new = DoesAnywhere old (command.Discard name) Discarded new
DiscardDoes old name (Err why) new = DoesAnywhere old (command.Discard name) (Refused why) new

-- a count changes nothing
abbrev pub CountDoes : TransportState → Count → Type 0
CountDoes t count = DoesAnywhere t command.Count (Counted count) t
