-- What a loan does to the ledgers that the invariant of a transport speaks of, and what is told of a chunk there.
use Rattle.std.proofs.Common.{◌≡◌, ℕ, Option, Result, Ok, Err}
use Rattle.cal_transport.specs.declared.command.Command.{Command}
use Rattle.cal_transport.specs.declared.command.Command.TheVariants as command
use Rattle.cal_transport.specs.declared.reply.Reply.TheVariants.{Loaned, Refused}
use Rattle.cal_transport.specs.declared.reply.Slot.{Slot}
use Rattle.cal_transport.specs.declared.transport.loaning.LoanError.{LoanError}
use Rattle.cal_transport.specs.declared.transport.loaning.LoanError.TheVariants as loan_error
use Rattle.cal_transport.specs.declared.transport.access.ChunkRecord.{ChunkRecord}
use Rattle.cal_transport.specs.Ledger.{Ledger, chunk_named}
use Rattle.cal_transport.specs.ChunkTold.{record_where_live}
use Rattle.cal_transport.specs.Run.{TakesMemory}
use Rattle.cal_transport.specs.State.{TransportState, Represents, Does}

-- a loan that found no memory leaves the ledgers, each of which wanted a further segment
pub record LoanRunsOut (old : TransportState) (size alignment : ℕ) (new : TransportState) : Type 0 where
  pub wanted : (l : Ledger) → Represents old l → TakesMemory l (command.Loan size alignment)
  pub same : (l : Ledger) → Represents old l → Represents new l

abbrev pub LoanDoes : TransportState → ℕ → ℕ → ℕ → Result Slot LoanError → TransportState → Type 0
LoanDoes old name size alignment (Ok slot) new = Does old name (command.Loan size alignment) (Loaned slot) new
LoanDoes old name size alignment (Err (loan_error.Refused why)) new =
    Does old name (command.Loan size alignment) (Refused why) new
LoanDoes old name size alignment (Err loan_error.NoMemory) new = LoanRunsOut old size alignment new

abbrev pub TellsChunk : TransportState → ℕ → Option ChunkRecord → Type 0
TellsChunk t name told = (l : Ledger) → Represents t l → told ≡ record_where_live l (chunk_named l name)
