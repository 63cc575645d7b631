-- The ledgers that a transport stands for, and what a command does to each of them.
use Rattle.std.specs.Prelude.{ℕ}
use Rattle.cal_transport.specs.declared.command.Command.{Command}
use Rattle.cal_transport.specs.declared.reply.Reply.{Reply}
use Rattle.cal_transport.specs.Ledger.{Ledger}
use Rattle.cal_transport.specs.Step.{IsStep, after_step}
use Rattle.cal_transport.specs.Reached.{IsReached}
use Rattle.cal_transport.specs.Shown.{Shows}
use Rattle.cal_transport.specs.State.{TransportState, core_of}

-- The transport stands for the ledger: commands lead to it, and the memory, the view and both ports show it.
pub record StandsFor (t : TransportState) (l : Ledger) : Type 0 where
  pub reached : IsReached l
  pub shows : Shows (core_of t) l

-- whichever ledger the transport stood for, the reply answers the command there, and the transport stands for the
-- ledger after it
abbrev pub Does : TransportState → ℕ → Command → Reply → TransportState → Type 0
Does old place asked reply new = (l : Ledger) → StandsFor old l →
    IsStep l place asked reply × StandsFor new (after_step l place asked reply)

-- whatever its place in the list
abbrev pub DoesAnywhere : TransportState → Command → Reply → TransportState → Type 0
DoesAnywhere old asked reply new = (place : ℕ) → Does old place asked reply new
