-- What each kind of round asks of a name.
use Rattle.std.specs.Prelude.{ℕ, List, [], ◌∷◌}
use Rattle.cal_transport.specs.declared.command.Command.{Command}
use Rattle.cal_transport.specs.declared.command.Command.TheVariants as command
use Rattle.cal_transport.specs.declared.fill_list.Round.{Round}
use Rattle.cal_transport.specs.declared.fill_list.Round.TheVariants.{Loan, SendAndReceive, SendAndLeave, ReleaseAndReceive, Release}
use Rattle.cal_transport.specs.FillList.{send_and_receive, send_and_leave, release_and_receive}

abbrev pub round_of : Round → ℕ → List Command
round_of Loan name = command.Loan 1 1 ∷ []
round_of SendAndReceive name = send_and_receive name
round_of SendAndLeave name = send_and_leave name
round_of ReleaseAndReceive name = release_and_receive name
round_of Release name = command.Release 0 name ∷ []
