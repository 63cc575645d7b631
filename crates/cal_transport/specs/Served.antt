-- What a run over a transport comes to, by its answer.
use Rattle.std.specs.Prelude.{◌≡◌, ℕ, List, [], ◌∷◌, Option, Some, None, IsSomeAnd, Result, Ok, Err}
use Rattle.cal_transport.specs.declared.settings.Settings.{Settings}
use Rattle.cal_transport.specs.declared.command.Command.{Command}
use Rattle.cal_transport.specs.declared.reply.Reply.{Reply}
use Rattle.cal_transport.specs.Ledger.{Ledger, first_ledger}
use Rattle.cal_transport.specs.declared.settings.CreateCause.{CreateCause}
use Rattle.cal_transport.specs.declared.run.RunError.{RunError}
use Rattle.cal_transport.specs.declared.run.RunError.TheVariants.{Create, NoMemory}
use Rattle.cal_transport.specs.Settings.{create_cause}
use Rattle.cal_transport.specs.Run.{TakesMemory, after_steps, StopsForMemory}
use Rattle.cal_transport.specs.Standing.{StandsFor}
use Rattle.cal_transport.specs.State.{TransportState}

-- memory ran out at a command that takes some, in every ledger that the transport stands for
abbrev pub RunsOut : TransportState → Command → Type 0
RunsOut t asked = (l : Ledger) → StandsFor t l → TakesMemory l asked

-- the transport stands for the ledger to which the replies lead
abbrev pub StandsAfter : Settings → List Command → List Reply → TransportState → Type 0
StandsAfter settings commands replies t = StandsFor t (after_steps (first_ledger settings) 1 commands replies)

-- the transport is left by a run with these replies, or by none where nothing was answered
abbrev pub IsLeft : Settings → List Command → List Reply → Option TransportState → Type 0
IsLeft settings commands [] end = end ≡ None
IsLeft settings commands (reply ∷ replies) end = IsSomeAnd end (StandsAfter settings commands (reply ∷ replies))

-- why there is no run: the settings have a cause, or memory ran out
abbrev pub IsNotRun : Settings → List Command → RunError → Type 0
IsNotRun settings commands (Create cause) = create_cause settings ≡ Some cause
IsNotRun settings commands (NoMemory replies) =
    (create_cause settings ≡ None) × StopsForMemory settings commands replies.items

-- a run that found no memory leaves the transport that gave the replies; no other does
abbrev pub IsLeftByError : Settings → List Command → RunError → Option TransportState → Type 0
IsLeftByError settings commands (Create cause) end = end ≡ None
IsLeftByError settings commands (NoMemory replies) end = IsLeft settings commands replies.items end
