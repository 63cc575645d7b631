-- A frame is taken, or none waits.
use Rattle.std.proofs.Common.{subst}
use Rattle.cal_transport.specs.declared.command.Command.TheVariants as command
use Rattle.cal_transport.specs.declared.reply.Reply.TheVariants.{Received}
use Rattle.cal_transport.specs.Standing.{DoesAnywhere}
use Rattle.cal_frames.proofs.Taking.{takes_none, takes_some}
use Rattle.cal_frames.proofs.screen.take_frame.Goals as goal

pub returns-in_default-clause-taken : goal.returns-in_default-clause-taken
returns-in_default-clause-taken c =
    takes_none c.args.transport.now c.receive.new.self
    (subst (λ taken. DoesAnywhere c.args.transport.now (command.Receive 0) (Received taken) c.receive.new.self)
    c.in_default.is c.in_ok-slot.ensures.step)

pub returns-clause-taken : goal.returns-clause-taken
returns-clause-taken c =
    takes_some c.args.transport.now c.receive.new.self c.release.new.self c.in-Some.slot c.in_ok-frame.frame
    (subst (λ taken. DoesAnywhere c.args.transport.now (command.Receive 0) (Received taken) c.receive.new.self)
    c.in-Some.is c.in_ok-slot.ensures.step) c.in_ok-frame.ensures.read c.in_ok-release.ensures.step
