use Rattle.cal_transport.specs.declared.command.Command.TheVariants as command
use Rattle.cal_transport.specs.declared.reply.Reply.TheVariants.{Counted}
use Rattle.cal_transport.specs.StateOf.{state_of}
use Rattle.cal_transport.proofs.CountStep.{count_does}
use Rattle.cal_transport.proofs.Standing.{unchanged}
use Rattle.cal_transport.proofs.transport.Transport.count.Goals as goal

pub count_segments-requires : goal.count_segments-requires
count_segments-requires c = record { has = c.self.invariant.linked.together.has_memory }

pub returns : goal.returns
returns c = record {
  step = unchanged c.self.inside c.self.invariant c.args.self.now c.self.view_is command.Count
      (Counted c.count_segments.result) tt
      (count_does (state_of c.self.inside) c.self.invariant.linked c.count_segments.result
      c.count_segments.ensures.counted);
}
