use Rattle.std.proofs.Common.{subst}
use Rattle.cal_program.specs.declared.status.Status.{Status}
use Rattle.cal_program.specs.Outcome.{CanBeTold}
use Rattle.cal_program.proofs.print.print_status.Goals as goal

pub print_run-requires : goal.print_run-requires
print_run-requires g c = subst (λ (s : Status). CanBeTold c.args.request s c.args.replies.now.items) c.in-Done.is
    c.requires

pub returns-in-Usage : goal.returns-in-Usage
returns-in-Usage g c from shown h = rw c.in-Usage.is (c.text-in-Usage.ensures.text from shown h)
