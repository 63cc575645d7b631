use Rattle.std.proofs.Common.{refl}
use Rattle.std.specs.Fmt.{digits}
use Rattle.cal_program.proofs.examples.replies_are_summed_up.Goals as goal

pub returns : goal.returns
unfolding digits
returns c = record { told = refl }
