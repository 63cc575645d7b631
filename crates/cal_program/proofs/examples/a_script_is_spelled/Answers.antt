use Rattle.std.proofs.Common.{refl}
use Rattle.std.specs.Fmt.{digits}
use Rattle.cal_program.proofs.examples.a_script_is_spelled.Goals as goal

pub returns : goal.returns
unfolding digits
returns c = record { spelled = refl }
