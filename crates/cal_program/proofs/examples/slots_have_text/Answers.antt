use Rattle.std.proofs.Common.{refl}
use Rattle.std.specs.Fmt.{digits}
use Rattle.cal_program.proofs.examples.slots_have_text.Goals as goal

pub returns : goal.returns
unfolding digits
returns c = record { loaned = refl; sent = refl; transit = refl }
