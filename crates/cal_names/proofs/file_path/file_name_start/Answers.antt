use Rattle.std.proofs.Common.{arith}
use Rattle.std.proofs.lemmas.Bool.Decides.{nat_tests}
use Rattle.cal_names.proofs.FilePathLemmas.{file_name_start_is}
use Rattle.cal_names.proofs.file_path.file_name_start.Goals as goal

pub returns-else-value-start-ne47-clause-value : goal.returns-else-value-start-ne47-clause-value
returns-else-value-start-ne47-clause-value c =
    file_name_start_is _ _ c.loop-start.invariant.within c.loop-start.invariant.after
    (λ _. grind (arith, nat_tests, c.if-value-start-ne47.false))

pub returns-after-loop-start-clause-value : goal.returns-after-loop-start-clause-value
returns-after-loop-start-clause-value c =
    file_name_start_is _ _ c.loop-start.invariant.within c.loop-start.invariant.after
    (λ some. absurd (omega (arith, c.loop-start-test.false)))
