use Rattle.cal_connection.specs.Ends.{AreOpen}
use Rattle.cal_connection.proofs.tests.worked_examples.pass_and_release.Given as goal

-- both ends stay open
abbrev pub invariant-loop-index : goal.invariant-loop-index
invariant-loop-index g l = AreOpen l.reg l.ends.0.handle l.ends.1.handle
