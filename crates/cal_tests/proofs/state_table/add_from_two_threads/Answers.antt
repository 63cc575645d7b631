use Rattle.cal_tests.proofs.StepWrites.{writes-looked}
use Rattle.cal_tests.proofs.state_table.add_from_two_threads.Goals as goal

pub returns-clause-second : goal.returns-clause-second
returns-clause-second g c = writes-looked _ _ _ _ _ c.load_channel-word.ensures.step c.join-first.ensures.second.0
