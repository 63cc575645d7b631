use Rattle.cal_queue.specs.RingMachine.{runs_are_schedules}
use Rattle.cal_queue.specs.CompletionLaw.{completion_machine}
use Rattle.cal_queue.proofs.CompletionRuns.{new_ring-unused, steps_are_events}
use Rattle.cal_queue.proofs.completion_ring.interleavings.every_interleaving_is_a_schedule.Goals as goal

pub returns-clause-start : goal.returns-clause-start
returns-clause-start c = new_ring-unused

pub returns-clause-step : goal.returns-clause-step
returns-clause-step c = steps_are_events

pub returns-clause-run : goal.returns-clause-run
returns-clause-run c b = runs_are_schedules (completion_machine b.completion) b (steps_are_events b)
