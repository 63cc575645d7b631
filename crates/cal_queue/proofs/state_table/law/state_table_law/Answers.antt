use Rattle.cal_queue.proofs.StateSteps.{every_opening, every_run, every_step}
use Rattle.cal_queue.proofs.state_table.law.state_table_law.Goals as goal

pub returns-clause-opening : goal.returns-clause-opening
returns-clause-opening c = every_opening

pub returns-clause-step : goal.returns-clause-step
returns-clause-step c = every_step

pub returns-clause-run : goal.returns-clause-run
returns-clause-run c = every_run
