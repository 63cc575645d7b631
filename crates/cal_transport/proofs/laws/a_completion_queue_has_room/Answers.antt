-- The lemmas on steps and on whole runs.
use Rattle.cal_transport.proofs.Capacity.{steps_have_capacity, run_has_capacity}
use Rattle.cal_transport.proofs.laws.a_completion_queue_has_room.Goals as goal

pub returns : goal.returns
returns c = record { steps = steps_have_capacity; run = run_has_capacity }
