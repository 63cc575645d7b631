use Rattle.cal_transport.proofs.RunningState.{ran_out, ended}
use Rattle.cal_transport.proofs.transport.opening.owners_of_first.Goals as goal
