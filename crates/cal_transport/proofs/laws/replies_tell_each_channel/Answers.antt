-- The lemma on what a run tells.
use Rattle.cal_transport.proofs.Telling.{run_tells}
use Rattle.cal_transport.proofs.laws.replies_tell_each_channel.Goals as goal

pub returns : goal.returns
returns c = record { told = run_tells }
