-- The lemmas on a new ledger, on a step and on runs.
use Rattle.cal_transport.proofs.Sound.{sound_first, sound_step, sound_run}
use Rattle.cal_transport.proofs.laws.the_ledger_stays_sound.Goals as goal

pub returns : goal.returns
returns c = record { first = sound_first; step = sound_step; steps = sound_run }
