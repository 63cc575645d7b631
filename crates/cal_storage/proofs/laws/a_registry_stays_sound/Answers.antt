-- The lemmas on a new registry and on runs.
use Rattle.cal_storage.specs.HandleLemmas.{after_all-IsSound}
use Rattle.cal_storage.specs.SoundnessLemmas.{nothing_registered-IsSound}
use Rattle.cal_storage.proofs.laws.a_registry_stays_sound.Goals as goal

pub returns : goal.returns
returns g c = record { new = nothing_registered-IsSound; kept = after_all-IsSound }
