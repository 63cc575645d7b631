-- The lemma on a handle's entry after a change.
use Rattle.cal_storage.specs.HandleLemmas.{after-Has}
use Rattle.cal_storage.proofs.laws.a_held_entry_stays.Goals as goal

pub returns : goal.returns
returns g c = record { stays = after-Has }
