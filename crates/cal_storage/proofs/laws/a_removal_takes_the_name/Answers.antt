-- The lemma on a name that is taken.
use Rattle.cal_storage.specs.EntryLemmas.{after_removal-TakesName}
use Rattle.cal_storage.proofs.laws.a_removal_takes_the_name.Goals as goal

pub returns : goal.returns
returns g c = record { takes_the_name = λ old path sound. after_removal-TakesName old sound path }
