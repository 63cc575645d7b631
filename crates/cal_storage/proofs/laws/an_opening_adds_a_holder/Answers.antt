-- The lemma on a holder more.
use Rattle.cal_storage.specs.EntryLemmas.{after_opening-ChangesEntry}
use Rattle.cal_storage.proofs.laws.an_opening_adds_a_holder.Goals as goal

pub returns : goal.returns
returns g c = record { adds_a_holder = after_opening-ChangesEntry }
