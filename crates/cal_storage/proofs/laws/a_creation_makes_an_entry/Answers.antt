-- The lemma on a new entry.
use Rattle.cal_storage.specs.EntryLemmas.{after_creation-MakesEntry}
use Rattle.cal_storage.proofs.laws.a_creation_makes_an_entry.Goals as goal

pub returns : goal.returns
returns g c = record { makes = after_creation-MakesEntry }
