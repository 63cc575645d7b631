-- The lemmas on an entry that changes in its place.
use Rattle.cal_storage.specs.EntryLemmas.{after_finish-ChangesEntry, with_value-ChangesEntry, with_version-ChangesNamedEntry}
use Rattle.cal_storage.proofs.laws.an_entry_changes_alone.Goals as goal

pub returns : goal.returns
returns g c = record {
  finish = after_finish-ChangesEntry;
  value = with_value-ChangesEntry;
  version = with_version-ChangesNamedEntry;
}
