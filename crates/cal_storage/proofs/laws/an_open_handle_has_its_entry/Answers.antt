-- The lemmas on open handles over a run.
use Rattle.cal_storage.proofs.OpenHandleLemmas.{nothing_registered-ServesHandles, after_all-ServesHandles, open-Has}
use Rattle.cal_storage.proofs.laws.an_open_handle_has_its_entry.Goals as goal

pub returns : goal.returns
returns g c = record { new = nothing_registered-ServesHandles; kept = after_all-ServesHandles; has = open-Has }
