-- The lemma on ids over a run.
use Rattle.cal_storage.proofs.LaterLemmas.{after_all-IsLater}
use Rattle.cal_storage.proofs.laws.an_id_is_never_used_again.Goals as goal

pub returns : goal.returns
returns g c = record { later = after_all-IsLater }
