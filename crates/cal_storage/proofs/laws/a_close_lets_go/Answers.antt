-- The lemma on a handle that closes.
use Rattle.cal_storage.specs.EntryLemmas.{after_close-LetsGo}
use Rattle.cal_storage.proofs.laws.a_close_lets_go.Goals as goal

pub returns : goal.returns
returns g c = record { lets_go = λ old handle entry sound is. after_close-LetsGo old sound handle entry is }
