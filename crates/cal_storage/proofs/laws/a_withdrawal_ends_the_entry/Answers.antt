-- The lemma on an entry that is withdrawn.
use Rattle.cal_storage.specs.EntryLemmas.{after_withdrawal-Withdraws}
use Rattle.cal_storage.proofs.laws.a_withdrawal_ends_the_entry.Goals as goal

pub returns : goal.returns
returns g c = record { ends_the_entry = λ old handle sound. after_withdrawal-Withdraws old sound handle }
