-- The lemma on a loan's bucket.
use Rattle.cal_transport.proofs.Keeping.{loan_takes_free}
use Rattle.cal_transport.proofs.laws.a_loan_takes_no_live_bucket.Goals as goal

pub returns : goal.returns
returns c = record { free = loan_takes_free }
