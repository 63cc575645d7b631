-- The lemma on the bytes of a chunk that was sent.
use Rattle.cal_transport.proofs.Keeping.{read_shows_sent}
use Rattle.cal_transport.proofs.laws.a_read_shows_what_was_sent.Goals as goal

pub returns : goal.returns
returns c = record { shown = read_shows_sent }
