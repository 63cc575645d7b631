use Rattle.cal_queue.proofs.BitSets.{set-has_bit}
use Rattle.cal_queue.proofs.bit_set.set_bit.Goals as goal

pub returns-clause-set : goal.returns-clause-set
returns-clause-set c = set-has_bit c.args.words.now c.args.number c.requires
