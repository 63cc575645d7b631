use Rattle.cal_queue.proofs.BitSets.{clear-has_bit}
use Rattle.cal_queue.proofs.bit_set.clear_bit.Goals as goal

pub returns-clause-cleared : goal.returns-clause-cleared
returns-clause-cleared c = clear-has_bit c.args.words.now c.args.number c.requires
