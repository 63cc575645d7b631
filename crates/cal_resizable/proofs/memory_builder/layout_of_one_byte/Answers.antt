use Rattle.std.proofs.Common.{rules}
use lib.Count.{ones}
use Rattle.cal_resizable.proofs.memory_builder.layout_of_one_byte.Goals as goal

pub unwrap-requires : goal.unwrap-requires
unfolding ones
unwrap-requires c = search rules
