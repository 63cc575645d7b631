use Rattle.std.proofs.Common.{◌≤◌, ◌-◌, vec_len}
use Rattle.cal_program.specs.Streams.{Takes}
use Rattle.cal_program.proofs.read.read_blocks.Given as goal

abbrev pub invariant-loop-bytes : goal.invariant-loop-bytes
invariant-loop-bytes g l = record {
  taken : Takes (g.R.Source.state l.initial.source) (g.R.Source.state l.source) l.bytes.items;
  within : vec_len l.bytes ≤ 16777217;
}

abbrev pub decreases-loop-bytes : goal.decreases-loop-bytes
decreases-loop-bytes g l = 16777217 - vec_len l.bytes
