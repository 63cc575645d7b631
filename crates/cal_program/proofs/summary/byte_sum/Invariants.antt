use Rattle.std.proofs.Common.{◌≡◌, ◌*◌, ◌≤◌, take}
use Rattle.std.specs.Prelude.{sum}
use Rattle.cal_program.proofs.summary.byte_sum.Given as goal

abbrev pub invariant-loop-byte : goal.invariant-loop-byte
invariant-loop-byte l = record {
  value : l.sum ≡ sum (take l.byte-index l.bytes);
  bound : l.sum ≤ 255 * l.byte-index;
}
