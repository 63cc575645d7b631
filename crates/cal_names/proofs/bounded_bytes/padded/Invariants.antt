use Rattle.std.proofs.Common.{◌≡◌, length, take}
use Rattle.cal_names.specs.BoundedBytes.{IsZeroFrom}
use Rattle.cal_names.proofs.bounded_bytes.padded.Given as goal

abbrev pub invariant-loop-index : goal.invariant-loop-index
invariant-loop-index g l = record {
  length : length l.bytes ≡ g.row.LIMIT;
  front : take l.index l.bytes ≡ take l.index l.value;
  zeros : IsZeroFrom l.index l.bytes;
}
