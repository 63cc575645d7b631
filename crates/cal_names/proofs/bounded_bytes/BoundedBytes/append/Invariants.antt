use Rattle.std.proofs.Common.{◌≡◌, ◌++◌, take}
use Rattle.cal_names.proofs.bounded_bytes.BoundedBytes.append.Given as goal

abbrev pub invariant-loop-byte : goal.invariant-loop-byte
invariant-loop-byte g l = l.self ≡ l.fn.self ++ take l.byte-index l.more
