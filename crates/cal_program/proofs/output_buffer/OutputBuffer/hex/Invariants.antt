use Rattle.std.proofs.Common.{take}
use Rattle.std.specs.List.{flat_map}
use Rattle.cal_program.specs.Printing.{Follows}
use Rattle.cal_program.specs.Spelling.{hex_pair}
use Rattle.cal_program.proofs.output_buffer.OutputBuffer.hex.Given as goal

abbrev pub invariant-loop-byte : goal.invariant-loop-byte
invariant-loop-byte g l =
    Follows l.initial.self (g.S.Sink.state l.initial.sink) l.self (g.S.Sink.state l.sink)
    (flat_map hex_pair (take l.byte-index l.bytes))
