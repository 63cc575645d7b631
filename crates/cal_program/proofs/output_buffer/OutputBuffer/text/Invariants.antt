use Rattle.std.proofs.Common.{take}
use Rattle.cal_program.specs.Printing.{Follows}
use Rattle.cal_program.proofs.output_buffer.OutputBuffer.text.Given as goal

abbrev pub invariant-loop-byte : goal.invariant-loop-byte
invariant-loop-byte g l =
    Follows l.initial.self (g.S.Sink.state l.initial.sink) l.self (g.S.Sink.state l.sink) (take l.byte-index l.text)
