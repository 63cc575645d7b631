use Rattle.std.proofs.Common.{take}
use Rattle.cal_program.specs.Printing.{Follows}
use Rattle.cal_program.specs.ReplyText.{reply_lines}
use Rattle.cal_program.proofs.print.print_replies.Given as goal

abbrev pub invariant-loop-place : goal.invariant-loop-place
invariant-loop-place g l =
    Follows l.initial.buffer (g.S.Sink.state l.initial.sink) l.buffer (g.S.Sink.state l.sink)
    (reply_lines (take l.place l.replies.items))
