use Rattle.cal_program.proofs.BufferLemmas.{whole-failed, whole-all}
use Rattle.cal_program.proofs.print_relay.print_relay.Goals as goal

pub returns-then-has_failed-clause-failed : goal.returns-then-has_failed-clause-failed
returns-then-has_failed-clause-failed g c =
    whole-failed c.new-buffer.result c.print_counts.new.buffer c.flush.new.self (g.S.Sink.state c.args.sink.now)
    (g.S.Sink.state c.print_counts.new.sink) (g.S.Sink.state c.flush.new.sink) _ c.new-buffer.ensures.empty
    c.print_counts.ensures
    c.flush.ensures.text cc

pub returns-clause-ok : goal.returns-clause-ok
returns-clause-ok g c =
    whole-all c.new-buffer.result c.print_counts.new.buffer c.flush.new.self (g.S.Sink.state c.args.sink.now)
    (g.S.Sink.state c.print_counts.new.sink) (g.S.Sink.state c.flush.new.sink) _ c.new-buffer.ensures.empty
    c.print_counts.ensures
    c.flush.ensures.text (cc) c.flush.ensures.empty
