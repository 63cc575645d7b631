use Rattle.std.proofs.Common.{decimal}
use Rattle.std.specs.Prelude.{codes}
use Rattle.cal_program.proofs.BufferLemmas.{line-parts, shows-same}
use Rattle.cal_program.proofs.print_relay.print_counts.Goals as goal

pub returns : goal.returns
returns g c from shown h =
    let all = c.args.all.now in
    shows-same from c.text-5.new.self (g.S.Sink.state c.text-5.new.sink) _ _
    (line-parts shown (codes "sent ") (decimal all.sent) (codes " received ") (decimal all.received)
    (codes " returned ") (decimal all.returned) (codes " left ") (decimal all.left))
    (c.text-5.ensures.text from
    _ (c.number-4.ensures.text from _ (c.text-4.ensures.text from _ (c.number-3.ensures.text from
    _ (c.text-3.ensures.text from _ (c.number-2.ensures.text from _ (c.text-2.ensures.text from
    _ (c.number.ensures.text from _ (c.text.ensures.text from shown h)))))))))
