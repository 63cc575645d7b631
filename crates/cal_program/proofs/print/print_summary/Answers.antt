use Rattle.std.proofs.Common.{decimal}
use Rattle.std.specs.Prelude.{codes}
use Rattle.cal_program.proofs.BufferLemmas.{line-parts, shows-same}
use Rattle.cal_program.proofs.print.print_summary.Goals as goal

pub returns : goal.returns
returns g c from shown h =
    let s = c.args.summary in
    shows-same from c.text-5.new.self (g.S.Sink.state c.text-5.new.sink) _ _
    (line-parts shown (codes "replies ") (decimal s.answered) (codes " refused ") (decimal s.refused)
    (codes " transit ") (decimal s.transit) (codes " sum ") (decimal s.sum))
    (c.text-5.ensures.text from
    _ (c.number-4.ensures.text from _ (c.text-4.ensures.text from _ (c.number-3.ensures.text from
    _ (c.text-3.ensures.text from _ (c.number-2.ensures.text from _ (c.text-2.ensures.text from
    _ (c.number.ensures.text from _ (c.text.ensures.text from shown h)))))))))
