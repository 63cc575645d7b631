use Rattle.std.proofs.Common.{decimal}
use Rattle.cal_program.proofs.BufferLemmas.{shows-same, count-parts}
use Rattle.cal_program.proofs.print.print_count.Goals as goal

pub returns : goal.returns
returns g c from shown h =
    let n = c.args.count.now in
    shows-same from c.number-5.new.self (g.S.Sink.state c.number-5.new.sink) _ _
    (count-parts shown (decimal n.active) (decimal n.mapped) (decimal n.current) (decimal n.size) (decimal n.buckets))
    (c.number-5.ensures.text from
    _ (c.text-4.ensures.text from
    _ (c.number-4.ensures.text from _ (c.text-3.ensures.text from _ (c.number-3.ensures.text from _
    (c.text-2.ensures.text from
    _ (c.number-2.ensures.text from _ (c.text.ensures.text from _ (c.number.ensures.text from shown h)))))))))
