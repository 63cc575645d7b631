use Rattle.std.proofs.Common.{decimal}
use Rattle.cal_program.proofs.BufferLemmas.{shows-same, slot-parts}
use Rattle.cal_program.proofs.print.print_with_slot.Goals as goal

pub returns : goal.returns
returns g c from shown h =
    let slot = c.args.slot.now in
    shows-same from c.number-3.new.self (g.S.Sink.state c.number-3.new.sink) _ _
    (slot-parts shown c.args.word.now (decimal slot.chunk) (decimal slot.segment) (decimal slot.place))
    (c.number-3.ensures.text from
    _ (c.text-3.ensures.text from _ (c.number-2.ensures.text from _ (c.text-2.ensures.text from _
    (c.number.ensures.text from _ (c.text.ensures.text from shown h))))))
