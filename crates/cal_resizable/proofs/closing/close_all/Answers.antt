use Rattle.std.proofs.Common.{arith}
use Rattle.cal_resizable.proofs.ClosingLemmas.{closing-ended}
use Rattle.cal_resizable.proofs.closing.close_all.Goals as goal

pub returns : goal.returns
returns g c = record {
  closed = closing-ended c.args.reg.now c.loop-number.reg c.args.segments c.loop-number.segments c.loop-number.number
      c.loop-number.invariant.same c.loop-number.invariant.gone
      (omega (arith, c.len-all.ensures.slots, c.loop-number-test.false));
}
