use Rattle.std.proofs.Common.{arith}
use Rattle.cal_shared.proofs.receiving_end.ReceivingEnd.borrow_count.Goals as goal

pub returns : goal.returns
returns c = record { value = rw (← c.self.view_is) (omega (arith, c.self.invariant)) }
