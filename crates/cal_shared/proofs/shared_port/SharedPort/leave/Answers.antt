use Rattle.std.proofs.Common.{ℕ, subst}
use Rattle.cal_queue.specs.StateSeats.{pass}
use Rattle.cal_shared.specs.Words.{Leaves}
use Rattle.cal_shared.proofs.Exchanged.{Leaves-by_answer}
use Rattle.cal_shared.proofs.Stepped.{AtWords-stepped}
use Rattle.cal_shared.proofs.shared_port.SharedPort.leave.Goals as goal

pub returns-clause-left : goal.returns-clause-left
returns-clause-left g c =
    AtWords-stepped _ _ c.self.view_is _ _ c.leave.ensures.same_table _
    (subst (λ (bit : ℕ). Leaves bit c.leave.result (pass c.self.inside.states) (pass c.leave.new.self))
    c.port_bit.ensures.value
    (Leaves-by_answer c.port_bit.result c.leave.result _ _ c.leave.ensures.marked c.leave.ensures.unmarked))
