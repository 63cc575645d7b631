use Rattle.cal_shared.proofs.Exchanged.{ClosesChannel-named}
use Rattle.cal_queue.specs.StateSeats.{pass}
use Rattle.cal_shared.proofs.Stepped.{AtWords-stepped, IsSoundPort-stepped, pair_of-stepped}
use Rattle.cal_shared.proofs.shared_port.SharedPort.close_channel.Goals as goal

pub invariant_of-self : goal.invariant_of-self
invariant_of-self g c = IsSoundPort-stepped g.E.PortEnd.Fits _ _ _ c.close.ensures.opening c.self.invariant

pub returns-clause-exchanged : goal.returns-clause-exchanged
returns-clause-exchanged g c =
    AtWords-stepped _ _ c.self.view_is _ _ c.close.ensures.same_table _
    (ClosesChannel-named _ c.value-channel.result _ c.value-state.result _ _ c.value-channel.ensures.value
    c.value-state.ensures.value c.close.ensures.closed)

pub returns-clause-pair : goal.returns-clause-pair
returns-clause-pair g c =
    pair_of-stepped _ _ c.self.view_is _ (pass c.close.new.states) c.close.ensures.same_table g.E.PortEnd.rings
