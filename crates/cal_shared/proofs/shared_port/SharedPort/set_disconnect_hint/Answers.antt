use Rattle.cal_shared.proofs.Exchanged.{SetsHint-exchanged}
use Rattle.cal_queue.specs.StateSeats.{pass}
use Rattle.cal_shared.proofs.Stepped.{AtWords-stepped, IsSoundPort-stepped, pair_of-stepped}
use Rattle.cal_shared.proofs.shared_port.SharedPort.set_disconnect_hint.Goals as goal

pub invariant_of-self : goal.invariant_of-self
invariant_of-self g c = IsSoundPort-stepped g.E.PortEnd.Fits _ _ _ c.exchange-asked.ensures.opening c.self.invariant

pub returns-clause-exchanged : goal.returns-clause-exchanged
returns-clause-exchanged g c =
    AtWords-stepped _ _ c.self.view_is _ _ c.exchange-asked.ensures.same_table _
    (SetsHint-exchanged _ c.value-channel.result _ c.value-state.result c.with_hint-hinted.result
    c.exchange-asked.result _ _ c.value-channel.ensures.value c.value-state.ensures.value
    c.with_hint-hinted.ensures.value c.exchange-asked.ensures.exchanged)

pub returns-clause-pair : goal.returns-clause-pair
returns-clause-pair g c =
    pair_of-stepped _ _ c.self.view_is _ (pass c.exchange-asked.new.states) c.exchange-asked.ensures.same_table g.E.PortEnd.rings
