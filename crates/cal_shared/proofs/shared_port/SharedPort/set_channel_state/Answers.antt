use Rattle.cal_shared.proofs.Exchanged.{SetsState-exchanged}
use Rattle.cal_queue.specs.StateSeats.{pass}
use Rattle.cal_shared.proofs.Stepped.{AtWords-stepped, IsSoundPort-stepped, pair_of-stepped}
use Rattle.cal_shared.proofs.shared_port.SharedPort.set_channel_state.Goals as goal

pub invariant_of-self : goal.invariant_of-self
invariant_of-self g c = IsSoundPort-stepped g.E.PortEnd.Fits _ _ _ c.exchange.ensures.opening c.self.invariant

pub returns-clause-exchanged : goal.returns-clause-exchanged
returns-clause-exchanged g c =
    AtWords-stepped _ _ c.self.view_is _ _ c.exchange.ensures.same_table _
    (SetsState-exchanged _ c.value-channel.result _ c.value-state.result _ _ _ c.value-channel.ensures.value
    c.value-state.ensures.value c.exchange.ensures.exchanged)

pub returns-clause-pair : goal.returns-clause-pair
returns-clause-pair g c =
    pair_of-stepped _ _ c.self.view_is _ (pass c.exchange.new.states) c.exchange.ensures.same_table g.E.PortEnd.rings
