use Rattle.std.proofs.Common.{ap, refl}
use Rattle.cal_queue.specs.StateSeats.{pass}
use Rattle.cal_queue.specs.declared.state_table.pass.StatePass.{StatePass}
use Rattle.cal_shared.proofs.Stepped.{AtWords-stepped, IsSoundPort-stepped, pair_of-stepped}
use Rattle.cal_shared.proofs.shared_port.SharedPort.channel_state.Goals as goal

pub invariant_of-self : goal.invariant_of-self
invariant_of-self g c =
    IsSoundPort-stepped g.E.PortEnd.Fits _ _ _
    (ap (λ (p : StatePass). p.opening) c.load_channel.ensures.step) c.self.invariant

pub returns-clause-loaded : goal.returns-clause-loaded
returns-clause-loaded g c =
    AtWords-stepped _ _ c.self.view_is _ _ c.load_channel.ensures.same_table _
    (record { seen = c.load_channel.result; step = rw c.value.ensures.value at c.load_channel.ensures.step; answers = refl })

pub returns-clause-pair : goal.returns-clause-pair
returns-clause-pair g c =
    pair_of-stepped _ _ c.self.view_is _ (pass c.load_channel.new.self) c.load_channel.ensures.same_table
    g.E.PortEnd.rings
