use Rattle.std.proofs.Common.{◌∙◌, ap}
use Rattle.cal_connection.specs.Channel.{shape}
use Rattle.cal_connection.specs.PortLemmas.{IsSoundPort-changed}
use Rattle.cal_connection.specs.ShapeLemmas.{shape-after_receive}
use Rattle.cal_connection.proofs.shared_management_data.SharedManagementData.receive.Goals as goal

pub invariant_of-self : goal.invariant_of-self
invariant_of-self c =
    IsSoundPort-changed _ c.self.invariant c.args.channel c.index_mut.result.now c.receive.new.self
    c.index_mut.ensures.value (ap shape c.receive.ensures.received ∙ shape-after_receive _ _ _)
