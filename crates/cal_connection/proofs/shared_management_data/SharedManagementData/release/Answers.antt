use Rattle.std.proofs.Common.{◌∙◌, ap}
use Rattle.cal_connection.specs.Channel.{shape}
use Rattle.cal_connection.specs.PortLemmas.{IsSoundPort-changed}
use Rattle.cal_connection.specs.ShapeLemmas.{shape-after_release}
use Rattle.cal_connection.proofs.shared_management_data.SharedManagementData.release.Goals as goal

pub invariant_of-self : goal.invariant_of-self
invariant_of-self c =
    IsSoundPort-changed _ c.self.invariant c.args.channel c.index_mut.result.now c.release.new.self
    c.index_mut.ensures.value (ap shape c.release.ensures.released ∙ shape-after_release _ _)
