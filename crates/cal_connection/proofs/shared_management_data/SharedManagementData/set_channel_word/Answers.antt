use Rattle.std.proofs.Common.{ap}
use Rattle.cal_connection.specs.Channel.{shape}
use Rattle.cal_connection.specs.PortLemmas.{IsSoundPort-changed}
use Rattle.cal_connection.proofs.shared_management_data.SharedManagementData.set_channel_word.Goals as goal

pub invariant_of-self : goal.invariant_of-self
invariant_of-self c =
    IsSoundPort-changed _ c.self.invariant c.args.channel c.index_mut.result.now c.set_word.new.self
    c.index_mut.ensures.value (ap shape c.set_word.ensures.set)
