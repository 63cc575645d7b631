use Rattle.std.proofs.Common.{List, sym, subst}
use Rattle.cal_connection.specs.Channel.{ChannelEntry}
use Rattle.cal_connection.specs.Port.{PortEntry, IsSoundPort}
use Rattle.cal_connection.specs.PortLemmas.{IsSoundPort-acquired}
use Rattle.cal_connection.proofs.shared_management_data.SharedManagementData.empty_used.Goals as goal

pub invariant_of-self : goal.invariant_of-self
invariant_of-self c =
    let port : PortEntry = record {
      settings = c.self.inside.settings;
      word = c.self.inside.word;
      channels = c.self.inside.channels.items;
    } in
    subst (λ (channels : List ChannelEntry). IsSoundPort (record port { channels = channels }))
    (sym c.empty_channels.ensures.emptied) (IsSoundPort-acquired port c.self.invariant)
