use Rattle.std.proofs.Common.{sym, subst}
use Rattle.cal_connection.specs.Port.{PortEntry, IsSoundPort}
use Rattle.cal_connection.specs.PortLemmas.{IsSoundPort-closed}
use Rattle.cal_connection.proofs.shared_management_data.SharedManagementData.close_all_channels.Goals as goal

pub invariant_of-self : goal.invariant_of-self
invariant_of-self c =
    let port : PortEntry = record {
      settings = c.self.inside.settings;
      word = c.self.inside.word;
      channels = c.self.inside.channels.items;
    } in
    subst (λ channels. IsSoundPort (record port { channels = channels })) (sym c.close_all.ensures.closed)
    (IsSoundPort-closed port c.self.invariant)
