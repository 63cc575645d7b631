use Rattle.std.proofs.Common.{ℕ, ◌≤◌, List, length, slice_index_or, sym, subst, arith}
use Rattle.cal_connection.specs.Channel.{ChannelEntry}
use Rattle.cal_connection.specs.Port.{PortEntry, no_channel}
use Rattle.cal_connection.specs.PortLemmas.{length-segments-most}
use Rattle.cal_connection.proofs.shared_management_data.SharedManagementData.call_on_used.Goals as goal

pub call_on_channels-requires-clause-numbered : goal.call_on_channels-requires-clause-numbered
call_on_channels-requires-clause-numbered g c =
    let port : PortEntry = record {
      settings = c.self.inside.settings;
      word = c.self.inside.word;
      channels = c.self.inside.channels.items;
    } in
    subst (λ (channels : List ChannelEntry). (channel : ℕ) →
    length (slice_index_or channels channel no_channel).segments ≤ 256)
    (sym c.deref.ensures.value) (length-segments-most port c.self.invariant (omega arith))
