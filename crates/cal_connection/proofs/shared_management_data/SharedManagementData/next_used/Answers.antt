use Rattle.std.proofs.Common.{◌≡◌, ◌<◌, sym, subst}
use Rattle.cal_queue.specs.FirstFrom.{IsFirstFrom}
use Rattle.cal_connection.specs.Channel.{ChannelEntry, is_used}
use Rattle.cal_connection.specs.Port.{PortEntry, channel_at}
use Rattle.cal_connection.specs.PortLemmas.{channel_at-found, length-segments}
use Rattle.cal_connection.proofs.shared_management_data.SharedManagementData.next_used.Goals as goal

pub next_used-requires : goal.next_used-requires
next_used-requires c =
    let port : PortEntry = record {
      settings = c.self.inside.settings;
      word = c.self.inside.word;
      channels = c.self.inside.channels.items;
    } in
    let within : c.args.channel < port.settings.number_of_channels =
    subst (λ (p : PortEntry). c.args.channel < p.settings.number_of_channels) (sym c.self.view_is) c.requires.channel in
    let below : c.args.segment < port.settings.number_of_segments =
    subst (λ (p : PortEntry). c.args.segment < p.settings.number_of_segments) (sym c.self.view_is) c.requires.segment in
    let is : c.index.result.now ≡ channel_at port c.args.channel =
    channel_at-found port c.self.invariant c.args.channel c.index.result.now within c.index.ensures in
    rw (is, length-segments port c.self.invariant c.args.channel within) below

pub returns : goal.returns
returns c =
    let port : PortEntry = record {
      settings = c.self.inside.settings;
      word = c.self.inside.word;
      channels = c.self.inside.channels.items;
    } in
    let within : c.args.channel < port.settings.number_of_channels =
    subst (λ (p : PortEntry). c.args.channel < p.settings.number_of_channels) (sym c.self.view_is) c.requires.channel in
    let is : c.index.result.now ≡ channel_at port c.args.channel =
    channel_at-found port c.self.invariant c.args.channel c.index.result.now within c.index.ensures in
    record {
      first = subst (λ (p : PortEntry). IsFirstFrom (is_used (channel_at p c.args.channel).segments c.args.segment)
          c.args.from
          c.next_used.result) c.self.view_is
          (subst (λ (channel : ChannelEntry). IsFirstFrom (is_used channel.segments c.args.segment) c.args.from
          c.next_used.result) is
          c.next_used.ensures.first);
    }
