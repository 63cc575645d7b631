use Rattle.std.proofs.Common.{◌≡◌, ◌<◌, ◌/◌, sym, subst, refl}
use Rattle.cal_alloc.specs.PointerOffset.{offset_of, segment_of}
use Rattle.cal_connection.specs.Channel.{ChannelEntry, capacity_of, segment_at}
use Rattle.cal_connection.specs.Port.{PortEntry, IsWithin, channel_at, is_in_use}
use Rattle.cal_connection.specs.PortLemmas.{channel_at-found, length-segments, samples-segment_at}
use Rattle.cal_connection.proofs.shared_management_data.SharedManagementData.is_in_use.Goals as goal

pub is_used-requires-clause-segment : goal.is_used-requires-clause-segment
is_used-requires-clause-segment c =
    let port : PortEntry = record {
      settings = c.self.inside.settings;
      word = c.self.inside.word;
      channels = c.self.inside.channels.items;
    } in
    let within : IsWithin port c.args.channel c.args.ptr c.args.sample_size =
    subst (λ (p : PortEntry). IsWithin p c.args.channel c.args.ptr c.args.sample_size) (sym c.self.view_is)
    c.requires in
    let is : c.index.result.now ≡ channel_at port c.args.channel =
    channel_at-found port c.self.invariant c.args.channel c.index.result.now within.there c.index.ensures in
    rw (
      is,
      length-segments port c.self.invariant c.args.channel within.there,
      c.value.ensures.value,
      c.segment_id.ensures.value,
    ) within.segment

pub is_used-requires-clause-index : goal.is_used-requires-clause-index
is_used-requires-clause-index c =
    let port : PortEntry = record {
      settings = c.self.inside.settings;
      word = c.self.inside.word;
      channels = c.self.inside.channels.items;
    } in
    let within : IsWithin port c.args.channel c.args.ptr c.args.sample_size =
    subst (λ (p : PortEntry). IsWithin p c.args.channel c.args.ptr c.args.sample_size) (sym c.self.view_is)
    c.requires in
    let is : c.index.result.now ≡ channel_at port c.args.channel =
    channel_at-found port c.self.invariant c.args.channel c.index.result.now within.there c.index.ensures in
    rw (c.offset.ensures.value, c.value.ensures.value, c.segment_id.ensures.value)
    (subst (λ (channel : ChannelEntry). offset_of c.args.ptr / c.args.sample_size
    < capacity_of (segment_at channel.segments (segment_of c.args.ptr)).used) (sym is)
    (subst (λ n. offset_of c.args.ptr / c.args.sample_size < n)
    (sym (samples-segment_at port c.self.invariant c.args.channel (segment_of c.args.ptr) within.there within.segment))
    within.index))

pub returns : goal.returns
returns c =
    let port : PortEntry = record {
      settings = c.self.inside.settings;
      word = c.self.inside.word;
      channels = c.self.inside.channels.items;
    } in
    let within : IsWithin port c.args.channel c.args.ptr c.args.sample_size =
    subst (λ (p : PortEntry). IsWithin p c.args.channel c.args.ptr c.args.sample_size) (sym c.self.view_is)
    c.requires in
    let is : c.index.result.now ≡ channel_at port c.args.channel =
    channel_at-found port c.self.invariant c.args.channel c.index.result.now within.there c.index.ensures in
    record {
      value = subst (λ (p : PortEntry). c.is_used.result ≡ is_in_use p c.args.channel c.args.ptr c.args.sample_size)
          c.self.view_is
          (rw (c.is_used.ensures.value, is, c.offset.ensures.value, c.value.ensures.value, c.segment_id.ensures.value)
          refl);
    }
