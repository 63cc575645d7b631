use Rattle.std.proofs.Common.{◌≡◌, ◌∙◌, ◌<◌, ◌/◌, sym, ap, subst}
use Rattle.cal_alloc.specs.PointerOffset.{offset_of, segment_of}
use Rattle.cal_connection.specs.Channel.{ChannelEntry, shape, capacity_of, segment_at, send_answer, after_send}
use Rattle.cal_connection.specs.Port.{PortEntry, IsWithin, channel_at, with_channel}
use Rattle.cal_connection.specs.PortLemmas.{IsSoundPort-changed, channel_at-found, length-segments, samples-segment_at}
use Rattle.cal_connection.specs.ShapeLemmas.{shape-after_send}
use Rattle.cal_connection.proofs.shared_management_data.SharedManagementData.try_send.Goals as goal

pub try_send-requires-clause-segment : goal.try_send-requires-clause-segment
try_send-requires-clause-segment c =
    let port : PortEntry = record {
      settings = c.self.inside.settings;
      word = c.self.inside.word;
      channels = c.self.inside.channels.items;
    } in
    let within : IsWithin port c.args.channel c.args.ptr c.args.sample_size =
    subst (λ (p : PortEntry). IsWithin p c.args.channel c.args.ptr c.args.sample_size) (sym c.self.view_is)
    c.requires in
    let is : c.index_mut.result.now ≡ channel_at port c.args.channel =
    channel_at-found port c.self.invariant c.args.channel c.index_mut.result.now within.there
    c.index_mut.ensures.value in
    rw (is, length-segments port c.self.invariant c.args.channel within.there) within.segment

pub try_send-requires-clause-index : goal.try_send-requires-clause-index
try_send-requires-clause-index c =
    let port : PortEntry = record {
      settings = c.self.inside.settings;
      word = c.self.inside.word;
      channels = c.self.inside.channels.items;
    } in
    let within : IsWithin port c.args.channel c.args.ptr c.args.sample_size =
    subst (λ (p : PortEntry). IsWithin p c.args.channel c.args.ptr c.args.sample_size) (sym c.self.view_is)
    c.requires in
    let is : c.index_mut.result.now ≡ channel_at port c.args.channel =
    channel_at-found port c.self.invariant c.args.channel c.index_mut.result.now within.there
    c.index_mut.ensures.value in
    subst (λ (channel : ChannelEntry). offset_of c.args.ptr / c.args.sample_size
    < capacity_of (segment_at channel.segments (segment_of c.args.ptr)).used) (sym is)
    (subst (λ n. offset_of c.args.ptr / c.args.sample_size < n)
    (sym (samples-segment_at port c.self.invariant c.args.channel (segment_of c.args.ptr) within.there within.segment))
    within.index)

pub invariant_of-self : goal.invariant_of-self
invariant_of-self c =
    IsSoundPort-changed _ c.self.invariant c.args.channel c.index_mut.result.now c.try_send.new.self
    c.index_mut.ensures.value (ap shape c.try_send.ensures.sent ∙ shape-after_send _ _ _ _)

pub returns-clause-answer : goal.returns-clause-answer
returns-clause-answer c =
    let port : PortEntry = record {
      settings = c.self.inside.settings;
      word = c.self.inside.word;
      channels = c.self.inside.channels.items;
    } in
    let within : IsWithin port c.args.channel c.args.ptr c.args.sample_size =
    subst (λ (p : PortEntry). IsWithin p c.args.channel c.args.ptr c.args.sample_size) (sym c.self.view_is)
    c.requires in
    let is : c.index_mut.result.now ≡ channel_at port c.args.channel =
    channel_at-found port c.self.invariant c.args.channel c.index_mut.result.now within.there
    c.index_mut.ensures.value in
    subst (λ (p : PortEntry). c.try_send.result
    ≡ send_answer p.settings.enable_safe_overflow (channel_at p c.args.channel) c.args.ptr c.args.sample_size)
    c.self.view_is
    (c.try_send.ensures.answer
    ∙ ap (λ channel. send_answer port.settings.enable_safe_overflow channel c.args.ptr c.args.sample_size) is)

pub returns-clause-sent : goal.returns-clause-sent
returns-clause-sent c =
    let port : PortEntry = record {
      settings = c.self.inside.settings;
      word = c.self.inside.word;
      channels = c.self.inside.channels.items;
    } in
    let within : IsWithin port c.args.channel c.args.ptr c.args.sample_size =
    subst (λ (p : PortEntry). IsWithin p c.args.channel c.args.ptr c.args.sample_size) (sym c.self.view_is)
    c.requires in
    let is : c.index_mut.result.now ≡ channel_at port c.args.channel =
    channel_at-found port c.self.invariant c.args.channel c.index_mut.result.now within.there
    c.index_mut.ensures.value in
    subst (λ (p : PortEntry). with_channel port c.args.channel c.try_send.new.self ≡ with_channel p c.args.channel
    (after_send p.settings.enable_safe_overflow (channel_at p c.args.channel) c.args.ptr c.args.sample_size))
    c.self.view_is
    (ap (with_channel port c.args.channel) (c.try_send.ensures.sent
    ∙ ap (λ channel. after_send port.settings.enable_safe_overflow channel c.args.ptr c.args.sample_size) is))
