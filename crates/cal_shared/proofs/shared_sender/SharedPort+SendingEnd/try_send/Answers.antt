use Rattle.cal_queue.specs.StateSeats.{pass}
use Rattle.cal_connection.specs.declared.settings.ConnectionSettings.{ConnectionSettings}
use Rattle.cal_shared.specs.Channels.{FitsSender, SendingChannel}
use Rattle.cal_shared.specs.Sending.{TriesToSend}
use Rattle.cal_shared.proofs.FoundChannel.{Fits-found, Found, IsSoundPort-changed, OnChannel-changed, pair_of-changed}
use Rattle.cal_shared.proofs.NamedSamples.{sample-named, segment-named}
use Rattle.cal_shared.proofs.shared_sender.SharedPort+SendingEnd.try_send.Goals as goal

pub try_send-requires-clause-segment : goal.try_send-requires-clause-segment
try_send-requires-clause-segment c =
    let f : Found FitsSender c.args.self.now c.args.channel_id = record {
      port = record {
        settings = c.self.inside.settings;
        words = c.self.inside.states.seat.table_id;
        states = pass c.self.inside.states;
        channels = c.self.inside.channels.items;
      };
      same = c.self.view_is;
      sound = c.self.invariant;
      index = c.value.result;
      at = c.value.ensures.value;
      within = c.requires.sendable.within.there;
      found = c.index_mut.result.now;
      is = c.index_mut.ensures.value;
    } in
    segment-named _ _ f c.args.ptr c.args.sample_size c.requires.sendable.within

pub try_send-requires-clause-index : goal.try_send-requires-clause-index
try_send-requires-clause-index c =
    let f : Found FitsSender c.args.self.now c.args.channel_id = record {
      port = record {
        settings = c.self.inside.settings;
        words = c.self.inside.states.seat.table_id;
        states = pass c.self.inside.states;
        channels = c.self.inside.channels.items;
      };
      same = c.self.view_is;
      sound = c.self.invariant;
      index = c.value.result;
      at = c.value.ensures.value;
      within = c.requires.sendable.within.there;
      found = c.index_mut.result.now;
      is = c.index_mut.ensures.value;
    } in
    sample-named _ _ f c.args.ptr c.args.sample_size c.requires.sendable.within

pub invariant_of-self : goal.invariant_of-self
invariant_of-self c =
    let f : Found FitsSender c.args.self.now c.args.channel_id = record {
      port = record {
        settings = c.self.inside.settings;
        words = c.self.inside.states.seat.table_id;
        states = pass c.self.inside.states;
        channels = c.self.inside.channels.items;
      };
      same = c.self.view_is;
      sound = c.self.invariant;
      index = c.value.result;
      at = c.value.ensures.value;
      within = c.requires.sendable.within.there;
      found = c.index_mut.result.now;
      is = c.index_mut.ensures.value;
    } in
    IsSoundPort-changed f c.try_send.new.self (c.try_send.ensures.kept _ (Fits-found f))

pub returns-clause-sent : goal.returns-clause-sent
returns-clause-sent c =
    let f : Found FitsSender c.args.self.now c.args.channel_id = record {
      port = record {
        settings = c.self.inside.settings;
        words = c.self.inside.states.seat.table_id;
        states = pass c.self.inside.states;
        channels = c.self.inside.channels.items;
      };
      same = c.self.view_is;
      sound = c.self.invariant;
      index = c.value.result;
      at = c.value.ensures.value;
      within = c.requires.sendable.within.there;
      found = c.index_mut.result.now;
      is = c.index_mut.ensures.value;
    } in
    OnChannel-changed f c.try_send.new.self
    (λ (s : ConnectionSettings). TriesToSend s.enable_safe_overflow c.args.ptr c.args.sample_size c.try_send.result)
    c.try_send.ensures.sent

pub returns-clause-pair : goal.returns-clause-pair
returns-clause-pair c =
    let f : Found FitsSender c.args.self.now c.args.channel_id = record {
      port = record {
        settings = c.self.inside.settings;
        words = c.self.inside.states.seat.table_id;
        states = pass c.self.inside.states;
        channels = c.self.inside.channels.items;
      };
      same = c.self.view_is;
      sound = c.self.invariant;
      index = c.value.result;
      at = c.value.ensures.value;
      within = c.requires.sendable.within.there;
      found = c.index_mut.result.now;
      is = c.index_mut.ensures.value;
    } in
    pair_of-changed f (λ (channel : SendingChannel). channel.rings) c.try_send.new.self c.try_send.ensures.rings
