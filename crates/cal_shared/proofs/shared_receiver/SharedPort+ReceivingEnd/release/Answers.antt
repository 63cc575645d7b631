use Rattle.cal_queue.specs.StateSeats.{pass}
use Rattle.cal_shared.specs.Channels.{FitsReceiver, ReceivingChannel}
use Rattle.cal_shared.proofs.FoundChannel.{Found, pair_of-changed}
use Rattle.cal_shared.proofs.shared_receiver.SharedPort+ReceivingEnd.release.Goals as goal

pub returns-clause-pair : goal.returns-clause-pair
returns-clause-pair c =
    let f : Found FitsReceiver c.args.self.now c.args.channel_id = record {
      port = record {
        settings = c.self.inside.settings;
        words = c.self.inside.states.seat.table_id;
        states = pass c.self.inside.states;
        channels = c.self.inside.channels.items;
      };
      same = c.self.view_is;
      sound = c.self.invariant;
      index = c.value.result;
      at = c.value.ensures.value;
      within = c.requires.channel;
      found = c.index_mut.result.now;
      is = c.index_mut.ensures.value;
    } in
    pair_of-changed f (λ (channel : ReceivingChannel). channel.rings) c.release.new.self c.release.ensures.rings
