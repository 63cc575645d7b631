use Rattle.std.proofs.Common.{refl}
use Rattle.cal_shared.specs.Channels.{FitsReceiver, FitsSender}
use Rattle.cal_shared.specs.New.{IsNewReceivingChannel, IsNewSendingChannel}
use Rattle.cal_shared.proofs.NewPorts.{FitsReceiver-new, FitsSender-new, IsSoundPort-new, same_pair}
use Rattle.cal_shared.proofs.pairing.new_pair.Goals as goal

pub invariant_of-sender : goal.invariant_of-sender
invariant_of-sender c =
    IsSoundPort-new FitsSender IsNewSendingChannel c.args.settings.now c.args.initial _ _ _
    (FitsSender-new c.args.settings.now) c.requires.clamped c.requires.few c.in_ok-first.ensures.first
    c.in_ok-sending.ensures.made.sender_count c.in_ok-sending.ensures.made.senders

pub invariant_of-receiver : goal.invariant_of-receiver
invariant_of-receiver c =
    IsSoundPort-new FitsReceiver IsNewReceivingChannel c.args.settings.now c.args.initial _ _ _
    (FitsReceiver-new c.args.settings.now) c.requires.clamped c.requires.few c.in_ok-first.ensures.second
    c.in_ok-sending.ensures.made.receiver_count c.in_ok-sending.ensures.made.receivers

pub returns : goal.returns
returns c = record {
  pair = same_pair c.args.settings.now c.in_ok-first.first.seat.table_id c.in_ok-first.second.seat.table_id
      c.in_ok-sending.sending.items c.in_ok-sending.receiving.items c.in_ok-first.ensures.shared
      c.in_ok-sending.ensures.made.rings;
  sender = record {
    same_settings = refl;
    states = c.in_ok-first.ensures.first;
    count = c.in_ok-sending.ensures.made.sender_count;
    channels = c.in_ok-sending.ensures.made.senders;
  };
  receiver = record {
    same_settings = refl;
    states = c.in_ok-first.ensures.second;
    count = c.in_ok-sending.ensures.made.receiver_count;
    channels = c.in_ok-sending.ensures.made.receivers;
  };
}
