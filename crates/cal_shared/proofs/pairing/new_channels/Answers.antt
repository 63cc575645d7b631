use Rattle.std.proofs.Common.{◌≡◌, ℕ, subst, arith}
use Rattle.cal_shared.specs.New.{AreNewChannels}
use Rattle.cal_shared.proofs.NewPorts.{AreNewChannels-more, AreNewChannels-none}
use Rattle.cal_shared.proofs.pairing.new_channels.Goals as goal

pub loop-init : goal.loop-init
loop-init c = record {
  made = rw (c.in_ok-sending.ensures.items, c.in_ok-receiving.ensures.items)
      (AreNewChannels-none c.args.settings.now);
  within = omega arith;
}

pub loop-preserved : goal.loop-preserved
loop-preserved c = record {
  made = rw (c.in_ok-push.ensures.items, c.in_ok-push-2.ensures.items) (AreNewChannels-more _ _ _ _ _ _
      c.in_ok-sender.ensures.sender c.in_ok-sender.ensures.receiver c.in_ok-sender.ensures.rings
      c.loop.invariant.made);
  within = omega arith;
}

pub returns : goal.returns
returns c =
    let all : c.loop.counter ≡ c.args.settings.now.number_of_channels = omega arith in
    record {
      made = subst
          (λ (n : ℕ). AreNewChannels c.args.settings.now n c.loop.sending.items c.loop.receiving.items) all
          c.loop.invariant.made;
    }
