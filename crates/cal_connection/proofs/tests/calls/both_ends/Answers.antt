use Rattle.std.proofs.Common.{sym, ap, ◌∙◌}
use Rattle.cal_connection.specs.JoinedLemmas.{AreJoined-created}
use Rattle.cal_connection.specs.Plan.{ConnectionPlan, path_of}
use Rattle.cal_connection.proofs.tests.calls.both_ends.Goals as goal

pub returns : goal.returns
returns g c =
    let sent = c.in_ok-sender.ensures in
    let received = c.in_ok-receiver.ensures in
    record {
      joined =
          AreJoined-created c.args.reg.now c.create_sender.new.reg c.create_receiver.new.reg c.in_ok-sender.sender
          c.in_ok-receiver.receiver g.S.DynamicStorage.checks_version c.small.result c.small-2.result sent.handle
          sent.holds sent.named
          (c.small.ensures.path
          ∙ ap (λ (plan : ConnectionPlan). path_of plan) (c.new.ensures.plan ∙ sym c.new-2.ensures.plan)
          ∙ sym c.small-2.ensures.path)
          received.refused received.found_refused received.connected received.end received.joins;
    }
