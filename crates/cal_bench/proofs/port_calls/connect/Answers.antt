use Rattle.std.proofs.Common.{◌≡◌, List, ℕ, false, sym, ap, ◌∙◌}
use Rattle.cal_connection.specs.JoinedLemmas.{AreJoined-created}
use Rattle.cal_connection.specs.Plan.{ConnectionPlan, path_of}
use Rattle.cal_bench.proofs.port_calls.connect.Goals as goal

abbrev path : ConnectionPlan → List ℕ
path plan = path_of plan

pub returns : goal.returns
returns c =
    let sent = c.in_ok-sender.ensures in
    let received = c.in_ok-receiver.ensures in
    let same : path c.number_of_channels.result ≡ path c.number_of_channels-2.result =
    ap path c.number_of_channels.ensures.plan ∙ ap path (c.new.ensures.plan ∙ sym c.new-2.ensures.plan)
    ∙ sym (ap path c.number_of_channels-2.ensures.plan) in
    record {
      joined =
          AreJoined-created c.args.reg.now c.create_sender.new.reg c.create_receiver.new.reg c.in_ok-sender.sender
          c.in_ok-receiver.receiver false c.number_of_channels.result c.number_of_channels-2.result sent.handle
          sent.holds sent.named same received.refused received.found_refused received.connected received.end
          received.joins;
    }
