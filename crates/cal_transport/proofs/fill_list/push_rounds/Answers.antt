-- One more round is appended.
use Rattle.cal_transport.specs.Rounds.{round_of}
use Rattle.cal_transport.proofs.RoundLists.{rounds_more}
use Rattle.cal_transport.proofs.fill_list.push_rounds.Goals as goal

pub loop-index-preserved : goal.loop-index-preserved
loop-index-preserved c =
    rounds_more (round_of c.args.round) c.args.commands.now.items c.loop-index.commands.items
    c.push_round.new.commands.items c.args.first c.loop-index.index c.loop-index.invariant
    c.in_ok-push_round.ensures.round
