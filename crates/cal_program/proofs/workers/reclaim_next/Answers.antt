use Rattle.cal_program.proofs.RelaySending.{HasSent-reclaim}
use Rattle.cal_program.proofs.workers.reclaim_next.Goals as goal

pub returns-clause-sent : goal.returns-clause-sent
returns-clause-sent c count has =
    HasSent-reclaim c.reclaim.result c.args.sender.now c.reclaim.new.self c.new.result c.new.ensures.value
    c.reclaim.ensures.reclaimed count has
