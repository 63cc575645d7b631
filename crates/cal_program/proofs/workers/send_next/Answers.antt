use Rattle.std.proofs.Common.{arith}
use Rattle.cal_program.proofs.RelaySending.{HasSent-try_send}
use Rattle.cal_program.proofs.workers.send_next.Goals as goal

pub returns-clause-sent : goal.returns-clause-sent
returns-clause-sent c =
    HasSent-try_send c.try_send.result c.args.sender.now c.try_send.new.self c.args.form c.args.index c.new.result
    c.new-2.result c.requires.settings c.new.ensures.value c.new-2.ensures.value
    (omega (arith, c.requires.within, c.requires.few)) c.try_send.ensures.sent c.requires.sent
