use Rattle.cal_resizable.proofs.ClosingLemmas.{closing-there, closing-same, closing-rest}
use Rattle.cal_resizable.proofs.closing.close_one.Goals as goal

pub close-requires : goal.close-requires
close-requires g c =
    closing-there c.args.reg.now c.args.reg.now c.args.segments.now c.args.number c.requires.first c.requires.can
    (g.Shm.PayloadHolder.handle c.remove.result) c.remove.ensures.handle c.remove.new.self c.remove.ensures.removed

pub returns-then-is_held-clause-same : goal.returns-then-is_held-clause-same
returns-then-is_held-clause-same g c =
    closing-same c.args.reg.now c.close.new.reg c.args.segments.now c.args.number c.requires.first c.requires.can
    (g.Shm.PayloadHolder.handle c.remove.result) c.remove.ensures.handle c.remove.new.self c.remove.ensures.removed
    c.close.ensures.closed

pub returns-then-is_held-clause-can : goal.returns-then-is_held-clause-can
returns-then-is_held-clause-can g c =
    closing-rest c.args.reg.now c.close.new.reg c.args.segments.now c.args.number c.requires.first c.requires.can
    (g.Shm.PayloadHolder.handle c.remove.result) c.remove.ensures.handle c.remove.new.self c.remove.ensures.removed
    c.close.ensures.keeps_others
