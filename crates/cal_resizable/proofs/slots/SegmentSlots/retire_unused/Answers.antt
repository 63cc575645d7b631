use Rattle.std.proofs.Common.{refl}
use Rattle.cal_resizable.specs.Slots.{segment_at}
use Rattle.cal_resizable.proofs.LeavingLemmas.{leaves_spared, spares_others}
use Rattle.cal_resizable.proofs.slots.SegmentSlots.retire_unused.Goals as goal

pub returns-then-count-eq0-clause-leaves : goal.returns-then-count-eq0-clause-leaves
returns-then-count-eq0-clause-leaves g c handle spared =
    leaves_spared c.args.reg.now c.close.new.reg c.close.ensures.sound (segment_at c.args.self.now c.args.number)
    (g.Shm.PayloadHolder.handle c.remove.result) c.remove.ensures.handle c.requires c.close.ensures.closed
    c.count.result c.count.ensures.count c.if-count-eq0.true handle spared

pub returns-then-count-eq0-clause-spares : goal.returns-then-count-eq0-clause-spares
returns-then-count-eq0-clause-spares g c apart =
    spares_others c.args.reg.now c.close.new.reg c.close.ensures.sound (segment_at c.args.self.now c.args.number)
    (g.Shm.PayloadHolder.handle c.remove.result) c.remove.ensures.handle c.requires c.close.ensures.closed
    c.args.self.now c.remove.new.self c.args.number refl c.remove.ensures.removed apart
    c.close.ensures.leaves_sharers
