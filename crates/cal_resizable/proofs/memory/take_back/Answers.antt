use Rattle.std.proofs.Common.{◌<◌, sym, subst}
use Rattle.cal_resizable.specs.Slots.{AreApart, IsSpared, SparesHandles, segment_at, with_less}
use Rattle.cal_resizable.proofs.KeepingLemmas.{some_and, was_held-less, SparesHandles-was_held}
use Rattle.cal_resizable.proofs.MemoryLemmas.{AreApart-was_held}
use Rattle.cal_resizable.proofs.memory.take_back.Goals as goal

pub returns-then-number-current-clause-leaves : goal.returns-then-number-current-clause-leaves
returns-then-number-current-clause-leaves g c handle spared =
    c.retire_unused.ensures.leaves handle
    (subst (λ s. IsSpared (segment_at s c.args.number) handle) (sym c.count_less.ensures.counted)
    (spared c.if-number-current.true))

pub returns-then-number-current-clause-spares : goal.returns-then-number-current-clause-spares
returns-then-number-current-clause-spares g c apart =
    let is = some_and (λ held. 0 < held.count) (segment_at c.args.slots.now c.args.number) c.requires.held in
    let was = was_held-less c.args.slots.now c.args.number is.0 is.1 in
    SparesHandles-was_held c.args.reg.now c.retire_unused.new.reg c.args.slots.now
    (with_less c.args.slots.now c.args.number) c.retire_unused.new.self was
    (subst (λ s. SparesHandles c.args.reg.now c.retire_unused.new.reg s c.retire_unused.new.self)
    c.count_less.ensures.counted
    (c.retire_unused.ensures.spares (subst AreApart (sym c.count_less.ensures.counted)
    (AreApart-was_held c.args.slots.now (with_less c.args.slots.now c.args.number) was apart))))
