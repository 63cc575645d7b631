use Rattle.std.proofs.Common.{None, sym, ◌∙◌, arith}
use Rattle.cal_resizable.specs.declared.slots.CountedSegment.{CountedSegment}
use Rattle.cal_resizable.specs.Slots.{HeldSegment}
use Rattle.cal_resizable.proofs.SlotLemmas.{IsCounted-less, counted_once, shown_then, some_found}
use Rattle.cal_resizable.proofs.slots.SegmentSlots.remove.Goals as goal

pub overflow_sub-self : goal.overflow_sub-self
overflow_sub-self g c =
    let f : CountedSegment g.row.Shm.Denot → HeldSegment =
    λ counted. record { handle = g.Shm.PayloadHolder.handle counted.segment; count = counted.count } in
    counted_once f c.self.inside.slots.items c.args.number c.args.self.now c.self.view_is c.self.inside.held
    c.self.invariant (omega arith) (f c.in-Some.counted)
    (some_found f c.self.inside.slots.items c.args.number c.args.self.now c.self.view_is c.self.inside.held
    c.self.invariant (omega arith) c.index_mut.result.now c.in-Some.counted c.index_mut.ensures.value
    (sym c.take.ensures.value ∙ c.in-Some.is))

pub invariant_of-self : goal.invariant_of-self
invariant_of-self g c =
    let f : CountedSegment g.row.Shm.Denot → HeldSegment =
    λ counted. record { handle = g.Shm.PayloadHolder.handle counted.segment; count = counted.count } in
    rw c.take.ensures.after
    (IsCounted-less f c.self.inside.slots.items c.args.number c.args.self.now c.self.view_is c.self.inside.held
    c.self.invariant (omega arith) (f c.in-Some.counted)
    (some_found f c.self.inside.slots.items c.args.number c.args.self.now c.self.view_is c.self.inside.held
    c.self.invariant (omega arith) c.index_mut.result.now c.in-Some.counted c.index_mut.ensures.value
    (sym c.take.ensures.value ∙ c.in-Some.is)))

pub returns-clause-removed : goal.returns-clause-removed
returns-clause-removed g c =
    let f : CountedSegment g.row.Shm.Denot → HeldSegment =
    λ counted. record { handle = g.Shm.PayloadHolder.handle counted.segment; count = counted.count } in
    rw c.take.ensures.after
    (shown_then f c.self.inside.slots.items c.args.number c.args.self.now c.self.view_is c.self.inside.held
    c.self.invariant (omega arith) None)
