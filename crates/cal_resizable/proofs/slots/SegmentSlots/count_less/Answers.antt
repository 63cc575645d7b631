use Rattle.std.proofs.Common.{sym, ap, ◌∙◌, slice_set, arith}
use Rattle.cal_resizable.specs.declared.slots.CountedSegment.{CountedSegment}
use Rattle.cal_resizable.specs.Slots.{HeldSegment, counted_less}
use Rattle.cal_resizable.proofs.SlotLemmas.{IsCounted-same, shown_then, some_found}
use Rattle.cal_resizable.proofs.slots.SegmentSlots.count_less.Goals as goal

pub invariant_of-self : goal.invariant_of-self
invariant_of-self g c =
    let f : CountedSegment g.row.Shm.Denot → HeldSegment =
    λ counted. record { handle = g.Shm.PayloadHolder.handle counted.segment; count = counted.count } in
    IsCounted-same f c.self.inside.slots.items c.args.number c.args.self.now c.self.view_is c.self.inside.held
    c.self.invariant
    (omega arith) (f c.in-Some.counted)
    (some_found f c.self.inside.slots.items c.args.number c.args.self.now c.self.view_is c.self.inside.held
    c.self.invariant
    (omega arith) c.index_mut.result.now c.in-Some.counted c.index_mut.ensures.value c.in-Some.is)
    _

pub returns : goal.returns
returns g c =
    let f : CountedSegment g.row.Shm.Denot → HeldSegment =
    λ counted. record { handle = g.Shm.PayloadHolder.handle counted.segment; count = counted.count } in
    record {
      counted =
          shown_then f c.self.inside.slots.items c.args.number c.args.self.now c.self.view_is c.self.inside.held
          c.self.invariant
          (omega arith) _
          ∙ ap (λ slot. slice_set c.args.self.now c.args.number (counted_less slot))
          (sym (some_found f c.self.inside.slots.items c.args.number c.args.self.now c.self.view_is c.self.inside.held
          c.self.invariant
          (omega arith) c.index_mut.result.now c.in-Some.counted c.index_mut.ensures.value c.in-Some.is));
    }
