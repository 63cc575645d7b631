use Rattle.std.proofs.Common.{Some, arith}
use Rattle.cal_resizable.specs.declared.slots.CountedSegment.{CountedSegment}
use Rattle.cal_resizable.specs.Slots.{HeldSegment}
use Rattle.cal_resizable.proofs.SlotLemmas.{IsCounted-more, shown_then, fits_more}
use Rattle.cal_resizable.proofs.slots.SegmentSlots.insert.Goals as goal

pub overflow_add-self : goal.overflow_add-self
overflow_add-self g c =
    let f : CountedSegment g.row.Shm.Denot → HeldSegment =
    λ counted. record { handle = g.Shm.PayloadHolder.handle counted.segment; count = counted.count } in
    omega (arith, fits_more f c.self.inside.slots.items c.self.inside.held c.self.invariant)

pub invariant_of-self : goal.invariant_of-self
invariant_of-self g c =
    let f : CountedSegment g.row.Shm.Denot → HeldSegment =
    λ counted. record { handle = g.Shm.PayloadHolder.handle counted.segment; count = counted.count } in
    IsCounted-more f c.self.inside.slots.items c.args.number c.args.self.now c.self.view_is c.self.inside.held
    c.self.invariant (omega arith) c.requires (record { segment = c.args.segment; count = 0 })

pub returns : goal.returns
returns g c =
    let f : CountedSegment g.row.Shm.Denot → HeldSegment =
    λ counted. record { handle = g.Shm.PayloadHolder.handle counted.segment; count = counted.count } in
    record {
      held =
          shown_then f c.self.inside.slots.items c.args.number c.args.self.now c.self.view_is c.self.inside.held
          c.self.invariant (omega arith) (Some (record { segment = c.args.segment; count = 0 }));
    }
