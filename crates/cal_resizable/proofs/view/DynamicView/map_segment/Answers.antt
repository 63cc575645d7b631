use Rattle.std.proofs.Common.{arith}
use Rattle.cal_resizable.proofs.ViewCallLemmas.{map-there, map-IsView, map-HasView, map-Spares}
use Rattle.cal_resizable.proofs.view.DynamicView.map_segment.Goals as goal

pub retire_one-requires : goal.retire_one-requires
retire_one-requires g c =
    map-there c.args.reg.now c.open_segment.new.reg c.open_segment.new.reg _ _ c.self.view_is c.self.invariant
    c.requires.there c.args.number (omega arith) c.requires.unmapped (g.Shm.PayloadHolder.handle c.in-Ok.segment)
    c.in-Ok.ensures.sound c.in-Ok.ensures.found c.in-Ok.ensures.handle c.in-Ok.ensures.opened c.insert.new.self
    c.insert.ensures.held

pub invariant_of-self : goal.invariant_of-self
invariant_of-self g c =
    map-IsView c.args.reg.now c.open_segment.new.reg c.retire_one.new.reg _ _ c.self.view_is c.self.invariant
    c.requires.there c.args.number (omega arith) c.requires.unmapped (g.Shm.PayloadHolder.handle c.in-Ok.segment)
    c.in-Ok.ensures.sound c.in-Ok.ensures.found c.in-Ok.ensures.handle c.in-Ok.ensures.opened c.insert.new.self
    c.insert.ensures.held c.retire_one.new.segments c.retire_one.ensures.slots

pub returns-clause-has : goal.returns-clause-has
returns-clause-has g c =
    map-HasView c.args.reg.now c.open_segment.new.reg c.retire_one.new.reg _ _ c.self.view_is c.self.invariant
    c.requires.there c.args.number (omega arith) c.requires.unmapped (g.Shm.PayloadHolder.handle c.in-Ok.segment)
    c.in-Ok.ensures.sound c.in-Ok.ensures.found c.in-Ok.ensures.handle c.in-Ok.ensures.opened c.insert.new.self
    c.insert.ensures.held c.retire_one.new.segments c.retire_one.ensures.slots c.retire_one.ensures.leaves

pub returns-clause-spares : goal.returns-clause-spares
returns-clause-spares g c =
    map-Spares c.args.reg.now c.open_segment.new.reg c.retire_one.new.reg _ _ c.self.view_is c.self.invariant
    c.requires.there c.args.number (omega arith) c.requires.unmapped (g.Shm.PayloadHolder.handle c.in-Ok.segment)
    c.in-Ok.ensures.sound c.in-Ok.ensures.found c.in-Ok.ensures.handle c.in-Ok.ensures.opened c.insert.new.self
    c.insert.ensures.held c.retire_one.new.segments c.retire_one.ensures.slots c.retire_one.ensures.spares
