use Rattle.std.proofs.Common.{◌≡◌, ◌+◌, ◌++◌, Result, Ok, Err, IfSome, sym, ap, subst}
use Rattle.cal_shm.specs.declared.errors.SharedMemoryCreateError.{SharedMemoryCreateError}
use Rattle.cal_resizable.specs.Growth.{OfSegment, growth_plan, segment_plan, segment_refusal}
use Rattle.cal_resizable.specs.SegmentNames.{number_end}
use Rattle.cal_resizable.specs.Slots.{SparesHandles}
use Rattle.cal_resizable.specs.declared.errors.ResizableShmAllocationError.TheVariants as error
use Rattle.cal_resizable.proofs.AllocationLemmas.{refused_by_plan, refused_by_hint}
use Rattle.cal_resizable.proofs.KeepingLemmas.{still_held}
use Rattle.cal_resizable.proofs.LeavingLemmas.{SparesHandles-leaves, SparesHandles-then}
use Rattle.cal_resizable.specs.Chunks.{AddsChunk}
use Rattle.cal_resizable.specs.Memory.{MemoryState, IsSoundMemory}
use Rattle.cal_resizable.proofs.StayingLemmas.{AddsChunk-here, AddsChunk-grown, not_served}
use Rattle.cal_resizable.proofs.memory.DynamicMemory.allocate.Goals as goal

pub returns-in-Ok-clause-spares : goal.returns-in-Ok-clause-spares
returns-in-Ok-clause-spares g c =
    SparesHandles-leaves c.args.reg.now c.allocate_here.new.reg c.args.self.now.slots c.allocate_here.new.self.slots
    c.in-Ok.ensures.leaves

pub returns-in-Err-grow_by-clause-refused : goal.returns-in-Err-grow_by-clause-refused
returns-in-Err-grow_by-clause-refused g c =
    let R = g.A.ShmAllocator in
    let hint = c.in-Ok-plan.hint in
    let planned = subst
    (λ (m : MemoryState). OfSegment c.args.reg.now m.slots m.current (λ segment. Ok hint
    ≡ growth_plan R m.strategy m.current c.args.layout segment.allocator c.in-Err.refusal)) c.in-Err.ensures.same
    (subst (λ reg. OfSegment reg c.allocate_here.new.self.slots c.allocate_here.new.self.current (λ segment. Ok hint
    ≡ growth_plan R c.allocate_here.new.self.strategy c.allocate_here.new.self.current c.args.layout segment.allocator
    c.in-Err.refusal)) c.in-Err.ensures.unchanged c.in-Ok-plan.ensures.plan) in
    let err : SharedMemoryCreateError → Result (Unit {0}) SharedMemoryCreateError = λ e. Err e in
    let Q : SharedMemoryCreateError → Type 0 = λ e. err c.in-Err-grow_by.error ≡ err e in
    refused_by_plan R c.args.reg.now c.args.self.now c.args.layout c.in-Err.refusal c.in-Err.ensures.refused
    (Ok hint) planned _
    (refused_by_hint R c.args.reg.now c.args.self.now c.args.layout hint _ Q
    (subst (λ (m : MemoryState). IfSome (segment_refusal R c.args.reg.now
    (segment_plan R m.settings (m.name ++ number_end (m.current + 1)) hint) hint) Q) c.in-Err.ensures.same
    (subst (λ reg. IfSome (segment_refusal R reg (segment_plan R c.allocate_here.new.self.settings
    (c.allocate_here.new.self.name ++ number_end (c.allocate_here.new.self.current + 1)) hint) hint) Q)
    c.in-Err.ensures.unchanged c.in-Err-grow_by.ensures.refused))
    (λ is same.
    let e : c.in-Err-grow_by.error ≡ is = cc in ap (λ x. Err (error.SharedMemoryCreateError x)) e))

pub returns-clause-refused : goal.returns-clause-refused
returns-clause-refused g c =
    let R = g.A.ShmAllocator in
    let hint = c.in-Ok-plan.hint in
    let planned = subst
    (λ (m : MemoryState). OfSegment c.args.reg.now m.slots m.current (λ segment. Ok hint
    ≡ growth_plan R m.strategy m.current c.args.layout segment.allocator c.in-Err.refusal)) c.in-Err.ensures.same
    (subst (λ reg. OfSegment reg c.allocate_here.new.self.slots c.allocate_here.new.self.current (λ segment. Ok hint
    ≡ growth_plan R c.allocate_here.new.self.strategy c.allocate_here.new.self.current c.args.layout segment.allocator
    c.in-Err.refusal)) c.in-Err.ensures.unchanged c.in-Ok-plan.ensures.plan) in
    let err : SharedMemoryCreateError → Result (Unit {0}) SharedMemoryCreateError = λ e. Err e in
    let Q : SharedMemoryCreateError → Type 0 = λ e. Ok c.in_default.field-0 ≡ err e in
    refused_by_plan R c.args.reg.now c.args.self.now c.args.layout c.in-Err.refusal c.in-Err.ensures.refused
    (Ok hint) planned _
    (refused_by_hint R c.args.reg.now c.args.self.now c.args.layout hint _ Q
    (subst (λ (m : MemoryState). IfSome (segment_refusal R c.args.reg.now
    (segment_plan R m.settings (m.name ++ number_end (m.current + 1)) hint) hint) Q) c.in-Err.ensures.same
    (subst (λ reg. IfSome (segment_refusal R reg (segment_plan R c.allocate_here.new.self.settings
    (c.allocate_here.new.self.name ++ number_end (c.allocate_here.new.self.current + 1)) hint) hint) Q)
    c.in-Err.ensures.unchanged c.in_default.ensures.refused))
    (λ is same. absurd (cc)))

pub returns-clause-spares : goal.returns-clause-spares
returns-clause-spares g c =
    SparesHandles-then c.args.reg.now c.grow_by.new.reg c.allocate_here-2.new.reg c.args.self.now.slots
    c.grow_by.new.self.slots c.allocate_here-2.new.self.slots
    (subst (λ (m : MemoryState). SparesHandles c.args.reg.now c.grow_by.new.reg m.slots c.grow_by.new.self.slots)
    c.in-Err.ensures.same
    (subst (λ reg. SparesHandles reg c.grow_by.new.reg c.allocate_here.new.self.slots c.grow_by.new.self.slots)
    c.in-Err.ensures.unchanged c.grow_by.ensures.spares))
    c.in-Ok-allocate_here.ensures.leaves
    (still_held g.A.ShmAllocator c.grow_by.new.reg c.allocate_here-2.new.reg c.grow_by.new.self
    c.allocate_here-2.new.self c.args.layout c.in-Ok-allocate_here.pointer.offset c.in-Ok-allocate_here.ensures.given)

pub returns-in-Ok-clause-stays_out : goal.returns-in-Ok-clause-stays_out
returns-in-Ok-clause-stays_out g c =
    AddsChunk-here g.A.ShmAllocator g.met.A.ShmAllocator.allocation g.met.A.ShmAllocator.served c.args.layout
    c.in-Ok.pointer.offset c.args.reg.now c.allocate_here.new.reg c.args.self.now c.allocate_here.new.self
    c.allocate_here.ensures.sound c.requires.has c.in-Ok.ensures.given c.in-Ok.ensures.within c.in-Ok.ensures.refused

pub returns-in-Err-plan-clause-serves : goal.returns-in-Err-plan-clause-serves
returns-in-Err-plan-clause-serves g c =
    not_served g.A.ShmAllocator c.args.reg.now c.args.self.now c.args.layout c.in-Err.refusal c.in-Err.ensures.refused

pub returns-in-Err-grow_by-clause-serves : goal.returns-in-Err-grow_by-clause-serves
returns-in-Err-grow_by-clause-serves g c =
    not_served g.A.ShmAllocator c.args.reg.now c.args.self.now c.args.layout c.in-Err.refusal c.in-Err.ensures.refused

pub returns-clause-stays_out : goal.returns-clause-stays_out
returns-clause-stays_out g c =
    let R = g.A.ShmAllocator in
    let new = c.allocate_here-2.new.reg in
    let after = c.allocate_here-2.new.self in
    let pointer = c.in-Ok-allocate_here.pointer.offset in
    subst (λ (m : MemoryState). AddsChunk R.properties R.IsByteUsed R.IsAllocated c.args.reg.now m.slots c.args.layout
    pointer new after.slots)
    c.in-Err.ensures.same
    (subst (λ reg. AddsChunk R.properties R.IsByteUsed R.IsAllocated reg c.allocate_here.new.self.slots c.args.layout
    pointer new after.slots)
    c.in-Err.ensures.unchanged
    (AddsChunk-grown R g.met.A.ShmAllocator.allocation g.met.A.ShmAllocator.served c.args.layout pointer
    c.allocate_here.new.reg c.grow_by.new.reg
    new c.allocate_here.new.self c.grow_by.new.self after c.in-Ok-plan.hint
    (subst IsSoundMemory (sym c.in-Err.ensures.same) c.allocate_here.ensures.sound)
    (let own = c.allocate_here.ensures.own in own.has) c.in-Ok-plan.ensures.below c.in_default.ensures.contents
    c.in_default.ensures.memory c.allocate_here-2.ensures.sound (let own = c.grow_by.ensures.own in own.has)
    c.in-Ok-allocate_here.ensures.given c.in-Ok-allocate_here.ensures.within c.in-Ok-allocate_here.ensures.refused))
