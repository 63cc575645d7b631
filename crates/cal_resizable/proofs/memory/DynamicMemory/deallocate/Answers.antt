use Rattle.std.proofs.Common.{◌≡◌, ◌<◌, ℕ, sym, subst, ◌∙◌}
use Rattle.cal_alloc.specs.PointerOffset.{segment_of}
use Rattle.cal_resizable.specs.Memory.{MemoryState, IsSoundMemory, HasAll}
use Rattle.cal_resizable.specs.Slots.{count_at}
use Rattle.cal_resizable.proofs.KeepingLemmas.{EachHandle-leaves, LeavesHandle-ChangesAllocator, has_segment, IsSoundMemory-returned, TakesBack-by, KeepsOwn-returned, SparesHandles-returned}
use Rattle.cal_resizable.proofs.StayingLemmas.{RemovesChunk-taken}
use Rattle.cal_resizable.proofs.memory.DynamicMemory.deallocate.Goals as goal

pub take_back-requires-clause-has : goal.take_back-requires-clause-has
take_back-requires-clause-has g c =
    let management = g.Shm.PayloadHolder.handle c.self.inside.management in
    has_segment c.deallocate.new.reg management c.self.inside.slots
    (EachHandle-leaves c.args.reg.now c.deallocate.new.reg management c.self.inside.slots
    (LeavesHandle-ChangesAllocator _ _ _ _ c.deallocate.ensures.freed)
    (subst (HasAll c.args.reg.now) (sym c.self.view_is) c.requires.has))
    c.value-number.result (g.Shm.PayloadHolder.handle c.segment.result.now) c.segment.ensures.handle

pub invariant_of-self : goal.invariant_of-self
invariant_of-self g c =
    let number : c.value-number.result ≡ segment_of c.args.offset =
    c.value-number.ensures.value ∙ c.segment_id.ensures.value in
    IsSoundMemory-returned (λ was is. g.A.ShmAllocator.Deallocates was c.within_segment-in_segment.result is)
    c.args.reg.now c.deallocate.new.reg c.take_back.new.reg _ c.self.invariant c.value-number.result
    c.take_back.new.slots
    (subst (λ (n : ℕ). 0 < count_at c.self.inside.slots n) (sym number)
    (subst (λ (m : MemoryState). 0 < count_at m.slots (segment_of c.args.offset)) (sym c.self.view_is)
    c.requires.chunks))
    c.take_back.ensures.slots

pub returns-clause-freed : goal.returns-clause-freed
returns-clause-freed g c =
    let number : c.value-number.result ≡ segment_of c.args.offset =
    c.value-number.ensures.value ∙ c.segment_id.ensures.value in
    rw (← c.self.view_is, ← number, ← c.within_segment-in_segment.ensures)
    (TakesBack-by (λ was is. g.A.ShmAllocator.Deallocates was c.within_segment-in_segment.result is)
    c.args.reg.now c.deallocate.new.reg c.take_back.new.reg _ c.self.invariant c.value-number.result
    c.take_back.new.slots
    (subst (λ (n : ℕ). 0 < count_at c.self.inside.slots n) (sym number)
    (subst (λ (m : MemoryState). 0 < count_at m.slots (segment_of c.args.offset)) (sym c.self.view_is)
    c.requires.chunks))
    c.take_back.ensures.slots (g.Shm.PayloadHolder.handle c.segment.result.now) c.segment.ensures.handle
    c.deallocate.ensures.freed c.take_back.ensures.registry)

pub returns-clause-own : goal.returns-clause-own
returns-clause-own g c =
    let number : c.value-number.result ≡ segment_of c.args.offset =
    c.value-number.ensures.value ∙ c.segment_id.ensures.value in
    rw (← c.self.view_is)
    (KeepsOwn-returned (λ was is. g.A.ShmAllocator.Deallocates was c.within_segment-in_segment.result is)
    c.args.reg.now c.deallocate.new.reg c.take_back.new.reg _ c.self.invariant c.value-number.result
    c.take_back.new.slots
    (subst (λ (n : ℕ). 0 < count_at c.self.inside.slots n) (sym number)
    (subst (λ (m : MemoryState). 0 < count_at m.slots (segment_of c.args.offset)) (sym c.self.view_is)
    c.requires.chunks))
    c.take_back.ensures.slots (g.Shm.PayloadHolder.handle c.segment.result.now) c.segment.ensures.handle
    c.deallocate.ensures.freed c.take_back.ensures.leaves
    (subst (HasAll c.args.reg.now) (sym c.self.view_is) c.requires.has))

pub returns-clause-spares : goal.returns-clause-spares
returns-clause-spares g c =
    let number : c.value-number.result ≡ segment_of c.args.offset =
    c.value-number.ensures.value ∙ c.segment_id.ensures.value in
    rw (← c.self.view_is)
    (SparesHandles-returned (λ was is. g.A.ShmAllocator.Deallocates was c.within_segment-in_segment.result is)
    c.args.reg.now c.deallocate.new.reg c.take_back.new.reg _ c.self.invariant c.value-number.result
    c.take_back.new.slots
    (subst (λ (n : ℕ). 0 < count_at c.self.inside.slots n) (sym number)
    (subst (λ (m : MemoryState). 0 < count_at m.slots (segment_of c.args.offset)) (sym c.self.view_is)
    c.requires.chunks))
    c.take_back.ensures.slots (g.Shm.PayloadHolder.handle c.segment.result.now) c.segment.ensures.handle
    c.deallocate.ensures.freed c.take_back.ensures.spares)

pub returns-clause-stays_out : goal.returns-clause-stays_out
returns-clause-stays_out g c =
    let R = g.A.ShmAllocator in
    RemovesChunk-taken R.properties R.IsByteUsed R.IsAllocated R.Deallocates g.met.A.ShmAllocator.deallocation
    c.args.reg.now c.take_back.new.reg c.args.self.now _ c.args.offset
    (subst IsSoundMemory c.self.view_is c.self.invariant) c.requires.has
    c.requires.chunks (returns-clause-freed g c)
