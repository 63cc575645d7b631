use Rattle.std.proofs.Common.{ap, refl, sym, subst, ◌∙◌}
use Rattle.cal_alloc.specs.PointerOffset.{pointer_offset, offset_of}
use Rattle.cal_resizable.specs.Memory.{HasAll}
use Rattle.cal_resizable.proofs.ChunkLemmas.{chunk_is_out, chunk_is_within, one_more_counted}
use Rattle.cal_resizable.proofs.KeepingLemmas.{AllocatesHere-by, IsSoundMemory-more, KeepsOwn-leaves, LeavesHandle-ChangesAllocator, was_held-current}
use Rattle.cal_resizable.proofs.memory.DynamicMemory.allocate_here.Goals as goal

pub invariant_of-self : goal.invariant_of-self
invariant_of-self g c = IsSoundMemory-more _ c.self.invariant c.count_more.new.self c.count_more.ensures.counted

pub returns-in-Ok-clause-given : goal.returns-in-Ok-clause-given
returns-in-Ok-clause-given g c =
    rw (← c.self.view_is)
    (AllocatesHere-by g.A.ShmAllocator c.args.reg.now c.allocate.new.reg _ c.args.layout c.in-Ok.pointer.offset
    c.set_segment_id.new.self c.count_more.new.self (g.Shm.PayloadHolder.handle c.segment.result.now)
    c.segment.ensures.handle c.in-Ok.ensures.given
    (c.set_segment_id.ensures.value
    ∙ ap (pointer_offset (offset_of c.in-Ok.pointer.offset)) c.new.ensures.value)
    c.count_more.ensures.counted)

pub returns-in-Ok-clause-own : goal.returns-in-Ok-clause-own
returns-in-Ok-clause-own g c =
    rw (← c.self.view_is)
    (KeepsOwn-leaves c.args.reg.now c.allocate.new.reg _ _ refl
    (was_held-current _ c.self.invariant c.count_more.new.self c.count_more.ensures.counted)
    (LeavesHandle-ChangesAllocator _ _ _ _ c.in-Ok.ensures.given)
    (subst (HasAll c.args.reg.now) (sym c.self.view_is) c.requires.has))

pub returns-in-Ok-clause-out : goal.returns-in-Ok-clause-out
returns-in-Ok-clause-out g c =
    let law = g.met.A.ShmAllocator.allocation _ _ _ _ c.in-Ok.ensures.given.change in
    chunk_is_out c.args.reg.now c.allocate.new.reg c.self.inside.slots c.count_more.new.self c.self.inside.current
    (g.Shm.PayloadHolder.handle c.segment.result.now) c.segment.ensures.handle c.count_more.ensures.counted
    c.in-Ok.pointer.offset c.set_segment_id.new.self
    (c.set_segment_id.ensures.value ∙ ap (pointer_offset (offset_of c.in-Ok.pointer.offset)) c.new.ensures.value)
    c.self.invariant.below g.A.ShmAllocator.IsAllocated law.segment c.in-Ok.ensures.allocated

pub returns-in-Ok-clause-within : goal.returns-in-Ok-clause-within
returns-in-Ok-clause-within g c =
    let law = g.met.A.ShmAllocator.allocation _ _ _ _ c.in-Ok.ensures.given.change in
    let has = subst (HasAll c.args.reg.now) (sym c.self.view_is) c.requires.has in
    chunk_is_within c.args.reg.now c.allocate.new.reg c.self.inside.slots c.count_more.new.self c.self.inside.current
    (g.Shm.PayloadHolder.handle c.segment.result.now) c.segment.ensures.handle c.count_more.ensures.counted
    c.in-Ok.pointer.offset c.set_segment_id.new.self
    (c.set_segment_id.ensures.value ∙ ap (pointer_offset (offset_of c.in-Ok.pointer.offset)) c.new.ensures.value)
    c.self.invariant.below _ c.in-Ok.ensures.given (g.Shm.PayloadHolder.handle c.self.inside.management) has
    g.A.ShmAllocator.properties c.args.layout law.properties c.in-Ok.ensures.within

pub returns-in-Ok-clause-counted : goal.returns-in-Ok-clause-counted
returns-in-Ok-clause-counted g c =
    rw (← c.self.view_is)
    (one_more_counted c.self.inside.slots c.count_more.new.self c.self.inside.current
    (g.Shm.PayloadHolder.handle c.segment.result.now) c.segment.ensures.handle c.count_more.ensures.counted)
