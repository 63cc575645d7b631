use Rattle.std.proofs.Common.{◌≡◌, ap, ◌∙◌}
use Rattle.cal_resizable.specs.Growth.{growth_plan}
use Rattle.cal_resizable.proofs.AllocationLemmas.{of_handle, of_one}
use Rattle.cal_resizable.proofs.memory.DynamicMemory.plan.Goals as goal

pub returns-clause-plan : goal.returns-clause-plan
returns-clause-plan g c =
    rw (← c.self.view_is)
    (of_one c.args.reg.now c.self.inside.slots c.self.inside.current
    (λ segment. c.allocator-allocator.result.now ≡ segment.allocator)
    (λ segment. c.plan_growth.result ≡ growth_plan g.A.ShmAllocator c.self.inside.strategy c.self.inside.current
    c.args.layout segment.allocator c.args.refusal)
    (of_handle c.args.reg.now c.self.inside.slots c.self.inside.current
    (g.Shm.PayloadHolder.handle c.segment.result.now) c.segment.ensures.handle
    (λ segment. c.allocator-allocator.result.now ≡ segment.allocator) c.allocator-allocator.ensures.allocator)
    (λ segment is.
    c.plan_growth.ensures.plan ∙ ap
    (λ allocator. growth_plan g.A.ShmAllocator c.self.inside.strategy c.self.inside.current c.args.layout allocator
    c.args.refusal) is))
