use Rattle.std.proofs.Common.{◌≡◌, ◌≤◌, refl, arith, rules}
use Rattle.cal_alloc.specs.Hints.{raised_payload}
use Rattle.cal_alloc.proofs.BumpServing.{bump_hint_serves, raised_payload-ge}
use Rattle.cal_alloc.proofs.Results.{IfOk-by}
use Rattle.cal_alloc.proofs.bump_allocator.BumpAllocatorShmAllocator.resize_hint.Goals as goal

pub returns-then-size-self-clause-serves : goal.returns-then-size-self-clause-serves
returns-then-size-self-clause-serves c growing asked low =
    IfOk-by c.hint.result _ _ c.hint.ensures.value
    (λ hint given. bump_hint_serves c.args.self.now c.args.layout c.self.inside.total hint (low refl) asked
    (omega arith) given)

pub returns-clause-serves : goal.returns-clause-serves
returns-clause-serves c growing asked low =
    let room : c.args.layout.size ≤ c.in_ok-ok_or.field-0 =
    let payload : c.in_ok-ok_or.field-0 ≡ raised_payload c.args.strategy c.self.inside.total c.args.layout.size =
    search rules in
    omega (arith, payload, raised_payload-ge c.args.strategy c.self.inside.total c.args.layout.size growing) in
    IfOk-by c.hint-2.result _ _ c.hint-2.ensures.value
    (λ hint given. bump_hint_serves c.args.self.now c.args.layout c.in_ok-ok_or.field-0 hint (low refl) asked room
    given)
