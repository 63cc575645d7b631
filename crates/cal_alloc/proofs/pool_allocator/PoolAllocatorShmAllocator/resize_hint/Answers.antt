use Rattle.std.proofs.Common.{◌≡◌, rules}
use Rattle.std.specs.Result.{result_ok}
use Rattle.cal_alloc.specs.Hints.{pool_resize_hint}
use Rattle.cal_alloc.proofs.PoolServing.{resize_hint_serves}
use Rattle.cal_alloc.proofs.Results.{IfOk-by}
use Rattle.cal_alloc.proofs.pool_allocator.PoolAllocatorShmAllocator.resize_hint.Goals as goal

pub returns-clause-serves : goal.returns-clause-serves
returns-clause-serves c growing _ _ =
    let value : result_ok c.initial_setup_hint.result ≡ pool_resize_hint c.args.self.now c.args.layout c.args.strategy =
    search rules in
    IfOk-by c.initial_setup_hint.result _ _ value
    (λ hint given. resize_hint_serves c.args.self.now c.args.layout c.args.strategy hint
    c.raised_layout.ensures.sound growing given)
