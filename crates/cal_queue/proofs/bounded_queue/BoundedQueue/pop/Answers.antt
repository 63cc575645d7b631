use Rattle.std.proofs.Common.{◌+◌, ◌%◌, ap, ◌∙◌, arith}
use Rattle.cal_queue.proofs.WordRings.{queue_of-pop}
use Rattle.cal_queue.proofs.bounded_queue.BoundedQueue.pop.Goals as goal

pub returns-clause-left : goal.returns-clause-left
returns-clause-left c =
    let q = c.self.inside in
    queue_of-pop q c.args.self.now c.wrapped_index-self-inside.result c.self.invariant c.self.view_is (omega arith)
    (c.wrapped_index-self-inside.ensures.value ∙ ap (λ n. (q.read + 1) % n) (c.len.ensures ∙ q.words.ok.0))
