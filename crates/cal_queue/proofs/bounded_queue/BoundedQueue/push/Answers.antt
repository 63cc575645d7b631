use Rattle.std.proofs.Common.{◌+◌, ◌%◌, ap, ◌∙◌}
use Rattle.cal_queue.proofs.WordRings.{queue_of-push}
use Rattle.cal_queue.proofs.bounded_queue.BoundedQueue.push.Goals as goal

pub returns : goal.returns
returns c =
    let q = c.self.inside in record {
      joined = queue_of-push q c.args.self.now c.wrapped_index-write.result c.args.value c.self.invariant c.self.view_is
          c.requires.room
          (c.wrapped_index-write.ensures.value ∙ ap (λ n. (q.read + q.waiting) % n) (c.len.ensures ∙ q.words.ok.0));
    }
