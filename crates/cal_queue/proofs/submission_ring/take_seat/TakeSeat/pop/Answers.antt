use Rattle.std.proofs.Common.{ap, ◌∙◌}
use Rattle.cal_queue.specs.declared.submission_ring.pass.TakePass.{TakePass}
use Rattle.cal_queue.proofs.LostTurns.{LosesTurns-more}
use Rattle.cal_queue.proofs.submission_ring.take_seat.TakeSeat.pop.Goals as goal

pub loop-preserved : goal.loop-preserved
loop-preserved g c =
    let so_far = c.loop.invariant in
    let looked = c.look-read.ensures.looked in
    let lost = c.in_default.ensures.lost in
    let end = c.try_take.ensures.same_end in
    let look_end = c.look-read.ensures.same_end in record {
      same_end = (end.0 ∙ look_end.0 ∙ so_far.same_end.0, end.1 ∙ look_end.1 ∙ so_far.same_end.1);
      lost = LosesTurns-more _ _ _ _ _ _ so_far.lost looked lost;
      none_received = ap (λ (p : TakePass). p.received) lost ∙ ap (λ (p : TakePass). p.received) looked
          ∙ so_far.none_received;
    }
