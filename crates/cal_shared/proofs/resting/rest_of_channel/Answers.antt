use Rattle.std.proofs.Common.{sym, ap, ◌∙◌, arith}
use Rattle.cal_queue.specs.RingState.{IsReached-both}
use Rattle.cal_shared.specs.Channels.{ReceivingChannel, Rings, SendingChannel}
use Rattle.cal_shared.proofs.resting.rest_of_channel.Goals as goal

pub rest-submitted-requires : goal.rest-submitted-requires
rest-submitted-requires c = record {
  one_ring =
      ap (λ (s : SendingChannel). s.rings.submission) c.sending.view_is
      ∙ ap (λ (r : Rings). r.submission) c.requires.rings
      ∙ sym (ap (λ (r : ReceivingChannel). r.rings.submission) c.receiving.view_is);
}

pub rest_completion-completed-requires : goal.rest_completion-completed-requires
rest_completion-completed-requires c = record {
  one_ring =
      ap (λ (r : ReceivingChannel). r.rings.completion) c.receiving.view_is
      ∙ sym (ap (λ (r : Rings). r.completion) c.requires.rings)
      ∙ sym (ap (λ (s : SendingChannel). s.rings.completion) c.sending.view_is);
}

pub returns : goal.returns
returns c =
    let submitted = c.rest-submitted.ensures in
    let completed = c.rest_completion-completed.ensures in
    let scheduled = submitted.scheduled in
    let counted = c.receiving.invariant in
    record {
      counted = rw (← c.sending.view_is, ← c.receiving.view_is) (record {
        sent = submitted.sent;
        received = submitted.received;
        returned = submitted.returned;
        released = completed.put;
        reclaimed = completed.got;
        adds_up = submitted.adds_up;
        within = submitted.within;
        released_after_received = omega arith;
        reclaimed_after_released = omega arith;
        partition = submitted.partition;
        reclaimed_first = completed.got_first;
        one_schedule = record {
          tags = scheduled.0;
          reached = IsReached-both _ _ scheduled.0 _ _ scheduled.1 completed.completed;
          gone_tagged = scheduled.2;
          taken_tagged = scheduled.3;
        };
      });
    }
