use Rattle.std.proofs.Common.{◌≢◌, ℕ, ◌+◌, ◌%◌, List, [], ◌∷◌, set, length, ap, sym, subst, ◌∙◌, arith, ne_eqb, length-append}
use Rattle.cal_queue.specs.SubmissionCopy.{KeepsLast}
use Rattle.cal_queue.specs.SubmissionSteps.{End}
use Rattle.cal_queue.proofs.LastValues.{KeepsLast-more}
use Rattle.cal_queue.proofs.submission_ring.send_seat.SendSeat.send.Goals as goal

pub invariant_of-self : goal.invariant_of-self
invariant_of-self c =
    let self = c.args.self.now in
    let sent = self.seat.me.0.writer.sent in
    let done = c.append.ensures.appended in
    let not_full : length sent ≢ self.seat.me.0.writer.seen_read + self.seat.me.0.writer.buffer = let h =
    c.requires.room in omega arith in
    let long = length-append sent (c.args.value ∷ []) in
    let grown = ap (λ (m : End). length m.0.writer.sent) done in
    let counted = self.counted in
    let here = self.indexed ∙ ap (λ (k : ℕ). k % (self.buffer + 1)) self.counted.0 in record {
      seated = c.append.ensures.seated ∙ self.seated;
      sized = self.sized;
      sends = (
        ap (λ (m : End). m.0.writes) done ∙ self.sends.0,
        ap (λ (m : End). m.0.writer.buffer) done
            ∙ self.sends.1,
      );
      nothing_due = ap (λ (m : End). m.0.writer.exchange_due) done ∙ ne_eqb _ _ not_full;
      nothing_to_send = ap (λ (m : End). m.0.writer.to_send) done;
      counted = (omega arith, self.counted.1 ∙ sym (ap (λ (m : End). length m.0.writer.overflowed) done));
      indexed = c.next_index-self.ensures.next self.written self.indexed;
      copied = subst (λ (l : List ℕ). KeepsLast self.buffer l (set self.copy.items self.index c.args.value))
          (sym (ap (λ (m : End). m.0.writer.sent) done))
          (KeepsLast-more self.buffer sent self.copy.items self.index c.args.value self.copied here);
    }
