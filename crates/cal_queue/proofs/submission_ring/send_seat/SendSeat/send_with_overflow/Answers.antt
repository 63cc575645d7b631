use Rattle.std.proofs.Common.{ℕ, ◌+◌, ◌%◌, List, [], ◌∷◌, ◌++◌, set, get_or, slice_get, length, ap, sym, subst, ◌∙◌, arith, length-append}
use Rattle.cal_queue.specs.Sides.{with_writer}
use Rattle.cal_queue.specs.SubmissionCopy.{KeepsLast}
use Rattle.cal_queue.specs.SubmissionPass.{after_won_exchange, after_lost_exchange}
use Rattle.cal_queue.specs.SubmissionSteps.{End}
use Rattle.cal_queue.proofs.LastValues.{KeepsLast-more, oldest-read}
use Rattle.cal_queue.proofs.submission_ring.send_seat.SendSeat.send_with_overflow.Goals as goal

pub invariant_of-self : goal.invariant_of-self
invariant_of-self c =
    let self = c.args.self.now in
    let sent = self.seat.me.0.writer.sent in
    let done = c.append.ensures.appended in
    let lost = c.if-not-exchange_read.ensures.lost ∙ ap
    (λ (m : End). with_writer m (after_lost_exchange m.0.writer)) done in
    let long = length-append sent (c.args.value ∷ []) in
    let grown = ap (λ (m : End). length m.0.writer.sent) lost in
    let counted = self.counted in
    let here = self.indexed ∙ ap (λ (k : ℕ). k % (self.buffer + 1)) self.counted.0 in record {
      seated = c.exchange_read.ensures.seated ∙ c.append.ensures.seated ∙ self.seated;
      sized = self.sized;
      sends = (
        ap (λ (m : End). m.0.writes) lost ∙ self.sends.0,
        ap (λ (m : End). m.0.writer.buffer) lost
            ∙ self.sends.1,
      );
      nothing_due = ap (λ (m : End). m.0.writer.exchange_due) lost;
      nothing_to_send = ap (λ (m : End). m.0.writer.to_send) lost;
      counted = (omega arith, self.counted.1 ∙ sym (ap (λ (m : End). length m.0.writer.overflowed) lost));
      indexed = c.next_index-self.ensures.next self.written self.indexed;
      copied = subst (λ (l : List ℕ). KeepsLast self.buffer l (set self.copy.items self.index c.args.value))
          (sym (ap (λ (m : End). m.0.writer.sent) lost))
          (KeepsLast-more self.buffer sent self.copy.items self.index c.args.value self.copied here);
    }

pub invariant_of-self-2 : goal.invariant_of-self-2
invariant_of-self-2 c =
    let self = c.args.self.now in
    let sent = self.seat.me.0.writer.sent in
    let returned = self.seat.me.0.writer.overflowed in
    let done = c.append.ensures.appended in
    let won = c.if-not-exchange_read.ensures.won ∙ ap
    (λ (m : End). with_writer m (after_won_exchange m.0.writer)) done in
    let long = length-append sent (c.args.value ∷ []) in
    let grown = ap (λ (m : End). length m.0.writer.sent) won in
    let more = ap (λ (m : End). length m.0.writer.overflowed) won in
    let one = length-append returned ((
      self.seat.me.0.writer.seen_read,
      get_or (sent
          ++ c.args.value ∷ []) self.seat.me.0.writer.seen_read 0,
    ) ∷ []) in
    let counted = self.counted in
    let here = self.indexed ∙ ap (λ (k : ℕ). k % (self.buffer + 1)) self.counted.0 in record {
      seated = c.exchange_read.ensures.seated ∙ c.append.ensures.seated ∙ self.seated;
      sized = self.sized;
      sends = (ap (λ (m : End). m.0.writes) won ∙ self.sends.0, ap (λ (m : End). m.0.writer.buffer) won ∙ self.sends.1);
      nothing_due = ap (λ (m : End). m.0.writer.exchange_due) won;
      nothing_to_send = ap (λ (m : End). m.0.writer.to_send) won;
      counted = (omega arith, omega arith);
      indexed = c.next_index-self.ensures.next self.written self.indexed;
      copied = subst (λ (l : List ℕ). KeepsLast self.buffer l (set self.copy.items self.index c.args.value))
          (sym (ap (λ (m : End). m.0.writer.sent) won))
          (KeepsLast-more self.buffer sent self.copy.items self.index c.args.value self.copied here);
    }

pub returns-clause-overflowed : goal.returns-clause-overflowed
returns-clause-overflowed c =
    let self = c.args.self.now in
    let before = self.seat.me.0.writer in
    let won = c.if-not-exchange_read.ensures.won ∙ ap
    (λ (m : End). with_writer m (after_won_exchange m.0.writer)) c.append.ensures.appended in
    let here = self.indexed ∙ ap (λ (k : ℕ). k % (self.buffer + 1)) self.counted.0 in
    let next = c.next_index-self.ensures.next self.written self.indexed ∙ ap
    (λ (k : ℕ). (k + 1) % (self.buffer + 1)) self.counted.0 in
    let full = c.requires.full ∙ ap (λ (k : ℕ). before.seen_read + k) self.sends.1 in
    let oldest = oldest-read self.buffer before.sent self.copy.items self.index c.next_index-self.result
    before.seen_read
    c.args.value c.index.result.now self.copied here next full c.index.ensures in (
      ap (λ (m : End). m.0.writer.overflowed) won ∙ ap
          (λ (v : ℕ). before.overflowed ++ (before.seen_read, v) ∷ []) (sym oldest.0),
      ap (λ (m : End). slice_get m.0.writer.sent before.seen_read) won ∙ oldest.1,
    )
