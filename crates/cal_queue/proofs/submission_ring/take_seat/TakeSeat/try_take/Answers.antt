use Rattle.std.proofs.Common.{ℕ, ◌+◌, ◌%◌, [], ◌∷◌, length, ap, ◌∙◌, arith, length-append}
use Rattle.cal_queue.specs.SubmissionSteps.{End}
use Rattle.cal_queue.proofs.submission_ring.take_seat.TakeSeat.try_take.Goals as goal

pub invariant_of-self-2 : goal.invariant_of-self-2
invariant_of-self-2 c =
    let self = c.args.self.now in
    let before = self.seat.me.0.reader in
    let taken = c.in_ok-value.ensures.taken in
    let one = length-append before.received ((before.seen_read, c.in_ok-value.value) ∷ []) in
    let more = ap (λ (m : End). length m.0.reader.received) taken in
    let counted = self.counted in
    let index = c.index_of-index.ensures ∙ ap (λ (k : ℕ). c.args.read % (k + 1)) self.takes.1 in record {
      seated = c.take.ensures.seated ∙ self.seated;
      sized = self.sized;
      takes = (
        ap (λ (m : End). m.0.reads) taken ∙ self.takes.0,
        ap (λ (m : End). m.0.reader.buffer) taken
            ∙ self.takes.1,
      );
      empty_handed = ap (λ (m : End). m.1) taken ∙ self.empty_handed;
      counted = omega arith;
      indexed = c.next_index-self.ensures.next c.args.read index;
    }
