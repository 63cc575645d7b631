use Rattle.std.proofs.Common.{ℕ, sym, ap, ◌∙◌}
use Rattle.cal_queue.specs.SubmissionPass.{after_read_look, after_write_look}
use Rattle.cal_queue.specs.SubmissionCalls.{take_pass}
use Rattle.cal_queue.specs.declared.submission_ring.pass.TakePass.{TakePass}
use Rattle.cal_queue.proofs.submission_ring.take_seat.TakeSeat.has_value.Goals as goal

pub returns-clause-one_look : goal.returns-clause-one_look
returns-clause-one_look c =
    let looked = c.look-read.ensures.looked in
    let written = c.look-read.result.1 in (
      written,
      looked ∙ ap (λ (read : ℕ). after_write_look written (after_read_look read (take_pass c.args.self.now)))
          (sym (ap (λ (p : TakePass). p.seen_read) looked)),
    )
