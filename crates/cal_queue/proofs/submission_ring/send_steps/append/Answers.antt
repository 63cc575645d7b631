use Rattle.std.proofs.Common.{◌+◌, arith, length, ◌∙◌, ap}
use Rattle.cal_queue.specs.RingWords.{slot_of}
use Rattle.cal_queue.specs.SubmissionSteps.{End}
use Rattle.cal_queue.proofs.SubmissionAllowed.{writer_stores_slot-allowed, writer_stores_write-allowed}
use Rattle.cal_queue.proofs.RingWordsFit.{slot_within}
use Rattle.cal_queue.proofs.submission_ring.send_steps.append.Goals as goal

pub store-requires : goal.store-requires
store-requires c =
    let key = c.args.table.now.shared.key in
    let within = slot_within (key + 1) c.args.written (omega arith) in (
      c.requires.seated,
      omega arith,
      writer_stores_slot-allowed _ _ _ _ c.requires.sends c.requires.idle
          _ _ (c.requires.place ∙ ap (slot_of (key + 1)) c.requires.next) (omega arith) (omega arith),
    )

pub store-requires-2 : goal.store-requires-2
store-requires-2 c =
    let filled = c.store.ensures.2 in
    let same = ap (λ (m : End). length m.0.writer.sent) filled in (
      c.store.ensures.0 ∙ c.requires.seated,
      omega arith,
      writer_stores_write-allowed _ _ _ _ (ap (λ (m : End). m.0.writes) filled ∙ c.requires.sends)
          _ _ (ap (λ (m : End). m.0.writer.to_send) filled) (omega arith),
    )
