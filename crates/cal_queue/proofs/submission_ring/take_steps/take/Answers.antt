use Rattle.std.proofs.Common.{◌+◌, arith, ◌∙◌, sym, ap}
use Rattle.cal_queue.specs.RingWords.{slot_of}
use Rattle.cal_queue.specs.SubmissionSteps.{End}
use Rattle.cal_queue.proofs.SubmissionAllowed.{reader_loads_slot-allowed, reader_exchanges_read-allowed}
use Rattle.cal_queue.proofs.RingWordsFit.{slot_within}
use Rattle.cal_queue.proofs.submission_ring.take_steps.take.Goals as goal

pub load-value-requires : goal.load-value-requires
load-value-requires c =
    let key = c.args.table.now.shared.key in
    let within = slot_within (key + 1) c.args.read (omega arith) in
    let same = c.requires.loaded.0 in (
      c.requires.seated,
      omega arith,
      reader_loads_slot-allowed _ _ _ _ c.requires.takes _ _ (c.requires.place ∙ ap (slot_of (key + 1)) same)
          c.requires.loaded.1 (omega arith),
    )

pub compare_exchange-found-requires : goal.compare_exchange-found-requires
compare_exchange-found-requires c =
    let looked = c.load-value.ensures.2 in (
      c.load-value.ensures.0 ∙ c.requires.seated,
      omega arith,
      reader_exchanges_read-allowed _ _ _ _ (ap (λ (m : End). m.0.reads) looked ∙ c.requires.takes)
          _ _ (c.requires.loaded.0 ∙ sym (ap (λ (m : End). m.0.reader.seen_read) looked))
          (ap (λ (m : End). m.0.reader.seen_value) looked),
    )
