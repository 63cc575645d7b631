use Rattle.std.proofs.Common.{◌≡◌, ◌+◌, ℕ, length, replicate, arith, ap, ◌∙◌}
use Rattle.std.proofs.lemmas.List.{length-replicate}
use Rattle.cal_queue.specs.SubmissionSteps.{End}
use Rattle.cal_queue.proofs.SidedTables.{sides_split}
use Rattle.cal_queue.proofs.SubmissionAllowed.{new_ring-sound}
use Rattle.cal_queue.proofs.submission_ring.SubmissionRing.new.Goals as goal

-- a word for each position, and one for each slot
counted : (buffer : ℕ) → 2 + buffer + 1 ≡ buffer + 3
counted buffer = omega arith

pub of_words-requires : goal.of_words-requires
of_words-requires c =
    let buffer = c.args.buffer in
    new_ring-sound buffer c.as_slice.result.now
    (c.as_slice.ensures.value ∙ c.in_ok-words.ensures ∙ ap (λ (n : ℕ). replicate n 0) (counted buffer))

pub split_seat-other-requires : goal.split_seat-other-requires
split_seat-other-requires c =
    let buffer = c.args.buffer in
    let table = c.in_ok-table.ensures in
    let size : length c.as_slice.result.now ≡ 2 + buffer + 1 =
    ap length (c.as_slice.ensures.value ∙ c.in_ok-words.ensures) ∙ length-replicate (2 + buffer + 1) 0 in
    let words = table.0 in (
      table.2,
      omega arith,
      sides_split _ _ _ (ap (λ (m : End). m.0.writes) table.4) (ap (λ (m : End). m.0.reads) table.4),
    )
