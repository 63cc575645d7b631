use Rattle.std.proofs.Common.{◌≡◌, ◌+◌, length, rules, arith, ap, ◌∙◌}
use Rattle.std.proofs.lemmas.List.{length-replicate}
use Rattle.cal_queue.specs.CompletionSteps.{End}
use Rattle.cal_queue.proofs.CompletionAllowed.{new_ring-sound}
use Rattle.cal_queue.proofs.SidedTables.{sides_split}
use Rattle.cal_queue.proofs.completion_ring.CompletionRing.new.Goals as goal

pub of_words-requires : goal.of_words-requires
of_words-requires c = new_ring-sound c.args.capacity _ c.requires.some (search rules)

pub split_seat-other-requires : goal.split_seat-other-requires
split_seat-other-requires c =
    let capacity = c.args.capacity in
    let table = c.in_ok-table.ensures in
    let size : length c.as_slice.result.now ≡ capacity + 2 =
    ap length (c.as_slice.ensures.value ∙ c.in_ok-words.ensures.items_if_clones_equal (λ y is. is))
    ∙ length-replicate (capacity + 2) 0 in
    let words = table.0 in (
      table.2,
      omega arith,
      sides_split _ _ _ (ap (λ (m : End). m.0.writes) table.4) (ap (λ (m : End). m.0.reads) table.4),
    )
