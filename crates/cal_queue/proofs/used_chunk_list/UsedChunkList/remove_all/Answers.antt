use Rattle.std.proofs.Common.{◌≡◌, Bool, List, length, replicate, ℕ, ap, sym, ◌∙◌}
use Rattle.std.proofs.lemmas.List.{with_items_is}
use Rattle.cal_queue.specs.BitSet.{marks_of}
use Rattle.cal_queue.specs.UsedChunks.{none_used}
use Rattle.cal_queue.proofs.BitMarks.{shown-capacity, zero-marks}
use Rattle.cal_queue.proofs.used_chunk_list.UsedChunkList.remove_all.Goals as goal

pub returns-clause-empty : goal.returns-clause-empty
returns-clause-empty g c =
    let same : length c.clear_all.new.words ≡ c.self.inside.words.len = c.clear_all.auto.words
    ∙ c.deref_mut.ensures.len in
    ap (λ (words : List ℕ). record { marks = marks_of words c.self.inside.capacity })
    (with_items_is c.self.inside.words c.clear_all.new.words same ∙ c.clear_all.ensures.zero)
    ∙ ap (λ (marks : List Bool). record { marks = marks })
    (zero-marks (length c.deref_mut.result.now) c.self.inside.capacity)
    ∙ ap none_used
    (shown-capacity c.self.inside.words.items c.self.inside.capacity
    _ (record { sound = c.self.invariant; is = c.self.view_is }))
