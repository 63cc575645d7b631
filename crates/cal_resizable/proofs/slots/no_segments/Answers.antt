use Rattle.std.proofs.Common.{◌++◌, ◌∷◌, [], None, ap, ◌∙◌}
use Rattle.cal_resizable.proofs.SlotLemmas.{replicate-more}
use Rattle.cal_resizable.proofs.slots.no_segments.Goals as goal

pub loop-number-preserved : goal.loop-number-preserved
loop-number-preserved g c =
    c.in_ok-push.ensures.items ∙ ap (λ xs. xs ++ None ∷ []) c.loop-number.invariant
    ∙ replicate-more c.loop-number.number None
