-- The rings of a channel, by those of its two ends.
use Rattle.std.specs.Prelude.{◌≡◌}
use Rattle.std.proofs.Common.{ap, ◌∙◌}
use Rattle.atomic_table.specs.Seated.{TableId}
use Rattle.cal_shared.specs.Channels.{Rings}

abbrev pub rings : TableId → TableId → Rings
rings submission completion = record { submission = submission; completion = completion }

pub same_rings : (submission completion submission' completion' : TableId) → submission' ≡ submission
    → completion' ≡ completion → rings submission' completion' ≡ rings submission completion
same_rings submission completion submission' completion' one other =
    ap (λ (id : TableId). rings id completion') one ∙ ap (rings submission) other
