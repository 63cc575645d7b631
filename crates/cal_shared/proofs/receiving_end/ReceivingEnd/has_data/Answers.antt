use Rattle.std.proofs.Common.{refl}
use Rattle.cal_shared.proofs.ReceivingSteps.{LooksForData-made}
use Rattle.cal_shared.proofs.SameRings.{same_rings}
use Rattle.cal_shared.proofs.receiving_end.ReceivingEnd.has_data.Goals as goal

pub returns-clause-looked : goal.returns-clause-looked
returns-clause-looked c = rw (← c.self.view_is) (LooksForData-made _ _ c.has_value.result c.has_value.ensures.one_look
    c.has_value.ensures.empty (same_rings _ _ _ _ c.has_value.ensures.same_end.0 refl) c.has_value.ensures.same_end.1
    refl)
