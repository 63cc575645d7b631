use Rattle.std.proofs.Common.{refl}
use Rattle.cal_shared.proofs.SameRings.{same_rings}
use Rattle.cal_shared.proofs.SendingSteps.{SeesRoom-or_full}
use Rattle.cal_shared.proofs.sending_end.SendingEnd.has_room.Goals as goal

pub returns-clause-looked : goal.returns-clause-looked
returns-clause-looked c = rw (← c.self.view_is) (SeesRoom-or_full _ _ c.has_room.result c.has_room.ensures.one_look
    c.has_room.ensures.full (same_rings _ _ _ _ c.has_room.ensures.same_end.0 refl) c.has_room.ensures.same_end.1 refl
    refl)
