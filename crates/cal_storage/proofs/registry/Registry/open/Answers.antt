use Rattle.cal_storage.specs.SoundnessLemmas.{after_opening-IsSound}
use Rattle.cal_storage.proofs.registry.Registry.open.Goals as goal

pub invariant_of-self-2 : goal.invariant_of-self-2
invariant_of-self-2 g c =
    rw (c.hold.ensures, c.slot_mut-slot.ensures.value) (after_opening-IsSound _ c.self.invariant c.in_ok-id.id)
