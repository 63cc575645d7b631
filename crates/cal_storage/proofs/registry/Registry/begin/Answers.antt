use Rattle.cal_storage.specs.SoundnessLemmas.{after_creation-IsSound}
use Rattle.cal_storage.proofs.EnteringLemmas.{free_of_entered}
use Rattle.cal_storage.proofs.registry.Registry.begin.Goals as goal

pub invariant_of-self-2 : goal.invariant_of-self-2
invariant_of-self-2 g c =
    rw (c.in_ok-id.ensures.entered, c.push_reserved.ensures.items, c.enter_name.ensures.slots)
    (after_creation-IsSound _ c.self.invariant c.args.path.now c.args.value 0 c.requires
    (free_of_entered _ _ c.in_ok-id.id c.enter_name.ensures.exists c.in_ok-id.was))
