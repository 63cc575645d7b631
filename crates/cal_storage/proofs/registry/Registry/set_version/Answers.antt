use Rattle.cal_storage.specs.SoundnessLemmas.{slot_with_version-IsSound}
use Rattle.cal_storage.proofs.registry.Registry.set_version.Goals as goal

pub invariant_of-self : goal.invariant_of-self
invariant_of-self g c =
    rw (c.set_version.ensures, c.slot_mut.ensures.value)
    (slot_with_version-IsSound _ c.self.invariant c.in-Some.id c.args.version)
