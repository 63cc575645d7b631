use Rattle.cal_storage.specs.SoundnessLemmas.{with_value-IsSound}
use Rattle.cal_storage.proofs.registry.Registry.get_mut.Goals as goal

pub invariant_of-self-lent : goal.invariant_of-self-lent
invariant_of-self-lent g c w =
    rw c.slot_mut.ensures.value (with_value-IsSound _ c.self.invariant c.args.handle.now.id w)
