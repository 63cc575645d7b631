use Rattle.cal_storage.specs.SoundnessLemmas.{after_creation-IsSound, remove-insert}
use Rattle.cal_storage.proofs.EnteringLemmas.{free_of_entered}
use Rattle.cal_storage.proofs.registry.Registry.create.Goals as goal

pub invariant_of-self-then-not-initialize : goal.invariant_of-self-then-not-initialize
invariant_of-self-then-not-initialize g c =
    let free = free_of_entered _ _ c.in_ok-id.id c.enter_name.ensures.exists c.in_ok-id.was in
    rw (
      c.remove.ensures.entries,
      c.in_ok-id.ensures.entered,
      c.enter_name.ensures.slots,
      remove-insert c.args.path.now _ c.self.inside.names.entries free,
    )
    c.self.invariant

pub returns-then-not-initialize-clause-unchanged : goal.returns-then-not-initialize-clause-unchanged
returns-then-not-initialize-clause-unchanged g c =
    let free = free_of_entered _ _ c.in_ok-id.id c.enter_name.ensures.exists c.in_ok-id.was in
    rw (
      c.remove.ensures.entries,
      c.in_ok-id.ensures.entered,
      c.enter_name.ensures.slots,
      remove-insert c.args.path.now _ c.self.inside.names.entries free,
    )
    c.self.view_is

pub invariant_of-self-2 : goal.invariant_of-self-2
invariant_of-self-2 g c =
    rw (c.in_ok-id.ensures.entered, c.push_reserved.ensures.items, c.enter_name.ensures.slots)
    (after_creation-IsSound _ c.self.invariant c.args.path.now c.initialize.new.value 9003 c.requires.path
    (free_of_entered _ _ c.in_ok-id.id c.enter_name.ensures.exists c.in_ok-id.was))
