use Rattle.std.proofs.Common.{◌∙◌}
use Rattle.cal_storage.proofs.NamingLemmas.{found_at, found_nowhere}
use Rattle.cal_storage.proofs.registry.Registry.has_name.Goals as goal

pub returns-in-Ok-clause-found : goal.returns-in-Ok-clause-found
returns-in-Ok-clause-found g c =
    rw (← c.self.view_is) (c.contains_key.ensures
    ∙ found_at _ c.args.name.now c.in-Ok.path c.in-Ok.ensures.inverse _ c.self.invariant)

pub returns-in-Err-clause-found : goal.returns-in-Err-clause-found
returns-in-Err-clause-found g c = rw (← c.self.view_is)
    (found_nowhere _ c.args.name.now _ c.in-Err.ensures.inverse _ c.self.invariant)
