use Rattle.std.proofs.Common.{None, Some, ◌∙◌, sym, ap, refl, subst, is_some}
use Rattle.cal_names.specs.ConceptSettings.{ConceptSettings}
use Rattle.cal_storage.specs.HoldingLemmas.{KeepsHandles-is, KeepsHandles-after_name_removal}
use Rattle.cal_storage.specs.Refusals.{after_name_removal}
use Rattle.cal_storage.specs.Soundness.{IsSound}
use Rattle.cal_storage.proofs.ChangeLemmas.{after_name_removal-is, removed_at}
use Rattle.cal_storage.proofs.NamingLemmas.{found_at, found_nowhere, gone_at, gone_nowhere}
use Rattle.cal_storage.proofs.SlotLemmas.{named_within}
use Rattle.cal_storage.proofs.registry.Registry.remove.Goals as goal

pub returns-in_default-clause-found : goal.returns-in_default-clause-found
returns-in_default-clause-found g c =
    rw (← c.self.view_is) (found_nowhere _ c.args.name.now _ c.in_default.ensures.inverse _ c.self.invariant)

pub returns-in_default-clause-gone : goal.returns-in_default-clause-gone
returns-in_default-clause-gone g c =
    rw (← c.self.view_is) (gone_nowhere _ c.args.name.now _ c.in_default.ensures.inverse _ c.self.invariant)

pub slot_mut-requires : goal.slot_mut-requires
slot_mut-requires g c = named_within _ c.self.invariant c.in-Ok.path c.in-Some.id
    (sym c.remove.ensures.value ∙ c.in-Some.is)

pub invariant_of-self-in-Some : goal.invariant_of-self-in-Some
invariant_of-self-in-Some g c =
    rw (c.remove.ensures.entries, c.end_if_left.ensures, c.slot_mut.ensures.value)
    (removed_at _ c.self.invariant c.in-Ok.path c.in-Some.id (sym c.remove.ensures.value ∙ c.in-Some.is))

pub returns-in-None-clause-found : goal.returns-in-None-clause-found
returns-in-None-clause-found g c =
    rw (← c.self.view_is)
    (ap is_some (sym c.in-None.is ∙ c.remove.ensures.value)
    ∙ found_at _ c.args.name.now c.in-Ok.path c.in-Ok.ensures.inverse _ c.self.invariant)

pub returns-in-None-clause-gone : goal.returns-in-None-clause-gone
returns-in-None-clause-gone g c =
    rw (← c.self.view_is, c.remove.ensures.entries)
    (gone_at _ c.args.name.now c.in-Ok.path c.in-Ok.ensures.inverse _ c.self.invariant)

pub returns-in-None-clause-removed : goal.returns-in-None-clause-removed
returns-in-None-clause-removed g c =
    rw (← c.self.view_is, c.in-None.ensures.unchanged)
    (after_name_removal-is _ (g.C.NamedConceptConfiguration.settings c.args.config.now) c.args.name.now c.in-Ok.path
    (c.in-Ok.ensures.fits.0 refl) c.in-Ok.ensures.path None (sym c.remove.ensures.value ∙ c.in-None.is))

pub returns-in-Some-clause-found : goal.returns-in-Some-clause-found
returns-in-Some-clause-found g c =
    rw (← c.self.view_is)
    (ap is_some (sym c.in-Some.is ∙ c.remove.ensures.value)
    ∙ found_at _ c.args.name.now c.in-Ok.path c.in-Ok.ensures.inverse _ c.self.invariant)

pub returns-in-Some-clause-gone : goal.returns-in-Some-clause-gone
returns-in-Some-clause-gone g c =
    rw (← c.self.view_is, c.remove.ensures.entries)
    (gone_at _ c.args.name.now c.in-Ok.path c.in-Ok.ensures.inverse _ c.self.invariant)

pub returns-in-Some-clause-removed : goal.returns-in-Some-clause-removed
returns-in-Some-clause-removed g c =
    rw (← c.self.view_is, c.remove.ensures.entries, c.end_if_left.ensures, c.slot_mut.ensures.value)
    (after_name_removal-is _ (g.C.NamedConceptConfiguration.settings c.args.config.now) c.args.name.now c.in-Ok.path
    (c.in-Ok.ensures.fits.0 refl) c.in-Ok.ensures.path (Some c.in-Some.id)
    (sym c.remove.ensures.value ∙ c.in-Some.is))

pub returns-in-Some-clause-keeps : goal.returns-in-Some-clause-keeps
returns-in-Some-clause-keeps g c =
    let settings : ConceptSettings = g.C.NamedConceptConfiguration.settings c.args.config.now in
    KeepsHandles-is c.args.self.now _ (after_name_removal settings c.args.name.now c.args.self.now)
    (returns-in-Some-clause-removed g c)
    (KeepsHandles-after_name_removal c.args.self.now
    (subst (IsSound {T = g.row.T.Denot}) c.self.view_is c.self.invariant)
    settings c.args.name.now)
