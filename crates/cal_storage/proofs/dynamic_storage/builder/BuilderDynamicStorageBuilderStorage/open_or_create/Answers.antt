use Rattle.std.proofs.Common.{◌≡◌, ◌≤◌, length, refl, sym, subst, ◌∙◌}
use Rattle.cal_names.specs.ConceptSettings.{file_name_for}
use Rattle.cal_storage.specs.Plan.{StoragePlan, path_of}
use Rattle.cal_storage.proofs.RefusalLemmas.{fails_free}
use Rattle.cal_storage.proofs.dynamic_storage.builder.BuilderDynamicStorageBuilderStorage.open_or_create.Goals as goal

pub returns-in-Err-clause-error : goal.returns-in-Err-clause-error
returns-in-Err-clause-error g c =
    fails_free g.F.FnMut c.args.reg.now c.args.self c.in-Ok.path
    (subst (λ (plan : StoragePlan). length (file_name_for plan.settings plan.name) ≤ 255) c.self.view_is
    (c.in-Ok.ensures.fits.0 refl))
    (subst (λ (plan : StoragePlan). c.in-Ok.path ≡ path_of plan) c.self.view_is c.in-Ok.ensures.path)
    (sym c.contains.ensures.found ∙ c.if-not-contains.true)
    c.args.initializer c.args.initial_value c.args.self.options.room c.in-Err.error c.in-Err.ensures.error
