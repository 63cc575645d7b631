use Rattle.std.proofs.Common.{Err, IsSome, Some, ap, refl, subst}
use Rattle.std.proofs.lemmas.Result.{err_from_is_err_and}
use Rattle.cal_names.specs.ConceptSettings.{settings_of}
use Rattle.cal_storage.specs.Contents.{id_at}
use Rattle.cal_storage.specs.HoldingLemmas.{after_creation-IsNamed, after_creation-KeepsHandles}
use Rattle.cal_storage.specs.Plan.{StoragePlan}
use Rattle.cal_storage.proofs.RefusalLemmas.{cause_of_error}
use Rattle.cal_storage.proofs.dynamic_storage.builder.BuilderDynamicStorageBuilderStorage.create.Goals as goal

pub returns-in_err-id-clause-error : goal.returns-in_err-id-clause-error
returns-in_err-id-clause-error g c =
    let p = err_from_is_err_and c.from_residual.result c.from_residual.ensures.1 in
    let inside = c.self.inside in
    let plan : StoragePlan = record {
      name = inside.name;
      settings = settings_of inside.config.parts (Some inside.config.type_name);
      options = inside.options;
    } in
    rw (p.1, p.2, ← c.self.view_is)
    (cause_of_error c.args.reg.now plan (c.in-Ok.ensures.fits.0 refl) c.in_err-id.field-0.0
    (λ same. subst (λ path. IsSome (id_at c.args.reg.now path)) c.in-Ok.ensures.path
    (c.in_err-id.ensures.exists.0 (ap (λ error. Err error) same)))
    c.in_err-id.ensures.error)

pub returns-clause-named : goal.returns-clause-named
returns-clause-named g c =
    let creates = c.in_ok-id.ensures.created in
    after_creation-IsNamed c.args.reg.now c.create.new.self c.in-Ok.path creates.left 9003
    c.self.inside.options.is_owner _ creates.created
    (λ i. record { id = c.in_ok-id.ensures.id i; path = c.in-Ok.path; is_owner = c.self.inside.options.is_owner })

pub returns-clause-keeps : goal.returns-clause-keeps
returns-clause-keeps g c =
    let creates = c.in_ok-id.ensures.created in
    after_creation-KeepsHandles c.args.reg.now c.create.new.self c.in-Ok.path creates.left 9003 creates.created
