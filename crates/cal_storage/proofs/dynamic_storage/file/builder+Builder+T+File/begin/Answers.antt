use Rattle.std.proofs.Common.{Err, IsSome, Some, inl, inr, ap, refl, sym, subst, ◌∙◌}
use Rattle.std.proofs.lemmas.Result.{err_from_is_err_and}
use Rattle.cal_names.specs.ConceptSettings.{settings_of}
use Rattle.cal_storage.specs.Contents.{id_at}
use Rattle.cal_storage.specs.HoldingLemmas.{after_creation-IsNamed}
use Rattle.cal_storage.specs.Staged.{Staged}
use Rattle.cal_storage.specs.Plan.{StoragePlan}
use Rattle.cal_storage.proofs.RefusalLemmas.{cause_of_error}
use Rattle.cal_storage.proofs.dynamic_storage.file.builder+Builder+T+File.begin.Goals as goal

pub returns-in_err-id-clause-error : goal.returns-in_err-id-clause-error
returns-in_err-id-clause-error g c =
    let p = err_from_is_err_and c.from_residual.result c.from_residual.ensures.1 in
    let inside = c.self.inside in
    let plan : StoragePlan = record {
      name = inside.name;
      settings = settings_of inside.config.parts (Some inside.config.type_name);
      options = inside.options;
    } in
    rw (p.1, p.2, ← c.self.view_is)
    (cause_of_error c.args.reg.now plan (c.in-Ok.ensures.fits.0 refl) c.in_err-id.field-0.0
    (λ same. subst (λ path. IsSome (id_at c.args.reg.now path)) c.in-Ok.ensures.path
    (c.in_err-id.ensures.exists.0 (ap (λ error. Err error) same)))
    (elim c.in_err-id.ensures.error
    [ inl same ↦ inl (ap (λ error. Some error) (sym same)) | inr no_memory ↦ inr no_memory ]))

pub returns-clause-named : goal.returns-clause-named
returns-clause-named g c =
    after_creation-IsNamed c.args.reg.now c.begin.new.self c.in-Ok.path c.args.initial_value 0
    c.self.inside.options.is_owner c.new.result.handle c.in_ok-id.ensures.begun
    (ap (λ (s : Staged). s.handle) c.new.ensures
    ∙ λ i. record { id = c.in_ok-id.ensures.id i; path = c.in-Ok.path; is_owner = c.self.inside.options.is_owner })
