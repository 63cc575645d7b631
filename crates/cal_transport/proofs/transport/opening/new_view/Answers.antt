use Rattle.std.proofs.Common.{◌≡◌, ◌∙◌, false, Some, ◌⊎◌, sym, ap, subst}
use Rattle.cal_storage.specs.Contents.{id_at}
use Rattle.cal_shm.specs.Plan.{path_of}
use Rattle.cal_shm.specs.declared.errors.SharedMemoryOpenError.TheVariants.{NoMemory}
use Rattle.cal_resizable.specs.View.{ViewPlan, management_plan, new_view, opening_refusal}
use Rattle.cal_transport.specs.Opening.{view_plan}
use Rattle.cal_transport.proofs.NewMemory.{named}
use Rattle.cal_transport.proofs.NewView.{view_error, are_new_together}
use Rattle.cal_transport.proofs.transport.opening.new_view.Goals as goal

pub view_error-requires : goal.view_error-requires
view_error-requires c =
    let alone = c.requires.alone.alone in
    let segments = c.requires.alone.segments in
    record {
      memory = view_error c.args.reg.now c.in-Err.error
          (c.a_view_opens_what_was_created.ensures.opens false c.args.reg.now c.args.memory.now view_plan alone
          (sym segments.name) (sym segments.settings))
          (subst (λ plan. (opening_refusal false c.args.reg.now plan ≡ Some c.in-Err.error)
          ⊎ (c.in-Err.error ≡ NoMemory)) c.view_builder.ensures.plan c.in-Err.ensures.error);
    }

pub returns-in-Ok : goal.returns-in-Ok
returns-in-Ok c =
    let old = c.args.reg.now in
    let memory = c.args.memory.now in
    let view = c.in-Ok.view in
    let id = view.management.id in
    let alone = c.requires.alone.alone in
    let segments = c.requires.alone.segments in
    record {
      together = are_new_together c.args.settings.now old c.«open».new.reg memory view id segments
          (c.a_view_opens_what_was_created.ensures.together old memory view_plan id alone named (sym segments.name)
          (sym segments.settings)
          (subst (λ plan. id_at old (path_of (management_plan plan)) ≡ Some id) c.view_builder.ensures.plan
          c.in-Ok.ensures.found))
          (subst (λ plan. view ≡ new_view plan id) c.view_builder.ensures.plan c.in-Ok.ensures.view)
          c.in-Ok.ensures.opened;
    }
