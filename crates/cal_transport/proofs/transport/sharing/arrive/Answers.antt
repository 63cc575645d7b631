use Rattle.std.proofs.Common.{◌<◌, ◌∙◌, sym, ap, subst, arith}
use Rattle.cal_alloc.specs.PointerOffset.{segment_of}
use Rattle.cal_resizable.specs.Chunks.{segment_value}
use Rattle.cal_resizable.specs.Together.{AreTogether}
use Rattle.cal_resizable.specs.View.{view_after_arrival}
use Rattle.cal_transport.proofs.Arrivals.{arrives}
use Rattle.cal_transport.proofs.transport.sharing.arrive.Goals as goal

pub returns : goal.returns
returns c =
    let number = segment_of c.args.pointer in
    let small : number < 256 = omega arith in
    let view_is = c.in-Ok.ensures.view in
    let registry_is = c.in-Ok.ensures.registry in
    record {
      arrived = arrives c.args.memory.now c.args.reg.now c.register_and_translate_offset.new.reg c.args.view.now
          c.register_and_translate_offset.new.self number c.requires.together.view_sound small
          (c.an_arrival_of_what_is_out_is_not_refused.ensures.found c.args.reg.now c.args.memory.now c.args.view.now
          number c.requires.together c.requires.active)
          view_is
          (subst (λ v. AreTogether c.register_and_translate_offset.new.reg c.args.memory.now v) (sym view_is)
          (subst (λ r. AreTogether r c.args.memory.now (view_after_arrival c.args.reg.now c.args.view.now number))
          (sym registry_is)
          (c.a_view_stays_with_its_memory.ensures.arrived c.args.reg.now c.args.memory.now c.args.view.now number
          c.requires.together c.requires.active)))
          (λ other. ap (λ r. segment_value r c.args.memory.now.slots other) registry_is
          ∙ c.a_view_leaves_the_segments.ensures.arrived c.args.reg.now c.args.memory.now c.args.view.now number other
          c.requires.together c.requires.active);
    }
