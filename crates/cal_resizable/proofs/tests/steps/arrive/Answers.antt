use Rattle.std.proofs.Common.{inr, subst, sym}
use Rattle.cal_alloc.specs.PointerOffset.{segment_of}
use Rattle.cal_resizable.specs.Together.{AreTogether}
use Rattle.cal_resizable.specs.View.{view_after_arrival, registry_after_arrival}
use Rattle.cal_resizable.proofs.tests.steps.arrive.Goals as goal

pub returns-clause-together : goal.returns-clause-together
returns-clause-together g c =
    let number = segment_of c.args.offset in
    let law = c.active_are_the_current_one_and_those_with_a_chunk.ensures.active c.args.memory.now number
    c.requires.together.memory_sound in
    let kept = c.a_view_stays_with_its_memory.ensures.arrived c.args.reg.now c.args.memory.now c.args.view.now number
    c.requires.together (law.1 (inr c.requires.chunks)) in
    subst (λ contents. AreTogether contents c.args.memory.now c.register_and_translate_offset.new.self)
    (sym c.in-Ok.ensures.registry)
    (subst (λ view. AreTogether (registry_after_arrival c.args.reg.now c.args.view.now number) c.args.memory.now view)
    (sym c.in-Ok.ensures.view) kept)
