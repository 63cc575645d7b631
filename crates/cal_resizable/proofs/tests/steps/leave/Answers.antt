use Rattle.std.proofs.Common.{subst, sym}
use Rattle.cal_alloc.specs.PointerOffset.{segment_of}
use Rattle.cal_resizable.specs.Together.{AreTogether}
use Rattle.cal_resizable.specs.View.{registry_after_return}
use Rattle.cal_resizable.proofs.StepLemmas.{registered_once}
use Rattle.cal_resizable.proofs.tests.steps.leave.Goals as goal

pub returns-clause-together : goal.returns-clause-together
returns-clause-together g c =
    let number = segment_of c.args.offset in
    let kept = c.a_view_stays_with_its_memory.ensures.given_back c.args.reg.now c.args.memory.now c.args.view.now number
    c.requires.together (registered_once c.args.view.now.slots number c.requires.registered) in
    subst (λ contents. AreTogether contents c.args.memory.now c.unregister_offset.new.self)
    (sym c.unregister_offset.ensures.registry)
    (subst (λ view. AreTogether (registry_after_return c.args.reg.now c.args.view.now number) c.args.memory.now view)
    (sym c.unregister_offset.ensures.view) kept)
