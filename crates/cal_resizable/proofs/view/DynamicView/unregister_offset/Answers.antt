use Rattle.std.proofs.Common.{◌∙◌}
use Rattle.cal_resizable.proofs.ViewCallLemmas.{return-IsView, return-HasView, return-Spares}
use Rattle.cal_resizable.proofs.view.DynamicView.unregister_offset.Goals as goal

pub invariant_of-self : goal.invariant_of-self
invariant_of-self g c =
    return-IsView c.args.reg.now c.retire_one.new.reg _ _ c.self.view_is c.self.invariant c.requires.there
    c.value-number.result _ (c.value-number.ensures.value ∙ c.segment_id.ensures.value) c.requires.registered
    c.count_less.new.self c.count_less.ensures.counted c.leaving_of-leaving.result c.leaving_of-leaving.ensures
    c.retire_one.new.segments c.retire_one.ensures.slots

pub returns-clause-has : goal.returns-clause-has
returns-clause-has g c =
    return-HasView c.args.reg.now c.retire_one.new.reg _ _ c.self.view_is c.self.invariant c.requires.there
    c.value-number.result _ (c.value-number.ensures.value ∙ c.segment_id.ensures.value) c.requires.registered
    c.count_less.new.self c.count_less.ensures.counted c.leaving_of-leaving.result c.leaving_of-leaving.ensures
    c.retire_one.new.segments c.retire_one.ensures.slots c.retire_one.ensures.leaves

pub returns-clause-spares : goal.returns-clause-spares
returns-clause-spares g c =
    return-Spares c.args.reg.now c.retire_one.new.reg _ _ c.self.view_is c.self.invariant c.requires.there
    c.value-number.result _ (c.value-number.ensures.value ∙ c.segment_id.ensures.value) c.requires.registered
    c.count_less.new.self c.count_less.ensures.counted c.leaving_of-leaving.result c.leaving_of-leaving.ensures
    c.retire_one.new.segments c.retire_one.ensures.slots c.retire_one.ensures.spares
