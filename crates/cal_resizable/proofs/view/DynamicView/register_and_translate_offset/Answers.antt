use Rattle.std.proofs.Common.{arith, sym, subst}
use Rattle.cal_resizable.proofs.ViewCallLemmas.{register-Spares}
use Rattle.cal_resizable.proofs.ViewLemmas.{SparesHandles-same}
use Rattle.cal_resizable.proofs.ViewSlotLemmas.{registered-IsView}
use Rattle.cal_resizable.specs.Slots.{SparesHandles}
use Rattle.cal_resizable.specs.View.{View}
use Rattle.cal_resizable.proofs.view.DynamicView.register_and_translate_offset.Goals as goal
use Rattle.cal_resizable.proofs.view.DynamicView.register_and_translate_offset.Goals.{then-not-is_held+in_default, else-not-is_held}

pub invariant_of-self : goal.invariant_of-self
invariant_of-self g c = registered-IsView _ c.self-2.invariant c.value-number.result (omega arith) c.count_more.new.self
    c.count_more.ensures.counted

pub returns-clause-spares : goal.returns-clause-spares
returns-clause-spares g c =
    register-Spares c.args.reg.now c.if-not-is_held.reg c.args.self.now.slots _ _ c.self-2.view_is c.self-2.invariant
    c.value-number.result (omega arith) c.count_more.new.self c.count_more.ensures.counted
    (elim c.if-not-is_held.branch [
      | then-not-is_held+in_default w ↦
          subst (λ r. SparesHandles c.args.reg.now r c.args.self.now.slots c.if-not-is_held.self.slots) (sym w.reg-is)
          (subst (λ (v : View). SparesHandles c.args.reg.now w.map_segment.new.reg c.args.self.now.slots v.slots)
          (sym w.self-is) w.map_segment.ensures.spares)
      | else-not-is_held w ↦
          subst (λ r. SparesHandles c.args.reg.now r c.args.self.now.slots c.if-not-is_held.self.slots) (sym w.reg-is)
          (SparesHandles-same c.args.reg.now c.args.self.now.slots c.if-not-is_held.self.slots)
    ])
