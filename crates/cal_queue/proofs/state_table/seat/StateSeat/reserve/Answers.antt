use Rattle.std.proofs.Common.{Bool, subst, ◌∙◌}
use Rattle.std.specs.Bool.{MatchBool}
use Rattle.cal_queue.specs.StateAnswers.{OnlyLooked, Reserved}
use Rattle.cal_queue.specs.StateSeats.{pass}
use Rattle.cal_queue.proofs.StateTries.{OnlyLooked-next, Refused-after, Reserved-after}
use Rattle.cal_queue.proofs.state_table.seat.StateSeat.reserve.Goals as goal

pub returns-in-Ok-true-clause-ok : goal.returns-in-Ok-true-clause-ok
returns-in-Ok-true-clause-ok g c = Reserved-after _ _ _ _ c.loop.invariant.looked
    (subst (λ (b : Bool). MatchBool b (Reserved c.args.bit (pass c.loop.self) (pass c.try_reserve.new.self))
    (OnlyLooked (pass c.loop.self) (pass c.try_reserve.new.self)))
    c.in-Ok-true.field-0-test c.in-Ok-true.ensures.ok)

pub loop-preserved : goal.loop-preserved
loop-preserved g c = record {
  same_table = c.try_reserve.ensures.same_table ∙ c.loop.invariant.same_table;
  looked = OnlyLooked-next _ _ _ c.loop.invariant.looked
      (subst (λ (b : Bool). MatchBool b (Reserved c.args.bit (pass c.loop.self) (pass c.try_reserve.new.self))
      (OnlyLooked (pass c.loop.self) (pass c.try_reserve.new.self)))
      c.in-Ok-false.field-0-test c.in-Ok-false.ensures.ok);
}

pub returns-in-Err-clause-refused : goal.returns-in-Err-clause-refused
returns-in-Err-clause-refused g c = Refused-after _ _ _ _ c.loop.invariant.looked c.in-Err.refusal
    c.in-Err.ensures.refused
