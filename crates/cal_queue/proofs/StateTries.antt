-- What the tries of a side that joins or leaves add up to.
use Rattle.std.proofs.Common.{ℕ, ◌⊎◌, Bool, true, false, List, [], ◌∷◌, ◌++◌, inl, inr, ⊎_elim, sym, refl, ap, ◌∙◌, append_assoc, append-nil}
use Rattle.std.specs.Bool.{MatchBool, OnFalse, OnTrue}
use Rattle.cal_queue.specs.declared.reserve_refusal.ReserveRefusal.{ReserveRefusal}
use Rattle.cal_queue.specs.declared.reserve_refusal.ReserveRefusal.TheVariants.{AlreadyConnected, BeingCleanedUp}
use Rattle.cal_queue.specs.declared.state_table.pass.StateStep.{StateStep}
use Rattle.cal_queue.specs.declared.state_table.pass.StatePass.{StatePass}
use Rattle.cal_queue.specs.StateAnswers.{AreLooks, EndsWith, LeftMark, LeftOther, OnlyLooked, Refused, Reserved, WasAbsent}

AreLooks-append : (xs ys : List StateStep) → AreLooks xs → AreLooks ys → AreLooks (xs ++ ys)
AreLooks-append [] ys a b = b
AreLooks-append (x ∷ xs) ys a b = (a.0, a.1, AreLooks-append xs ys a.2 b)

pub OnlyLooked-start : (p : StatePass) → OnlyLooked p p
OnlyLooked-start p = record { looks = []; are_looks = tt; opening = refl; steps = sym (append-nil p.steps) }

pub OnlyLooked-next : (a b c : StatePass) → OnlyLooked a b → OnlyLooked b c → OnlyLooked a c
OnlyLooked-next a b c first then = record {
  looks = first.looks ++ then.looks;
  are_looks = AreLooks-append first.looks then.looks first.are_looks then.are_looks;
  opening = then.opening ∙ first.opening;
  steps = then.steps ∙ ap (λ (s : List StateStep). s ++ then.looks) first.steps
      ∙ append_assoc a.steps first.looks then.looks;
}

pub EndsWith-after : (a b c : StatePass) (last : StateStep) → OnlyLooked a b → EndsWith b c last → EndsWith a c last
EndsWith-after a b c last first ends = record {
  looks = first.looks ++ ends.looks;
  are_looks = AreLooks-append first.looks ends.looks first.are_looks ends.are_looks;
  opening = ends.opening ∙ first.opening;
  steps = ends.steps ∙ ap (λ (s : List StateStep). (s ++ ends.looks) ++ last ∷ []) first.steps ∙ ap
      (λ (s : List StateStep). s ++ last ∷ []) (append_assoc a.steps first.looks ends.looks);
}

module _ (bit : ℕ) (a b c : StatePass) (first : OnlyLooked a b) where
  pub Reserved-after : Reserved bit b c → Reserved bit a c
  Reserved-after done = record {
    seen = done.seen;
    absent = done.absent;
    unmarked = done.unmarked;
    steps = EndsWith-after a b c _ first done.steps;
  }

  pub Refused-after : (why : ReserveRefusal) → Refused bit why b c → Refused bit why a c
  Refused-after (AlreadyConnected seen) refused = (refused.0, EndsWith-after a b c _ first refused.1)
  Refused-after (BeingCleanedUp seen) refused = (refused.0, refused.1, EndsWith-after a b c _ first refused.2)

  pub LeftMark-after : (marked : Bool) → MatchBool marked (LeftMark bit b c) (LeftOther bit b c ⊎ WasAbsent bit b c) →
      OnTrue marked (LeftMark bit a c)
  LeftMark-after true done = EndsWith-after a b c _ first done
  LeftMark-after false done = tt

  pub Left-after : (marked : Bool) → MatchBool marked (LeftMark bit b c) (LeftOther bit b c ⊎ WasAbsent bit b c) →
      OnFalse marked (LeftOther bit a c ⊎ WasAbsent bit a c)
  Left-after true done = tt
  Left-after false done = ⊎_elim
      (λ other. inl (EndsWith-after a b c _ first other))
      (λ none. inr (record { seen = none.seen; absent = none.absent; steps = EndsWith-after a b c _ first none.steps }))
      done
