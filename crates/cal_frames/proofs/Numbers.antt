-- The numbers below a number, and what is left of them behind some.
use Rattle.std.proofs.Common.{ℕ, zero, suc, ◌<◌, ◌≤◌, ◌≡◌, inl, inr, List, [], ◌∷◌, ◌++◌, length, drop, Some, None, refl, sym, ap, ◌∙◌, arith}
use Rattle.std.proofs.lemmas.Bool.{cases_lt}
use Rattle.std.proofs.lemmas.List.{drop_all, drop_at, length_push, drop-append-le}
use Rattle.std.proofs.lemmas.Option.{none-some}
use Rattle.cal_transport.specs.Ledger.{numbers_below}
use Rattle.cal_transport.specs.Step.{front}

pub length-numbers_below : (n : ℕ) → length (numbers_below n) ≡ n
length-numbers_below zero = refl
length-numbers_below (suc n) =
    let shorter = length-numbers_below n in let pushed = length_push (numbers_below n) n in omega arith

front-append : (xs ys : List ℕ) (x : ℕ) → front xs ≡ Some x → front (xs ++ ys) ≡ Some x
front-append [] ys x e = absurd (none-some x e)
front-append (y ∷ xs) ys x e = e

-- what stands first behind some of them
pub front_behind : (n few : ℕ) → few < n → front (drop few (numbers_below n)) ≡ Some few
front_behind zero few below = absurd (omega arith)
front_behind (suc n) few below =
    let all = length-numbers_below n in
    elim (cases_lt few n) [
      | inl less ↦ (ap front (drop-append-le few (numbers_below n) (n ∷ []) (omega arith))
          ∙ front-append (drop few (numbers_below n)) (n ∷ []) few (front_behind n few less))
      | inr past ↦ (let same : few ≡ n = omega arith in
          ap front (drop_at (numbers_below n) (n ∷ []) few (all ∙ sym same)) ∙ ap Some (sym same))
    ]

pub none_behind : (n few : ℕ) → n ≤ few → front (drop few (numbers_below n)) ≡ None
none_behind n few past =
    let all = length-numbers_below n in ap front (drop_all few (numbers_below n) (omega arith))
