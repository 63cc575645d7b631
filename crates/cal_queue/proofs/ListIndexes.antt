-- What stands at an index of a list.
use Rattle.std.proofs.Common.{◌≡◌, ℕ, zero, suc, ◌<◌, List, [], ◌∷◌, ◌++◌, length, sym, refl, ap, inl, inr, ◌⊎◌, ⊎_elim, arith}
use mathlib.Core.Option.{some, some-injective, some-ne-none}
use lib.ListN.{get_elem?}

-- what is at an index is within the list
pub at_within : {A : Type 0} (l : List A) (j : ℕ) (a : A) → get_elem? l j ≡ some a → j < length l
at_within [] j a e = absurd (some-ne-none a (sym e))
at_within (x ∷ xs) zero a e = omega arith
at_within (x ∷ xs) (suc j) a e = let h = at_within xs j a e in omega arith

-- an index of a list with one more is an old index, or the last
pub at_snoc : {A : Type 0} (l : List A) (a b : A) (j : ℕ) → get_elem? (l ++ a ∷ []) j ≡ some b
    → (get_elem? l j ≡ some b) ⊎ ((j ≡ length l) × (a ≡ b))
at_snoc [] a b zero e = inr (refl, some-injective a b e)
at_snoc [] a b (suc j) e = absurd (some-ne-none b (sym e))
at_snoc (x ∷ xs) a b zero e = inl e
at_snoc (x ∷ xs) a b (suc j) e = ⊎_elim (λ h. inl h) (λ h. inr (ap suc h.0, h.1)) (at_snoc xs a b j e)
