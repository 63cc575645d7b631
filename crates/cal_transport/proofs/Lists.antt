-- Elements of lists by their places, where a place is written.
use Rattle.std.proofs.Common.{ℕ, zero, suc, ◌≡◌, ◌≢◌, ◌⊎◌, inl, inr, List, [], ◌∷◌, ◌++◌, length, map, set, Some, refl, sym, ap, arith}
use Rattle.std.specs.List.{slice_get}
use Rattle.std.proofs.lemmas.Option.{same_Some}
use Rattle.std.proofs.lemmas.Bool.Decides.{eqb_tells}

-- two numbers are the same or apart
pub same_or_apart : (a b : ℕ) → (a ≡ b) ⊎ (a ≢ b)
same_or_apart a b = elim (eqb_tells a b) [ inl same ↦ inl same.1 | inr apart ↦ inr apart.1 ]

pub slice_get-set_same : {A : Type 0} (xs : List A) (i : ℕ) (x y : A) → slice_get xs i ≡ Some x →
    slice_get (set xs i y) i ≡ Some y
slice_get-set_same [] i x y e = cc
slice_get-set_same (z ∷ xs) zero x y e = refl
slice_get-set_same (z ∷ xs) (suc i) x y e = slice_get-set_same xs i x y e

pub slice_get-set_else : {A : Type 0} (xs : List A) (i j : ℕ) (y : A) → j ≢ i →
    slice_get (set xs i y) j ≡ slice_get xs j
slice_get-set_else [] i j y apart = refl
slice_get-set_else (z ∷ xs) zero zero y apart = absurd (apart refl)
slice_get-set_else (z ∷ xs) zero (suc j) y apart = refl
slice_get-set_else (z ∷ xs) (suc i) zero y apart = refl
slice_get-set_else (z ∷ xs) (suc i) (suc j) y apart = slice_get-set_else xs i j y (λ e. apart (ap suc e))

-- a map of a written list, by another function that gives the same at the other places
pub map-set_agree : {A B : Type 0} (f g : A → B) (xs : List A) (i : ℕ) (y : A) →
    ((j : ℕ) (x : A) → j ≢ i → slice_get xs j ≡ Some x → f x ≡ g x) → set (map f xs) i (g y) ≡ map g (set xs i y)
map-set_agree f g [] i y agree = refl
map-set_agree f g (x ∷ xs) zero y agree = ap
    (λ rest. g y ∷ rest) (all_agree f g xs (λ j z e. agree (suc j) z (λ q. absurd (omega arith)) e))
  where
    all_agree : {A B : Type 0} (f g : A → B) (xs : List A) → ((j : ℕ) (x : A) → slice_get xs j ≡ Some x → f x ≡ g x) →
        map f xs ≡ map g xs
    all_agree f g [] agree = refl
    all_agree f g (x ∷ xs) agree = let first = agree 0 x refl in let rest = all_agree f g xs
        (λ j z e. agree (suc j) z e) in cc
map-set_agree f g (x ∷ xs) (suc i) y agree =
    let first : f x ≡ g x = agree 0 x (λ q. absurd (omega arith)) refl in
    let rest = map-set_agree f g xs i y (λ j z apart e. agree (suc j) z (λ q. apart (omega arith)) e) in cc

pub map_agree : {A B : Type 0} (f g : A → B) (xs : List A) → ((x : A) → f x ≡ g x) → map f xs ≡ map g xs
map_agree f g [] agree = refl
map_agree f g (x ∷ xs) agree = let first = agree x in let rest = map_agree f g xs agree in cc

-- to write what stands there changes nothing
pub set_there : {A : Type 0} (xs : List A) (i : ℕ) (x : A) → slice_get xs i ≡ Some x → set xs i x ≡ xs
set_there [] i x e = refl
set_there (y ∷ xs) zero x e = ap (λ z. z ∷ xs) (sym (same_Some y x e))
set_there (y ∷ xs) (suc i) x e = ap (λ rest. y ∷ rest) (set_there xs i x e)

-- ---- a list that has grown by one

pub slice_get-append_old : {A : Type 0} (xs : List A) (y : A) (i : ℕ) (x : A) → slice_get xs i ≡ Some x →
    slice_get (xs ++ y ∷ []) i ≡ Some x
slice_get-append_old [] y i x e = cc
slice_get-append_old (z ∷ xs) y zero x e = e
slice_get-append_old (z ∷ xs) y (suc i) x e = slice_get-append_old xs y i x e

pub old_or_new : {A : Type 0} (xs : List A) (y : A) (i : ℕ) (x : A) → slice_get (xs ++ y ∷ []) i ≡ Some x →
    (slice_get xs i ≡ Some x) ⊎ ((i ≡ length xs) × (x ≡ y))
old_or_new [] y zero x e = inr (refl, sym (same_Some y x e))
old_or_new [] y (suc i) x e = cc
old_or_new (z ∷ xs) y zero x e = inl e
old_or_new (z ∷ xs) y (suc i) x e =
    elim (old_or_new xs y i x e) [ inl old ↦ inl old | inr new ↦ inr (ap suc new.0, new.1) ]
