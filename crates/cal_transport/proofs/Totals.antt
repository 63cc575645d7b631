-- Sums over lists and tests of some element, where one element is written.
use Rattle.std.proofs.Common.{ℕ, zero, suc, ◌+◌, ◌≤◌, ◌≡◌, ◌≢◌, Bool, true, false, cond, not, ◌&&◌, ◌||◌, nat_lt, List, [], ◌∷◌, ◌++◌, set, Some, refl, sym, ap, ◌∙◌, arith}
use Rattle.std.specs.List.{slice_get, list_any, filter}
use Rattle.std.proofs.lemmas.Option.{same_Some, none-some}
use Rattle.std.proofs.lemmas.Bool.Decides.{nat_tests}
use Rattle.cal_transport.specs.Weights.{total, one_if}

pub or-false : (b : Bool) → (b || false) ≡ b
or-false true = refl
or-false false = refl

pub and-false : (b : Bool) → (b && false) ≡ false
and-false true = refl
and-false false = refl

pub not-not : (b : Bool) → not (not b) ≡ b
not-not true = refl
not-not false = refl

-- a later place of a list isn't its first
apart_first : (j : ℕ) → suc j ≢ zero
apart_first j e = absurd (omega arith)

-- ---- tests of some element

pub any_agree : {A : Type 0} (p q : A → Bool) (xs : List A) →
    ((j : ℕ) (x : A) → slice_get xs j ≡ Some x → p x ≡ q x) → list_any p xs ≡ list_any q xs
any_agree p q [] agree = refl
any_agree p q (x ∷ xs) agree =
    ap (λ b. b || list_any p xs) (agree 0 x refl)
    ∙ ap (λ b. q x || b) (any_agree p q xs (λ j z there. agree (suc j) z there))

pub any_none : {A : Type 0} (p : A → Bool) (xs : List A) →
    ((j : ℕ) (x : A) → slice_get xs j ≡ Some x → p x ≡ false) → list_any p xs ≡ false
any_none p [] none = refl
any_none p (x ∷ xs) none =
    ap (λ b. b || list_any p xs) (none 0 x refl) ∙ any_none p xs (λ j z there. none (suc j) z there)

-- where one element is written
pub any_set : {A : Type 0} (p q : A → Bool) (xs : List A) (i : ℕ) (x y : A) → slice_get xs i ≡ Some x → q y ≡ p x →
    ((j : ℕ) (z : A) → j ≢ i → slice_get xs j ≡ Some z → q z ≡ p z) → list_any q (set xs i y) ≡ list_any p xs
any_set p q [] i x y stands same agree = absurd (none-some x stands)
any_set p q (z ∷ xs) zero x y stands same agree =
    let here = same_Some z x stands in
    let rest = any_agree q p xs (λ j w there. agree (suc j) w (apart_first j) there) in
    ap (λ b. b || list_any q xs) (same ∙ ap p (sym here)) ∙ ap (λ b. p z || b) rest
any_set p q (z ∷ xs) (suc i) x y stands same agree =
    let first = agree 0 z (λ e. absurd (omega arith)) refl in
    let rest = any_set p q xs i x y stands same (λ j w apart there. agree (suc j) w (λ e. apart (omega arith)) there) in
    ap (λ b. b || list_any q (set xs i y)) first ∙ ap (λ b. p z || b) rest

-- where no other element passes
pub any_alone : {A : Type 0} (p : A → Bool) (xs : List A) (i : ℕ) (x : A) → slice_get xs i ≡ Some x →
    ((j : ℕ) (z : A) → j ≢ i → slice_get xs j ≡ Some z → p z ≡ false) → list_any p xs ≡ p x
any_alone p [] i x stands others = absurd (none-some x stands)
any_alone p (z ∷ xs) zero x stands others =
    let here = same_Some z x stands in
    let none = any_none p xs (λ j w there. others (suc j) w (apart_first j) there) in
    ap (λ b. p z || b) none ∙ or-false (p z) ∙ ap p here
any_alone p (z ∷ xs) (suc i) x stands others =
    ap (λ b. b || list_any p xs) (others 0 z (λ e. absurd (omega arith)) refl)
    ∙ any_alone p xs i x stands (λ j w apart there. others (suc j) w (λ e. apart (omega arith)) there)

pub any_append : {A : Type 0} (p : A → Bool) (xs : List A) (y : A) →
    list_any p (xs ++ y ∷ []) ≡ (list_any p xs || p y)
any_append p [] y = or-false (p y)
any_append p (x ∷ xs) y = ap (λ b. p x || b) (any_append p xs y) ∙ assoc (p x) (list_any p xs) (p y)
  where
    assoc : (a b c : Bool) → (a || (b || c)) ≡ ((a || b) || c)
    assoc true b c = refl
    assoc false b c = refl

-- of those that pass another test
pub any_filter : {A : Type 0} (p q : A → Bool) (xs : List A) → list_any p (filter q xs) ≡ list_any (λ x. p x && q x) xs
any_filter p q [] = refl
any_filter p q (x ∷ xs) = by_test (q x) (p x) (any_filter p q xs)
  where
    by_test : (b a : Bool) → list_any p (filter q xs) ≡ list_any (λ z. p z && q z) xs →
        list_any p (cond b (x ∷ filter q xs) (filter q xs)) ≡ ((p x && b) || list_any (λ z. p z && q z) xs)
    by_test true a same = ap (λ b. p x || b) same ∙ ap (λ b. b || list_any (λ z. p z && q z) xs) (sym (and-true (p x)))
      where
        and-true : (b : Bool) → (b && true) ≡ b
        and-true true = refl
        and-true false = refl
    by_test false a same = same ∙ ap (λ b. b || list_any (λ z. p z && q z) xs) (sym (and-false (p x)))

-- ---- sums

pub total_agree : {A : Type 0} (f g : A → ℕ) (xs : List A) →
    ((j : ℕ) (x : A) → slice_get xs j ≡ Some x → f x ≡ g x) → total f xs ≡ total g xs
total_agree f g [] agree = refl
total_agree f g (x ∷ xs) agree =
    let first = agree 0 x refl in
    let rest = total_agree f g xs (λ j z there. agree (suc j) z there) in omega arith

pub total_set : {A : Type 0} (f g : A → ℕ) (xs : List A) (i : ℕ) (x y : A) → slice_get xs i ≡ Some x →
    ((j : ℕ) (z : A) → j ≢ i → slice_get xs j ≡ Some z → g z ≡ f z) → total g (set xs i y) + f x ≡ total f xs + g y
total_set f g [] i x y stands agree = absurd (none-some x stands)
total_set f g (z ∷ xs) zero x y stands agree =
    let here = ap f (same_Some z x stands) in
    let rest = total_agree g f xs (λ j w there. agree (suc j) w (apart_first j) there) in omega arith
total_set f g (z ∷ xs) (suc i) x y stands agree =
    let first = agree 0 z (λ e. absurd (omega arith)) refl in
    let rest = total_set f g xs i x y stands (λ j w apart there. agree (suc j) w (λ e. apart (omega arith)) there) in
    omega arith

pub total_append : {A : Type 0} (f : A → ℕ) (xs : List A) (y : A) → total f (xs ++ y ∷ []) ≡ total f xs + f y
total_append f [] y = omega arith
total_append f (x ∷ xs) y = let rest = total_append f xs y in omega arith

-- an element weighs at most as much as all
pub total_least : {A : Type 0} (f : A → ℕ) (xs : List A) (i : ℕ) (x : A) → slice_get xs i ≡ Some x → f x ≤ total f xs
total_least f [] i x stands = absurd (none-some x stands)
total_least f (z ∷ xs) zero x stands = let here = ap f (same_Some z x stands) in omega arith
total_least f (z ∷ xs) (suc i) x stands = let rest = total_least f xs i x stands in omega arith

pub total_fewer : {A : Type 0} (f g : A → ℕ) (xs : List A) → ((x : A) → f x ≤ g x) → total f xs ≤ total g xs
total_fewer f g [] le = omega arith
total_fewer f g (x ∷ xs) le =
    let first = le x in let rest = total_fewer f g xs le in omega arith

-- some element passes exactly where they are more than none, for any weight that tells those that pass
pub any_total : {A : Type 0} (p : A → Bool) (f : A → ℕ) (xs : List A) → ((x : A) → p x ≡ nat_lt 0 (f x)) →
    list_any p xs ≡ nat_lt 0 (total f xs)
any_total p f [] tells = refl
any_total p f (x ∷ xs) tells =
    ap (λ b. b || list_any p xs) (tells x) ∙ ap (λ b. nat_lt 0 (f x) || b) (any_total p f xs tells)
    ∙ sum_tells (f x) (total f xs)
  where
    sum_tells : (a b : ℕ) → (nat_lt 0 a || nat_lt 0 b) ≡ nat_lt 0 (a + b)
    sum_tells a b = grind (arith, nat_tests)

pub one_tells : (b : Bool) → b ≡ nat_lt 0 (one_if b)
one_tells true = refl
one_tells false = refl
