-- Powers of two, and multiples of them.
use Rattle.std.proofs.Common.{◌≡◌, ℕ, zero, suc, ◌+◌, ◌-◌, ◌*◌, ◌/◌, ◌%◌, ◌^◌, ◌<◌, ◌≤◌, IsTrue, refl, sym, ◌∙◌, ap, arith, ◌⊎◌, inl, inr}
use Rattle.std.specs.Int.{next_multiple_of, is_power_of_two}
use Rattle.std.proofs.lemmas.Bool.{cases_lt}
use Rattle.std.proofs.lemmas.Nat.{div-add-mod', mod_below, mod-mul-add, pow-add}
use Rattle.std.proofs.Math.Nat.{mod_self, sub-zero, mod-eq_of_lt, pow-suc, pow-le-pow_right}
use lib.Count.{ones, ones_in, ones_step}

-- ---- a number of which one digit is set

none_set : (fuel n : ℕ) → n ≤ fuel → ones n ≡ 0 → n ≡ 0
none_set zero n few e = omega arith
none_set (suc fuel) n few e =
    let step = ones_step n in
    let half = none_set fuel (n / 2) (omega arith) (omega arith) in
    omega (arith, half, step, e)

no_digit : ones 0 ≡ 0
unfolding ones ones_in
no_digit = refl

one_set : (fuel n : ℕ) → n ≤ fuel → ones n ≡ 1 → (k : ℕ) × (n ≡ 2 ^ k)
one_set zero n few e = absurd (omega (arith, ap ones (nothing n few), no_digit, e))
  where
    nothing : (n : ℕ) → n ≤ 0 → n ≡ 0
    nothing n few = omega arith
one_set (suc fuel) n few e = from (cases_lt 0 (n % 2)) (one_set fuel (n / 2))
  where
    from : (0 < n % 2) ⊎ (n % 2 ≤ 0) → (n / 2 ≤ fuel → ones (n / 2) ≡ 1 → (k : ℕ) × (n / 2 ≡ 2 ^ k)) →
        (k : ℕ) × (n ≡ 2 ^ k)
    from (inl odd) rest_is =
        let step = ones_step n in
        let rest = none_set n (n / 2) (omega arith) (omega (arith, step, e, odd)) in
        (0, omega (arith, rest, odd))
    from (inr even) rest_is =
        let step = ones_step n in
        let half = rest_is (omega arith) (omega (arith, step, e, even)) in
        (suc half.0, omega (arith, even, half.1, pow-suc 2 half.0))

-- a power of two is 2 to some number
pub two_to : (n : ℕ) → IsTrue (is_power_of_two n) → (k : ℕ) × (n ≡ 2 ^ k)
two_to n power = one_set n n (omega arith) (grind arith)

-- a greater power of two is a multiple of a lesser one
pub power-multiple : (fine coarse : ℕ) → 2 ^ fine ≤ 2 ^ coarse → (k : ℕ) × (2 ^ coarse ≡ k * 2 ^ fine)
power-multiple fine coarse less = from (cases_lt coarse fine)
  where
    from : (coarse < fine) ⊎ (fine ≤ coarse) → (k : ℕ) × (2 ^ coarse ≡ k * 2 ^ fine)
    from (inr below) =
        let apart : coarse - fine + fine ≡ coarse = omega arith in
        (2 ^ (coarse - fine), ap (λ n. 2 ^ n) (sym apart) ∙ pow-add 2 (coarse - fine) fine)
    from (inl above) =
        let more : 2 ^ suc coarse ≤ 2 ^ fine = pow-le-pow_right {n = 2} (omega arith) above in
        (1, omega (arith, more, less, pow-suc 2 coarse))

-- ---- multiples

-- a multiple leaves nothing
pub whole_multiple : (k n m : ℕ) → 0 < n → m ≡ k * n → m % n ≡ 0
whole_multiple k n m positive e =
    let no_more : k * n + 0 ≡ k * n = omega arith in
    ap (λ x. x % n) (e ∙ sym no_more) ∙ mod-mul-add k n 0 positive

-- where x isn't a multiple, what is missing is below y
missing : (x y : ℕ) → 0 < y → 0 < x % y → (y - x % y) % y ≡ y - x % y
missing x y positive part = mod-eq_of_lt (omega (arith, mod_below x y positive))

-- where x is one, nothing is missing
pub nothing-missing : (x y : ℕ) → x % y ≡ 0 → (y - x % y) % y ≡ 0
nothing-missing x y whole = rw (whole, sub-zero) (mod_self y)

-- the least multiple of y from x on is so many times y
pub next_multiple_of-multiple : (x y : ℕ) → 0 < y → (k : ℕ) × (next_multiple_of x y ≡ k * y)
next_multiple_of-multiple x y positive = from (x % y) refl
  where
    from : (r : ℕ) → x % y ≡ r → (k : ℕ) × (x + (y - x % y) % y ≡ k * y)
    from zero e = (x / y, omega (arith, div-add-mod' x y, nothing-missing x y e, e))
    from (suc r) e =
        let part : 0 < x % y = omega (arith, e) in
        let product : (x / y + 1) * y ≡ x / y * y + y = omega arith in
        (x / y + 1, omega (arith, div-add-mod' x y, missing x y positive part, mod_below x y positive, product))
