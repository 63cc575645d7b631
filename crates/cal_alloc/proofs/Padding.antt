-- The least multiple of y that is x or more.
use Rattle.std.proofs.Common.{◌≡◌, ℕ, zero, suc, ◌+◌, ◌-◌, ◌*◌, ◌%◌, ◌<◌, ◌≤◌, IsTrue, refl, arith, ◌⊎◌, inl, inr}
use Rattle.std.specs.Int.{next_multiple_of, is_power_of_two}
use Rattle.std.proofs.lemmas.Nat.{mod-mul-add}
use Rattle.std.proofs.Math.Nat.{mod-eq_of_lt}
use Rattle.cal_alloc.specs.Multiples.{nothing-missing, next_multiple_of-multiple}
use Rattle.std.proofs.lemmas.Bool.{false≢true, cases_lt}
use lib.Count.{ones}

-- a power of two isn't 0
pub positive_power : (n : ℕ) → IsTrue (is_power_of_two n) → 0 < n
unfolding ones
positive_power zero power = absurd (false≢true power)
positive_power (suc n) power = omega arith

-- a multiple stays as it is
pub next_multiple_of-same : (k y : ℕ) → 0 < y → next_multiple_of (k * y) y ≡ k * y
next_multiple_of-same k y positive =
    let no_more : k * y + 0 ≡ k * y = omega arith in
    let whole : k * y % y ≡ 0 = rw no_more at (mod-mul-add k y 0 positive) in
    omega (arith, nothing-missing (k * y) y whole)

pub next_multiple_of-twice : (x y : ℕ) → 0 < y → next_multiple_of (next_multiple_of x y) y ≡ next_multiple_of x y
next_multiple_of-twice x y positive =
    let m = next_multiple_of-multiple x y positive in rw m.1 (next_multiple_of-same m.0 y positive)

-- the least multiple from 1 on is the number itself
pub next_multiple_of-one : (y : ℕ) → 0 < y → next_multiple_of 1 y ≡ y
next_multiple_of-one y positive = from (cases_lt 1 y)
  where
    from : (1 < y) ⊎ (y ≤ 1) → 1 + (y - 1 % y) % y ≡ y
    from (inl more) =
        let one : 1 % y ≡ 1 = mod-eq_of_lt more in
        let rest : (y - 1) % y ≡ y - 1 = mod-eq_of_lt (omega arith) in
        rw (one, rest) (omega arith)
    from (inr same) = let one : y ≡ 1 = omega arith in rw one refl
