-- The least power of two from a number on, by doubling.
use Rattle.std.proofs.Common.{◌≡◌, ℕ, zero, suc, ◌+◌, ◌*◌, ◌/◌, ◌^◌, ◌<◌, ◌≤◌, Bool, true, false, nat_le, refl, sym, ◌∙◌, arith, ◌⊎◌, inl, inr}
use Rattle.std.specs.Int.{IsNextPowerOfTwo}
use Rattle.std.proofs.lemmas.Nat.{pow_pos, mul-le}
use Rattle.std.proofs.lemmas.Bool.{cases_lt}
use Rattle.std.proofs.Math.Nat.{pow-suc, pow-le-pow_right}
use Rattle.cal_alloc.specs.Growth.{doubled_to, least_power_of_two}

-- one turn of the doubling
abbrev doubled_if : Bool → ℕ → ℕ → ℕ → ℕ
doubled_if reached times n p = elim reached [ true ↦ p | false ↦ doubled_to times n (2 * p) ]

turn-ge : (reached : Bool) (times n p : ℕ) → nat_le n p ≡ reached → (p < n → n ≤ doubled_to times n (2 * p)) →
    n ≤ doubled_if reached times n p
turn-ge true times n p e further = grind arith
turn-ge false times n p e further = further (grind arith)

-- the doubling ends at n or above
pub doubled_to-ge : (times n p : ℕ) → 0 < p → n ≤ p + times → n ≤ doubled_to times n p
doubled_to-ge zero n p positive enough = omega arith
doubled_to-ge (suc times) n p positive enough =
    turn-ge (nat_le n p) times n p refl (λ below. doubled_to-ge times n (2 * p) (omega arith) (omega arith))

pub least_power_of_two-ge : (n : ℕ) → n ≤ least_power_of_two n
least_power_of_two-ge n = doubled_to-ge n n 1 (omega arith) (omega arith)

turn-is : (reached : Bool) (times n p q : ℕ) → nat_le n p ≡ reached → p < n → doubled_to times n (2 * p) ≡ q →
    doubled_if reached times n p ≡ q
turn-is true times n p q e below further = absurd (grind arith)
turn-is false times n p q e below further = further

turn-ends : (reached : Bool) (times n p : ℕ) → nat_le n p ≡ reached → n ≤ p → doubled_if reached times n p ≡ p
turn-ends true times n p e within = refl
turn-ends false times n p e within = absurd (grind arith)

-- where p takes d doublings to reach n, the doubling ends there
pub doubled_to-is : (d times n p : ℕ) → d ≤ times → n ≤ p * 2 ^ d → (0 < d → p * 2 ^ d < 2 * n) →
    doubled_to times n p ≡ p * 2 ^ d
doubled_to-is zero zero n p few reaches least = omega arith
doubled_to-is zero (suc times) n p few reaches least = turn-ends (nat_le n p) times n p refl (omega arith)
    ∙ (omega arith)
doubled_to-is (suc d) zero n p few reaches least = absurd (omega arith)
doubled_to-is (suc d) (suc times) n p few reaches least =
    let twice : p * 2 ^ suc d ≡ 2 * p * 2 ^ d = rw pow-suc (omega arith) in
    let half : 2 * (p * 2 ^ d) ≡ 2 * p * 2 ^ d = omega arith in
    let short = least (omega arith) in
    let at_least : p ≤ p * 2 ^ d = omega (arith, mul-le p 1 p (2 ^ d) (omega arith) (pow_pos d)) in
    let further = doubled_to-is d times n (2 * p) (omega arith) (omega (arith, twice, reaches))
    (λ _. omega (arith, twice, short)) in
    turn-is (nat_le n p) times n p _ refl (omega (arith, twice, half, short, at_least)) further ∙ sym twice

-- each is a power of two
pub doubled_to-power : (times n j : ℕ) → (k : ℕ) × (doubled_to times n (2 ^ j) ≡ 2 ^ k)
doubled_to-power zero n j = (j, refl)
doubled_to-power (suc times) n j =
    turn-power (nat_le n (2 ^ j)) times n j (rw two_times at (doubled_to-power times n (suc j)))
  where
    two_times : 2 ^ suc j ≡ 2 * 2 ^ j
    two_times = rw pow-suc (omega arith)

    turn-power : (reached : Bool) (times n j : ℕ) → ((k : ℕ) × (doubled_to times n (2 * 2 ^ j) ≡ 2 ^ k)) →
        (k : ℕ) × (doubled_if reached times n (2 ^ j) ≡ 2 ^ k)
    turn-power true times n j further = (j, refl)
    turn-power false times n j further = further

-- k is below 2 ^ k
pub lt-two-pow : (k : ℕ) → k < 2 ^ k
lt-two-pow zero = omega arith
lt-two-pow (suc k) = rw pow-suc (omega (arith, lt-two-pow k))

-- the least power of two is the next one
pub least_power_of_two-is : (n p : ℕ) → IsNextPowerOfTwo n p → least_power_of_two n ≡ p
least_power_of_two-is n p next = from next.0.0 next.0.1
  where
    from : (k : ℕ) → p ≡ 2 ^ k → doubled_to n n 1 ≡ p
    from zero e = let here = doubled_to-is zero n n 1 (omega arith) (omega (arith, next.1, e))
        (λ none. absurd (omega arith)) in omega (arith, here, e)
    from (suc k) e =
        let twice : 2 ^ suc k ≡ 2 ^ k * 2 = pow-suc 2 k in
        let half : p / 2 ≡ 2 ^ k = omega (arith, e, twice) in
        let positive = pow_pos k in
        let few = lt-two-pow k in
        let here = doubled_to-is (suc k) n n 1 (omega (arith, next.2, half, few, positive)) (omega (arith, next.1, e))
        (λ _. omega (arith, next.2, half, twice, positive)) in
        omega (arith, here, e)

-- from above 2 ^ 63 on it is 2 ^ 64 or more
pub least_power_of_two-far : (n : ℕ) → 2 ^ 63 < n → 2 ^ 64 ≤ least_power_of_two n
least_power_of_two-far n far = from (cases_lt power.0 64)
  where
    power : (k : ℕ) × (least_power_of_two n ≡ 2 ^ k)
    power = doubled_to-power n n 0

    from : (power.0 < 64) ⊎ (64 ≤ power.0) → 2 ^ 64 ≤ least_power_of_two n
    from (inl small) =
        let low : 2 ^ power.0 ≤ 2 ^ 63 =
        (let few : power.0 ≤ 63 = omega (arith, small) in pow-le-pow_right {n = 2} (omega arith) few) in
        absurd (omega (arith, least_power_of_two-ge n, power.1, low, far))
    from (inr large) =
        let high : 2 ^ 64 ≤ 2 ^ power.0 = pow-le-pow_right {n = 2} (omega arith) large in
        omega (arith, power.1, high)
