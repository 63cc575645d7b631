-- The first number from one on that passes a test.
use Rattle.std.specs.Prelude.{ℕ, ◌<◌, ◌≤◌, ◌≡◌, Bool, true, false, Option, Some, None}

-- this number passes, and none before it does
pub record IsFirst (test : ℕ → Bool) (from number : ℕ) : Type 0 where
  pub not_before : from ≤ number
  pub passes : test number ≡ true
  pub first : (k : ℕ) → from ≤ k → k < number → test k ≡ false

-- the answer is the first number from this one on that passes, and None exactly where none does
abbrev pub IsFirstFrom : (ℕ → Bool) → ℕ → Option ℕ → Type 0
IsFirstFrom test from None = (k : ℕ) → from ≤ k → test k ≡ false
IsFirstFrom test from (Some number) = IsFirst test from number
