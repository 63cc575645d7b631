-- How the values sent are parted into those received, those that overflowed, and those that are left.
use Rattle.std.specs.Prelude.{◌≡◌, ℕ, ◌+◌, ◌<◌, ◌≤◌, ◌⊎◌, List, length, slice_get, Some}

-- the positions rise
abbrev pub Rises : List (ℕ × ℕ) → Type 0
Rises entries = (i j : ℕ) (x y : ℕ × ℕ) → i < j → slice_get entries i ≡ Some x → slice_get entries j ≡ Some y
    → x.0 < y.0

-- an entry has this position
abbrev pub HasPosition : List (ℕ × ℕ) → ℕ → Type 0
HasPosition entries position = (i : ℕ) × (value : ℕ) × (slice_get entries i ≡ Some (position, value))

-- each entry has the value that was sent at its position
abbrev pub AsSent : List ℕ → List (ℕ × ℕ) → Type 0
AsSent sent entries = (i position value : ℕ) → slice_get entries i ≡ Some (position, value) → slice_get sent position
    ≡ Some value

-- The positions received and those that overflowed rise, no position is among both, and together they are the first
-- positions sent; each has the value that was sent there
pub record IsPartition (sent : List ℕ) (received overflowed : List (ℕ × ℕ)) : Type 0 where
  pub received_rise : Rises received
  pub overflowed_rise : Rises overflowed
  pub received_as_sent : AsSent sent received
  pub overflowed_as_sent : AsSent sent overflowed
  pub disjoint : (position : ℕ) → HasPosition received position → HasPosition overflowed position → ⊥
  pub first_positions : (position : ℕ) → position < length received + length overflowed
      → HasPosition received position ⊎ HasPosition overflowed position
  pub no_others : (position : ℕ) → HasPosition received position ⊎ HasPosition overflowed position
      → position < length received + length overflowed
  pub within_sent : length received + length overflowed ≤ length sent
