-- A bounded queue as contracts see it, what its calls answer and what they leave.
use Rattle.std.specs.Prelude.{ℕ, ◌≤◌, ◌==◌, Bool, List, [], ◌∷◌, ◌++◌, length, drop, Option, None, slice_get, if◌then◌else◌}

-- the values that wait, the oldest first, and how many may wait at once
pub record Queue : Type 0 where
  pub values : List ℕ
  pub capacity : ℕ

-- what holds of every queue: a value may wait, and no more values wait than may
pub record IsBounded (q : Queue) : Type 0 where
  pub capacity_above_zero : 1 ≤ q.capacity
  pub values_within_capacity : length q.values ≤ q.capacity

-- the queue in which no value waits
abbrev pub empty : ℕ → Queue
empty capacity = record { values = []; capacity = capacity }

abbrev pub is_empty : Queue → Bool
is_empty q = length q.values == 0

-- as many values wait as may
abbrev pub is_full : Queue → Bool
is_full q = length q.values == q.capacity

-- the value that has waited longest, where one waits
abbrev pub oldest : Queue → Option ℕ
oldest q = slice_get q.values 0

-- the queue once its oldest value has left; an empty queue stays as it is
abbrev pub after_pop : Queue → Queue
after_pop q = record q { values = drop 1 q.values }

-- the queue once a value has joined it as its last
abbrev pub after_push : Queue → ℕ → Queue
after_push q value = record q { values = q.values ++ value ∷ [] }

-- the value that has to leave before another may join
abbrev pub overflow_of : Queue → Option ℕ
overflow_of q = if is_full q then oldest q else None

-- the queue once another value may join
abbrev pub with_room : Queue → Queue
with_room q = if is_full q then after_pop q else q
