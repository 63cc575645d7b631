-- The handles that are open on a registry, over runs of changes. Each is told by the id of its entry.
use Rattle.std.specs.Prelude.{ℕ, ◌-◌, ◌^◌, ◌<◌, ◌≤◌, min, not, ◌==◌, IsSome, IsSomeAnd, List, [], ◌∷◌, length, ⊤, if◌then◌else◌}
use Rattle.std.specs.List.{count_by, filter}
use Rattle.cal_storage.specs.Changes.{Change, creates, opens, removes, closes, finishes, withdraws, sets_value, sets_version, after, IsAllowed}
use Rattle.cal_storage.specs.Contents.{Contents, entry_of}

-- how many of the open handles are on an id
abbrev pub open_on : List ℕ → ℕ → ℕ
open_on open_handles id = count_by (λ other. other == id) open_handles

-- the open handles after one of those on an id has closed
abbrev pub with_one_closed : List ℕ → ℕ → List ℕ
with_one_closed [] id = []
with_one_closed (other ∷ others) id = if other == id then others else other ∷ with_one_closed others id

-- Each open handle has its entry, which counts a holder for each handle on it at least, up to the greatest number.
pub record ServesHandles {T : Type 0} (contents : Contents T) (open_handles : List ℕ) : Type 0 where
  pub entries : (id : ℕ) → 0 < open_on open_handles id → IsSomeAnd (entry_of contents id)
      (λ entry. min (open_on open_handles id) (2 ^ 64 - 1) ≤ entry.holders)

module _ {T : Type 0} where
  -- who makes or opens an entry has a handle on it, a close takes one, and after a withdrawal nobody has one
  abbrev pub open_after : Contents T → List ℕ → Change T → List ℕ
  open_after contents open_handles (creates path value version) = length contents.slots ∷ open_handles
  open_after contents open_handles (opens id) = id ∷ open_handles
  open_after contents open_handles (removes path) = open_handles
  open_after contents open_handles (closes handle) = with_one_closed open_handles handle.id
  open_after contents open_handles (finishes id value version) = open_handles
  open_after contents open_handles (withdraws handle) = filter (λ other. not (other == handle.id)) open_handles
  open_after contents open_handles (sets_value id value) = open_handles
  open_after contents open_handles (sets_version path version) = open_handles

  abbrev pub open_after_all : Contents T → List ℕ → List (Change T) → List ℕ
  open_after_all contents open_handles [] = open_handles
  open_after_all contents open_handles (change ∷ changes) =
      open_after_all (after contents change) (open_after contents open_handles change) changes

  -- an entry that is opened is there, and a handle that closes or withdraws is open
  abbrev pub HasHandle : Contents T → List ℕ → Change T → Type 0
  HasHandle contents open_handles (creates path value version) = ⊤
  HasHandle contents open_handles (opens id) = IsSome (entry_of contents id)
  HasHandle contents open_handles (removes path) = ⊤
  HasHandle contents open_handles (closes handle) = 0 < open_on open_handles handle.id
  HasHandle contents open_handles (finishes id value version) = ⊤
  HasHandle contents open_handles (withdraws handle) = 0 < open_on open_handles handle.id
  HasHandle contents open_handles (sets_value id value) = ⊤
  HasHandle contents open_handles (sets_version path version) = ⊤

  -- each change is allowed where it comes, and is made by an open handle where it takes one
  abbrev pub IsRunOfHandles : Contents T → List ℕ → List (Change T) → Type 0
  IsRunOfHandles contents open_handles [] = ⊤
  IsRunOfHandles contents open_handles (change ∷ changes) = IsAllowed contents change × HasHandle contents open_handles
      change × IsRunOfHandles (after contents change) (open_after contents open_handles change) changes
