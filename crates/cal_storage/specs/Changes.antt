-- The changes that calls make to a registry, and runs of them.
use Rattle.std.specs.Prelude.{◌≡◌, ◌≢◌, ℕ, ◌<◌, Some, None, IsSomeAnd, List, [], ◌∷◌, ⊤}
use Rattle.cal_names.specs.FilePath.{IsFilePath}
use Rattle.cal_storage.specs.Contents.{Contents, Handle, id_at, entry_of, Has, after_creation, after_opening, after_removal, after_close, after_finish, after_withdrawal, with_value, with_version}

-- what one call changes
pub data Change (T : Type 0) : Type 0 where
  creates : List ℕ → T → ℕ → Change T
  opens : ℕ → Change T
  removes : List ℕ → Change T
  closes : Handle → Change T
  finishes : ℕ → T → ℕ → Change T
  withdraws : Handle → Change T
  sets_value : ℕ → T → Change T
  sets_version : List ℕ → ℕ → Change T

module _ {T : Type 0} where
  -- what a registry has after a change
  abbrev pub after : Contents T → Change T → Contents T
  after contents (creates path value version) = after_creation contents path value version
  after contents (opens id) = after_opening contents id
  after contents (removes path) = after_removal contents path
  after contents (closes handle) = after_close contents handle
  after contents (finishes id value version) = after_finish contents id value version
  after contents (withdraws handle) = after_withdrawal contents handle
  after contents (sets_value id value) = with_value contents id value
  after contents (sets_version path version) = with_version contents path version

  -- an entry is made under a file path that stands for nothing, and a handle that closes or withdraws has its entry
  abbrev pub IsAllowed : Contents T → Change T → Type 0
  IsAllowed contents (creates path value version) = IsFilePath path × (id_at contents path ≡ None)
  IsAllowed contents (opens id) = ⊤
  IsAllowed contents (removes path) = ⊤
  IsAllowed contents (closes handle) = Has contents handle
  IsAllowed contents (finishes id value version) = ⊤
  IsAllowed contents (withdraws handle) = Has contents handle
  IsAllowed contents (sets_value id value) = ⊤
  IsAllowed contents (sets_version path version) = ⊤

  -- what a registry has after a run of changes, the first of them first
  abbrev pub after_all : Contents T → List (Change T) → Contents T
  after_all contents [] = contents
  after_all contents (change ∷ changes) = after_all (after contents change) changes

  -- each change is allowed where it comes
  abbrev pub IsRun : Contents T → List (Change T) → Type 0
  IsRun contents [] = ⊤
  IsRun contents (change ∷ changes) = IsAllowed contents change × IsRun (after contents change) changes

  -- somebody holds the entry of an id, and more than one holds it
  abbrev pub IsHeld : Contents T → ℕ → Type 0
  IsHeld contents id = IsSomeAnd (entry_of contents id) (λ entry. 0 < entry.holders)

  abbrev pub IsShared : Contents T → ℕ → Type 0
  IsShared contents id = IsSomeAnd (entry_of contents id) (λ entry. 1 < entry.holders)

  -- A change leaves the entry of an id: where its name is removed somebody holds it, where a handle on it closes
  -- another is
  -- left, and nobody withdraws it.
  abbrev pub Spares : Contents T → Change T → ℕ → Type 0
  Spares contents (creates path value version) id = ⊤
  Spares contents (opens other) id = ⊤
  Spares contents (removes path) id = id_at contents path ≡ Some id → IsHeld contents id
  Spares contents (closes handle) id = handle.id ≡ id → IsShared contents id
  Spares contents (finishes other value version) id = ⊤
  Spares contents (withdraws handle) id = handle.id ≢ id
  Spares contents (sets_value other value) id = ⊤
  Spares contents (sets_version path version) id = ⊤
