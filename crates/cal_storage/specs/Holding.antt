-- What is said of the entry of a handle that is open.
use Rattle.std.specs.Prelude.{◌≡◌, ◌≢◌, ℕ, ◌<◌, ◌≤◌, ◌+◌, ◌^◌, Some, IsSomeAnd}
use Rattle.cal_storage.specs.Contents.{Contents, Handle, Has, id_at, entry_of}

module _ {T : Type 0} where
  -- the entry of an id counts that many holders at least
  abbrev pub HasHolders : Contents T → ℕ → ℕ → Type 0
  HasHolders contents count id = IsSomeAnd (entry_of contents id) (λ entry. count ≤ entry.holders)

  -- the registry has the entry of a handle, which counts that many holders at least
  abbrev pub Holds : Contents T → ℕ → Handle → Type 0
  Holds contents count handle = Has contents handle × HasHolders contents count handle.id

  -- a handle's path stands for its id
  abbrev pub IsNamed : Contents T → Handle → Type 0
  IsNamed contents handle = id_at contents handle.path ≡ Some handle.id

  -- every open handle still has its entry, and no holder is lost
  abbrev pub KeepsHandles : Contents T → Contents T → Type 0
  KeepsHandles old new =
      (count : ℕ) (handle : Handle) → 0 < count → count < 2 ^ 64 → Holds old count handle → Holds new count handle

  -- every open handle on another entry still has it, and no holder of it is lost
  abbrev pub KeepsOtherHandles : Contents T → Contents T → ℕ → Type 0
  KeepsOtherHandles old new id =
      (count : ℕ) (handle : Handle) → handle.id ≢ id → Holds old count handle → Holds new count handle

  -- every other open handle on this entry still has it, with one holder less
  abbrev pub LeavesSharers : Contents T → Contents T → ℕ → Type 0
  LeavesSharers old new id =
      (count : ℕ) (handle : Handle) → handle.id ≡ id → 0 < count → Holds old (count + 1) handle → Holds new count handle

  -- a new handle is on the entry of each handle whose path stands for it, which has one holder more
  abbrev pub JoinsHandles : Contents T → Contents T → Handle → Type 0
  JoinsHandles old new handle =
      (other : Handle) → Holds old 1 other → IsNamed old other → other.path ≡ handle.path →
      Holds new 2 other × Holds new 2 handle
