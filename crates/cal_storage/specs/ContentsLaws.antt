-- What each change to a registry does and what it leaves, in the words of names and entries.
use Rattle.std.specs.Prelude.{◌≡◌, ◌≢◌, ℕ, ◌<◌, ◌≤◌, ◌⊎◌, false, Option, Some, None, IsSomeAnd, IsTrue, List, length, ◌==◌, if◌then◌else◌}
use Rattle.std.specs.Option.{option_map}
use Rattle.cal_storage.specs.declared.entry.Entry.{Entry}
use Rattle.cal_storage.specs.Contents.{Contents, Handle, one_more, one_less, id_at, entry_of}

-- Every other id has the entry that it had, and every other path stands for what it stood for.
pub record LeavesOthers {T : Type 0} (old new : Contents T) (id : ℕ) (path : List ℕ) : Type 0 where
  pub entries : (other : ℕ) → other ≢ id → entry_of new other ≡ entry_of old other
  pub names : (other : List ℕ) → other ≢ path → id_at new other ≡ id_at old other

-- No id is used again. As many were made at least; where the entry of one had ended it stays ended, and where one has
-- an entry
-- it had one before, made under the same path.
pub record IsLater {T : Type 0} (old new : Contents T) : Type 0 where
  pub made : length old.slots ≤ length new.slots
  pub ended : (id : ℕ) → id < length old.slots → entry_of old id ≡ None → entry_of new id ≡ None
  pub same : (id : ℕ) (entry : Entry T) → id < length old.slots → entry_of new id ≡ Some entry →
      IsSomeAnd (entry_of old id) (λ before. before.path ≡ entry.path)

module _ {T : Type 0} where
  -- the entry with one holder more, and with one less
  abbrev pub one_holder_more : Entry T → Entry T
  one_holder_more entry = record entry { holders = one_more entry.holders }

  abbrev pub one_holder_less : Entry T → Entry T
  one_holder_less entry = record entry { holders = one_less entry.holders }

  -- the entry where somebody holds it
  abbrev pub if_held : Option (Entry T) → Option (Entry T)
  if_held None = None
  if_held (Some entry) = if entry.holders == 0 then None else Some entry

-- A path stands for a new id, which no call has made before. Its entry has one holder, and all others are left.
pub record MakesEntry {T : Type 0} (old new : Contents T) (path : List ℕ) (value : T) (version : ℕ) : Type 0 where
  pub name : id_at new path ≡ Some (length old.slots)
  pub entry : entry_of new (length old.slots) ≡
      Some (record { path = path; value = value; version = version; holders = 1 })
  pub others : LeavesOthers old new (length old.slots) path

-- The names stay, and the entry of an id changes, if there is one.
pub record ChangesEntry {T : Type 0} (old new : Contents T) (id : ℕ) (change : Entry T → Entry T) : Type 0 where
  pub names : new.names ≡ old.names
  pub entry : entry_of new id ≡ option_map change (entry_of old id)
  pub others : (other : ℕ) → other ≢ id → entry_of new other ≡ entry_of old other

-- The names stay, and the entry for which a path stands changes, if there is one.
pub record ChangesNamedEntry {T : Type 0} (old new : Contents T) (path : List ℕ) (change : Entry T → Entry T) : Type
    0 where
  pub names : new.names ≡ old.names
  pub entry : (id : ℕ) → id_at old path ≡ Some id → entry_of new id ≡ option_map change (entry_of old id)
  pub others : (other : ℕ) → id_at old path ≢ Some other → entry_of new other ≡ entry_of old other

-- A path stands for nothing. The entry for which it stood stays as it is where somebody holds it, and else has ended.
pub record TakesName {T : Type 0} (old new : Contents T) (path : List ℕ) : Type 0 where
  pub name : id_at new path ≡ None
  pub other_names : (other : List ℕ) → other ≢ path → id_at new other ≡ id_at old other
  pub entry : (id : ℕ) → id_at old path ≡ Some id → entry_of new id ≡ if_held (entry_of old id)
  pub other_entries : (other : ℕ) → id_at old path ≢ Some other → entry_of new other ≡ entry_of old other

-- The name of a handle is gone exactly where the handle is its owner and it stood for the handle's id. A name that
-- stands for
-- another's id stays.
pub record GivesUpName {T : Type 0} (old new : Contents T) (handle : Handle) : Type 0 where
  pub gone : IsTrue handle.is_owner → id_at old handle.path ≡ Some handle.id → id_at new handle.path ≡ None
  pub stays : (handle.is_owner ≡ false) ⊎ (id_at old handle.path ≢ Some handle.id) →
      id_at new handle.path ≡ id_at old handle.path

-- A handle's entry has one holder less. It stays where a holder or its name is left, and else has ended.
pub record LetsGo {T : Type 0} (old new : Contents T) (handle : Handle) (entry : Entry T) : Type 0 where
  pub name : GivesUpName old new handle
  pub stays : (0 < one_less entry.holders) ⊎ (id_at new handle.path ≡ Some handle.id) →
      entry_of new handle.id ≡ Some (one_holder_less entry)
  pub ends : one_less entry.holders ≡ 0 → id_at new handle.path ≢ Some handle.id → entry_of new handle.id ≡ None
  pub others : LeavesOthers old new handle.id handle.path

-- A handle's entry has ended, and its name is gone where it stood for the entry.
pub record Withdraws {T : Type 0} (old new : Contents T) (handle : Handle) : Type 0 where
  pub name : id_at old handle.path ≡ Some handle.id → id_at new handle.path ≡ None
  pub other_name : id_at old handle.path ≢ Some handle.id → id_at new handle.path ≡ id_at old handle.path
  pub entry : entry_of new handle.id ≡ None
  pub others : LeavesOthers old new handle.id handle.path

-- The names are the same, each id has the entry that it had, and no fewer ids were made. So a registry differs from the
-- one
-- before in ids that were used and have ended.
pub record KeepsEntries {T : Type 0} (old new : Contents T) : Type 0 where
  pub names : new.names ≡ old.names
  pub entries : (id : ℕ) → entry_of new id ≡ entry_of old id
  pub made : length old.slots ≤ length new.slots
