-- What a registry has: names, which are paths that stand for entries, and the entries by their ids.
use Rattle.std.specs.Prelude.{◌≡◌, ℕ, ◌+◌, ◌-◌, ◌^◌, Bool, false, not, ◌&&◌, ◌==◌, Option, Some, None, IsSomeAnd, List, [], ◌∷◌, ◌++◌, length, min, slice_index_or, slice_set, if◌then◌else◌}
use Rattle.std.specs.Option.{option_and_then, option_map}
use Rattle.std.specs.Map.{lookup, remove_entry}
use Rattle.std.specs.Ordering.{nat_cmp, is_eq}
use Rattle.std.specs.Cmp.Lexicographic.{slice_cmp}
use Rattle.std.specs.BTreeMap.{insert_entry}
use Rattle.cal_storage.specs.declared.entry.Entry.{Entry}
use Rattle.cal_storage.specs.declared.entry.Slot.{Slot}
use Rattle.cal_storage.specs.declared.entry.Slot.TheVariants.{Ended, Kept}
pub use Rattle.cal_storage.specs.declared.handle.Handle.{Handle}

-- the names with the ids that they stand for, in the order of the paths' bytes, and a slot for each id that was ever
-- made
pub record Contents (T : Type 0) : Type 0 where
  pub names : List (List ℕ × ℕ)
  pub slots : List (Slot T)

-- whether two paths are the same
abbrev pub is_path : List ℕ → List ℕ → Bool
is_path path other = is_eq (slice_cmp nat_cmp path other)

-- whether there is an id, and it is this one
abbrev pub is_id : Option ℕ → ℕ → Bool
is_id None id = false
is_id (Some other) id = other == id

-- a count of holders stops at the greatest number, and then never falls
abbrev pub one_more : ℕ → ℕ
one_more holders = min (holders + 1) (2 ^ 64 - 1)

abbrev pub one_less : ℕ → ℕ
one_less holders = if holders == 2 ^ 64 - 1 then holders else holders - 1

-- the handle of an entry that was found under a path
abbrev pub found_handle : List ℕ → ℕ → Handle
found_handle path id = record { id = id; path = path; is_owner = false }

module _ {T : Type 0} where
  -- the entry in a slot
  abbrev pub entry_in : Slot T → Option (Entry T)
  entry_in Ended = None
  entry_in (Kept entry) = Some entry

  -- a slot whose entry, if there is one, has changed
  abbrev pub slot_with : (Entry T → Entry T) → Slot T → Slot T
  slot_with change Ended = Ended
  slot_with change (Kept entry) = Kept (change entry)

  -- with one holder more, and with one less
  abbrev pub slot_with_holder : Slot T → Slot T
  slot_with_holder slot = slot_with (λ entry. record entry { holders = one_more entry.holders }) slot

  abbrev pub slot_with_holder_less : Slot T → Slot T
  slot_with_holder_less slot = slot_with (λ entry. record entry { holders = one_less entry.holders }) slot

  -- with another value, and with another version
  abbrev pub slot_with_value : T → Slot T → Slot T
  slot_with_value value slot = slot_with (λ entry. record entry { value = value }) slot

  abbrev pub slot_with_version : ℕ → Slot T → Slot T
  slot_with_version version slot = slot_with (λ entry. record entry { version = version }) slot

  -- an entry for which no name stands has ended where nobody holds it
  abbrev pub slot_if_used : Bool → Slot T → Slot T
  slot_if_used has_name Ended = Ended
  slot_if_used has_name (Kept entry) = if not has_name && entry.holders == 0 then Ended else Kept entry

  -- no name and no id
  abbrev pub nothing_registered : Contents T
  nothing_registered = record { names = []; slots = [] }

  -- the id that a path stands for
  abbrev pub id_at : Contents T → List ℕ → Option ℕ
  id_at contents path = lookup (is_path path) contents.names

  -- the slot and the entry of an id
  abbrev pub slot_of : Contents T → ℕ → Slot T
  slot_of contents id = slice_index_or contents.slots id Ended

  abbrev pub entry_of : Contents T → ℕ → Option (Entry T)
  entry_of contents id = entry_in (slot_of contents id)

  -- the entry for which a path stands
  abbrev pub entry_at : Contents T → List ℕ → Option (Entry T)
  entry_at contents path = option_and_then (entry_of contents) (id_at contents path)

  -- the value of an id
  abbrev pub value_of : Contents T → ℕ → Option T
  value_of contents id = option_map (λ entry. entry.value) (entry_of contents id)

  -- the value for which a path stands
  abbrev pub value_at : Contents T → List ℕ → Option T
  value_at contents path = option_map (λ entry. entry.value) (entry_at contents path)

  -- the registry has the entry of a handle
  abbrev pub Has : Contents T → Handle → Type 0
  Has contents handle = IsSomeAnd (entry_of contents handle.id) (λ entry. entry.path ≡ handle.path)

  abbrev pub with_slot : Contents T → ℕ → Slot T → Contents T
  with_slot contents id slot = record contents { slots = slice_set contents.slots id slot }

  abbrev pub without_name : Contents T → List ℕ → Contents T
  without_name contents path = record contents { names = remove_entry (is_path path) contents.names }

  -- a path stands for a new entry, which has one holder
  abbrev pub after_creation : Contents T → List ℕ → T → ℕ → Contents T
  after_creation contents path value version = record {
    names = insert_entry (slice_cmp nat_cmp) contents.names path (length contents.slots);
    slots = contents.slots ++ Kept (record { path = path; value = value; version = version; holders = 1 }) ∷ [];
  }

  -- the handle of the entry that is created next
  abbrev pub new_handle : Contents T → List ℕ → Bool → Handle
  new_handle contents path is_owner = record { id = length contents.slots; path = path; is_owner = is_owner }

  -- an entry has one holder more
  abbrev pub after_opening : Contents T → ℕ → Contents T
  after_opening contents id = with_slot contents id (slot_with_holder (slot_of contents id))

  -- a path doesn't stand for its entry any more, which stays while somebody holds it
  abbrev pub without_found_name : Contents T → List ℕ → Option ℕ → Contents T
  without_found_name contents path None = contents
  without_found_name contents path (Some id) =
      with_slot (without_name contents path) id (slot_if_used false (slot_of contents id))

  abbrev pub after_removal : Contents T → List ℕ → Contents T
  after_removal contents path = without_found_name contents path (id_at contents path)

  -- whether the name of a handle still stands for the handle's id
  abbrev pub is_named : Contents T → Handle → Bool
  is_named contents handle = is_id (id_at contents handle.path) handle.id

  -- without the name of a handle, where this still stands for the handle's id
  abbrev pub without_own_name : Contents T → Handle → Contents T
  without_own_name contents handle = if is_named contents handle then without_name contents handle.path else contents

  -- an entry has one holder less. Where the handle is the owner its name goes; the entry stays while a holder or a name
  -- is left.
  abbrev pub after_close : Contents T → Handle → Contents T
  after_close contents handle =
      let stays_named : Bool = is_named contents handle && not handle.is_owner in
      with_slot (if handle.is_owner then without_own_name contents handle else contents) handle.id
      (slot_if_used stays_named (slot_with_holder_less (slot_of contents handle.id)))

  -- an entry that was being made has this value, and is finished with this version
  abbrev pub after_finish : Contents T → ℕ → T → ℕ → Contents T
  after_finish contents id value version =
      with_slot contents id (slot_with_version version (slot_with_value value (slot_of contents id)))

  -- an entry has ended at once, and so has its name, where this still stands for it
  abbrev pub after_withdrawal : Contents T → Handle → Contents T
  after_withdrawal contents handle = with_slot (without_own_name contents handle) handle.id Ended

  -- an entry has another value
  abbrev pub with_value : Contents T → ℕ → T → Contents T
  with_value contents id value = with_slot contents id (slot_with_value value (slot_of contents id))

  -- the entry for which a path stands has another version
  abbrev pub with_version_of : Contents T → ℕ → Option ℕ → Contents T
  with_version_of contents version None = contents
  with_version_of contents version (Some id) = with_slot contents id (slot_with_version version (slot_of contents id))

  abbrev pub with_version : Contents T → List ℕ → ℕ → Contents T
  with_version contents path version = with_version_of contents version (id_at contents path)
