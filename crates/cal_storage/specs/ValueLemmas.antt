-- What crates above need of an entry whose value is written, of another's close, and of an entry that its owner makes
-- and
-- closes again.
use Rattle.std.proofs.Common.{◌≡◌, ◌≢◌, ℕ, zero, suc, ◌<◌, ◌≤◌, ◌+◌, Bool, true, false, not, ◌&&◌, List, [], ◌∷◌, ◌++◌, length, Option, Some, None, IsSomeAnd, if◌then◌else◌, slice_set, option_map, refl, sym, ap, subst, ◌∙◌, inl, inr, arith}
use Rattle.std.proofs.lemmas.Bool.{cases_eq, cases_lt}
use Rattle.std.proofs.lemmas.List.{get_or_append_left, get_or_past, get_or_push, length_push, set-get_or}
use Rattle.std.proofs.lemmas.Option.{same_Some}
use Rattle.cal_storage.specs.declared.entry.Entry.{Entry}
use Rattle.cal_storage.specs.declared.entry.Slot.{Slot}
use Rattle.cal_storage.specs.declared.entry.Slot.TheVariants.{Ended, Kept}
use Rattle.cal_storage.specs.Contents.{Contents, Handle, Has, entry_in, slot_with_value, slot_with_holder_less, slot_if_used, id_at, slot_of, entry_of, value_of, with_slot, without_name, without_own_name, is_named, with_value, after_creation, after_close, new_handle}
use Rattle.cal_storage.specs.ContentsLaws.{KeepsEntries}
use Rattle.cal_storage.specs.NameLemmas.{remove-insert}
use Rattle.cal_storage.specs.SoundnessLemmas.{is_id-same, slot_of-with_slot-same, slot_of-with_slot-other, id_at-after_creation-same}
use Rattle.cal_storage.specs.EntryLemmas.{with_value-ChangesEntry}
use Rattle.cal_storage.specs.HandleLemmas.{Has-ChangesEntry}
use Rattle.cal_storage.specs.Holding.{KeepsHandles}

-- an element that is written twice
set_twice : {X : Type 0} (xs : List X) (index : ℕ) (first second : X) →
    slice_set (slice_set xs index first) index second ≡ slice_set xs index second
set_twice [] index first second = refl
set_twice (x ∷ xs) zero first second = refl
set_twice (x ∷ xs) (suc index) first second = ap (λ rest. x ∷ rest) (set_twice xs index first second)

module _ {T : Type 0} where
  -- ---- a value that is written

  module _ (contents : Contents T) (id : ℕ) (value : T) where
    pub entry_of-with_value-same :
        entry_of (with_value contents id value) id
        ≡ option_map (λ (entry : Entry T). record entry { value = value }) (entry_of contents id)
    entry_of-with_value-same = let changes = with_value-ChangesEntry contents id value in changes.entry

    pub entry_of-with_value-other : (other : ℕ) → other ≢ id →
        entry_of (with_value contents id value) other ≡ entry_of contents other
    entry_of-with_value-other = let changes = with_value-ChangesEntry contents id value in changes.others

    written : (at : Option (Entry T)) (P : Entry T → Type 0) → IsSomeAnd at P →
        option_map (λ (entry : Entry T). entry.value)
        (option_map (λ (entry : Entry T). record entry { value = value }) at)
        ≡ Some value
    written None P there = absurd there
    written (Some entry) P there = refl

    pub value_of-with_value-same : (handle : Handle) → handle.id ≡ id → Has contents handle →
        value_of (with_value contents id value) id ≡ Some value
    value_of-with_value-same handle same has =
        ap (option_map (λ (entry : Entry T). entry.value)) entry_of-with_value-same
        ∙ written (entry_of contents id) (λ entry. entry.path ≡ handle.path)
        (subst (λ i. IsSomeAnd (entry_of contents i) (λ entry. entry.path ≡ handle.path)) same has)

    pub value_of-with_value-other : (other : ℕ) → other ≢ id →
        value_of (with_value contents id value) other ≡ value_of contents other
    value_of-with_value-other other apart =
        ap (option_map (λ (entry : Entry T). entry.value)) (entry_of-with_value-other other apart)

    pub Has-with_value : (handle : Handle) → Has contents handle → Has (with_value contents id value) handle
    Has-with_value handle has =
        Has-ChangesEntry contents (with_value contents id value) handle has id
        (λ entry. record entry { value = value }) (λ entry. refl) (with_value-ChangesEntry contents id value)

    present : (slot : Slot T) → option_map (λ (entry : Entry T). entry.value) (entry_in slot) ≡ Some value →
        slot_with_value value slot ≡ slot
    present Ended is = absurd (cc)
    present (Kept entry) is =
        ap (λ v. Kept (record entry { value = v })) (sym (same_Some entry.value value is))

    -- the value that is there, written again, changes nothing
    pub with_value-present : value_of contents id ≡ Some value → with_value contents id value ≡ contents
    with_value-present is =
        ap (λ slot. with_slot contents id slot) (present (slot_of contents id) is)
        ∙ ap (λ slots. record contents { slots = slots }) (set-get_or contents.slots id Ended)

  value_twice : (first second : T) (slot : Slot T) →
      slot_with_value second (slot_with_value first slot) ≡ slot_with_value second slot
  value_twice first second Ended = refl
  value_twice first second (Kept entry) = refl

  -- of two values that are written the second stays
  pub with_value-twice : (contents : Contents T) (id : ℕ) (first second : T) →
      with_value (with_value contents id first) id second ≡ with_value contents id second
  with_value-twice contents id first second =
      let slot : Slot T = slot_with_value first (slot_of contents id) in
      ap (λ s. with_slot (with_slot contents id slot) id (slot_with_value second s))
      (slot_of-with_slot-same contents id slot (λ none. ap (slot_with_value first) none))
      ∙ ap (λ s. with_slot (with_slot contents id slot) id s) (value_twice first second (slot_of contents id))
      ∙ ap (λ slots. record contents { slots = slots })
      (set_twice contents.slots id slot (slot_with_value second (slot_of contents id)))

  -- ---- a handle that closes

  same_slots : (contents : Contents T) (path : List ℕ) (owner named : Bool) →
      (if owner then (if named then without_name contents path else contents) else contents).slots ≡ contents.slots
  same_slots contents path true true = refl
  same_slots contents path true false = refl
  same_slots contents path false named = refl

  -- leaves the slot of each other id
  pub slot_of-after_close-other : (contents : Contents T) (handle : Handle) (other : ℕ) → other ≢ handle.id →
      slot_of (after_close contents handle) other ≡ slot_of contents other
  slot_of-after_close-other contents handle other apart =
      let left : Contents T = if handle.is_owner then without_own_name contents handle else contents in
      slot_of-with_slot-other left handle.id
      (slot_if_used (is_named contents handle && not handle.is_owner)
      (slot_with_holder_less (slot_of contents handle.id)))
      other apart
      ∙ ap (λ slots. slot_of (record contents { slots = slots }) other)
      (same_slots contents handle.path handle.is_owner (is_named contents handle))

  pub entry_of-after_close-other : (contents : Contents T) (handle : Handle) (other : ℕ) → other ≢ handle.id →
      entry_of (after_close contents handle) other ≡ entry_of contents other
  entry_of-after_close-other contents handle other apart =
      ap entry_in (slot_of-after_close-other contents handle other apart)

  -- ---- an entry that its owner makes and closes again

  module _ (contents : Contents T) (path : List ℕ) (value : T) (version : ℕ) (free : id_at contents path ≡ None) where
    abbrev made_first : Contents T
    made_first = after_creation contents path value version

    abbrev owner : Handle
    owner = new_handle contents path true

    ended_slots : List (Slot T)
    ended_slots = contents.slots ++ Ended ∷ []

    closed_again : after_close made_first owner ≡
        record { names = contents.names; slots = contents.slots ++ Ended ∷ [] }
    closed_again =
        let id : ℕ = length contents.slots in
        let entry : Entry T = record { path = path; value = value; version = version; holders = 1 } in
        let named : is_named made_first owner ≡ true =
        is_id-same (id_at made_first path) id (id_at-after_creation-same contents path value version) in
        let here : slot_of made_first id ≡ Kept entry = get_or_push contents.slots (Kept entry) Ended id refl in
        ap (λ b. with_slot (if b then without_name made_first path else made_first) id
        (slot_if_used (b && not true) (slot_with_holder_less (slot_of made_first id)))) named
        ∙ ap (λ slot. with_slot (without_name made_first path) id (slot_if_used false (slot_with_holder_less slot)))
        here
        ∙ ap (λ names. record {
          names = names;
          slots = slice_set (contents.slots ++ Kept entry ∷ []) id Ended;
        }) (remove-insert path id contents.names free)
        ∙ ap (λ slots. record { names = contents.names; slots = slots }) (last_ended contents.slots entry)
      where
        last_ended : (slots : List (Slot T)) (entry : Entry T) →
            slice_set (slots ++ Kept entry ∷ []) (length slots) Ended ≡ slots ++ Ended ∷ []
        last_ended [] entry = refl
        last_ended (slot ∷ slots) entry = ap (λ rest. slot ∷ rest) (last_ended slots entry)

    ended_last : (slots : List (Slot T)) (id : ℕ) →
        slot_of (record { names = contents.names; slots = slots ++ Ended ∷ [] }) id
        ≡ slot_of (record { names = contents.names; slots = slots }) id
    ended_last [] zero = refl
    ended_last [] (suc id) = refl
    ended_last (slot ∷ slots) zero = refl
    ended_last (slot ∷ slots) (suc id) = ended_last slots id

    -- leaves all names and entries: one more id was used, and has ended
    pub after_close-after_creation : KeepsEntries contents (after_close made_first owner)
    after_close-after_creation =
        let ended : Slot T = Ended in
        subst (KeepsEntries contents) (sym closed_again) (record {
          names = refl;
          entries = λ id. ap entry_in (ended_last contents.slots id);
          made = omega (arith, length_push contents.slots ended);
        })

  -- where each id has the entry that it had, each open handle has its entry
  pub KeepsHandles-KeepsEntries : (old new : Contents T) → KeepsEntries old new → KeepsHandles old new
  KeepsHandles-KeepsEntries old new keeps count handle some small holds = (
    subst (λ o. IsSomeAnd o (λ (entry : Entry T). entry.path ≡ handle.path)) (sym (keeps.entries handle.id)) holds.0,
    subst (λ o. IsSomeAnd o (λ (entry : Entry T). count ≤ entry.holders)) (sym (keeps.entries handle.id)) holds.1,
  )
