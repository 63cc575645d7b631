-- Every change to a sound registry leaves it sound.
pub use Rattle.cal_storage.specs.NameLemmas.{lookup-insert_entry, lookup-insert_entry-same, lookup-insert_entry-other, remove-insert, lookup-remove_entry-at, lookup-remove_entry-same, lookup-remove_entry-other, keys-remove_entry, list_any-keys, filter-keeps_all, list_any-none}
use Rattle.std.proofs.Common.{◌≡◌, ℕ, ◌<◌, Bool, true, false, not, ◌&&◌, ◌==◌, ◌⊎◌, ◌↔◌, List, [], ◌∷◌, ◌++◌, length, get_or, Option, Some, None, IsSomeAnd, if◌then◌else◌, refl, sym, ap, subst, ◌∙◌, inl, inr, true≢false, arith, eqb-true, eq-eqb, get_or-set_same, get_or-set_other}
use Rattle.std.proofs.lemmas.Bool.{cases_Bool, cases_eq, cases_lt, cond-true, cond-false, false≢true}
use Rattle.std.proofs.lemmas.List.{get_or_append_left, get_or_past, get_or_push, length_push, set_past}
use Rattle.std.proofs.lemmas.Option.{none-some, same_Some}
use Rattle.std.specs.Cmp.Lexicographic.{slice_cmp}
use Rattle.std.specs.List.{AllByRecursion}
use Rattle.std.specs.List.Sorted.{IsStrictlySortedBy}
use Rattle.std.specs.Map.{keys_of}
use Rattle.std.specs.Ordering.{nat_cmp}
use Rattle.cal_names.specs.FilePath.{IsFilePath}
use Rattle.cal_storage.specs.declared.entry.Entry.{Entry}
use Rattle.cal_storage.specs.declared.entry.Slot.{Slot}
use Rattle.cal_storage.specs.declared.entry.Slot.TheVariants.{Ended, Kept}
use Rattle.cal_storage.specs.Contents.{Contents, Handle, is_path, is_id, one_more, one_less, entry_in, slot_with, slot_with_holder, slot_with_holder_less, slot_with_value, slot_with_version, slot_if_used, nothing_registered, id_at, slot_of, entry_of, Has, with_slot, without_name, after_creation, after_opening, without_found_name, after_removal, is_named, after_close, after_finish, after_withdrawal, with_value, with_version_of, with_version}
use Rattle.cal_storage.specs.Soundness.{IsSound}
use Rattle.cal_storage.specs.NameLemmas.{cases_path, is_path-same, all_keys-insert_entry, all_keys-remove_entry, sorted-insert_entry, sorted-remove_entry}

-- ---- ids

pub is_id-true : (at : Option ℕ) (id : ℕ) → is_id at id ≡ true → at ≡ Some id
is_id-true None id h = absurd (false≢true h)
is_id-true (Some other) id h = ap Some (eqb-true other id h)

pub is_id-same : (at : Option ℕ) (id : ℕ) → at ≡ Some id → is_id at id ≡ true
is_id-same at id h = ap (λ o. is_id o id) h ∙ eq-eqb id id refl

still_held : (has_name : Bool) (holders : ℕ) → (not has_name && holders == 0) ≡ false →
    (0 < holders) ⊎ (has_name ≡ true)
still_held true holders h = inr refl
still_held false holders h =
    elim (cases_eq holders 0)
    [ inl none ↦ absurd (true≢false (sym (eq-eqb holders 0 none) ∙ h)) | inr some ↦ inl (omega arith) ]

one_more-positive : (holders : ℕ) → 0 < one_more holders
one_more-positive holders = omega arith

module _ {T : Type 0} where
  -- ---- what a change does to a slot

  module _ (change : Entry T → Entry T) (keeps_path : (entry : Entry T) → (change entry).path ≡ entry.path) where
    pub slot_with-named : (slot : Slot T) (path : List ℕ) → IsSomeAnd (entry_in slot) (λ entry. entry.path ≡ path) →
        IsSomeAnd (entry_in (slot_with change slot)) (λ entry. entry.path ≡ path)
    slot_with-named Ended path h = h
    slot_with-named (Kept entry) path h = keeps_path entry ∙ h

    pub slot_with-slot_with_holder : (keeps_holders : (entry : Entry T) → 0 < entry.holders →
        0 < (change entry).holders) (names : List ℕ → Type 0) (slot : Slot T)
        → ((entry : Entry T) → entry_in slot ≡ Some entry → (0 < entry.holders) ⊎ names entry.path)
        → (entry : Entry T) → entry_in (slot_with change slot) ≡ Some entry → (0 < entry.holders) ⊎ names entry.path
    slot_with-slot_with_holder keeps_holders names Ended h entry is = absurd (none-some entry is)
    slot_with-slot_with_holder keeps_holders names (Kept old) h entry is =
        let same : change old ≡ entry = same_Some (change old) entry is in
        subst (λ (e : Entry T). (0 < e.holders) ⊎ names e.path) same
        (elim (h old refl) [
          | inl holders ↦ inl (keeps_holders old holders)
          | inr named ↦ inr (subst names (sym (keeps_path old)) named)
        ])

  pub slot_if_used-named : (slot : Slot T) (path : List ℕ) → IsSomeAnd (entry_in slot) (λ entry. entry.path ≡ path) →
      IsSomeAnd (entry_in (slot_if_used true slot)) (λ entry. entry.path ≡ path)
  slot_if_used-named Ended path h = h
  slot_if_used-named (Kept entry) path h = h

  -- what is left of a slot is held, or has its name
  pub slot_if_used-slot_with_holder : (has_name : Bool) (slot : Slot T) (entry : Entry T) →
      entry_in (slot_if_used has_name slot) ≡ Some entry →
      ((0 < entry.holders) ⊎ (has_name ≡ true)) × (entry_in slot ≡ Some entry)
  slot_if_used-slot_with_holder has_name Ended entry is = absurd (none-some entry is)
  slot_if_used-slot_with_holder has_name (Kept old) entry is =
      elim (cases_Bool (not has_name && old.holders == 0)) [
        | inl ends ↦ absurd (none-some entry (sym (ap entry_in (cond-true _ Ended (Kept old) ends)) ∙ is))
        | inr stays ↦
            let same : old ≡ entry =
            same_Some old entry (sym (ap entry_in (cond-false _ Ended (Kept old) stays)) ∙ is) in
            subst (λ (e : Entry T). ((0 < e.holders) ⊎ (has_name ≡ true)) × (Some old ≡ Some e)) same
            (still_held has_name old.holders stays, refl)
      ]

  -- ---- a slot after a slot is set

  module _ (contents : Contents T) (id : ℕ) (slot : Slot T) where
    pub slot_of-with_slot-other : (other : ℕ) → (other ≡ id → ⊥) →
        slot_of (with_slot contents id slot) other ≡ slot_of contents other
    slot_of-with_slot-other other apart = get_or-set_other contents.slots id other slot Ended apart

    -- an id that was never made has no slot
    -- an id that was never made has no slot
    pub slot_of-with_slot-same : (slot_of contents id ≡ Ended → slot ≡ Ended) →
        slot_of (with_slot contents id slot) id ≡ slot
    slot_of-with_slot-same none =
        elim (cases_lt id (length contents.slots)) [
          | inl within ↦ get_or-set_same contents.slots id slot Ended within
          | inr past ↦
              ap (λ l. get_or l id Ended) (set_past contents.slots id slot past)
              ∙ get_or_past contents.slots id Ended past
              ∙ sym (none (get_or_past contents.slots id Ended past))
        ]

    pub entry_of-with_slot-other : (other : ℕ) → (other ≡ id → ⊥) →
        entry_of (with_slot contents id slot) other ≡ entry_of contents other
    entry_of-with_slot-other other apart = ap entry_in (slot_of-with_slot-other other apart)

    pub entry_of-with_slot-same : (slot_of contents id ≡ Ended → slot ≡ Ended) →
        entry_of (with_slot contents id slot) id ≡ entry_in slot
    entry_of-with_slot-same none = ap entry_in (slot_of-with_slot-same none)

  -- ---- what a new entry leaves

  module _ (contents : Contents T) where
    pub id_at-after_creation-same : (path : List ℕ) (value : T) (version : ℕ) →
        id_at (after_creation contents path value version) path ≡ Some (length contents.slots)
    id_at-after_creation-same path value version = lookup-insert_entry-same path (length contents.slots) contents.names

    pub id_at-after_creation-other : (path : List ℕ) (value : T) (version : ℕ) (other : List ℕ) →
        is_path path other ≡ false → id_at (after_creation contents path value version) other ≡ id_at contents other
    id_at-after_creation-other path value version other apart = lookup-insert_entry-other path (length contents.slots)
        contents.names other apart

    pub slot_of-after_creation-other : (path : List ℕ) (value : T) (version other : ℕ) →
        (other ≡ length contents.slots → ⊥) →
        slot_of (after_creation contents path value version) other ≡ slot_of contents other
    slot_of-after_creation-other path value version other apart =
        let entry : Slot T = Kept (record { path = path; value = value; version = version; holders = 1 }) in
        elim (cases_lt other (length contents.slots)) [
          | inl within ↦ get_or_append_left contents.slots (entry ∷ []) Ended other within
          | inr past ↦
              get_or_past (contents.slots ++ entry ∷ []) other Ended (omega (arith, length_push contents.slots entry))
              ∙ sym (get_or_past contents.slots other Ended past)
        ]

    pub slot_of-after_creation-same : (path : List ℕ) (value : T) (version : ℕ) →
        slot_of (after_creation contents path value version) (length contents.slots) ≡
        Kept (record { path = path; value = value; version = version; holders = 1 })
    slot_of-after_creation-same path value version =
        get_or_push contents.slots (Kept (record { path = path; value = value; version = version; holders = 1 })) Ended
        (length contents.slots) refl

  -- ---- a registry that differs from a sound one at one id

  module _ {old : Contents T} (sound : IsSound old) (new : Contents T) (id : ℕ) where
    pub changed_at-IsSound : IsStrictlySortedBy (slice_cmp nat_cmp) (keys_of new.names) →
        AllByRecursion IsFilePath (keys_of new.names)
        → ((other : ℕ) → (other ≡ id → ⊥) → entry_of new other ≡ entry_of old other)
        → ((other : ℕ) (path : List ℕ) → (other ≡ id → ⊥) →
        (id_at new path ≡ Some other) ↔ (id_at old path ≡ Some other))
        → ((path : List ℕ) → id_at new path ≡ Some id → IsSomeAnd (entry_of new id) (λ entry. entry.path ≡ path))
        → ((entry : Entry T) → entry_of new id ≡ Some entry → (0 < entry.holders) ⊎ (id_at new entry.path ≡ Some id))
        → IsSound new
    changed_at-IsSound ordered paths entries names named_here held_here = record {
      ordered = ordered;
      paths = paths;
      named = λ path other at. elim (cases_eq other id) [
        | inl same ↦ subst (λ i. IsSomeAnd (entry_of new i) (λ entry. entry.path ≡ path)) (sym same)
            (named_here path (at ∙ ap Some same))
        | inr apart ↦ subst (λ o. IsSomeAnd o (λ entry. entry.path ≡ path)) (sym (entries other apart))
            (sound.named path other ((names other path apart).0 at))
      ];
      held = λ other entry is. elim (cases_eq other id) [
        | inl same ↦ subst (λ i. (0 < entry.holders) ⊎ (id_at new entry.path ≡ Some i)) (sym same)
            (held_here entry (ap (entry_of new) (sym same) ∙ is))
        | inr apart ↦ elim (sound.held other entry (sym (entries other apart) ∙ is)) [
          | inl holders ↦ inl holders
          | inr at ↦ inr ((names other entry.path apart).1 at)
        ]
      ];
    }

  -- ---- the changes

  pub nothing_registered-IsSound : IsSound (nothing_registered {T = T})
  unfolding IsStrictlySortedBy
  nothing_registered-IsSound = record {
    ordered = tt;
    paths = tt;
    named = λ path id at. absurd (none-some id at);
    held = λ id entry is. absurd (none-some entry is);
  }

  module _ (contents : Contents T) (sound : IsSound contents) where
    -- where an entry changes and keeps its path, and stays held where it was
    module _ (id : ℕ) (change : Entry T → Entry T) (keeps_path : (entry : Entry T) → (change entry).path ≡ entry.path)
        (keeps_holders : (entry : Entry T) → 0 < entry.holders → 0 < (change entry).holders) where
      pub with_changed-IsSound : IsSound (with_slot contents id (slot_with change (slot_of contents id)))
      with_changed-IsSound =
          let slot : Slot T = slot_with change (slot_of contents id) in
          let here : entry_of (with_slot contents id slot) id ≡ entry_in slot = entry_of-with_slot-same contents id slot
          (λ none. ap (slot_with change) none) in
          changed_at-IsSound sound (with_slot contents id slot) id sound.ordered sound.paths
          (entry_of-with_slot-other contents id slot)
          (λ other path apart. (λ at. at, λ at. at))
          (λ path at. subst (λ o. IsSomeAnd o (λ entry. entry.path ≡ path)) (sym here)
          (slot_with-named change keeps_path (slot_of contents id) path (sound.named path id at)))
          (λ entry is. slot_with-slot_with_holder change keeps_path keeps_holders
          (λ path. id_at contents path ≡ Some id) (slot_of contents id) (sound.held id) entry (sym here ∙ is))

    pub after_opening-IsSound : (id : ℕ) → IsSound (after_opening contents id)
    after_opening-IsSound id = with_changed-IsSound id (λ entry. record entry { holders = one_more entry.holders })
        (λ entry. refl) (λ entry some. one_more-positive entry.holders)

    pub with_value-IsSound : (id : ℕ) (value : T) → IsSound (with_value contents id value)
    with_value-IsSound id value = with_changed-IsSound id (λ entry. record entry { value = value }) (λ entry. refl)
        (λ entry some. some)

    pub slot_with_version-IsSound : (id version : ℕ) →
        IsSound (with_slot contents id (slot_with_version version (slot_of contents id)))
    slot_with_version-IsSound id version = with_changed-IsSound id (λ entry. record entry { version = version })
        (λ entry. refl) (λ entry some. some)

    pub after_finish-IsSound : (id : ℕ) (value : T) (version : ℕ) → IsSound (after_finish contents id value version)
    after_finish-IsSound id value version =
        subst (λ slot. IsSound (with_slot contents id slot)) (twice (slot_of contents id))
        (with_changed-IsSound id (λ entry. record entry { value = value; version = version }) (λ entry. refl)
        (λ entry some. some))
      where
        twice : (slot : Slot T) → slot_with (λ entry. record entry { value = value; version = version }) slot ≡
            slot_with_version version (slot_with_value value slot)
        twice Ended = refl
        twice (Kept entry) = refl

    pub with_version_of-IsSound : (version : ℕ) (at : Option ℕ) → IsSound (with_version_of contents version at)
    with_version_of-IsSound version None = sound
    with_version_of-IsSound version (Some id) = slot_with_version-IsSound id version

    pub with_version-IsSound : (path : List ℕ) (version : ℕ) → IsSound (with_version contents path version)
    with_version-IsSound path version = with_version_of-IsSound version (id_at contents path)

    -- ---- a new entry

    -- no name stands for an id that was never made
    pub not_named_yet : (path : List ℕ) → id_at contents path ≡ Some (length contents.slots) → ⊥
    not_named_yet path at =
        let none : entry_of contents (length contents.slots) ≡ None =
        ap entry_in (get_or_past contents.slots (length contents.slots) Ended (omega arith)) in
        subst (λ o. IsSomeAnd o (λ entry. entry.path ≡ path)) none (sound.named path (length contents.slots) at)

    pub after_creation-IsSound : (path : List ℕ) (value : T) (version : ℕ) → IsFilePath path →
        id_at contents path ≡ None → IsSound (after_creation contents path value version)
    after_creation-IsSound path value version is_file_path free =
        let new : Contents T = after_creation contents path value version in
        let id : ℕ = length contents.slots in
        let entry : Entry T = record { path = path; value = value; version = version; holders = 1 } in
        let here : entry_of new id ≡ Some entry =
        ap entry_in (slot_of-after_creation-same contents path value version) in
        changed_at-IsSound sound new id
        (sorted-insert_entry path id contents.names sound.ordered)
        (all_keys-insert_entry IsFilePath path id contents.names is_file_path sound.paths)
        (λ other apart. ap entry_in (slot_of-after_creation-other contents path value version other apart))
        (λ other q apart. elim (cases_path path q) [
          | inl same ↦
              let now : id_at new q ≡ Some id = subst
              (λ r. id_at new r ≡ Some id) same (id_at-after_creation-same contents path value version) in
              let before : id_at contents q ≡ None = subst (λ r. id_at contents r ≡ None) same free in (
                λ at. absurd (apart (same_Some other id (sym at ∙ now))),
                λ at.
                    absurd (none-some other (sym before ∙ at)),
              )
          | inr differs ↦
              let still : id_at new q ≡ id_at contents q = id_at-after_creation-other contents path value version q
              differs in
              (λ at. sym still ∙ at, λ at. still ∙ at)
        ])
        (λ q at. subst (λ o. IsSomeAnd o (λ e. e.path ≡ q)) (sym here) (elim (cases_path path q) [
          | inl same ↦ same
          | inr differs ↦ absurd (not_named_yet q
              (sym (id_at-after_creation-other contents path value version q differs) ∙ at))
        ]))
        (λ e is. inl (subst (λ (x : Entry T). 0 < x.holders) (same_Some entry e (sym here ∙ is)) (omega arith)))

    -- ---- one path for an id

    same_path : (entry : Option (Entry T)) (path other : List ℕ) → IsSomeAnd entry (λ e. e.path ≡ path) →
        IsSomeAnd entry (λ e. e.path ≡ other) → path ≡ other
    same_path None path other h k = absurd h
    same_path (Some entry) path other h k = sym h ∙ k

    pub one_path : (id : ℕ) (path other : List ℕ) → id_at contents path ≡ Some id → id_at contents other ≡ Some id →
        path ≡ other
    one_path id path other at at_other = same_path (entry_of contents id) path other (sound.named path id at)
        (sound.named other id at_other)

    pub handle_path : (handle : Handle) (path : List ℕ) → Has contents handle → id_at contents path ≡ Some handle.id →
        path ≡ handle.path
    handle_path handle path has at = same_path (entry_of contents handle.id) path handle.path
        (sound.named path handle.id at) has

    -- no name stands for the entry of a handle whose name doesn't
    pub not_named : (handle : Handle) → Has contents handle → is_named contents handle ≡ false → (path : List ℕ) →
        id_at contents path ≡ Some handle.id → ⊥
    not_named handle has not_here path at =
        let at_handle : id_at contents handle.path ≡ Some handle.id = subst
        (λ p. id_at contents p ≡ Some handle.id) (handle_path handle path has at) at in
        true≢false (sym (is_id-same (id_at contents handle.path) handle.id at_handle) ∙ not_here)

    -- ---- an id that loses its name, or has none

    module _ (path : List ℕ) where
      pub id_at-gone : (other : List ℕ) → path ≡ other → id_at (without_name contents path) other ≡ None
      id_at-gone other same = subst
          (λ q. id_at (without_name contents path) q ≡ None) same
          (lookup-remove_entry-same path contents.names sound.ordered)

      pub id_at-entry_in : (other : List ℕ) → is_path path other ≡ false →
          id_at (without_name contents path) other ≡ id_at contents other
      id_at-entry_in other apart = lookup-remove_entry-other path contents.names sound.ordered other apart

    module _ (path : List ℕ) (id : ℕ) (at : id_at contents path ≡ Some id) where
      name_gone-IsSound : (slot : Slot T) → (slot_of contents id ≡ Ended → slot ≡ Ended) →
          ((entry : Entry T) → entry_in slot ≡ Some entry → 0 < entry.holders) →
          IsSound (with_slot (without_name contents path) id slot)
      name_gone-IsSound slot none slot_with_holder =
          let new : Contents T = with_slot (without_name contents path) id slot in
          let here : entry_of new id ≡ entry_in slot = entry_of-with_slot-same contents id slot none in
          changed_at-IsSound sound new id
          (sorted-remove_entry (is_path path) contents.names sound.ordered)
          (all_keys-remove_entry IsFilePath (is_path path) contents.names sound.paths)
          (entry_of-with_slot-other contents id slot)
          (λ other q apart. elim (cases_path path q) [
            | inl same ↦ (
              λ now. absurd (none-some other (sym (id_at-gone path q same) ∙ now)),
              λ before. absurd (apart (same_Some other id (sym before ∙ ap (id_at contents) (sym same) ∙ at))),
            )
            | inr differs ↦ (
              λ now. sym (id_at-entry_in path q differs) ∙ now,
              λ before. id_at-entry_in path q differs
                  ∙ before,
            )
          ])
          (λ q now. elim (cases_path path q) [
            | inl same ↦ absurd (none-some id (sym (id_at-gone path q same) ∙ now))
            | inr differs ↦
                let same : path ≡ q = one_path id path q at (sym (id_at-entry_in path q differs) ∙ now) in
                absurd (true≢false (sym (is_path-same path) ∙ ap (is_path path) same ∙ differs))
          ])
          (λ entry is. inl (slot_with_holder entry (sym here ∙ is)))

    unnamed-IsSound : (id : ℕ) (slot : Slot T) → ((path : List ℕ) → id_at contents path ≡ Some id → ⊥) →
        (slot_of contents id ≡ Ended → slot ≡ Ended) →
        ((entry : Entry T) → entry_in slot ≡ Some entry → 0 < entry.holders) → IsSound (with_slot contents id slot)
    unnamed-IsSound id slot unnamed none slot_with_holder =
        let here : entry_of (with_slot contents id slot) id ≡ entry_in slot =
        entry_of-with_slot-same contents id slot none in
        changed_at-IsSound sound (with_slot contents id slot) id sound.ordered sound.paths
        (entry_of-with_slot-other contents id slot)
        (λ other path apart. (λ at. at, λ at. at))
        (λ path at. absurd (unnamed path at))
        (λ entry is. inl (slot_with_holder entry (sym here ∙ is)))

    left_holders : (slot : Slot T) (entry : Entry T) → entry_in (slot_if_used false slot) ≡ Some entry →
        0 < entry.holders
    left_holders slot entry is = elim ((slot_if_used-slot_with_holder false slot entry is).0)
        [ inl holders ↦ holders | inr named ↦ absurd (false≢true named) ]

    without_found_name-IsSound : (path : List ℕ) (at : Option ℕ) → id_at contents path ≡ at →
        IsSound (without_found_name contents path at)
    without_found_name-IsSound path None is = sound
    without_found_name-IsSound path (Some id) is =
        name_gone-IsSound path id is (slot_if_used false (slot_of contents id))
        (λ none. ap (slot_if_used false) none) (left_holders (slot_of contents id))

    pub after_removal-IsSound : (path : List ℕ) → IsSound (after_removal contents path)
    after_removal-IsSound path = without_found_name-IsSound path (id_at contents path) refl

    -- ---- a handle closes, or withdraws its entry

    module _ (handle : Handle) (has : Has contents handle) where
      -- the name stays, and so does the entry
      stays_named-IsSound : is_named contents handle ≡ true →
          IsSound (with_slot contents handle.id
          (slot_if_used true (slot_with_holder_less (slot_of contents handle.id))))
      stays_named-IsSound named =
          let slot : Slot T = slot_with_holder_less (slot_of contents handle.id) in
          let at : id_at contents handle.path ≡ Some handle.id = is_id-true (id_at contents handle.path) handle.id
          named in
          let here : entry_of (with_slot contents handle.id (slot_if_used true slot)) handle.id ≡
          entry_in (slot_if_used true slot) = entry_of-with_slot-same contents handle.id (slot_if_used true slot)
          (λ none. ap (λ s. slot_if_used true (slot_with_holder_less s)) none) in
          let under : (path : List ℕ) → IsSomeAnd (entry_of contents handle.id) (λ entry. entry.path ≡ path) →
          IsSomeAnd (entry_in slot) (λ entry. entry.path ≡ path) =
          λ path h. slot_with-named (λ entry. record entry { holders = one_less entry.holders })
          (λ entry. refl) (slot_of contents handle.id) path h in
          changed_at-IsSound sound (with_slot contents handle.id (slot_if_used true slot)) handle.id sound.ordered
          sound.paths
          (entry_of-with_slot-other contents handle.id (slot_if_used true slot))
          (λ other path apart. (λ now. now, λ before. before))
          (λ path now. subst (λ o. IsSomeAnd o (λ entry. entry.path ≡ path)) (sym here)
          (slot_if_used-named slot path (under path (sound.named path handle.id now))))
          (λ entry is.
          let was : entry_in slot ≡ Some entry = (slot_if_used-slot_with_holder true slot entry (sym here ∙ is)).1 in
          let its_path : entry.path ≡ handle.path = subst
          (λ o. IsSomeAnd o (λ e. e.path ≡ handle.path)) was (under handle.path has) in
          inr (ap (id_at contents) its_path ∙ at))

      closing : (is_owner named : Bool) → is_named contents handle ≡ named
          → IsSound (with_slot (if is_owner then (if named then without_name contents handle.path else contents)
          else contents) handle.id
          (slot_if_used (named && not is_owner) (slot_with_holder_less (slot_of contents handle.id))))
      closing true true h = name_gone-IsSound handle.path handle.id
          (is_id-true (id_at contents handle.path) handle.id h)
          _ (λ none. ap (λ s. slot_if_used false (slot_with_holder_less s)) none)
          (left_holders (slot_with_holder_less (slot_of contents handle.id)))
      closing true false h = unnamed-IsSound handle.id _ (not_named handle has h)
          (λ none. ap (λ s. slot_if_used false (slot_with_holder_less s)) none)
          (left_holders (slot_with_holder_less (slot_of contents handle.id)))
      closing false true h = stays_named-IsSound h
      closing false false h = unnamed-IsSound handle.id _ (not_named handle has h)
          (λ none. ap (λ s. slot_if_used false (slot_with_holder_less s)) none)
          (left_holders (slot_with_holder_less (slot_of contents handle.id)))

      pub after_close-IsSound : IsSound (after_close contents handle)
      after_close-IsSound = closing handle.is_owner (is_named contents handle) refl

      withdrawing : (named : Bool) → is_named contents handle ≡ named →
          IsSound (with_slot (if named then without_name contents handle.path else contents) handle.id Ended)
      withdrawing true h = name_gone-IsSound handle.path handle.id (is_id-true (id_at contents handle.path) handle.id h)
          Ended (λ none. refl) (λ entry is. absurd (none-some entry is))
      withdrawing false h = unnamed-IsSound handle.id Ended (not_named handle has h) (λ none. refl)
          (λ entry is. absurd (none-some entry is))

      pub after_withdrawal-IsSound : IsSound (after_withdrawal contents handle)
      after_withdrawal-IsSound = withdrawing (is_named contents handle) refl
