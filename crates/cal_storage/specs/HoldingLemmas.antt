-- What is known of the entry of an open handle, over each change to the registry.
use Rattle.std.proofs.Common.{◌≡◌, ◌≢◌, ℕ, ◌<◌, ◌≤◌, ◌+◌, ◌-◌, ◌^◌, ◌==◌, List, Bool, true, false, not, ◌&&◌, Option, Some, None, IsSomeAnd, option_map, option_and_then, IfSome, IfNone, lit≤, lit<, if◌then◌else◌, refl, sym, ap, subst, ◌∙◌, inl, inr, arith, true≢false, ne_eqb}
use Rattle.std.proofs.lemmas.Bool.{cases_Bool, cases_eq, cond-false}
use Rattle.std.proofs.lemmas.List.{get_or_past}
use Rattle.std.proofs.lemmas.Option.{none-some, same_Some}
use Rattle.cal_storage.specs.declared.entry.Entry.{Entry}
use Rattle.cal_storage.specs.declared.entry.Slot.{Slot}
use Rattle.cal_storage.specs.declared.entry.Slot.TheVariants.{Ended, Kept}
use Rattle.cal_storage.specs.Changes.{IsHeld, IsShared}
use Rattle.cal_storage.specs.Contents.{Contents, Handle, Has, is_id, is_named, entry_in, slot_with_holder_less, slot_if_used, one_more, one_less, id_at, slot_of, entry_of, with_slot, without_own_name, after_creation, new_handle, found_handle, after_opening, after_removal, after_close, after_finish, with_value, with_version, value_of, value_at, after_withdrawal}
use Rattle.cal_storage.specs.ContentsLaws.{ChangesEntry, ChangesNamedEntry, TakesName, LetsGo, if_held, one_holder_more}
use Rattle.cal_storage.specs.Soundness.{IsSound}
use Rattle.cal_names.specs.ConceptSettings.{ConceptSettings, file_path_for}
use Rattle.cal_storage.specs.Refusals.{is_too_long, after_name_removal}
use Rattle.cal_storage.specs.Holding.{HasHolders, Holds, IsNamed, KeepsHandles, KeepsOtherHandles, LeavesSharers, JoinsHandles}
use Rattle.cal_storage.specs.SoundnessLemmas.{is_id-true, is_id-same, entry_of-with_slot-same}
use Rattle.cal_storage.specs.EntryLemmas.{after_opening-ChangesEntry, with_value-ChangesEntry, after_finish-ChangesEntry, with_version-ChangesNamedEntry, after_creation-MakesEntry, after_creation-LeavesOthers, after_removal-TakesName, after_close-LetsGo, after_withdrawal-Withdraws}
use Rattle.cal_storage.specs.HandleLemmas.{has_entry, Has-ChangesEntry, Has-ChangesNamedEntry, Has-TakesName, Has-LetsGo, Has-after_creation}

less_than : (count holders : ℕ) → count + 1 ≤ holders → count ≤ one_less holders
less_than count holders is = elim (cases_eq holders (2 ^ 64 - 1)) [
  | inl same ↦ grind arith
  | inr apart ↦ grind arith
]

module _ {T : Type 0} where
  -- ---- how many hold an entry

  module _ (old new : Contents T) (count id : ℕ) (has : HasHolders old count id) where
    holders-same : entry_of new id ≡ entry_of old id → HasHolders new count id
    holders-same same = subst (λ o. IsSomeAnd o (λ entry. count ≤ entry.holders)) (sym same) has

    holders-slot_with : (change : Entry T → Entry T) →
        ((entry : Entry T) → count ≤ entry.holders → count ≤ (change entry).holders) → (at : Option (Entry T))
        → IsSomeAnd at (λ entry. count ≤ entry.holders) → IsSomeAnd (option_map change at)
        (λ entry. count ≤ entry.holders)
    holders-slot_with change keeps None h = h
    holders-slot_with change keeps (Some entry) h = keeps entry h

    holders-here : (change : Entry T → Entry T) →
        ((entry : Entry T) → count ≤ entry.holders → count ≤ (change entry).holders) →
        entry_of new id ≡ option_map change (entry_of old id) → HasHolders new count id
    holders-here change keeps is = subst
        (λ o. IsSomeAnd o (λ entry. count ≤ entry.holders)) (sym is)
        (holders-slot_with change keeps (entry_of old id) has)

    holders-ChangesEntry : (other : ℕ) (change : Entry T → Entry T) →
        ((entry : Entry T) → count ≤ entry.holders → count ≤ (change entry).holders) →
        ChangesEntry old new other change → HasHolders new count id
    holders-ChangesEntry other change keeps changes = elim (cases_eq id other) [
      | inl same ↦ holders-here change keeps
          (subst (λ i. entry_of new i ≡ option_map change (entry_of old i)) (sym same) changes.entry)
      | inr apart ↦ holders-same (changes.others id apart)
    ]

    -- whether a path stands for the id
    holders-stands : (path : List ℕ) → (id_at old path ≡ Some id → HasHolders new count id) →
        (id_at old path ≢ Some id → HasHolders new count id) → HasHolders new count id
    holders-stands path where_named otherwise = elim (cases_Bool (is_id (id_at old path) id)) [
      | inl h ↦ where_named (is_id-true (id_at old path) id h)
      | inr h ↦ otherwise (λ at. true≢false (sym (is_id-same (id_at old path) id at) ∙ h))
    ]

    holders-ChangesNamedEntry : (path : List ℕ) (change : Entry T → Entry T) →
        ((entry : Entry T) → count ≤ entry.holders → count ≤ (change entry).holders) →
        ChangesNamedEntry old new path change → HasHolders new count id
    holders-ChangesNamedEntry path change keeps changes = holders-stands path
        (λ at. holders-here change keeps (changes.entry id at)) (λ apart. holders-same (changes.others id apart))

    held_stays : 0 < count → (at : Option (Entry T)) → IsSomeAnd at (λ entry. count ≤ entry.holders) → if_held at ≡ at
    held_stays some None h = absurd h
    held_stays some (Some entry) h = cond-false (entry.holders == 0) None (Some entry)
        (ne_eqb entry.holders 0 (λ none. omega arith))

    holders-TakesName : (path : List ℕ) → 0 < count → TakesName old new path → HasHolders new count id
    holders-TakesName path some takes = holders-stands path
        (λ at. holders-same (takes.entry id at ∙ held_stays some (entry_of old id) has))
        (λ apart. holders-same (takes.other_entries id apart))

  -- from some number of holders to fewer
  module _ (contents : Contents T) (id : ℕ) where
    holders-weaker : (more fewer : ℕ) → fewer ≤ more → HasHolders contents more id → HasHolders contents fewer id
    holders-weaker more fewer le has = from (entry_of contents id) has
      where
        from : (at : Option (Entry T)) → IsSomeAnd at (λ entry. more ≤ entry.holders) →
            IsSomeAnd at (λ entry. fewer ≤ entry.holders)
        from None h = h
        from (Some entry) h = omega arith

    -- an entry with several holders is shared, and one with some is held
    shared : (count : ℕ) → HasHolders contents (count + 2) id → IsShared contents id
    shared count has = from (entry_of contents id) has
      where
        from : (at : Option (Entry T)) → IsSomeAnd at (λ entry. count + 2 ≤ entry.holders) →
            IsSomeAnd at (λ entry. 1 < entry.holders)
        from None h = h
        from (Some entry) h = omega arith

    slot_with_holder : (count : ℕ) → 0 < count → HasHolders contents count id → IsHeld contents id
    slot_with_holder count some has = from (entry_of contents id) has
      where
        from : (at : Option (Entry T)) → IsSomeAnd at (λ entry. count ≤ entry.holders) →
            IsSomeAnd at (λ entry. 0 < entry.holders)
        from None h = h
        from (Some entry) h = omega arith

  more_than : (count : ℕ) (entry : Entry T) → count < 2 ^ 64 → count ≤ entry.holders → count ≤ one_more entry.holders
  more_than count entry small is = omega arith

  -- ---- what is held, over each change

  -- where every other id has the entry that it had
  pub KeepsOtherHandles-entries : (old new : Contents T) (id : ℕ) →
      ((other : ℕ) → other ≢ id → entry_of new other ≡ entry_of old other) → KeepsOtherHandles old new id
  KeepsOtherHandles-entries old new id same count handle apart holds = (
    subst (λ o. IsSomeAnd o (λ (entry : Entry T). entry.path ≡ handle.path)) (sym (same handle.id apart)) holds.0,
    subst (λ o. IsSomeAnd o (λ (entry : Entry T). count ≤ entry.holders)) (sym (same handle.id apart)) holds.1,
  )

  module _ (contents : Contents T) where
    pub Holds-has : (count : ℕ) (handle : Handle) → Holds contents count handle → Has contents handle
    Holds-has count handle holds = holds.0

    pub Holds-weaker : (more fewer : ℕ) (handle : Handle) → fewer ≤ more → Holds contents more handle →
        Holds contents fewer handle
    Holds-weaker more fewer handle le holds = (holds.0, holders-weaker contents handle.id more fewer le holds.1)

    -- a new entry
    pub Holds-new : (path : List ℕ) (value : T) (version : ℕ) (is_owner : Bool) →
        Holds (after_creation contents path value version) 1 (new_handle contents path is_owner)
    Holds-new path value version is_owner =
        let makes = after_creation-MakesEntry contents path value version in (
          subst (λ o. IsSomeAnd o (λ (entry : Entry T). entry.path ≡ path)) (sym makes.entry) refl,
          subst (λ o. IsSomeAnd o (λ (entry : Entry T). 1 ≤ entry.holders)) (sym makes.entry) (lit≤ tt),
        )

    pub IsNamed-new : (path : List ℕ) (value : T) (version : ℕ) (is_owner : Bool) →
        IsNamed (after_creation contents path value version) (new_handle contents path is_owner)
    IsNamed-new path value version is_owner = let makes = after_creation-MakesEntry contents path value version in
        makes.name

    pub KeepsHandles-same : KeepsHandles contents contents
    KeepsHandles-same count handle some small holds = holds

    pub KeepsHandles-after_creation : (path : List ℕ) (value : T) (version : ℕ) →
        KeepsHandles contents (after_creation contents path value version)
    KeepsHandles-after_creation path value version count handle some small holds = (
      Has-after_creation contents path value version handle holds.0,
      holders-same contents (after_creation contents path value version) count handle.id holds.1
          (let leaves = after_creation-LeavesOthers contents path value version in leaves.entries handle.id
          (λ same.
          let none : entry_of contents handle.id ≡ None =
          ap entry_in (get_or_past contents.slots handle.id Ended (omega arith)) in
          subst (λ o. IsSomeAnd o (λ entry. entry.path ≡ handle.path)) none holds.0)),
    )

    -- an opening
    pub KeepsHandles-after_opening : (id : ℕ) → KeepsHandles contents (after_opening contents id)
    KeepsHandles-after_opening id count handle some small holds = (
      Has-ChangesEntry contents (after_opening contents id) handle holds.0 id one_holder_more
          (λ entry. refl) (after_opening-ChangesEntry contents id),
      holders-ChangesEntry contents (after_opening contents id) count handle.id holds.1 id one_holder_more
          (λ entry. more_than count entry small) (after_opening-ChangesEntry contents id),
    )

    one_more_holds : (count id : ℕ) → count + 1 < 2 ^ 64 → HasHolders contents count id →
        HasHolders (after_opening contents id) (count + 1) id
    one_more_holds count id small has =
        let changes = after_opening-ChangesEntry contents id in
        subst (λ o. IsSomeAnd o (λ entry. count + 1 ≤ entry.holders)) (sym changes.entry)
        (from (entry_of contents id) has)
      where
        from : (at : Option (Entry T)) → IsSomeAnd at (λ entry. count ≤ entry.holders) →
            IsSomeAnd (option_map one_holder_more at) (λ entry. count + 1 ≤ entry.holders)
        from None h = h
        from (Some entry) h = omega arith

    any_holders : (P : Entry T → Type 0) (at : Option (Entry T)) → IsSomeAnd at P →
        IsSomeAnd at (λ entry. 0 ≤ entry.holders)
    any_holders P None h = h
    any_holders P (Some entry) h = omega arith

    module _ (sound : IsSound contents) where
      pub Holds-found : (path : List ℕ) (id : ℕ) → id_at contents path ≡ Some id →
          Holds (after_opening contents id) 1 (found_handle path id)
      Holds-found path id at =
          let has = sound.named path id at in (
            Has-ChangesEntry contents (after_opening contents id) (found_handle path id) has id one_holder_more
                (λ entry. refl) (after_opening-ChangesEntry contents id),
            one_more_holds 0 id (lit< tt) (any_holders _ (entry_of contents id) has),
          )

      pub JoinsHandles-found : (path : List ℕ) (id : ℕ) → id_at contents path ≡ Some id →
          JoinsHandles contents (after_opening contents id) (found_handle path id)
      JoinsHandles-found path id at other holds named same_path =
          let same_id : other.id ≡ id = same_Some other.id id (sym named ∙ ap (id_at contents) same_path ∙ at) in
          let found = Holds-found path id at in
          let two : HasHolders (after_opening contents id) 2 id =
          one_more_holds 1 id (lit< tt) (subst (HasHolders contents 1) same_id holds.1) in
          let kept_one = KeepsHandles-after_opening id 1 other (lit< tt) (lit< tt) holds in
          ((kept_one.0, subst (HasHolders (after_opening contents id) 2) (sym same_id) two), (found.0, two))

      -- a removal
      pub KeepsHandles-after_removal : (path : List ℕ) → KeepsHandles contents (after_removal contents path)
      KeepsHandles-after_removal path count handle some small holds = (
        Has-TakesName contents (after_removal contents path) handle holds.0 path
            (λ at. slot_with_holder contents handle.id count some holds.1)
            (after_removal-TakesName contents sound path),
        holders-TakesName contents (after_removal contents path) count handle.id holds.1 path some
            (after_removal-TakesName contents sound path),
      )

      pub KeepsHandles-after_name_removal : (settings : ConceptSettings) (name : List ℕ) →
          KeepsHandles contents (after_name_removal settings name contents)
      KeepsHandles-after_name_removal settings name =
          elim (is_too_long settings name)
          as (λ long. KeepsHandles contents
          (if long then contents else after_removal contents (file_path_for settings name))) [
            | true ↦ KeepsHandles-same
            | false ↦ KeepsHandles-after_removal (file_path_for settings name)
          ]

      -- a close
      module _ (closing : Handle) (has : Has contents closing) where
        goes : (entry : Entry T) → entry_of contents closing.id ≡ Some entry →
            LetsGo contents (after_close contents closing) closing entry
        goes entry is = after_close-LetsGo contents sound closing entry is

        pub KeepsOtherHandles-after_close : KeepsOtherHandles contents (after_close contents closing) closing.id
        KeepsOtherHandles-after_close =
            let at = has_entry contents closing has in
            let gone = goes at.0 at.1 in
            KeepsOtherHandles-entries contents (after_close contents closing) closing.id gone.others.entries

        pub LeavesSharers-after_close : LeavesSharers contents (after_close contents closing) closing.id
        LeavesSharers-after_close count handle same some holds =
            let at = has_entry contents closing has in
            let gone = goes at.0 at.1 in
            let there : entry_of contents handle.id ≡ Some at.0 = ap (entry_of contents) same ∙ at.1 in
            let many : count + 1 ≤ at.0.holders =
            subst (λ o. IsSomeAnd o (λ (entry : Entry T). count + 1 ≤ entry.holders)) there holds.1 in
            let left : count ≤ one_less at.0.holders = less_than count at.0.holders many in
            let stays = gone.stays (inl (omega arith)) in (
              Has-LetsGo contents (after_close contents closing) handle holds.0 closing at.0 at.1
                  (λ _. shared contents handle.id (count - 1)
                  (subst (λ n. HasHolders contents n handle.id) (omega arith) holds.1)) gone,
              subst (λ o. IsSomeAnd o (λ (entry : Entry T). count ≤ entry.holders))
                  (sym (ap (entry_of (after_close contents closing)) same ∙ stays)) left,
            )

      -- a withdrawal
      pub KeepsOtherHandles-after_withdrawal : (handle : Handle) →
          KeepsOtherHandles contents (after_withdrawal contents handle) handle.id
      KeepsOtherHandles-after_withdrawal handle =
          let gone = after_withdrawal-Withdraws contents sound handle in
          KeepsOtherHandles-entries contents (after_withdrawal contents handle) handle.id gone.others.entries

    -- a close of a handle that isn't the owner leaves its name and its value
    let_go_value : (slot : Slot T) →
        option_map (λ (entry : Entry T). entry.value) (entry_in (slot_if_used true (slot_with_holder_less slot))) ≡
        option_map (λ (entry : Entry T). entry.value) (entry_in slot)
    let_go_value Ended = refl
    let_go_value (Kept entry) = refl

    pub value-after_close : (handle : Handle) → IsNamed contents handle → handle.is_owner ≡ false →
        value_at (after_close contents handle) handle.path ≡ value_of contents handle.id
    value-after_close handle named guest =
        let left : Bool → Contents T = λ has_name.
        with_slot contents handle.id (slot_if_used has_name (slot_with_holder_less (slot_of contents handle.id))) in
        let as_guest : after_close contents handle ≡ left (is_named contents handle && not false) =
        ap (λ owner. with_slot (if owner then without_own_name contents handle else contents) handle.id
        (slot_if_used (is_named contents handle && not owner) (slot_with_holder_less (slot_of contents handle.id))))
        guest in
        let as_named : left (is_named contents handle && not false) ≡ left true = ap
        (λ has_name. left (has_name && not false)) (is_id-same (id_at contents handle.path) handle.id named) in
        ap (λ now. value_at now handle.path) (as_guest ∙ as_named)
        ∙ ap (λ found. option_map (λ (entry : Entry T). entry.value) (option_and_then (entry_of (left true)) found))
        named
        ∙ ap (option_map (λ (entry : Entry T). entry.value))
        (entry_of-with_slot-same contents handle.id
        (slot_if_used true (slot_with_holder_less (slot_of contents handle.id)))
        (λ none. ap (λ slot. slot_if_used true (slot_with_holder_less slot)) none))
        ∙ let_go_value (slot_of contents handle.id)

    -- a value that is written, a version that is set, and an entry that is finished
    pub KeepsHandles-with_value : (id : ℕ) (value : T) → KeepsHandles contents (with_value contents id value)
    KeepsHandles-with_value id value count handle some small holds = (
      Has-ChangesEntry contents _ handle holds.0 id _ (λ entry. refl) (with_value-ChangesEntry contents id value),
      holders-ChangesEntry contents _ count handle.id holds.1 id _ (λ entry h. h)
          (with_value-ChangesEntry contents id value),
    )

    pub KeepsHandles-with_version : (path : List ℕ) (version : ℕ) →
        KeepsHandles contents (with_version contents path version)
    KeepsHandles-with_version path version count handle some small holds = (
      Has-ChangesNamedEntry contents _ handle holds.0 path _ (λ entry. refl)
          (with_version-ChangesNamedEntry contents path version),
      holders-ChangesNamedEntry contents _ count handle.id holds.1 path _ (λ entry h. h)
          (with_version-ChangesNamedEntry contents path version),
    )

    pub KeepsHandles-after_finish : (id : ℕ) (value : T) (version : ℕ) →
        KeepsHandles contents (after_finish contents id value version)
    KeepsHandles-after_finish id value version count handle some small holds = (
      Has-ChangesEntry contents _ handle holds.0 id _ (λ entry. refl)
          (after_finish-ChangesEntry contents id value version),
      holders-ChangesEntry contents _ count handle.id holds.1 id _ (λ entry h. h)
          (after_finish-ChangesEntry contents id value version),
    )

    pub value-with_value : (id : ℕ) (value : T) (P : Entry T → Type 0) → IsSomeAnd (entry_of contents id) P →
        value_of (with_value contents id value) id ≡ Some value
    value-with_value id value P has =
        let changes = with_value-ChangesEntry contents id value in
        ap (option_map (λ (entry : Entry T). entry.value)) changes.entry ∙ from (entry_of contents id) has
      where
        from : (at : Option (Entry T)) → IsSomeAnd at P →
            option_map (λ (entry : Entry T). entry.value)
            (option_map (λ (entry : Entry T). record entry { value = value }) at) ≡ Some value
        from None h = absurd h
        from (Some entry) h = refl

  -- what is created, written and closed without owning its name has the value that was written, under its name
  pub value-stored : (contents made new : Contents T) (path : List ℕ) (left value : T) (version : ℕ) (handle : Handle) →
      made ≡ after_creation contents path left version
      → handle ≡ new_handle contents path false → new ≡ after_close (with_value made handle.id value) handle →
      value_at new path ≡ Some value
  value-stored contents made new path left value version handle made_is is new_is =
      let first : Contents T = after_creation contents path left version in
      let fresh : Handle = new_handle contents path false in
      let makes = after_creation-MakesEntry contents path left version in
      ap (λ now. value_at now path)
      (new_is ∙ ap (λ h. after_close (with_value made h.id value) h) is ∙ ap
      (λ at. after_close (with_value at fresh.id value) fresh) made_is)
      ∙ value-after_close (with_value first fresh.id value) fresh makes.name refl
      ∙ value-with_value first fresh.id value
      (λ entry. entry.path ≡ path)
      (subst (λ o. IsSomeAnd o (λ (entry : Entry T). entry.path ≡ path)) (sym makes.entry) refl)

  -- ---- what calls leave, from what they change

  module _ (contents now : Contents T) where
    pub KeepsHandles-is : (new : Contents T) → now ≡ new → KeepsHandles contents new → KeepsHandles contents now
    KeepsHandles-is new is keeps = subst (KeepsHandles contents) (sym is) keeps

    pub after_creation-Holds : (path : List ℕ) (left : T) (version : ℕ) (is_owner : Bool) (handle : Handle) →
        now ≡ after_creation contents path left version → handle ≡ new_handle contents path is_owner →
        Holds now 1 handle
    after_creation-Holds path left version is_owner handle is is_new =
        subst (λ h. Holds now 1 h) (sym is_new)
        (subst (λ c. Holds c 1 (new_handle contents path is_owner)) (sym is)
        (Holds-new contents path left version is_owner))

    pub after_creation-IsNamed : (path : List ℕ) (left : T) (version : ℕ) (is_owner : Bool) (handle : Handle) →
        now ≡ after_creation contents path left version → handle ≡ new_handle contents path is_owner →
        IsNamed now handle
    after_creation-IsNamed path left version is_owner handle is is_new =
        subst (λ h. IsNamed now h) (sym is_new)
        (subst (λ c. IsNamed c (new_handle contents path is_owner)) (sym is)
        (IsNamed-new contents path left version is_owner))

    module _ (sound : IsSound contents) (path : List ℕ) (handle : Handle) (at : id_at contents path ≡ Some handle.id)
        (is : now ≡ after_opening contents handle.id) (is_found : handle ≡ found_handle path handle.id) where
      pub after_opening-Holds : Holds now 1 handle
      after_opening-Holds = subst
          (λ h. Holds now 1 h) (sym is_found)
          (subst (λ c. Holds c 1 (found_handle path handle.id)) (sym is) (Holds-found contents sound path handle.id at))

      pub after_opening-JoinsHandles : JoinsHandles contents now handle
      after_opening-JoinsHandles = subst
          (λ h. JoinsHandles contents now h) (sym is_found)
          (subst (λ c. JoinsHandles contents c (found_handle path handle.id)) (sym is)
          (JoinsHandles-found contents sound path handle.id at))

      pub after_opening-IsNamed : IsNamed now handle
      after_opening-IsNamed = subst
          (λ c. IsNamed c handle) (sym is) (ap (id_at contents) (ap (λ (h : Handle). h.path) is_found) ∙ at)

    module _ (sound : IsSound contents) (handle : Handle) (has : Has contents handle)
        (is : now ≡ after_close contents handle) where
      pub after_close-KeepsOtherHandles : KeepsOtherHandles contents now handle.id
      after_close-KeepsOtherHandles =
          subst (λ c. KeepsOtherHandles contents c handle.id) (sym is)
          (KeepsOtherHandles-after_close contents sound handle has)

      pub after_close-LeavesSharers : LeavesSharers contents now handle.id
      after_close-LeavesSharers =
          subst (λ c. LeavesSharers contents c handle.id) (sym is)
          (LeavesSharers-after_close contents sound handle has)

    pub after_finish-KeepsHandles : (id : ℕ) (left : T) (version : ℕ) →
        now ≡ after_finish contents id left version → KeepsHandles contents now
    after_finish-KeepsHandles id left version is =
        KeepsHandles-is (after_finish contents id left version) is (KeepsHandles-after_finish contents id left version)

    pub after_creation-KeepsHandles : (path : List ℕ) (left : T) (version : ℕ) →
        now ≡ after_creation contents path left version → KeepsHandles contents now
    after_creation-KeepsHandles path left version is =
        KeepsHandles-is (after_creation contents path left version) is
        (KeepsHandles-after_creation contents path left version)

    pub after_opening-KeepsHandles : (id : ℕ) → now ≡ after_opening contents id → KeepsHandles contents now
    after_opening-KeepsHandles id is =
        KeepsHandles-is (after_opening contents id) is (KeepsHandles-after_opening contents id)

    pub same-KeepsHandles : now ≡ contents → KeepsHandles contents now
    same-KeepsHandles is = KeepsHandles-is contents is (KeepsHandles-same contents)

    -- what an opening or creation leaves, by what the path stood for
    module _ (sound : IsSound contents) (path : List ℕ) (version : ℕ) (is_owner : Bool) (handle : Handle) {P : Type 0}
        (left_of_new : P → (left : T) × (now ≡ after_creation contents path left version)) where
      abbrev Stands : Type 0
      Stands = Holds now 1 handle × IsNamed now handle × JoinsHandles contents now handle × KeepsHandles contents now

      joins_nobody : id_at contents path ≡ None → handle ≡ new_handle contents path is_owner →
          JoinsHandles contents now handle
      joins_nobody free is_new other holds named same_path =
          absurd (none-some other.id
          (sym free ∙ ap (id_at contents) (sym (same_path ∙ ap (λ (h : Handle). h.path) is_new)) ∙ named))

      stands_by : (at : Option ℕ) → id_at contents path ≡ at →
          IfSome at (λ id. (now ≡ after_opening contents id) × (handle ≡ found_handle path id)) →
          IfNone at (P × (handle ≡ new_handle contents path is_owner)) → Stands
      stands_by None free found made =
          let left = left_of_new made.0 in (
            after_creation-Holds path left.0 version is_owner handle left.1 made.1,
            after_creation-IsNamed path left.0 version is_owner handle left.1 made.1,
            joins_nobody free made.1,
            after_creation-KeepsHandles path left.0 version left.1,
          )
      stands_by (Some id) at found made =
          let same : handle.id ≡ id = ap (λ (h : Handle). h.id) found.1 in
          let at_id : id_at contents path ≡ Some handle.id = at ∙ ap Some (sym same) in
          let is : now ≡ after_opening contents handle.id = found.0 ∙ ap (after_opening contents) (sym same) in
          let is_found : handle ≡ found_handle path handle.id = found.1 ∙ ap (found_handle path) (sym same) in (
            after_opening-Holds sound path handle at_id is is_found,
            after_opening-IsNamed sound path handle at_id is is_found,
            after_opening-JoinsHandles sound path handle at_id is is_found,
            after_opening-KeepsHandles handle.id is,
          )

      pub stands : IfSome (id_at contents path)
          (λ id. (now ≡ after_opening contents id) × (handle ≡ found_handle path id)) →
          IfNone (id_at contents path) (P × (handle ≡ new_handle contents path is_owner)) → Stands
      stands found made = stands_by (id_at contents path) refl found made
