-- What each change does to its own id and path, and that it leaves the others.
use Rattle.std.proofs.Common.{◌≡◌, ◌≢◌, ℕ, Bool, true, false, cond, not, ◌&&◌, ◌==◌, List, length, Option, Some, None, if◌then◌else◌, option_map, slice_set, refl, sym, ap, subst, ◌∙◌, inl, inr, true≢false, arith, eq-eqb, ne_eqb}
use Rattle.std.proofs.lemmas.Bool.{cases_Bool, cond-true, cond-false, false≢true, and_right, and_from}
use Rattle.std.proofs.lemmas.Option.{none-some, same_Some}
use Rattle.cal_storage.specs.declared.entry.Entry.{Entry}
use Rattle.cal_storage.specs.declared.entry.Slot.{Slot}
use Rattle.cal_storage.specs.declared.entry.Slot.TheVariants.{Ended, Kept}
use Rattle.cal_storage.specs.Contents.{Contents, Handle, is_path, one_less, entry_in, slot_with, slot_with_holder_less, slot_if_used, id_at, slot_of, entry_of, with_slot, without_name, after_creation, after_opening, without_found_name, after_removal, is_named, after_close, after_finish, after_withdrawal, with_value, slot_with_version, slot_with_value, with_version_of, with_version}
use Rattle.cal_storage.specs.ContentsLaws.{LeavesOthers, MakesEntry, ChangesEntry, ChangesNamedEntry, TakesName, GivesUpName, LetsGo, Withdraws, one_holder_more, one_holder_less, if_held}
use Rattle.cal_storage.specs.Soundness.{IsSound}
use Rattle.cal_storage.specs.NameLemmas.{is_path-apart}
use Rattle.cal_storage.specs.SoundnessLemmas.{is_id-true, is_id-same, entry_of-with_slot-same, entry_of-with_slot-other, id_at-after_creation-same, id_at-after_creation-other, slot_of-after_creation-same, slot_of-after_creation-other, id_at-gone, id_at-entry_in}

-- other paths than this one don't compare equal to it
differs : (path other : List ℕ) → other ≢ path → is_path path other ≡ false
differs path other apart = is_path-apart path other (λ same. apart (sym same))

module _ {T : Type 0} where
  -- ---- slots by their entries

  pub entry_in-slot_with : (change : Entry T → Entry T) (slot : Slot T) →
      entry_in (slot_with change slot) ≡ option_map change (entry_in slot)
  entry_in-slot_with change Ended = refl
  entry_in-slot_with change (Kept entry) = refl

  pub entry_in-slot_if_used : (slot : Slot T) → entry_in (slot_if_used false slot) ≡ if_held (entry_in slot)
  entry_in-slot_if_used Ended = refl
  entry_in-slot_if_used (Kept entry) =
      elim (entry.holders == 0) as (λ b. entry_in (cond (not false && b) Ended (Kept entry)) ≡ cond b None (Some entry))
      [ true ↦ refl | false ↦ refl ]

  entry_in-slot_with_holder_less : (has_name : Bool) (entry : Entry T) (slot : Slot T) → entry_in slot ≡ Some entry →
      entry_in (slot_if_used has_name (slot_with_holder_less slot)) ≡ cond (not has_name && one_less entry.holders == 0)
      None (Some (one_holder_less entry))
  entry_in-slot_with_holder_less has_name entry Ended is = absurd (none-some entry is)
  entry_in-slot_with_holder_less has_name entry (Kept old) is =
      subst (λ (e : Entry T). entry_in (slot_if_used has_name (slot_with_holder_less (Kept old))) ≡
      cond (not has_name && one_less e.holders == 0) None (Some (one_holder_less e))) (same_Some old entry is)
      (elim (not has_name && one_less old.holders == 0)
      as (λ b. entry_in (cond b Ended (Kept (one_holder_less old))) ≡ cond b None (Some (one_holder_less old)))
      [ true ↦ refl | false ↦ refl ])

  -- ---- an entry that changes in its place

  module _ (contents : Contents T) (id : ℕ) where
    pub with_changed-ChangesEntry : (change : Entry T → Entry T) →
        ChangesEntry contents (with_slot contents id (slot_with change (slot_of contents id))) id change
    with_changed-ChangesEntry change = record {
      names = refl;
      entry = entry_of-with_slot-same contents id (slot_with change (slot_of contents id))
          (λ none. ap (slot_with change) none) ∙ entry_in-slot_with change (slot_of contents id);
      others = entry_of-with_slot-other contents id (slot_with change (slot_of contents id));
    }

    pub after_opening-ChangesEntry : ChangesEntry contents (after_opening contents id) id one_holder_more
    after_opening-ChangesEntry = with_changed-ChangesEntry one_holder_more

    pub with_value-ChangesEntry : (value : T) → ChangesEntry contents (with_value contents id value) id
        (λ entry. record entry { value = value })
    with_value-ChangesEntry value = with_changed-ChangesEntry (λ entry. record entry { value = value })

    pub slot_with_version-ChangesEntry : (version : ℕ) →
        ChangesEntry contents (with_slot contents id (slot_with_version version (slot_of contents id))) id
        (λ entry. record entry { version = version })
    slot_with_version-ChangesEntry version = with_changed-ChangesEntry (λ entry. record entry { version = version })

    at_once : (value : T) (version : ℕ) (slot : Slot T) →
        slot_with (λ entry. record entry { value = value; version = version }) slot ≡ slot_with_version version
        (slot_with_value value slot)
    at_once value version Ended = refl
    at_once value version (Kept entry) = refl

    pub after_finish-ChangesEntry : (value : T) (version : ℕ) →
        ChangesEntry contents (after_finish contents id value version) id
        (λ entry. record entry { value = value; version = version })
    after_finish-ChangesEntry value version =
        subst (λ slot. ChangesEntry contents (with_slot contents id slot) id
        (λ entry. record entry { value = value; version = version })) (at_once value version (slot_of contents id))
        (with_changed-ChangesEntry (λ entry. record entry { value = value; version = version }))

  pub ChangesEntry-LeavesOthers : (old new : Contents T) (id : ℕ) (change : Entry T → Entry T) (path : List ℕ) →
      ChangesEntry old new id change → LeavesOthers old new id path
  ChangesEntry-LeavesOthers old new id change path changes = record {
    entries = changes.others;
    names = λ other apart. let names = changes.names in rw names;
  }

  module _ (contents : Contents T) (path : List ℕ) (version : ℕ) where
    versioned_at : (at : Option ℕ) → id_at contents path ≡ at →
        ChangesNamedEntry contents (with_version_of contents version at) path
        (λ entry. record entry { version = version })
    versioned_at None is = record {
      names = refl;
      entry = λ id named. absurd (none-some id (sym is ∙ named));
      others = λ other apart. refl;
    }
    versioned_at (Some id) is =
        let changes = slot_with_version-ChangesEntry contents id version in
        record {
          names = refl;
          entry = λ other named.
              let same : id ≡ other = same_Some id other (sym is ∙ named) in
              subst (λ i. entry_of (with_version_of contents version (Some id)) i ≡ option_map {T = Entry T}
              (λ entry. record entry { version = version }) (entry_of contents i)) same changes.entry;
          others = λ other apart. changes.others other (λ same. apart (is ∙ ap Some (sym same)));
        }

    pub with_version-ChangesNamedEntry : ChangesNamedEntry contents (with_version contents path version) path
        (λ entry. record entry { version = version })
    with_version-ChangesNamedEntry = versioned_at (id_at contents path) refl

  module _ (contents : Contents T) where
    pub after_opening-LeavesOthers : (id : ℕ) (path : List ℕ) →
        LeavesOthers contents (after_opening contents id) id path
    after_opening-LeavesOthers id path = ChangesEntry-LeavesOthers contents _ id one_holder_more path
        (after_opening-ChangesEntry contents id)

    pub with_value-LeavesOthers : (id : ℕ) (value : T) (path : List ℕ) →
        LeavesOthers contents (with_value contents id value) id path
    with_value-LeavesOthers id value path =
        ChangesEntry-LeavesOthers contents _ id _ path (with_value-ChangesEntry contents id value)

    pub after_finish-LeavesOthers : (id : ℕ) (value : T) (version : ℕ) (path : List ℕ) →
        LeavesOthers contents (after_finish contents id value version) id path
    after_finish-LeavesOthers id value version path =
        ChangesEntry-LeavesOthers contents _ id _ path (after_finish-ChangesEntry contents id value version)

    pub with_version-LeavesOthers : (path : List ℕ) (version id : ℕ) → id_at contents path ≡ Some id →
        LeavesOthers contents (with_version contents path version) id path
    with_version-LeavesOthers path version id at =
        let changes = with_version-ChangesNamedEntry contents path version in
        record {
          entries = λ other apart. changes.others other (λ named. apart (same_Some other id (sym named ∙ at)));
          names = λ other apart. let names = changes.names in rw names;
        }

  -- ---- a new entry

  module _ (contents : Contents T) (path : List ℕ) (value : T) (version : ℕ) where
    pub after_creation-LeavesOthers : LeavesOthers contents (after_creation contents path value version)
        (length contents.slots) path
    after_creation-LeavesOthers = record {
      entries = λ other apart. ap entry_in (slot_of-after_creation-other contents path value version other apart);
      names = λ other apart. id_at-after_creation-other contents path value version other (differs path other apart);
    }

    pub after_creation-MakesEntry : MakesEntry contents (after_creation contents path value version) path value version
    after_creation-MakesEntry = record {
      name = id_at-after_creation-same contents path value version;
      entry = ap entry_in (slot_of-after_creation-same contents path value version);
      others = after_creation-LeavesOthers;
    }

  -- ---- a name that is taken, an entry that is let go, and one that is withdrawn

  module _ (contents : Contents T) (sound : IsSound contents) where
    taken : (path : List ℕ) (at : Option ℕ) → id_at contents path ≡ at →
        TakesName contents (without_found_name contents path at) path
    taken path None is = record {
      name = is;
      other_names = λ other apart. refl;
      entry = λ id named. absurd (none-some id (sym is ∙ named));
      other_entries = λ other apart. refl;
    }
    taken path (Some id) is =
        let slot : Slot T = slot_if_used false (slot_of contents id) in
        let here : entry_of (without_found_name contents path (Some id)) id ≡ if_held (entry_of contents id) =
        entry_of-with_slot-same (without_name contents path) id slot (λ none. ap (slot_if_used false) none)
        ∙ entry_in-slot_if_used (slot_of contents id) in
        record {
          name = id_at-gone contents sound path path refl;
          other_names = λ other apart. id_at-entry_in contents sound path other (differs path other apart);
          entry = λ other named.
              let same : id ≡ other = same_Some id other (sym is ∙ named) in
              subst (λ i. entry_of (without_found_name contents path (Some id)) i ≡ if_held (entry_of contents i)) same
              here;
          other_entries = λ other apart. entry_of-with_slot-other (without_name contents path) id slot other
              (λ same. apart (is ∙ ap Some (sym same)));
        }

    pub after_removal-TakesName : (path : List ℕ) → TakesName contents (after_removal contents path) path
    after_removal-TakesName path = taken path (id_at contents path) refl

    pub after_removal-LeavesOthers : (path : List ℕ) (id : ℕ) → id_at contents path ≡ Some id →
        LeavesOthers contents (after_removal contents path) id path
    after_removal-LeavesOthers path id at =
        let takes = after_removal-TakesName path in
        record {
          entries = λ other apart. takes.other_entries other (λ named. apart (same_Some other id (sym named ∙ at)));
          names = takes.other_names;
        }

    module _ (handle : Handle) where
      named : is_named contents handle ≡ true → id_at contents handle.path ≡ Some handle.id
      named h = is_id-true (id_at contents handle.path) handle.id h

      unnamed : is_named contents handle ≡ false → id_at contents handle.path ≢ Some handle.id
      unnamed h at = true≢false (sym (is_id-same (id_at contents handle.path) handle.id at) ∙ h)

      -- the slot that a handle leaves, over the names that are left
      module _ (names : List (List ℕ × ℕ)) (has_name : Bool) where
        abbrev let_go_of : Contents T
        let_go_of = record {
          names = names;
          slots = slice_set contents.slots handle.id
              (slot_if_used has_name (slot_with_holder_less (slot_of contents handle.id)));
        }

        let_go_entry : (entry : Entry T) → entry_of contents handle.id ≡ Some entry →
            entry_of let_go_of handle.id ≡ cond (not has_name && one_less entry.holders == 0) None
            (Some (one_holder_less entry))
        let_go_entry entry is =
            entry_of-with_slot-same contents handle.id
            (slot_if_used has_name (slot_with_holder_less (slot_of contents handle.id)))
            (λ none. ap (λ slot. slot_if_used has_name (slot_with_holder_less slot)) none)
            ∙ entry_in-slot_with_holder_less has_name entry (slot_of contents handle.id) is

        lets_go : (entry : Entry T) → entry_of contents handle.id ≡ Some entry → GivesUpName contents let_go_of handle
            → ((other : List ℕ) → other ≢ handle.path → id_at let_go_of other ≡ id_at contents other)
            → (id_at let_go_of handle.path ≡ Some handle.id → has_name ≡ true) →
            (has_name ≡ true → id_at let_go_of handle.path ≡ Some handle.id)
            → LetsGo contents let_go_of handle entry
        lets_go entry is gives_up other_names forth back = record {
          name = gives_up;
          stays = λ left. let_go_entry entry is ∙ cond-false _ None (Some (one_holder_less entry)) (elim left [
            | inl some ↦ and_right (not has_name) (one_less entry.holders == 0)
                (ne_eqb (one_less entry.holders) 0 (λ none. omega arith))
            | inr at ↦ ap (λ b. not b && one_less entry.holders == 0) (forth at)
          ]);
          ends = λ none gone. let_go_entry entry is
              ∙ cond-true _ None (Some (one_holder_less entry))
              (and_from (not has_name) (one_less entry.holders == 0) (elim (cases_Bool has_name) [
                | inl h ↦ absurd (gone (back h))
                | inr h ↦ ap not h
              ]) (eq-eqb (one_less entry.holders) 0 none));
          others = record {
            entries =
                entry_of-with_slot-other contents handle.id
                (slot_if_used has_name (slot_with_holder_less (slot_of contents handle.id)));
            names = other_names;
          };
        }

      module _ (entry : Entry T) (is : entry_of contents handle.id ≡ Some entry) where
        closing : (is_owner has_name : Bool) → handle.is_owner ≡ is_owner → is_named contents handle ≡ has_name
            → LetsGo contents (with_slot
            (if is_owner then (if has_name then without_name contents handle.path else contents) else contents)
            handle.id (slot_if_used (has_name && not is_owner)
            (slot_with_holder_less (slot_of contents handle.id)))) handle entry
        closing true true owns has =
            let gone : id_at (without_name contents handle.path) handle.path ≡ None =
            id_at-gone contents sound handle.path handle.path refl in
            lets_go _ false entry is
            (record {
              gone = λ _ _. gone;
              stays = λ kept_name.
                  elim kept_name [
                    | inl not_owner ↦ absurd (true≢false (sym owns ∙ not_owner))
                    | inr apart ↦ absurd (apart (named has))
                  ];
            })
            (λ other apart. id_at-entry_in contents sound handle.path other (differs handle.path other apart))
            (λ at. absurd (none-some handle.id (sym gone ∙ at)))
            (λ h. absurd (false≢true h))
        closing true false owns has =
            lets_go _ false entry is
            (record { gone = λ _ at. absurd (unnamed has at); stays = λ _. refl })
            (λ other apart. refl)
            (λ at. absurd (unnamed has at))
            (λ h. absurd (false≢true h))
        closing false true owns has =
            lets_go _ true entry is
            (record { gone = λ owner _. absurd (true≢false (sym owner ∙ owns)); stays = λ _. refl })
            (λ other apart. refl)
            (λ at. refl)
            (λ h. named has)
        closing false false owns has =
            lets_go _ false entry is
            (record { gone = λ owner _. absurd (true≢false (sym owner ∙ owns)); stays = λ _. refl })
            (λ other apart. refl)
            (λ at. absurd (unnamed has at))
            (λ h. absurd (false≢true h))

        pub after_close-LetsGo : LetsGo contents (after_close contents handle) handle entry
        after_close-LetsGo = closing handle.is_owner (is_named contents handle) refl refl

      closing_others : (is_owner has_name : Bool) →
          LeavesOthers contents (with_slot
          (if is_owner then (if has_name then without_name contents handle.path else contents) else contents) handle.id
          (slot_if_used (has_name && not is_owner) (slot_with_holder_less (slot_of contents handle.id)))) handle.id
          handle.path
      closing_others true true =
          record {
            entries = entry_of-with_slot-other contents handle.id _;
            names = λ other apart.
                id_at-entry_in contents sound handle.path other (differs handle.path other apart);
          }
      closing_others true false =
          record { entries = entry_of-with_slot-other contents handle.id _; names = λ other apart. refl }
      closing_others false has_name =
          record { entries = entry_of-with_slot-other contents handle.id _; names = λ other apart. refl }

      pub after_close-LeavesOthers : LeavesOthers contents (after_close contents handle) handle.id handle.path
      after_close-LeavesOthers = closing_others handle.is_owner (is_named contents handle)

      withdrawing : (has_name : Bool) → is_named contents handle ≡ has_name →
          Withdraws contents (with_slot (if has_name then without_name contents handle.path else contents) handle.id
          Ended) handle
      withdrawing true has = record {
        name = λ at. id_at-gone contents sound handle.path handle.path refl;
        other_name = λ apart. absurd (apart (named has));
        entry = entry_of-with_slot-same contents handle.id Ended (λ none. refl);
        others = record {
          entries = entry_of-with_slot-other contents handle.id Ended;
          names = λ other apart.
              id_at-entry_in contents sound handle.path other (differs handle.path other apart);
        };
      }
      withdrawing false has = record {
        name = λ at. absurd (unnamed has at);
        other_name = λ apart. refl;
        entry = entry_of-with_slot-same contents handle.id Ended (λ none. refl);
        others = record { entries = entry_of-with_slot-other contents handle.id Ended; names = λ other apart. refl };
      }

      pub after_withdrawal-Withdraws : Withdraws contents (after_withdrawal contents handle) handle
      after_withdrawal-Withdraws = withdrawing (is_named contents handle) refl

      pub after_withdrawal-LeavesOthers : LeavesOthers contents (after_withdrawal contents handle) handle.id handle.path
      after_withdrawal-LeavesOthers = let withdraws = after_withdrawal-Withdraws in withdraws.others
