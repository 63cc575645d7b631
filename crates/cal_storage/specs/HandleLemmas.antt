-- A registry stays sound over runs of changes, and keeps the entry of a handle that they spare.
use Rattle.std.proofs.Common.{◌≡◌, ◌≢◌, ℕ, ◌<◌, ◌==◌, List, [], ◌∷◌, length, Option, Some, None, IsSomeAnd, option_map, refl, sym, ap, subst, ◌∙◌, inl, inr, true≢false, arith, ne_eqb}
use Rattle.std.proofs.lemmas.Bool.{cases_Bool, cases_eq, cond-false}
use Rattle.std.proofs.lemmas.List.{get_or_past}
use Rattle.cal_storage.specs.declared.entry.Entry.{Entry}
use Rattle.cal_storage.specs.declared.entry.Slot.TheVariants.{Ended}
use Rattle.cal_storage.specs.Changes.{Change, creates, opens, removes, closes, finishes, withdraws, sets_value, sets_version, after, after_all, IsAllowed, IsRun, IsHeld, IsShared, Spares}
use Rattle.cal_storage.specs.Contents.{Contents, Handle, is_id, entry_in, one_less, id_at, entry_of, Has, after_creation, after_withdrawal}
use Rattle.cal_storage.specs.ContentsLaws.{IsLater, LeavesOthers, ChangesEntry, ChangesNamedEntry, TakesName, LetsGo, if_held}
use Rattle.cal_storage.specs.Soundness.{IsSound}
use Rattle.cal_storage.specs.EntryLemmas.{after_opening-ChangesEntry, with_value-ChangesEntry, after_finish-ChangesEntry, with_version-ChangesNamedEntry, after_creation-LeavesOthers, after_removal-TakesName, after_close-LetsGo, after_withdrawal-Withdraws}
use Rattle.cal_storage.specs.SoundnessLemmas.{is_id-true, is_id-same, after_creation-IsSound, after_opening-IsSound, after_removal-IsSound, after_close-IsSound, after_finish-IsSound, after_withdrawal-IsSound, with_value-IsSound, with_version-IsSound}

module _ {T : Type 0} where
  -- ---- soundness

  pub after-IsSound : (contents : Contents T) (change : Change T) → IsSound contents → IsAllowed contents change →
      IsSound (after contents change)
  after-IsSound contents (creates path value version) sound allowed = after_creation-IsSound contents sound path value
      version allowed.0 allowed.1
  after-IsSound contents (opens id) sound allowed = after_opening-IsSound contents sound id
  after-IsSound contents (removes path) sound allowed = after_removal-IsSound contents sound path
  after-IsSound contents (closes handle) sound allowed = after_close-IsSound contents sound handle allowed
  after-IsSound contents (finishes id value version) sound allowed =
      after_finish-IsSound contents sound id value version
  after-IsSound contents (withdraws handle) sound allowed = after_withdrawal-IsSound contents sound handle allowed
  after-IsSound contents (sets_value id value) sound allowed = with_value-IsSound contents sound id value
  after-IsSound contents (sets_version path version) sound allowed = with_version-IsSound contents sound path version

  pub after_all-IsSound : (contents : Contents T) (changes : List (Change T)) → IsSound contents →
      IsRun contents changes → IsSound (after_all contents changes)
  after_all-IsSound contents [] sound run = sound
  after_all-IsSound contents (change ∷ changes) sound run = after_all-IsSound (after contents change) changes
      (after-IsSound contents change sound run.0) run.1

  -- ---- the entry of a handle

  -- what a handle's entry is
  pub has_entry : (contents : Contents T) (handle : Handle) → Has contents handle →
      (entry : Entry T) × (entry_of contents handle.id ≡ Some entry)
  has_entry contents handle has = from (entry_of contents handle.id) has
    where
      from : (at : Option (Entry T)) → IsSomeAnd at (λ entry. entry.path ≡ handle.path) →
          (entry : Entry T) × (at ≡ Some entry)
      from None h = absurd h
      from (Some entry) h = (entry, refl)

  module _ (old new : Contents T) (handle : Handle) (has : Has old handle) where
    pub Has-same : entry_of new handle.id ≡ entry_of old handle.id → Has new handle
    Has-same same = subst (λ o. IsSomeAnd o (λ entry. entry.path ≡ handle.path)) (sym same) has

    -- what a registry has of an id that was made, it had before
    pub Has-before : (older : Contents T) → IsLater older old → handle.id < length older.slots → Has older handle
    Has-before older is_later within = from (entry_of old handle.id) refl has
      where
        from : (at : Option (Entry T)) → entry_of old handle.id ≡ at →
            IsSomeAnd at (λ entry. entry.path ≡ handle.path) → Has older handle
        from None is h = absurd h
        from (Some entry) is h = subst (λ path. IsSomeAnd (entry_of older handle.id) (λ before. before.path ≡ path)) h
            (is_later.same handle.id entry within is)

    pub Has-LeavesOthers : (id : ℕ) (path : List ℕ) → handle.id ≢ id → LeavesOthers old new id path → Has new handle
    Has-LeavesOthers id path apart leaves = Has-same (leaves.entries handle.id apart)

    still_there : (change : Entry T → Entry T) → ((entry : Entry T) → (change entry).path ≡ entry.path) →
        (at : Option (Entry T)) → IsSomeAnd at (λ entry. entry.path ≡ handle.path) → IsSomeAnd (option_map change at)
        (λ entry. entry.path ≡ handle.path)
    still_there change keeps_path None h = h
    still_there change keeps_path (Some entry) h = keeps_path entry ∙ h

    changes_here : (change : Entry T → Entry T) → ((entry : Entry T) → (change entry).path ≡ entry.path) →
        entry_of new handle.id ≡ option_map change (entry_of old handle.id) → Has new handle
    changes_here change keeps_path is = subst
        (λ o. IsSomeAnd o (λ entry. entry.path ≡ handle.path)) (sym is)
        (still_there change keeps_path (entry_of old handle.id) has)

    pub Has-ChangesEntry : (id : ℕ) (change : Entry T → Entry T) →
        ((entry : Entry T) → (change entry).path ≡ entry.path) → ChangesEntry old new id change → Has new handle
    Has-ChangesEntry id change keeps_path changes =
        elim (cases_eq handle.id id) [
          | inl same ↦ changes_here change keeps_path
              (subst (λ i. entry_of new i ≡ option_map change (entry_of old i)) (sym same) changes.entry)
          | inr apart ↦ Has-same (changes.others handle.id apart)
        ]

    -- whether a path stands for the handle's id
    stands : (path : List ℕ) → (id_at old path ≡ Some handle.id → Has new handle) →
        (id_at old path ≢ Some handle.id → Has new handle) → Has new handle
    stands path where_named otherwise =
        elim (cases_Bool (is_id (id_at old path) handle.id)) [
          | inl h ↦ where_named (is_id-true (id_at old path) handle.id h)
          | inr h ↦ otherwise (λ at. true≢false (sym (is_id-same (id_at old path) handle.id at) ∙ h))
        ]

    pub Has-ChangesNamedEntry : (path : List ℕ) (change : Entry T → Entry T) →
        ((entry : Entry T) → (change entry).path ≡ entry.path) → ChangesNamedEntry old new path change → Has new handle
    Has-ChangesNamedEntry path change keeps_path changes = stands path
        (λ at. changes_here change keeps_path (changes.entry handle.id at))
        (λ apart. Has-same (changes.others handle.id apart))

    held_stays : (at : Option (Entry T)) → IsSomeAnd at (λ entry. 0 < entry.holders) → if_held at ≡ at
    held_stays None h = absurd h
    held_stays (Some entry) h = cond-false (entry.holders == 0) None (Some entry)
        (ne_eqb entry.holders 0 (λ none. omega arith))

    pub Has-TakesName : (path : List ℕ) → (id_at old path ≡ Some handle.id → IsHeld old handle.id) →
        TakesName old new path → Has new handle
    Has-TakesName path somebody takes = stands path
        (λ at. Has-same (takes.entry handle.id at ∙ held_stays (entry_of old handle.id) (somebody at)))
        (λ apart. Has-same (takes.other_entries handle.id apart))

    -- another handle on the same entry is left
    another_left : (entry : Entry T) → entry_of old handle.id ≡ Some entry → IsShared old handle.id →
        0 < one_less entry.holders
    another_left entry is shared =
        let more : 1 < entry.holders = subst (λ o. IsSomeAnd o (λ e. 1 < e.holders)) is shared in
        grind arith

    pub Has-LetsGo : (other : Handle) (entry : Entry T) → entry_of old other.id ≡ Some entry →
        (other.id ≡ handle.id → IsShared old handle.id) → LetsGo old new other entry → Has new handle
    Has-LetsGo other entry is shared goes =
        elim (cases_eq handle.id other.id) [
          | inl same ↦
              let here : entry_of old handle.id ≡ Some entry = ap (entry_of old) same ∙ is in
              let its_path : entry.path ≡ handle.path = subst (λ o. IsSomeAnd o (λ e. e.path ≡ handle.path)) here has in
              let stays = goes.stays (inl (another_left entry here (shared (sym same)))) in
              subst (λ o. IsSomeAnd o (λ e. e.path ≡ handle.path)) (sym (ap (entry_of new) same ∙ stays)) its_path
          | inr apart ↦ Has-same (goes.others.entries handle.id apart)
        ]

  -- an entry that is there isn't that of an id yet to be made
  pub Has-after_creation : (contents : Contents T) (path : List ℕ) (value : T) (version : ℕ) (handle : Handle) →
      Has contents handle → Has (after_creation contents path value version) handle
  Has-after_creation contents path value version handle has =
      Has-LeavesOthers contents (after_creation contents path value version) handle has (length contents.slots) path
      (λ same.
      let none : entry_of contents handle.id ≡ None =
      ap entry_in (get_or_past contents.slots handle.id Ended (omega arith)) in
      subst (λ o. IsSomeAnd o (λ entry. entry.path ≡ handle.path)) none has)
      (after_creation-LeavesOthers contents path value version)

  pub after-Has : (contents : Contents T) (change : Change T) (handle : Handle) → IsSound contents →
      IsAllowed contents change → Has contents handle → Spares contents change handle.id →
      Has (after contents change) handle
  after-Has contents (creates path value version) handle sound allowed has spares =
      Has-after_creation contents path value version handle has
  after-Has contents (opens id) handle sound allowed has spares =
      Has-ChangesEntry contents _ handle has id _ (λ entry. refl) (after_opening-ChangesEntry contents id)
  after-Has contents (removes path) handle sound allowed has spares = Has-TakesName contents _ handle has path spares
      (after_removal-TakesName contents sound path)
  after-Has contents (closes other) handle sound allowed has spares =
      let at = has_entry contents other allowed in
      Has-LetsGo contents _ handle has other at.0 at.1 spares (after_close-LetsGo contents sound other at.0 at.1)
  after-Has contents (finishes id value version) handle sound allowed has spares =
      Has-ChangesEntry contents _ handle has id _ (λ entry. refl) (after_finish-ChangesEntry contents id value version)
  after-Has contents (withdraws other) handle sound allowed has spares =
      let gone = after_withdrawal-Withdraws contents sound other in
      Has-LeavesOthers contents (after_withdrawal contents other) handle has other.id other.path
      (λ same. spares (sym same)) gone.others
  after-Has contents (sets_value id value) handle sound allowed has spares =
      Has-ChangesEntry contents _ handle has id _ (λ entry. refl) (with_value-ChangesEntry contents id value)
  after-Has contents (sets_version path version) handle sound allowed has spares =
      Has-ChangesNamedEntry contents _ handle has path _ (λ entry. refl)
      (with_version-ChangesNamedEntry contents path version)
