-- No change uses an id again.
use Rattle.std.proofs.Common.{◌≡◌, ℕ, ◌<◌, ◌≤◌, Bool, true, false, not, ◌&&◌, List, [], ◌∷◌, length, Option, Some, None, IsSomeAnd, subst, if◌then◌else◌, slice_set, refl, sym, ap, ◌∙◌, inl, inr, arith, length-set}
use Rattle.std.proofs.lemmas.Bool.{cases_eq}
use Rattle.std.proofs.lemmas.List.{length_push}
use Rattle.std.proofs.lemmas.Option.{none-some, same_Some}
use Rattle.cal_storage.specs.declared.entry.Entry.{Entry}
use Rattle.cal_storage.specs.declared.entry.Slot.{Slot}
use Rattle.cal_storage.specs.declared.entry.Slot.TheVariants.{Ended, Kept}
use Rattle.cal_storage.specs.Changes.{Change, creates, opens, removes, closes, finishes, withdraws, sets_value, sets_version, after, after_all}
use Rattle.cal_storage.specs.Contents.{Contents, Handle, entry_in, slot_with, slot_with_holder, slot_with_holder_less, slot_if_used, slot_with_value, slot_with_version, id_at, slot_of, entry_of, with_slot, without_name, after_creation, after_opening, without_found_name, after_removal, is_named, after_close, after_finish, after_withdrawal, with_value, with_version_of, with_version}
use Rattle.cal_storage.specs.ContentsLaws.{IsLater, one_holder_more, one_holder_less}
use Rattle.cal_storage.specs.SoundnessLemmas.{slot_if_used-slot_with_holder, entry_of-with_slot-same, entry_of-with_slot-other, slot_of-after_creation-other}

module _ {T : Type 0} where
  -- where an id has an entry that it had, under the same path, an entry that had ended stays so
  later : (old new : Contents T) → length old.slots ≤ length new.slots
      → ((id : ℕ) (entry : Entry T) → id < length old.slots → entry_of new id ≡ Some entry → IsSomeAnd (entry_of old id)
      (λ before. before.path ≡ entry.path))
      → IsLater old new
  later old new made same = record {
    made = made;
    ended = λ id within none. stays_none (entry_of new id)
        (λ entry is. subst (λ o. IsSomeAnd o (λ before. before.path ≡ entry.path)) none (same id entry within is));
    same = same;
  }
    where
      stays_none : (at : Option (Entry T)) → ((entry : Entry T) → at ≡ Some entry → ⊥) → at ≡ None
      stays_none None never = refl
      stays_none (Some entry) never = absurd (never entry refl)

  its_own : (at : Option (Entry T)) (entry : Entry T) → at ≡ Some entry →
      IsSomeAnd at (λ before. before.path ≡ entry.path)
  its_own at entry is = subst (λ o. IsSomeAnd o (λ before. before.path ≡ entry.path)) (sym is) refl

  pub IsLater-same : (contents : Contents T) → IsLater contents contents
  IsLater-same contents = later contents contents (omega arith)
      (λ id entry within is. its_own (entry_of contents id) entry is)

  paths_chain : (first second : Option (Entry T)) (entry : Entry T) →
      ((middle : Entry T) → second ≡ Some middle → IsSomeAnd first (λ before. before.path ≡ middle.path)) →
      IsSomeAnd second (λ before. before.path ≡ entry.path) → IsSomeAnd first (λ before. before.path ≡ entry.path)
  paths_chain first None entry one two = absurd two
  paths_chain first (Some middle) entry one two = subst
      (λ path. IsSomeAnd first (λ before. before.path ≡ path)) two (one middle refl)

  pub IsLater-then : (first second third : Contents T) → IsLater first second → IsLater second third →
      IsLater first third
  IsLater-then first second third one two =
      later first third (omega (arith, one.made, two.made)) (λ id entry within is.
      paths_chain (entry_of first id) (entry_of second id) entry
      (λ middle at. one.same id middle within at) (two.same id entry (omega (arith, within, one.made)) is))

  -- where a slot keeps the path of its entry
  module _ (contents : Contents T) (names : List (List ℕ × ℕ)) (id : ℕ) (change : Slot T → Slot T)
      (keeps : (slot : Slot T) (entry : Entry T) → entry_in (change slot) ≡ Some entry → IsSomeAnd (entry_in slot)
      (λ before. before.path ≡ entry.path)) where
    no_entry : (slot : Slot T) → ((entry : Entry T) → entry_in slot ≡ Some entry → ⊥) → slot ≡ Ended
    no_entry Ended never = refl
    no_entry (Kept entry) never = absurd (never entry refl)

    stays_ended : slot_of contents id ≡ Ended → change (slot_of contents id) ≡ Ended
    stays_ended none = ap change none ∙ no_entry (change Ended) (keeps Ended)

    pub set-IsLater : IsLater contents
        (record { names = names; slots = slice_set contents.slots id (change (slot_of contents id)) })
    set-IsLater =
        later contents (record { names = names; slots = slice_set contents.slots id (change (slot_of contents id)) })
        (omega (arith, length-set contents.slots id (change (slot_of contents id))))
        (λ other entry within is. elim (cases_eq other id) [
          | inl same ↦
              let at : entry_in (change (slot_of contents id)) ≡ Some entry =
              sym (entry_of-with_slot-same contents id (change (slot_of contents id)) stays_ended)
              ∙ ap (entry_of (with_slot contents id (change (slot_of contents id)))) (sym same) ∙ is in
              subst (λ i. IsSomeAnd (entry_of contents i) (λ before. before.path ≡ entry.path)) (sym same)
              (keeps (slot_of contents id) entry at)
          | inr apart ↦ its_own (entry_of contents other) entry
              (sym (entry_of-with_slot-other contents id (change (slot_of contents id)) other apart) ∙ is)
        ])

  module _ (change : Entry T → Entry T) (keeps_path : (entry : Entry T) → (change entry).path ≡ entry.path) where
    slot_with-keeps : (slot : Slot T) (entry : Entry T) → entry_in (slot_with change slot) ≡ Some entry →
        IsSomeAnd (entry_in slot) (λ before. before.path ≡ entry.path)
    slot_with-keeps Ended entry is = absurd (none-some entry is)
    slot_with-keeps (Kept old) entry is = sym (keeps_path old) ∙ ap
        (λ (e : Entry T). e.path) (same_Some (change old) entry is)

  slot_if_used-keeps : (has_name : Bool) (slot : Slot T) (entry : Entry T) →
      entry_in (slot_if_used has_name slot) ≡ Some entry → IsSomeAnd (entry_in slot)
      (λ before. before.path ≡ entry.path)
  slot_if_used-keeps has_name slot entry is =
      its_own (entry_in slot) entry ((slot_if_used-slot_with_holder has_name slot entry is).1)

  slot_with_holder_less-keeps : (has_name : Bool) (slot : Slot T) (entry : Entry T) →
      entry_in (slot_if_used has_name (slot_with_holder_less slot)) ≡ Some entry → IsSomeAnd (entry_in slot)
      (λ before. before.path ≡ entry.path)
  slot_with_holder_less-keeps has_name slot entry is = slot_with-keeps one_holder_less
      (λ e. refl) slot entry ((slot_if_used-slot_with_holder has_name (slot_with_holder_less slot) entry is).1)

  finish-keeps : (value : T) (version : ℕ) (slot : Slot T) (entry : Entry T) →
      entry_in (slot_with_version version (slot_with_value value slot)) ≡ Some entry → IsSomeAnd (entry_in slot)
      (λ before. before.path ≡ entry.path)
  finish-keeps value version Ended entry is = absurd (none-some entry is)
  finish-keeps value version (Kept old) entry is = ap (λ (e : Entry T). e.path) (same_Some _ entry is)

  module _ (contents : Contents T) where
    pub after_creation-IsLater : (path : List ℕ) (value : T) (version : ℕ) →
        IsLater contents (after_creation contents path value version)
    after_creation-IsLater path value version =
        later contents (after_creation contents path value version)
        (omega (
          arith,
          length_push contents.slots
              (Kept (record { path = path; value = value; version = version; holders = 1 })),
        ))
        (λ id entry within is. its_own (entry_of contents id) entry
        (sym (ap entry_in (slot_of-after_creation-other contents path value version id
        (λ same. omega (arith, within, same)))) ∙ is))

    pub after_opening-IsLater : (id : ℕ) → IsLater contents (after_opening contents id)
    after_opening-IsLater id = set-IsLater contents contents.names id slot_with_holder
        (slot_with-keeps one_holder_more (λ e. refl))

    pub with_value-IsLater : (id : ℕ) (value : T) → IsLater contents (with_value contents id value)
    with_value-IsLater id value = set-IsLater contents contents.names id (slot_with_value value)
        (slot_with-keeps (λ entry. record entry { value = value }) (λ e. refl))

    pub after_finish-IsLater : (id : ℕ) (value : T) (version : ℕ) →
        IsLater contents (after_finish contents id value version)
    after_finish-IsLater id value version = set-IsLater contents contents.names id
        (λ slot. slot_with_version version (slot_with_value value slot)) (finish-keeps value version)

    with_version_of-IsLater : (version : ℕ) (at : Option ℕ) → IsLater contents (with_version_of contents version at)
    with_version_of-IsLater version None = IsLater-same contents
    with_version_of-IsLater version (Some id) = set-IsLater contents contents.names id (slot_with_version version)
        (slot_with-keeps (λ entry. record entry { version = version }) (λ e. refl))

    pub with_version-IsLater : (path : List ℕ) (version : ℕ) → IsLater contents (with_version contents path version)
    with_version-IsLater path version = with_version_of-IsLater version (id_at contents path)

    without_found_name-IsLater : (path : List ℕ) (at : Option ℕ) →
        IsLater contents (without_found_name contents path at)
    without_found_name-IsLater path None = IsLater-same contents
    without_found_name-IsLater path (Some id) =
        set-IsLater contents _ id (slot_if_used false) (slot_if_used-keeps false)

    pub after_removal-IsLater : (path : List ℕ) → IsLater contents (after_removal contents path)
    after_removal-IsLater path = without_found_name-IsLater path (id_at contents path)

    module _ (handle : Handle) where
      closing : (is_owner named : Bool) →
          IsLater contents (with_slot
          (if is_owner then (if named then without_name contents handle.path else contents) else contents) handle.id
          (slot_if_used (named && not is_owner) (slot_with_holder_less (slot_of contents handle.id))))
      closing true true = set-IsLater contents _ handle.id
          (λ slot. slot_if_used false (slot_with_holder_less slot)) (slot_with_holder_less-keeps false)
      closing true false = set-IsLater contents _ handle.id
          (λ slot. slot_if_used false (slot_with_holder_less slot)) (slot_with_holder_less-keeps false)
      closing false true = set-IsLater contents _ handle.id
          (λ slot. slot_if_used true (slot_with_holder_less slot)) (slot_with_holder_less-keeps true)
      closing false false = set-IsLater contents _ handle.id
          (λ slot. slot_if_used false (slot_with_holder_less slot)) (slot_with_holder_less-keeps false)

      pub after_close-IsLater : IsLater contents (after_close contents handle)
      after_close-IsLater = closing handle.is_owner (is_named contents handle)

      withdrawing : (named : Bool) →
          IsLater contents (with_slot (if named then without_name contents handle.path else contents) handle.id Ended)
      withdrawing true = set-IsLater contents _ handle.id (λ slot. Ended) (λ slot entry is. absurd (none-some entry is))
      withdrawing false = set-IsLater contents _ handle.id (λ slot. Ended)
          (λ slot entry is. absurd (none-some entry is))

      pub after_withdrawal-IsLater : IsLater contents (after_withdrawal contents handle)
      after_withdrawal-IsLater = withdrawing (is_named contents handle)

    pub after-IsLater : (change : Change T) → IsLater contents (after contents change)
    after-IsLater (creates path value version) = after_creation-IsLater path value version
    after-IsLater (opens id) = after_opening-IsLater id
    after-IsLater (removes path) = after_removal-IsLater path
    after-IsLater (closes handle) = after_close-IsLater handle
    after-IsLater (finishes id value version) = after_finish-IsLater id value version
    after-IsLater (withdraws handle) = after_withdrawal-IsLater handle
    after-IsLater (sets_value id value) = with_value-IsLater id value
    after-IsLater (sets_version path version) = with_version-IsLater path version

  pub after_all-IsLater : (contents : Contents T) (changes : List (Change T)) →
      IsLater contents (after_all contents changes)
  after_all-IsLater contents [] = IsLater-same contents
  after_all-IsLater contents (change ∷ changes) =
      IsLater-then contents (after contents change) (after_all (after contents change) changes)
      (after-IsLater contents change) (after_all-IsLater (after contents change) changes)
