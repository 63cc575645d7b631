-- That each entry of a registry stays finished, and that what a path of a later segment stands for stays nothing.
use Rattle.std.proofs.Common.{◌≡◌, ℕ, ◌==◌, Bool, true, false, not, ◌&&◌, if◌then◌else◌, Option, Some, None, List, [], ◌∷◌, length, option_map, refl, sym, ap, ◌∙◌, inl, inr}
use Rattle.std.specs.Map.{lookup, remove_entry}
use Rattle.std.proofs.lemmas.Bool.{cases_eq}
use Rattle.std.proofs.lemmas.Option.{none-some, same_Some}
use Rattle.cal_storage.specs.declared.entry.Entry.{Entry}
use Rattle.cal_storage.specs.declared.entry.Slot.{Slot}
use Rattle.cal_storage.specs.declared.entry.Slot.TheVariants.{Ended, Kept}
use Rattle.cal_storage.specs.Contents.{Contents, is_path, is_named, entry_in, slot_with_holder_less, slot_if_used, one_less, id_at, slot_of, entry_of, value_of, with_slot, without_name, without_own_name, after_creation, after_opening, after_close, with_value}
use Rattle.cal_storage.specs.ContentsLaws.{ChangesEntry, one_holder_more}
use Rattle.cal_storage.specs.EntryLemmas.{after_creation-MakesEntry, after_creation-LeavesOthers, after_opening-ChangesEntry, with_value-ChangesEntry}
use Rattle.cal_storage.specs.Refusals.{finished_version}
use Rattle.cal_storage.specs.SoundnessLemmas.{entry_of-with_slot-same}
use Rattle.cal_storage.specs.ValueLemmas.{entry_of-after_close-other}
use Rattle.cal_resizable.specs.Slots.{Handle, HeldSegment, after_retiring}
use Rattle.cal_resizable.specs.Together.{AllFinished}

module _ {T : Type 0} where
  changed_version : (change : Entry T → Entry T) → ((entry : Entry T) → (change entry).version ≡ entry.version) →
      (at : Option (Entry T)) → ((was : Entry T) → at ≡ Some was → was.version ≡ finished_version) → (is : Entry T) →
      option_map change at ≡ Some is → is.version ≡ finished_version
  changed_version change keeps None finished is there = absurd (none-some is there)
  changed_version change keeps (Some was) finished is there =
      ap (λ (entry : Entry T). entry.version) (sym (same_Some (change was) is there)) ∙ keeps was ∙ finished was refl

  pub AllFinished-ChangesEntry : (old new : Contents T) (id : ℕ) (change : Entry T → Entry T) →
      ((entry : Entry T) → (change entry).version ≡ entry.version) → ChangesEntry old new id change →
      AllFinished old → AllFinished new
  AllFinished-ChangesEntry old new id change keeps changes finished other is there = elim (cases_eq other id) [
    | inl same ↦
        changed_version change keeps (entry_of old id) (finished id) is
        (sym changes.entry ∙ ap (entry_of new) (sym same) ∙ there)
    | inr apart ↦ finished other is (sym (changes.others other apart) ∙ there)
  ]

  pub AllFinished-after_opening : (contents : Contents T) (id : ℕ) → AllFinished contents →
      AllFinished (after_opening contents id)
  AllFinished-after_opening contents id =
      AllFinished-ChangesEntry contents (after_opening contents id) id (one_holder_more {T = T}) (λ entry. refl)
      (after_opening-ChangesEntry contents id)

  pub AllFinished-with_value : (contents : Contents T) (id : ℕ) (value : T) → AllFinished contents →
      AllFinished (with_value contents id value)
  AllFinished-with_value contents id value =
      AllFinished-ChangesEntry contents (with_value contents id value) id (λ entry. record entry { value = value })
      (λ entry. refl) (with_value-ChangesEntry contents id value)

  pub AllFinished-after_creation : (contents : Contents T) (path : List ℕ) (value : T) → AllFinished contents →
      AllFinished (after_creation contents path value finished_version)
  AllFinished-after_creation contents path value finished other is there =
      elim (cases_eq other (length contents.slots)) [
        | inl same ↦
            let makes = after_creation-MakesEntry contents path value finished_version in
            ap (λ (entry : Entry T). entry.version)
            (sym (same_Some _ is (sym makes.entry
            ∙ ap (entry_of (after_creation contents path value finished_version)) (sym same) ∙ there)))
        | inr apart ↦
            let leaves = after_creation-LeavesOthers contents path value finished_version in
            finished other is (sym (leaves.entries other apart) ∙ there)
      ]

  -- a handle closes

  module _ (contents : Contents T) (handle : Handle) where
    abbrev unnamed : Contents T
    unnamed = if handle.is_owner then without_own_name contents handle else contents

    abbrev left_slot : Slot T
    left_slot = slot_if_used (is_named contents handle && not handle.is_owner)
        (slot_with_holder_less (slot_of contents handle.id))

    same_slot : slot_of unnamed handle.id ≡ slot_of contents handle.id
    same_slot = from handle.is_owner (is_named contents handle)
      where
        from : (owner named : Bool) →
            slot_of (if owner then (if named then without_name contents handle.path else contents) else contents)
            handle.id ≡ slot_of contents handle.id
        from true true = refl
        from true false = refl
        from false named = refl

    left_entry : entry_of (after_close contents handle) handle.id ≡ entry_in left_slot
    left_entry = entry_of-with_slot-same unnamed handle.id left_slot
        (λ none. ap (λ slot. slot_if_used (is_named contents handle && not handle.is_owner)
        (slot_with_holder_less slot)) (sym same_slot ∙ none))

    left_version : (stays : Bool) (slot : Slot T) →
        ((was : Entry T) → entry_in slot ≡ Some was → was.version ≡ finished_version) → (is : Entry T) →
        entry_in (slot_if_used stays (slot_with_holder_less slot)) ≡ Some is → is.version ≡ finished_version
    left_version stays Ended finished is there = absurd (none-some is there)
    left_version stays (Kept was) finished is there =
        by_test (not stays && one_less was.holders == 0) there
      where
        by_test : (test : Bool) →
            entry_in (if test then Ended else Kept (record was { holders = one_less was.holders })) ≡ Some is →
            is.version ≡ finished_version
        by_test true there = absurd (none-some is there)
        by_test false there =
            ap (λ (entry : Entry T). entry.version) (sym (same_Some _ is there)) ∙ finished was refl

    pub AllFinished-after_close : AllFinished contents → AllFinished (after_close contents handle)
    AllFinished-after_close finished other is there = elim (cases_eq other handle.id) [
      | inl same ↦
          left_version (is_named contents handle && not handle.is_owner) (slot_of contents handle.id)
          (finished handle.id) is
          (sym left_entry ∙ ap (entry_of (after_close contents handle)) (sym same) ∙ there)
      | inr apart ↦ finished other is (sym (entry_of-after_close-other contents handle other apart) ∙ there)
    ]

    -- a value that is there still is as it was
    left_value : (stays : Bool) (slot : Slot T) (value : T) →
        option_map (λ (entry : Entry T). entry.value) (entry_in (slot_if_used stays (slot_with_holder_less slot)))
        ≡ Some value → option_map (λ (entry : Entry T). entry.value) (entry_in slot) ≡ Some value
    left_value stays Ended value there = absurd (none-some value there)
    left_value stays (Kept was) value there =
        by_test (not stays && one_less was.holders == 0) there
      where
        by_test : (test : Bool) → option_map (λ (entry : Entry T). entry.value)
            (entry_in (if test then Ended else Kept (record was { holders = one_less was.holders }))) ≡ Some value →
            Some was.value ≡ Some value
        by_test true there = absurd (none-some value there)
        by_test false there = there

    pub value-after_close : (id : ℕ) (value : T) → value_of (after_close contents handle) id ≡ Some value →
        value_of contents id ≡ Some value
    value-after_close id value there = elim (cases_eq id handle.id) [
      | inl same ↦
          ap (value_of contents) same
          ∙ left_value (is_named contents handle && not handle.is_owner) (slot_of contents handle.id) value
          (ap (option_map (λ (entry : Entry T). entry.value)) (sym left_entry)
          ∙ ap (value_of (after_close contents handle)) (sym same) ∙ there)
      | inr apart ↦
          ap (option_map (λ (entry : Entry T). entry.value))
          (sym (entry_of-after_close-other contents handle id apart)) ∙ there
    ]

    -- what stood for nothing does so still
    lookup_parts : (found : Bool) (id : ℕ) (rest : Option ℕ) → (if found then Some id else rest) ≡ None →
        (found ≡ false) × (rest ≡ None)
    lookup_parts true id rest is = absurd (none-some id (sym is))
    lookup_parts false id rest is = (refl, is)

    lookup_left : (path : List ℕ) (names : List (List ℕ × ℕ)) → lookup (is_path path) names ≡ None →
        lookup (is_path path) (remove_entry (is_path handle.path) names) ≡ None
    lookup_left path [] none = none
    lookup_left path (name ∷ names) none =
        let parts = lookup_parts (is_path path name.0) name.1 (lookup (is_path path) names) none in
        elim (is_path handle.path name.0)
        as (λ removed. lookup (is_path path)
        (if removed then names else name ∷ remove_entry (is_path handle.path) names) ≡ None) [
          | true ↦ parts.1
          | false ↦
              ap (λ found. if found then Some name.1
              else lookup (is_path path) (remove_entry (is_path handle.path) names)) parts.0
              ∙ lookup_left path names parts.1
        ]

    pub none-after_close : (path : List ℕ) → id_at contents path ≡ None →
        id_at (after_close contents handle) path ≡ None
    none-after_close path none = from handle.is_owner (is_named contents handle)
      where
        from : (owner named : Bool) → id_at (with_slot (if owner then (if named then without_name contents handle.path
            else contents) else contents) handle.id left_slot) path ≡ None
        from true true = lookup_left path contents.names none
        from true false = none
        from false named = none

  pub AllFinished-after_retiring : (contents : Contents T) (slot : Option HeldSegment) → AllFinished contents →
      AllFinished (after_retiring contents slot)
  AllFinished-after_retiring contents None finished = finished
  AllFinished-after_retiring contents (Some held) finished = by_test (held.count == 0)
    where
      by_test : (test : Bool) → AllFinished (if test then after_close contents held.handle else contents)
      by_test true = AllFinished-after_close contents held.handle finished
      by_test false = finished

  pub value-after_retiring : (contents : Contents T) (slot : Option HeldSegment) (id : ℕ) (value : T) →
      value_of (after_retiring contents slot) id ≡ Some value → value_of contents id ≡ Some value
  value-after_retiring contents None id value there = there
  value-after_retiring contents (Some held) id value there = by_test (held.count == 0) there
    where
      by_test : (test : Bool) → value_of (if test then after_close contents held.handle else contents) id ≡ Some value →
          value_of contents id ≡ Some value
      by_test true there = value-after_close contents held.handle id value there
      by_test false there = there

  pub none-after_retiring : (contents : Contents T) (slot : Option HeldSegment) (path : List ℕ) →
      id_at contents path ≡ None → id_at (after_retiring contents slot) path ≡ None
  none-after_retiring contents None path none = none
  none-after_retiring contents (Some held) path none = by_test (held.count == 0)
    where
      by_test : (test : Bool) → id_at (if test then after_close contents held.handle else contents) path ≡ None
      by_test true = none-after_close contents held.handle path none
      by_test false = none
