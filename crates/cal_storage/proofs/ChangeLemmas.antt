-- The changes as the code makes them: the names and the slots each on their own.
use Rattle.std.proofs.Common.{◌≡◌, ℕ, ◌≤◌, length, Bool, true, false, not, ◌&&◌, Option, Some, List, if◌then◌else◌, slice_set, refl, sym, ap, subst, ◌∙◌}
use Rattle.std.proofs.lemmas.Bool.{le-ltb}
use Rattle.std.specs.Map.{remove_entry}
use Rattle.cal_storage.specs.declared.entry.Slot.{Slot}
use Rattle.cal_storage.specs.declared.entry.Slot.TheVariants.{Ended}
use Rattle.cal_storage.specs.Contents.{Contents, Handle, is_path, id_at, slot_of, slot_if_used, slot_with_holder_less, with_slot, without_name, without_found_name, after_removal, is_named, after_close, after_withdrawal}
use Rattle.cal_names.specs.ConceptSettings.{ConceptSettings, file_name_for, file_path_for}
use Rattle.cal_storage.specs.Refusals.{after_name_removal}
use Rattle.cal_storage.specs.Soundness.{IsSound}
use Rattle.cal_storage.specs.SoundnessLemmas.{after_removal-IsSound}

module _ {T : Type 0} (contents : Contents T) where
  -- a removal under a name whose path fits, by the id that was found there
  pub after_name_removal-is : (settings : ConceptSettings) (name path : List ℕ) →
      length (file_name_for settings name) ≤ 255 → path ≡ file_path_for settings name
      → (found : Option ℕ) → id_at contents path ≡ found →
      without_found_name contents path found ≡ after_name_removal settings name contents
  after_name_removal-is settings name path fits is_path_for found at =
      sym (ap (λ long. if long then contents else after_removal contents (file_path_for settings name))
      (le-ltb 255 (length (file_name_for settings name)) fits)
      ∙ ap (after_removal contents) (sym is_path_for)
      ∙ ap (without_found_name contents path) at)

  pub removed_at : IsSound contents → (path : List ℕ) (id : ℕ) → id_at contents path ≡ Some id →
      IsSound (with_slot (without_name contents path) id (slot_if_used false (slot_of contents id)))
  removed_at sound path id at = subst
      (λ found. IsSound (without_found_name contents path found)) at (after_removal-IsSound contents sound path)

  -- the names without one, where it goes
  abbrev pub names_left : List ℕ → Bool → List (List ℕ × ℕ)
  names_left path goes = if goes then remove_entry (is_path path) contents.names else contents.names

  module _ (handle : Handle) where
    closed_parts : (named owner : Bool) (slot : Slot T) →
        with_slot (if owner then (if named then without_name contents handle.path else contents) else contents)
        handle.id slot
        ≡ record { names = names_left handle.path (named && owner); slots = slice_set contents.slots handle.id slot }
    closed_parts true true slot = refl
    closed_parts true false slot = refl
    closed_parts false true slot = refl
    closed_parts false false slot = refl

    -- a close, by whether the name still stands for the entry
    pub after_close-is : (named : Bool) → named ≡ is_named contents handle →
        after_close contents handle ≡ record {
          names = names_left handle.path (named && handle.is_owner);
          slots = slice_set contents.slots handle.id
              (slot_if_used (named && not handle.is_owner) (slot_with_holder_less (slot_of contents handle.id)));
        }
    after_close-is named is =
        subst (λ b. with_slot (if handle.is_owner then (if b then without_name contents handle.path else contents)
        else contents) handle.id
        (slot_if_used (b && not handle.is_owner) (slot_with_holder_less (slot_of contents handle.id)))
        ≡ record {
          names = names_left handle.path (named && handle.is_owner);
          slots = slice_set contents.slots handle.id
              (slot_if_used (named && not handle.is_owner) (slot_with_holder_less (slot_of contents handle.id)));
        })
        is (closed_parts named handle.is_owner
        (slot_if_used (named && not handle.is_owner) (slot_with_holder_less (slot_of contents handle.id))))

    withdrawn_parts : (named : Bool) →
        with_slot (if named then without_name contents handle.path else contents) handle.id Ended
        ≡ record { names = names_left handle.path named; slots = slice_set contents.slots handle.id Ended }
    withdrawn_parts true = refl
    withdrawn_parts false = refl

    -- a refused finish, likewise
    pub after_withdrawal-is : (named : Bool) → named ≡ is_named contents handle →
        after_withdrawal contents handle ≡
        record { names = names_left handle.path named; slots = slice_set contents.slots handle.id Ended }
    after_withdrawal-is named is =
        subst (λ b. with_slot (if b then without_name contents handle.path else contents) handle.id Ended
        ≡ record { names = names_left handle.path named; slots = slice_set contents.slots handle.id Ended })
        is (withdrawn_parts named)
