-- Ids for which an entry is there lie within the slots.
use Rattle.std.proofs.Common.{◌≡◌, ◌<◌, ℕ, inl, inr, length, Some, IsSomeAnd, List, subst}
use Rattle.std.proofs.lemmas.Bool.{cases_lt}
use Rattle.std.proofs.lemmas.List.{get_or_past}
use Rattle.cal_storage.specs.declared.entry.Entry.{Entry}
use Rattle.cal_storage.specs.declared.entry.Slot.TheVariants.{Ended}
use Rattle.cal_storage.specs.Contents.{Contents, Handle, Has, entry_in, id_at, entry_of}
use Rattle.cal_storage.specs.Soundness.{IsSound}

module _ {T : Type 0} (contents : Contents T) where
  entry_within : (P : Entry T → Type 0) (id : ℕ) → IsSomeAnd (entry_of contents id) P → id < length contents.slots
  entry_within P id there =
      elim (cases_lt id (length contents.slots)) [
        | inl within ↦ within
        | inr past ↦ absurd (subst (λ slot. IsSomeAnd (entry_in slot) P) (get_or_past contents.slots id Ended past)
            there)
      ]

  -- a handle's id does, where the registry has its entry
  pub has_within : (handle : Handle) → Has contents handle → handle.id < length contents.slots
  has_within handle has = entry_within (λ entry. entry.path ≡ handle.path) handle.id has

  -- and so does each named id
  pub named_within : IsSound contents → (path : List ℕ) (id : ℕ) → id_at contents path ≡ Some id →
      id < length contents.slots
  named_within sound path id at = entry_within (λ entry. entry.path ≡ path) id (sound.named path id at)
