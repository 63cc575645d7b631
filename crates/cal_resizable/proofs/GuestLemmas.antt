-- What the close of a handle that doesn't own its name leaves of another handle.
use Rattle.std.proofs.Common.{◌≡◌, ℕ, ◌≤◌, ◌-◌, ◌^◌, Bool, true, false, not, ◌&&◌, if◌then◌else◌, Option, Some, None, IsSomeAnd, List, option_map, refl, sym, ap, ◌∙◌, subst, inl, inr, arith}
use Rattle.std.proofs.lemmas.Bool.{cases_eq}
use Rattle.cal_storage.specs.declared.entry.Entry.{Entry}
use Rattle.cal_storage.specs.declared.entry.Slot.{Slot}
use Rattle.cal_storage.specs.declared.entry.Slot.TheVariants.{Ended, Kept}
use Rattle.cal_storage.specs.Contents.{Contents, Has, is_named, entry_in, slot_with_holder_less, slot_if_used, id_at, slot_of, entry_of, value_of, with_slot, without_own_name, after_close}
use Rattle.cal_storage.specs.ContentsLaws.{one_holder_less}
use Rattle.cal_storage.specs.HandleLemmas.{Has-same}
use Rattle.cal_storage.specs.Holding.{HasHolders, Holds, IsNamed}
use Rattle.cal_storage.specs.SoundnessLemmas.{is_id-same, entry_of-with_slot-same}
use Rattle.cal_storage.specs.ValueLemmas.{entry_of-after_close-other}
use Rattle.cal_resizable.specs.Slots.{Handle, LeavesHandle}

module _ {T : Type 0} where
  -- two handles on the same entry have the same path
  pub same_paths : (contents : Contents T) (one other : Handle) → Has contents one → Has contents other →
      one.id ≡ other.id → one.path ≡ other.path
  same_paths contents one other has_one has_other same =
      from (entry_of contents other.id)
      (subst (λ id. IsSomeAnd (entry_of contents id) (λ (entry : Entry T). entry.path ≡ one.path)) same has_one)
      has_other
    where
      from : (at : Option (Entry T)) → IsSomeAnd at (λ entry. entry.path ≡ one.path) →
          IsSomeAnd at (λ entry. entry.path ≡ other.path) → one.path ≡ other.path
      from None h i = absurd h
      from (Some entry) h i = sym h ∙ i

  -- what is known of a handle's entry in another registry, where that is the same
  pub LeavesHandle-entry : (old new : Contents T) (handle : Handle) →
      entry_of new handle.id ≡ entry_of old handle.id → id_at new handle.path ≡ id_at old handle.path →
      LeavesHandle old new handle
  LeavesHandle-entry old new handle entry name = record {
    has = λ has. Has-same old new handle has entry;
    holds = λ count some small holds. (
      Has-same old new handle holds.0 entry,
      subst (λ o. IsSomeAnd o (λ (e : Entry T). count ≤ e.holders)) (sym entry) holds.1,
    );
    named = λ named. name ∙ named;
  }

  let_go : (slot : Slot T) →
      entry_in (slot_if_used true (slot_with_holder_less slot)) ≡ option_map one_holder_less (entry_in slot)
  let_go Ended = refl
  let_go (Kept entry) = refl

  module _ (contents : Contents T) (guest : Handle) (not_owner : guest.is_owner ≡ false) where
    abbrev left : Bool → Contents T
    left has_name = with_slot contents guest.id
        (slot_if_used has_name (slot_with_holder_less (slot_of contents guest.id)))

    as_guest : after_close contents guest ≡ left (is_named contents guest && not false)
    as_guest =
        ap (λ owner. with_slot (if owner then without_own_name contents guest else contents) guest.id
        (slot_if_used (is_named contents guest && not owner) (slot_with_holder_less (slot_of contents guest.id))))
        not_owner

    -- every name stays
    pub guest-names : (path : List ℕ) → id_at (after_close contents guest) path ≡ id_at contents path
    guest-names path = ap (λ c. id_at c path) as_guest

    -- an entry for which a name stands stays
    pub guest-entry : IsNamed contents guest →
        entry_of (after_close contents guest) guest.id ≡ option_map one_holder_less (entry_of contents guest.id)
    guest-entry named =
        let as_named : left (is_named contents guest && not false) ≡ left true =
        ap (λ has_name. left (has_name && not false)) (is_id-same (id_at contents guest.path) guest.id named) in
        ap (λ c. entry_of c guest.id) (as_guest ∙ as_named)
        ∙ entry_of-with_slot-same contents guest.id
        (slot_if_used true (slot_with_holder_less (slot_of contents guest.id)))
        (λ none. ap (λ slot. slot_if_used true (slot_with_holder_less slot)) none)
        ∙ let_go (slot_of contents guest.id)

  -- What is left of a handle that was there and named, and that counted a holder: so it is still, and its value stays.
  pub record StaysOpen (old new : Contents T) (handle : Handle) : Type 0 where
    pub has : Has new handle
    pub named : IsNamed new handle
    pub holds : Holds new 1 handle
    pub value : value_of new handle.id ≡ value_of old handle.id

  pub StaysOpen-same : (contents : Contents T) (handle : Handle) → IsNamed contents handle →
      Holds contents 1 handle → StaysOpen contents contents handle
  StaysOpen-same contents handle named holds =
      record { has = holds.0; named = named; holds = holds; value = refl }

  path_left : (path : List ℕ) (at : Option (Entry T)) → IsSomeAnd at (λ entry. entry.path ≡ path) →
      IsSomeAnd (option_map one_holder_less at) (λ entry. entry.path ≡ path)
  path_left path None h = h
  path_left path (Some entry) h = h

  holders_left : (at : Option (Entry T)) → IsSomeAnd at (λ entry. 2 ≤ entry.holders) →
      IsSomeAnd (option_map one_holder_less at) (λ entry. 1 ≤ entry.holders)
  holders_left None h = h
  holders_left (Some entry) h = elim (cases_eq entry.holders (2 ^ 64 - 1)) [
    | inl same ↦ grind arith
    | inr differ ↦ grind arith
  ]

  value_left : (at : Option (Entry T)) →
      option_map (λ (entry : Entry T). entry.value) (option_map one_holder_less at)
      ≡ option_map (λ (entry : Entry T). entry.value) at
  value_left None = refl
  value_left (Some entry) = refl

  module _ (contents : Contents T) (guest : Handle) (not_owner : guest.is_owner ≡ false)
      (has_guest : Has contents guest) (handle : Handle) (named : IsNamed contents handle)
      (holds : Holds contents 1 handle) (shared : guest.id ≡ handle.id → Holds contents 2 handle) where
    abbrev closed : Contents T
    closed = after_close contents guest

    -- where both are on the same entry
    module _ (same : handle.id ≡ guest.id) where
      guest_named : IsNamed contents guest
      guest_named =
          ap (id_at contents) (sym (same_paths contents handle guest holds.0 has_guest same)) ∙ named ∙ ap Some same

      less_entry : entry_of closed handle.id ≡ option_map one_holder_less (entry_of contents handle.id)
      less_entry =
          ap (entry_of closed) same ∙ guest-entry contents guest not_owner guest_named
          ∙ ap (λ id. option_map one_holder_less (entry_of contents id)) (sym same)

      has_less : Has closed handle
      has_less = subst (λ o. IsSomeAnd o (λ (entry : Entry T). entry.path ≡ handle.path)) (sym less_entry)
          (path_left handle.path (entry_of contents handle.id) holds.0)

      holds_less : HasHolders closed 1 handle.id
      holds_less = subst (λ o. IsSomeAnd o (λ (entry : Entry T). 1 ≤ entry.holders)) (sym less_entry)
          (holders_left (entry_of contents handle.id) (shared (sym same)).1)

      stays_less : StaysOpen contents closed handle
      stays_less = record {
        has = has_less;
        named = guest-names contents guest not_owner handle.path ∙ named;
        holds = (has_less, holds_less);
        value = ap (option_map (λ (entry : Entry T). entry.value)) less_entry
            ∙ value_left (entry_of contents handle.id);
      }

    pub StaysOpen-leaves : (new : Contents T) → entry_of new handle.id ≡ entry_of contents handle.id →
        id_at new handle.path ≡ id_at contents handle.path → StaysOpen contents new handle
    StaysOpen-leaves new entry name =
        let leaves : LeavesHandle contents new handle = LeavesHandle-entry contents new handle entry name in
        record {
          has = leaves.has holds.0;
          named = leaves.named named;
          holds = leaves.holds 1 (omega arith) (omega arith) holds;
          value = ap (option_map (λ (e : Entry T). e.value)) entry;
        }

    pub StaysOpen-after_close : StaysOpen contents closed handle
    StaysOpen-after_close = elim (cases_eq handle.id guest.id) [
      | inl same ↦ stays_less same
      | inr apart ↦ StaysOpen-leaves closed (entry_of-after_close-other contents guest handle.id apart)
          (guest-names contents guest not_owner handle.path)
    ]
