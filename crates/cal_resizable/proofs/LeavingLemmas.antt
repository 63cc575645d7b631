-- Which handles are left as they were, over each change to a registry.
use Rattle.std.proofs.Common.{◌≡◌, ◌≢◌, ℕ, ◌+◌, ◌≤◌, List, Option, Some, None, IsSomeAnd, option_map, refl, sym, ap, ◌∙◌, subst, inl, inr, arith, true≢false}
use Rattle.std.proofs.lemmas.Bool.{cases_eq}
use Rattle.std.proofs.lemmas.Option.{none-some, same_Some}
use Rattle.cal_storage.specs.declared.entry.Entry.{Entry}
use Rattle.cal_storage.specs.Contents.{Contents, Has, is_path, id_at, entry_of, after_creation, after_close, with_value}
use Rattle.cal_storage.specs.ContentsLaws.{LetsGo}
use Rattle.cal_storage.specs.EntryLemmas.{after_close-LetsGo}
use Rattle.cal_storage.specs.HandleLemmas.{has_entry, Has-same, Has-after_creation}
use Rattle.cal_storage.specs.Holding.{IsNamed, LeavesSharers}
use Rattle.cal_storage.specs.HoldingLemmas.{Holds-weaker, KeepsHandles-after_creation, KeepsHandles-with_value}
use Rattle.cal_storage.specs.NameLemmas.{is_path-apart, is_path-same, cases_path}
use Rattle.cal_storage.specs.Soundness.{IsSound}
use Rattle.cal_storage.specs.SoundnessLemmas.{id_at-after_creation-other}
use Rattle.cal_storage.specs.ValueLemmas.{Has-with_value, entry_of-after_close-other}
use Rattle.cal_resizable.specs.Slots.{Handle, Slots, HeldSegment, segment_at, without_segment, AreApart, IsSpared, IsHeldId, LeavesHandle, SparesHandles}
use Rattle.cal_resizable.proofs.SlotLemmas.{EachHeld-set, within_slots}

module _ {T : Type 0} where
  pub LeavesHandle-same : (contents : Contents T) (handle : Handle) → LeavesHandle contents contents handle
  LeavesHandle-same contents handle =
      record { has = λ has. has; holds = λ count some small holds. holds; named = λ named. named }

  pub LeavesHandle-then : (old mid new : Contents T) (handle : Handle) → LeavesHandle old mid handle →
      LeavesHandle mid new handle → LeavesHandle old new handle
  LeavesHandle-then old mid new handle first second = record {
    has = λ has. second.has (first.has has);
    holds = λ count some small holds. second.holds count some small (first.holds count some small holds);
    named = λ named. second.named (first.named named);
  }

  -- every handle, where a path that stood for nothing stands for a new entry
  pub LeavesHandle-after_creation : (contents : Contents T) (path : List ℕ) (value : T) (version : ℕ) →
      id_at contents path ≡ None → (handle : Handle) →
      LeavesHandle contents (after_creation contents path value version) handle
  LeavesHandle-after_creation contents path value version free handle = record {
    has = Has-after_creation contents path value version handle;
    holds = λ count some small holds.
        KeepsHandles-after_creation contents path value version count handle some small holds;
    named = λ named.
        id_at-after_creation-other contents path value version handle.path
        (is_path-apart path handle.path
        (λ same. none-some handle.id (sym free ∙ ap (id_at contents) same ∙ named))) ∙ named;
  }

  -- every handle, where a value is written
  pub LeavesHandle-with_value : (contents : Contents T) (id : ℕ) (value : T) (handle : Handle) →
      LeavesHandle contents (with_value contents id value) handle
  LeavesHandle-with_value contents id value handle = record {
    has = Has-with_value contents id value handle;
    holds = λ count some small holds. KeepsHandles-with_value contents id value count handle some small holds;
    named = λ named. named;
  }

  -- every handle on another entry, where a handle closes
  module _ (contents : Contents T) (sound : IsSound contents) (closing : Handle) (has : Has contents closing)
      (handle : Handle) (apart : handle.id ≢ closing.id) where
    lets_go : LetsGo contents (after_close contents closing) closing (has_entry contents closing has).0
    lets_go = let entry = has_entry contents closing has in
        after_close-LetsGo contents sound closing entry.0 entry.1

    same_entry : entry_of (after_close contents closing) handle.id ≡ entry_of contents handle.id
    same_entry = entry_of-after_close-other contents closing handle.id apart

    still_named : IsNamed contents handle → IsNamed (after_close contents closing) handle
    still_named named = elim (cases_path closing.path handle.path) [
      | inl same ↦
          ap (id_at (after_close contents closing)) (sym same)
          ∙ lets_go.name.stays (inr (λ here. apart (same_Some handle.id closing.id
          (sym named ∙ ap (id_at contents) (sym same) ∙ here))))
          ∙ ap (id_at contents) same ∙ named
      | inr differ ↦
          lets_go.others.names handle.path
          (λ same. true≢false (sym (is_path-same closing.path) ∙ ap (is_path closing.path) (sym same) ∙ differ))
          ∙ named
    ]

    pub LeavesHandle-after_close : LeavesHandle contents (after_close contents closing) handle
    LeavesHandle-after_close = record {
      has = λ has. Has-same contents (after_close contents closing) handle has same_entry;
      holds = λ count some small holds. (
        Has-same contents (after_close contents closing) handle holds.0 same_entry,
        subst (λ o. IsSomeAnd o (λ (entry : Entry T). count ≤ entry.holders)) (sym same_entry) holds.1,
      );
      named = still_named;
    }

  -- ---- a segment that is retired where it isn't counted

  -- where every handle is left, all handles are spared
  pub SparesHandles-leaves : (old new : Contents T) (before after : Slots) →
      ((handle : Handle) → LeavesHandle old new handle) → SparesHandles old new before after
  SparesHandles-leaves old new before after leaves = record {
    others = λ handle is. leaves handle;
    sharers = λ count handle some small holds.
        let left = leaves handle in
        left.holds count some (omega arith)
        (Holds-weaker old (count + 1) count handle (omega arith) holds);
  }

  -- where one segment isn't held any more, and another handle on it keeps the entry
  pub SparesHandles-close : (old new : Contents T) (before after : Slots) (closing : Handle) →
      IsHeldId before closing.id → ¬ IsHeldId after closing.id →
      ((handle : Handle) → handle.id ≢ closing.id → LeavesHandle old new handle) →
      LeavesSharers old new closing.id → SparesHandles old new before after
  SparesHandles-close old new before after closing was gone leaves sharers = record {
    others = λ handle stays.
        leaves handle (λ same.
        gone (subst (IsHeldId after) same (stays (subst (IsHeldId before) (sym same) was))));
    sharers = λ count handle some small holds. elim (cases_eq handle.id closing.id) [
      | inl same ↦ sharers count handle same some holds
      | inr apart ↦
          let left = leaves handle apart in
          left.holds count some (omega arith)
          (Holds-weaker old (count + 1) count handle (omega arith) holds)
    ];
  }

  -- first one and then the other
  pub SparesHandles-after : (old mid new : Contents T) (before after : Slots) →
      ((handle : Handle) → LeavesHandle old mid handle) → SparesHandles mid new before after →
      SparesHandles old new before after
  SparesHandles-after old mid new before after leaves spares = record {
    others = λ handle stays.
        LeavesHandle-then old mid new handle (leaves handle) (spares.others handle stays);
    sharers = λ count handle some small holds.
        let left = leaves handle in
        spares.sharers count handle some small (left.holds (count + 1) (omega arith) small holds);
  }

  -- and a change after which every handle is left
  pub SparesHandles-then : (old mid new : Contents T) (before between after : Slots) →
      SparesHandles old mid before between → ((handle : Handle) → LeavesHandle mid new handle) →
      ((id : ℕ) → IsHeldId after id → IsHeldId between id) → SparesHandles old new before after
  SparesHandles-then old mid new before between after spares leaves still = record {
    others = λ handle stays.
        LeavesHandle-then old mid new handle (spares.others handle (λ was. still handle.id (stays was)))
        (leaves handle);
    sharers = λ count handle some small holds.
        let left = leaves handle in
        left.holds count some (omega arith) (spares.sharers count handle some small holds);
  }

-- a segment that was closed since it isn't counted
module _ {T : Type 0} (old new : Contents T) (sound : IsSound old) (slot : Option HeldSegment) (closing : Handle)
    (handle_is : option_map (λ (held : HeldSegment). held.handle) slot ≡ Some closing)
    (has : IsSomeAnd slot (λ held. Has old held.handle)) (closed : new ≡ after_close old closing) where
  closed_segment : (held : HeldSegment) × (slot ≡ Some held) × (held.handle ≡ closing)
  closed_segment = from slot handle_is
    where
      from : (at : Option HeldSegment) → option_map (λ (held : HeldSegment). held.handle) at ≡ Some closing →
          (held : HeldSegment) × (at ≡ Some held) × (held.handle ≡ closing)
      from None is = absurd (none-some closing is)
      from (Some held) is = (held, refl, same_Some held.handle closing is)

  has_closing : Has old closing
  has_closing = let is = closed_segment in
      subst (Has old) is.2 (subst (λ s. IsSomeAnd s (λ held. Has old held.handle)) is.1 has)

  pub leaves_apart : (handle : Handle) → handle.id ≢ closing.id → LeavesHandle old new handle
  leaves_apart handle apart = subst (λ contents. LeavesHandle old contents handle) (sym closed)
      (LeavesHandle-after_close old sound closing has_closing handle apart)

  pub leaves_spared : (count : ℕ) → option_map (λ (held : HeldSegment). held.count) slot ≡ Some count → count ≡ 0 →
      (handle : Handle) → IsSpared slot handle → LeavesHandle old new handle
  leaves_spared count count_is none handle spared =
      let is = closed_segment in
      let counted : is.0.count ≡ count =
      same_Some is.0.count count (ap (option_map (λ (held : HeldSegment). held.count)) (sym is.1) ∙ count_is) in
      leaves_apart handle (λ same.
      spared is.0 is.1 (counted ∙ none) (same ∙ ap (λ (h : Handle). h.id) (sym is.2)))

  module _ (slots after : Slots) (number : ℕ) (at : segment_at slots number ≡ slot)
      (removed : after ≡ without_segment slots number) (apart : AreApart slots)
      (sharers : LeavesSharers old new closing.id) where
    not_held : ¬ IsHeldId (without_segment slots number) closing.id
    not_held held_id =
        let is = closed_segment in
        EachHeld-set slots number None (λ n h. (n ≡ held_id.number) → (h ≡ held_id.held) → ⊥)
        (within_slots slots number is.0 (at ∙ is.1))
        (λ h none _ _. none-some h none)
        (λ n h elsewhere there _ same.
        apart n number h is.0 elsewhere there (at ∙ is.1)
        (ap (λ (s : HeldSegment). s.handle.id) same ∙ held_id.same ∙ ap (λ (h : Handle). h.id) (sym is.2)))
        held_id.number held_id.held held_id.there refl refl

    pub spares_others : SparesHandles old new slots after
    spares_others =
        let is = closed_segment in
        SparesHandles-close old new slots after closing
        (record { number = number; held = is.0; there = at ∙ is.1; same = ap (λ (h : Handle). h.id) is.2 })
        (subst (λ s. ¬ IsHeldId s closing.id) (sym removed) not_held)
        leaves_apart sharers
