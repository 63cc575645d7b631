-- What growth leaves: the memory, its entries, and those of others.
use Rattle.std.proofs.Common.{◌≡◌, ◌≢◌, ℕ, ◌+◌, ◌<◌, ◌==◌, Bool, true, false, if◌then◌else◌, Option, Some, None, IsSome, IsSomeAnd, option_map, List, length, refl, sym, ap, ◌∙◌, subst, inl, inr, arith}
use Rattle.std.proofs.lemmas.Bool.{cases_eq}
use Rattle.std.proofs.lemmas.List.{get_or_past}
use Rattle.std.proofs.lemmas.Option.{same_Some}
use Rattle.cal_storage.specs.declared.entry.Entry.{Entry}
use Rattle.cal_storage.specs.declared.entry.Slot.TheVariants.{Ended}
use Rattle.cal_storage.specs.Contents.{Contents, Has, id_at, entry_in, entry_of, value_of, after_creation, after_close}
use Rattle.cal_storage.specs.ContentsLaws.{MakesEntry}
use Rattle.cal_storage.specs.EntryLemmas.{after_creation-MakesEntry}
use Rattle.cal_storage.specs.Holding.{Holds, IsNamed}
use Rattle.cal_storage.specs.ValueLemmas.{entry_of-after_close-other}
use Rattle.cal_shm.specs.Calls.{OfValue}
use Rattle.cal_resizable.specs.Growth.{OfSegment, next_handle, grown_memory}
use Rattle.cal_resizable.specs.Memory.{MemoryState, IsSoundMemory, HasAll, KeepsOwn, segment_path}
use Rattle.cal_resizable.specs.Slots.{Handle, Slots, HeldSegment, segment_at, without_unused, with_segment, after_retiring, AreApart, IsSpared, IsHeldId, EachHeld, EachHandle, LeavesHandle, SparesHandles}
use Rattle.cal_resizable.proofs.KeepingLemmas.{Stays, KeepsOwn-stays}
use Rattle.cal_resizable.proofs.LeavingLemmas.{LeavesHandle-after_creation, LeavesHandle-then, SparesHandles-after}
use Rattle.cal_resizable.proofs.MemoryLemmas.{kept_here, length_kept_here, each_grown, IsSoundMemory-grown, some_is, spares_management}
use Rattle.cal_resizable.proofs.SlotLemmas.{segment_at-set-same, segment_at-set-other}

module _ {T : Type 0} where
  -- an entry that is there isn't that of an id yet to be made
  pub not_new : (contents : Contents T) (handle : Handle) → Has contents handle → handle.id ≢ length contents.slots
  not_new contents handle has same =
      let none : entry_of contents handle.id ≡ None =
      ap entry_in (get_or_past contents.slots handle.id Ended (omega arith)) in
      subst (λ o. IsSomeAnd o (λ (entry : Entry T). entry.path ≡ handle.path)) none has

  -- every handle, where a new entry was made
  pub leaves_created : (old mid : Contents T) (path : List ℕ) (value : T) (version : ℕ) → id_at old path ≡ None →
      mid ≡ after_creation old path value version → (h : Handle) → LeavesHandle old mid h
  leaves_created old mid path value version free created h =
      subst (λ contents. LeavesHandle old contents h) (sym created)
      (LeavesHandle-after_creation old path value version free h)

  -- the segment of a slot, where the registry has all
  pub current_there : (contents : Contents T) (management : Handle) (slots : Slots) (number : ℕ) →
      EachHandle management slots (Has contents) → IsSome (segment_at slots number) →
      IsSomeAnd (segment_at slots number) (λ held. Has contents held.handle)
  current_there contents management slots number has some =
      let is = some_is (segment_at slots number) some in
      subst (λ slot. IsSomeAnd slot (λ h. Has contents h.handle)) (sym is.1) (has.of_segments number is.0 is.1)

  -- the value of an id that isn't the retired one's
  pub value_of-after_retiring : (contents : Contents T) (slot : Option HeldSegment) (id : ℕ) →
      ((held : HeldSegment) → slot ≡ Some held → id ≢ held.handle.id) →
      value_of (after_retiring contents slot) id ≡ value_of contents id
  value_of-after_retiring contents None id apart = refl
  value_of-after_retiring contents (Some held) id apart = by_test (held.count == 0)
    where
      by_test : (test : Bool) →
          value_of (if test then after_close contents held.handle else contents) id ≡ value_of contents id
      by_test true = ap (option_map (λ (entry : Entry T). entry.value))
          (entry_of-after_close-other contents held.handle id (apart held refl))
      by_test false = refl

module _ (memory : MemoryState) (sound : IsSoundMemory memory) where
  -- no segment has the next number
  pub next_empty : (slots : Slots) → slots ≡ without_unused memory.slots memory.current →
      segment_at slots (memory.current + 1) ≡ None
  next_empty slots is = ap (λ s. segment_at s (memory.current + 1)) is
      ∙ from (segment_at (without_unused memory.slots memory.current) (memory.current + 1)) refl
    where
      from : (slot : Option HeldSegment) →
          segment_at (without_unused memory.slots memory.current) (memory.current + 1) ≡ slot →
          segment_at (without_unused memory.slots memory.current) (memory.current + 1) ≡ None
      from None at = at
      from (Some held) at =
          let kept_held = kept_here memory sound (memory.current + 1) held at in
          let active = sound.active (memory.current + 1) held kept_held.there in
          absurd (omega (arith, active.not_later))

  module _ {T : Type 0} (old mid new : Contents T) (has : HasAll old memory) (value : T) (version : ℕ)
      (handle : Handle) (is_new : handle ≡ next_handle old memory)
      (free : id_at old (segment_path memory.settings memory.name (memory.current + 1)) ≡ None)
      (created : mid ≡ after_creation old (segment_path memory.settings memory.name (memory.current + 1)) value version)
      (kept_slots slots : Slots) (kept_is : kept_slots ≡ without_unused memory.slots memory.current)
      (slots_is : slots ≡ with_segment kept_slots (memory.current + 1) handle)
      (below : memory.current < 255) where
    abbrev pub grown_it : MemoryState
    grown_it = record memory { current = memory.current + 1; slots = slots }

    all_slots : slots ≡ with_segment (without_unused memory.slots memory.current) (memory.current + 1) handle
    all_slots = slots_is ∙ ap (λ s. with_segment s (memory.current + 1) handle) kept_is

    fresh : EachHeld memory.slots (λ number held. held.handle.id ≢ handle.id)
    fresh number held at same =
        not_new old held.handle (has.of_segments number held at) (same ∙ ap (λ (h : Handle). h.id) is_new)

    not_management : handle.id ≢ memory.management.id
    not_management same =
        not_new old memory.management has.of_management (sym same ∙ ap (λ (h : Handle). h.id) is_new)

    pub IsSoundMemory-grown_it : IsSoundMemory grown_it
    IsSoundMemory-grown_it =
        subst (λ s. IsSoundMemory (record memory { current = memory.current + 1; slots = s })) (sym all_slots)
        (IsSoundMemory-grown memory sound handle fresh not_management
        (ap (λ (h : Handle). h.is_owner) is_new) (ap (λ (h : Handle). h.path) is_new) (omega arith))

    pub grown_memory-is : grown_it ≡ grown_memory old memory
    grown_memory-is =
        ap (λ s. record memory { current = memory.current + 1; slots = s })
        (all_slots ∙ ap (with_segment (without_unused memory.slots memory.current) (memory.current + 1)) is_new)

    left_by_creation : (h : Handle) → LeavesHandle old mid h
    left_by_creation = leaves_created old mid (segment_path memory.settings memory.name (memory.current + 1)) value
        version
        free created

    spared_new : IsSpared (segment_at memory.slots memory.current) handle
    spared_new held at none same = fresh memory.current held at (sym same)

    module _ (leaves : (h : Handle) → IsSpared (segment_at memory.slots memory.current) h → LeavesHandle mid new h)
      where
        left : (h : Handle) → IsSpared (segment_at memory.slots memory.current) h → LeavesHandle old new h
        left h spared = LeavesHandle-then old mid new h (left_by_creation h) (leaves h spared)

        each_stays_grown : Holds mid 1 handle → IsNamed mid handle → EachHeld slots (Stays old new memory grown_it)
        each_stays_grown holds named =
            subst (λ s. EachHeld s (Stays old new memory grown_it)) (sym all_slots)
            (each_grown memory sound handle fresh not_management
            (ap (λ (h : Handle). h.is_owner) is_new) (ap (λ (h : Handle). h.path) is_new) (omega arith)
            (Stays old new memory grown_it)
            (let leaves_new = leaves handle spared_new in
            inr (record {
              has = leaves_new.has holds.0;
              holds = leaves_new.holds 1 (omega arith) (omega arith) holds;
              named = leaves_new.named named;
            }))
            (λ number held apart is.
            inl (record { one = held; there = is.there; same = refl }, left held.handle is.spared)))

        pub KeepsOwn-grown : Holds mid 1 handle → IsNamed mid handle → KeepsOwn old memory new grown_it
        KeepsOwn-grown holds named =
            KeepsOwn-stays old new memory grown_it refl
            (left memory.management (spares_management memory sound memory.current))
            (each_stays_grown holds named) has

    -- the new segment is the current one
    pub new_segment_at : segment_at slots (memory.current + 1) ≡ Some (record { handle = handle; count = 0 })
    new_segment_at =
        ap (λ s. segment_at s (memory.current + 1)) all_slots
        ∙ segment_at-set-same (without_unused memory.slots memory.current) (memory.current + 1)
        (Some (record { handle = handle; count = 0 }))
        (omega (arith, length_kept_here memory sound))

    new_at : (held : HeldSegment) → segment_at slots (memory.current + 1) ≡ Some held → held.handle ≡ handle
    new_at held at =
        ap (λ (s : HeldSegment). s.handle)
        (sym (same_Some (record { handle = handle; count = 0 }) held (sym new_segment_at ∙ at)))

    pub new_value : new ≡ after_retiring mid (segment_at memory.slots memory.current) →
        value_of new handle.id ≡ Some value
    new_value retired =
        ap (λ contents. value_of contents handle.id) retired
        ∙ value_of-after_retiring mid (segment_at memory.slots memory.current) handle.id
        (λ held at same. fresh memory.current held at (sym same))
        ∙ ap (λ contents. value_of contents handle.id) created
        ∙ ap (value_of (after_creation old (segment_path memory.settings memory.name (memory.current + 1)) value
        version))
        (ap (λ (h : Handle). h.id) is_new)
        ∙ ap (option_map (λ (entry : Entry T). entry.value)) made.entry
      where
        made : MakesEntry old (after_creation old (segment_path memory.settings memory.name (memory.current + 1)) value
            version) (segment_path memory.settings memory.name (memory.current + 1)) value version
        made = after_creation-MakesEntry old (segment_path memory.settings memory.name (memory.current + 1)) value
            version

    pub of_new_segment : new ≡ after_retiring mid (segment_at memory.slots memory.current) →
        OfSegment new slots (memory.current + 1) (λ v. v ≡ value)
    of_new_segment retired =
        subst (λ slot. IsSomeAnd slot (λ held. OfValue new held.handle.id (λ v. v ≡ value))) (sym new_segment_at)
        (subst (λ o. IsSomeAnd o (λ v. v ≡ value)) (sym (new_value retired)) refl)

    -- a segment that is still held was kept
    still_kept : (id : ℕ) → IsHeldId memory.slots id → IsHeldId slots id → IsHeldId kept_slots id
    still_kept id was is = elim (cases_eq is.number (memory.current + 1)) [
      | inl same ↦
          let at : segment_at slots (memory.current + 1) ≡ Some is.held =
          ap (segment_at slots) (sym same) ∙ is.there in
          absurd (fresh was.number was.held was.there (was.same ∙ sym is.same
          ∙ ap (λ (h : Handle). h.id) (new_at is.held at)))
      | inr apart ↦ record {
        number = is.number;
        held = is.held;
        there = sym (segment_at-set-other kept_slots (memory.current + 1)
            (Some (record { handle = handle; count = 0 })) is.number apart)
            ∙ ap (λ s. segment_at s is.number) (sym slots_is) ∙ is.there;
        same = is.same;
      }
    ]

    pub SparesHandles-grown : (AreApart memory.slots → SparesHandles mid new memory.slots kept_slots) →
        SparesHandles old new memory.slots slots
    SparesHandles-grown retiring =
        let spares = retiring sound.apart in
        SparesHandles-after old mid new memory.slots slots left_by_creation
        (record {
          others = λ h stays. spares.others h (λ was. still_kept h.id was (stays was));
          sharers = spares.sharers;
        })
