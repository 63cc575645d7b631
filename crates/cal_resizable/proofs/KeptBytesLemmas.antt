-- That a view reads the same bytes after the memory's calls, even in a segment that the memory has given up.
use Rattle.std.proofs.Common.{◌≡◌, ℕ, ◌+◌, ◌<◌, ◌≤◌, ◌==◌, Bool, true, false, not, ◌&&◌, if◌then◌else◌, Option, Some, None, IsSomeAnd, List, option_map, refl, sym, ap, ◌∙◌, subst, inl, inr, arith, true≢false, ne_eqb}
use Rattle.std.specs.Prelude.{slice_range}
use Rattle.std.proofs.lemmas.Bool.{cases_eq}
use Rattle.std.proofs.lemmas.Option.{same_Some}
use Rattle.cal_alloc.specs.PointerOffset.{offset_of, segment_of}
use Rattle.cal_alloc.specs.SizeAndAlignment.{SizeAndAlignment}
use Rattle.cal_alloc.specs.declared.shm_allocator.SharedMemorySetupHint.{SharedMemorySetupHint}
use Rattle.cal_alloc.specs.declared.shm_allocator.ShmAllocator as shm_allocator
use Rattle.cal_storage.specs.declared.entry.Entry.{Entry}
use Rattle.cal_storage.specs.declared.entry.Slot.{Slot}
use Rattle.cal_storage.specs.declared.entry.Slot.TheVariants.{Ended, Kept}
use Rattle.cal_storage.specs.Contents.{Contents, is_named, entry_in, one_less, slot_with_holder_less, slot_if_used, slot_of, entry_of, value_of, with_slot, without_name, after_creation, after_close, with_value}
use Rattle.cal_storage.specs.EntryLemmas.{after_creation-LeavesOthers}
use Rattle.cal_storage.specs.Holding.{HasHolders}
use Rattle.cal_storage.specs.Refusals.{finished_version}
use Rattle.cal_storage.specs.SoundnessLemmas.{entry_of-with_slot-same}
use Rattle.cal_storage.specs.ValueLemmas.{entry_of-after_close-other, entry_of-with_value-same, value_of-with_value-other}
use Rattle.cal_shm.specs.Calls.{ChangesAllocator}
use Rattle.cal_shm.specs.Segment.{Segment, with_allocator}
use Rattle.cal_resizable.specs.Chunks.{value_in}
use Rattle.cal_resizable.specs.Growth.{Allocates, TakesBack, made_segment, grown_contents, returned_contents}
use Rattle.cal_resizable.specs.Memory.{MemoryState, segment_path}
use Rattle.cal_resizable.specs.Slots.{Handle, HeldSegment, segment_at, with_less, after_retiring, EachHeld, LeavesHandle}
use Rattle.cal_resizable.specs.Together.{AreTogether}
use Rattle.cal_resizable.specs.View.{View, mapped_bytes}
use Rattle.cal_resizable.proofs.GrowthLemmas.{not_new}
use Rattle.cal_resizable.proofs.KeepingLemmas.{LeavesHandle-ChangesAllocator, was_held-less}
use Rattle.cal_resizable.proofs.StayingTogetherLemmas.{view_segment, allocates-cases}

-- ---- the value of an entry that another handle holds too

module _ {T : Type 0} where
  still_kept : (has_name none : Bool) (entry : Entry T) → none ≡ false →
      option_map (λ (e : Entry T). e.value) (entry_in (if not has_name && none then Ended else Kept entry))
      ≡ Some entry.value
  still_kept has_name true entry some = absurd (true≢false some)
  still_kept true false entry some = refl
  still_kept false false entry some = refl

  value_left : (has_name : Bool) (slot : Slot T) → IsSomeAnd (entry_in slot) (λ entry. 2 ≤ entry.holders) →
      option_map (λ (e : Entry T). e.value) (entry_in (slot_if_used has_name (slot_with_holder_less slot)))
      ≡ option_map (λ (e : Entry T). e.value) (entry_in slot)
  value_left has_name Ended shared = absurd shared
  value_left has_name (Kept entry) shared =
      let some : 0 < one_less entry.holders = grind arith in
      still_kept has_name (one_less entry.holders == 0) (record entry { holders = one_less entry.holders })
      (ne_eqb (one_less entry.holders) 0 (λ none. omega arith))

  -- where a handle closes
  module _ (contents : Contents T) (closing : Handle) where
    abbrev closed_slot : Slot T
    closed_slot = slot_if_used (is_named contents closing && not closing.is_owner)
        (slot_with_holder_less (slot_of contents closing.id))

    closed_entry : entry_of (after_close contents closing) closing.id ≡ entry_in closed_slot
    closed_entry = from closing.is_owner (is_named contents closing)
      where
        none_left : slot_of contents closing.id ≡ Ended → closed_slot ≡ Ended
        none_left none = ap (λ slot. slot_if_used (is_named contents closing && not closing.is_owner)
            (slot_with_holder_less slot)) none

        from : (owner named : Bool) →
            entry_of (with_slot (if owner then (if named then without_name contents closing.path else contents)
            else contents) closing.id closed_slot) closing.id ≡ entry_in closed_slot
        from true true = entry_of-with_slot-same contents closing.id closed_slot none_left
        from true false = entry_of-with_slot-same contents closing.id closed_slot none_left
        from false named = entry_of-with_slot-same contents closing.id closed_slot none_left

    value_of-after_close : (id : ℕ) → (id ≡ closing.id → HasHolders contents 2 id) →
        value_of (after_close contents closing) id ≡ value_of contents id
    value_of-after_close id shared = elim (cases_eq id closing.id) [
      | inl same ↦
          ap (value_of (after_close contents closing)) same
          ∙ ap (option_map (λ (e : Entry T). e.value)) closed_entry
          ∙ value_left (is_named contents closing && not closing.is_owner) (slot_of contents closing.id)
          (subst (λ i. HasHolders contents 2 i) same (shared same))
          ∙ ap (value_of contents) (sym same)
      | inr apart ↦
          ap (option_map (λ (e : Entry T). e.value)) (entry_of-after_close-other contents closing id apart)
    ]

  -- where a segment is retired
  value_of-retired : (contents : Contents T) (slot : Option HeldSegment) (id : ℕ) →
      ((held : HeldSegment) → slot ≡ Some held → id ≡ held.handle.id → HasHolders contents 2 id) →
      value_of (after_retiring contents slot) id ≡ value_of contents id
  value_of-retired contents None id shared = refl
  value_of-retired contents (Some held) id shared = by_test (held.count == 0)
    where
      by_test : (test : Bool) →
          value_of (if test then after_close contents held.handle else contents) id ≡ value_of contents id
      by_test true = value_of-after_close contents held.handle id (shared held refl)
      by_test false = refl

-- ---- the bytes of an entry

-- the bytes of a payload that are read
abbrev part : ℕ → ℕ → List ℕ → List ℕ
part pointer count bytes = slice_range bytes (offset_of pointer) (offset_of pointer + count)

module _ {A : Type 0} where
  abbrev bytes_in : Option (Segment A) → Option (List ℕ)
  bytes_in value = option_map (λ (s : Segment A). s.payload) value

  abbrev bytes_of : Contents (Segment A) → ℕ → Option (List ℕ)
  bytes_of contents id = bytes_in (value_of contents id)

  -- an allocator changes, and no byte does
  module _ (old new : Contents (Segment A)) (id : ℕ) (Change : A → A → Type 0)
      (changes : ChangesAllocator old id Change new) where
    abbrev segment : Segment A
    segment = with_allocator changes.segment changes.allocator

    same_bytes : (at : Option (Entry (Segment A))) →
        option_map (λ (e : Entry (Segment A)). e.value) at ≡ Some changes.segment →
        bytes_in (option_map (λ (e : Entry (Segment A)). e.value)
        (option_map (λ (e : Entry (Segment A)). record e { value = segment }) at))
        ≡ bytes_in (option_map (λ (e : Entry (Segment A)). e.value) at)
    same_bytes None was = refl
    same_bytes (Some entry) was =
        ap (λ (s : Segment A). Some s.payload) (sym (same_Some entry.value changes.segment was))

    bytes-changed : (other : ℕ) → bytes_of new other ≡ bytes_of old other
    bytes-changed other =
        ap (λ c. bytes_of c other) changes.after ∙ elim (cases_eq other id) [
          | inl same ↦
              ap (bytes_of (with_value old id segment)) same
              ∙ ap (λ at. bytes_in (option_map (λ (e : Entry (Segment A)). e.value) at))
              (entry_of-with_value-same old id segment)
              ∙ same_bytes (entry_of old id) changes.was ∙ ap (bytes_of old) (sym same)
          | inr apart ↦ ap bytes_in (value_of-with_value-other old id segment other apart)
        ]

  -- what a view reads, where the bytes of each entry that it has mapped are the same
  module _ (pointer count : ℕ) where
    part_of : (value : Option (Segment A)) →
        option_map (λ (s : Segment A). part pointer count s.payload) value ≡ option_map (part pointer count) (bytes_in value)
    part_of None = refl
    part_of (Some value) = refl

    read-same : (old new : Contents (Segment A)) (view : View) →
        EachHeld view.slots (λ number held. bytes_of new held.handle.id ≡ bytes_of old held.handle.id) →
        mapped_bytes new view pointer count ≡ mapped_bytes old view pointer count
    read-same old new view same = from (segment_at view.slots (segment_of pointer)) (same (segment_of pointer))
      where
        from : (slot : Option HeldSegment) → ((held : HeldSegment) → slot ≡ Some held →
            bytes_of new held.handle.id ≡ bytes_of old held.handle.id) →
            option_map (λ (s : Segment A). part pointer count s.payload) (value_in new slot)
            ≡ option_map (λ (s : Segment A). part pointer count s.payload) (value_in old slot)
        from None is = refl
        from (Some held) is =
            part_of (value_of new held.handle.id) ∙ ap (option_map (part pointer count)) (is held refl)
            ∙ sym (part_of (value_of old held.handle.id))

-- ---- a memory allocates

module _ {A C : Type 0} (rules : shm_allocator.Ghosts A C) (old : Contents (Segment A)) (before : MemoryState)
    (view : View) (both : AreTogether old before view) where
  -- where it grows, the former current segment may be retired
  module _ (hint : SharedMemorySetupHint C) where
    abbrev path : List ℕ
    path = segment_path before.settings before.name (before.current + 1)

    abbrev made : Contents (Segment A)
    made = after_creation old path (made_segment rules hint) finished_version

    grown_bytes : EachHeld view.slots (λ number held.
        bytes_of (grown_contents rules old before hint) held.handle.id ≡ bytes_of old held.handle.id)
    grown_bytes number held at =
        let has = both.has_view in
        let leaves = after_creation-LeavesOthers old path (made_segment rules hint) finished_version in
        let entry : entry_of made held.handle.id ≡ entry_of old held.handle.id =
        leaves.entries held.handle.id (not_new old held.handle (has.of_segments number held at)) in
        ap bytes_in (value_of-retired made (segment_at before.slots before.current) held.handle.id
        (λ one there same.
        let two = view_segment old before view both number held at
        (record { number = before.current; held = one; there = there; same = sym same }) in
        subst (λ o. IsSomeAnd o (λ (e : Entry (Segment A)). 2 ≤ e.holders)) (sym entry) two.1)
        ∙ ap (option_map (λ (e : Entry (Segment A)). e.value)) entry)

  pub read-allocated : (new : Contents (Segment A)) (after : MemoryState) (layout : SizeAndAlignment) (pointer : ℕ) →
      Allocates rules old before layout pointer new after → (read count : ℕ) →
      mapped_bytes new view read count ≡ mapped_bytes old view read count
  read-allocated new after layout pointer allocates read count =
      elim (allocates-cases rules old new before after layout pointer allocates) [
        | inl here ↦ read-same read count old new view
            (λ number held at. bytes-changed old new here.held.handle.id _ here.given held.handle.id)
        | inr next ↦ read-same read count old new view
            (λ number held at.
            let here = next.here in
            bytes-changed (grown_contents rules old before next.hint) new here.held.handle.id _ here.given
            held.handle.id
            ∙ grown_bytes next.hint number held at)
      ]

-- ---- a chunk is taken back

module _ {A : Type 0} (Change : A → A → Type 0) (old new : Contents (Segment A)) (before after : MemoryState)
    (number : ℕ) (takes : TakesBack Change old before number new after) (view : View)
    (both : AreTogether old before view) where
  taken_bytes : EachHeld view.slots (λ other held.
      bytes_of (returned_contents takes.freed before number) held.handle.id ≡ bytes_of old held.handle.id)
  taken_bytes other held at = by_test (number == before.current) ∙ freed_bytes
    where
      freed_bytes : bytes_of takes.freed held.handle.id ≡ bytes_of old held.handle.id
      freed_bytes = bytes-changed old takes.freed takes.held.handle.id Change takes.change held.handle.id

      shared : (one : HeldSegment) → segment_at (with_less before.slots number) number ≡ Some one →
          held.handle.id ≡ one.handle.id → HasHolders takes.freed 2 held.handle.id
      shared one there same =
          let was = was_held-less before.slots number takes.held takes.there number one there in
          let two = view_segment old before view both other held at (record {
            number = number;
            held = was.one;
            there = was.there;
            same = ap (λ (h : Handle). h.id) was.same ∙ sym same;
          }) in
          let leaves : LeavesHandle old takes.freed held.handle =
          LeavesHandle-ChangesAllocator old takes.freed takes.held.handle.id Change takes.change held.handle in
          (leaves.holds 2 (omega arith) (omega arith) two).1

      by_test : (test : Bool) → bytes_of (if test then takes.freed
          else after_retiring takes.freed (segment_at (with_less before.slots number) number)) held.handle.id
          ≡ bytes_of takes.freed held.handle.id
      by_test true = refl
      by_test false = ap bytes_in (value_of-retired takes.freed (segment_at (with_less before.slots number) number)
          held.handle.id shared)

  pub read-returned : (read count : ℕ) → mapped_bytes new view read count ≡ mapped_bytes old view read count
  read-returned read count = read-same read count old new view
      (λ other held at. ap (λ c. bytes_of c held.handle.id) takes.registry ∙ taken_bytes other held at)
