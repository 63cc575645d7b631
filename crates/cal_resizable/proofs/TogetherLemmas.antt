-- That a memory and a view of it stay together over the view's calls.
use Rattle.std.proofs.Common.{◌≡◌, ◌≢◌, ℕ, ◌<◌, ◌≤◌, ◌⊎◌, Bool, false, Option, Some, None, IsSome, IsSomeAnd, is_some, if◌then◌else◌, length, option_map, refl, sym, ap, ◌∙◌, subst, inl, inr, arith}
use Rattle.std.specs.Option.{option_and_then}
use Rattle.std.proofs.lemmas.Bool.{cases_eq}
use Rattle.std.proofs.lemmas.Option.{same_Some}
use Rattle.cal_storage.specs.declared.entry.Entry.{Entry}
use Rattle.cal_storage.specs.Contents.{Contents, Has, id_at, entry_of, found_handle, after_opening}
use Rattle.cal_storage.specs.ContentsLaws.{one_holder_more}
use Rattle.cal_storage.specs.EntryLemmas.{after_opening-ChangesEntry}
use Rattle.cal_storage.specs.HandleLemmas.{has_entry}
use Rattle.cal_storage.specs.Holding.{Holds}
use Rattle.cal_shm.specs.Segment.{Segment}
use Rattle.cal_resizable.specs.Chunks.{value_in, segment_value}
use Rattle.cal_resizable.specs.Memory.{MemoryState, HoldsAll}
use Rattle.cal_resizable.specs.Slots.{Handle, Slots, HeldSegment, segment_at, with_more, with_less, EachHeld, AreApart, LeavesHandle}
use Rattle.cal_resizable.specs.Together.{ShareSegments, AreTogether}
use Rattle.cal_resizable.specs.View.{View, IsView, HasView, segment_path, with_found, leaving_of, mapping, registering, unregistering, view_after_arrival, registry_after_arrival, after_mapping, after_retiring_of, arrival_refusal}
use Rattle.cal_resizable.proofs.FinishedLemmas.{AllFinished-after_opening}
use Rattle.cal_resizable.proofs.MemoryLemmas.{some_is}
use Rattle.cal_resizable.proofs.SharingLemmas.{same_path, share-from, retired_names, retired_finished, retired_HasAll, retired_HoldsAll, retired_NamesAll, retired_values, retired_has_view, retired_share}
use Rattle.cal_resizable.proofs.SlotLemmas.{within_slots}
use Rattle.cal_resizable.proofs.ViewLawLemmas.{sound_arrival}
use Rattle.cal_resizable.proofs.ViewLemmas.{LeavesHandle-after_opening, view-AreApart, fewer-HasPaths, fewer-HasView, registering-HasView}
use Rattle.cal_resizable.proofs.ViewSlotLemmas.{ComesFrom, HasPaths, path_in, fresh, both-length, both-lookup, mapped-here, mapped-lookup, mapping-IsView, registering-IsView, unregistering-IsView, with_more-ComesFrom, with_less-ComesFrom, held-within, is_some-within, less-retired-within, less-lookup}

-- the handles of a view don't own their names
pub guests_of : (view : View) → IsView view → EachHeld view.slots (λ number held. held.handle.is_owner ≡ false)
guests_of view is number held at = ap (λ (h : Handle). h.is_owner) (is.segments number held at)

module _ {T : Type 0} (contents : Contents T) (memory : MemoryState) (view : View)
    (both : AreTogether contents memory view) where
  -- an offset of an active segment
  module _ (number : ℕ) (one : HeldSegment) (at : segment_at memory.slots number ≡ Some one) where
    pub small : number < 256
    small = let sound = both.memory_sound in
        omega (arith, within_slots memory.slots number one at, sound.places)

    one_path : segment_path view number ≡ one.handle.path
    one_path =
        let sound = both.memory_sound in
        let active = sound.active number one at in
        same_path memory view both.name both.settings number ∙ sym active.path

    pub at_path : id_at contents (segment_path view number) ≡ Some one.handle.id
    at_path = let names = both.names in ap (id_at contents) one_path ∙ names.of_segments number one at

  -- ---- an offset arrives in a segment that is mapped

  module _ (number : ℕ) (other : HeldSegment) (at : segment_at view.slots number ≡ Some other) where
    registering_from : ComesFrom (with_more view.slots number) view.slots
    registering_from = with_more-ComesFrom view.slots number (held-within view.slots number other at)

    pub registered : AreTogether contents memory (registering view number)
    registered = record {
      memory_sound = both.memory_sound;
      view_sound = registering-IsView view both.view_sound number other at;
      name = both.name;
      settings = both.settings;
      has_memory = both.has_memory;
      has_view = registering-HasView contents view both.view_sound both.has_view number other at;
      holds = both.holds;
      names = both.names;
      finished = both.finished;
      share = share-from contents memory.slots (with_more view.slots number) view.slots registering_from both.share;
      later = both.later;
      mapped = λ n held there. let old = registering_from n held there in both.mapped n old.0 old.1;
    }

-- ---- a segment is opened

holds_one_more : {T : Type 0} (contents : Contents T) (handle : Handle) → Holds contents 1 handle →
    Holds (after_opening contents handle.id) 2 handle
holds_one_more {T = T} contents handle holds =
    let leaves : LeavesHandle contents (after_opening contents handle.id) handle =
    LeavesHandle-after_opening contents handle.id handle in
    let changes = after_opening-ChangesEntry contents handle.id in (
      leaves.has holds.0,
      subst (λ o. IsSomeAnd o (λ (entry : Entry T). 2 ≤ entry.holders)) (sym changes.entry)
          (from (entry_of contents handle.id) holds.1),
    )
  where
    from : (at : Option (Entry T)) → IsSomeAnd at (λ entry. 1 ≤ entry.holders) →
        IsSomeAnd (option_map one_holder_more at) (λ entry. 2 ≤ entry.holders)
    from None h = h
    from (Some entry) h = omega arith

module _ {T : Type 0} (contents : Contents T) (memory : MemoryState) (view : View)
    (both : AreTogether contents memory view) (number : ℕ) (one : HeldSegment)
    (at : segment_at memory.slots number ≡ Some one) (unmapped : segment_at view.slots number ≡ None) where
  abbrev id : ℕ
  id = one.handle.id

  abbrev mid : Contents T
  mid = after_opening contents id

  abbrev slots : Slots
  slots = with_found view number id

  abbrev opened_view : View
  opened_view = record view { slots = slots }

  below : number < 256
  below = small contents memory view both number one at

  lookup : (n : ℕ) (held : HeldSegment) → segment_at slots n ≡ Some held →
      ((n ≡ number) × (fresh view both.view_sound number id unmapped below ≡ held)) ⊎
      ((n ≢ number) × (segment_at view.slots n ≡ Some held))
  lookup = both-lookup view both.view_sound number id unmapped below

  opened_paths : HasPaths opened_view
  opened_paths = let is = both.view_sound in record {
    slots = both-length view is number id unmapped below;
    name = is.name;
    management = ap path_in is.management;
    segments = λ n held there. elim (lookup n held there) [
      | inl here ↦ ap (λ (h : HeldSegment). h.handle.path) (sym here.1) ∙ ap (segment_path view) (sym here.0)
      | inr other ↦ ap path_in (is.segments n held other.1)
    ];
  }

  leaves_opened : (handle : Handle) → LeavesHandle contents mid handle
  leaves_opened = LeavesHandle-after_opening contents id

  opened_has : HasView mid opened_view
  opened_has =
      let has = both.has_view in
      let mine = both.has_memory in
      let leaves_management = leaves_opened view.management in
      let leaves_found = leaves_opened (found_handle (segment_path view number) id) in
      record {
        of_management = leaves_management.has has.of_management;
        of_segments = λ n held there. elim (lookup n held there) [
          | inl here ↦ subst (λ (h : HeldSegment). Has mid h.handle) here.1
              (leaves_found.has
              (subst (λ path. IsSomeAnd (entry_of contents id) (λ (entry : Entry T). entry.path ≡ path))
              (sym (one_path contents memory view both number one at)) (mine.of_segments number one at)))
          | inr other ↦ let leaves = leaves_opened held.handle in leaves.has (has.of_segments n held other.1)
        ];
      }

  opened_guests : EachHeld slots (λ n held. held.handle.is_owner ≡ false)
  opened_guests n held there = elim (lookup n held there) [
    | inl here ↦ ap (λ (h : HeldSegment). h.handle.is_owner) (sym here.1)
    | inr other ↦ guests_of view both.view_sound n held other.1
  ]

  opened_holds : HoldsAll mid memory
  opened_holds = let holds = both.holds in record {
    of_management = let leaves = leaves_opened memory.management in
        leaves.holds 1 (omega arith) (omega arith) holds.of_management;
    of_segments = λ n held there. let leaves = leaves_opened held.handle in
        leaves.holds 1 (omega arith) (omega arith) (holds.of_segments n held there);
  }

  opened_share : ShareSegments mid memory.slots slots
  opened_share n ours theirs at_ours at_theirs = elim (lookup n theirs at_theirs) [
    | inl here ↦
        let is : one ≡ ours = same_Some one ours (sym at ∙ ap (segment_at memory.slots) (sym here.0) ∙ at_ours) in
        let holds = both.holds in (
          ap (λ (h : HeldSegment). h.handle.id) (sym here.1) ∙ ap (λ (h : HeldSegment). h.handle.id) is,
          subst (λ (h : HeldSegment). Holds mid 2 h.handle) is
              (holds_one_more contents one.handle (holds.of_segments number one at)),
        )
    | inr other ↦
        let shared = both.share n ours theirs at_ours other.1 in
        let leaves = leaves_opened ours.handle in
        (shared.0, leaves.holds 2 (omega arith) (omega arith) shared.1)
  ]

  current_within : (n : ℕ) → view.current ≡ Some n → n < length slots
  current_within n current =
      let is = both.view_sound in
      omega (
        arith,
        is_some-within view.slots n (is.current n current),
        is.slots,
        both-length view is number id unmapped below,
      )

  opened_apart : AreApart slots
  opened_apart = view-AreApart mid opened_view opened_paths opened_has

  abbrev new : Contents T
  new = after_retiring_of mid slots view.current

  abbrev mapped_view : View
  mapped_view = mapping view number (Some id)

  mapped_sound : IsView mapped_view
  mapped_sound = mapping-IsView view both.view_sound number id unmapped below

  mapped_has : HasView new mapped_view
  mapped_has =
      retired_has_view mid memory both.memory_sound opened_view opened_paths both.name both.settings opened_guests
      opened_has opened_holds both.names opened_share view.current current_within opened_apart

  pub mapped_together : AreTogether new memory mapped_view
  mapped_together = record {
    memory_sound = both.memory_sound;
    view_sound = mapped_sound;
    name = both.name;
    settings = both.settings;
    has_memory = retired_HasAll mid memory both.memory_sound opened_view opened_paths both.name both.settings
        opened_guests opened_has opened_holds both.names opened_share view.current current_within opened_apart;
    has_view = mapped_has;
    holds = retired_HoldsAll mid memory both.memory_sound opened_view opened_paths both.name both.settings
        opened_guests opened_has opened_holds both.names opened_share view.current current_within opened_apart;
    names = retired_NamesAll mid memory both.memory_sound opened_view opened_paths both.name both.settings
        opened_guests opened_has opened_holds both.names opened_share view.current current_within opened_apart;
    finished = retired_finished mid memory both.memory_sound opened_view opened_paths both.name both.settings
        opened_guests opened_has opened_holds both.names opened_share view.current
        (AllFinished-after_opening contents id both.finished);
    share = retired_share mid memory both.memory_sound opened_view opened_paths both.name both.settings
        opened_guests opened_has opened_holds both.names opened_share view.current current_within opened_apart;
    later = λ n after_current within.
        retired_names mid memory both.memory_sound opened_view opened_paths both.name both.settings opened_guests
        opened_has opened_holds both.names opened_share view.current _ ∙ both.later n after_current within;
    mapped = λ n held there. elim (lookup n held
        (mapped-lookup view both.view_sound number id unmapped below n held there).0) [
          | inl here ↦
              let sound = both.memory_sound in
              let active = sound.active number one at in
              subst (λ m. m ≤ memory.current) (sym here.0) active.not_later
          | inr other ↦ both.mapped n held other.1
        ];
  }

  pub mapped_values : (n : ℕ) → segment_value new memory.slots n ≡ segment_value contents memory.slots n
  mapped_values n =
      retired_values mid memory both.memory_sound opened_view opened_paths both.name both.settings opened_guests
      opened_has opened_holds both.names opened_share view.current current_within opened_apart n
      ∙ from (segment_at memory.slots n)
    where
      value_more : (at_id : Option (Entry T)) →
          option_map (λ (entry : Entry T). entry.value) (option_map one_holder_more at_id)
          ≡ option_map (λ (entry : Entry T). entry.value) at_id
      value_more None = refl
      value_more (Some entry) = refl

      from : (slot : Option HeldSegment) → value_in mid slot ≡ value_in contents slot
      from None = refl
      from (Some held) =
          let changes = after_opening-ChangesEntry contents id in
          elim (cases_eq held.handle.id id) [
            | inl same ↦
                ap (λ i. option_map (λ (entry : Entry T). entry.value) (entry_of mid i)) same
                ∙ ap (option_map (λ (entry : Entry T). entry.value)) changes.entry
                ∙ value_more (entry_of contents id)
                ∙ ap (λ i. option_map (λ (entry : Entry T). entry.value) (entry_of contents i)) (sym same)
            | inr apart ↦
                ap (option_map (λ (entry : Entry T). entry.value)) (changes.others held.handle.id apart)
          ]

  pub mapped_registered : AreTogether new memory (registering mapped_view number)
  mapped_registered =
      registered new memory mapped_view mapped_together number (fresh view both.view_sound number id unmapped below)
      (mapped-here view both.view_sound number id unmapped below)

-- ---- an offset arrives

module _ {T : Type 0} (contents : Contents T) (memory : MemoryState) (view : View) (number : ℕ)
    (both : AreTogether contents memory view) (active : IsSome (segment_at memory.slots number)) where
  held_here : (one : HeldSegment) × (segment_at memory.slots number ≡ Some one)
  held_here = some_is (segment_at memory.slots number) active

  found_here : id_at contents (segment_path view number) ≡ Some held_here.0.handle.id
  found_here = at_path contents memory view both number held_here.0 held_here.1

  pub found-active : IsSome (id_at contents (segment_path view number))
  found-active = subst IsSome (sym found_here) refl

  pub arrived_together : AreTogether (registry_after_arrival contents view number) memory
      (view_after_arrival contents view number)
  arrived_together = by_slot (segment_at view.slots number) refl
    where
      by_slot : (slot : Option HeldSegment) → segment_at view.slots number ≡ slot →
          AreTogether (if is_some slot then contents
          else after_mapping contents view number (id_at contents (segment_path view number))) memory
          (if is_some slot then registering view number
          else registering (mapping view number (id_at contents (segment_path view number))) number)
      by_slot (Some other) at = registered contents memory view both number other at
      by_slot None at =
          subst (λ found. AreTogether (after_mapping contents view number found) memory
          (registering (mapping view number found) number)) (sym found_here)
          (mapped_registered contents memory view both number held_here.0 held_here.1 at)

  pub arrived_values : (other : ℕ) → segment_value (registry_after_arrival contents view number) memory.slots other
      ≡ segment_value contents memory.slots other
  arrived_values other = by_slot (segment_at view.slots number) refl
    where
      by_slot : (slot : Option HeldSegment) → segment_at view.slots number ≡ slot →
          segment_value (if is_some slot then contents
          else after_mapping contents view number (id_at contents (segment_path view number))) memory.slots other
          ≡ segment_value contents memory.slots other
      by_slot (Some held) at = refl
      by_slot None at =
          subst (λ found. segment_value (after_mapping contents view number found) memory.slots other
          ≡ segment_value contents memory.slots other) (sym found_here)
          (mapped_values contents memory view both number held_here.0 held_here.1 at other)

  pub same_segment : IsSome (segment_at view.slots number) →
      segment_value contents view.slots number ≡ segment_value contents memory.slots number
  same_segment mapped =
      let other = some_is (segment_at view.slots number) mapped in
      let shared = both.share number held_here.0 other.0 held_here.1 other.1 in
      ap (value_in contents) other.1
      ∙ ap (λ i. option_map (λ (entry : Entry T). entry.value) (entry_of contents i)) shared.0
      ∙ sym (ap (value_in contents) held_here.1)

pub not_refused : {A : Type 0} (checks_version : Bool) (contents : Contents (Segment A)) (memory : MemoryState)
    (view : View) (number : ℕ) → AreTogether contents memory view → IsSome (segment_at memory.slots number) →
    arrival_refusal checks_version contents view number ≡ None
not_refused checks_version contents memory view number both active =
    let one = held_here contents memory view number both active in
    let has = both.has_memory in
    let entry = has_entry contents one.0.handle (has.of_segments number one.0 one.1) in
    sound_arrival checks_version contents view number entry.0 both.view_sound
    (small contents memory view both number one.0 one.1)
    (ap (option_and_then (entry_of contents)) (found_here contents memory view number both active) ∙ entry.1)
    (both.finished one.0.handle.id entry.0 entry.1)

-- ---- an offset is given back

module _ {T : Type 0} (contents : Contents T) (memory : MemoryState) (view : View) (number : ℕ)
    (both : AreTogether contents memory view) (old : HeldSegment) (there : segment_at view.slots number ≡ Some old)
  where
    abbrev less : Slots
    less = with_less view.slots number

    abbrev less_view : View
    less_view = record view { slots = less }

    abbrev leaving : Option ℕ
    leaving = leaving_of view.current number

    less_from : ComesFrom less view.slots
    less_from = with_less-ComesFrom view.slots number (held-within view.slots number old there)

    less_paths : HasPaths less_view
    less_paths = fewer-HasPaths contents view both.view_sound both.has_view number old there

    less_has : HasView contents less_view
    less_has = fewer-HasView contents view both.view_sound both.has_view number old there

    less_guests : EachHeld less (λ n held. held.handle.is_owner ≡ false)
    less_guests n held at =
        let from = less_from n held at in
        ap (λ (h : Handle). h.is_owner) from.2 ∙ guests_of view both.view_sound n from.0 from.1

    less_share : ShareSegments contents memory.slots less
    less_share = share-from contents memory.slots less view.slots less_from both.share

    less_within : (n : ℕ) → leaving ≡ Some n → n < length less
    less_within = less-retired-within view both.view_sound number old there

    less_apart : AreApart less
    less_apart = view-AreApart contents less_view less_paths less_has

    abbrev given_back : Contents T
    given_back = after_retiring_of contents less leaving

    pub given_back_together : AreTogether given_back memory (unregistering view number)
    given_back_together = record {
      memory_sound = both.memory_sound;
      view_sound = unregistering-IsView view both.view_sound number old there;
      name = both.name;
      settings = both.settings;
      has_memory = retired_HasAll contents memory both.memory_sound less_view less_paths both.name both.settings
          less_guests less_has both.holds both.names less_share leaving less_within less_apart;
      has_view = retired_has_view contents memory both.memory_sound less_view less_paths both.name both.settings
          less_guests less_has both.holds both.names less_share leaving less_within less_apart;
      holds = retired_HoldsAll contents memory both.memory_sound less_view less_paths both.name both.settings
          less_guests less_has both.holds both.names less_share leaving less_within less_apart;
      names = retired_NamesAll contents memory both.memory_sound less_view less_paths both.name both.settings
          less_guests less_has both.holds both.names less_share leaving less_within less_apart;
      finished = retired_finished contents memory both.memory_sound less_view less_paths both.name both.settings
          less_guests less_has both.holds both.names less_share leaving both.finished;
      share = retired_share contents memory both.memory_sound less_view less_paths both.name both.settings
          less_guests less_has both.holds both.names less_share leaving less_within less_apart;
      later = λ n after_current within.
          retired_names contents memory both.memory_sound less_view less_paths both.name both.settings
          less_guests less_has both.holds both.names less_share leaving _ ∙ both.later n after_current within;
      mapped = λ n held at.
          let from = less_from n held (less-lookup view both.view_sound number old there n held at).0 in
          both.mapped n from.0 from.1;
    }

    pub given_back_values : (other : ℕ) →
        segment_value given_back memory.slots other ≡ segment_value contents memory.slots other
    given_back_values =
        retired_values contents memory both.memory_sound less_view less_paths both.name both.settings
        less_guests less_has both.holds both.names less_share leaving less_within less_apart
