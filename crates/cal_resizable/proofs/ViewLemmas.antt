-- What the registry of a view keeps over its calls.
use Rattle.std.specs.Prelude.{◌≡◌, ◌≢◌, ℕ, ◌<◌, ◌⊎◌, length, Option, Some, None, IsSome, IsSomeAnd}
use Rattle.std.proofs.Common.{arith, refl, sym, ap, ◌∙◌, subst, inl, inr}
use Rattle.std.proofs.lemmas.List.{length-set, get_or-set_same, get_or-set_other}
use Rattle.std.proofs.lemmas.Option.{same_Some}
use Rattle.cal_resizable.proofs.LeavingLemmas.{LeavesHandle-same, SparesHandles-leaves, SparesHandles-after}
use Rattle.cal_resizable.specs.Slots.{Handle, Slots, HeldSegment, EachHandle, IsHeldId, AreApart, IsSpared, LeavesHandle, SparesHandles, segment_at, counted_less, with_more, with_less}
use Rattle.cal_resizable.specs.View.{View, IsView, HasView, segment_path, with_found, without_unused_of, leaving_of, mapping, registering, unregistering}
use Rattle.cal_storage.specs.declared.entry.Entry.{Entry}
use Rattle.cal_storage.specs.Contents.{Contents, Has, id_at, entry_of, found_handle, after_opening}
use Rattle.cal_storage.specs.ContentsLaws.{one_holder_more}
use Rattle.cal_storage.specs.EntryLemmas.{after_opening-ChangesEntry}
use Rattle.cal_storage.specs.HandleLemmas.{Has-ChangesEntry}
use Rattle.cal_storage.specs.HoldingLemmas.{KeepsHandles-after_opening, after_opening-Holds}
use Rattle.cal_storage.specs.Soundness.{IsSound}
use Rattle.cal_resizable.proofs.ViewSlotLemmas.{ComesFrom, no_segment, HasPaths, HasPaths-view, HasPaths-from, path_in, held-within, is_some-within, with_more-ComesFrom, with_less-ComesFrom, segment_path-apart, management_path-apart, retired-lookup, fresh, both-length, both-lookup, mapped-here, retired-is, less-retired-within}

-- ---- the registry has the entries

module _ {T : Type 0} (contents : Contents T) where
  -- handles of different paths are on different entries
  pub ids-apart : (a b : Handle) → Has contents a → Has contents b → a.path ≢ b.path → a.id ≢ b.id
  ids-apart a b has_a has_b apart same = apart (from (entry_of contents b.id)
      (subst (λ id. IsSomeAnd (entry_of contents id) (λ (entry : Entry T). entry.path ≡ a.path)) same has_a) has_b)
    where
      from : (at : Option (Entry T)) → IsSomeAnd at (λ entry. entry.path ≡ a.path) →
          IsSomeAnd at (λ entry. entry.path ≡ b.path) → a.path ≡ b.path
      from None h i = absurd h
      from (Some entry) h i = sym h ∙ i

-- handles of a view under different numbers are on different entries, and so is its management segment
module _ {T : Type 0} (contents : Contents T) (view : View) (is : HasPaths view) (has : HasView contents view) where
  number-small : (n : ℕ) (held : HeldSegment) → segment_at view.slots n ≡ Some held → n < 256
  number-small n held there = omega (arith, held-within view.slots n held there, is.slots)

  pub view-ids : (m n : ℕ) (a b : HeldSegment) → segment_at view.slots m ≡ Some a → segment_at view.slots n ≡ Some b →
      m ≢ n → a.handle.id ≢ b.handle.id
  view-ids m n a b at_m at_n apart =
      ids-apart contents a.handle b.handle (has.of_segments m a at_m) (has.of_segments n b at_n) (λ same.
      segment_path-apart view is.name m n (number-small m a at_m) (number-small n b at_n) apart
      (sym (is.segments m a at_m) ∙ same ∙ is.segments n b at_n))

  pub view-management : (n : ℕ) (a : HeldSegment) → segment_at view.slots n ≡ Some a →
      view.management.id ≢ a.handle.id
  view-management n a there =
      ids-apart contents view.management a.handle has.of_management (has.of_segments n a there) (λ same.
      management_path-apart view is.name n (number-small n a there)
      (sym is.management ∙ same ∙ is.segments n a there))

  -- the view with other slots, whose handles were there, and the same registry
  pub HasView-from : (slots : Slots) → ComesFrom slots view.slots → EachHandle view.management slots (Has contents)
  HasView-from slots from = record {
    of_management = has.of_management;
    of_segments = λ n held there. let old = from n held there in
        subst (Has contents) (sym old.2) (has.of_segments n old.0 old.1);
  }

  pub view-AreApart : AreApart view.slots
  view-AreApart first second one other apart at_first at_second = view-ids first second one other at_first at_second
      apart

  -- the segment of a number, if one is given, is given up where it isn't counted
  module _ (new : Contents T) (retired : Option ℕ) (within : (n : ℕ) → retired ≡ Some n → n < length view.slots)
      (leaves : (handle : Handle) →
      ((n : ℕ) → retired ≡ Some n → IsSpared (segment_at view.slots n) handle) → LeavesHandle contents new handle) where
    pub retired-HasView : EachHandle view.management (without_unused_of view.slots retired) (Has new)
    retired-HasView =
        let kept : LeavesHandle contents new view.management =
        leaves view.management (λ n at held there zero. view-management n held there) in record {
          of_management = kept.has has.of_management;
          of_segments = λ m held at.
              let left = retired-lookup view.slots retired within m held at in
              let stays : LeavesHandle contents new held.handle = leaves held.handle (λ n gone other there zero.
              view-ids m n held other left.0 there (λ same. left.1 (gone ∙ ap Some (sym same))
              (ap (λ (h : HeldSegment). h.count)
              (same_Some _ _ (sym left.0 ∙ ap (segment_at view.slots) same ∙ there)) ∙ zero))) in
              stays.has (has.of_segments m held left.0);
        }

IsHeldId-from : (after before : Slots) → ComesFrom after before → (id : ℕ) → IsHeldId after id → IsHeldId before id
IsHeldId-from after before from id is = let old = from is.number is.held is.there in record {
  number = is.number;
  held = old.0;
  there = old.1;
  same = ap (λ (h : Handle). h.id) (sym old.2) ∙ is.same;
}

-- other slots with the same handles
module _ {T : Type 0} (old new : Contents T) where
  pub SparesHandles-later : (before after later : Slots) → ComesFrom later after →
      SparesHandles old new before after → SparesHandles old new before later
  SparesHandles-later before after later from spares = record {
    others = λ handle stays.
        spares.others handle (λ held. IsHeldId-from later after from handle.id (stays held));
    sharers = spares.sharers;
  }

  pub SparesHandles-earlier : (earlier before after : Slots) → ComesFrom before earlier →
      SparesHandles old new before after → SparesHandles old new earlier after
  SparesHandles-earlier earlier before after from spares = record {
    others = λ handle stays.
        spares.others handle (λ held. stays (IsHeldId-from before earlier from handle.id held));
    sharers = spares.sharers;
  }

pub SparesHandles-same : {T : Type 0} (contents : Contents T) (before after : Slots) →
    SparesHandles contents contents before after
SparesHandles-same contents before after =
    SparesHandles-leaves contents contents before after (LeavesHandle-same contents)

-- ---- a segment is opened and becomes the current one

pub LeavesHandle-after_opening : {T : Type 0} (contents : Contents T) (id : ℕ) (handle : Handle) →
    LeavesHandle contents (after_opening contents id) handle
LeavesHandle-after_opening {T = T} contents id handle = record {
  has = λ has. Has-ChangesEntry contents (after_opening contents id) handle has id (one_holder_more {T = T})
      (λ entry. refl)
      (after_opening-ChangesEntry contents id);
  holds = λ count some small holds. KeepsHandles-after_opening contents id count handle some small holds;
  named = λ named. named;
}

module _ {T : Type 0} (contents : Contents T) (view : View) (is : IsView view) (has : HasView contents view)
    (number : ℕ) (small : number < 256) (unmapped : segment_at view.slots number ≡ None) (id : ℕ)
    (sound : IsSound contents) (at : id_at contents (segment_path view number) ≡ Some id) where
  abbrev opened : Contents T
  opened = after_opening contents id

  abbrev slots : Slots
  slots = with_found view number id

  abbrev opened_view : View
  opened_view = record view { slots = slots }

  lookup : (m : ℕ) (held : HeldSegment) → segment_at slots m ≡ Some held →
      ((m ≡ number) × (fresh view is number id unmapped small ≡ held)) ⊎
      ((m ≢ number) × (segment_at view.slots m ≡ Some held))
  lookup = both-lookup view is number id unmapped small

  opened-HasPaths : HasPaths opened_view
  opened-HasPaths = record {
    slots = both-length view is number id unmapped small;
    name = is.name;
    management = ap path_in is.management;
    segments = λ m held there. elim (lookup m held there) [
      | inl here ↦ ap (λ (h : HeldSegment). h.handle.path) (sym here.1) ∙ ap (segment_path view) (sym here.0)
      | inr other ↦ ap path_in (is.segments m held other.1)
    ];
  }

  opened-Has : (handle : Handle) → Has contents handle → Has opened handle
  opened-Has handle = let left = LeavesHandle-after_opening contents id handle in left.has

  opened-HasView : HasView opened opened_view
  opened-HasView = record {
    of_management = opened-Has view.management has.of_management;
    of_segments = λ m held there. elim (lookup m held there) [
      | inl here ↦ subst (λ (h : HeldSegment). Has opened h.handle) here.1
          (after_opening-Holds contents opened sound (segment_path view number)
          (found_handle (segment_path view number) id) at refl refl).0
      | inr other ↦ opened-Has held.handle (has.of_segments m held other.1)
    ];
  }

  pub opened-AreApart : AreApart slots
  opened-AreApart = view-AreApart opened opened_view opened-HasPaths opened-HasView

  pub opened-there : (n : ℕ) → view.current ≡ Some n → IsSomeAnd (segment_at slots n) (λ held. Has opened held.handle)
  opened-there n now = from (segment_at slots n) refl
      (subst IsSome (sym (get_or-set_other view.slots number n (Some (fresh view is number id unmapped small)) None
      (λ same. no_segment (subst IsSome unmapped (is.current number (now ∙ ap Some same)))))) (is.current n now))
    where
      from : (slot : Option HeldSegment) → segment_at slots n ≡ slot → IsSome slot →
          IsSomeAnd slot (λ held. Has opened held.handle)
      from None none some = absurd (no_segment some)
      from (Some held) there some = opened-HasView.of_segments n held there

  module _ (new : Contents T) (leaves : (handle : Handle) →
      ((n : ℕ) → view.current ≡ Some n → IsSpared (segment_at slots n) handle) → LeavesHandle opened new handle) where
    pub mapping-HasView : HasView new (mapping view number (Some id))
    mapping-HasView = retired-HasView opened opened_view opened-HasPaths opened-HasView new view.current
        (λ n now. subst (λ l. n < l) (sym (both-length view is number id unmapped small))
        (omega (arith, is_some-within view.slots n (is.current n now), is.slots))) leaves

  pub mapping-Spares : (new : Contents T) →
      (AreApart slots → SparesHandles opened new slots (without_unused_of slots view.current)) →
      SparesHandles contents new view.slots (without_unused_of slots view.current)
  mapping-Spares new spares =
      let all : SparesHandles opened new slots (without_unused_of slots view.current) = spares opened-AreApart in
      SparesHandles-after contents opened new view.slots (without_unused_of slots view.current)
      (LeavesHandle-after_opening contents id) (record {
        others = λ handle stays. all.others handle (λ held. elim (lookup held.number held.held held.there) [
          | inl here ↦ record {
            number = number;
            held = fresh view is number id unmapped small;
            there = mapped-here view is number id unmapped small;
            same = ap (λ (h : HeldSegment). h.handle.id) here.1 ∙ held.same;
          }
          | inr other ↦ stays (record {
            number = held.number;
            held = held.held;
            there = other.1;
            same = held.same;
          })
        ]);
        sharers = all.sharers;
      })

-- ---- an offset is given back

module _ {T : Type 0} (contents : Contents T) (view : View) (is : IsView view) (has : HasView contents view)
    (number : ℕ) (old : HeldSegment) (there : segment_at view.slots number ≡ Some old) where
  inside : number < length view.slots
  inside = held-within view.slots number old there

  abbrev pub fewer : Slots
  fewer = with_less view.slots number

  abbrev pub fewer_view : View
  fewer_view = record view { slots = fewer }

  pub fewer-HasPaths : HasPaths fewer_view
  fewer-HasPaths = HasPaths-from view (HasPaths-view view is) fewer
      (length-set view.slots number (counted_less (segment_at view.slots number)) ∙ is.slots)
      (with_less-ComesFrom view.slots number inside)

  pub fewer-HasView : HasView contents fewer_view
  fewer-HasView = HasView-from contents view (HasPaths-view view is) has fewer
      (with_less-ComesFrom view.slots number inside)

  pub fewer-there : (n : ℕ) → leaving_of view.current number ≡ Some n →
      IsSomeAnd (segment_at fewer n) (λ held. Has contents held.handle)
  fewer-there n gone = subst (λ m. IsSomeAnd (segment_at fewer m) (λ held. Has contents held.handle))
      (sym (retired-is view is number old there n gone).0)
      (subst (λ slot. IsSomeAnd slot (λ held. Has contents held.handle))
      (sym (get_or-set_same view.slots number (counted_less (segment_at view.slots number)) None inside
      ∙ ap counted_less there)) (has.of_segments number old there))

  pub unregistering-HasView : (new : Contents T) → ((handle : Handle) →
      ((n : ℕ) → leaving_of view.current number ≡ Some n → IsSpared (segment_at fewer n) handle) →
      LeavesHandle contents new handle) → HasView new (unregistering view number)
  unregistering-HasView new leaves =
      retired-HasView contents fewer_view fewer-HasPaths fewer-HasView new (leaving_of view.current number)
      (less-retired-within view is number old there) leaves

  pub unregistering-Spares : (new : Contents T) →
      (AreApart fewer → SparesHandles contents new fewer (without_unused_of fewer (leaving_of view.current number))) →
      SparesHandles contents new view.slots (without_unused_of fewer (leaving_of view.current number))
  unregistering-Spares new spares =
      SparesHandles-earlier contents new view.slots fewer (without_unused_of fewer (leaving_of view.current number))
      (with_less-ComesFrom view.slots number inside)
      (spares (view-AreApart contents fewer_view fewer-HasPaths fewer-HasView))

  -- ---- an offset arrives in a mapped segment

  pub registering-HasView : HasView contents (registering view number)
  registering-HasView = HasView-from contents view (HasPaths-view view is) has (with_more view.slots number)
      (with_more-ComesFrom view.slots number inside)
