-- What the calls of a view leave, from what the calls below them do.
use Rattle.std.specs.Prelude.{◌≡◌, ℕ, ◌<◌, Option, Some, None, IsSomeAnd}
use Rattle.std.proofs.Common.{refl, sym, ap, ◌∙◌, subst}
use Rattle.cal_resizable.proofs.ViewLemmas.{opened-there, mapping-HasView, mapping-Spares, unregistering-HasView, unregistering-Spares, SparesHandles-later}
use Rattle.cal_resizable.proofs.ViewSlotLemmas.{with_more-ComesFrom, mapping-IsView, unregistering-IsView}
use Rattle.cal_resizable.specs.Slots.{Handle, Slots, HeldSegment, EachHandle, AreApart, IsSpared, LeavesHandle, SparesHandles, segment_at, with_more, with_less, with_segment}
use Rattle.cal_resizable.specs.View.{View, IsView, HasView, segment_path, with_found, without_unused_of, leaving_of}
use Rattle.cal_storage.specs.Contents.{Contents, Has, id_at, found_handle, after_opening}
use Rattle.cal_storage.specs.Soundness.{IsSound}

-- A segment is mapped: `now` is the registry after the opening, and `new` the one after the former current segment was
-- given up.
module _ {T : Type 0} (contents now new : Contents T) (view whole : View) (same : view ≡ whole) (is : IsView view)
    (has : HasView contents whole) (number : ℕ) (small : number < 256) (unmapped : segment_at whole.slots number ≡ None)
    (handle : Handle) (sound : IsSound contents) (at : id_at contents (segment_path whole number) ≡ Some handle.id)
    (found : handle ≡ found_handle (segment_path whole number) handle.id)
    (opened : now ≡ after_opening contents handle.id) (slots : Slots)
    (inserted : slots ≡ with_segment view.slots number handle) where
  has_view : HasView contents view
  has_view = subst (HasView contents) (sym same) has

  unmapped_view : segment_at view.slots number ≡ None
  unmapped_view = subst (λ (v : View). segment_at v.slots number ≡ None) (sym same) unmapped

  at_view : id_at contents (segment_path view number) ≡ Some handle.id
  at_view = subst (λ v. id_at contents (segment_path v number) ≡ Some handle.id) (sym same) at

  slots_are : slots ≡ with_found view number handle.id
  slots_are = inserted
      ∙ ap (with_segment view.slots number)
      (subst (λ v. handle ≡ found_handle (segment_path v number) handle.id) (sym same) found)

  pub map-there : (n : ℕ) → view.current ≡ Some n → IsSomeAnd (segment_at slots n) (λ held. Has now held.handle)
  map-there n current = subst (λ c. IsSomeAnd (segment_at slots n) (λ held. Has c held.handle)) (sym opened)
      (subst (λ s. IsSomeAnd (segment_at s n) (λ held. Has (after_opening contents handle.id) held.handle))
      (sym slots_are)
      (opened-there contents view is has_view number small unmapped_view handle.id sound at_view n current))

  module _ (left : Slots) (left_is : left ≡ without_unused_of slots view.current) where
    left_are : left ≡ without_unused_of (with_found view number handle.id) view.current
    left_are = left_is ∙ ap (λ s. without_unused_of s view.current) slots_are

    pub map-IsView : IsView (record view { current = Some number; slots = left })
    map-IsView = subst (λ l. IsView (record view { current = Some number; slots = l })) (sym left_are)
        (mapping-IsView view is number handle.id unmapped_view small)

    pub map-HasView : ((other : Handle) →
        ((n : ℕ) → view.current ≡ Some n → IsSpared (segment_at slots n) other) → LeavesHandle now new other) →
        EachHandle view.management left (Has new)
    map-HasView leaves = subst (λ l. EachHandle view.management l (Has new)) (sym left_are)
        (mapping-HasView contents view is has_view number small unmapped_view handle.id sound at_view new
        (λ other spared. subst (λ c. LeavesHandle c new other) opened
        (leaves other (λ n current. subst (λ s. IsSpared (segment_at s n) other) (sym slots_are)
        (spared n current)))))

    pub map-Spares : (AreApart slots → SparesHandles now new slots left) →
        SparesHandles contents new whole.slots left
    map-Spares spares =
        subst (λ (v : View). SparesHandles contents new v.slots left) same
        (subst (λ l. SparesHandles contents new view.slots l) (sym left_are)
        (mapping-Spares contents view is has_view number small unmapped_view handle.id sound at_view new
        (λ apart. subst (λ l. SparesHandles (after_opening contents handle.id) new
        (with_found view number handle.id) l) left_are
        (subst (λ s. SparesHandles (after_opening contents handle.id) new s left) slots_are
        (subst (λ c. SparesHandles c new slots left) opened
        (spares (subst AreApart (sym slots_are) apart)))))))

-- an offset is given back: `new` is the registry after its segment was given up, if it was
module _ {T : Type 0} (contents new : Contents T) (view whole : View) (same : view ≡ whole) (is : IsView view)
    (has : HasView contents whole) (number offset_number : ℕ) (number_is : number ≡ offset_number)
    (registered : IsSomeAnd (segment_at whole.slots offset_number) (λ held. 0 < held.count)) (slots : Slots)
    (counted : slots ≡ with_less view.slots number) (gone : Option ℕ) (gone_is : gone ≡ leaving_of view.current number)
    (left : Slots) (left_is : left ≡ without_unused_of slots gone) where
  has_it : HasView contents view
  has_it = subst (HasView contents) (sym same) has

  some_there : (old : HeldSegment) × (segment_at view.slots number ≡ Some old)
  some_there = from (segment_at view.slots number) refl
      (subst (λ (v : View). IsSomeAnd (segment_at v.slots number) (λ held. 0 < held.count)) (sym same)
      (subst (λ n. IsSomeAnd (segment_at whole.slots n) (λ held. 0 < held.count)) (sym number_is) registered))
    where
      from : (slot : Option HeldSegment) → segment_at view.slots number ≡ slot →
          IsSomeAnd slot (λ held. 0 < held.count) → (old : HeldSegment) × (segment_at view.slots number ≡ Some old)
      from None there some = absurd some
      from (Some old) there some = (old, there)

  left_still : left ≡ without_unused_of (with_less view.slots number) (leaving_of view.current number)
  left_still = left_is ∙ ap (λ s. without_unused_of s gone) counted
      ∙ ap (without_unused_of (with_less view.slots number)) gone_is

  pub return-IsView : IsView (record view { slots = left })
  return-IsView = subst (λ l. IsView (record view { slots = l })) (sym left_still)
      (unregistering-IsView view is number some_there.0 some_there.1)

  pub return-HasView : ((other : Handle) →
      ((n : ℕ) → gone ≡ Some n → IsSpared (segment_at slots n) other) → LeavesHandle contents new other) →
      EachHandle view.management left (Has new)
  return-HasView leaves = subst (λ l. EachHandle view.management l (Has new)) (sym left_still)
      (unregistering-HasView contents view is has_it number some_there.0 some_there.1 new
      (λ other spared. leaves other (λ n leaving. subst (λ s. IsSpared (segment_at s n) other) (sym counted)
      (spared n (sym gone_is ∙ leaving)))))

  pub return-Spares : (AreApart slots → SparesHandles contents new slots left) →
      SparesHandles contents new whole.slots left
  return-Spares spares =
      subst (λ (v : View). SparesHandles contents new v.slots left) same
      (subst (λ l. SparesHandles contents new view.slots l) (sym left_still)
      (unregistering-Spares contents view is has_it number some_there.0 some_there.1 new
      (λ apart. subst (λ l. SparesHandles contents new (with_less view.slots number) l) left_still
      (subst (λ s. SparesHandles contents new s left) counted (spares (subst AreApart (sym counted) apart))))))

-- an offset is registered, after its segment was mapped where it wasn't
pub register-Spares : {T : Type 0} (contents now : Contents T) (before : Slots) (view whole : View) → view ≡ whole →
    IsView view → (number : ℕ) → number < 256 → (later : Slots) → later ≡ with_more view.slots number →
    SparesHandles contents now before whole.slots → SparesHandles contents now before later
register-Spares contents now before view whole same is number small later counted spares =
    subst (λ s. SparesHandles contents now before s) (sym counted)
    (SparesHandles-later contents now before view.slots (with_more view.slots number)
    (with_more-ComesFrom view.slots number (subst (λ l. number < l) (sym is.slots) small))
    (subst (λ (v : View). SparesHandles contents now before v.slots) (sym same) spares))
