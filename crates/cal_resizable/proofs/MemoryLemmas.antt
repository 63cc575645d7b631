-- What every growing memory keeps, over each change to it.
use Rattle.std.proofs.Common.{◌≡◌, ◌≢◌, ℕ, ◌+◌, ◌<◌, ◌==◌, Bool, true, false, Option, Some, None, IsSome, length, slice_set, if◌then◌else◌, refl, sym, ap, ◌∙◌, subst, inl, inr, arith, true≢false}
use Rattle.std.proofs.lemmas.Bool.{cases_eq, false≢true}
use Rattle.std.proofs.lemmas.List.{length-set}
use Rattle.std.proofs.lemmas.Option.{none-some, same_Some}
use Rattle.cal_resizable.specs.Memory.{MemoryState, IsSoundMemory, IsActive, segment_path}
use Rattle.cal_resizable.specs.Slots.{Handle, Slots, HeldSegment, segment_at, count_in, count_at, without_unused, without_segment, with_segment, IsSpared, EachHeld, EachHandle, AreApart}
use Rattle.cal_resizable.proofs.SlotLemmas.{segment_at-set-same, segment_at-set-other, EachHeld-set, within_slots}

pub some_is : {X : Type 0} (option : Option X) → IsSome option → (x : X) × (option ≡ Some x)
some_is None is = absurd (false≢true is)
some_is (Some x) is = (x, refl)

pub is_some-from : {X : Type 0} (option : Option X) (x : X) → option ≡ Some x → IsSome option
is_some-from option x is = subst IsSome (sym is) refl

-- a segment was held under the same number and by the same handle
pub record WasHeld (before : Slots) (number : ℕ) (held : HeldSegment) : Type 0 where
  pub one : HeldSegment
  pub there : segment_at before number ≡ Some one
  pub same : one.handle ≡ held.handle

-- where each segment that is held was held before
module _ (before after : Slots) (was : EachHeld after (WasHeld before)) where
  pub AreApart-was_held : AreApart before → AreApart after
  AreApart-was_held apart first second one other differ at_first at_second =
      let a = was first one at_first in
      let b = was second other at_second in
      λ same. apart first second a.one b.one differ a.there b.there
      (ap (λ (h : Handle). h.id) a.same ∙ same ∙ ap (λ (h : Handle). h.id) (sym b.same))

  pub EachHandle-was_held : (management : Handle) (fact : Handle → Type 0) →
      EachHandle management before fact → EachHandle management after fact
  EachHandle-was_held management fact each = record {
    of_management = each.of_management;
    of_segments = λ number held at.
        let a = was number held at in subst fact a.same (each.of_segments number a.one a.there);
  }

-- a segment is counted anew, or isn't held any more
module _ (slots : Slots) (number : ℕ) (held : HeldSegment) (at : segment_at slots number ≡ Some held) where
  pub was_held-recounted : (count : ℕ) →
      EachHeld (slice_set slots number (Some (record held { count = count }))) (WasHeld slots)
  was_held-recounted count = EachHeld-set slots number (Some (record held { count = count })) (WasHeld slots)
      (within_slots slots number held at)
      (λ h is. record { one = held; there = at; same = ap (λ (s : HeldSegment). s.handle) (same_Some _ h is) })
      (λ other h apart is. record { one = h; there = is; same = refl })

  pub was_held-without : EachHeld (without_segment slots number) (WasHeld slots)
  was_held-without = EachHeld-set slots number None (WasHeld slots)
      (within_slots slots number held at)
      (λ h is. absurd (none-some h is))
      (λ other h apart is. record { one = h; there = is; same = refl })

-- ---- the segments that stay where that of a number is retired if it isn't counted

module _ (slots : Slots) (number : ℕ) (within : number < length slots) (apart : AreApart slots) where
  -- a segment was held before; it isn't the one that is retired, and is counted where it might have been
  pub record IsKept (at : ℕ) (held : HeldSegment) : Type 0 where
    pub there : segment_at slots at ≡ Some held
    pub spared : IsSpared (segment_at slots number) held.handle
    pub counted : at ≡ number → 0 < held.count

  counted_some : (held : HeldSegment) → segment_at slots number ≡ Some held → (count_at slots number == 0) ≡ false →
      held.count ≢ 0
  counted_some held at some none = true≢false (sym (ap (λ (n : ℕ). n == 0) (ap count_in at ∙ none)) ∙ some)

  pub each_is_kept : EachHeld (without_unused slots number) IsKept
  each_is_kept at held = by_test (count_at slots number == 0) refl
    where
      by_test : (test : Bool) → (count_at slots number == 0) ≡ test →
          segment_at (if test then without_segment slots number else slots) at ≡ Some held → IsKept at held
      by_test true none is = elim (cases_eq at number) [
        | inl same ↦ absurd (none-some held
            (sym (segment_at-set-same slots number None within)
            ∙ ap (segment_at (without_segment slots number)) (sym same) ∙ is))
        | inr differ ↦
            let there : segment_at slots at ≡ Some held =
            sym (segment_at-set-other slots number None at differ) ∙ is in
            record {
              there = there;
              spared = λ retired at_number _. apart at number held retired differ there at_number;
              counted = λ same. absurd (differ same);
            }
      ]
      by_test false some is = record {
        there = is;
        spared = λ retired at_number none _. counted_some retired at_number some none;
        counted = λ same.
            let some_left : held.count ≢ 0 = counted_some held (ap (segment_at slots) (sym same) ∙ is) some in
            omega arith;
      }

  pub length_kept : length (without_unused slots number) ≡ length slots
  length_kept = by_test (count_at slots number == 0)
    where
      by_test : (test : Bool) →
          length (if test then without_segment slots number else slots) ≡ length slots
      by_test true = length-set slots number None
      by_test false = refl

module _ (memory : MemoryState) (sound : IsSoundMemory memory) where
  abbrev IsActiveHere : ℕ → HeldSegment → Type 0
  IsActiveHere = IsActive memory.settings memory.name memory.management.id memory.current

  -- other slots, of the same segments
  module _ (slots : Slots) (was : EachHeld slots (WasHeld memory.slots)) where
    active_if : EachHeld slots (λ number held. number ≢ memory.current → 0 < held.count) → EachHeld slots IsActiveHere
    active_if used number held at =
        let a = was number held at in
        let active = sound.active number a.one a.there in
        record {
          not_later = active.not_later;
          used = used number held at;
          owner = ap (λ (h : Handle). h.is_owner) (sym a.same) ∙ active.owner;
          path = ap (λ (h : Handle). h.path) (sym a.same) ∙ active.path;
          apart = λ is. active.apart (ap (λ (h : Handle). h.id) a.same ∙ is);
        }

    pub IsSoundMemory-slots : length slots ≡ length memory.slots → IsSome (segment_at slots memory.current) →
        EachHeld slots (λ number held. number ≢ memory.current → 0 < held.count) →
        IsSoundMemory (record memory { slots = slots })
    IsSoundMemory-slots as_many current used = record {
      places = as_many ∙ sound.places;
      below = sound.below;
      current = current;
      active = active_if used;
      apart = AreApart-was_held memory.slots slots was sound.apart;
      owner = sound.owner;
      path = sound.path;
      name = sound.name;
      fits = sound.fits;
    }

  used_before : (number : ℕ) (held : HeldSegment) → segment_at memory.slots number ≡ Some held →
      number ≢ memory.current → 0 < held.count
  used_before number held at = let active = sound.active number held at in active.used

  -- ---- a segment that is counted anew
  module _ (number : ℕ) (held : HeldSegment) (at : segment_at memory.slots number ≡ Some held) where
    pub IsSoundMemory-recounted : (count : ℕ) → (number ≢ memory.current → 0 < count) →
        IsSoundMemory (record memory { slots = slice_set memory.slots number (Some (record held { count = count })) })
    IsSoundMemory-recounted count some =
        let slot : Option HeldSegment = Some (record held { count = count }) in
        let within : number < length memory.slots = within_slots memory.slots number held at in
        IsSoundMemory-slots (slice_set memory.slots number slot) (was_held-recounted memory.slots number held at count)
        (length-set memory.slots number slot)
        (elim (cases_eq memory.current number) [
          | inl same ↦ is_some-from (segment_at (slice_set memory.slots number slot) memory.current)
              (record held { count = count })
              (ap (segment_at (slice_set memory.slots number slot)) same
              ∙ segment_at-set-same memory.slots number slot within)
          | inr apart ↦ subst IsSome (sym (segment_at-set-other memory.slots number slot memory.current apart))
              sound.current
        ])
        (EachHeld-set memory.slots number slot (λ n h. n ≢ memory.current → 0 < h.count) within
        (λ h is not_current. subst (λ (s : HeldSegment). 0 < s.count) (same_Some _ h is) (some not_current))
        (λ n h elsewhere is. used_before n h is))

    -- ---- a segment that isn't active any more
    pub IsSoundMemory-without : number ≢ memory.current →
        IsSoundMemory (record memory { slots = without_segment memory.slots number })
    IsSoundMemory-without apart =
        let within : number < length memory.slots = within_slots memory.slots number held at in
        IsSoundMemory-slots (without_segment memory.slots number) (was_held-without memory.slots number held at)
        (length-set memory.slots number None)
        (subst IsSome (sym (segment_at-set-other memory.slots number None memory.current (λ is. apart (sym is))))
        sound.current)
        (EachHeld-set memory.slots number None (λ n h. n ≢ memory.current → 0 < h.count) within
        (λ h is. absurd (none-some h is)) (λ n h elsewhere is. used_before n h is))

  -- ---- the next segment is the current one
  abbrev kept : Slots
  kept = without_unused memory.slots memory.current

  pub within_current : memory.current < length memory.slots
  within_current = let is = some_is (segment_at memory.slots memory.current) sound.current in
      within_slots memory.slots memory.current is.0 is.1

  abbrev pub IsKeptHere : ℕ → HeldSegment → Type 0
  IsKeptHere = IsKept memory.slots memory.current within_current sound.apart

  pub kept_here : EachHeld kept IsKeptHere
  kept_here = each_is_kept memory.slots memory.current within_current sound.apart

  used_kept : (number : ℕ) (held : HeldSegment) → IsKeptHere number held → 0 < held.count
  used_kept number held is = elim (cases_eq number memory.current) [
    | inl same ↦ is.counted same
    | inr differ ↦ used_before number held is.there differ
  ]

  pub length_kept_here : length kept ≡ 256
  length_kept_here = length_kept memory.slots memory.current within_current sound.apart ∙ sound.places

  pub spares_management : (number : ℕ) → IsSpared (segment_at memory.slots number) memory.management
  spares_management number held at none same =
      let active = sound.active number held at in active.apart (sym same)

  module _ (handle : Handle) (fresh : EachHeld memory.slots (λ number held. held.handle.id ≢ handle.id))
      (not_management : handle.id ≢ memory.management.id) (owner : handle.is_owner ≡ true)
      (path : handle.path ≡ segment_path memory.settings memory.name (memory.current + 1))
      (more : memory.current + 1 < 256) where
    abbrev next : ℕ
    next = memory.current + 1

    abbrev grown : Slots
    grown = with_segment kept next handle

    new_held : HeldSegment
    new_held = record { handle = handle; count = 0 }

    within_kept : next < length kept
    within_kept = omega (arith, length_kept_here)

    pub each_grown : (fact : ℕ → HeldSegment → Type 0) → fact next (record { handle = handle; count = 0 }) →
        ((number : ℕ) (held : HeldSegment) → number ≢ next → IsKeptHere number held → fact number held) →
        EachHeld grown fact
    each_grown fact here elsewhere = EachHeld-set kept next (Some (record { handle = handle; count = 0 })) fact
        within_kept
        (λ h is. subst (fact next) (same_Some _ h is) here)
        (λ number h apart is. elsewhere number h apart (kept_here number h is))

    active_grown : EachHeld grown (IsActive memory.settings memory.name memory.management.id next)
    active_grown = each_grown (IsActive memory.settings memory.name memory.management.id next)
        (record {
          not_later = omega arith;
          used = λ apart. absurd (apart refl);
          owner = owner;
          path = path;
          apart = not_management;
        })
        (λ number held apart is_kept.
        let active = sound.active number held is_kept.there in
        record {
          not_later = omega (arith, active.not_later);
          used = λ _. used_kept number held is_kept;
          owner = active.owner;
          path = active.path;
          apart = active.apart;
        })

    at_next : (held : HeldSegment) → segment_at grown next ≡ Some held → held.handle ≡ handle
    at_next held at =
        ap (λ (s : HeldSegment). s.handle) (sym (same_Some (record { handle = handle; count = 0 }) held
        (sym (segment_at-set-same kept next (Some (record { handle = handle; count = 0 })) within_kept) ∙ at)))

    before_next : (number : ℕ) (held : HeldSegment) → number ≢ next → segment_at grown number ≡ Some held →
        segment_at memory.slots number ≡ Some held
    before_next number held apart at =
        let is = kept_here number held
        (sym (segment_at-set-other kept next (Some (record { handle = handle; count = 0 })) number apart) ∙ at) in
        is.there

    apart_grown : AreApart grown
    apart_grown first second one other differ at_first at_second =
        elim (cases_eq first next) [
          | inl is_first ↦ λ same.
              fresh second other (before_next second other (λ is. differ (is_first ∙ sym is)) at_second)
              (sym same ∙ ap (λ (h : Handle). h.id)
              (at_next one (ap (segment_at grown) (sym is_first) ∙ at_first)))
          | inr not_first ↦ elim (cases_eq second next) [
            | inl is_second ↦ λ same.
                fresh first one (before_next first one not_first at_first)
                (same ∙ ap (λ (h : Handle). h.id)
                (at_next other (ap (segment_at grown) (sym is_second) ∙ at_second)))
            | inr not_second ↦ sound.apart first second one other differ
                (before_next first one not_first at_first) (before_next second other not_second at_second)
          ]
        ]

    pub IsSoundMemory-grown : IsSoundMemory (record memory { current = next; slots = grown })
    IsSoundMemory-grown = record {
      places = length-set kept next (Some (record { handle = handle; count = 0 })) ∙ length_kept_here;
      below = more;
      current = is_some-from (segment_at grown next) (record { handle = handle; count = 0 })
          (segment_at-set-same kept next (Some (record { handle = handle; count = 0 })) within_kept);
      active = active_grown;
      apart = apart_grown;
      owner = sound.owner;
      path = sound.path;
      name = sound.name;
      fits = sound.fits;
    }
