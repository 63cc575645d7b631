-- What every view keeps, over each change to its slots.
use Rattle.std.specs.Prelude.{◌≡◌, ◌≢◌, ℕ, ◌+◌, ◌-◌, ◌<◌, ◌==◌, ◌⊎◌, true, false, List, ◌++◌, length, Option, Some, None, IsSome, slice_set, if◌then◌else◌}
use Rattle.std.proofs.Common.{arith, refl, sym, ap, ◌∙◌, subst, inl, inr, true≢false, eq-eqb}
use Rattle.std.proofs.lemmas.Bool.{cases_Bool, cases_eq, cases_lt, eqb-true}
use Rattle.std.proofs.lemmas.List.{append_cancel_left, append_cancel_right, length-set, get_or-set_same, get_or-set_other, get_or_past, set-get_or}
use Rattle.std.proofs.lemmas.Option.{none-some, same_Some}
use Rattle.cal_names.specs.ConceptSettings.{ConceptSettings, file_name_for, file_path_for, type_part}
use Rattle.cal_names.specs.FileName.{IsFileName}
use Rattle.cal_names.specs.FilePath.{separator}
use Rattle.cal_resizable.specs.SegmentNameLemmas.{number_end-injective, segment_of_name-again, segment_of_name-management}
use Rattle.cal_resizable.specs.SegmentNames.{number_end, segment_of_name}
use Rattle.cal_resizable.specs.Slots.{Handle, Slots, HeldSegment, EachHeld, segment_at, count_in, count_at, counted_more, counted_less, with_more, with_less, without_segment, without_unused}
use Rattle.cal_resizable.specs.View.{View, IsView, management_name, management_path, segment_path, with_found, without_unused_of, leaving_of, mapping, registering, unregistering}
use Rattle.cal_storage.specs.Contents.{found_handle, is_id}
use Rattle.cal_storage.specs.SoundnessLemmas.{is_id-true, is_id-same}

-- ---- paths

-- names that differ have paths that differ
pub file_path_for-injective : (settings : ConceptSettings) (a b : List ℕ) →
    file_path_for settings a ≡ file_path_for settings b → a ≡ b
file_path_for-injective settings a b same =
    let front : List ℕ = settings.prefix ++ type_part settings.type_name in
    append_cancel_left front a b
    (append_cancel_right (front ++ a) (front ++ b) settings.suffix
    (append_cancel_left (settings.path_hint ++ separator settings.path_hint) (file_name_for settings a)
    (file_name_for settings b) same))

module _ (view : View) (name : IsFileName view.name) where
  pub segment_path-apart : (m n : ℕ) → m < 256 → n < 256 → m ≢ n → segment_path view m ≢ segment_path view n
  segment_path-apart m n small_m small_n apart same =
      apart (number_end-injective view.name m n name small_m small_n
      (file_path_for-injective view.settings (view.name ++ number_end m) (view.name ++ number_end n) same))

  pub management_path-apart : (n : ℕ) → n < 256 → management_path view ≢ segment_path view n
  management_path-apart n small same =
      let names : management_name view.name ≡ view.name ++ number_end n =
      file_path_for-injective view.settings (management_name view.name) (view.name ++ number_end n) same in
      none-some (view.name, n)
      (sym (segment_of_name-management view.name) ∙ ap segment_of_name names
      ∙ segment_of_name-again view.name n name small)

-- ---- slots

pub no_segment : IsSome {T = HeldSegment} None → ⊥
no_segment some = true≢false (sym some)

pub held-within : (slots : Slots) (n : ℕ) (held : HeldSegment) → segment_at slots n ≡ Some held → n < length slots
held-within slots n held there = elim (cases_lt n (length slots)) [
  | inl within ↦ within
  | inr past ↦ absurd (none-some held (sym (get_or_past slots n None past) ∙ there))
]

pub is_some-within : (slots : Slots) (n : ℕ) → IsSome (segment_at slots n) → n < length slots
is_some-within slots n there = elim (cases_lt n (length slots)) [
  | inl within ↦ within
  | inr past ↦ absurd (no_segment (subst IsSome (get_or_past slots n None past) there))
]

-- what is in a slot after one was written: what was written, or what was there
pub set-lookup : (slots : Slots) (n : ℕ) (slot : Option HeldSegment) → n < length slots → (m : ℕ) (held : HeldSegment) →
    segment_at (slice_set slots n slot) m ≡ Some held →
    ((m ≡ n) × (slot ≡ Some held)) ⊎ ((m ≢ n) × (segment_at slots m ≡ Some held))
set-lookup slots n slot within m held there = elim (cases_eq m n) [
  | inl same ↦ inl (
    same,
    sym (get_or-set_same slots n slot None within)
        ∙ ap (λ k. segment_at (slice_set slots n slot) k) (sym same) ∙ there,
  )
  | inr apart ↦ inr (apart, sym (get_or-set_other slots n m slot None apart) ∙ there)
]

-- handles after a change were there before, under the same numbers
abbrev pub ComesFrom : Slots → Slots → Type 0
ComesFrom after before = EachHeld after
    (λ number held. (old : HeldSegment) × (segment_at before number ≡ Some old) × (held.handle ≡ old.handle))

counted-from : (slot : Option HeldSegment) (held : HeldSegment) → counted_more slot ≡ Some held →
    (old : HeldSegment) × (slot ≡ Some old) × (held ≡ record old { count = old.count + 1 })
counted-from None held there = absurd (none-some held there)
counted-from (Some old) held there = (old, refl, sym (same_Some _ _ there))

uncounted-from : (slot : Option HeldSegment) (held : HeldSegment) → counted_less slot ≡ Some held →
    (old : HeldSegment) × (slot ≡ Some old) × (held ≡ record old { count = old.count - 1 })
uncounted-from None held there = absurd (none-some held there)
uncounted-from (Some old) held there = (old, refl, sym (same_Some _ _ there))

abbrev pub handle_of : HeldSegment → Handle
handle_of held = held.handle

module _ (slots : Slots) (n : ℕ) (within : n < length slots) where
  pub with_more-ComesFrom : ComesFrom (with_more slots n) slots
  with_more-ComesFrom m held there = elim (set-lookup slots n (counted_more (segment_at slots n)) within m held there) [
    | inl here ↦ let from = counted-from (segment_at slots n) held here.1 in
        (from.0, ap (segment_at slots) here.0 ∙ from.1, ap handle_of from.2)
    | inr other ↦ (held, other.1, refl)
  ]

  pub with_less-ComesFrom : ComesFrom (with_less slots n) slots
  with_less-ComesFrom m held there = elim (set-lookup slots n (counted_less (segment_at slots n)) within m held there) [
    | inl here ↦ let from = uncounted-from (segment_at slots n) held here.1 in
        (from.0, ap (segment_at slots) here.0 ∙ from.1, ap handle_of from.2)
    | inr other ↦ (held, other.1, refl)
  ]

  -- a segment that is left where those that aren't counted are given up
  pub without_unused-lookup : (m : ℕ) (held : HeldSegment) → segment_at (without_unused slots n) m ≡ Some held →
      (segment_at slots m ≡ Some held) × (m ≡ n → held.count ≢ 0)
  without_unused-lookup m held there = elim (cases_Bool (count_at slots n == 0)) [
    | inl zero ↦
        let gone : segment_at (without_segment slots n) m ≡ Some held =
        ap (λ t. segment_at (if t then without_segment slots n else slots) m) (sym zero) ∙ there in
        elim (set-lookup slots n None within m held gone) [
          | inl here ↦ absurd (none-some held here.1)
          | inr other ↦ (other.1, λ same. absurd (other.0 same))
        ]
    | inr some ↦
        let stays : segment_at slots m ≡ Some held =
        ap (λ t. segment_at (if t then without_segment slots n else slots) m) (sym some) ∙ there in (
          stays,
          λ same none. true≢false
              (sym (eq-eqb (count_at slots n) 0 (ap count_in (ap (segment_at slots) (sym same) ∙ stays) ∙ none))
              ∙ some),
        )
  ]

  pub without_unused-length : length (without_unused slots n) ≡ length slots
  without_unused-length = elim (count_at slots n == 0)
      as (λ t. length (if t then without_segment slots n else slots) ≡ length slots) [
        | true ↦ length-set slots n None
        | false ↦ refl
      ]

-- ---- what every view keeps

-- a view with other slots
pub IsView-slots : (view : View) → IsView view → (slots : Slots) → length slots ≡ 256 →
    ((number : ℕ) → view.current ≡ Some number → IsSome (segment_at slots number)) →
    EachHeld slots (λ number held. held.count ≡ 0 → view.current ≡ Some number) → ComesFrom slots view.slots →
    IsView (record view { slots = slots })
IsView-slots view is slots long current used from = record {
  slots = long;
  name = is.name;
  managed = is.managed;
  fits = is.fits;
  management = is.management;
  current = current;
  used = used;
  segments = λ number held there. let old = from number held there in
      old.2 ∙ is.segments number old.0 old.1
      ∙ ap (λ (h : Handle). found_handle (segment_path view number) h.id) (sym old.2);
}

-- the slots that are left where that of a number, if one is given, is given up where it isn't counted
module _ (slots : Slots) where
  pub retired-length : (retired : Option ℕ) → length (without_unused_of slots retired) ≡ length slots
  retired-length None = refl
  retired-length (Some n) = elim (count_at slots n == 0)
      as (λ t. length (if t then without_segment slots n else slots) ≡ length slots) [
        | true ↦ length-set slots n None
        | false ↦ refl
      ]

  pub retired-lookup : (retired : Option ℕ) → ((n : ℕ) → retired ≡ Some n → n < length slots) → (m : ℕ)
      (held : HeldSegment) → segment_at (without_unused_of slots retired) m ≡ Some held →
      (segment_at slots m ≡ Some held) × (retired ≡ Some m → held.count ≢ 0)
  retired-lookup None within m held there = (there, λ none. absurd (none-some m none))
  retired-lookup (Some n) within m held there =
      let left = without_unused-lookup slots n (within n refl) m held there in
      (left.0, λ same. left.1 (sym (same_Some _ _ same)))

  pub retired-other : (retired : Option ℕ) (m : ℕ) (held : HeldSegment) → (retired ≡ Some m → held.count ≢ 0) →
      segment_at slots m ≡ Some held → segment_at (without_unused_of slots retired) m ≡ Some held
  retired-other None m held kept there = there
  retired-other (Some n) m held kept there = elim (cases_Bool (count_at slots n == 0)) [
    | inl zero ↦
        let apart : m ≢ n = λ same. kept (ap Some (sym same))
        (sym (ap count_in there) ∙ ap (count_at slots) same ∙ eqb-true (count_at slots n) 0 zero) in
        ap (λ t. segment_at (if t then without_segment slots n else slots) m) zero
        ∙ get_or-set_other slots n m None None apart ∙ there
    | inr some ↦ ap (λ t. segment_at (if t then without_segment slots n else slots) m) some ∙ there
  ]

module _ (view : View) (is : IsView view) where
  module _ (number id : ℕ) (unmapped : segment_at view.slots number ≡ None) (small : number < 256) where
    abbrev pub fresh : HeldSegment
    fresh = record { handle = found_handle (segment_path view number) id; count = 0 }

    abbrev pub both : Slots
    both = with_found view number id

    within-both : number < length view.slots
    within-both = subst (λ n. number < n) (sym is.slots) small

    pub both-length : length both ≡ 256
    both-length = length-set view.slots number (Some fresh) ∙ is.slots

    pub both-lookup : (m : ℕ) (held : HeldSegment) → segment_at both m ≡ Some held →
        ((m ≡ number) × (fresh ≡ held)) ⊎ ((m ≢ number) × (segment_at view.slots m ≡ Some held))
    both-lookup m held there = elim (set-lookup view.slots number (Some fresh) within-both m held there) [
      | inl here ↦ inl (here.0, same_Some _ _ here.1)
      | inr other ↦ inr (other.0, other.1)
    ]

    pub both-here : segment_at both number ≡ Some fresh
    both-here = get_or-set_same view.slots number (Some fresh) None within-both

    not-current : view.current ≢ Some number
    not-current at = no_segment (subst IsSome unmapped (is.current number at))

    current-within : (n : ℕ) → view.current ≡ Some n → n < length both
    current-within n at =
        let there : n < length view.slots = is_some-within view.slots n (is.current n at) in
        omega (arith, there, is.slots, both-length)

    pub mapped-lookup : (m : ℕ) (held : HeldSegment) →
        segment_at (without_unused_of both view.current) m ≡ Some held →
        (segment_at both m ≡ Some held) × (view.current ≡ Some m → held.count ≢ 0)
    mapped-lookup m held there = retired-lookup both view.current current-within m held there

    pub mapped-here : segment_at (without_unused_of both view.current) number ≡ Some fresh
    mapped-here = retired-other both view.current number fresh (λ at. absurd (not-current at)) both-here

    pub mapping-IsView : IsView (mapping view number (Some id))
    mapping-IsView = record {
      slots = retired-length both view.current ∙ both-length;
      name = is.name;
      managed = is.managed;
      fits = is.fits;
      management = is.management;
      current = λ n at. subst (λ m. IsSome (segment_at (without_unused_of both view.current) m)) (same_Some _ _ at)
          (subst IsSome (sym mapped-here) refl);
      used = λ m held there zero. let left = mapped-lookup m held there in elim (both-lookup m held left.0) [
        | inl here ↦ ap Some (sym here.0)
        | inr other ↦ absurd (left.1 (is.used m held other.1 zero) zero)
      ];
      segments = λ m held there. elim (both-lookup m held (mapped-lookup m held there).0) [
        | inl here ↦ sym (ap handle_of here.1)
            ∙ ap (λ (i : ℕ). found_handle (segment_path view number) i) (ap (λ (h : HeldSegment). h.handle.id) here.1)
            ∙ ap (λ k. found_handle (segment_path view k) held.handle.id) (sym here.0)
        | inr other ↦ is.segments m held other.1
      ];
    }

  module _ (number : ℕ) (old : HeldSegment) (there : segment_at view.slots number ≡ Some old) where
    within : number < length view.slots
    within = held-within view.slots number old there

    changed-current : (slot : Option HeldSegment) → IsSome slot → (n : ℕ) → view.current ≡ Some n →
        IsSome (segment_at (slice_set view.slots number slot) n)
    changed-current slot some n at = elim (cases_eq n number) [
      | inl same ↦ subst (λ k. IsSome (segment_at (slice_set view.slots number slot) k)) (sym same)
          (subst IsSome (sym (get_or-set_same view.slots number slot None within)) some)
      | inr apart ↦ subst IsSome (sym (get_or-set_other view.slots number n slot None apart)) (is.current n at)
    ]

    pub registering-IsView : IsView (registering view number)
    registering-IsView = IsView-slots view is (with_more view.slots number)
        (length-set view.slots number (counted_more (segment_at view.slots number)) ∙ is.slots)
        (changed-current (counted_more (segment_at view.slots number))
        (subst (λ o. IsSome (counted_more o)) (sym there) refl))
        (λ m held at zero. elim (set-lookup view.slots number (counted_more (segment_at view.slots number)) within
        m held at) [
          | inl here ↦ let from = counted-from (segment_at view.slots number) held here.1 in
              absurd (omega (arith, ap (λ (h : HeldSegment). h.count) from.2))
          | inr other ↦ is.used m held other.1 zero
        ]) (with_more-ComesFrom view.slots number within)

    less-within : number < length (with_less view.slots number)
    less-within = omega (arith, within, length-set view.slots number (counted_less (segment_at view.slots number)))

    less-length : length (with_less view.slots number) ≡ 256
    less-length = length-set view.slots number (counted_less (segment_at view.slots number)) ∙ is.slots

    abbrev less : Slots
    less = with_less view.slots number

    abbrev retired : Option ℕ
    retired = leaving_of view.current number

    pub retired-is : (n : ℕ) → retired ≡ Some n → (n ≡ number) × (view.current ≢ Some number)
    retired-is n at = elim (cases_Bool (is_id view.current number)) [
      | inl same_number ↦ absurd (none-some n (sym (ap (λ t. if t then None else Some number) same_number) ∙ at))
      | inr other ↦ (
        sym (same_Some _ _ (sym (ap (λ t. if t then None else Some number) other) ∙ at)),
        λ now. true≢false (sym (is_id-same view.current number now) ∙ other),
      )
    ]

    pub less-retired-within : (n : ℕ) → retired ≡ Some n → n < length less
    less-retired-within n at = subst (λ m. m < length less) (sym (retired-is n at).0) less-within

    pub less-lookup : (m : ℕ) (held : HeldSegment) → segment_at (without_unused_of less retired) m ≡ Some held →
        (segment_at less m ≡ Some held) × (retired ≡ Some m → held.count ≢ 0)
    less-lookup m held at = retired-lookup less retired less-retired-within m held at

    less-current : (n : ℕ) → view.current ≡ Some n → IsSome (segment_at (without_unused_of less retired) n)
    less-current n at = from (segment_at less n) refl (changed-current (counted_less (segment_at view.slots number))
        (subst (λ o. IsSome (counted_less o)) (sym there) refl) n at)
      where
        from : (slot : Option HeldSegment) → segment_at less n ≡ slot → IsSome slot →
            IsSome (segment_at (without_unused_of less retired) n)
        from None none some = absurd (no_segment some)
        from (Some held) now some = subst IsSome
            (sym (retired-other less retired n held (λ gone. let why = retired-is n gone in
            absurd (why.1 (at ∙ ap Some why.0))) now)) refl

    pub unregistering-IsView : IsView (unregistering view number)
    unregistering-IsView = IsView-slots view is (without_unused_of less retired)
        (retired-length less retired ∙ less-length) less-current
        (λ m held at zero. let left = less-lookup m held at in
        elim (set-lookup view.slots number (counted_less (segment_at view.slots number)) within m held left.0) [
          | inl here ↦ elim (cases_Bool (is_id view.current number)) [
            | inl same_number ↦ is_id-true view.current number same_number ∙ ap Some (sym here.0)
            | inr other ↦ absurd (left.1
                (ap (λ t. if t then None else Some number) other ∙ ap Some (sym here.0)) zero)
          ]
          | inr other ↦ is.used m held other.1 zero
        ]) (λ m held at. with_less-ComesFrom view.slots number within m held (less-lookup m held at).0)

-- a view's handles have the paths of their names
pub record HasPaths (view : View) : Type 0 where
  pub slots : length view.slots ≡ 256
  pub name : IsFileName view.name
  pub management : view.management.path ≡ management_path view
  pub segments : EachHeld view.slots (λ n held. held.handle.path ≡ segment_path view n)

abbrev pub path_in : Handle → List ℕ
path_in handle = handle.path

pub HasPaths-view : (view : View) → IsView view → HasPaths view
HasPaths-view view is = record {
  slots = is.slots;
  name = is.name;
  management = ap path_in is.management;
  segments = λ n held there. ap path_in (is.segments n held there);
}

pub HasPaths-from : (view : View) → HasPaths view → (slots : Slots) → length slots ≡ 256 → ComesFrom slots view.slots →
    HasPaths (record view { slots = slots })
HasPaths-from view is slots long from = record {
  slots = long;
  name = is.name;
  management = is.management;
  segments = λ n held there. let old = from n held there in ap path_in old.2 ∙ is.segments n old.0 old.1;
}

-- one more offset is registered under any number
pub with_more-any : (slots : Slots) (n : ℕ) → n < length slots →
    (segment_at slots n ≡ None) → with_more slots n ≡ slots
with_more-any slots n within none =
    ap (λ slot. slice_set slots n (counted_more slot)) none ∙ ap (slice_set slots n) (sym none)
    ∙ set-get_or slots n None

pub registered-IsView : (view : View) → IsView view → (number : ℕ) → number < 256 → (later : Slots) →
    later ≡ with_more view.slots number → IsView (record view { slots = later })
registered-IsView view is number small later counted = subst (λ s. IsView (record view { slots = s })) (sym counted)
    (from (segment_at view.slots number) refl)
  where
    from : (slot : Option HeldSegment) → segment_at view.slots number ≡ slot →
        IsView (record view { slots = with_more view.slots number })
    from None none = subst (λ s. IsView (record view { slots = s }))
        (sym (with_more-any view.slots number (subst (λ l. number < l) (sym is.slots) small) none)) is
    from (Some old) there = registering-IsView view is number old there
