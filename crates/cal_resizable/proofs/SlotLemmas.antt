-- What is held after a slot has changed.
use Rattle.std.proofs.Common.{◌≡◌, ◌≢◌, ℕ, zero, suc, ◌+◌, ◌-◌, ◌<◌, ◌≤◌, ◌^◌, Option, Some, None, List, [], ◌∷◌, ◌++◌, length, map, option_map, replicate, slice_index_or, slice_set, refl, sym, ap, ◌∙◌, subst, inl, inr, arith}
use Rattle.std.proofs.lemmas.Bool.{cases_eq}
use Rattle.std.proofs.Math.ListN.{get_or-map}
use Rattle.std.proofs.lemmas.List.{get_or-set_same, get_or-set_other, length-map, length-set, map-set}
use Rattle.std.proofs.lemmas.Option.{none-some}
use Rattle.cal_resizable.specs.Slots.{Slots, HeldSegment, segment_at, number_in, number_held, EachHeld}

-- ---- lists

pub map-replicate : {X Y : Type 0} (f : X → Y) (number : ℕ) (x : X) →
    map f (replicate number x) ≡ replicate number (f x)
map-replicate f zero x = refl
map-replicate f (suc number) x = ap (λ rest. f x ∷ rest) (map-replicate f number x)

pub length-replicate : {X : Type 0} (number : ℕ) (x : X) → length (replicate number x) ≡ number
length-replicate zero x = refl
length-replicate (suc number) x = ap suc (length-replicate number x)

-- an element that is written twice
pub set_twice : {X : Type 0} (xs : List X) (index : ℕ) (first second : X) →
    slice_set (slice_set xs index first) index second ≡ slice_set xs index second
set_twice [] index first second = refl
set_twice (x ∷ xs) zero first second = refl
set_twice (x ∷ xs) (suc index) first second = ap (λ rest. x ∷ rest) (set_twice xs index first second)

-- ---- slots

pub segment_at-empty : (number other : ℕ) → segment_at (replicate number None) other ≡ None
segment_at-empty zero other = refl
segment_at-empty (suc number) zero = refl
segment_at-empty (suc number) (suc other) = segment_at-empty number other

pub number_held-empty : (number : ℕ) → number_held (replicate number None) ≡ 0
number_held-empty zero = refl
number_held-empty (suc number) = omega (arith, number_held-empty number)

pub number_held-set : (slots : Slots) (number : ℕ) (slot : Option HeldSegment) → number < length slots →
    number_held (slice_set slots number slot) + number_in (segment_at slots number)
    ≡ number_held slots + number_in slot
number_held-set [] number slot within = absurd (omega arith)
number_held-set (first ∷ slots) zero slot within = omega arith
number_held-set (first ∷ slots) (suc number) slot within =
    omega (arith, number_held-set slots number slot (omega arith))

module _ (slots : Slots) (number : ℕ) (slot : Option HeldSegment) where
  pub segment_at-set-same : number < length slots → segment_at (slice_set slots number slot) number ≡ slot
  segment_at-set-same within = get_or-set_same slots number slot None within

  pub segment_at-set-other : (other : ℕ) → other ≢ number →
      segment_at (slice_set slots number slot) other ≡ segment_at slots other
  segment_at-set-other other apart = get_or-set_other slots number other slot None apart

  -- what is held after a slot has changed is held there, or was held before
  pub EachHeld-set : (fact : ℕ → HeldSegment → Type 0) → number < length slots →
      ((held : HeldSegment) → slot ≡ Some held → fact number held) →
      ((other : ℕ) (held : HeldSegment) → other ≢ number → segment_at slots other ≡ Some held → fact other held) →
      EachHeld (slice_set slots number slot) fact
  EachHeld-set fact within here elsewhere other held at = elim (cases_eq other number) [
    | inl same ↦
        let there : slot ≡ Some held =
        sym (segment_at-set-same within) ∙ ap (segment_at (slice_set slots number slot)) (sym same) ∙ at in
        let P : ℕ → Type 0 = λ n. fact n held in
        subst P (sym same) (here held there)
    | inr apart ↦ elsewhere other held apart (sym (segment_at-set-other other apart) ∙ at)
  ]

-- a segment that is held has a slot
module _ (slots : Slots) (number : ℕ) (held : HeldSegment) (at : segment_at slots number ≡ Some held) where
  pub within_slots : number < length slots
  within_slots = from slots number at
    where
      from : (slots : Slots) (number : ℕ) → segment_at slots number ≡ Some held → number < length slots
      from [] number is = absurd (none-some held is)
      from (slot ∷ slots) zero is = omega arith
      from (slot ∷ slots) (suc number) is = let rest = from slots number is in omega arith

pub replicate-more : {X : Type 0} (number : ℕ) (x : X) → replicate number x ++ x ∷ [] ≡ replicate (number + 1) x
replicate-more zero x = refl
replicate-more (suc number) x =
    let e : suc (number + 1) ≡ suc number + 1 = omega arith in
    ap (λ rest. x ∷ rest) (replicate-more number x) ∙ ap (λ n. replicate n x) e

-- ---- slots as they are shown

-- the handles and counts of what slots hold
module _ {X : Type 0} (f : X → HeldSegment) where
  abbrev pub shown : List (Option X) → Slots
  shown items = map (option_map f) items

  -- the number of segments is counted right
  abbrev pub IsCounted : List (Option X) → ℕ → Type 0
  IsCounted items held = (length items ≡ 256) × (held ≡ number_held (shown items))

  module _ (items : List (Option X)) (number : ℕ) where
    pub shown-at : segment_at (shown items) number ≡ option_map f (slice_index_or items number None)
    shown-at = get_or-map (option_map f) items number None

    pub shown-set : (slot : Option X) →
        shown (slice_set items number slot) ≡ slice_set (shown items) number (option_map f slot)
    shown-set slot = map-set (option_map f) items number slot

    module _ (slots : Slots) (is : shown items ≡ slots) (held : ℕ) (counted : IsCounted items held)
        (within : number < 256) where
      within_shown : number < length slots
      within_shown = omega (arith, ap length (sym is) ∙ length-map items (option_map f) ∙ counted.0)

      number_then : (slot : Option X) →
          number_held (shown (slice_set items number slot)) + number_in (segment_at slots number)
          ≡ held + number_in (option_map f slot)
      number_then slot =
          ap (λ s. number_held s + number_in (segment_at slots number))
          (shown-set slot ∙ ap (λ s. slice_set s number (option_map f slot)) is)
          ∙ number_held-set slots number (option_map f slot) within_shown
          ∙ ap (λ n. n + number_in (option_map f slot)) (ap number_held (sym is) ∙ sym counted.1)

      length_then : (slot : Option X) → length (slice_set items number slot) ≡ 256
      length_then slot = length-set items number slot ∙ counted.0

      pub IsCounted-same : (before : HeldSegment) → segment_at slots number ≡ Some before → (x : X) →
          IsCounted (slice_set items number (Some x)) held
      IsCounted-same before at x =
          (length_then (Some x), omega (arith, number_then (Some x), ap number_in at))

      pub IsCounted-more : segment_at slots number ≡ None → (x : X) →
          IsCounted (slice_set items number (Some x)) (held + 1)
      IsCounted-more at x =
          (length_then (Some x), omega (arith, number_then (Some x), ap number_in at))

      pub IsCounted-less : (before : HeldSegment) → segment_at slots number ≡ Some before →
          IsCounted (slice_set items number None) (held - 1)
      IsCounted-less before at =
          (length_then None, omega (arith, number_then None, ap number_in at))

      -- a segment that is held is counted
      pub counted_once : (before : HeldSegment) → segment_at slots number ≡ Some before → 1 ≤ held
      counted_once before at = omega (arith, number_then None, ap number_in at)

      -- what the slots show after one has changed
      pub shown_then : (slot : Option X) →
          shown (slice_set items number slot) ≡ slice_set slots number (option_map f slot)
      shown_then slot = shown-set slot ∙ ap (λ s. slice_set s number (option_map f slot)) is

      -- the slot that was found at the number, whatever stands for one past the end
      found_at : (items : List (Option X)) (number : ℕ) (slot other : Option X) → number < length items →
          slot ≡ slice_index_or items number slot → slice_index_or items number other ≡ slot
      found_at [] number slot other inside at = absurd (omega arith)
      found_at (first ∷ items) zero slot other inside at = sym at
      found_at (first ∷ items) (suc number) slot other inside at =
          found_at items number slot other (omega arith) at

      pub at_found : (slot : Option X) → slot ≡ slice_index_or items number slot →
          segment_at slots number ≡ option_map f slot
      at_found slot at =
          ap (λ s. segment_at s number) (sym is) ∙ shown-at
          ∙ ap (option_map f) (found_at items number slot None (omega (arith, counted.0)) at)

      pub some_found : (slot : Option X) (x : X) → slot ≡ slice_index_or items number slot → slot ≡ Some x →
          segment_at slots number ≡ Some (f x)
      some_found slot x at some = at_found slot at ∙ ap (option_map f) some

-- no more are held than there are slots
pub number_held-length : (slots : Slots) → number_held slots ≤ length slots
number_held-length [] = omega arith
number_held-length (None ∷ slots) = omega (arith, number_held-length slots)
number_held-length (Some held ∷ slots) = omega (arith, number_held-length slots)

-- so their number has a successor
pub fits_more : {X : Type 0} (f : X → HeldSegment) (items : List (Option X)) (held : ℕ) → IsCounted f items held →
    held + 1 < 2 ^ 64
fits_more f items held counted =
    omega (arith, number_held-length (shown f items), length-map items (option_map f), counted.0, counted.1)

-- empty slots
pub IsCounted-empty : {X : Type 0} (f : X → HeldSegment) (items : List (Option X)) →
    items ≡ replicate 256 None → IsCounted f items 0
IsCounted-empty {X = X} f items is = (
  ap length is ∙ length-replicate {X = Option X} 256 None,
  sym (ap (λ xs. number_held (shown f xs)) is ∙ ap number_held (map-replicate (option_map f) 256 None)
      ∙ number_held-empty 256),
)

pub shown-empty : {X : Type 0} (f : X → HeldSegment) (items : List (Option X)) →
    items ≡ replicate 256 None → shown f items ≡ replicate 256 None
shown-empty f items is = ap (shown f) is ∙ map-replicate (option_map f) 256 None
