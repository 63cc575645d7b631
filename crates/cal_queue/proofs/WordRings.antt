-- The values that wait in a ring of words.
use Rattle.std.proofs.Common.{◌≡◌, ℕ, ◌+◌, ◌-◌, ◌%◌, ◌<◌, ◌≤◌, ◌⊎◌, List, [], ◌∷◌, ◌++◌, length, get_or, take, drop, set, ap, ◌∙◌, ap₂, refl, sym, inl, inr, mod-eq_of_lt, arith, length-append, length-drop, length-set, length-take-le, get_or-drop, get_or-take}
use native.Mathlib.Nat.{mod-eq-sub-mod, mod-add-mod}
use Rattle.std.proofs.lemmas.List.{same_lists, drop_more, get_or_append_left, get_or-append_right}
use Rattle.std.proofs.lemmas.Bool.{cases_lt}
use Rattle.std.proofs.lemmas.Grind.{common_steps}
use Rattle.std.specs.Vec.{with_item}
use Rattle.cal_queue.specs.Queue.{Queue, after_push, after_pop}
use Rattle.cal_queue.specs.WordRing.{words_from, queue_of, IsRing}
use Rattle.cal_queue.specs.declared.bounded_queue.BoundedQueue.TheInside.{Inside}

-- an index below twice the number of words wraps once at most
pub mod_wraps_once : (count index : ℕ) → index < count + count →
    ((index < count) × (index % count ≡ index)) ⊎ ((count ≤ index) × (index % count ≡ index - count))
mod_wraps_once count index below = elim (cases_lt index count) [
  | inl low ↦ inl (low, mod-eq_of_lt low)
  | inr high ↦ inr (high, mod-eq-sub-mod high ∙ mod-eq_of_lt (omega arith))
]

module _ (count read waiting : ℕ) (words : List ℕ) (within : read < count) (few : waiting ≤ count)
    (long : length words ≡ count) where
  -- there are so many
  pub length-words_from : length (words_from read waiting words) ≡ waiting
  length-words_from =
      length-take-le waiting _ (simp (length-append, length-drop)
      (omega (arith, length-take-le read words (omega arith))))

  -- the value at an index is in the word so far after the read index, around the end
  get_or-words_from : (i d : ℕ) → i < waiting →
      get_or (words_from read waiting words) i d ≡ get_or words ((read + i) % count) d
  get_or-words_from i d below =
      let tail = length-drop read words in
      get_or-take waiting _ i d below ∙ elim (mod_wraps_once count (read + i) (omega arith)) [
        | inl before ↦ get_or_append_left _ _ d i (omega arith) ∙ get_or-drop read words i d ∙ ap
            (λ j. get_or words j d) (omega arith)
        | inr after ↦
            get_or-append_right _ _ (count - read) i d (omega arith) (omega arith)
            ∙ get_or-take read words _ d (omega arith)
            ∙ ap (λ j. get_or words j d) (omega arith)
      ]

module _ (count read waiting : ℕ) (words : List ℕ) (within : read < count) (few : waiting ≤ count)
    (long : length words ≡ count) where
  -- a value that is written to the word after the last that waits is the last
  pub words_from-push : (value : ℕ) → waiting < count →
      words_from read (waiting + 1) (set words ((read + waiting) % count) value) ≡ words_from read waiting words ++
      value ∷ []
  words_from-push value room =
      let after = set words ((read + waiting) % count) value in
      let long_after = length-set words ((read + waiting) % count) value ∙ long in
      let length_before = length-words_from count read waiting words within few long in
      let length_after = length-words_from count read (waiting + 1) after within (omega arith) long_after in
      let written = mod_wraps_once count (read + waiting) (omega arith) in
      same_lists _ _ (grind (arith, common_steps)) (λ i d below. grind (
        arith,
        common_steps,
        mod_wraps_once count (read + i) (omega arith),
        get_or-words_from count read waiting words within few long i d,
        get_or-words_from count read (waiting + 1) after within (omega arith) long_after i d,
      ))

  -- the values that wait are the oldest one, and those that wait from the next word on
  pub words_from-pop : 0 < waiting →
      words_from read waiting words ≡ get_or words read 0 ∷ words_from ((read + 1) % count) (waiting - 1) words
  words_from-pop some =
      let next : (read + 1) % count < count = grind (arith, mod_wraps_once count (read + 1) (omega arith)) in
      let length_before = length-words_from count read waiting words within few long in
      let length_after = length-words_from count ((read + 1) % count) (waiting - 1) words next (omega arith) long in
      let before = get_or-words_from count read waiting words within few long in
      drop_more _ 0 0 (omega arith)
      ∙ ap₂ ◌∷◌ (grind (arith, before 0 0, mod_wraps_once count read))
      (same_lists _ _ (simp length-drop (omega arith)) (λ i d below. grind (
        arith,
        length-drop 1 (words_from read waiting words),
        get_or-drop 1 (words_from read waiting words) i d,
        mod-add-mod (read + 1) count i,
        before (1 + i) d,
        get_or-words_from count _ (waiting - 1) words next (omega arith) long i d,
      )))

-- ---- the queue

-- after a push
pub queue_of-push : (a : Inside) (q : Queue) (write value : ℕ) → IsRing a → queue_of a ≡ q →
    length q.values < q.capacity →
    write ≡ (a.read + a.waiting) % length a.words.items →
    queue_of (record a { words = with_item a.words write value; waiting = a.waiting + 1 }) ≡ after_push q value
queue_of-push a q write value ring view_is room at_end =
    let words = a.words.items in
    let waits = length-words_from (length words) a.read a.waiting words ring.read ring.waiting refl in
    let values = ap (λ (m : Queue). length m.values) view_is in
    let capacity = ap (λ (m : Queue). m.capacity) view_is in
    let joined = words_from-push (length words) a.read a.waiting words ring.read ring.waiting refl value
    (omega arith) in
    let after : words_from a.read (a.waiting + 1) (set words write value) ≡ words_from a.read a.waiting words ++ value ∷
    [] =
    ap (λ n. words_from a.read (a.waiting + 1) (set words n value)) at_end ∙ joined in
    ap₂ (λ vs n. record { values = vs; capacity = n }) after (length-set words write value)
    ∙ ap (λ (m : Queue). after_push m value) view_is

-- after a pop
pub queue_of-pop : (a : Inside) (q : Queue) (next : ℕ) → IsRing a → queue_of a ≡ q → 0 < a.waiting →
    next ≡ (a.read + 1) % length a.words.items →
    queue_of (record a { read = next; waiting = a.waiting - 1 }) ≡ after_pop q
queue_of-pop a q next ring view_is some after_read =
    let words = a.words.items in
    let split = words_from-pop (length words) a.read a.waiting words ring.read ring.waiting refl some in
    ap (λ n. record { values = words_from n (a.waiting - 1) words; capacity = length words }) after_read
    ∙ ap (λ vs. record { values = drop 1 vs; capacity = length words }) (sym split)
    ∙ ap after_pop view_is
