-- The marks that words stand for.
use Rattle.std.proofs.Common.{◌≡◌, ◌≢◌, ℕ, ◌+◌, ◌/◌, ◌%◌, ◌^◌, ◌<◌, ◌≤◌, ◌==◌, ◌||◌, ◌&&◌, not, Bool, true, false, List, Option, Some, None, length, get_or, set, replicate, map, refl, sym, ◌∙◌, ap, arith, ◌⊎◌, inl, inr}
use Rattle.std.specs.Int.{div_ceil}
use Rattle.std.specs.List.{range_with_len}
use Rattle.std.proofs.lemmas.Bool.{true≢false, cases_eq, cases_lt}
use Rattle.std.proofs.lemmas.Bool.Decides.{nat_tests}
use Rattle.std.proofs.lemmas.List.{same_lists, get_or_default, get_or_past, get_or-set_same, get_or-set_other, get_or-replicate, length-replicate, length-set, length-map}
use Rattle.std.proofs.lemmas.List.FromFn.{get_or-map-range_with_len, length-range_with_len}
use Rattle.std.proofs.lemmas.Nat.Bits.{bit_at-zero}
use Rattle.cal_queue.specs.BitSet.{is_bit_set, has_bit, marks_of, IsBitSet}
use Rattle.cal_queue.specs.FirstFrom.{IsFirst, IsFirstFrom}
use Rattle.cal_queue.specs.UsedChunkMembers.{next_member-is}
use Rattle.cal_queue.specs.UsedChunks.{UsedChunks, capacity_of, contains, next_member, after_insertion, after_removal}

pub length-marks_of : (words : List ℕ) (capacity : ℕ) → length (marks_of words capacity) ≡ capacity
length-marks_of words capacity = length-map (range_with_len 0 capacity) (has_bit words)
    ∙ length-range_with_len 0 capacity

-- a number's mark is its bit
mark-below : (words : List ℕ) (capacity k : ℕ) (d : Bool) → k < capacity →
    get_or (marks_of words capacity) k d ≡ has_bit words k
mark-below words capacity k d below = get_or-map-range_with_len (has_bit words) 0 capacity k k d below (omega arith)

pub mark-is : (words : List ℕ) (capacity k : ℕ) → IsBitSet words capacity →
    get_or (marks_of words capacity) k false ≡ has_bit words k
mark-is words capacity k sound = from (cases_lt k capacity)
  where
    from : (k < capacity) ⊎ (capacity ≤ k) → get_or (marks_of words capacity) k false ≡ has_bit words k
    from (inl below) = mark-below words capacity k false below
    from (inr past) =
        get_or_past (marks_of words capacity) k false (omega (arith, length-marks_of words capacity))
        ∙ sym (sound.clear k past)

-- a number that has a bit has a word
pub has_word : (words : List ℕ) (capacity number : ℕ) → IsBitSet words capacity → number < capacity →
    number / 64 < length words
has_word words capacity number sound below = let long = sound.long in omega arith

-- ---- where one bit is another

module _ (words after : List ℕ) (capacity number : ℕ) (mark : Bool) (below : number < capacity)
    (here : has_bit after number ≡ mark) (others : (k : ℕ) → k ≢ number → has_bit after k ≡ has_bit words k) where
  marks-changed : marks_of after capacity ≡ set (marks_of words capacity) number mark
  marks-changed =
      let long = length-marks_of words capacity in
      let long_after = length-marks_of after capacity in
      same_lists _ _ (omega (arith, length-set (marks_of words capacity) number mark))
      (λ k d within. by_cases k d (omega arith) (cases_eq k number))
    where
      by_cases : (k : ℕ) (d : Bool) → k < capacity → (k ≡ number) ⊎ (k ≢ number) →
          get_or (marks_of after capacity) k d ≡ get_or (set (marks_of words capacity) number mark) k d
      by_cases k d inside (inl same) =
          mark-below after capacity k d inside ∙ ap (has_bit after) same ∙ here
          ∙ sym (get_or-set_same (marks_of words capacity) number mark d
          (omega (arith, length-marks_of words capacity)))
          ∙ ap (λ n. get_or (set (marks_of words capacity) number mark) n d) (sym same)
      by_cases k d inside (inr apart) =
          mark-below after capacity k d inside ∙ others k apart ∙ sym (mark-below words capacity k d inside)
          ∙ sym (get_or-set_other (marks_of words capacity) number k mark d apart)

  changed-IsBitSet : IsBitSet words capacity → length after ≡ length words → IsBitSet after capacity
  changed-IsBitSet sound same = record {
    long = same ∙ sound.long;
    few = let few = sound.few in omega arith;
    clear = λ k past. others k (λ e. absurd (omega arith)) ∙ sound.clear k past;
  }

-- a bit was set
module _ (words after : List ℕ) (capacity number : ℕ) (below : number < capacity)
    (is_set : (k : ℕ) → has_bit after k ≡ (k == number || has_bit words k)) where
  set-here : has_bit after number ≡ true
  set-here = let test : (number == number) ≡ true = grind (arith, nat_tests) in is_set number ∙ ap
      (λ t. t || has_bit words number) test

  set-others : (k : ℕ) → k ≢ number → has_bit after k ≡ has_bit words k
  set-others k apart = let test : (k == number) ≡ false = grind (arith, nat_tests) in is_set k ∙ ap
      (λ t. t || has_bit words k) test

  pub set-marks : marks_of after capacity ≡ set (marks_of words capacity) number true
  set-marks = marks-changed words after capacity number true below set-here set-others

  pub set-IsBitSet : IsBitSet words capacity → length after ≡ length words → IsBitSet after capacity
  set-IsBitSet = changed-IsBitSet words after capacity number true below set-here set-others

-- a bit was cleared
module _ (words after : List ℕ) (capacity number : ℕ) (below : number < capacity)
    (is_cleared : (k : ℕ) → has_bit after k ≡ (not (k == number) && has_bit words k)) where
  cleared-here : has_bit after number ≡ false
  cleared-here =
      let test : (number == number) ≡ true = grind (arith, nat_tests) in is_cleared number ∙ ap
      (λ t. not t && has_bit words number) test

  cleared-others : (k : ℕ) → k ≢ number → has_bit after k ≡ has_bit words k
  cleared-others k apart =
      let test : (k == number) ≡ false = grind (arith, nat_tests) in is_cleared k ∙ ap
      (λ t. not t && has_bit words k) test

  pub cleared-marks : marks_of after capacity ≡ set (marks_of words capacity) number false
  cleared-marks = marks-changed words after capacity number false below cleared-here cleared-others

  pub cleared-IsBitSet : IsBitSet words capacity → length after ≡ length words → IsBitSet after capacity
  cleared-IsBitSet = changed-IsBitSet words after capacity number false below cleared-here cleared-others

-- ---- words that are zero

pub zero-has_bit : (count k : ℕ) → has_bit (replicate count 0) k ≡ false
zero-has_bit count k = from (cases_lt (k / 64) count)
  where
    zero_word : ℕ
    zero_word = 0

    word_zero : (k / 64 < count) ⊎ (count ≤ k / 64) → get_or (replicate count 0) (k / 64) 0 ≡ zero_word
    word_zero (inl within) = get_or-replicate count (k / 64) 0 0 within
    word_zero (inr past) = get_or_past (replicate count 0) (k / 64) 0 (omega (arith, length-replicate count zero_word))

    from : (k / 64 < count) ⊎ (count ≤ k / 64) → has_bit (replicate count 0) k ≡ false
    from which = ap (λ n. is_bit_set n (k % 64)) (word_zero which) ∙ ap (λ b. b == 1) (bit_at-zero (k % 64))

pub zero-marks : (count capacity : ℕ) → marks_of (replicate count 0) capacity ≡ replicate capacity false
zero-marks count capacity =
    let long = length-marks_of (replicate count 0) capacity in
    same_lists _ _ (long ∙ sym (length-replicate capacity false)) (λ k d within.
    let inside : k < capacity = omega arith in
    mark-below (replicate count 0) capacity k d inside ∙ zero-has_bit count k
    ∙ sym (get_or-replicate capacity k false d inside))

pub zero-IsBitSet : (count capacity : ℕ) → count ≡ div_ceil capacity 64 → capacity < 2 ^ 64 →
    IsBitSet (replicate count 0) capacity
zero-IsBitSet count capacity long small = record {
  long = length-replicate {A = ℕ} count 0 ∙ long;
  few = let whole = length-replicate {A = ℕ} count 0 in omega arith;
  clear = λ k past. zero-has_bit count k;
}

-- ---- words as a used list

-- the words stand for this list
pub record Represents (words : List ℕ) (capacity : ℕ) (used : UsedChunks) : Type 0 where
  pub sound : IsBitSet words capacity
  pub is : record { marks = marks_of words capacity } ≡ used

module _ (words : List ℕ) (capacity : ℕ) (used : UsedChunks) (shown : Represents words capacity used) where
  pub shown-capacity : capacity ≡ capacity_of used
  shown-capacity = sym (length-marks_of words capacity) ∙ ap capacity_of shown.is

  pub shown-contains : (k : ℕ) → has_bit words k ≡ contains used k
  shown-contains k = sym (mark-is words capacity k shown.sound) ∙ ap (λ (u : UsedChunks). contains u k) shown.is

  pub shown-has_word : (number : ℕ) → number < capacity_of used → number / 64 < length words
  shown-has_word number below = has_word words capacity number shown.sound (omega (arith, shown-capacity))

  -- the first member from a number on
  pub shown-first : (from : ℕ) (number : Option ℕ) → IsFirstFrom (has_bit words) from number →
      IsFirstFrom (contains used) from number
  shown-first from None none = λ k above. sym (shown-contains k) ∙ none k above
  shown-first from (Some number) first = record {
    not_before = first.not_before;
    passes = sym (shown-contains number) ∙ first.passes;
    first = λ k above below. sym (shown-contains k) ∙ first.first k above below;
  }

  pub shown-next : (from : ℕ) (number : Option ℕ) → IsFirstFrom (has_bit words) from number →
      number ≡ next_member used from
  shown-next from number first = next_member-is used.marks from number (shown-first from number first)

  module _ (after : List ℕ) (number : ℕ) (below : number < capacity_of used) where
    pub shown-insertion : ((k : ℕ) → has_bit after k ≡ (k == number || has_bit words k)) →
        record { marks = marks_of after capacity } ≡ after_insertion used number
    shown-insertion is_set =
        ap (λ (marks : List Bool). record { marks = marks })
        (set-marks words after capacity number (omega (arith, shown-capacity)) is_set)
        ∙ ap (λ (u : UsedChunks). after_insertion u number) shown.is

    pub insertion-IsBitSet : ((k : ℕ) → has_bit after k ≡ (k == number || has_bit words k)) →
        length after ≡ length words →
        IsBitSet after capacity
    insertion-IsBitSet is_set same =
        set-IsBitSet words after capacity number (omega (arith, shown-capacity)) is_set shown.sound same

    pub shown-removal : ((k : ℕ) → has_bit after k ≡ (not (k == number) && has_bit words k)) →
        record { marks = marks_of after capacity } ≡ after_removal used number
    shown-removal is_cleared =
        ap (λ (marks : List Bool). record { marks = marks })
        (cleared-marks words after capacity number (omega (arith, shown-capacity)) is_cleared)
        ∙ ap (λ (u : UsedChunks). after_removal u number) shown.is

    pub removal-IsBitSet : ((k : ℕ) → has_bit after k ≡ (not (k == number) && has_bit words k)) →
        length after ≡ length words →
        IsBitSet after capacity
    removal-IsBitSet is_cleared same =
        cleared-IsBitSet words after capacity number (omega (arith, shown-capacity)) is_cleared shown.sound same
