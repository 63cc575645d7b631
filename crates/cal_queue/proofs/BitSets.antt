-- The bits of words: what a change of one word changes, and where the first set bit is.
use Rattle.std.proofs.Common.{◌≡◌, ◌≢◌, ℕ, ◌+◌, ◌-◌, ◌*◌, ◌/◌, ◌%◌, ◌^◌, ◌<◌, ◌≤◌, ◌==◌, ◌||◌, ◌&&◌, not, Bool, true, false, cond, List, Option, Some, None, length, get_or, set, bit_and, bit_or, refl, sym, ◌∙◌, ap, subst, arith, ◌⊎◌, inl, inr}
use Rattle.std.specs.Int.{bit_at, bit_not, trailing_zeros}
use Rattle.std.proofs.lemmas.Bool.{cases_eq, cases_lt}
use Rattle.std.proofs.lemmas.Bool.Decides.{nat_tests}
use Rattle.std.proofs.lemmas.List.{get_or-set_same, get_or-set_other, get_or_past}
use Rattle.std.proofs.lemmas.Nat.{pow-add, div-mul-add, mod-mul-add, div-add-mod', mod_below}
use Rattle.std.proofs.lemmas.Nat.Bits.{bit_at-zero, bit_at-trailing_zeros, bit_at_set_same, bit_at_set_other, bit_at_clear_same, bit_at_clear_other, bit_at_above}
use Rattle.std.proofs.Math.Nat.{div-div-eq-div-mul}
use Rattle.std.proofs.Common.{w64}
use Rattle.cal_queue.specs.BitSet.{is_bit_set, has_bit}
use Rattle.cal_queue.specs.FirstFrom.{IsFirst, IsFirstFrom}

-- ---- one word is changed

-- a number by its quotient and remainder
same_number : (k number : ℕ) → k / 64 ≡ number / 64 → k % 64 ≡ number % 64 → k ≡ number
same_number k number q r = omega (arith, q, r)

-- where one bit of one word is changed, the bit of one number is
module _ (words : List ℕ) (number word : ℕ) (mark : Bool) (within : number / 64 < length words)
    (here : is_bit_set word (number % 64) ≡ mark)
    (others : (i : ℕ) → i < 64 → i ≢ number % 64 →
    is_bit_set word i ≡ is_bit_set (get_or words (number / 64) 0) i) where
  pub changed-same : has_bit (set words (number / 64) word) number ≡ mark
  changed-same = ap (λ n. is_bit_set n (number % 64)) (get_or-set_same words (number / 64) word 0 within) ∙ here

  pub changed-other : (k : ℕ) → k ≢ number → has_bit (set words (number / 64) word) k ≡ has_bit words k
  changed-other k apart = from (cases_eq (k / 64) (number / 64))
    where
      from : (k / 64 ≡ number / 64) ⊎ (k / 64 ≢ number / 64) →
          has_bit (set words (number / 64) word) k ≡ has_bit words k
      from (inl same) =
          ap (λ i. is_bit_set (get_or (set words (number / 64) word) i 0) (k % 64)) same
          ∙ ap (λ n. is_bit_set n (k % 64)) (get_or-set_same words (number / 64) word 0 within)
          ∙ others (k % 64) (mod_below k 64 (omega arith)) (λ r. apart (same_number k number same r))
          ∙ ap (λ i. is_bit_set (get_or words i 0) (k % 64)) (sym same)
      from (inr else) = ap (λ n. is_bit_set n (k % 64)) (get_or-set_other words (number / 64) (k / 64) word 0 else)

-- a bit is set
pub set-has_bit : (words : List ℕ) (number : ℕ) → number / 64 < length words → (k : ℕ) →
    has_bit (set words (number / 64) (bit_or (get_or words (number / 64) 0) (1 * 2 ^ (number % 64) % 2 ^ 64))) k
    ≡ (k == number || has_bit words k)
set-has_bit words number within k = from (cases_eq k number)
  where
    word : ℕ
    word = bit_or (get_or words (number / 64) 0) (1 * 2 ^ (number % 64) % 2 ^ 64)

    small : number % 64 < 64
    small = mod_below number 64 (omega arith)

    here : is_bit_set word (number % 64) ≡ true
    here = ap (λ b. b == 1) (bit_at_set_same w64 (get_or words (number / 64) 0) (number % 64) small)

    others : (i : ℕ) → i < 64 → i ≢ number % 64 → is_bit_set word i ≡ is_bit_set (get_or words (number / 64) 0) i
    others i below apart = ap
        (λ b. b == 1) (bit_at_set_other w64 (get_or words (number / 64) 0) (number % 64) small i apart)

    from : (k ≡ number) ⊎ (k ≢ number) → has_bit (set words (number / 64) word) k ≡ (k == number || has_bit words k)
    from (inl same) =
        let test : (k == number) ≡ true = grind (arith, nat_tests) in
        ap (λ n. has_bit (set words (number / 64) word) n) same ∙ changed-same words number word true within here others
        ∙ ap (λ t. t || has_bit words k) (sym test)
    from (inr apart) =
        let test : (k == number) ≡ false = grind (arith, nat_tests) in
        changed-other words number word true within here others k apart ∙ ap (λ t. t || has_bit words k) (sym test)

-- a bit is cleared
pub clear-has_bit : (words : List ℕ) (number : ℕ) → number / 64 < length words → (k : ℕ) →
    has_bit (set words (number / 64)
    (bit_and (get_or words (number / 64) 0) (bit_not w64 (1 * 2 ^ (number % 64) % 2 ^ 64)))) k
    ≡ (not (k == number) && has_bit words k)
clear-has_bit words number within k = from (cases_eq k number)
  where
    word : ℕ
    word = bit_and (get_or words (number / 64) 0) (bit_not w64 (1 * 2 ^ (number % 64) % 2 ^ 64))

    small : number % 64 < 64
    small = mod_below number 64 (omega arith)

    here : is_bit_set word (number % 64) ≡ false
    here = ap (λ b. b == 1) (bit_at_clear_same w64 (get_or words (number / 64) 0) (number % 64) small)

    others : (i : ℕ) → i < 64 → i ≢ number % 64 → is_bit_set word i ≡ is_bit_set (get_or words (number / 64) 0) i
    others i below apart = ap
        (λ b. b == 1) (bit_at_clear_other w64 (get_or words (number / 64) 0) (number % 64) small i below apart)

    from : (k ≡ number) ⊎ (k ≢ number) →
        has_bit (set words (number / 64) word) k ≡ (not (k == number) && has_bit words k)
    from (inl same) =
        let test : (k == number) ≡ true = grind (arith, nat_tests) in
        ap (λ n. has_bit (set words (number / 64) word) n) same
        ∙ changed-same words number word false within here others
        ∙ ap (λ t. not t && has_bit words k) (sym test)
    from (inr apart) =
        let test : (k == number) ≡ false = grind (arith, nat_tests) in
        changed-other words number word false within here others k apart ∙ ap (λ t. not t && has_bit words k) (sym test)

-- ---- the first set bit of a word

bit_at-shifted : (word k i : ℕ) → bit_at (word / 2 ^ k) i ≡ bit_at word (k + i)
bit_at-shifted word k i = ap
    (λ n. n % 2) (div-div-eq-div-mul word (2 ^ k) (2 ^ i) ∙ ap (λ n. word / n) (sym (pow-add 2 k i)))

-- a bit from one on is one of the word shifted so far
shifted_to : (word from k : ℕ) → from ≤ k → bit_at (word / 2 ^ from) (k - from) ≡ bit_at word k
shifted_to word from k above =
    let there : from + (k - from) ≡ k = omega arith in
    bit_at-shifted word from (k - from) ∙ ap (bit_at word) there

pub none_in_word : (word from : ℕ) → word / 2 ^ from ≡ 0 → IsFirstFrom (is_bit_set word) from None
none_in_word word from none k above =
    ap (λ b. b == 1) (sym (shifted_to word from k above) ∙ ap (λ n. bit_at n (k - from)) none ∙ bit_at-zero (k - from))

pub first_in_word-IsFirst : (word from : ℕ) → word < 2 ^ 64 → word / 2 ^ from ≢ 0 →
    IsFirst (is_bit_set word) from (from + trailing_zeros w64 (word / 2 ^ from))
first_in_word-IsFirst word from small some =
    let rest = word / 2 ^ from in
    let below : rest < 2 ^ 64 = omega arith in
    let lowest = bit_at-trailing_zeros w64 rest (omega arith) below in
    record {
      not_before = omega arith;
      passes = ap (λ b. b == 1) (sym (bit_at-shifted word from (trailing_zeros w64 rest)) ∙ lowest.1);
      first = λ k above before. ap
          (λ b. b == 1) (sym (shifted_to word from k above) ∙ lowest.2 (k - from) (omega arith));
    }

-- it is one of the word's bits
pub first_in_word-within : (word from number : ℕ) → word < 2 ^ 64 → IsFirst (is_bit_set word) from number → number < 64
first_in_word-within word from number small first = by_cases (cases_lt number 64)
  where
    by_cases : (number < 64) ⊎ (64 ≤ number) → number < 64
    by_cases (inl below) = below
    by_cases (inr past) =
        let none : is_bit_set word number ≡ false = ap (λ b. b == 1) (bit_at_above word 64 number small past) in
        absurd cc

-- ---- the first number whose bit is set

-- none from a number on is below this bit of this word
pub record IsPassed (words : List ℕ) (from index bit : ℕ) : Type 0 where
  pub within : bit < 64
  pub reached : from ≤ index * 64 + bit
  pub none : (k : ℕ) → from ≤ k → k < index * 64 + bit → has_bit words k ≡ false

pub IsPassed-start : (words : List ℕ) (from : ℕ) → IsPassed words from (from / 64) (from % 64)
IsPassed-start words from = record {
  within = mod_below from 64 (omega arith);
  reached = omega arith;
  none = λ k above below. absurd (omega arith);
}

-- a number in a word
in_word : (words : List ℕ) (index k word : ℕ) → word ≡ get_or words index 0 → k / 64 ≡ index →
    has_bit words k ≡ is_bit_set word (k % 64)
in_word words index k word is there =
    ap (λ i. is_bit_set (get_or words i 0) (k % 64)) there ∙ ap (λ n. is_bit_set n (k % 64)) (sym is)

-- the word holds none from the bit on
pub IsPassed-next : (words : List ℕ) (from index bit word : ℕ) → IsPassed words from index bit →
    word ≡ get_or words index 0 →
    IsFirstFrom (is_bit_set word) bit None → IsPassed words from (index + 1) 0
IsPassed-next words from index bit word passed is none = record {
  within = omega arith;
  reached = let r = passed.reached in let b = passed.within in omega arith;
  none = λ k above below. by_cases k above below (cases_lt k (index * 64 + bit));
}
  where
    by_cases : (k : ℕ) → from ≤ k → k < (index + 1) * 64 + 0 → (k < index * 64 + bit) ⊎ (index * 64 + bit ≤ k) →
        has_bit words k ≡ false
    by_cases k above below (inl before) = passed.none k above before
    by_cases k above below (inr after) =
        let there : k / 64 ≡ index = omega arith in
        in_word words index k word is there ∙ none (k % 64) (omega arith)

-- the word holds one from the bit on
pub IsPassed-found : (words : List ℕ) (from index bit word found : ℕ) → IsPassed words from index bit →
    word ≡ get_or words index 0 →
    found < 64 → IsFirst (is_bit_set word) bit found → IsFirst (has_bit words) from (index * 64 + found)
IsPassed-found words from index bit word found passed is within first = record {
  not_before = let r = passed.reached in let b = first.not_before in omega arith;
  passes =
      let there : (index * 64 + found) / 64 ≡ index = div-mul-add index 64 found within in
      let bit_is : (index * 64 + found) % 64 ≡ found = mod-mul-add index 64 found within in
      in_word words index (index * 64 + found) word is there ∙ ap (is_bit_set word) bit_is ∙ first.passes;
  first = λ k above below. by_cases k above below (cases_lt k (index * 64 + bit));
}
  where
    by_cases : (k : ℕ) → from ≤ k → k < index * 64 + found → (k < index * 64 + bit) ⊎ (index * 64 + bit ≤ k) →
        has_bit words k ≡ false
    by_cases k above below (inl before) = passed.none k above before
    by_cases k above below (inr after) =
        let there : k / 64 ≡ index = omega arith in
        in_word words index k word is there ∙ first.first (k % 64) (omega arith) (omega arith)

-- no word is left
pub IsPassed-end : (words : List ℕ) (from index bit : ℕ) → IsPassed words from index bit → length words ≤ index →
    IsFirstFrom (has_bit words) from None
IsPassed-end words from index bit passed end k above = by_cases (cases_lt k (index * 64 + bit))
  where
    by_cases : (k < index * 64 + bit) ⊎ (index * 64 + bit ≤ k) → has_bit words k ≡ false
    by_cases (inl before) = passed.none k above before
    by_cases (inr after) =
        ap (λ n. is_bit_set n (k % 64)) (get_or_past words (k / 64) 0 (omega arith)) ∙ ap
        (λ b. b == 1) (bit_at-zero (k % 64))
