-- How words are seen: as a mark for each number, which is the number's bit.
use Rattle.std.specs.Prelude.{ℕ, ◌/◌, ◌%◌, ◌^◌, ◌≤◌, ◌≡◌, ◌==◌, Bool, false, List, length, get_or, map}
use Rattle.std.specs.Int.{bit_at, div_ceil}
use Rattle.std.specs.List.{range_with_len}

-- whether a bit of a word is set
abbrev pub is_bit_set : ℕ → ℕ → Bool
is_bit_set word bit = bit_at word bit == 1

-- whether a number's bit is set; a number that has no word has none
abbrev pub has_bit : List ℕ → ℕ → Bool
has_bit words number = is_bit_set (get_or words (number / 64) 0) (number % 64)

-- the marks of the numbers below a capacity
abbrev pub marks_of : List ℕ → ℕ → List Bool
marks_of words capacity = map (has_bit words) (range_with_len 0 capacity)

-- there is a word for each 64 numbers, so at most 2 ^ 58 words, and the bits from the capacity on are clear
pub record IsBitSet (words : List ℕ) (capacity : ℕ) : Type 0 where
  pub long : length words ≡ div_ceil capacity 64
  pub few : length words ≤ 2 ^ 58
  pub clear : (number : ℕ) → capacity ≤ number → has_bit words number ≡ false
