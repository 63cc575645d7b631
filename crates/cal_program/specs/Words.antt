-- How bytes are cut into lines and words, and the numbers and bytes that words stand for.
use Rattle.std.specs.Prelude.{ℕ, ◌+◌, ◌-◌, ◌*◌, ◌^◌, Bool, true, false, not, ◌&&◌, ◌==◌, nat_lt, nat_le, if◌then◌else◌, List, [], ◌∷◌, Option, Some, None, option_and_then, codes, bytes_eq}
use Rattle.std.specs.Int.{is_in_range}
use Rattle.std.specs.Str.{all_ascii_digits}
use Rattle.std.specs.Str.Parse.{digits_value}

-- ---- lines and words

-- a byte before the first piece
abbrev pub onto_first : ℕ → List (List ℕ) → List (List ℕ)
onto_first byte [] = (byte ∷ []) ∷ []
onto_first byte (piece ∷ pieces) = (byte ∷ piece) ∷ pieces

-- the pieces that the separators end; what is after the last one goes onto the first of the pieces `last`
abbrev pub pieces : ℕ → List (List ℕ) → List ℕ → List (List ℕ)
pieces separator last [] = last
pieces separator last (byte ∷ bytes) =
    if byte == separator then [] ∷ pieces separator last bytes else onto_first byte (pieces separator last bytes)

-- the lines: each ends at a line feed, and bytes after the last one are a line where there are some
abbrev pub lines : List ℕ → List (List ℕ)
lines = pieces 10 []

-- the words, one space apart: another space has an empty word beside it
abbrev pub words : List ℕ → List (List ℕ)
words = pieces 32 ([] ∷ [])

-- the text is the one word
abbrev pub is_only_word : List ℕ → List (List ℕ) → Bool
is_only_word text [] = false
is_only_word text (word ∷ []) = bytes_eq word text
is_only_word text (word ∷ next ∷ words) = false

-- the text is the first word
abbrev pub is_first_word : List ℕ → List (List ℕ) → Bool
is_first_word text [] = false
is_first_word text (word ∷ words) = bytes_eq word text

-- ---- numbers

-- a zero begins no longer number
abbrev pub begins_well : List ℕ → Bool
begins_well [] = false
begins_well (digit ∷ []) = true
begins_well (digit ∷ next ∷ digits) = not (digit == 48)

-- the number that a word stands for
abbrev pub number_of : List ℕ → Option ℕ
number_of word =
    if begins_well word && all_ascii_digits word && nat_lt (digits_value 10 word) (2 ^ 64) then Some
    (digits_value 10 word) else None

-- a number up to a limit
abbrev pub at_most : ℕ → ℕ → Option ℕ
at_most limit number = if nat_le number limit then Some number else None

-- ---- bytes in hexadecimal

-- the value of a letter `0` to `9` or `a` to `f`
abbrev pub hex_value : ℕ → Option ℕ
hex_value letter =
    if is_in_range 48 57 letter then Some (letter - 48)
    else if is_in_range 97 102 letter then Some (letter - 87)
    else None

infixl 10 ◌>>=◌
abbrev pub ◌>>=◌ : {A B : Type 0} → Option A → (A → Option B) → Option B
found >>= f = option_and_then f found

-- the byte of two letters, the high half first
abbrev pub byte_of : ℕ → ℕ → Option ℕ
byte_of high low = do
  h ← hex_value high
  l ← hex_value low
  Some (16 * h + l)

-- two letters for each byte
abbrev pub bytes_of_letters : List ℕ → Option (List ℕ)
bytes_of_letters [] = Some []
bytes_of_letters (high ∷ []) = None
bytes_of_letters (high ∷ low ∷ letters) = do
  byte ← byte_of high low
  bytes ← bytes_of_letters letters
  Some (byte ∷ bytes)

-- the bytes that a word stands for: a dash stands for none
abbrev pub bytes_of : List ℕ → Option (List ℕ)
bytes_of [] = None
bytes_of (letter ∷ letters) = if bytes_eq (letter ∷ letters) (codes "-") then Some []
    else bytes_of_letters (letter ∷ letters)
