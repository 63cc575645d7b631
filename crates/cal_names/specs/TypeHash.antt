-- The hash of a type's name as a text.
use Rattle.std.specs.Prelude.{◌≡◌, ℕ, zero, suc, ◌*◌, ◌/◌, ◌%◌, List, [], ◌∷◌, ◌++◌, length, map, slice_index, codes}
use Rattle.std.proofs.Common.{arith, refl, ◌∙◌, length-append}
use Rattle.std.proofs.lemmas.List.{length-map}
use Rattle.std.specs.Int.Digits.{number_from_digits}
use Rattle.sha1.specs.Sha1.{sha1}

-- the letters that stand for the numbers below 64, in this order
abbrev pub hash_letters : List ℕ
hash_letters = codes "ABCDEFGHIJKLMNOPQRSTUVWXYZabcdefghijklmnopqrstuvwxyz0123456789-_"

-- the last digits of a number to base 64, so many, with the highest first
unfoldable pub sextets : ℕ → ℕ → List ℕ
sextets zero number = []
sextets (suc count) number = sextets count (number / 64) ++ number % 64 ∷ []

pub length-sextets : (count number : ℕ) → length (sextets count number) ≡ count
unfolding sextets
length-sextets zero number = refl
length-sextets (suc count) number =
    length-append (sextets count (number / 64)) (number % 64 ∷ []) ∙ omega (arith, length-sextets count (number / 64))

-- the SHA-1 of the name, as a number of 160 bits with the first byte highest, and two zero bits after it: a letter
-- for each six bits, from the highest on
unfoldable pub type_hash_of : List ℕ → List ℕ
type_hash_of name = map (slice_index hash_letters) (sextets 27 (number_from_digits 256 (sha1 name) * 4))

pub length-type_hash_of : (name : List ℕ) → length (type_hash_of name) ≡ 27
unfolding type_hash_of
length-type_hash_of name =
    length-map (sextets 27 (number_from_digits 256 (sha1 name) * 4)) (slice_index hash_letters)
    ∙ length-sextets 27 (number_from_digits 256 (sha1 name) * 4)
