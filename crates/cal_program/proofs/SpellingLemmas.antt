-- A line that is read is spelled as what it says, and what is spelled is read again.
use Rattle.std.proofs.Common.{◌≡◌, ℕ, zero, suc, ◌+◌, ◌-◌, ◌*◌, ◌/◌, ◌%◌, ◌^◌, ◌<◌, ◌≤◌, ◌⊎◌, inl, inr, Bool, true, false, not, cond, ◌&&◌, eqb, List, [], ◌∷◌, ◌++◌, length, get_or, Option, Some, None, decimal, refl, sym, ap, subst, ◌∙◌, arith}
use Rattle.std.specs.Prelude.{codes, bytes_eq, nat_lt, nat_le, option_and_then}
use Rattle.std.specs.List.{AllByRecursion, flat_map}
use Rattle.std.specs.Char.{is_ascii_digit}
use Rattle.std.specs.Str.{all_ascii_digits}
use Rattle.std.specs.Str.Parse.{digits_value}
use Rattle.std.proofs.lemmas.Bool.{cases_lt, and_parts, ltb-true, lt-ltb, le-ltb, leb-true, le-leb, lt-leb, eqb-true, eqb-false, ne_eqb}
use Rattle.std.proofs.lemmas.Nat.{div-mul-add, mod-mul-add}
use Rattle.std.proofs.lemmas.Option.{cond_some, same_Some, none-some}
use Rattle.std.proofs.lemmas.Slice.Eq.{bytes_eq-Decides}
use Rattle.std.proofs.lemmas.Str.Parse.{IsNumeralModel, numerals_by_value, tells_all_ascii_digits}
use Rattle.std.proofs.lemmas.Fmt.{decimal-digits_value, digits_decimal, digits_value-decimal, decimal_nonempty, decimal_digit, first_decimal}
use Rattle.cal_transport.specs.declared.command.Command.{Command}
use Rattle.cal_transport.specs.declared.command.Command.TheVariants.{Loan, Write, Send, Receive, Read, Release, Reclaim, Discard, Count}
use Rattle.cal_program.specs.Script.{loan_of, write_of, send_of, receive_of, read_of, release_of, reclaim_of, discard_of, count_of, command_named, command_of_words, command_of}
use Rattle.cal_program.specs.Words.{onto_first, words, begins_well, number_of, hex_value, byte_of, bytes_of_letters, bytes_of}
use Rattle.cal_program.specs.Spelling.{spaced_words, hex_letter, hex_pair, hex, command_line, HasSpelling}

-- ---- words

-- words that were cut, put together again
onto-spaced : (byte : ℕ) (found : List (List ℕ)) → 0 < length found →
    spaced_words (onto_first byte found) ≡ byte ∷ spaced_words found
onto-spaced byte [] h = absurd (omega arith)
onto-spaced byte (word ∷ []) h = refl
onto-spaced byte (word ∷ next ∷ others) h = refl

empty-spaced : (found : List (List ℕ)) → 0 < length found → spaced_words ([] ∷ found) ≡ 32 ∷ spaced_words found
empty-spaced [] h = absurd (omega arith)
empty-spaced (word ∷ others) h = refl

length-onto_first : (byte : ℕ) (found : List (List ℕ)) → 0 < length (onto_first byte found)
length-onto_first byte [] = omega arith
length-onto_first byte (word ∷ others) = omega arith

words-some : (bytes : List ℕ) → 0 < length (words bytes)
words-some [] = omega arith
words-some (byte ∷ bytes) =
    elim (eqb byte 32) as (λ b. 0 < length (cond b ([] ∷ words bytes) (onto_first byte (words bytes)))) [
      | true ↦ omega arith
      | false ↦ length-onto_first byte (words bytes)
    ]

spaced-step : (byte : ℕ) (bytes : List ℕ) (b : Bool) → eqb byte 32 ≡ b → spaced_words (words bytes) ≡ bytes →
    spaced_words (words (byte ∷ bytes)) ≡ byte ∷ bytes
spaced-step byte bytes true e again =
    rw e (empty-spaced (words bytes) (words-some bytes) ∙ ap (λ (t : List ℕ). 32 ∷ t) again ∙ ap
    (λ (c : ℕ). c ∷ bytes) (sym (eqb-true byte 32 e)))
spaced-step byte bytes false e again =
    rw e (onto-spaced byte (words bytes) (words-some bytes) ∙ ap (λ (t : List ℕ). byte ∷ t) again)

pub spaced-words : (bytes : List ℕ) → spaced_words (words bytes) ≡ bytes
spaced-words [] = refl
spaced-words (byte ∷ bytes) = spaced-step byte bytes (eqb byte 32) refl (spaced-words bytes)

-- a word has no space
abbrev pub lacks_space : List ℕ → Bool
lacks_space [] = true
lacks_space (byte ∷ bytes) = not (eqb byte 32) && lacks_space bytes

not-true : (b : Bool) → not b ≡ true → b ≡ false
not-true true e = sym e
not-true false e = refl

words-one : (word : List ℕ) → lacks_space word ≡ true → words word ≡ word ∷ []
words-one [] h = refl
words-one (byte ∷ word) h =
    let parts = and_parts (not (eqb byte 32)) (lacks_space word) h in
    rw (not-true (eqb byte 32) parts.0, words-one word parts.1) refl

words-more : (word rest : List ℕ) → lacks_space word ≡ true → words (word ++ 32 ∷ rest) ≡ word ∷ words rest
words-more [] rest h = refl
words-more (byte ∷ word) rest h =
    let parts = and_parts (not (eqb byte 32)) (lacks_space word) h in
    rw (not-true (eqb byte 32) parts.0, words-more word rest parts.1) refl

-- words that were put together, cut again
pub words-spaced : (word : List ℕ) (others : List (List ℕ)) → lacks_space word ≡ true →
    AllByRecursion (λ w. lacks_space w ≡ true) others → words (spaced_words (word ∷ others)) ≡ word ∷ others
words-spaced word [] h each = words-one word h
words-spaced word (next ∷ others) h each =
    words-more word (spaced_words (next ∷ others)) h ∙ ap
    (λ (found : List (List ℕ)). word ∷ found) (words-spaced next others each.0 each.1)

-- ---- numbers

own : IsNumeralModel (λ ds. all_ascii_digits ds ≡ true) (digits_value 10)
own = numerals_by_value (λ ds. all_ascii_digits ds ≡ true) tells_all_ascii_digits

begins-some : (word : List ℕ) → begins_well word ≡ true → 0 < length word
begins-some [] e = absurd cc
begins-some (digit ∷ word) e = omega arith

begins-zero : (word : List ℕ) → begins_well word ≡ true → get_or word 0 0 ≡ 48 → length word ≡ 1
begins-zero [] e z = absurd cc
begins-zero (digit ∷ []) e z = refl
begins-zero (digit ∷ next ∷ word) e z = absurd (eqb-false digit 48 (not-true (eqb digit 48) e) z)

begins-from : (word : List ℕ) → 0 < length word → (get_or word 0 0 ≡ 48 → length word ≡ 1) → begins_well word ≡ true
begins-from [] h z = absurd (omega arith)
begins-from (digit ∷ []) h z = refl
begins-from (digit ∷ next ∷ word) h z =
    rw (ne_eqb digit 48 (λ e. let long : length (digit ∷ next ∷ word) ≡ 1 = z e in omega arith)) refl

-- a word that is read as a number is the number's decimal
pub number-spelled : (word : List ℕ) (n : ℕ) → number_of word ≡ Some n → word ≡ decimal n
number-spelled word n e =
    let test = begins_well word && all_ascii_digits word && nat_lt (digits_value 10 word) (2 ^ 64) in
    let read = cond_some test (digits_value 10 word) n e in
    let parts = and_parts (begins_well word && all_ascii_digits word) (nat_lt (digits_value 10 word) (2 ^ 64)) read.0 in
    let forms = and_parts (begins_well word) (all_ascii_digits word) parts.0 in
    sym (decimal-digits_value own word forms.1 (begins-some word forms.0) (begins-zero word forms.0)
    (ltb-true (digits_value 10 word) (2 ^ 64) parts.1))
    ∙ ap decimal read.1

decimal-zero : (n : ℕ) → n < 2 ^ 64 → get_or (decimal n) 0 0 ≡ 48 → length (decimal n) ≡ 1
decimal-zero zero h z = ap length (decimal_digit 0 (omega arith))
decimal-zero (suc n) h z = let first = first_decimal (suc n) (omega arith) h in absurd (omega arith)

-- a number's decimal is read as the number
pub number-again : (n : ℕ) → n < 2 ^ 64 → number_of (decimal n) ≡ Some n
number-again n h =
    let begins = begins-from (decimal n) (decimal_nonempty n h) (decimal-zero n h) in
    let digits = digits_decimal own n h in
    let value = digits_value-decimal own n h in
    rw (begins, digits, value, lt-ltb n (2 ^ 64) h) refl

digits-lack : (word : List ℕ) → all_ascii_digits word ≡ true → lacks_space word ≡ true
digits-lack [] h = refl
digits-lack (digit ∷ word) h =
    let parts = and_parts (is_ascii_digit digit) (all_ascii_digits word) h in
    let range = and_parts (nat_le 48 digit) (nat_le digit 57) parts.0 in
    let low : 48 ≤ digit = leb-true 48 digit range.0 in
    rw (ne_eqb digit 32 (λ e. omega arith), digits-lack word parts.1) refl

pub decimal-lacks : (n : ℕ) → n < 2 ^ 64 → lacks_space (decimal n) ≡ true
decimal-lacks n h = digits-lack (decimal n) (digits_decimal own n h)

-- ---- bytes in hexadecimal

hex_low : (letter half : ℕ) → (nat_le 48 letter && nat_le letter 57) ≡ true → letter - 48 ≡ half →
    (half < 16) × (hex_letter half ≡ letter)
hex_low letter half e v =
    let range = and_parts (nat_le 48 letter) (nat_le letter 57) e in
    let low : 48 ≤ letter = leb-true 48 letter range.0 in
    let high : letter ≤ 57 = leb-true letter 57 range.1 in
    (omega arith, rw (lt-ltb half 10 (omega arith)) (omega arith))

hex_high : (letter half : ℕ) → (nat_le 97 letter && nat_le letter 102) ≡ true → letter - 87 ≡ half →
    (half < 16) × (hex_letter half ≡ letter)
hex_high letter half e v =
    let range = and_parts (nat_le 97 letter) (nat_le letter 102) e in
    let low : 97 ≤ letter = leb-true 97 letter range.0 in
    let high : letter ≤ 102 = leb-true letter 102 range.1 in
    (omega arith, rw (le-ltb half 10 (omega arith)) (omega arith))

hex_by : (letter half : ℕ) (a b : Bool) → (nat_le 48 letter && nat_le letter 57) ≡ a →
    (nat_le 97 letter && nat_le letter 102) ≡ b →
    cond a (Some (letter - 48)) (cond b (Some (letter - 87)) None) ≡ Some half →
    (half < 16) × (hex_letter half ≡ letter)
hex_by letter half true b e f v = hex_low letter half e (same_Some (letter - 48) half v)
hex_by letter half false true e f v = hex_high letter half f (same_Some (letter - 87) half v)
hex_by letter half false false e f v = absurd cc

-- a letter that is read is the letter of its value
hex_value-spelled : (letter half : ℕ) → hex_value letter ≡ Some half → (half < 16) × (hex_letter half ≡ letter)
hex_value-spelled letter half e =
    hex_by letter half (nat_le 48 letter && nat_le letter 57) (nat_le 97 letter && nat_le letter 102) refl refl e

-- two values that are read give a byte
pair-parts : (high low : Option ℕ) (byte : ℕ) →
    option_and_then (λ h. option_and_then (λ l. Some (16 * h + l)) low) high ≡ Some byte →
    (h : ℕ) × (l : ℕ) × (high ≡ Some h) × (low ≡ Some l) × (16 * h + l ≡ byte)
pair-parts None low byte e = absurd cc
pair-parts (Some h) None byte e = absurd cc
pair-parts (Some h) (Some l) byte e = (h, l, refl, refl, same_Some (16 * h + l) byte e)

byte-spelled : (high low byte : ℕ) → byte_of high low ≡ Some byte → hex_pair byte ≡ high ∷ low ∷ []
byte-spelled high low byte e =
    let p = pair-parts (hex_value high) (hex_value low) byte e in
    let h = hex_value-spelled high p.0 p.2 in
    let l = hex_value-spelled low p.1 p.3 in
    let first : byte / 16 ≡ p.0 = ap (λ (n : ℕ). n / 16) {x = byte} {y = p.0 * 16 + p.1} (omega (arith, p.4))
    ∙ div-mul-add p.0 16 p.1 l.0 in
    let second : byte % 16 ≡ p.1 = ap (λ (n : ℕ). n % 16) {x = byte} {y = p.0 * 16 + p.1} (omega (arith, p.4))
    ∙ mod-mul-add p.0 16 p.1 l.0 in
    rw (first, second, h.1, l.1) refl

-- a byte before those that are read
step-parts : (first : Option ℕ) (others : Option (List ℕ)) (bytes : List ℕ) →
    option_and_then (λ b. option_and_then (λ bs. Some (b ∷ bs)) others) first ≡ Some bytes →
    (b : ℕ) × (bs : List ℕ) × (first ≡ Some b) × (others ≡ Some bs) × (b ∷ bs ≡ bytes)
step-parts None others bytes e = absurd cc
step-parts (Some b) None bytes e = absurd cc
step-parts (Some b) (Some bs) bytes e = (b, bs, refl, refl, same_Some (b ∷ bs) bytes e)

letters-spelled : (letters bytes : List ℕ) → bytes_of_letters letters ≡ Some bytes → letters ≡ flat_map hex_pair bytes
letters-spelled [] bytes e = ap (flat_map hex_pair) (same_Some [] bytes e)
letters-spelled (high ∷ []) bytes e = absurd cc
letters-spelled (high ∷ low ∷ letters) bytes e =
    let p = step-parts (byte_of high low) (bytes_of_letters letters) bytes e in
    let rest = letters-spelled letters p.1 p.3 in
    let first = byte-spelled high low p.0 p.2 in
    subst (λ (bs : List ℕ). high ∷ low ∷ letters ≡ flat_map hex_pair bs) p.4
    (ap (λ (t : List ℕ). high ∷ low ∷ t) rest ∙ ap (λ (t : List ℕ). t ++ flat_map hex_pair p.1) (sym first))

hex-some : (letter : ℕ) (letters bytes : List ℕ) → letter ∷ letters ≡ flat_map hex_pair bytes →
    letter ∷ letters ≡ hex bytes
hex-some letter letters [] e = absurd cc
hex-some letter letters (byte ∷ bytes) e = e

pub bytes_eq-true : (xs ys : List ℕ) → bytes_eq xs ys ≡ true → xs ≡ ys
bytes_eq-true xs ys e = (bytes_eq-Decides xs ys).0 e

bytes-by : (letter : ℕ) (letters bytes : List ℕ) (b : Bool) → bytes_eq (letter ∷ letters) (codes "-") ≡ b →
    cond b (Some []) (bytes_of_letters (letter ∷ letters)) ≡ Some bytes → letter ∷ letters ≡ hex bytes
bytes-by letter letters bytes true e f = bytes_eq-true (letter ∷ letters) (codes "-") e ∙ ap hex (same_Some [] bytes f)
bytes-by letter letters bytes false e f = hex-some letter letters bytes (letters-spelled (letter ∷ letters) bytes f)

-- a word that is read as bytes is their hexadecimal
pub bytes-spelled : (word bytes : List ℕ) → bytes_of word ≡ Some bytes → word ≡ hex bytes
bytes-spelled [] bytes e = absurd cc
bytes-spelled (letter ∷ letters) bytes e = bytes-by letter letters bytes (bytes_eq (letter ∷ letters) (codes "-")) refl
    e

-- the letter of half a byte has its value, and is no dash and no space
letter-again : (half : ℕ) → half < 16 → (hex_value (hex_letter half) ≡ Some half) × (48 ≤ hex_letter half)
letter-again half h =
    elim (cases_lt half 10) [
      | inl lt ↦ let e : hex_letter half ≡ 48 + half = rw (lt-ltb half 10 lt) refl in (
        rw (e, le-leb 48 (48 + half) (omega arith), le-leb (48 + half) 57 (omega arith)) (ap Some (omega arith)),
        omega arith,
      )
      | inr le ↦ let e : hex_letter half ≡ 87 + half = rw (le-ltb half 10 le) refl in (
        rw (
          e,
          le-leb 48 (87 + half) (omega arith),
          lt-leb (87 + half) 57 (omega arith),
          le-leb 97 (87 + half) (omega arith),
          le-leb (87 + half) 102 (omega arith),
        ) (ap Some (omega arith)),
        omega arith,
      )
    ]

byte-again : (byte : ℕ) → byte < 2 ^ 8 → byte_of (hex_letter (byte / 16)) (hex_letter (byte % 16)) ≡ Some byte
byte-again byte h =
    let high = letter-again (byte / 16) (omega arith) in
    let low = letter-again (byte % 16) (omega arith) in
    rw (high.0, low.0) (ap Some (omega arith))

letters-again : (bytes : List ℕ) → AllByRecursion (λ byte. byte < 2 ^ 8) bytes →
    bytes_of_letters (flat_map hex_pair bytes) ≡ Some bytes
letters-again [] h = refl
letters-again (byte ∷ bytes) h = rw (byte-again byte h.0, letters-again bytes h.1) refl

-- a row of letters is no dash
no-dash : (letter next : ℕ) (letters : List ℕ) → bytes_eq (letter ∷ next ∷ letters) (codes "-") ≡ false
no-dash letter next letters = elim (eqb letter 45) as (λ b. (b && false) ≡ false) [ true ↦ refl | false ↦ refl ]

-- the hexadecimal of bytes is read as them
pub bytes-again : (bytes : List ℕ) → AllByRecursion (λ byte. byte < 2 ^ 8) bytes → bytes_of (hex bytes) ≡ Some bytes
bytes-again [] h = refl
bytes-again (byte ∷ bytes) h =
    rw (no-dash (hex_letter (byte / 16)) (hex_letter (byte % 16)) (flat_map hex_pair bytes))
    (letters-again (byte ∷ bytes) h)

letters-lack : (bytes : List ℕ) → AllByRecursion (λ byte. byte < 2 ^ 8) bytes →
    lacks_space (flat_map hex_pair bytes) ≡ true
letters-lack [] h = refl
letters-lack (byte ∷ bytes) h =
    let byte_fits : byte < 2 ^ 8 = h.0 in
    let high = (letter-again (byte / 16) (omega arith)).1 in
    let low = (letter-again (byte % 16) (omega arith)).1 in
    rw (
      ne_eqb (hex_letter (byte / 16)) 32 (λ e. omega arith),
      ne_eqb (hex_letter (byte % 16)) 32 (λ e. omega arith),
      letters-lack bytes h.1,
    ) refl

pub hex-lacks : (bytes : List ℕ) → AllByRecursion (λ byte. byte < 2 ^ 8) bytes → lacks_space (hex bytes) ≡ true
hex-lacks [] h = refl
hex-lacks (byte ∷ bytes) h = letters-lack (byte ∷ bytes) h

-- ---- commands

abbrev pub maybe : {A B : Type 0} → Option A → (A → Option B) → Option B
maybe o f = option_and_then f o

one-parts : {A : Type 0} (a : Option A) (f : A → Command) (command : Command) →
    maybe a (λ x. Some (f x)) ≡ Some command → (x : A) × (a ≡ Some x) × (f x ≡ command)
one-parts None f command e = absurd cc
one-parts (Some x) f command e = (x, refl, same_Some (f x) command e)

two-parts : (a b : Option ℕ) (f : ℕ → ℕ → Command) (command : Command) →
    maybe a (λ x. maybe b (λ y. Some (f x y))) ≡ Some command →
    (x : ℕ) × (y : ℕ) × (a ≡ Some x) × (b ≡ Some y) × (f x y ≡ command)
two-parts None b f command e = absurd cc
two-parts (Some x) None f command e = absurd cc
two-parts (Some x) (Some y) f command e = (x, y, refl, refl, same_Some (f x y) command e)

write-parts : (a b : Option ℕ) (c : Option (List ℕ)) (command : Command) →
    maybe a (λ x. maybe b (λ y. maybe c (λ z. Some (Write x y z)))) ≡ Some command →
    (x : ℕ) × (y : ℕ) × (z : List ℕ) × (a ≡ Some x) × (b ≡ Some y) × (c ≡ Some z) × (Write x y z ≡ command)
write-parts None b c command e = absurd cc
write-parts (Some x) None c command e = absurd cc
write-parts (Some x) (Some y) None command e = absurd cc
write-parts (Some x) (Some y) (Some z) command e = (x, y, z, refl, refl, refl, same_Some (Write x y z) command e)

read-parts : (a b c d : Option ℕ) (command : Command) →
    maybe a (λ x. maybe b (λ y. maybe c (λ z. maybe d (λ w. Some (Read x y z w))))) ≡ Some command →
    (x : ℕ) × (y : ℕ) × (z : ℕ) × (w : ℕ) × (a ≡ Some x) × (b ≡ Some y) × (c ≡ Some z) × (d ≡ Some w) ×
    (Read x y z w ≡ command)
read-parts None b c d command e = absurd cc
read-parts (Some x) None c d command e = absurd cc
read-parts (Some x) (Some y) None d command e = absurd cc
read-parts (Some x) (Some y) (Some z) None command e = absurd cc
read-parts (Some x) (Some y) (Some z) (Some w) command e =
    (x, y, z, w, refl, refl, refl, refl, same_Some (Read x y z w) command e)

-- the words after a name spell the rest of the command's line
one-spelled : (name word : List ℕ) (f : ℕ → Command) (command : Command) →
    ((x : ℕ) → command_line (f x) ≡ spaced_words (name ∷ decimal x ∷ [])) →
    maybe (number_of word) (λ x. Some (f x)) ≡ Some command → spaced_words (name ∷ word ∷ []) ≡ command_line command
one-spelled name word f command line-is e =
    let p = one-parts (number_of word) f command e in
    subst (λ (c : Command). spaced_words (name ∷ word ∷ []) ≡ command_line c) p.2
    (ap (λ (w : List ℕ). spaced_words (name ∷ w ∷ [])) (number-spelled word p.0 p.1) ∙ sym (line-is p.0))

two-spelled : (name word next : List ℕ) (f : ℕ → ℕ → Command) (command : Command) →
    ((x y : ℕ) → command_line (f x y) ≡ spaced_words (name ∷ decimal x ∷ decimal y ∷ [])) →
    maybe (number_of word) (λ x. maybe (number_of next) (λ y. Some (f x y))) ≡ Some command →
    spaced_words (name ∷ word ∷ next ∷ []) ≡ command_line command
two-spelled name word next f command line-is e =
    let p = two-parts (number_of word) (number_of next) f command e in
    subst (λ (c : Command). spaced_words (name ∷ word ∷ next ∷ []) ≡ command_line c) p.4
    (ap (λ (w : List ℕ). spaced_words (name ∷ w ∷ next ∷ [])) (number-spelled word p.0 p.2)
    ∙ ap (λ (w : List ℕ). spaced_words (name ∷ decimal p.0 ∷ w ∷ [])) (number-spelled next p.1 p.3)
    ∙ sym (line-is p.0 p.1))

loan-spelled : (others : List (List ℕ)) (command : Command) → loan_of others ≡ Some command →
    spaced_words (codes "loan" ∷ others) ≡ command_line command
loan-spelled [] command e = absurd cc
loan-spelled (a ∷ []) command e = absurd cc
loan-spelled (a ∷ b ∷ []) command e = two-spelled (codes "loan") a b Loan command (λ x y. refl) e
loan-spelled (a ∷ b ∷ c ∷ others) command e = absurd cc

send-spelled : (others : List (List ℕ)) (command : Command) → send_of others ≡ Some command →
    spaced_words (codes "send" ∷ others) ≡ command_line command
send-spelled [] command e = absurd cc
send-spelled (a ∷ []) command e = absurd cc
send-spelled (a ∷ b ∷ []) command e = two-spelled (codes "send") a b Send command (λ x y. refl) e
send-spelled (a ∷ b ∷ c ∷ others) command e = absurd cc

release-spelled : (others : List (List ℕ)) (command : Command) → release_of others ≡ Some command →
    spaced_words (codes "release" ∷ others) ≡ command_line command
release-spelled [] command e = absurd cc
release-spelled (a ∷ []) command e = absurd cc
release-spelled (a ∷ b ∷ []) command e = two-spelled (codes "release") a b Release command (λ x y. refl) e
release-spelled (a ∷ b ∷ c ∷ others) command e = absurd cc

receive-spelled : (others : List (List ℕ)) (command : Command) → receive_of others ≡ Some command →
    spaced_words (codes "receive" ∷ others) ≡ command_line command
receive-spelled [] command e = absurd cc
receive-spelled (a ∷ []) command e = one-spelled (codes "receive") a Receive command (λ x. refl) e
receive-spelled (a ∷ b ∷ others) command e = absurd cc

reclaim-spelled : (others : List (List ℕ)) (command : Command) → reclaim_of others ≡ Some command →
    spaced_words (codes "reclaim" ∷ others) ≡ command_line command
reclaim-spelled [] command e = absurd cc
reclaim-spelled (a ∷ []) command e = one-spelled (codes "reclaim") a Reclaim command (λ x. refl) e
reclaim-spelled (a ∷ b ∷ others) command e = absurd cc

discard-spelled : (others : List (List ℕ)) (command : Command) → discard_of others ≡ Some command →
    spaced_words (codes "discard" ∷ others) ≡ command_line command
discard-spelled [] command e = absurd cc
discard-spelled (a ∷ []) command e = one-spelled (codes "discard") a Discard command (λ x. refl) e
discard-spelled (a ∷ b ∷ others) command e = absurd cc

count-spelled : (others : List (List ℕ)) (command : Command) → count_of others ≡ Some command →
    spaced_words (codes "count" ∷ others) ≡ command_line command
count-spelled [] command e = ap command_line (same_Some Count command e)
count-spelled (a ∷ others) command e = absurd cc

write-spelled : (others : List (List ℕ)) (command : Command) → write_of others ≡ Some command →
    spaced_words (codes "write" ∷ others) ≡ command_line command
write-spelled [] command e = absurd cc
write-spelled (a ∷ []) command e = absurd cc
write-spelled (a ∷ b ∷ []) command e = absurd cc
write-spelled (a ∷ b ∷ c ∷ []) command e =
    let p = write-parts (number_of a) (number_of b) (bytes_of c) command e in
    subst (λ (found : Command). spaced_words (codes "write" ∷ a ∷ b ∷ c ∷ []) ≡ command_line found) p.6
    (ap (λ (w : List ℕ). spaced_words (codes "write" ∷ w ∷ b ∷ c ∷ [])) (number-spelled a p.0 p.3)
    ∙ ap (λ (w : List ℕ). spaced_words (codes "write" ∷ decimal p.0 ∷ w ∷ c ∷ [])) (number-spelled b p.1 p.4)
    ∙ ap (λ (w : List ℕ). spaced_words (codes "write" ∷ decimal p.0 ∷ decimal p.1 ∷ w ∷ [])) (bytes-spelled c p.2 p.5))
write-spelled (a ∷ b ∷ c ∷ d ∷ others) command e = absurd cc

read-spelled : (others : List (List ℕ)) (command : Command) → read_of others ≡ Some command →
    spaced_words (codes "read" ∷ others) ≡ command_line command
read-spelled [] command e = absurd cc
read-spelled (a ∷ []) command e = absurd cc
read-spelled (a ∷ b ∷ []) command e = absurd cc
read-spelled (a ∷ b ∷ c ∷ []) command e = absurd cc
read-spelled (a ∷ b ∷ c ∷ d ∷ []) command e =
    let p = read-parts (number_of a) (number_of b) (number_of c) (number_of d) command e in
    subst (λ (found : Command). spaced_words (codes "read" ∷ a ∷ b ∷ c ∷ d ∷ []) ≡ command_line found) p.8
    (ap (λ (w : List ℕ). spaced_words (codes "read" ∷ w ∷ b ∷ c ∷ d ∷ [])) (number-spelled a p.0 p.4)
    ∙ ap (λ (w : List ℕ). spaced_words (codes "read" ∷ decimal p.0 ∷ w ∷ c ∷ d ∷ [])) (number-spelled b p.1 p.5)
    ∙ ap (λ (w : List ℕ). spaced_words (codes "read" ∷ decimal p.0 ∷ decimal p.1 ∷ w ∷ d ∷ []))
    (number-spelled c p.2 p.6)
    ∙ ap (λ (w : List ℕ). spaced_words (codes "read" ∷ decimal p.0 ∷ decimal p.1 ∷ decimal p.2 ∷ w ∷ []))
    (number-spelled d p.3 p.7))
read-spelled (a ∷ b ∷ c ∷ d ∷ other ∷ others) command e = absurd cc

-- the first test that holds
pub chosen : {A : Type 0} (b : Bool) (x y z : A) → cond b x y ≡ z → ((b ≡ true) × (x ≡ z)) ⊎ (y ≡ z)
chosen true x y z e = inl (refl, e)
chosen false x y z e = inr e

-- a name that is this text, and words that spell the rest
named : (name text : List ℕ) (others : List (List ℕ)) (command : Command) → bytes_eq name text ≡ true →
    spaced_words (text ∷ others) ≡ command_line command → spaced_words (name ∷ others) ≡ command_line command
named name text others command e h = ap (λ (w : List ℕ). spaced_words (w ∷ others)) (bytes_eq-true name text e) ∙ h

-- one choice of the table of names
choice : (name text : List ℕ) (others : List (List ℕ)) (here later : Option Command) (command : Command) →
    (here ≡ Some command → spaced_words (text ∷ others) ≡ command_line command) →
    (later ≡ Some command → spaced_words (name ∷ others) ≡ command_line command) →
    cond (bytes_eq name text) here later ≡ Some command → spaced_words (name ∷ others) ≡ command_line command
choice name text others here later command spelled otherwise e =
    elim (chosen (bytes_eq name text) here later (Some command) e) [
      | inl p ↦ named name text others command p.0 (spelled p.1)
      | inr q ↦ otherwise q
    ]

name-spelled : (name : List ℕ) (others : List (List ℕ)) (command : Command) → command_named name others ≡ Some command →
    spaced_words (name ∷ others) ≡ command_line command
name-spelled name others command =
    choice name (codes "loan") others _ _ command (loan-spelled others command)
    (choice name (codes "write") others _ _ command (write-spelled others command)
    (choice name (codes "send") others _ _ command (send-spelled others command)
    (choice name (codes "receive") others _ _ command (receive-spelled others command)
    (choice name (codes "read") others _ _ command (read-spelled others command)
    (choice name (codes "release") others _ _ command (release-spelled others command)
    (choice name (codes "reclaim") others _ _ command (reclaim-spelled others command)
    (choice name (codes "discard") others _ _ command (discard-spelled others command)
    (choice name (codes "count") others _ _ command (count-spelled others command)
    (λ e. absurd (none-some command e))))))))))

found-spelled : (found : List (List ℕ)) (command : Command) → command_of_words found ≡ Some command →
    spaced_words found ≡ command_line command
found-spelled [] command e = absurd cc
found-spelled (name ∷ others) command e = name-spelled name others command e

pub command-spelled : (line : List ℕ) (command : Command) → command_of line ≡ Some command → line ≡ command_line command
command-spelled line command e = sym (spaced-words line) ∙ found-spelled (words line) command e

-- the words of a command's line are those that were put together
line-again : (name : List ℕ) (others : List (List ℕ)) (line : List ℕ) (command : Command) →
    line ≡ spaced_words (name ∷ others) → lacks_space name ≡ true → AllByRecursion (λ w. lacks_space w ≡ true) others →
    command_named name others ≡ Some command → command_of line ≡ Some command
line-again name others line command is lacks each e =
    ap command_of is ∙ ap command_of_words (words-spaced name others lacks each) ∙ e

pub command-again : (command : Command) → HasSpelling command → command_of (command_line command) ≡ Some command
command-again (Loan x y) h =
    line-again (codes "loan") (decimal x ∷ decimal y ∷ []) _ (Loan x y) refl refl
    (decimal-lacks x h.0, (decimal-lacks y h.1, tt))
    (rw (number-again x h.0, number-again y h.1) refl)
command-again (Write x y z) h =
    line-again (codes "write") (decimal x ∷ decimal y ∷ hex z ∷ []) _ (Write x y z) refl refl
    (decimal-lacks x h.0, (decimal-lacks y h.1, (hex-lacks z h.2, tt)))
    (rw (number-again x h.0, number-again y h.1, bytes-again z h.2) refl)
command-again (Send x y) h =
    line-again (codes "send") (decimal x ∷ decimal y ∷ []) _ (Send x y) refl refl
    (decimal-lacks x h.0, (decimal-lacks y h.1, tt))
    (rw (number-again x h.0, number-again y h.1) refl)
command-again (Receive x) h =
    line-again (codes "receive") (decimal x ∷ []) _ (Receive x) refl refl (decimal-lacks x h, tt)
    (rw (number-again x h) refl)
command-again (Read x y z w) h =
    line-again (codes "read") (decimal x ∷ decimal y ∷ decimal z ∷ decimal w ∷ []) _ (Read x y z w) refl refl
    (decimal-lacks x h.0, (decimal-lacks y h.1, (decimal-lacks z h.2, (decimal-lacks w h.3, tt))))
    (rw (number-again x h.0, number-again y h.1, number-again z h.2, number-again w h.3) refl)
command-again (Release x y) h =
    line-again (codes "release") (decimal x ∷ decimal y ∷ []) _ (Release x y) refl refl
    (decimal-lacks x h.0, (decimal-lacks y h.1, tt))
    (rw (number-again x h.0, number-again y h.1) refl)
command-again (Reclaim x) h =
    line-again (codes "reclaim") (decimal x ∷ []) _ (Reclaim x) refl refl (decimal-lacks x h, tt)
    (rw (number-again x h) refl)
command-again (Discard x) h =
    line-again (codes "discard") (decimal x ∷ []) _ (Discard x) refl refl (decimal-lacks x h, tt)
    (rw (number-again x h) refl)
command-again Count h = refl
