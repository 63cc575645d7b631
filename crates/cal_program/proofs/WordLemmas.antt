-- Numbers, bytes and words, as the parser finds them.
use Rattle.std.proofs.Common.{◌≡◌, ℕ, zero, suc, ◌+◌, ◌-◌, ◌*◌, ◌^◌, ◌<◌, ◌≤◌, Bool, true, false, cond, ◌&&◌, List, [], ◌∷◌, ◌++◌, length, get_or, take, drop, Option, Some, None, refl, sym, ap, ◌∙◌, subst, append_assoc, add-one, arith}
use Rattle.std.specs.Prelude.{option_map, option_and_then, nat_lt, nat_le}
use Rattle.std.specs.Char.{digit_value, is_ascii_digit}
use Rattle.std.specs.Str.{all_ascii_digits}
use Rattle.std.specs.Str.Parse.{digits_value}
use Rattle.std.proofs.lemmas.Bool.{le-ltb, lt-ltb, leb-true, and_parts}
use Rattle.std.proofs.Math.Seq.{take-suc, drop-cons, take-length}
use Rattle.std.proofs.Math.ListN.{drop_of_length-le}
use Rattle.std.proofs.lemmas.Str.{digit_value_digit}
use Rattle.std.proofs.lemmas.Int.Digits.{digits_value_more}
use Rattle.std.proofs.lemmas.Str.Parse.{digits_value-take-le}
use Rattle.cal_program.specs.Words.{begins_well, number_of, byte_of, bytes_of_letters}

-- ---- numbers

guard-second : (a b c : Bool) (n : ℕ) → b ≡ false → cond (a && b && c) (Some n) None ≡ None
guard-second false b c n e = refl
guard-second true true c n e = absurd cc
guard-second true false c n e = refl

guard-third : (a b c : Bool) (n : ℕ) → c ≡ false → cond (a && b && c) (Some n) None ≡ None
guard-third false b c n e = refl
guard-third true false c n e = refl
guard-third true true true n e = absurd cc
guard-third true true false n e = refl

guard-first : (a b c : Bool) (n : ℕ) → a ≡ false → cond (a && b && c) (Some n) None ≡ None
guard-first true b c n e = absurd cc
guard-first false b c n e = refl

guard-all : (a b c : Bool) (n : ℕ) → a ≡ true → b ≡ true → c ≡ true → cond (a && b && c) (Some n) None ≡ Some n
guard-all true true true n e f g = refl
guard-all false b c n e f g = absurd cc
guard-all true false c n e f g = absurd cc
guard-all true true false n e f g = absurd cc

-- another byte than a digit
all_digits-without : (word : List ℕ) (i : ℕ) → i < length word → is_ascii_digit (get_or word i 0) ≡ false →
    all_ascii_digits word ≡ false
all_digits-without [] i h e = absurd (omega arith)
all_digits-without (c ∷ word) zero h e = rw e refl
all_digits-without (c ∷ word) (suc i) h e =
    let others = all_digits-without word i (omega arith) e in
    elim (is_ascii_digit c) as (λ b. (b && all_ascii_digits word) ≡ false) [ true ↦ others | false ↦ refl ]

pub number_of-other : (word : List ℕ) (i : ℕ) → i < length word → is_ascii_digit (get_or word i 0) ≡ false →
    None ≡ number_of word
number_of-other word i h e =
    sym (guard-second (begins_well word) (all_ascii_digits word) (nat_lt (digits_value 10 word) (2 ^ 64))
    (digits_value 10 word) (all_digits-without word i h e))

-- the digits up to here are too many
pub number_of-great : (word : List ℕ) (i : ℕ) → i < length word →
    2 ^ 64 ≤ digits_value 10 (take i word) * 10 + digit_value (get_or word i 0) → None ≡ number_of word
number_of-great word i h great =
    let most : 2 ^ 64 ≤ digits_value 10 word =
    omega (arith, digits_value_more 10 word i h, digits_value-take-le 10 word (i + 1) (omega arith)) in
    sym (guard-third (begins_well word) (all_ascii_digits word) (nat_lt (digits_value 10 word) (2 ^ 64))
    (digits_value 10 word) (le-ltb (digits_value 10 word) (2 ^ 64) most))

pub number_of-all : (word : List ℕ) (i value : ℕ) → begins_well word ≡ true → length word ≡ i →
    all_ascii_digits (take i word) ≡ true → value ≡ digits_value 10 (take i word) → value < 2 ^ 64 →
    Some value ≡ number_of word
number_of-all word i value begins past digits is fits =
    let whole : take i word ≡ word = rw (← past) (take-length word) in
    let all : all_ascii_digits word ≡ true = subst (λ (t : List ℕ). all_ascii_digits t ≡ true) whole digits in
    let same : value ≡ digits_value 10 word = is ∙ ap (λ (t : List ℕ). digits_value 10 t) whole in
    ap Some same ∙ sym (guard-all (begins_well word) (all_ascii_digits word) (nat_lt (digits_value 10 word) (2 ^ 64))
    (digits_value 10 word) begins all
    (lt-ltb (digits_value 10 word) (2 ^ 64) (omega (arith, same))))

pub number_of-ill : (word : List ℕ) → begins_well word ≡ false → None ≡ number_of word
number_of-ill word e = sym
    (guard-first (begins_well word) (all_ascii_digits word) (nat_lt (digits_value 10 word) (2 ^ 64))
    (digits_value 10 word) e)

all_digits-append : (xs ys : List ℕ) → all_ascii_digits xs ≡ true → all_ascii_digits ys ≡ true →
    all_ascii_digits (xs ++ ys) ≡ true
all_digits-append [] ys p q = q
all_digits-append (x ∷ xs) ys p q =
    let parts = and_parts (is_ascii_digit x) (all_ascii_digits xs) p in
    rw (parts.0, all_digits-append xs ys parts.1 q) refl

-- one digit more
pub all_digits-more : (word : List ℕ) (i : ℕ) → i < length word → is_ascii_digit (get_or word i 0) ≡ true →
    all_ascii_digits (take i word) ≡ true → all_ascii_digits (take (i + 1) word) ≡ true
all_digits-more word i h digit before =
    rw (add-one, take-suc word i 0 h)
    (all_digits-append (take i word) (get_or word i 0 ∷ []) before (rw digit refl))

pub digit_value-minus : (c : ℕ) → is_ascii_digit c ≡ true → digit_value c ≡ c - 48
digit_value-minus c e =
    let parts = and_parts (nat_le 48 c) (nat_le c 57) e in
    omega (arith, digit_value_digit c (leb-true 48 c parts.0, leb-true c 57 parts.1))

-- ---- bytes in hexadecimal

-- bytes before those that the letters stand for
abbrev pub with_front : List ℕ → Option (List ℕ) → Option (List ℕ)
with_front front found = option_map (λ bytes. front ++ bytes) found

letters-cut : (letters : List ℕ) (place : ℕ) → place + 1 < length letters →
    drop place letters ≡ get_or letters place 0 ∷ get_or letters (place + 1) 0 ∷ drop (place + 2) letters
letters-cut letters place h =
    drop-cons letters place 0 (omega arith)
    ∙ ap (λ (t : List ℕ). get_or letters place 0 ∷ t)
    (ap (λ (n : ℕ). drop n letters) {x = suc place} {y = place + 1} (omega arith)
    ∙ drop-cons letters (place + 1) 0 h
    ∙ ap (λ (n : ℕ). get_or letters (place + 1) 0 ∷ drop n letters) {x = suc (place + 1)} {y = place + 2} (omega arith))

front-step : (front : List ℕ) (byte : ℕ) (found : Option (List ℕ)) →
    with_front front (option_map (λ bytes. byte ∷ bytes) found) ≡ with_front (front ++ byte ∷ []) found
front-step front byte None = refl
front-step front byte (Some bytes) = ap Some (sym (append_assoc front (byte ∷ []) bytes))

pair-step : (high low byte : ℕ) (letters : List ℕ) → byte_of high low ≡ Some byte →
    bytes_of_letters (high ∷ low ∷ letters) ≡ option_map (λ bytes. byte ∷ bytes) (bytes_of_letters letters)
pair-step high low byte letters e =
    rw e (elim (bytes_of_letters letters) as (λ found. option_and_then (λ bytes. Some (byte ∷ bytes)) found ≡ option_map
    (λ bytes. byte ∷ bytes) found) [ None ↦ refl | Some bytes ↦ refl ])

pair-none : (high low : ℕ) (letters : List ℕ) → byte_of high low ≡ None → bytes_of_letters (high ∷ low ∷ letters) ≡ None
pair-none high low letters e = rw e refl

pub letters-more : (front letters : List ℕ) (place byte : ℕ) (whole : Option (List ℕ)) → place + 1 < length letters →
    byte_of (get_or letters place 0) (get_or letters (place + 1) 0) ≡ Some byte →
    with_front front (bytes_of_letters (drop place letters)) ≡ whole →
    with_front (front ++ byte ∷ []) (bytes_of_letters (drop (place + 2) letters)) ≡ whole
letters-more front letters place byte whole h e before =
    sym (front-step front byte (bytes_of_letters (drop (place + 2) letters)))
    ∙ ap (with_front front) (sym (ap bytes_of_letters (letters-cut letters place h)
    ∙ pair-step (get_or letters place 0) (get_or letters (place + 1) 0) byte (drop (place + 2) letters) e))
    ∙ before

pub letters-none : (front letters : List ℕ) (place : ℕ) (whole : Option (List ℕ)) → place + 1 < length letters →
    byte_of (get_or letters place 0) (get_or letters (place + 1) 0) ≡ None →
    with_front front (bytes_of_letters (drop place letters)) ≡ whole → None ≡ whole
letters-none front letters place whole h e before =
    sym (ap (with_front front) (ap bytes_of_letters (letters-cut letters place h)
    ∙ pair-none (get_or letters place 0) (get_or letters (place + 1) 0) (drop (place + 2) letters) e))
    ∙ before

pub letters-odd : (front letters : List ℕ) (place : ℕ) (whole : Option (List ℕ)) → place < length letters →
    length letters ≤ place + 1 → with_front front (bytes_of_letters (drop place letters)) ≡ whole → None ≡ whole
letters-odd front letters place whole h k before =
    let last : drop place letters ≡ get_or letters place 0 ∷ [] =
    drop-cons letters place 0 h ∙ ap
    (λ (t : List ℕ). get_or letters place 0 ∷ t) (drop_of_length-le letters {i = suc place} (omega arith))
    in
    sym (ap (with_front front) (ap bytes_of_letters last)) ∙ before
