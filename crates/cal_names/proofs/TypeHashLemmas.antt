-- The letters of a type's hash.
use Rattle.std.proofs.Common.{◌≡◌, ℕ, zero, suc, ◌+◌, ◌-◌, ◌*◌, ◌/◌, ◌%◌, ◌^◌, ◌<◌, ◌≤◌, List, [], ◌∷◌, ◌++◌, length, take, drop, get_or, slice_index, map, true, arith, refl, sym, ap, ◌∙◌, length-append, length-drop, take-append-drop, ⊎_elim, subst}
use Rattle.std.specs.Int.Digits.{number_from_digits, number_from_digits_after}
use Rattle.std.proofs.lemmas.Bool.{cases_lt, cases_eq}
use Rattle.std.proofs.lemmas.Int.Digits.{number_after_append, number_more, number_push}
use Rattle.std.proofs.lemmas.List.{get_or_append_left, get_or_at, get_or-drop, get_or-map, ext_get_or}
use Rattle.std.proofs.lemmas.List.Elements.{All-from_get_or}
use Rattle.std.proofs.lemmas.List.Sums.{AllPass-from_list_all}
use Rattle.std.proofs.lemmas.Nat.{shr-shr}
use Rattle.std.specs.List.{AllPass}
use Rattle.sha1.specs.Sha1.{sha1}
use Rattle.cal_names.specs.FileName.{is_file_name_byte}
use Rattle.cal_names.specs.TypeHash.{sextets, length-sextets, type_hash_of, length-type_hash_of, hash_letters}

-- digit i, counted from the highest
pub get_or-sextets : (count number i : ℕ) → i < count →
    get_or (sextets count number) i 0 ≡ number / 2 ^ (6 * (count - 1 - i)) % 64
unfolding sextets
get_or-sextets zero number i within = absurd (omega arith)
get_or-sextets (suc count) number i within =
    ⊎_elim
    (λ (before : i < count).
    let left : i < length (sextets count (number / 64)) = omega (arith, length-sextets count (number / 64)) in
    let more : 6 + 6 * (count - 1 - i) ≡ 6 * (suc count - 1 - i) = omega arith in
    get_or_append_left (sextets count (number / 64)) (number % 64 ∷ []) 0 i left
    ∙ get_or-sextets count (number / 64) i before
    ∙ ap (λ n. n % 64) (shr-shr number 6 (6 * (count - 1 - i)))
    ∙ ap (λ e. number / 2 ^ e % 64) more)
    (λ (behind : count ≤ i).
    let last : length (sextets count (number / 64)) ≡ i = omega (arith, length-sextets count (number / 64)) in
    let none : 0 ≡ 6 * (suc count - 1 - i) = omega arith in
    let whole : number % 64 ≡ number / 2 ^ 0 % 64 = omega arith in
    get_or_at (sextets count (number / 64)) (number % 64) [] 0 i last ∙ whole ∙ ap (λ e. number / 2 ^ e % 64) none)
    (cases_lt i count)

-- the digits behind a number are gone when it is divided by their worth
number_after_shr : (ds : List ℕ) (n : ℕ) → ((k : ℕ) → get_or ds k 0 < 256) →
    number_from_digits_after 256 n ds / 2 ^ (8 * length ds) ≡ n
number_after_shr [] n bytes = omega arith
number_after_shr (d ∷ ds) n bytes =
    let all : ℕ = number_from_digits_after 256 (n * 256 + d) ds in
    let more : 8 * length (d ∷ ds) ≡ 8 * length ds + 8 = omega arith in
    let rest : all / 2 ^ (8 * length ds) ≡ n * 256 + d = number_after_shr ds (n * 256 + d) (λ k. bytes (suc k)) in
    let first : d < 256 = bytes 0 in
    let quotient : (n * 256 + d) / 2 ^ 8 ≡ n = omega arith in
    ap (λ e. all / 2 ^ e) more ∙ sym (shr-shr all (8 * length ds) 8) ∙ ap (λ x. x / 2 ^ 8) rest ∙ quotient

-- the first digits of a number
number_shr : (ds : List ℕ) (k : ℕ) → k ≤ length ds → ((i : ℕ) → get_or ds i 0 < 256) →
    number_from_digits 256 ds / 2 ^ (8 * (length ds - k)) ≡ number_from_digits 256 (take k ds)
number_shr ds k within bytes =
    let parts : number_from_digits 256 ds ≡ number_from_digits_after 256 (number_from_digits 256 (take k ds))
    (drop k ds) =
    ap (number_from_digits 256) (sym (take-append-drop k ds)) ∙ number_after_append 256 0 (take k ds) (drop k ds) in
    ap (λ n. number_from_digits 256 ds / 2 ^ (8 * n)) (sym (length-drop k ds))
    ∙ ap (λ n. n / 2 ^ (8 * length (drop k ds))) parts
    ∙ number_after_shr (drop k ds) (number_from_digits 256 (take k ds)) (λ i. rw get_or-drop (bytes (k + i)))

-- a zero at the end changes no read
get_or_before_zero : (xs : List ℕ) (i : ℕ) → get_or (xs ++ 0 ∷ []) i 0 ≡ get_or xs i 0
get_or_before_zero [] zero = refl
get_or_before_zero [] (suc i) = refl
get_or_before_zero (x ∷ xs) zero = refl
get_or_before_zero (x ∷ xs) (suc i) = get_or_before_zero xs i

-- what stands above sixteen bits is gone in six bits of these
low_bits : (high pair bit place : ℕ) → bit ≡ 6 * place % 8 →
    (high * 65536 + pair) / 2 ^ (10 - bit) % 64 ≡ pair / 2 ^ (10 - bit) % 64
low_bits high pair bit place is =
    let P : ℕ → Type 0 = λ b. (high * 65536 + pair) / 2 ^ (10 - b) % 64 ≡ pair / 2 ^ (10 - b) % 64 in
    ⊎_elim (λ (e : bit ≡ 0). subst P (sym e) (omega arith)) (λ not_0.
    ⊎_elim (λ (e : bit ≡ 2). subst P (sym e) (omega arith)) (λ not_2.
    ⊎_elim (λ (e : bit ≡ 4). subst P (sym e) (omega arith)) (λ not_4.
    let e : bit ≡ 6 = omega arith in subst P (sym e) (omega arith))
    (cases_eq bit 4)) (cases_eq bit 2)) (cases_eq bit 0)

-- six bits of two bytes
pub sextet_of_pair : (hash : List ℕ) (place : ℕ) → length hash ≡ 20 → ((i : ℕ) → get_or hash i 0 < 256) → place < 27 →
    (get_or hash (6 * place / 8) 0 * 256 + get_or hash (6 * place / 8 + 1) 0) / 2 ^ (10 - 6 * place % 8) % 64 ≡
    number_from_digits 256 hash * 4 / 2 ^ (6 * (26 - place)) % 64
sextet_of_pair hash place whole bytes within =
    let byte : ℕ = 6 * place / 8 in
    let bit : ℕ = 6 * place % 8 in
    let longer : List ℕ = hash ++ 0 ∷ [] in
    let n : ℕ = number_from_digits 256 longer in
    let pair : ℕ = get_or hash byte 0 * 256 + get_or hash (byte + 1) 0 in
    let high : ℕ = number_from_digits 256 (take byte longer) in
    let long : length longer ≡ 21 = omega (arith, length-append hash (0 ∷ [])) in
    let shifted : n / 2 ^ 6 ≡ number_from_digits 256 hash * 4 = omega (arith, number_push 256 hash 0) in
    let first = number_more 256 longer byte (omega arith) in
    let second = number_more 256 longer (byte + 1) (omega arith) in
    let front : number_from_digits 256 (take (byte + 1 + 1) longer) ≡ high * 65536 + pair =
    omega (arith, first, second, get_or_before_zero hash byte, get_or_before_zero hash (byte + 1)) in
    let steps : 6 + 6 * (26 - place) ≡ 8 * (length longer - (byte + 1 + 1)) + (10 - bit) = omega arith in
    sym (ap (λ x. x / 2 ^ (6 * (26 - place)) % 64) (sym shifted)
    ∙ ap (λ x. x % 64) (shr-shr n 6 (6 * (26 - place)))
    ∙ ap (λ e. n / 2 ^ e % 64) steps
    ∙ ap (λ x. x % 64) (sym (shr-shr n (8 * (length longer - (byte + 1 + 1))) (10 - bit)))
    ∙ ap (λ x. x / 2 ^ (10 - bit) % 64)
    (number_shr longer (byte + 1 + 1) (omega arith) (λ i. rw get_or_before_zero (bytes i)) ∙ front)
    ∙ low_bits high pair bit place refl)

-- 27 letters, each by its six bits
pub type_hash_from_letters : (name text : List ℕ) → length text ≡ 27 →
    ((k : ℕ) → k < 27 → get_or text k 0 ≡
    get_or hash_letters (number_from_digits 256 (sha1 name) * 4 / 2 ^ (6 * (26 - k)) % 64) 0) → text ≡ type_hash_of name
unfolding type_hash_of
type_hash_from_letters name text long letters =
    let number : ℕ = number_from_digits 256 (sha1 name) * 4 in
    ext_get_or 0 text (map (slice_index hash_letters) (sextets 27 number)) (long ∙ sym (length-type_hash_of name))
    (λ k inside.
    let below : k < 27 = omega arith in
    let within : k < length (sextets 27 number) = omega (arith, length-sextets 27 number) in
    letters k below ∙ sym (get_or-map (slice_index hash_letters) (sextets 27 number) k 0 0 within
    ∙ ap (slice_index hash_letters) (get_or-sextets 27 number k below)))

letter_byte : (sextet : ℕ) → sextet < 64 → is_file_name_byte (get_or hash_letters sextet 0) ≡ true
letter_byte sextet below =
    AllPass-from_list_all is_file_name_byte hash_letters refl sextet 0 below

-- each letter may stand in a file name
pub type_hash_bytes : (name : List ℕ) → AllPass is_file_name_byte (type_hash_of name)
unfolding type_hash_of
type_hash_bytes name =
    let number : ℕ = number_from_digits 256 (sha1 name) * 4 in
    All-from_get_or (λ b. is_file_name_byte b ≡ true) (type_hash_of name) 0 (λ k inside.
    let below : k < 27 = omega (arith, length-type_hash_of name) in
    let within : k < length (sextets 27 number) = omega (arith, length-sextets 27 number) in
    let letter : get_or (map (slice_index hash_letters) (sextets 27 number)) k 0 ≡ slice_index hash_letters
    (number / 2 ^ (6 * (26 - k)) % 64) =
    get_or-map (slice_index hash_letters) (sextets 27 number) k 0 0 within
    ∙ ap (slice_index hash_letters) (get_or-sextets 27 number k below) in
    ap is_file_name_byte letter ∙ letter_byte (number / 2 ^ (6 * (26 - k)) % 64) (omega arith))
