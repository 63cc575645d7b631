-- That the names of segments and what is extracted from them belong together.
use Rattle.std.specs.Prelude.{◌≡◌, ℕ, ◌+◌, ◌-◌, ◌*◌, ◌/◌, ◌%◌, ◌<◌, ◌≤◌, ◌↔◌, Bool, true, false, ◌&&◌, ◌==◌, nat_lt, List, [], ◌∷◌, ◌++◌, length, Option, Some, None, codes, ⊤, if◌then◌else◌}
use Rattle.std.specs.Char.{is_ascii_digit}
use Rattle.std.specs.Fmt.{decimal}
use Rattle.std.specs.List.{AllPass, list_all}
use Rattle.std.specs.Option.{option_and_then, option_map, option_or}
use Rattle.std.proofs.Common.{arith, refl, sym, ap, ◌∙◌, subst, inl, inr, length-append}
use Rattle.std.proofs.lemmas.Bool.{cases_lt}
use Rattle.std.proofs.lemmas.Bool.Decides.{nat_tests}
use Rattle.std.proofs.lemmas.Fmt.{decimal_digit, decimal_step}
use Rattle.std.proofs.lemmas.List.Sums.{AllPass-from_list_all}
use Rattle.std.proofs.lemmas.Option.{none-some}
use Rattle.cal_names.specs.ConceptSettings.{ConceptSettings}
use Rattle.cal_names.specs.Extraction.{extracted_name-exact}
use Rattle.cal_names.specs.FileName.{IsFileName, is_file_name_byte, as_file_name, as_file_name_yes, as_file_name-joined}
use Rattle.cal_resizable.specs.SegmentNames.{number_end, segment_name, managed_name, with_front, cut_at_start, cut_at_last, number_of_three, number_of, segment_of_cut, segment_of_name}

-- ---- the management segment

-- what stands around the name of a memory in the name of its management segment
abbrev management_parts : ConceptSettings
management_parts = record { prefix = []; type_name = None; suffix = codes "__mgmt"; path_hint = [] }

-- a name is that of a management segment exactly where `__mgmt` stands behind a file name
pub managed_name-exact : (name base : List ℕ) →
    (managed_name name ≡ Some base) ↔ (IsFileName base × (name ≡ base ++ codes "__mgmt"))
managed_name-exact name base = extracted_name-exact management_parts name base

-- ---- decimal digits

-- three digits of a number
abbrev three_digits : ℕ → List ℕ
three_digits n = (48 + n / 100) ∷ (48 + n / 10 % 10) ∷ (48 + n % 10) ∷ []

pub decimal-small : (n : ℕ) → n < 10 → decimal n ≡ (48 + n) ∷ []
decimal-small n small = decimal_digit n small

pub decimal-two : (n : ℕ) → 10 ≤ n → n < 100 → decimal n ≡ (48 + n / 10) ∷ (48 + n % 10) ∷ []
decimal-two n some small =
    decimal_step n some (omega arith) ∙ ap (λ ds. ds ++ (48 + n % 10) ∷ []) (decimal_digit (n / 10) (omega arith))

pub decimal-three : (n : ℕ) → 100 ≤ n → n < 1000 → decimal n ≡ three_digits n
decimal-three n some small =
    decimal_step n (omega arith) (omega arith)
    ∙ ap (λ ds. ds ++ (48 + n % 10) ∷ []) (decimal-two (n / 10) (omega arith) (omega arith))
    ∙ ap (λ first. (48 + first) ∷ (48 + n / 10 % 10) ∷ (48 + n % 10) ∷ []) (hundreds n)
  where
    hundreds : (m : ℕ) → m / 10 / 10 ≡ m / 100
    hundreds m = omega arith

-- a fact of the digits of a segment's number, from its three cases
pub by_digits : (P : ℕ → List ℕ → Type 0) → ((n : ℕ) → n < 10 → P n ((48 + n) ∷ [])) →
    ((n : ℕ) → 10 ≤ n → n < 100 → P n ((48 + n / 10) ∷ (48 + n % 10) ∷ [])) →
    ((n : ℕ) → 100 ≤ n → n < 256 → P n (three_digits n)) → (n : ℕ) → n < 256 → P n (decimal n)
by_digits P one two three n small = elim (cases_lt n 10) [
  | inl low ↦ subst (P n) (sym (decimal-small n low)) (one n low)
  | inr ten ↦ elim (cases_lt n 100) [
    | inl low ↦ subst (P n) (sym (decimal-two n ten low)) (two n ten low)
    | inr hundred ↦ subst (P n) (sym (decimal-three n hundred (omega arith))) (three n hundred small)
  ]
]

digit-test : (x : ℕ) → x < 10 → is_ascii_digit (48 + x) ≡ true
digit-test x small = grind (arith, nat_tests)

below-test : (n : ℕ) → n < 256 → nat_lt n 256 ≡ true
below-test n small = grind (arith, nat_tests)

three-number : (x y z n : ℕ) → x < 10 → y < 10 → z < 10 → x * 100 + y * 10 + z ≡ n → n < 256 →
    number_of_three (48 + x) (48 + y) (48 + z) ≡ Some n
three-number x y z n hx hy hz same small =
    let number : (48 + x - 48) * 100 + (48 + y - 48) * 10 + (48 + z - 48) ≡ n = omega arith in
    ap (λ m. if is_ascii_digit (48 + x) && (is_ascii_digit (48 + y) && (is_ascii_digit (48 + z) && nat_lt m 256))
    then Some m else None) number
    ∙ ap (λ t. if t && (is_ascii_digit (48 + y) && (is_ascii_digit (48 + z) && nat_lt n 256)) then Some n else None)
    (digit-test x hx)
    ∙ ap (λ t. if t && (is_ascii_digit (48 + z) && nat_lt n 256) then Some n else None) (digit-test y hy)
    ∙ ap (λ t. if t && nat_lt n 256 then Some n else None) (digit-test z hz)
    ∙ ap (λ t. if t then Some n else None) (below-test n small)

-- the number of the digits of a segment's number is this number
pub number_of-decimal : (n : ℕ) → n < 256 → number_of (decimal n) ≡ Some n
number_of-decimal = by_digits (λ n ds. number_of ds ≡ Some n)
    (λ n low. three-number 0 0 n n (omega arith) (omega arith) low (omega arith) (omega arith))
    (λ n ten low.
    three-number 0 (n / 10) (n % 10) n (omega arith) (omega arith) (omega arith) (omega arith) (omega arith))
    (λ n hundred low.
    three-number (n / 100) (n / 10 % 10) (n % 10) n (omega arith) (omega arith) (omega arith) (omega arith) low)

-- ---- cutting at the last `__`

-- no `_` is among these bytes
abbrev Lacks : List ℕ → Type 0
Lacks [] = ⊤
Lacks (byte ∷ bytes) = (byte == 95 ≡ false) × Lacks bytes

and_false : (test : Bool) → (test && false) ≡ false
and_false true = refl
and_false false = refl

cut_at_start-apart : (a b : ℕ) (rest : List ℕ) → b == 95 ≡ false → cut_at_start (a ∷ b ∷ rest) ≡ None
cut_at_start-apart a b rest apart =
    ap (λ t. if a == 95 && t then Some (record { before = []; behind = rest }) else None) apart
    ∙ ap (λ t. if t then Some (record { before = []; behind = rest }) else None) (and_false (a == 95))

-- bytes before which at most one `_` stands, and that have none, aren't cut
uncut : (byte : ℕ) (bytes : List ℕ) → Lacks bytes → cut_at_last (byte ∷ bytes) ≡ None
uncut byte [] lacks = refl
uncut byte (c ∷ cs) lacks =
    ap (λ o. option_or (option_map (with_front byte) o)
    (cut_at_start (byte ∷ c ∷ cs))) (uncut c cs lacks.1)
    ∙ cut_at_start-apart byte c cs lacks.0

-- a text is cut at a `__` behind which nothing is
pub cut_at_last-joined : (base bytes : List ℕ) → Lacks bytes →
    cut_at_last (base ++ 95 ∷ 95 ∷ bytes) ≡ Some (record { before = base; behind = bytes })
cut_at_last-joined [] bytes lacks =
    ap (λ o. option_or (option_map (with_front 95) o)
    (cut_at_start (95 ∷ 95 ∷ bytes))) (uncut 95 bytes lacks)
cut_at_last-joined (byte ∷ base) bytes lacks =
    ap (λ o. option_or (option_map (with_front byte) o)
    (cut_at_start (byte ∷ base ++ 95 ∷ 95 ∷ bytes))) (cut_at_last-joined base bytes lacks)

digit-Lacks : (x : ℕ) → x < 10 → 48 + x == 95 ≡ false
digit-Lacks x small = grind (arith, nat_tests)

decimal-Lacks : (n : ℕ) → n < 256 → Lacks (decimal n)
decimal-Lacks = by_digits (λ _ ds. Lacks ds)
    (λ n low. (digit-Lacks n low, tt))
    (λ n ten low. (digit-Lacks (n / 10) (omega arith), (digit-Lacks (n % 10) (omega arith), tt)))
    (λ n hundred low. (
      digit-Lacks (n / 100) (omega arith),
      (digit-Lacks (n / 10 % 10) (omega arith), (digit-Lacks (n % 10) (omega arith), tt)),
    ))

-- ---- laws

-- the name and the number of a segment are extracted again
pub segment_of_name-again : (base : List ℕ) (n : ℕ) → IsFileName base → n < 256 →
    segment_of_name (base ++ number_end n) ≡ Some (base, n)
segment_of_name-again base n rule small =
    ap (option_and_then segment_of_cut) (cut_at_last-joined base (decimal n) (decimal-Lacks n small))
    ∙ ap (option_and_then (λ b. option_map (λ number. (b, number)) (number_of (decimal n))))
    (as_file_name_yes base rule)
    ∙ ap (option_map (λ number. (base, number))) (number_of-decimal n small)

abbrev with_base : List ℕ → Option (List ℕ × ℕ)
with_base b = option_map (λ number. (b, number)) (number_of (codes "mgmt"))

-- a name that ends in `__mgmt` is no segment's
pub segment_of_name-management : (base : List ℕ) → segment_of_name (base ++ codes "__mgmt") ≡ None
segment_of_name-management base =
    ap (option_and_then segment_of_cut) (cut_at_last-joined base (codes "mgmt") (refl, (refl, (refl, (refl, tt)))))
    ∙ none (as_file_name base)
  where
    none : (o : Option (List ℕ)) → option_and_then with_base o ≡ None
    none None = refl
    none (Some b) = refl

-- no name is that of a management segment and that of another segment
pub names-apart : (name base : List ℕ) → managed_name name ≡ Some base → segment_of_name name ≡ None
names-apart name base managed =
    ap segment_of_name ((managed_name-exact name base).0 managed).1 ∙ segment_of_name-management base

pub segment-no_management : (name base : List ℕ) (n : ℕ) → segment_of_name name ≡ Some (base, n) →
    managed_name name ≡ None
segment-no_management name base n segment = from (managed_name name) refl
  where
    from : (o : Option (List ℕ)) → managed_name name ≡ o → o ≡ None
    from None none = refl
    from (Some other) managed = absurd (none-some (base, n) (sym (names-apart name other managed) ∙ segment))

-- the number of a segment's name tells it from the others
pub number_end-injective : (base : List ℕ) (m n : ℕ) → IsFileName base → m < 256 → n < 256 →
    base ++ number_end m ≡ base ++ number_end n → m ≡ n
number_end-injective base m n rule small_m small_n same =
    let told : Some (base, m) ≡ Some (base, n) =
    sym (segment_of_name-again base m rule small_m) ∙ ap segment_of_name same
    ∙ segment_of_name-again base n rule small_n in
    ap (λ (told_of : Option (List ℕ × ℕ)). number_or_none told_of) told
  where
    number_or_none : Option (List ℕ × ℕ) → ℕ
    number_or_none None = 0
    number_or_none (Some found) = found.1

-- ---- where the management segment's name is a file name, each segment's is

digit-byte : (x : ℕ) → x < 10 → is_file_name_byte (48 + x) ≡ true
digit-byte x small = grind (arith, nat_tests)

-- the bytes behind a memory's name are bytes of file names
number_end-bytes : (n : ℕ) → n < 256 → AllPass is_file_name_byte (number_end n)
number_end-bytes = by_digits (λ _ ds. AllPass is_file_name_byte (codes "__" ++ ds))
    (λ n low. passes (codes "__" ++ (48 + n) ∷ []) (last n low))
    (λ n ten low. passes (codes "__" ++ (48 + n / 10) ∷ (48 + n % 10) ∷ [])
    (ap (λ t. t && list_all is_file_name_byte ((48 + n % 10) ∷ [])) (digit-byte (n / 10) (omega arith))
    ∙ last (n % 10) (omega arith)))
    (λ n hundred low. passes (codes "__" ++ three_digits n)
    (ap (λ t. t && list_all is_file_name_byte ((48 + n / 10 % 10) ∷ (48 + n % 10) ∷ []))
    (digit-byte (n / 100) (omega arith))
    ∙ ap (λ t. t && list_all is_file_name_byte ((48 + n % 10) ∷ [])) (digit-byte (n / 10 % 10) (omega arith))
    ∙ last (n % 10) (omega arith)))
  where
    passes : (bytes : List ℕ) → list_all is_file_name_byte bytes ≡ true → AllPass is_file_name_byte bytes
    passes bytes test = AllPass-from_list_all is_file_name_byte bytes test

    last : (x : ℕ) → x < 10 → list_all is_file_name_byte ((48 + x) ∷ []) ≡ true
    last x small = ap (λ t. t && true) (digit-byte x small)

pub number_end-length : (n : ℕ) → n < 256 → length (number_end n) ≤ 5
number_end-length = by_digits (λ _ ds. length (codes "__" ++ ds) ≤ 5)
    (λ n low. omega arith) (λ n ten low. omega arith) (λ n hundred low. omega arith)

pub segment_name_fits : (name : List ℕ) (n : ℕ) → IsFileName name → IsFileName (name ++ codes "__mgmt") → n < 256 →
    segment_name name n ≡ Some (name ++ number_end n)
segment_name_fits name n rule managed small =
    as_file_name-joined name (number_end n) rule (number_end-bytes n small)
    (omega (arith, number_end-length n small, managed.fits, length-append name (codes "__mgmt")))
