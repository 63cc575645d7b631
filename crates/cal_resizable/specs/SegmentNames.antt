-- The names of the segments of a growing memory, and the memory's name and the segment's number of such a name.
use Rattle.std.specs.Prelude.{ℕ, ◌+◌, ◌-◌, ◌*◌, ◌&&◌, ◌==◌, nat_lt, List, [], ◌∷◌, ◌++◌, Option, Some, None, codes, if◌then◌else◌}
use Rattle.std.specs.Char.{is_ascii_digit}
use Rattle.std.specs.Fmt.{decimal}
use Rattle.std.specs.Option.{option_and_then, option_map, option_or}
use Rattle.cal_names.specs.ConceptSettings.{without_suffix}
use Rattle.cal_names.specs.FileName.{as_file_name}

-- the name of the management segment, where that is a file name: `__mgmt` stands behind the memory's name
abbrev pub management_segment_name : List ℕ → Option (List ℕ)
management_segment_name base = as_file_name (base ++ codes "__mgmt")

-- what stands behind the memory's name in the name of the segment of a number: `__` and the number in decimal
abbrev pub number_end : ℕ → List ℕ
number_end number = codes "__" ++ decimal number

-- the name of the segment of a number, where that is a file name
abbrev pub segment_name : List ℕ → ℕ → Option (List ℕ)
segment_name base number = as_file_name (base ++ number_end number)

-- the name of the memory whose management segment has this name
abbrev pub managed_name : List ℕ → Option (List ℕ)
managed_name name = option_and_then as_file_name (without_suffix (codes "__mgmt") name)

-- what stands before and behind the place where a text is cut
pub record Cut : Type 0 where
  pub before : List ℕ
  pub behind : List ℕ

-- a text that begins with `__`, cut there
abbrev pub cut_at_start : List ℕ → Option Cut
cut_at_start [] = None
cut_at_start (_ ∷ []) = None
cut_at_start (a ∷ b ∷ rest) = if a == 95 && b == 95 then Some (record { before = []; behind = rest }) else None

-- a cut of what stands behind a byte, as one with this byte
abbrev pub with_front : ℕ → Cut → Cut
with_front byte cut = record cut { before = byte ∷ cut.before }

-- a text cut at its last `__`
abbrev pub cut_at_last : List ℕ → Option Cut
cut_at_last [] = None
cut_at_last (byte ∷ rest) =
    option_or (option_map (with_front byte) (cut_at_last rest)) (cut_at_start (byte ∷ rest))

-- the number of three decimal digits, where it is one of a segment
abbrev pub number_of_three : ℕ → ℕ → ℕ → Option ℕ
number_of_three a b c =
    let number : ℕ = (a - 48) * 100 + (b - 48) * 10 + (c - 48) in
    if is_ascii_digit a && (is_ascii_digit b && (is_ascii_digit c && nat_lt number 256)) then Some number else None

-- the number of one to three decimal digits, where it is one of a segment; zeros may lead
abbrev pub number_of : List ℕ → Option ℕ
number_of [] = None
number_of (c ∷ []) = number_of_three 48 48 c
number_of (b ∷ c ∷ []) = number_of_three 48 b c
number_of (a ∷ b ∷ c ∷ []) = number_of_three a b c
number_of (_ ∷ _ ∷ _ ∷ _ ∷ _) = None

-- the memory's name and the segment's number of a name that was cut
abbrev pub segment_of_cut : Cut → Option (List ℕ × ℕ)
segment_of_cut cut =
    option_and_then (λ base. option_map (λ number. (base, number)) (number_of cut.behind)) (as_file_name cut.before)

-- the memory's name and the segment's number of the name of a segment, which is cut at its last `__`
abbrev pub segment_of_name : List ℕ → Option (List ℕ × ℕ)
segment_of_name name = option_and_then segment_of_cut (cut_at_last name)
