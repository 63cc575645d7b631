-- The rule of file names.
use Rattle.std.specs.Prelude.{◌≡◌, ◌≢◌, true, false, ℕ, ◌+◌, ◌<◌, ◌≤◌, Bool, not, ◌&&◌, ◌||◌, ◌==◌, nat_lt, nat_le, List, [], ◌∷◌, ◌++◌, length, Option, Some, None, codes, if◌then◌else◌}
use Rattle.std.specs.Bool.{Decides}
use Rattle.std.specs.List.{AllPass, list_all}
use Rattle.std.specs.Str.{bytes_eq}
use Rattle.std.proofs.lemmas.Bool.Decides.{Decides-and, Decides-not, Decides-ltb, Decides-like, nat_tests}
use Rattle.std.proofs.Common.{arith, refl, ap, length-append}
use Rattle.std.proofs.lemmas.List.Elements.{All-append}
use Rattle.std.proofs.lemmas.List.Sums.{AllPass-from_list_all, list_all-from_AllPass}
use Rattle.std.proofs.lemmas.Slice.Eq.{bytes_eq-Decides}
use Rattle.std.specs.Char.{is_ascii_alphanumeric}

-- an ASCII letter or digit, `_`, `-` or `.`
abbrev pub is_file_name_byte : ℕ → Bool
is_file_name_byte b = is_ascii_alphanumeric b || b == 95 || b == 45 || b == 46

-- 1 to 255 of these bytes, and neither `.` nor `..`
pub record IsFileName (name : List ℕ) : Type 0 where
  pub not_empty : 0 < length name
  pub fits : length name ≤ 255
  pub bytes : AllPass is_file_name_byte name
  pub not_dot : name ≢ codes "."
  pub not_two_dots : name ≢ codes ".."

-- the same rule as a test
abbrev pub is_file_name : List ℕ → Bool
is_file_name name =
    nat_lt 0 (length name) && (nat_le (length name) 255 && (list_all is_file_name_byte name
    && (not (bytes_eq name (codes ".")) && not (bytes_eq name (codes "..")))))

-- these bytes, where they are a file name
abbrev pub as_file_name : List ℕ → Option (List ℕ)
as_file_name bytes = if is_file_name bytes then Some bytes else None

Decides-le_255 : (n : ℕ) → Decides (nat_le n 255) (n ≤ 255)
Decides-le_255 n = (λ test. grind (arith, nat_tests), λ fits. grind (arith, nat_tests))

pub false_from_no : (test : Bool) (P : Type 0) → Decides test P → (P → ⊥) → test ≡ false
false_from_no true P decides refuted = absurd (refuted (decides.0 refl))
false_from_no false P decides refuted = refl

pub is_file_name-decides : (name : List ℕ) → Decides (is_file_name name) (IsFileName name)
is_file_name-decides name =
    Decides-like (is_file_name name)
    (λ rule. record {
      not_empty = rule.0;
      fits = rule.1.0;
      bytes = rule.1.1.0;
      not_dot = rule.1.1.1.0;
      not_two_dots =
          rule.1.1.1.1;
    })
    (λ rule. (rule.not_empty, (rule.fits, (rule.bytes, (rule.not_dot, rule.not_two_dots)))))
    (Decides-and _ _ (Decides-ltb 0 (length name))
    (Decides-and _ _ (Decides-le_255 (length name))
    (Decides-and _ _ (AllPass-from_list_all is_file_name_byte name, list_all-from_AllPass is_file_name_byte name)
    (Decides-and _ _ (Decides-not _ (bytes_eq-Decides name (codes ".")))
    (Decides-not _ (bytes_eq-Decides name (codes "..")))))))

pub as_file_name_yes : (bytes : List ℕ) → IsFileName bytes → as_file_name bytes ≡ Some bytes
as_file_name_yes bytes rule = ap (λ t. if t then Some bytes else None) ((is_file_name-decides bytes).1 rule)

pub as_file_name_no : (bytes : List ℕ) → (IsFileName bytes → ⊥) → as_file_name bytes ≡ None
as_file_name_no bytes refuted = ap
    (λ t. if t then Some bytes else None)
    (false_from_no (is_file_name bytes) (IsFileName bytes) (is_file_name-decides bytes) refuted)

-- more than 255 bytes are none
pub as_file_name_long : (bytes : List ℕ) → 255 < length bytes → as_file_name bytes ≡ None
as_file_name_long bytes long = as_file_name_no bytes (λ rule. omega (arith, rule.fits))

-- bytes after a file name make neither `.` nor `..` of it
joined-not_dot : (name more : List ℕ) → IsFileName name → name ++ more ≢ codes "."
joined-not_dot [] more rule same = absurd (omega (arith, rule.not_empty))
joined-not_dot (a ∷ []) more rule same = rule.not_dot (cc)
joined-not_dot (a ∷ b ∷ rest) more rule same = absurd (cc)

joined-not_two_dots : (name more : List ℕ) → IsFileName name → name ++ more ≢ codes ".."
joined-not_two_dots [] more rule same = absurd (omega (arith, rule.not_empty))
joined-not_two_dots (a ∷ []) more rule same = rule.not_dot (cc)
joined-not_two_dots (a ∷ b ∷ []) more rule same = rule.not_two_dots (cc)
joined-not_two_dots (a ∷ b ∷ c ∷ rest) more rule same = absurd (cc)

-- a file name with more bytes of file names after it is one, where it isn't too long
pub IsFileName-joined : (name more : List ℕ) → IsFileName name → AllPass is_file_name_byte more →
    length name + length more ≤ 255 → IsFileName (name ++ more)
IsFileName-joined name more rule bytes fits = record {
  not_empty = omega (arith, rule.not_empty, length-append name more);
  fits = omega (arith, length-append name more);
  bytes = All-append (λ b. is_file_name_byte b ≡ true) name more rule.bytes bytes;
  not_dot = joined-not_dot name more rule;
  not_two_dots = joined-not_two_dots name more rule;
}

pub as_file_name-joined : (name more : List ℕ) → IsFileName name → AllPass is_file_name_byte more →
    length name + length more ≤ 255 → as_file_name (name ++ more) ≡ Some (name ++ more)
as_file_name-joined name more rule bytes fits =
    as_file_name_yes (name ++ more) (IsFileName-joined name more rule bytes fits)
