-- File names joined by `/` are the parts between the `/`.
use Rattle.std.proofs.Common.{◌≡◌, ℕ, ◌<◌, ◌≤◌, ◌⊎◌, Bool, true, false, eqb, nat_le, if◌then◌else◌, List, [], ◌∷◌, length, Some, None, MatchBool, IsTrue, arith, refl, sym, ap, ◌∙◌, subst, ⊎_elim, inl, inr}
use Rattle.std.specs.List.{All, AllWithin, HoldsAt, join_with_byte, slice_split, list_all}
use Rattle.std.specs.Bool.{Decides}
use Rattle.std.proofs.lemmas.List.Sums.{AllPass-from_list_all, list_all-from_AllPass}
use Rattle.std.proofs.lemmas.Bool.{cases_eq, true≢false, false≢true}
use Rattle.std.proofs.lemmas.Bool.Decides.{nat_tests, Decides-eqb, Decides-and, Decides-like}
use Rattle.std.proofs.lemmas.List.Elements.{All-nil, All-weaker, All-head, All-tail, All-same, All-get_or, All-from_all_within}
use Rattle.std.proofs.lemmas.List.Splits.{slice_split_none, slice_split_at, join_with_byte-slice_split}
use Rattle.cal_names.specs.FileName.{IsFileName, is_file_name, is_file_name-decides, is_file_name_byte, false_from_no}
use Rattle.cal_names.specs.Path.{slash, AreJoinedFileNames, IsPath, are_joined_file_names, after_first_slash, is_path, as_path}

-- no byte of a file name is `/`
pub no_slash_byte : (b : ℕ) → is_file_name_byte b ≡ true → eqb b slash ≡ false
no_slash_byte b letter =
    ⊎_elim (λ same. absurd (true≢false (sym letter ∙ ap is_file_name_byte same)))
    (λ other. grind (arith, nat_tests)) (cases_eq b slash)

pub no_slash : (name : List ℕ) → IsFileName name → All (λ b. eqb b slash ≡ false) name
no_slash name rule = All-weaker _ _ no_slash_byte name rule.bytes

-- the parts between the `/` of joined file names are these file names
pub slice_split-join : (first : List ℕ) (names : List (List ℕ)) → All IsFileName (first ∷ names) →
    slice_split (λ b. eqb b slash) (join_with_byte slash (first ∷ names)) ≡ first ∷ names
slice_split-join first [] each = slice_split_none _ first (no_slash first (All-head IsFileName first [] each))
slice_split-join first (second ∷ names) each =
    slice_split_at _ first slash (join_with_byte slash (second ∷ names))
    (no_slash first (All-head IsFileName first (second ∷ names) each)) refl
    ∙ ap (λ rest. first ∷ rest) (slice_split-join second names (All-tail IsFileName first (second ∷ names) each))

pub joined_from_parts : (bytes : List ℕ) → All IsFileName (slice_split (λ b. eqb b slash) bytes) →
    AreJoinedFileNames bytes
joined_from_parts bytes each = record {
  names = slice_split (λ b. eqb b slash) bytes;
  each_name = each;
  joined = sym (join_with_byte-slice_split slash bytes);
}

parts_of_names : (bytes : List ℕ) → 0 < length bytes → (names : List (List ℕ)) → All IsFileName names →
    bytes ≡ join_with_byte slash names → All IsFileName (slice_split (λ b. eqb b slash) bytes)
parts_of_names bytes some [] each joined = absurd (omega (arith, ap length joined))
parts_of_names bytes some (first ∷ names) each joined =
    All-same IsFileName _ (first ∷ names)
    (ap (slice_split (λ b. eqb b slash)) joined ∙ slice_split-join first names each) each

pub parts_from_joined : (bytes : List ℕ) → 0 < length bytes → AreJoinedFileNames bytes →
    All IsFileName (slice_split (λ b. eqb b slash) bytes)
parts_from_joined bytes some form = parts_of_names bytes some form.names form.each_name form.joined

-- joined file names don't begin with `/`
pub no_first_slash : (rest : List ℕ) → AreJoinedFileNames (slash ∷ rest) → ⊥
no_first_slash rest form =
    let first : IsFileName [] = All-head IsFileName [] (slice_split (λ b. eqb b slash) rest)
    (parts_from_joined (slash ∷ rest) (omega arith) form) in
    omega (arith, first.not_empty)

-- what `all` tells of the parts
pub told_by_parts : (bytes : List ℕ) → 0 < length bytes → (r : Bool) →
    MatchBool r (AllWithin IsFileName (slice_split (λ b. eqb b slash) bytes) 0
    (length (slice_split (λ b. eqb b slash) bytes)))
    ((k : ℕ) × (k < length (slice_split (λ b. eqb b slash) bytes)) × HoldsAt
    (λ x. ¬ IsFileName x) (slice_split (λ b. eqb b slash) bytes) k) →
    (IsTrue r → AreJoinedFileNames bytes) × (AreJoinedFileNames bytes → IsTrue r)
told_by_parts bytes some true told = (λ _. joined_from_parts bytes (All-from_all_within IsFileName _ told), λ _. refl)
told_by_parts bytes some false told = (
  λ yes. absurd (false≢true yes),
  λ form.
      absurd (told.2 [] (All-get_or IsFileName _ told.0 [] told.1 (parts_from_joined bytes some form))),
)

same_rest : {rest other : List ℕ} → slash ∷ rest ≡ slash ∷ other → other ≡ rest
same_rest same = cc

same_first : {byte other : ℕ} {rest more : List ℕ} → byte ∷ rest ≡ other ∷ more → byte ≡ other
same_first same = cc

-- a path that begins with `/` is this `/` and joined file names
pub path_behind_slash : (path rest : List ℕ) (r : Bool) → length path ≤ 768 → path ≡ slash ∷ rest →
    (IsTrue r → AreJoinedFileNames rest) × (AreJoinedFileNames rest → IsTrue r) →
    (IsTrue r → IsPath path) × (IsPath path → IsTrue r)
path_behind_slash path rest r fits first told = (
  λ yes. record { fits = fits; form = inr (rest, told.0 yes, first) },
  λ rule. ⊎_elim
      (λ form. absurd (no_first_slash rest (subst AreJoinedFileNames first form)))
      (λ form. told.1 (subst AreJoinedFileNames (same_rest (sym first ∙ form.2)) form.1)) rule.form,
)

names_decides : (parts : List (List ℕ)) → Decides (list_all is_file_name parts) (All IsFileName parts)
names_decides parts = (
  λ test. All-weaker (λ name. is_file_name name ≡ true) IsFileName
      (λ name. (is_file_name-decides name).0) parts (AllPass-from_list_all is_file_name parts test),
  λ each. list_all-from_AllPass is_file_name parts
      (All-weaker IsFileName (λ name. is_file_name name ≡ true) (λ name. (is_file_name-decides name).1) parts each),
)

are_joined_file_names-decides : (bytes : List ℕ) → Decides (are_joined_file_names bytes) (AreJoinedFileNames bytes)
are_joined_file_names-decides [] =
    (λ test. record { names = []; each_name = All-nil IsFileName; joined = refl }, λ form. refl)
are_joined_file_names-decides (byte ∷ bytes) =
    let told = names_decides (slice_split (λ b. eqb b slash) (byte ∷ bytes)) in (
      λ test. joined_from_parts (byte ∷ bytes) (told.0 test),
      λ form.
          told.1 (parts_from_joined (byte ∷ bytes) (omega arith) form),
    )

form_by : (byte : ℕ) (bytes : List ℕ) (first : Bool) → eqb byte slash ≡ first →
    Decides (are_joined_file_names (if first then bytes else byte ∷ bytes))
    (AreJoinedFileNames (byte ∷ bytes) ⊎ ((rest : List ℕ) × AreJoinedFileNames rest × (byte ∷ bytes ≡ slash ∷ rest)))
form_by byte bytes true first =
    let same : byte ≡ slash = (Decides-eqb byte slash).0 first in
    let told = are_joined_file_names-decides bytes in (
      λ test. inr (bytes, told.0 test, ap (λ b. b ∷ bytes) same),
      ⊎_elim
          (λ form. absurd (no_first_slash bytes (subst (λ (b : ℕ). AreJoinedFileNames (b ∷ bytes)) same form)))
          (λ form. told.1 (subst AreJoinedFileNames (same_rest (sym (ap (λ b. b ∷ bytes) same) ∙ form.2)) form.1)),
    )
form_by byte bytes false other =
    let told = are_joined_file_names-decides (byte ∷ bytes) in (
      λ test. inl (told.0 test),
      ⊎_elim told.1 (λ form. absurd (false≢true (sym other ∙ (Decides-eqb byte slash).1 (same_first form.2)))),
    )

-- the form of a path, by its first byte
form_decides : (path : List ℕ) →
    Decides (are_joined_file_names (after_first_slash path))
    (AreJoinedFileNames path ⊎ ((rest : List ℕ) × AreJoinedFileNames rest × (path ≡ slash ∷ rest)))
form_decides [] = (λ test. inl ((are_joined_file_names-decides []).0 test), λ form. refl)
form_decides (byte ∷ bytes) = form_by byte bytes (eqb byte slash) refl

Decides-le_768 : (n : ℕ) → Decides (nat_le n 768) (n ≤ 768)
Decides-le_768 n = (λ test. grind (arith, nat_tests), λ fits. grind (arith, nat_tests))

pub is_path-decides : (path : List ℕ) → Decides (is_path path) (IsPath path)
is_path-decides path =
    Decides-like (is_path path) (λ rule. record { fits = rule.0; form = rule.1 }) (λ rule. (rule.fits, rule.form))
    (Decides-and _ _ (Decides-le_768 (length path)) (form_decides path))

pub as_path_yes : (bytes : List ℕ) → IsPath bytes → as_path bytes ≡ Some bytes
as_path_yes bytes rule = ap (λ t. if t then Some bytes else None) ((is_path-decides bytes).1 rule)

pub as_path_no : (bytes : List ℕ) → (IsPath bytes → ⊥) → as_path bytes ≡ None
as_path_no bytes refuted = ap
    (λ t. if t then Some bytes else None) (false_from_no (is_path bytes) (IsPath bytes) (is_path-decides bytes) refuted)
