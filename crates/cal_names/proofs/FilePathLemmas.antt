-- The two parts of a file path.
use Rattle.std.proofs.Common.{◌≡◌, ℕ, ◌+◌, ◌-◌, ◌<◌, ◌≤◌, Bool, true, false, not, eqb, List, [], ◌∷◌, ◌++◌, length, take, drop, get_or, nat_le, ◌==◌, if◌then◌else◌, arith, refl, sym, ap, ◌∙◌, subst, length-append, append_assoc}
use Rattle.std.specs.List.{suffix_len}
use Rattle.std.proofs.lemmas.Bool.Decides.{nat_tests}
use Rattle.std.proofs.lemmas.List.{get_or_append_left, get_or-append_right, get_or_at}
use Rattle.std.proofs.lemmas.List.Sums.{suffix_len_is}
use Rattle.std.proofs.Math.Seq.{drop-append_seam, take-append_seam}
use Rattle.cal_names.specs.FileName.{IsFileName}
use Rattle.cal_names.specs.Path.{slash, IsPath}
use Rattle.cal_names.specs.FilePath.{separator, file_path_of, file_name_start, file_name_part, path_part, IsFilePath}
use Rattle.cal_names.proofs.PathLemmas.{no_slash}

-- the place behind which no byte is `/`, with a `/` before it
pub file_name_start_is : (bytes : List ℕ) (n : ℕ) → n ≤ length bytes →
    ((k : ℕ) → n ≤ k → k < length bytes → eqb (get_or bytes k 0) slash ≡ false) →
    (0 < n → eqb (get_or bytes (n - 1) 0) slash ≡ true) → n ≡ file_name_start bytes
file_name_start_is bytes n within behind before =
    let rest : suffix_len (λ byte. not (eqb byte slash)) bytes ≡ length bytes - n = suffix_len_is
    (λ byte. not (eqb byte slash)) bytes n 0 within (λ k from inside. ap not (behind k from inside))
    (λ some. ap not (before some)) in
    omega (arith, rest)

-- what stands before the file name: the path and its separator
abbrev front : List ℕ → List ℕ
front path = path ++ separator path

last_of_one : (b : ℕ) (same : Bool) → (b == slash) ≡ same → let one : List ℕ = b ∷ (if same then [] else slash ∷ []) in
    get_or one (length one - 1) 0 ≡ slash
last_of_one b true same = grind (arith, nat_tests, same)
last_of_one b false same = refl

-- the front ends in `/`, if it isn't empty
last_of_front : (path : List ℕ) → 0 < length (front path) → get_or (front path) (length (front path) - 1) 0 ≡ slash
last_of_front [] some = absurd (omega arith)
last_of_front (b ∷ []) some = last_of_one b (b == slash) refl
last_of_front (b ∷ s ∷ more) some =
    get_or_at (b ∷ s ∷ more) slash [] 0 (length (front (b ∷ s ∷ more)) - 1)
    (omega (arith, length-append (b ∷ s ∷ more) (slash ∷ [])))

-- the file name begins behind the front
file_name_start_of : (path name : List ℕ) → IsFileName name →
    file_name_start (file_path_of path name) ≡ length (front path)
file_name_start_of path name rule =
    sym (file_name_start_is (front path ++ name) (length (front path)) (omega (arith, length-append (front path) name))
    (λ k from inside.
    let read : get_or (front path ++ name) k 0 ≡ get_or name (k - length (front path)) 0 =
    get_or-append_right (front path) name (length (front path)) k 0 refl from in
    let within : k - length (front path) < length name = omega (arith, length-append (front path) name) in
    ap (λ b. eqb b slash) read ∙ no_slash name rule (k - length (front path)) 0 within)
    (λ some.
    let before : length (front path) - 1 < length (front path) = omega arith in
    ap (λ b. eqb b slash) (get_or_append_left (front path) name 0 (length (front path) - 1) before
    ∙ last_of_front path some)))

pub file_name_part_of : (path name : List ℕ) → IsFileName name → file_name_part (file_path_of path name) ≡ name
file_name_part_of path name rule =
    ap (λ n. drop n (file_path_of path name)) (file_name_start_of path name rule) ∙ drop-append_seam (front path) name

-- the path of bytes whose file name begins at this place
abbrev cut_at : ℕ → List ℕ → List ℕ
cut_at start bytes = if nat_le start 1 then take start bytes else take (start - 1) bytes

cut_one : (b : ℕ) (name : List ℕ) (same : Bool) → let one : List ℕ = b ∷ (if same then [] else slash ∷ []) in
    cut_at (length one) (one ++ name) ≡ b ∷ []
cut_one b name true = refl
cut_one b name false = refl

cut_long : (path name : List ℕ) (n : ℕ) → n ≡ length path + 1 → 1 < n → cut_at n (path ++ slash ∷ [] ++ name) ≡ path
cut_long path name n long some =
    let test : nat_le n 1 ≡ false = grind (arith, nat_tests) in
    let less : n - 1 ≡ length path = omega arith in
    ap (λ t. if t then take n (path ++ slash ∷ [] ++ name) else take (n - 1) (path ++ slash ∷ [] ++ name)) test
    ∙ ap (λ k. take k (path ++ slash ∷ [] ++ name)) less
    ∙ rw append_assoc (take-append_seam path (slash ∷ name))

cut_front : (path name : List ℕ) → cut_at (length (front path)) (front path ++ name) ≡ path
cut_front [] name = refl
cut_front (b ∷ []) name = cut_one b name (b == slash)
cut_front (b ∷ s ∷ more) name =
    cut_long (b ∷ s ∷ more) name (length (front (b ∷ s ∷ more))) (length-append (b ∷ s ∷ more) (slash ∷ []))
    (omega (arith, length-append (b ∷ s ∷ more) (slash ∷ [])))

pub path_part_of : (path name : List ℕ) → IsFileName name → path_part (file_path_of path name) ≡ path
path_part_of path name rule =
    ap (λ n. cut_at n (file_path_of path name)) (file_name_start_of path name rule) ∙ cut_front path name

-- the parts of a file path are a path and a file name, and joined they are that file path
pub record Parts (bytes : List ℕ) : Type 0 where
  pub is_path : IsPath (path_part bytes)
  pub is_file_name : IsFileName (file_name_part bytes)
  pub joined : file_path_of (path_part bytes) (file_name_part bytes) ≡ bytes

pub parts : (bytes : List ℕ) → IsFilePath bytes → Parts bytes
parts bytes rule =
    let path : path_part bytes ≡ rule.path = ap path_part rule.joined
    ∙ path_part_of rule.path rule.name rule.is_file_name in
    let name : file_name_part bytes ≡ rule.name = ap file_name_part rule.joined
    ∙ file_name_part_of rule.path rule.name rule.is_file_name in
    record {
      is_path = subst IsPath (sym path) rule.is_path;
      is_file_name = subst IsFileName (sym name) rule.is_file_name;
      joined = ap (λ p. file_path_of p (file_name_part bytes)) path ∙ ap (file_path_of rule.path) name
          ∙ sym rule.joined;
    }
