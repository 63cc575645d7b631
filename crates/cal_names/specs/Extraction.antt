-- Extraction is the inverse of what a configuration makes of a name.
use Rattle.std.specs.Prelude.{◌≡◌, ℕ, ◌-◌, ◌↔◌, Bool, true, false, List, ◌++◌, length, take, drop, Option, Some, None, if◌then◌else◌}
use Rattle.std.specs.Option.{option_and_then}
use Rattle.std.specs.Str.{bytes_eq}
use Rattle.std.proofs.Common.{arith, refl, sym, ap, ◌∙◌, subst, append_assoc, length-append, take-append-drop}
use Rattle.std.proofs.lemmas.Slice.Eq.{bytes_eq-Decides}
use Rattle.std.proofs.Math.Seq.{drop-append_seam, take-append_seam}
use Rattle.cal_names.specs.FileName.{IsFileName, is_file_name, is_file_name-decides, as_file_name}
use Rattle.cal_names.specs.FilePath.{path_part, file_name_part}
use Rattle.cal_names.specs.ConceptSettings.{ConceptSettings, type_part, file_name_for, without_prefix, without_suffix, extracted_name, extracted_name_at}

and_then-some : {T U : Type 0} (f : T → Option U) (o : Option T) (y : U) → option_and_then f o ≡ Some y →
    (x : T) × (o ≡ Some x) × (f x ≡ Some y)
and_then-some f None y found = absurd (cc)
and_then-some f (Some x) y found = (x, refl, found)

-- a test that decides whether there is a value
chosen : (test : Bool) (value wanted : List ℕ) → (if test then Some value else None) ≡ Some wanted →
    (test ≡ true) × (value ≡ wanted)
chosen true value wanted found = (refl, cc)
chosen false value wanted found = absurd (cc)

chosen_name : (test : Bool) (value : Option (List ℕ)) (wanted : List ℕ) → (if test then value else None) ≡ Some wanted →
    (test ≡ true) × (value ≡ Some wanted)
chosen_name true value wanted found = (refl, found)
chosen_name false value wanted found = absurd (cc)

as_file_name-exact : (bytes name : List ℕ) → (as_file_name bytes ≡ Some name) ↔ (IsFileName name × (bytes ≡ name))
as_file_name-exact bytes name = (
  λ found. let told = chosen (is_file_name bytes) bytes name found in
      (subst IsFileName told.1 ((is_file_name-decides bytes).0 told.0), told.1),
  λ known. let test : is_file_name bytes ≡ true =
      (is_file_name-decides bytes).1 (subst IsFileName (sym known.1) known.0) in
      ap (λ t. if t then Some bytes else None) test ∙ ap (λ b. Some b) known.1,
)

without_prefix-exact : (front bytes rest : List ℕ) → (without_prefix front bytes ≡ Some rest) ↔ (bytes ≡ front ++ rest)
without_prefix-exact front bytes rest = (
  λ found. let told = chosen (bytes_eq (take (length front) bytes) front) (drop (length front) bytes) rest found in
      let same : take (length front) bytes ≡ front = (bytes_eq-Decides (take (length front) bytes) front).0 told.0 in
      sym (take-append-drop (length front) bytes) ∙ ap (λ f. f ++ drop (length front) bytes) same ∙ ap
      (λ r. front ++ r) told.1,
  λ joined.
      let same : take (length front) bytes ≡ front = ap (take (length front)) joined ∙ take-append_seam front rest in
      let behind : drop (length front) bytes ≡ rest = ap (drop (length front)) joined ∙ drop-append_seam front rest in
      ap (λ t. if t then Some (drop (length front) bytes) else None)
      ((bytes_eq-Decides (take (length front) bytes) front).1 same) ∙ ap (λ r. Some r) behind,
)

without_suffix-exact : (end bytes rest : List ℕ) → (without_suffix end bytes ≡ Some rest) ↔ (bytes ≡ rest ++ end)
without_suffix-exact end bytes rest =
    let at : ℕ = length bytes - length end in (
      λ found. let told = chosen (bytes_eq (drop at bytes) end) (take at bytes) rest found in
          let same : drop at bytes ≡ end = (bytes_eq-Decides (drop at bytes) end).0 told.0 in
          sym (take-append-drop at bytes) ∙ ap (λ f. f ++ drop at bytes) told.1 ∙ ap (λ e. rest ++ e) same,
      λ joined.
          let from : at ≡ length rest = omega (arith, ap length joined, length-append rest end) in
          let same : drop at bytes ≡ end = ap (λ n. drop n bytes) from ∙ ap (drop (length rest)) joined
          ∙ drop-append_seam rest end in
          let before : take at bytes ≡ rest = ap (λ n. take n bytes) from ∙ ap (take (length rest)) joined
          ∙ take-append_seam rest end in
          ap (λ t. if t then Some (take at bytes) else None) ((bytes_eq-Decides (drop at bytes) end).1 same) ∙ ap
          (λ r. Some r) before,
    )

-- the name that is extracted step by step
pub extracted_name-steps : (settings : ConceptSettings) (file_name after_prefix after_type rest : List ℕ) →
    without_prefix settings.prefix file_name ≡ Some after_prefix →
    without_prefix (type_part settings.type_name) after_prefix ≡ Some after_type →
    without_suffix settings.suffix after_type ≡ Some rest → extracted_name settings file_name ≡ as_file_name rest
extracted_name-steps settings file_name after_prefix after_type rest first second third =
    ap (λ o. option_and_then as_file_name
    (option_and_then (without_suffix settings.suffix)
    (option_and_then (without_prefix (type_part settings.type_name)) o))) first
    ∙ ap (λ o. option_and_then as_file_name (option_and_then (without_suffix settings.suffix) o)) second
    ∙ ap (option_and_then as_file_name) third

-- a file name stands for a name exactly where it is the one that is made of this name
pub extracted_name-exact : (settings : ConceptSettings) (file_name name : List ℕ) →
    (extracted_name settings file_name ≡ Some name) ↔ (IsFileName name × (file_name ≡ file_name_for settings name))
extracted_name-exact settings file_name name =
    let front : List ℕ = settings.prefix ++ type_part settings.type_name in (
      λ found.
          let at_end = and_then-some as_file_name
          (option_and_then (without_suffix settings.suffix)
          (option_and_then (without_prefix (type_part settings.type_name))
          (without_prefix settings.prefix file_name))) name found in
          let at_suffix = and_then-some (without_suffix settings.suffix)
          (option_and_then (without_prefix (type_part settings.type_name))
          (without_prefix settings.prefix file_name)) at_end.0 at_end.1 in
          let at_type = and_then-some (without_prefix (type_part settings.type_name))
          (without_prefix settings.prefix file_name) at_suffix.0 at_suffix.1 in
          let rule = (as_file_name-exact at_end.0 name).0 at_end.2 in
          let after_prefix : file_name ≡ settings.prefix ++ at_type.0 =
          (without_prefix-exact settings.prefix file_name at_type.0).0 at_type.1 in
          let after_type : at_type.0 ≡ type_part settings.type_name ++ at_suffix.0 =
          (without_prefix-exact (type_part settings.type_name) at_type.0 at_suffix.0).0 at_type.2 in
          let before_suffix : at_suffix.0 ≡ at_end.0 ++ settings.suffix =
          (without_suffix-exact settings.suffix at_suffix.0 at_end.0).0 at_suffix.2 in (
            rule.0,
            after_prefix ∙ ap (λ r. settings.prefix ++ r)
                (after_type ∙ ap (λ r. type_part settings.type_name ++ r)
                (before_suffix ∙ ap (λ n. n ++ settings.suffix) rule.1))
                ∙ simp append_assoc,
          ),
      λ known.
          extracted_name-steps settings file_name (type_part settings.type_name ++ (name ++ settings.suffix))
          (name ++ settings.suffix) name
          ((without_prefix-exact settings.prefix file_name
          (type_part settings.type_name ++ (name ++ settings.suffix))).1 (known.1 ∙ simp append_assoc))
          ((without_prefix-exact (type_part settings.type_name)
          (type_part settings.type_name ++ (name ++ settings.suffix)) (name ++ settings.suffix)).1 refl)
          ((without_suffix-exact settings.suffix (name ++ settings.suffix) name).1 refl)
          ∙ (as_file_name-exact name name).1 (known.0, refl),
    )

-- a path stands for a name exactly where its path part is the path hint, and its file name the one that is made of this
-- name
pub extracted_name_at-exact : (settings : ConceptSettings) (path name : List ℕ) →
    (extracted_name_at settings path ≡ Some name) ↔
    (IsFileName name × (path_part path ≡ settings.path_hint) × (file_name_part path ≡ file_name_for settings name))
extracted_name_at-exact settings path name =
    let test : Bool = bytes_eq (path_part path) settings.path_hint in
    let told = extracted_name-exact settings (file_name_part path) name in (
      λ found.
          let at = chosen_name test (extracted_name settings (file_name_part path)) name found in
          let known = told.0 at.1 in
          (known.0, (bytes_eq-Decides (path_part path) settings.path_hint).0 at.0, known.1),
      λ known.
          ap (λ t. if t then extracted_name settings (file_name_part path) else None)
          ((bytes_eq-Decides (path_part path) settings.path_hint).1 known.1)
          ∙ told.1 (known.0, known.2),
    )

-- the same of an answer that is the extracted name
pub exact_from_value : (settings : ConceptSettings) (file_name : List ℕ) (answer : Option (List ℕ)) →
    answer ≡ extracted_name settings file_name → (name : List ℕ) →
    (answer ≡ Some name) ↔ (IsFileName name × (file_name ≡ file_name_for settings name))
exact_from_value settings file_name answer value name =
    let told = extracted_name-exact settings file_name name in
    (λ found. told.0 (sym value ∙ found), λ known. value ∙ told.1 known)

-- a path elsewhere stands for no name
pub extracted_name_at-elsewhere : (settings : ConceptSettings) (path : List ℕ) →
    (path_part path ≡ settings.path_hint → ⊥) → extracted_name_at settings path ≡ None
extracted_name_at-elsewhere settings path elsewhere =
    elim (bytes_eq (path_part path) settings.path_hint) as (λ t. bytes_eq (path_part path) settings.path_hint ≡ t →
    (if t then extracted_name settings (file_name_part path) else None) ≡ None) [
      | true ↦ λ same. absurd (elsewhere ((bytes_eq-Decides (path_part path) settings.path_hint).0 same))
      | false ↦ λ other. refl
    ] refl
