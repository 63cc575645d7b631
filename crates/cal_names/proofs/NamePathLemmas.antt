-- The file name that stands for a name is a file name, where it isn't too long.
use Rattle.std.proofs.Common.{◌≡◌, ◌↔◌, ℕ, ◌<◌, ◌≤◌, true, List, ◌++◌, length, codes, Option, Some, None, arith, refl, sym, ap, ◌∙◌, length-append}
use Rattle.std.specs.List.{AllPass}
use Rattle.std.proofs.lemmas.List.Elements.{All-nil, All-append}
use Rattle.std.proofs.lemmas.List.Sums.{AllPass-from_list_all}
use Rattle.cal_names.specs.FileName.{IsFileName, is_file_name_byte}
use Rattle.cal_names.specs.FilePath.{IsFilePath, file_path_of, path_part, file_name_part}
use Rattle.cal_names.specs.ConceptSettings.{ConceptSettings, settings_of, parts_of, type_part, file_name_for, file_path_for, extracted_name_at}
use Rattle.cal_names.specs.declared.path_parts.PathParts.{PathParts}
use Rattle.cal_names.specs.Extraction.{extracted_name_at-exact}
use Rattle.cal_names.proofs.FilePathLemmas.{parts}
use Rattle.cal_names.proofs.TypeHashLemmas.{type_hash_bytes}

type_part_bytes : (type_name : Option (List ℕ)) → AllPass is_file_name_byte (type_part type_name)
type_part_bytes None = All-nil (λ b. is_file_name_byte b ≡ true)
type_part_bytes (Some type_name) =
    All-append (λ b. is_file_name_byte b ≡ true) _ _ (type_hash_bytes type_name)
    (AllPass-from_list_all is_file_name_byte (codes "_") refl)

pub is_file_name_for : (settings : ConceptSettings) (name : List ℕ) → IsFileName settings.prefix → IsFileName name →
    IsFileName settings.suffix → length (file_name_for settings name) ≤ 255 → IsFileName (file_name_for settings name)
is_file_name_for settings name prefix own suffix fits =
    let P : ℕ → Type 0 = λ b. is_file_name_byte b ≡ true in
    let front : List ℕ = settings.prefix ++ type_part settings.type_name in
    let long : 2 < length (file_name_for settings name) = omega (
      arith,
      prefix.not_empty,
      own.not_empty,
      suffix.not_empty,
      length-append settings.prefix (type_part settings.type_name),
      length-append front name,
      length-append (front ++ name) settings.suffix,
    ) in
    record {
      not_empty = omega arith;
      fits = fits;
      bytes = All-append P (front ++ name) settings.suffix
          (All-append P front name
          (All-append P settings.prefix (type_part settings.type_name) prefix.bytes
          (type_part_bytes settings.type_name)) own.bytes) suffix.bytes;
      not_dot = λ same. omega (arith, ap length same);
      not_two_dots = λ same. omega (arith, ap length same);
    }

-- a file path stands for a name exactly where it is the path of this name
pub stands_for : (settings : ConceptSettings) (own other name : List ℕ) → IsFileName name →
    path_part own ≡ settings.path_hint → file_name_part own ≡ file_name_for settings name →
    own ≡ file_path_for settings name → IsFilePath other →
    (extracted_name_at settings other ≡ Some name) ↔ (own ≡ other)
stands_for settings own other name rule at_hint file made is_path = (
  λ found.
      let told = (extracted_name_at-exact settings other name).0 found in
      made ∙ sym (ap (λ p. file_path_of p (file_name_for settings name)) told.1)
      ∙ sym (ap (file_path_of (path_part other)) told.2) ∙ (parts other is_path).joined,
  λ same. (extracted_name_at-exact settings other name).1
      (rule, ap path_part (sym same) ∙ at_hint, ap file_name_part (sym same) ∙ file),
)

-- no file path stands for a name whose file name is too long
pub stands_for_none : (settings : ConceptSettings) (other name : List ℕ) → 255 < length (file_name_for settings name) →
    IsFilePath other → extracted_name_at settings other ≡ Some name → ⊥
stands_for_none settings other name long is_path found =
    let told = (extracted_name_at-exact settings other name).0 found in
    omega (arith, ap length told.2, (parts other is_path).is_file_name.fits)

-- settings are their parts and their type name
pub settings_of-parts : (settings : ConceptSettings) (parts : PathParts) (type_name : Option (List ℕ)) →
    parts ≡ parts_of settings → type_name ≡ settings.type_name → settings_of parts type_name ≡ settings
settings_of-parts settings parts type_name same same_type =
    ap (λ p. settings_of p type_name) same ∙ ap (settings_of (parts_of settings)) same_type
