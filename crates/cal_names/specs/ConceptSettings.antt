-- What a configuration makes of a name: the file name and the path that stand for it, and back.
use Rattle.std.specs.Prelude.{ℕ, ◌-◌, List, [], ◌++◌, length, take, drop, Option, Some, None, codes, if◌then◌else◌}
use Rattle.std.specs.Option.{option_and_then}
use Rattle.std.specs.Str.{bytes_eq}
use Rattle.cal_names.specs.FileName.{as_file_name}
use Rattle.cal_names.specs.FilePath.{file_path_of, path_part, file_name_part}
use Rattle.cal_names.specs.TypeHash.{type_hash_of}
use Rattle.cal_names.specs.declared.path_parts.PathParts.{PathParts}

-- what a configuration holds. A storage's has the name of its stored type, and those of memories and connections have
-- that of their storage.
pub record ConceptSettings : Type 0 where
  pub prefix : List ℕ
  pub type_name : Option (List ℕ)
  pub suffix : List ℕ
  pub path_hint : List ℕ

-- the settings of these parts, with the name of the stored type, if there is one
abbrev pub settings_of : PathParts → Option (List ℕ) → ConceptSettings
settings_of parts type_name =
    record { prefix = parts.prefix; type_name = type_name; suffix = parts.suffix; path_hint = parts.path_hint }

-- the parts of these settings
abbrev pub parts_of : ConceptSettings → PathParts
parts_of settings = record { prefix = settings.prefix; suffix = settings.suffix; path_hint = settings.path_hint }

-- the settings with other parts
abbrev pub with_parts : ConceptSettings → PathParts → ConceptSettings
with_parts settings parts = settings_of parts settings.type_name

-- what stands between the prefix and the name: the type's hash and `_`
abbrev pub type_part : Option (List ℕ) → List ℕ
type_part None = []
type_part (Some type_name) = type_hash_of type_name ++ codes "_"

-- the file name that stands for a name
abbrev pub file_name_for : ConceptSettings → List ℕ → List ℕ
file_name_for settings name = settings.prefix ++ type_part settings.type_name ++ name ++ settings.suffix

-- the path that stands for a name
abbrev pub file_path_for : ConceptSettings → List ℕ → List ℕ
file_path_for settings name = file_path_of settings.path_hint (file_name_for settings name)

-- the bytes after this front
abbrev pub without_prefix : List ℕ → List ℕ → Option (List ℕ)
without_prefix front bytes =
    if bytes_eq (take (length front) bytes) front then Some (drop (length front) bytes) else None

-- the bytes before this end
abbrev pub without_suffix : List ℕ → List ℕ → Option (List ℕ)
without_suffix end bytes =
    if bytes_eq (drop (length bytes - length end) bytes) end then Some (take (length bytes - length end) bytes)
    else None

-- the name that a file name stands for: prefix and type part are taken off, then the suffix. There is none where a
-- part isn't there, or the rest is no file name.
abbrev pub extracted_name : ConceptSettings → List ℕ → Option (List ℕ)
extracted_name settings file_name =
    option_and_then as_file_name (option_and_then (without_suffix settings.suffix)
    (option_and_then (without_prefix (type_part settings.type_name)) (without_prefix settings.prefix file_name)))

-- the name that a path stands for: none, where its path part differs from the path hint
abbrev pub extracted_name_at : ConceptSettings → List ℕ → Option (List ℕ)
extracted_name_at settings path =
    if bytes_eq (path_part path) settings.path_hint then extracted_name settings (file_name_part path) else None
