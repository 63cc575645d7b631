-- The rule of file paths, and their two parts.
use Rattle.std.specs.Prelude.{◌≡◌, ℕ, ◌-◌, not, ◌==◌, nat_le, List, [], ◌∷◌, ◌++◌, length, take, drop, if◌then◌else◌}
use Rattle.std.specs.List.{suffix_len}
use Rattle.cal_names.specs.FileName.{IsFileName}
use Rattle.cal_names.specs.Path.{slash, IsPath}

-- `/`, but nothing after the empty path and after `/`
abbrev pub separator : List ℕ → List ℕ
separator [] = []
separator (byte ∷ []) = if byte == slash then [] else slash ∷ []
separator (byte ∷ second ∷ more) = slash ∷ []

-- the file path of a file name at a path
abbrev pub file_path_of : List ℕ → List ℕ → List ℕ
file_path_of path name = path ++ separator path ++ name

-- a path and a file name
pub record IsFilePath (bytes : List ℕ) : Type 0 where
  pub path : List ℕ
  pub name : List ℕ
  pub is_path : IsPath path
  pub is_file_name : IsFileName name
  pub joined : bytes ≡ file_path_of path name

-- the index after the last `/`, at which the file name begins
abbrev pub file_name_start : List ℕ → ℕ
file_name_start bytes = length bytes - suffix_len (λ byte. not (byte == slash)) bytes

-- the file name of a file path
abbrev pub file_name_part : List ℕ → List ℕ
file_name_part bytes = drop (file_name_start bytes) bytes

-- the path of a file path: what stands before the last `/`, and this `/` where it comes first
abbrev pub path_part : List ℕ → List ℕ
path_part bytes =
    if nat_le (file_name_start bytes) 1 then take (file_name_start bytes) bytes
    else take (file_name_start bytes - 1) bytes
