-- The rule of paths.
use Rattle.std.specs.Prelude.{◌≡◌, ℕ, ◌≤◌, Bool, true, ◌&&◌, ◌==◌, nat_le, ◌⊎◌, List, [], ◌∷◌, length, Option, Some, None, if◌then◌else◌}
use Rattle.std.specs.List.{All, join_with_byte, list_all, slice_split}
use Rattle.cal_names.specs.FileName.{IsFileName, is_file_name}

-- the byte `/`
abbrev pub slash : ℕ
slash = 47

-- any number of file names, with `/` between each two
pub record AreJoinedFileNames (bytes : List ℕ) : Type 0 where
  pub names : List (List ℕ)
  pub each_name : All IsFileName names
  pub joined : bytes ≡ join_with_byte slash names

-- at most 768 bytes: an optional `/`, and then any number of file names with `/` between each two
pub record IsPath (path : List ℕ) : Type 0 where
  pub fits : length path ≤ 768
  pub form : AreJoinedFileNames path ⊎ ((rest : List ℕ) × AreJoinedFileNames rest × (path ≡ slash ∷ rest))

-- the same rule as a test: each part between the `/` is a file name
abbrev pub are_joined_file_names : List ℕ → Bool
are_joined_file_names [] = true
are_joined_file_names (byte ∷ bytes) = list_all is_file_name (slice_split (λ b. b == slash) (byte ∷ bytes))

-- the bytes after a first `/`, if there is one
abbrev pub after_first_slash : List ℕ → List ℕ
after_first_slash [] = []
after_first_slash (byte ∷ bytes) = if byte == slash then bytes else byte ∷ bytes

abbrev pub is_path : List ℕ → Bool
is_path path = nat_le (length path) 768 && are_joined_file_names (after_first_slash path)

-- these bytes, where they are a path
abbrev pub as_path : List ℕ → Option (List ℕ)
as_path bytes = if is_path bytes then Some bytes else None
