-- What every registry keeps.
use Rattle.std.specs.Prelude.{◌≡◌, ℕ, ◌<◌, ◌⊎◌, Some, IsSomeAnd, List}
use Rattle.std.specs.List.{AllByRecursion}
use Rattle.std.specs.List.Sorted.{IsStrictlySortedBy}
use Rattle.std.specs.Map.{keys_of}
use Rattle.std.specs.Ordering.{nat_cmp}
use Rattle.std.specs.Cmp.Lexicographic.{slice_cmp}
use Rattle.cal_names.specs.FilePath.{IsFilePath}
use Rattle.cal_storage.specs.declared.entry.Entry.{Entry}
use Rattle.cal_storage.specs.Contents.{Contents, id_at, entry_of}

-- The names are file paths in the order of their bytes, each once, and each stands for an entry that was made under it.
-- An
-- entry is there only while somebody holds it or its path stands for it.
pub record IsSound {T : Type 0} (contents : Contents T) : Type 0 where
  pub ordered : IsStrictlySortedBy (slice_cmp nat_cmp) (keys_of contents.names)
  pub paths : AllByRecursion IsFilePath (keys_of contents.names)
  pub named : (path : List ℕ) (id : ℕ) → id_at contents path ≡ Some id → IsSomeAnd (entry_of contents id)
      (λ entry. entry.path ≡ path)
  pub held : (id : ℕ) (entry : Entry T) → entry_of contents id ≡ Some entry →
      (0 < entry.holders) ⊎ (id_at contents entry.path ≡ Some id)
