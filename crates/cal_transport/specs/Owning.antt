-- The tables that lead from the buckets of segments to the entries of their chunks.
use Rattle.std.specs.Prelude.{◌≡◌, ℕ, Vec, List, [], ◌∷◌, ◌++◌, length, Option, Some, None, IsSome, Result, Ok, Err, slice_index_or, slice_set}
use Rattle.std.specs.declared.alloc.AllocError.{AllocError}
use Rattle.std.specs.declared.alloc.Global.{Global}

-- a table for so many buckets, if there are to be some; the want of memory only where there are to be
abbrev pub IsTableFor : Option ℕ → Result (Option (Vec ℕ Global)) AllocError → Type 0
IsTableFor count (Ok None) = count ≡ None
IsTableFor count (Ok (Some table)) = count ≡ Some (length table.items)
IsTableFor count (Err error) = IsSome count

-- the tables with one more, if there is one
abbrev pub with_table : List (List ℕ) → Option (Vec ℕ Global) → List (List ℕ)
with_table tables None = tables
with_table tables (Some table) = tables ++ table.items ∷ []

-- how many tables there are to be more
abbrev pub tables_in : Option (Vec ℕ Global) → ℕ
tables_in None = 0
tables_in (Some table) = 1

-- the table of a segment; a segment that isn't there has none
abbrev pub table_at : List (List ℕ) → ℕ → List ℕ
table_at tables segment = slice_index_or tables segment []

-- the tables in which a bucket of a segment leads to an entry
abbrev pub with_owner : List (List ℕ) → ℕ → ℕ → ℕ → List (List ℕ)
with_owner tables segment bucket index = slice_set tables segment (slice_set (table_at tables segment) bucket index)
