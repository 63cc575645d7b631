-- Entries of chunks in the order of their names.
use Rattle.std.specs.Prelude.{ℕ, ◌<◌, ◌≡◌, ◌≢◌, List, [], Some, slice_get, slice_index_or, map}
use Rattle.std.specs.Prelude.{Vec, vec_items}
use Rattle.std.specs.declared.alloc.Global.{Global}
use Rattle.cal_transport.specs.declared.transport.chunk_entry.ChunkEntry.{ChunkEntry}
use Rattle.cal_transport.specs.declared.transport.chunk_entry.Found.{Found}

-- later chunks have greater names
abbrev pub AreRising : List ChunkEntry → Type 0
AreRising entries = (i j : ℕ) (first second : ChunkEntry) →
    slice_get entries i ≡ Some first → slice_get entries j ≡ Some second → i < j → first.name < second.name

-- no entry has the name
abbrev pub HasNoEntry : List ChunkEntry → ℕ → Type 0
HasNoEntry entries name = (i : ℕ) (entry : ChunkEntry) → slice_get entries i ≡ Some entry → entry.name ≢ name

-- the entry stands there, and has the name
abbrev pub IsFound : List ChunkEntry → ℕ → Found → Type 0
IsFound entries name found = (slice_get entries found.index ≡ Some found.entry) × (found.entry.name ≡ name)

-- the owners of a segment's buckets; a segment that isn't there has none
abbrev pub owners_of : List (Vec ℕ Global) → ℕ → List ℕ
owners_of owners segment = slice_index_or (map vec_items owners) segment []

-- the bucket leads to an entry
pub record LeadsToEntry (entries : List ChunkEntry) (owners : List ℕ) (bucket : ℕ) : Type 0 where
  pub index : ℕ
  pub entry : ChunkEntry
  pub owner : slice_get owners bucket ≡ Some index
  pub stands : slice_get entries index ≡ Some entry

-- each entry has a smaller name
abbrev pub AreBelow : List ChunkEntry → ℕ → Type 0
AreBelow entries name = (i : ℕ) (entry : ChunkEntry) → slice_get entries i ≡ Some entry → entry.name < name
