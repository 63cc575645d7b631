-- A segment of memory: its allocator, and the bytes of its payload.
use Rattle.std.specs.Prelude.{ℕ, ◌≤◌, IsTrue, List, ◌++◌, length, take, drop, replicate}
use Rattle.cal_alloc.specs.Chunks.{Properties}
use Rattle.cal_alloc.specs.Limits.{max_memory_size}

pub record Segment (A : Type 0) : Type 0 where
  pub allocator : A
  pub payload : List ℕ

-- What every stored segment keeps: its allocator serves, and manages no byte past the payload, which is within the
-- limit of memory.
pub record IsServed (properties : Properties) (size : ℕ) : Type 0 where
  pub ready : IsTrue properties.is_ready
  pub within : properties.total ≤ size
  pub limit : size ≤ max_memory_size

-- bytes with others written over them from an offset on; the number of bytes stays
abbrev pub overwritten : List ℕ → ℕ → List ℕ → List ℕ
overwritten bytes offset written =
    take (length bytes) (take offset bytes ++ (written ++ drop (length written) (drop offset bytes)))

module _ {A : Type 0} where
  -- a segment of that many bytes, all zero, with this allocator
  abbrev pub new_segment : A → ℕ → Segment A
  new_segment allocator size = record { allocator = allocator; payload = replicate size 0 }

  -- a segment with another allocator, and with other bytes from an offset on
  abbrev pub with_allocator : Segment A → A → Segment A
  with_allocator segment allocator = record segment { allocator = allocator }

  abbrev pub with_bytes : Segment A → ℕ → List ℕ → Segment A
  with_bytes segment offset written = record segment { payload = overwritten segment.payload offset written }
