-- The entry to which a pointer leads.
use Rattle.std.specs.Prelude.{◌≡◌, ℕ, ◌*◌, ◌/◌, ◌≤◌, ◌<◌, List, Some, slice_get}
use Rattle.cal_alloc.specs.Pool.{Pool}
use Rattle.cal_alloc.specs.PointerOffset.{offset_of, segment_of}
use Rattle.cal_alloc.specs.Limits.{max_memory_size}
use Rattle.cal_storage.specs.Contents.{Contents}
use Rattle.cal_shm.specs.Segment.{Segment}
use Rattle.cal_resizable.specs.Chunks.{segment_value}
use Rattle.cal_resizable.specs.Memory.{MemoryState}
use Rattle.cal_transport.specs.declared.transport.chunk_entry.ChunkEntry.{ChunkEntry}

-- The pointer is into an active segment, and the owner of its bucket there is the entry at an index.
pub record PointsTo (contents : Contents (Segment Pool)) (memory : MemoryState) (entries : List ChunkEntry)
    (owners : List ℕ) (pointer : ℕ) : Type 0 where
  pub segment : Segment Pool
  pub index : ℕ
  pub entry : ChunkEntry
  pub there : segment_value contents memory.slots (segment_of pointer) ≡ Some segment
  pub positive : 1 ≤ segment.allocator.buckets.size
  pub owner : slice_get owners (offset_of pointer / segment.allocator.buckets.size) ≡ Some index
  pub stands : slice_get entries index ≡ Some entry

-- The memory has the segment, and a pointer can name the place of the bucket there.
pub record HasPlace (contents : Contents (Segment Pool)) (memory : MemoryState) (number bucket : ℕ) : Type 0 where
  pub segment : Segment Pool
  pub there : segment_value contents memory.slots number ≡ Some segment
  pub small : bucket * segment.allocator.buckets.size < max_memory_size
