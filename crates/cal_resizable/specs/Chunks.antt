-- The chunks of a growing memory that are out, and what a call leaves of them.
use Rattle.std.specs.Prelude.{◌≡◌, ◌≢◌, ℕ, zero, suc, ◌+◌, ◌<◌, ◌≤◌, ◌==◌, Bool, true, false, Option, Some, None, IsSome, List, [], ◌∷◌}
use Rattle.std.specs.List.{AllByRecursion, slice_get}
use Rattle.cal_alloc.specs.Chunks.{Properties, IsInChunk, chunk_size}
use Rattle.cal_alloc.specs.PointerOffset.{pointer_offset, offset_of, segment_of}
use Rattle.cal_alloc.specs.SizeAndAlignment.{SizeAndAlignment}
use Rattle.cal_alloc.specs.declared.shm_allocator.ShmAllocator as shm_allocator
use Rattle.cal_storage.specs.Contents.{Contents, value_of}
use Rattle.cal_shm.specs.Calls.{IsInPayload, IsChunkWithin}
use Rattle.cal_shm.specs.Segment.{Segment, with_allocator}
use Rattle.cal_resizable.specs.Memory.{MemoryState}
use Rattle.cal_resizable.specs.Slots.{Slots, HeldSegment, segment_at, count_at, without_unused}

-- a chunk that is out: its pointer, which carries the number of its segment, the layout that it was handed out for, and
-- its size
pub record Chunk : Type 0 where
  pub pointer : ℕ
  pub layout : SizeAndAlignment
  pub size : ℕ

-- two chunks have no byte in common: they lie in different segments, or apart in the same one
abbrev pub AreDisjoint : Chunk → Chunk → Type 0
AreDisjoint one other =
    segment_of one.pointer ≡ segment_of other.pointer → (byte : ℕ) → IsInChunk one.pointer one.size byte →
    ¬ IsInChunk other.pointer other.size byte

-- no two of these chunks have a byte in common
abbrev pub NoneOverlap : List Chunk → Type 0
NoneOverlap [] = Unit {0}
NoneOverlap (chunk ∷ chunks) = AllByRecursion (AreDisjoint chunk) chunks × NoneOverlap chunks

-- how many of these chunks lie in the segment of a number
abbrev pub one_where : Bool → ℕ
one_where true = 1
one_where false = 0

abbrev pub number_within : ℕ → List Chunk → ℕ
number_within number [] = 0
number_within number (chunk ∷ chunks) = one_where (segment_of chunk.pointer == number) + number_within number chunks

-- the chunks but the one at an index
abbrev pub without_chunk : ℕ → List Chunk → List Chunk
without_chunk index [] = []
without_chunk zero (chunk ∷ chunks) = chunks
without_chunk (suc index) (chunk ∷ chunks) = chunk ∷ without_chunk index chunks

module _ {T : Type 0} where
  -- the value of the segment in a slot, and of the segment of a number, if one is held
  abbrev pub value_in : Contents T → Option HeldSegment → Option T
  value_in contents None = None
  value_in contents (Some held) = value_of contents held.handle.id

  abbrev pub segment_value : Contents T → Slots → ℕ → Option T
  segment_value contents slots number = value_in contents (segment_at slots number)

  -- Every segment but that of a number is left as it is: the same is held under each other number, as often counted,
  -- and has the value that it had.
  pub record LeavesSegments (old : Contents T) (before : Slots) (number : ℕ) (new : Contents T) (after : Slots) :
      Type 0 where
    pub slots : (other : ℕ) → other ≢ number → segment_at after other ≡ segment_at before other
    pub values : (other : ℕ) → other ≢ number → segment_value new after other ≡ segment_value old before other

  -- A memory has grown: the next segment is the current one, has this value, and no chunk of it is out. The former
  -- current one is gone where no chunk of it is out, and every other segment is left as it is.
  pub record GrowsTo (old : Contents T) (before : MemoryState) (made : T) (new : Contents T) (after : MemoryState) :
      Type 0 where
    pub current : after.current ≡ before.current + 1
    pub was_none : segment_at before.slots (before.current + 1) ≡ None
    pub made_is : segment_value new after.slots (before.current + 1) ≡ Some made
    pub none_out : count_at after.slots (before.current + 1) ≡ 0
    pub others : LeavesSegments old (without_unused before.slots before.current) (before.current + 1) new after.slots

-- A chunk of the segment of a number was taken back: its allocator has changed in this way, it has one chunk less, and
-- every other segment is left as it is. Where it is still active it has that allocator and the bytes that it had.
pub record ReturnsChunk {A : Type 0} (Change : A → A → Type 0) (old : Contents (Segment A)) (before : Slots)
    (number : ℕ) (new : Contents (Segment A)) (after : Slots) : Type 0 where
  pub was : Segment A
  pub left : A
  pub origin : segment_value old before number ≡ Some was
  pub change : Change was.allocator left
  pub still : IsSome (segment_at after number) → segment_value new after number ≡ Some (with_allocator was left)
  pub one_less : count_at before number ≡ count_at after number + 1
  pub others : LeavesSegments old before number new after

module _ {A C : Type 0} (rules : shm_allocator.Ghosts A C) where
  -- A chunk of a layout was handed out at a pointer by the segment of a number: its allocator gave it, the pointer
  -- carries the number, the chunk lies within the payload, the segment has one chunk more, and every other segment is
  -- left as it is.
  pub record GivesChunk (old : Contents (Segment A)) (before : Slots) (number : ℕ) (layout : SizeAndAlignment)
      (pointer : ℕ) (new : Contents (Segment A)) (after : Slots) : Type 0 where
    pub was : Segment A
    pub left : A
    pub origin : segment_value old before number ≡ Some was
    pub given : rules.Allocates was.allocator layout (pointer_offset (offset_of pointer) 0) left
    pub within : IsChunkWithin rules.properties was layout pointer
    pub carries : segment_of pointer ≡ number
    pub becomes : segment_value new after number ≡ Some (with_allocator was left)
    pub one_more : count_at after number ≡ count_at before number + 1
    pub others : LeavesSegments old before number new after

-- of an allocator: what it has beside its chunks, which bytes are taken, and at which pointers a chunk is out
module _ {A : Type 0} (properties : A → Properties) (IsByteUsed IsAllocated : A → ℕ → Type 0) where
  -- A chunk is out: its segment is active and has handed it out, it isn't empty, it is as large as was asked for at
  -- least, all its bytes are taken, and they lie within the payload.
  pub record IsOut (contents : Contents (Segment A)) (slots : Slots) (chunk : Chunk) : Type 0 where
    pub segment : Segment A
    pub there : segment_value contents slots (segment_of chunk.pointer) ≡ Some segment
    pub allocated : IsAllocated segment.allocator (pointer_offset (offset_of chunk.pointer) 0)
    pub sized : chunk_size (properties segment.allocator) chunk.layout ≡ chunk.size
    pub not_empty : 0 < chunk.size
    pub large : chunk.layout.size ≤ chunk.size
    pub taken : (byte : ℕ) → IsInChunk chunk.pointer chunk.size byte → IsByteUsed segment.allocator byte
    pub within : IsInPayload segment.payload (offset_of chunk.pointer) chunk.size

  -- These chunks are out, no two of them overlap, and each segment is counted once for each of them that lies in it.
  pub record AreOut (contents : Contents (Segment A)) (slots : Slots) (chunks : List Chunk) : Type 0 where
    pub each : AllByRecursion (IsOut contents slots) chunks
    pub apart : NoneOverlap chunks
    pub counted : (number : ℕ) → count_at slots number ≡ number_within number chunks

  -- A chunk of a layout was handed out at a pointer, of this size in its segment: with any chunks that were out it is
  -- out then, and each of them is out still.
  abbrev pub AddsSized : Contents (Segment A) → Slots → SizeAndAlignment → ℕ → Contents (Segment A) → Slots → Type 0
  AddsSized old before layout pointer new after =
      (size : ℕ) (chunks : List Chunk) (segment : Segment A) →
      segment_value new after (segment_of pointer) ≡ Some segment →
      chunk_size (properties segment.allocator) layout ≡ size → 0 < size → layout.size ≤ size →
      AreOut old before chunks → AreOut new after (record { pointer = pointer; layout = layout; size = size } ∷ chunks)

  -- A chunk of a layout was handed out at a pointer: where it was asked for a byte at least it is out then, with any
  -- chunks that were out, and each of them is out still.
  abbrev pub AddsChunk : Contents (Segment A) → Slots → SizeAndAlignment → ℕ → Contents (Segment A) → Slots → Type 0
  AddsChunk old before layout pointer new after =
      (chunks : List Chunk) → 0 < layout.size → AreOut old before chunks →
      (size : ℕ) × AreOut new after (record { pointer = pointer; layout = layout; size = size } ∷ chunks)

  -- The chunk at a pointer was taken back: of any chunks that were out, it is out no more, and each other is out still.
  abbrev pub RemovesChunk : Contents (Segment A) → Slots → ℕ → Contents (Segment A) → Slots → Type 0
  RemovesChunk old before pointer new after =
      (index : ℕ) (chunk : Chunk) (chunks : List Chunk) → slice_get chunks index ≡ Some chunk →
      chunk.pointer ≡ pointer → AreOut old before chunks → AreOut new after (without_chunk index chunks)
