-- What any allocator does to the bytes of its memory. A byte is taken from when a chunk that holds it is given out
-- until that
-- chunk is given back.
use Rattle.std.specs.Prelude.{ℕ, ◌+◌, ◌<◌, ◌≤◌, ◌≡◌, ◌≢◌, ◌↔◌, true, IsFalse, Bool, Option, Some, None}
use Rattle.cal_alloc.specs.SizeAndAlignment.{SizeAndAlignment}
use Rattle.cal_alloc.specs.PointerOffset.{offset_of, segment_of}

-- what an allocator has beside its chunks: the bytes that it manages, the greatest alignment that a chunk can have, the
-- greatest that its memory gives, the size of every chunk (None where each has the size that was asked for), and
-- whether
-- `init` has answered Ok
pub record Properties : Type 0 where
  pub total : ℕ
  pub max_alignment : ℕ
  pub memory_alignment : ℕ
  pub chunk_size : Option ℕ
  pub is_ready : Bool

-- the size of the chunk that is given out for a layout
abbrev pub size_of_chunk : Option ℕ → SizeAndAlignment → ℕ
size_of_chunk (Some size) layout = size
size_of_chunk None layout = layout.size

abbrev pub chunk_size : Properties → SizeAndAlignment → ℕ
chunk_size properties layout = size_of_chunk properties.chunk_size layout

-- a byte of the chunk of this size at this pointer
abbrev pub IsInChunk : ℕ → ℕ → ℕ → Type 0
IsInChunk pointer size byte = (offset_of pointer ≤ byte) × (byte < offset_of pointer + size)

-- The bytes of a chunk that was given out weren't taken before and are taken after. Others are as they were, but for
-- those
-- that are skipped so that the chunk is aligned, which weren't taken before.
pub record TakesChunk (UsedBefore UsedAfter IsPadding : ℕ → Type 0) (pointer size : ℕ) : Type 0 where
  pub was_free : (byte : ℕ) → IsInChunk pointer size byte → ¬ UsedBefore byte
  pub is_used_after : (byte : ℕ) → IsInChunk pointer size byte → UsedAfter byte
  pub others_used : (byte : ℕ) → UsedBefore byte → UsedAfter byte
  pub others_free : (byte : ℕ) → ¬ IsInChunk pointer size byte → ¬ IsPadding byte → UsedAfter byte → UsedBefore byte
  pub padding_free : (byte : ℕ) → IsPadding byte → ¬ UsedBefore byte

-- Of the bytes that were taken before a chunk was given back at most its own are free after, and no other byte is
-- taken.
pub record FreesChunk (UsedBefore UsedAfter : ℕ → Type 0) (pointer size : ℕ) : Type 0 where
  pub others_used : (byte : ℕ) → ¬ IsInChunk pointer size byte → UsedBefore byte → UsedAfter byte
  pub no_more : (byte : ℕ) → UsedAfter byte → UsedBefore byte

-- a new allocator: it manages no more than the memory that it was made for, no byte is taken, and `init` is still to be
-- called
pub record IsNew (properties : Properties) (Taken : ℕ → Type 0) (memory_alignment memory_size : ℕ) : Type 0 where
  pub total : properties.total ≤ memory_size
  pub alignment : properties.memory_alignment ≡ memory_alignment
  pub not_ready : IsFalse properties.is_ready
  pub free : (byte : ℕ) → ¬ Taken byte

-- `init` has answered Ok, and all else is as before
pub record IsInitialized (before after : Properties) (UsedBefore UsedAfter : ℕ → Type 0) : Type 0 where
  pub properties : after ≡ record before { is_ready = true }
  pub bytes : (byte : ℕ) → UsedAfter byte ↔ UsedBefore byte

-- A chunk was given out at this pointer: it lies in segment 0, within the bytes that its allocator manages. It is out
-- then, and so
-- is each that was.
pub record IsAllocation (before after : Properties) (UsedBefore UsedAfter AllocatedBefore AllocatedAfter IsPadding : ℕ →
    Type 0) (layout : SizeAndAlignment) (pointer : ℕ) : Type 0 where
  pub properties : after ≡ before
  pub segment : segment_of pointer ≡ 0
  pub within : offset_of pointer + chunk_size before layout ≤ before.total
  pub bytes : TakesChunk UsedBefore UsedAfter IsPadding pointer (chunk_size before layout)
  pub out : AllocatedAfter pointer
  pub others_allocated : (other : ℕ) → AllocatedBefore other → AllocatedAfter other

-- The chunk at this pointer was given back. The others stay out.
pub record IsDeallocation (before after : Properties) (UsedBefore UsedAfter AllocatedBefore AllocatedAfter : ℕ → Type 0)
    (pointer : ℕ) : Type 0 where
  pub properties : after ≡ before
  pub bytes : (layout : SizeAndAlignment) → FreesChunk UsedBefore UsedAfter pointer (chunk_size before layout)
  pub others_allocated : (other : ℕ) → offset_of other ≢ offset_of pointer → AllocatedBefore other →
      AllocatedAfter other
