-- A bump allocator: its memory is used from the front on, and nothing is given back.
use Rattle.std.specs.Prelude.{ℕ, ◌+◌, ◌<◌, ◌≤◌, ◌≡◌, Bool, false, nat_lt, ◌==◌, if◌then◌else◌, Option, Some, None}
use Rattle.std.specs.Int.{next_multiple_of}
use Rattle.cal_alloc.specs.Chunks.{Properties}
use Rattle.cal_alloc.specs.SizeAndAlignment.{SizeAndAlignment}
use Rattle.cal_alloc.specs.PointerOffset.{pointer_offset, offset_of}
use Rattle.cal_alloc.specs.declared.shm_allocator.ShmAllocationError.{ShmAllocationError}
use Rattle.cal_alloc.specs.declared.shm_allocator.ShmAllocationError.TheVariants.{ExceedsMaxSupportedAlignment, OutOfMemory, SizeIsZero}
use Rattle.cal_alloc.specs.Limits.{max_memory_size}

-- the bytes of its memory, how many from the front on are used, the greatest alignment that its memory gives, and
-- whether `init` has answered Ok
pub record Bump : Type 0 where
  pub total : ℕ
  pub used : ℕ
  pub memory_alignment : ℕ
  pub is_ready : Bool

-- what every bump allocator keeps: no more bytes are used than there are, and these are within the limit of memory
pub record IsSoundBump (bump : Bump) : Type 0 where
  pub used : bump.used ≤ bump.total
  pub total : bump.total ≤ max_memory_size

-- a new bump allocator: no byte is used, and `init` is still to be called
abbrev pub new_bump : ℕ → ℕ → Bump
new_bump memory_alignment memory_size =
    record { total = memory_size; used = 0; memory_alignment = memory_alignment; is_ready = false }

-- the first byte of the next chunk: the used length, rounded up to the alignment
abbrev pub next_offset : Bump → SizeAndAlignment → ℕ
next_offset bump layout = next_multiple_of bump.used layout.alignment

-- why a bump allocator refuses a layout, the first cause that holds; None where it serves it
abbrev pub bump_refusal : Bump → SizeAndAlignment → Option ShmAllocationError
bump_refusal bump layout =
    if nat_lt 8 layout.alignment then Some ExceedsMaxSupportedAlignment
    else if layout.size == 0 then Some SizeIsZero
    else if nat_lt bump.total (next_offset bump layout + layout.size) then Some OutOfMemory
    else None

-- the bytes from the next pointer on are used, as many as were asked for
pub record GivesNextOffset (old : Bump) (layout : SizeAndAlignment) (pointer : ℕ) (new : Bump) : Type 0 where
  pub served : bump_refusal old layout ≡ None
  pub at_start : pointer ≡ pointer_offset (next_offset old layout) 0
  pub after : new ≡ record old { used = next_offset old layout + layout.size }

-- a byte lies below the used length
abbrev pub IsBelowUsed : Bump → ℕ → Type 0
IsBelowUsed bump byte = byte < bump.used

-- the first byte of a pointer lies there
abbrev pub IsAllocatedBelowUsed : Bump → ℕ → Type 0
IsAllocatedBelowUsed bump pointer = IsBelowUsed bump (offset_of pointer)

-- a byte lies between the used length and the pointer of the next chunk
abbrev pub IsPaddingBefore : Bump → ℕ → ℕ → Type 0
IsPaddingBefore bump pointer byte = (bump.used ≤ byte) × (byte < offset_of pointer)

-- what doesn't change while a bump allocator serves
abbrev pub bump_properties : Bump → Properties
bump_properties bump = record {
  total = bump.total;
  max_alignment = 8;
  memory_alignment = bump.memory_alignment;
  chunk_size = None;
  is_ready = bump.is_ready;
}
