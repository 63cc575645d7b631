-- A pool: a row of equal buckets, each free or used. A bucket is named by its number, from 0, and starts at that number
-- times the bucket size.
use Rattle.std.specs.Prelude.{ℕ, ◌*◌, ◌/◌, ◌^◌, ◌<◌, ◌≤◌, ◌≡◌, IsTrue, length, List, Bool, true, false, ◌&&◌, nat_lt, nat_le, if◌then◌else◌, Option, Some, None, slice_index_or, slice_set, replicate, count_by}
use Rattle.std.specs.List.{list_all}
use Rattle.std.specs.Int.{is_power_of_two, next_multiple_of}
use Rattle.cal_alloc.specs.Growth.{SegmentLayout, bucket_size_of}
use Rattle.cal_alloc.specs.Chunks.{Properties}
use Rattle.cal_alloc.specs.SizeAndAlignment.{SizeAndAlignment}
use Rattle.cal_alloc.specs.PointerOffset.{pointer_offset, offset_of}
use Rattle.cal_alloc.specs.declared.shm_allocator.ShmAllocationError.{ShmAllocationError}
use Rattle.cal_alloc.specs.declared.shm_allocator.ShmAllocationError.TheVariants.{ExceedsMaxSupportedAlignment, SizeTooLarge, OutOfMemory}
use Rattle.cal_alloc.specs.Limits.{max_memory_size, bucket_limit}

-- its buckets, the greatest alignment that its memory gives, a mark for each bucket that says whether it's used, and
-- whether `init` has answered Ok
pub record Pool : Type 0 where
  pub buckets : SegmentLayout
  pub memory_alignment : ℕ
  pub used : List Bool
  pub is_ready : Bool

-- the buckets that memory of this size is cut into
abbrev pub buckets_within : ℕ → SizeAndAlignment → SegmentLayout
buckets_within memory_size layout = record {
  size = bucket_size_of layout.size layout.alignment;
  alignment = layout.alignment;
  count = memory_size / bucket_size_of layout.size layout.alignment;
}

-- memory of this size can be cut into such buckets: the limits of all bytes, of the bytes of one bucket and of buckets
-- are kept
abbrev pub pool_fits : ℕ → SizeAndAlignment → Bool
pool_fits memory_size layout =
    nat_le memory_size max_memory_size &&
    (nat_lt (buckets_within memory_size layout).size (2 ^ 64) &&
    nat_lt (buckets_within memory_size layout).count bucket_limit)

-- a new pool: every bucket is free, and `init` is still to be called
abbrev pub new_pool : ℕ → ℕ → SizeAndAlignment → Pool
new_pool memory_alignment memory_size layout = record {
  buckets = buckets_within memory_size layout;
  memory_alignment = memory_alignment;
  used = replicate (buckets_within memory_size layout).count false;
  is_ready = false;
}

-- the bucket is used
abbrev pub is_used : Pool → ℕ → Bool
is_used pool bucket = slice_index_or pool.used bucket false

-- how many buckets are used
abbrev pub number_of_used : Pool → ℕ
number_of_used pool = count_by (λ mark. mark) pool.used

-- no bucket is free
abbrev pub is_full : Pool → Bool
is_full pool = list_all (λ mark. mark) pool.used

-- the first byte of a bucket
abbrev pub offset_of_bucket : Pool → ℕ → ℕ
offset_of_bucket pool bucket = bucket * pool.buckets.size

-- the bucket that a pointer lies in
abbrev pub bucket_of : Pool → ℕ → ℕ
bucket_of pool pointer = offset_of pointer / pool.buckets.size

-- the pool, but this bucket marked as used or as free
abbrev pub with_mark : Pool → ℕ → Bool → Pool
with_mark pool bucket mark = record pool { used = slice_set pool.used bucket mark }

-- why a pool refuses a layout, the first cause that holds; None where it serves it
abbrev pub pool_refusal : Pool → SizeAndAlignment → Option ShmAllocationError
pool_refusal pool layout =
    if nat_lt pool.buckets.alignment layout.alignment then Some ExceedsMaxSupportedAlignment
    else if nat_lt pool.buckets.size layout.size then Some SizeTooLarge
    else if is_full pool then Some OutOfMemory
    else None

-- what every pool keeps: buckets of at least one byte, a multiple of their alignment, within the limits of memory, and
-- one mark for each
pub record IsSoundPool (pool : Pool) : Type 0 where
  pub not_empty : 0 < pool.buckets.size
  pub power : IsTrue (is_power_of_two pool.buckets.alignment)
  pub padded : next_multiple_of pool.buckets.size pool.buckets.alignment ≡ pool.buckets.size
  pub within : pool.buckets.count * pool.buckets.size ≤ max_memory_size
  pub few : pool.buckets.count < bucket_limit
  pub marked : length pool.used ≡ pool.buckets.count

-- the new pool is the old one, but a bucket that was free is used: the one that starts at the pointer, in segment 0
pub record GivesFreeBucket (old : Pool) (pointer : ℕ) (new : Pool) : Type 0 where
  pub sound : IsSoundPool old
  pub exists : bucket_of old pointer < old.buckets.count
  pub was_free : is_used old (bucket_of old pointer) ≡ false
  pub at_start : pointer ≡ pointer_offset (offset_of_bucket old (bucket_of old pointer)) 0
  pub after : new ≡ with_mark old (bucket_of old pointer) true

-- the pointer is the start of a used bucket
pub record IsUsedBucket (pool : Pool) (pointer : ℕ) : Type 0 where
  pub at_start : offset_of pointer ≡ offset_of_bucket pool (bucket_of pool pointer)
  pub is_used : is_used pool (bucket_of pool pointer) ≡ true

-- the pool, but the bucket that starts at the pointer free
abbrev pub after_deallocation : Pool → ℕ → Pool
after_deallocation pool pointer = with_mark pool (bucket_of pool pointer) false

-- the new pool is the old one, but the bucket that starts at the pointer is free
pub record FreesBucket (old : Pool) (pointer : ℕ) (new : Pool) : Type 0 where
  pub sound : IsSoundPool old
  pub was_used : IsUsedBucket old pointer
  pub after : new ≡ after_deallocation old pointer

-- a byte lies in a used bucket
abbrev pub IsInUsedBucket : Pool → ℕ → Type 0
IsInUsedBucket pool byte = is_used pool (byte / pool.buckets.size) ≡ true

-- what doesn't change while a pool serves
abbrev pub pool_properties : Pool → Properties
pool_properties pool = record {
  total = pool.buckets.count * pool.buckets.size;
  max_alignment = pool.buckets.alignment;
  memory_alignment = pool.memory_alignment;
  chunk_size = Some pool.buckets.size;
  is_ready = pool.is_ready;
}
