-- What memory an allocator proposes: a payload size, and the configuration to go with it; None where that is out of
-- range.
use Rattle.std.specs.Prelude.{ℕ, ◌+◌, ◌*◌, ◌^◌, ◌-◌, Bool, ◌&&◌, nat_lt, nat_le, if◌then◌else◌, Option, Some, None}
use Rattle.cal_alloc.specs.Growth.{SegmentLayout, padded_size, grown_buckets, least_power_of_two}
use Rattle.cal_alloc.specs.SizeAndAlignment.{SizeAndAlignment}
use Rattle.cal_alloc.specs.Pool.{Pool, is_full}
use Rattle.cal_alloc.specs.Bump.{Bump}
use Rattle.cal_alloc.specs.declared.allocation_strategy.AllocationStrategy.{AllocationStrategy}
use Rattle.cal_alloc.specs.declared.allocation_strategy.AllocationStrategy.TheVariants.{BestFit, PowerOfTwo, Static}
use Rattle.cal_alloc.specs.declared.shm_allocator.SharedMemorySetupHint.{SharedMemorySetupHint}
use Rattle.cal_alloc.specs.declared.pool_allocator.Config as PoolConfig
use Rattle.cal_alloc.specs.declared.bump_allocator.Config as BumpConfig
use Rattle.cal_alloc.specs.Limits.{max_memory_size, bucket_limit}

-- so many buckets of this padded size are within the limits: of all bytes, of buckets, and of the bytes of one bucket
abbrev pub is_in_range : ℕ → ℕ → Bool
is_in_range size count = nat_le (size * count) max_memory_size && (nat_lt count bucket_limit && nat_lt size (2 ^ 64))

-- memory for so many buckets of that layout, whose size is padded to the alignment
abbrev pub pool_setup_hint : SizeAndAlignment → ℕ → Option (SharedMemorySetupHint PoolConfig.Config)
pool_setup_hint layout count =
    let size = padded_size layout.size layout.alignment in
    if is_in_range size count
    then Some (record {
      payload_size = size * count;
      config = record { bucket_layout = record { size = size; alignment = layout.alignment } };
    })
    else None

-- the buckets that a strategy takes next for a pool that doesn't serve this layout
abbrev pub buckets_after : AllocationStrategy → Pool → SizeAndAlignment → SegmentLayout
buckets_after strategy pool layout =
    grown_buckets strategy pool.buckets (is_full pool) layout.size layout.alignment

-- memory for the buckets that a strategy takes next
abbrev pub pool_resize_hint : Pool → SizeAndAlignment → AllocationStrategy →
    Option (SharedMemorySetupHint PoolConfig.Config)
pool_resize_hint pool layout strategy =
    let grown = buckets_after strategy pool layout in
    pool_setup_hint (record { size = grown.size; alignment = grown.alignment }) grown.count

-- memory of this size, where that is within the limit
abbrev pub bump_hint : ℕ → Option (SharedMemorySetupHint BumpConfig.Config)
bump_hint size = if nat_le size max_memory_size then Some (record { payload_size = size; config = record {} }) else None

-- what a strategy makes of a payload that has no room for a chunk of this size
abbrev pub raised_payload : AllocationStrategy → ℕ → ℕ → ℕ
raised_payload BestFit payload size = payload + size
raised_payload PowerOfTwo payload size = least_power_of_two (payload + size)
raised_payload Static payload size = payload

-- the payload stays where more bytes are free than the chunk has
abbrev pub bump_resize_hint : Bump → SizeAndAlignment → AllocationStrategy →
    Option (SharedMemorySetupHint BumpConfig.Config)
bump_resize_hint bump layout strategy =
    bump_hint (if nat_lt layout.size (bump.total - bump.used) then bump.total else raised_payload strategy bump.total
    layout.size)
