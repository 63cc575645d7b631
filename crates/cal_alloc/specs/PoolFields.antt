-- what a pool's fields stand for, and what they keep
use Rattle.std.specs.Prelude.{length}
use Rattle.cal_alloc.specs.Pool.{Pool, IsSoundPool}
use Rattle.cal_alloc.specs.declared.pool_allocator.PoolAllocator.TheInside.{Inside}

-- there are as many buckets as have a mark
abbrev pub pool_of : Inside → Pool
pool_of a = record {
  buckets = record { size = a.bucket_size; alignment = a.alignment; count = length a.buckets.used };
  memory_alignment = a.memory_alignment;
  used = a.buckets.used;
  is_ready = a.buckets.is_ready;
}

-- every pool is sound
abbrev pub IsKept : Inside → Type 0
IsKept a = IsSoundPool (pool_of a)
