-- The rules of a pool, as those of an allocator.
use Rattle.std.proofs.Common.{true}
use Rattle.cal_alloc.specs.Hints.{pool_setup_hint, pool_resize_hint}
use Rattle.cal_alloc.specs.Pool.{Pool, IsSoundPool, pool_fits, buckets_within, new_pool, pool_properties, pool_refusal, GivesFreeBucket, IsUsedBucket, IsInUsedBucket, FreesBucket}
use Rattle.cal_alloc.specs.declared.pool_allocator.Config.{Config}
use Rattle.cal_alloc.specs.declared.shm_allocator.ShmAllocator as shm_allocator

abbrev pub pool_rules : shm_allocator.Ghosts Pool Config
pool_rules = record {
  unique_id = 0;
  growth_raises_alignment = true;
  fits = λ size config. pool_fits size config.bucket_layout;
  management_size = λ size config. (buckets_within size config.bucket_layout).count;
  new_uninit = λ alignment size config. new_pool alignment size config.bucket_layout;
  initial_setup_hint = pool_setup_hint;
  IsSound = IsSoundPool;
  properties = pool_properties;
  IsByteUsed = IsInUsedBucket;
  IsAllocated = IsUsedBucket;
  refusal = pool_refusal;
  resize_hint = pool_resize_hint;
  after_init = λ pool. record pool { is_ready = true };
  Allocates = λ old _ pointer new. GivesFreeBucket old pointer new;
  IsPadding = λ _ _ _. ⊥;
  Deallocates = FreesBucket;
}
