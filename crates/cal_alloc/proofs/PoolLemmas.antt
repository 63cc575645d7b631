-- A pool's buckets by their numbers and by their pointers.
use Rattle.std.proofs.Common.{◌≡◌, ℕ, ◌+◌, ◌*◌, ◌/◌, ◌<◌, arith}
use Rattle.std.proofs.lemmas.Nat.{div-mul-add}
use Rattle.cal_alloc.specs.PointerOffset.{pointer_offset}
use Rattle.cal_alloc.specs.Pool.{Pool, offset_of_bucket, bucket_of}

-- the bucket at the pointer where a bucket starts is that bucket
pub bucket_of-offset_of_bucket : (pool : Pool) (bucket : ℕ) → 0 < pool.buckets.size →
    bucket_of pool (pointer_offset (offset_of_bucket pool bucket) 0) ≡ bucket
bucket_of-offset_of_bucket pool bucket positive =
    let size = pool.buckets.size in
    let whole : (bucket * size * 256 + 0) / 256 ≡ bucket * size = omega arith in
    let parts : (bucket * size + 0) / size ≡ bucket = div-mul-add bucket size 0 positive in
    let no_more : bucket * size + 0 ≡ bucket * size = omega arith in
    rw whole (rw no_more at parts)
