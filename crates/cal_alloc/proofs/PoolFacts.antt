-- A new pool is sound.
use Rattle.std.proofs.Common.{◌≡◌, ℕ, ◌/◌, max, false, IsTrue, ◌∙◌, ap, subst, sym, arith}
use Rattle.std.proofs.lemmas.List.{length-replicate}
use Rattle.std.proofs.Math.Nat.{div-mul-le_self}
use Rattle.std.specs.Int.{is_power_of_two}
use Rattle.cal_alloc.specs.FreeBuckets.{BucketMarks, all_free}
use Rattle.cal_alloc.specs.Growth.{bucket_size_of}
use Rattle.cal_alloc.specs.Pool.{IsSoundPool, pool_fits, new_pool}
use Rattle.cal_alloc.specs.PoolFields.{IsKept}
use Rattle.cal_alloc.specs.SizeAndAlignment.{SizeAndAlignment}
use Rattle.cal_alloc.proofs.Padding.{positive_power, next_multiple_of-twice}

pub new_pool-sound : (memory_alignment memory_size : ℕ) (layout : SizeAndAlignment) →
    IsTrue (pool_fits memory_size layout) →
    IsTrue (is_power_of_two layout.alignment) → IsSoundPool (new_pool memory_alignment memory_size layout)
new_pool-sound memory_alignment memory_size layout fits power =
    let size = bucket_size_of layout.size layout.alignment in
    record {
      not_empty = omega arith;
      power = power;
      padded = next_multiple_of-twice (max 1 layout.size) layout.alignment (positive_power layout.alignment power);
      within = grind (arith, div-mul-le_self memory_size size);
      few = grind arith;
      marked = length-replicate (memory_size / size) false;
    }

-- and so are the fields of one
pub kept_new : (memory_alignment memory_size : ℕ) (layout : SizeAndAlignment) → IsTrue (pool_fits memory_size layout) →
    IsTrue (is_power_of_two layout.alignment) → (size alignment : ℕ) (marks : BucketMarks) →
    size ≡ bucket_size_of layout.size layout.alignment → alignment ≡ layout.alignment →
    marks ≡ all_free (memory_size / size) →
    IsKept (record { bucket_size = size; alignment = alignment; memory_alignment = memory_alignment; buckets = marks })
kept_new memory_alignment memory_size layout fits power size alignment marks is_size is_alignment is_marks =
    let buckets = bucket_size_of layout.size layout.alignment in
    let count = memory_size / buckets in
    let free : marks ≡ all_free count = is_marks ∙ ap (λ n. all_free (memory_size / n)) is_size in
    rw (free, is_size, is_alignment)
    (subst (λ n. IsSoundPool (record (new_pool memory_alignment memory_size layout) {
      buckets = record { size = buckets; alignment = layout.alignment; count = n };
    })) (sym (length-replicate count false))
    (new_pool-sound memory_alignment memory_size layout fits power))
