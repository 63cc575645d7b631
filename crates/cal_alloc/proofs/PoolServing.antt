-- Memory that is set up by a pool's hint: it fits, and serves the layout that was asked for.
use Rattle.std.proofs.Common.{◌≡◌, ◌≢◌, ℕ, zero, suc, ◌+◌, ◌*◌, ◌/◌, ◌^◌, ◌<◌, ◌≤◌, max, Bool, true, false, ◌&&◌, IsTrue, nat_le, nat_lt, if◌then◌else◌, Some, None, replicate, refl, ◌∙◌, arith, ◌⊎◌, inl, inr}
use Rattle.std.specs.Int.{next_multiple_of, is_power_of_two}
use Rattle.std.specs.List.{list_all}
use Rattle.std.proofs.lemmas.Bool.{cases_lt}
use Rattle.std.proofs.Math.Nat.{mul-div_cancel_left, zero-div, zero-mul}
use Rattle.cal_alloc.specs.Growth.{SegmentLayout, bucket_size_of, fits_bucket, raised_count, raised_size, raised_buckets, grown_buckets, least_power_of_two}
use Rattle.cal_alloc.specs.Hints.{is_in_range, pool_setup_hint, pool_resize_hint}
use Rattle.cal_alloc.specs.Pool.{Pool, IsSoundPool, pool_fits, new_pool, is_full, pool_refusal}
use Rattle.cal_alloc.specs.SizeAndAlignment.{SizeAndAlignment}
use Rattle.cal_alloc.specs.declared.allocation_strategy.AllocationStrategy.{AllocationStrategy}
use Rattle.cal_alloc.specs.declared.allocation_strategy.AllocationStrategy.TheVariants.{BestFit, PowerOfTwo, Static}
use Rattle.cal_alloc.proofs.Padding.{positive_power, next_multiple_of-twice, next_multiple_of-one}
use Rattle.cal_alloc.proofs.Marks.{counted-lt-length}
use Rattle.cal_alloc.proofs.Powers.{least_power_of_two-ge}
use Rattle.cal_alloc.specs.declared.shm_allocator.SharedMemorySetupHint.{SharedMemorySetupHint}
use Rattle.cal_alloc.specs.declared.pool_allocator.Config.{Config}

-- a size that is padded already is a bucket's size, unless it is 0
pub bucket_size_of-padded : (size alignment : ℕ) → 0 < size → next_multiple_of size alignment ≡ size →
    bucket_size_of size alignment ≡ size
bucket_size_of-padded size alignment positive padded =
    let same : max 1 size ≡ size = omega arith in rw same padded

all-true : (payload size count : ℕ) → payload ≤ 2 ^ 56 → size < 2 ^ 64 → count < 2 ^ 32 →
    (nat_le payload (2 ^ 56) && (nat_lt size (2 ^ 64) && nat_lt count (2 ^ 32))) ≡ true
all-true payload size count within small few = grind arith

-- a hint fits
pub setup_hint_fits : (size alignment count payload : ℕ) → IsTrue (is_power_of_two alignment) → alignment < 2 ^ 64 →
    size < 2 ^ 64 → next_multiple_of size alignment ≡ size → payload ≡ size * count → payload ≤ 2 ^ 56 →
    count < 2 ^ 32 → IsTrue (pool_fits payload (record { size = size; alignment = alignment }))
setup_hint_fits size alignment count payload power low small padded is_payload within few = from (cases_lt 0 size)
  where
    positive : 0 < alignment
    positive = positive_power alignment power

    from : (0 < size) ⊎ (size ≤ 0) → IsTrue (pool_fits payload (record { size = size; alignment = alignment }))
    from (inl some) =
        let same = bucket_size_of-padded size alignment some padded in
        let whole : size * count / size ≡ count = mul-div_cancel_left count some in
        rw (same, is_payload, whole) (all-true (size * count) size count (omega (arith, within, is_payload)) small few)
    from (inr none) =
        let zero_size : size ≡ 0 = omega arith in
        let same : bucket_size_of size alignment ≡ alignment = rw zero_size (next_multiple_of-one alignment positive) in
        let nothing : payload ≡ 0 = rw zero_size at is_payload ∙ zero-mul count in
        let no_bucket : 0 / alignment ≡ 0 = zero-div alignment in
        rw (same, nothing, no_bucket) (all-true 0 alignment 0 (omega arith) low (omega arith))

-- a row of buckets that serves a chunk of this size and alignment
pub record Serves (buckets : SegmentLayout) (size alignment : ℕ) : Type 0 where
  pub not_empty : 0 < buckets.size
  pub large_enough : size ≤ buckets.size
  pub aligned : alignment ≤ buckets.alignment
  pub some : 0 < buckets.count
  pub padded : next_multiple_of buckets.size buckets.alignment ≡ buckets.size

-- the row that is raised, by whether the chunk fits the old one's buckets
abbrev row_if : AllocationStrategy → SegmentLayout → Bool → ℕ → ℕ → Bool → SegmentLayout
row_if strategy old all_used size alignment fits = record {
  size = if fits then old.size else raised_size strategy (max old.size size) (max old.alignment alignment);
  alignment = max old.alignment alignment;
  count = if all_used then raised_count strategy old.count else old.count;
}

-- a row that is raised is one, where the strategy raises sizes and counts
raised-Serves : (strategy : AllocationStrategy) (old : SegmentLayout) (all_used : Bool) (size alignment : ℕ) →
    0 < old.size → IsTrue (is_power_of_two old.alignment) → next_multiple_of old.size old.alignment ≡ old.size →
    (all_used ≡ false → 0 < old.count) → ((n a : ℕ) → 0 < a → n ≤ raised_size strategy n a) →
    ((n a : ℕ) → 0 < a → next_multiple_of (raised_size strategy n a) a ≡ raised_size strategy n a) →
    ((n : ℕ) → 0 < raised_count strategy n) →
    Serves (raised_buckets strategy old all_used size alignment) size alignment
raised-Serves strategy old all_used size alignment positive power padded some larger multiple more =
    from (fits_bucket old size alignment) refl
  where
    not_zero : 0 < max old.alignment alignment
    not_zero = omega (arith, positive_power old.alignment power)

    counted : (used : Bool) → all_used ≡ used → 0 < (if used then raised_count strategy old.count else old.count)
    counted true e = more old.count
    counted false e = some e

    from : (fits : Bool) → fits_bucket old size alignment ≡ fits →
        Serves (row_if strategy old all_used size alignment fits) size alignment
    from true e =
        let small : size ≤ old.size = grind arith in
        let low : alignment ≤ old.alignment = grind arith in
        let same : max old.alignment alignment ≡ old.alignment = omega arith in
        record {
          not_empty = positive;
          large_enough = small;
          aligned = omega arith;
          some = counted all_used refl;
          padded = rw same padded;
        }
    from false e =
        let raised = larger (max old.size size) (max old.alignment alignment) not_zero in
        record {
          not_empty = omega (arith, raised);
          large_enough = omega (arith, raised);
          aligned = omega arith;
          some = counted all_used refl;
          padded = multiple (max old.size size) (max old.alignment alignment) not_zero;
        }

-- growth gives one
pub grown_buckets-Serves : (strategy : AllocationStrategy) (old : SegmentLayout) (all_used : Bool) (size alignment : ℕ)
    → strategy ≢ Static → 0 < old.size → IsTrue (is_power_of_two old.alignment) →
    next_multiple_of old.size old.alignment ≡ old.size → (all_used ≡ false → 0 < old.count) →
    Serves (grown_buckets strategy old all_used size alignment) size alignment
grown_buckets-Serves BestFit old all_used size alignment growing positive power padded some =
    raised-Serves BestFit old all_used size alignment positive power padded some (λ n a _. omega arith)
    (λ n a not_zero. next_multiple_of-twice n a not_zero) (λ n. omega arith)
grown_buckets-Serves PowerOfTwo old all_used size alignment growing positive power padded some =
    raised-Serves PowerOfTwo old all_used size alignment positive power padded some
    (λ n a _. omega (arith, least_power_of_two-ge n))
    (λ n a not_zero. next_multiple_of-twice (least_power_of_two n) a not_zero)
    (λ n. omega (arith, least_power_of_two-ge (n + 1)))
grown_buckets-Serves Static old all_used size alignment growing positive power padded some = absurd (growing refl)

-- some bucket of a new pool is free, where it has one
not_full : (count : ℕ) → 0 < count → list_all (λ mark. mark) (replicate count false) ≡ false
not_full zero some = absurd (omega arith)
not_full (suc count) some = refl

-- a new pool of such a row serves the chunk
pub Serves-served : (buckets : SegmentLayout) (memory_alignment : ℕ) (layout : SizeAndAlignment) →
    Serves buckets layout.size layout.alignment →
    pool_refusal (record {
      buckets = buckets;
      memory_alignment = memory_alignment;
      used = replicate buckets.count false;
      is_ready = true;
    }) layout ≡ None
Serves-served buckets memory_alignment layout serves =
    let free = not_full buckets.count serves.some in
    let large_enough = serves.large_enough in
    let aligned = serves.aligned in
    grind arith

-- what a hint is made of
setup_hint-is : (layout : SizeAndAlignment) (count : ℕ) (hint : SharedMemorySetupHint Config) →
    pool_setup_hint layout count ≡ Some hint →
    hint ≡ record {
      payload_size = next_multiple_of layout.size layout.alignment * count;
      config = record {
        bucket_layout =
            record { size = next_multiple_of layout.size layout.alignment; alignment = layout.alignment };
      };
    }
setup_hint-is layout count hint given = from (is_in_range (next_multiple_of layout.size layout.alignment) count) given
  where
    proposed : SharedMemorySetupHint Config
    proposed = record {
      payload_size = next_multiple_of layout.size layout.alignment * count;
      config = record {
        bucket_layout =
            record { size = next_multiple_of layout.size layout.alignment; alignment = layout.alignment };
      };
    }

    from : (in_range : Bool) → (if in_range then Some proposed else None) ≡ Some hint → hint ≡ proposed
    from true e = cc
    from false e = absurd cc

-- so the pool that is made by the hint serves the layout
pub resize_hint_serves : (pool : Pool) (layout : SizeAndAlignment) (strategy : AllocationStrategy)
    (hint : SharedMemorySetupHint Config) → IsSoundPool pool → strategy ≢ Static →
    pool_resize_hint pool layout strategy ≡ Some hint → (memory_alignment : ℕ) →
    pool_refusal (record (new_pool memory_alignment hint.payload_size hint.config.bucket_layout) { is_ready = true })
    layout ≡ None
resize_hint_serves pool layout strategy hint sound growing given memory_alignment =
    let grown = grown_buckets strategy pool.buckets (is_full pool) layout.size layout.alignment in
    let serves = grown_buckets-Serves strategy pool.buckets (is_full pool) layout.size layout.alignment growing
    sound.not_empty sound.power sound.padded (some_bucket pool sound) in
    let same = bucket_size_of-padded grown.size grown.alignment serves.not_empty serves.padded in
    let whole : grown.size * grown.count / grown.size ≡ grown.count =
    mul-div_cancel_left grown.count serves.not_empty in
    rw (
      setup_hint-is (record { size = grown.size; alignment = grown.alignment }) grown.count hint given,
      serves.padded,
      same,
      whole,
    )
    (Serves-served grown memory_alignment layout serves)
  where
    some_bucket : (pool : Pool) → IsSoundPool pool → is_full pool ≡ false → 0 < pool.buckets.count
    some_bucket pool sound free = omega (arith, counted-lt-length pool.used free, sound.marked)
