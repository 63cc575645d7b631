-- The laws of allocators, at a pool.
use Rattle.std.proofs.Common.{◌≡◌, ◌≢◌, ℕ, ◌+◌, ◌*◌, ◌/◌, ◌%◌, ◌^◌, ◌<◌, ◌≤◌, IsTrue, Bool, true, false, List, Some, None, length, get_or, set, replicate, refl, sym, ◌∙◌, ap, arith, ◌⊎◌, inl, inr}
use Rattle.std.proofs.lemmas.Bool.{false≢true, cases_eq, cases_lt}
use Rattle.std.proofs.lemmas.List.{get_or-set_same, get_or-set_other, get_or-replicate, get_or_past, length-replicate, length-set}
use Rattle.std.proofs.lemmas.Nat.{div-add-mod', mod_below, mul-le, pow_pos}
use Rattle.std.proofs.Math.Nat.{div-eq_of_lt-le, div-mul-le_self}
use Rattle.cal_alloc.specs.Chunks.{chunk_size, IsInChunk, TakesChunk, FreesChunk, IsNew, IsInitialized, IsAllocation, IsDeallocation}
use Rattle.cal_alloc.specs.Growth.{bucket_size_of}
use Rattle.std.specs.Int.{is_power_of_two}
use Rattle.cal_alloc.specs.Multiples.{two_to, power-multiple, whole_multiple, next_multiple_of-multiple}
use Rattle.cal_alloc.specs.PointerOffset.{offset_of}
use Rattle.cal_alloc.specs.SizeAndAlignment.{SizeAndAlignment}
use Rattle.cal_alloc.specs.Pool.{Pool, IsSoundPool, pool_fits, new_pool, offset_of_bucket, bucket_of, pool_refusal, pool_properties, GivesFreeBucket, FreesBucket, IsUsedBucket, IsInUsedBucket}
use Rattle.cal_alloc.specs.declared.shm_allocator.ShmAllocationError.TheVariants.{SizeIsZero}
use Rattle.cal_alloc.specs.Limits.{max_memory_size}

-- ---- the bucket of a byte

pub bucket_of_byte : (bucket size byte : ℕ) → bucket * size ≤ byte → byte < bucket * size + size → byte / size ≡ bucket
bucket_of_byte bucket size byte from_start below = div-eq_of_lt-le size from_start (omega arith)

pub byte_of_bucket : (bucket size byte : ℕ) → 0 < size → byte / size ≡ bucket →
    (bucket * size ≤ byte) × (byte < bucket * size + size)
byte_of_bucket bucket size byte positive here =
    let parts = rw here at (div-add-mod' byte size) in
    let rest = mod_below byte size positive in
    (omega (arith, parts), omega (arith, parts, rest))

-- ---- marks after a change

-- a mark that is set
pub marked-same : (marks : List Bool) (bucket : ℕ) (mark : Bool) → bucket < length marks →
    get_or (set marks bucket mark) bucket false ≡ mark
marked-same marks bucket mark within = get_or-set_same marks bucket mark false within

-- used ones stay used where one more is
pub marked-used : (marks : List Bool) (bucket other : ℕ) → bucket < length marks → get_or marks other false ≡ true →
    get_or (set marks bucket true) other false ≡ true
marked-used marks bucket other within used = from (cases_eq other bucket)
  where
    from : (other ≡ bucket) ⊎ (other ≢ bucket) → get_or (set marks bucket true) other false ≡ true
    from (inl same) = rw same (marked-same marks bucket true within)
    from (inr apart) = get_or-set_other marks bucket other true false apart ∙ used

-- a mark that is cleared
pub set-free-is_free : (marks : List Bool) (bucket : ℕ) → get_or (set marks bucket false) bucket false ≡ false
set-free-is_free marks bucket = from (cases_lt bucket (length marks))
  where
    from : (bucket < length marks) ⊎ (length marks ≤ bucket) → get_or (set marks bucket false) bucket false ≡ false
    from (inl within) = marked-same marks bucket false within
    from (inr past) = get_or_past (set marks bucket false) bucket false (omega (arith, length-set marks bucket false))

-- where one is free again, no more are used
pub marked-free : (marks : List Bool) (bucket other : ℕ) → get_or (set marks bucket false) other false ≡ true →
    get_or marks other false ≡ true
marked-free marks bucket other used = from (cases_eq other bucket)
  where
    from : (other ≡ bucket) ⊎ (other ≢ bucket) → get_or marks other false ≡ true
    from (inl same) = absurd (false≢true (sym (set-free-is_free marks bucket) ∙ rw same at used))
    from (inr apart) = sym (get_or-set_other marks bucket other false false apart) ∙ used

-- a mark that is true is one of the marks
pub used-within : (marks : List Bool) (bucket : ℕ) → get_or marks bucket false ≡ true → bucket < length marks
used-within marks bucket used = from (cases_lt bucket (length marks))
  where
    from : (bucket < length marks) ⊎ (length marks ≤ bucket) → bucket < length marks
    from (inl within) = within
    from (inr past) = absurd (false≢true (sym (get_or_past marks bucket false past) ∙ used))

-- ---- a new pool

-- none of its marks is set
pub none_used : (count bucket : ℕ) → get_or (replicate count false) bucket false ≡ false
none_used count bucket = from (cases_lt bucket count)
  where
    from : (bucket < count) ⊎ (count ≤ bucket) → get_or (replicate count false) bucket false ≡ false
    from (inl within) = get_or-replicate count bucket false false within
    from (inr past) = get_or_past (replicate count false) bucket false (omega (arith, length-replicate count false))

pub new_pool-IsNew : (memory_alignment memory_size : ℕ) (layout : SizeAndAlignment) →
    IsNew (pool_properties (new_pool memory_alignment memory_size layout))
    (IsInUsedBucket (new_pool memory_alignment memory_size layout)) memory_alignment memory_size
new_pool-IsNew memory_alignment memory_size layout =
    let size = bucket_size_of layout.size layout.alignment in
    record {
      total = div-mul-le_self memory_size size;
      alignment = refl;
      not_ready = refl;
      free = λ byte used. false≢true (sym (none_used (memory_size / size) (byte / size)) ∙ used);
    }

-- to make a pool ready leaves its marks
pub initialized_pool-IsInitialized : (old : Pool) →
    IsInitialized (pool_properties old) (pool_properties (record old { is_ready = true })) (IsInUsedBucket old)
    (IsInUsedBucket (record old { is_ready = true }))
initialized_pool-IsInitialized old = record { properties = refl; bytes = λ byte. (λ used. used, λ used. used) }

-- ---- a bucket that is given out

-- it begins at the pointer
pub given_start : (old : Pool) (pointer : ℕ) (new : Pool) → GivesFreeBucket old pointer new →
    offset_of pointer ≡ offset_of_bucket old (bucket_of old pointer)
given_start old pointer new gives = let at_start = gives.at_start in omega arith

-- and has a mark
pub given_within : (old : Pool) (pointer : ℕ) (new : Pool) → GivesFreeBucket old pointer new →
    bucket_of old pointer < length old.used
given_within old pointer new gives = omega (arith, gives.exists, gives.sound.marked)

-- its bytes
pub given_bytes : (old : Pool) (pointer : ℕ) (new : Pool) → GivesFreeBucket old pointer new →
    TakesChunk (IsInUsedBucket old) (IsInUsedBucket new) (λ _. ⊥) pointer old.buckets.size
given_bytes old pointer new gives = record {
  was_free = λ byte inside used. false≢true (sym gives.was_free ∙ rw (here byte inside) at used);
  is_used_after = λ byte inside.
      rw (gives.after, here byte inside)
      (marked-same old.used (bucket_of old pointer) true (given_within old pointer new gives));
  others_used = λ byte used.
      rw gives.after (marked-used old.used (bucket_of old pointer) (byte / old.buckets.size)
      (given_within old pointer new gives) used);
  others_free = λ byte outside _ used.
      rw (get_or-set_other old.used (bucket_of old pointer) (byte / old.buckets.size) true false
      (elsewhere byte outside)) at (rw gives.after at used);
  padding_free = λ byte skipped. absurd skipped;
}
  where
    here : (byte : ℕ) → IsInChunk pointer old.buckets.size byte → byte / old.buckets.size ≡ bucket_of old pointer
    here byte inside =
        let start = given_start old pointer new gives in
        bucket_of_byte (bucket_of old pointer) old.buckets.size byte (omega (arith, start, inside.0))
        (omega (arith, start, inside.1))

    elsewhere : (byte : ℕ) → ¬ IsInChunk pointer old.buckets.size byte → byte / old.buckets.size ≢ bucket_of old pointer
    elsewhere byte outside same =
        let start = given_start old pointer new gives in
        let bounds = byte_of_bucket (bucket_of old pointer) old.buckets.size byte gives.sound.not_empty same in
        outside (omega (arith, start, bounds.0), omega (arith, start, bounds.1))

-- it is out then
pub given_out : (old : Pool) (pointer : ℕ) (new : Pool) → GivesFreeBucket old pointer new → IsUsedBucket new pointer
given_out old pointer new gives = record {
  at_start = rw gives.after (given_start old pointer new gives);
  is_used = rw gives.after (marked-same old.used (bucket_of old pointer) true (given_within old pointer new gives));
}

-- and so is each that was
pub given_others_out : (old : Pool) (pointer : ℕ) (new : Pool) → GivesFreeBucket old pointer new → (other : ℕ) →
    IsUsedBucket old other → IsUsedBucket new other
given_others_out old pointer new gives other out = record {
  at_start = rw gives.after out.at_start;
  is_used = rw gives.after
      (marked-used old.used (bucket_of old pointer) (bucket_of old other) (given_within old pointer new gives)
      out.is_used);
}

pub GivesFreeBucket-IsAllocation : (old : Pool) (layout : SizeAndAlignment) (pointer : ℕ) (new : Pool) →
    GivesFreeBucket old pointer new →
    IsAllocation (pool_properties old) (pool_properties new) (IsInUsedBucket old) (IsInUsedBucket new)
    (IsUsedBucket old) (IsUsedBucket new) (λ _. ⊥) layout pointer
GivesFreeBucket-IsAllocation old layout pointer new gives = record {
  properties = ap pool_properties gives.after;
  segment = rw gives.at_start (omega arith);
  within =
      let start = given_start old pointer new gives in
      let next = mul-le (bucket_of old pointer + 1) old.buckets.size old.buckets.count old.buckets.size
      (omega (arith, gives.exists)) (omega arith) in
      omega (arith, start, next);
  bytes = given_bytes old pointer new gives;
  out = given_out old pointer new gives;
  others_allocated = given_others_out old pointer new gives;
}

-- ---- a bucket that is given back

-- its bytes
pub freed_bytes : (old : Pool) (pointer : ℕ) (new : Pool) → FreesBucket old pointer new →
    FreesChunk (IsInUsedBucket old) (IsInUsedBucket new) pointer old.buckets.size
freed_bytes old pointer new frees = record {
  others_used = λ byte outside used.
      rw (
        frees.after,
        get_or-set_other old.used (bucket_of old pointer) (byte / old.buckets.size) false false
            (elsewhere byte outside),
      ) used;
  no_more = λ byte used. marked-free old.used (bucket_of old pointer) (byte / old.buckets.size)
      (rw frees.after at used);
}
  where
    elsewhere : (byte : ℕ) → ¬ IsInChunk pointer old.buckets.size byte → byte / old.buckets.size ≢ bucket_of old pointer
    elsewhere byte outside same =
        let start = frees.was_used.at_start in
        let bounds = byte_of_bucket (bucket_of old pointer) old.buckets.size byte frees.sound.not_empty same in
        outside (omega (arith, start, bounds.0), omega (arith, start, bounds.1))

-- the others stay out
pub freed_others_out : (old : Pool) (pointer : ℕ) (new : Pool) → FreesBucket old pointer new → (other : ℕ) →
    offset_of other ≢ offset_of pointer → IsUsedBucket old other → IsUsedBucket new other
freed_others_out old pointer new frees other apart out = record {
  at_start = rw frees.after out.at_start;
  is_used = rw (
    frees.after,
    get_or-set_other old.used (bucket_of old pointer) (bucket_of old other) false false
        elsewhere,
  ) out.is_used;
}
  where
    elsewhere : bucket_of old other ≢ bucket_of old pointer
    elsewhere same = apart (out.at_start ∙ ap (offset_of_bucket old) same ∙ sym frees.was_used.at_start)

pub FreesBucket-IsDeallocation : (old : Pool) (pointer : ℕ) (new : Pool) → FreesBucket old pointer new →
    IsDeallocation (pool_properties old) (pool_properties new) (IsInUsedBucket old) (IsInUsedBucket new)
    (IsUsedBucket old) (IsUsedBucket new) pointer
FreesBucket-IsDeallocation old pointer new frees = record {
  properties = ap pool_properties frees.after;
  bytes = λ _. freed_bytes old pointer new frees;
  others_allocated = freed_others_out old pointer new frees;
}

-- ---- refusals

-- a bucket that is given for a layout is large enough
pub pool_served : (old : Pool) (layout : SizeAndAlignment) → pool_refusal old layout ≡ None →
    layout.size ≤ chunk_size (pool_properties old) layout
pool_served old layout served = grind arith

-- a pool refuses no layout for being empty
pub pool_refused_empty : (old : Pool) (layout : SizeAndAlignment) → pool_refusal old layout ≡ Some SizeIsZero →
    layout.size ≡ 0
pool_refused_empty old layout refused = grind arith

-- ---- where used bytes lie, and alignments

-- a used byte is below the total
pub pool_used_below_total : (old : Pool) (byte : ℕ) → IsSoundPool old → IsInUsedBucket old byte →
    byte < (pool_properties old).total
pool_used_below_total old byte sound used =
    let below = used-within old.used (byte / old.buckets.size) used in
    let here = byte_of_bucket (byte / old.buckets.size) old.buckets.size byte sound.not_empty refl in
    let whole = mul-le (byte / old.buckets.size + 1) old.buckets.size old.buckets.count old.buckets.size
    (omega (arith, sound.marked)) (omega arith) in
    omega (arith, here.1, whole)

-- a bucket starts at a multiple of each alignment that its pool serves
pub pool_aligned : (old : Pool) (layout : SizeAndAlignment) (pointer : ℕ) (new : Pool) →
    pool_refusal old layout ≡ None →
    IsTrue (is_power_of_two layout.alignment) → GivesFreeBucket old pointer new →
    offset_of pointer % layout.alignment ≡ 0
pool_aligned old layout pointer new served power gives =
    let low : layout.alignment ≤ old.buckets.alignment = grind arith in
    let fine = two_to layout.alignment power in
    let coarse = two_to old.buckets.alignment gives.sound.power in
    let positive : 0 < layout.alignment = rw fine.1 (pow_pos fine.0) in
    let parts = power-multiple fine.0 coarse.0 (omega (arith, fine.1, coarse.1)) in
    let coarse_positive : 0 < old.buckets.alignment = rw coarse.1 (pow_pos coarse.0) in
    let size = next_multiple_of-multiple old.buckets.size old.buckets.alignment coarse_positive in
    let start = given_start old pointer new gives in
    let whole : offset_of pointer ≡ bucket_of old pointer * (size.0 * parts.0) * layout.alignment =
    start ∙ ap (λ n. bucket_of old pointer * n)
    (sym gives.sound.padded ∙ size.1 ∙ ap (λ n. size.0 * n) (coarse.1 ∙ parts.1))
    ∙ times (bucket_of old pointer) size.0 parts.0 (2 ^ fine.0)
    ∙ ap (λ n. bucket_of old pointer * (size.0 * parts.0) * n) (sym fine.1) in
    whole_multiple (bucket_of old pointer * (size.0 * parts.0)) layout.alignment (offset_of pointer) positive whole
  where
    times : (bucket k parts power : ℕ) → bucket * (k * (parts * power)) ≡ bucket * (k * parts) * power
    times bucket k parts power = grind arith

-- a pool is within the limit of memory
pub pool_fits_limit : (size : ℕ) (layout : SizeAndAlignment) → IsTrue (pool_fits size layout) → size ≤ max_memory_size
pool_fits_limit size layout fits = grind arith
