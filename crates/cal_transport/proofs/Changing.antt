-- What several commands' proofs share: marks of a pool and of a list of used buckets, pointers, and tests.
use Rattle.std.proofs.Common.{ℕ, ◌*◌, ◌/◌, ◌<◌, ◌≤◌, ◌≡◌, ◌≢◌, Bool, true, false, not, nat_le, length, refl, sym, ap, ◌∙◌, arith}
pub use Rattle.std.proofs.Math.Nat.{mul-div_cancel}
use Rattle.std.proofs.lemmas.List.{get_or-set_same, get_or-set_other}
use Rattle.std.proofs.lemmas.Bool.Decides.{nat_tests}
use Rattle.cal_alloc.specs.Pool.{Pool, is_used, bucket_of, with_mark, IsUsedBucket}
use Rattle.cal_alloc.specs.PointerOffset.{pointer_offset, offset_of}
use Rattle.cal_queue.specs.UsedChunks.{UsedChunks, contains, after_insertion, after_removal, capacity_of}

pub le_true : (a b : ℕ) → a ≤ b → nat_le a b ≡ true
le_true a b h = grind (arith, nat_tests)

pub le_false : (a b : ℕ) → b < a → nat_le a b ≡ false
le_false a b h = grind (arith, nat_tests)

pub not_true : (b : Bool) → not b ≡ true → b ≡ false
not_true true e = sym e
not_true false e = refl

pub not_false : (b : Bool) → not b ≡ false → b ≡ true
not_false true e = refl
not_false false e = sym e

-- ---- marks

pub mark_here : (pool : Pool) (bucket : ℕ) (mark : Bool) → bucket < length pool.used →
    is_used (with_mark pool bucket mark) bucket ≡ mark
mark_here pool bucket mark within = get_or-set_same pool.used bucket mark false within

pub mark_else : (pool : Pool) (bucket other : ℕ) (mark : Bool) → other ≢ bucket →
    is_used (with_mark pool bucket mark) other ≡ is_used pool other
mark_else pool bucket other mark apart = get_or-set_other pool.used bucket other mark false apart

pub inserted_here : (used : UsedChunks) (value : ℕ) → value < capacity_of used →
    contains (after_insertion used value) value ≡ true
inserted_here used value within = get_or-set_same used.marks value true false within

pub inserted_else : (used : UsedChunks) (value other : ℕ) → other ≢ value →
    contains (after_insertion used value) other ≡ contains used other
inserted_else used value other apart = get_or-set_other used.marks value other true false apart

pub removed_here : (used : UsedChunks) (value : ℕ) → value < capacity_of used →
    contains (after_removal used value) value ≡ false
removed_here used value within = get_or-set_same used.marks value false false within

pub removed_else : (used : UsedChunks) (value other : ℕ) → other ≢ value →
    contains (after_removal used value) other ≡ contains used other
removed_else used value other apart = get_or-set_other used.marks value other false false apart

-- ---- pointers

pub offset_of-pointer : (offset : ℕ) → offset_of (pointer_offset offset 0) ≡ offset
offset_of-pointer offset = omega arith

pub bucket_of-pointer : (pool : Pool) (bucket : ℕ) → 1 ≤ pool.buckets.size →
    bucket_of pool (pointer_offset (bucket * pool.buckets.size) 0) ≡ bucket
bucket_of-pointer pool bucket size = ap (λ n. n / pool.buckets.size) (offset_of-pointer (bucket * pool.buckets.size))
    ∙ mul-div_cancel bucket size

-- a marked bucket's pointer is one that the pool takes back
pub pointer_used : (pool : Pool) (bucket : ℕ) → 1 ≤ pool.buckets.size → is_used pool bucket ≡ true →
    IsUsedBucket pool (pointer_offset (bucket * pool.buckets.size) 0)
pointer_used pool bucket size used =
    let at = bucket_of-pointer pool bucket size in
    record {
      at_start = offset_of-pointer (bucket * pool.buckets.size) ∙ ap (λ b. b * pool.buckets.size) (sym at);
      is_used = ap (is_used pool) at ∙ used;
    }
