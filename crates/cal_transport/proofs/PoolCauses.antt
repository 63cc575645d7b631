-- A pool that shows the current segment refuses a loan as the ledger does.
use Rattle.std.proofs.Common.{ℕ, zero, suc, ◌<◌, ◌≡◌, inl, inr, Bool, true, false, cond, not, ◌||◌, ◌&&◌, nat_lt, nat_le, List, [], ◌∷◌, length, get_or, Some, None, is_some, option_map, refl, sym, ap, ◌∙◌, arith}
use Rattle.std.specs.List.{list_any, list_all}
use Rattle.std.proofs.lemmas.Bool.{true≢false}
use Rattle.std.proofs.lemmas.Bool.Decides.{nat_tests, eqb_tells}
use Rattle.std.proofs.lemmas.List.Folds.{list_any-append}
use Rattle.cal_alloc.specs.Growth.{SegmentLayout, fits_bucket}
use Rattle.cal_alloc.specs.Pool.{is_used, pool_refusal}
use Rattle.cal_alloc.specs.Pool as pool
use Rattle.cal_alloc.specs.SizeAndAlignment.{SizeAndAlignment}
use Rattle.cal_alloc.specs.declared.shm_allocator.ShmAllocationError.{ShmAllocationError}
use Rattle.cal_alloc.specs.declared.shm_allocator.ShmAllocationError.TheVariants as error
use Rattle.cal_resizable.specs.Growth.{may_help}
use Rattle.cal_transport.specs.declared.reply.Refusal.TheVariants.{ExceedsMaxSupportedAlignment, SizeTooLarge, OutOfMemory}
use Rattle.cal_transport.specs.Ledger.{Ledger, layout_at, current, is_free, numbers_below}
use Rattle.cal_transport.specs.LoanCause.{static_cause, serves}
use Rattle.cal_transport.specs.LoanErrors.{IsPoolError, pool_answer}
use Rattle.cal_transport.specs.Cause.{is_full, current_segment}
use Rattle.cal_transport.specs.Core.{ActiveSegment}
use Rattle.cal_transport.specs.Shown.{ShowsSegment}

-- ---- lists

or_true : (m : Bool) → (m || true) ≡ true
or_true true = refl
or_true false = refl

not_false : (b : Bool) → not b ≡ false → b ≡ true
not_false true e = refl
not_false false e = absurd (true≢false e)

not_true : (b : Bool) → not b ≡ true → b ≡ false
not_true true e = absurd (true≢false (sym e))
not_true false e = refl

any_below : (f : ℕ → Bool) (n k : ℕ) → k < n → f k ≡ true → list_any f (numbers_below n) ≡ true
any_below f zero k below e = absurd (omega arith)
any_below f (suc n) k below e = list_any-append f (numbers_below n) (n ∷ []) ∙ elim (eqb_tells k n) [
  | inl same ↦ (let e' : f n ≡ true = ap f (sym same.1) ∙ e in ap (λ m. list_any f (numbers_below n) || (m || false)) e'
      ∙ or_true (list_any f (numbers_below n)))
  | inr apart ↦ (let q = apart.1 in ap (λ m. m || (f n || false)) (any_below f n k (omega arith) e))
]

none_below : (f : ℕ → Bool) (n : ℕ) → ((k : ℕ) → k < n → f k ≡ false) → list_any f (numbers_below n) ≡ false
none_below f zero none = refl
none_below f (suc n) none = list_any-append f (numbers_below n) (n ∷ [])
    ∙ ap (λ m. m || (f n || false)) (none_below f n (λ k below. none k (omega arith))) ∙ ap
    (λ m. m || false) (none n (omega arith))

-- where not all marks are set, one isn't
unset_mark : (marks : List Bool) → list_all (λ m. m) marks ≡ false →
    (k : ℕ) × (k < length marks) × (get_or marks k false ≡ false)
unset_mark [] e = absurd (true≢false e)
unset_mark (true ∷ marks) e = let rest = unset_mark marks e in (suc rest.0, (let b = rest.1 in omega arith), rest.2)
unset_mark (false ∷ marks) e = (0, omega arith, refl)

all_set : (marks : List Bool) (k : ℕ) → list_all (λ m. m) marks ≡ true → k < length marks → get_or marks k false ≡ true
all_set [] k e below = absurd (omega arith)
all_set (true ∷ marks) zero e below = refl
all_set (true ∷ marks) (suc k) e below = all_set marks k e (omega arith)
all_set (false ∷ marks) k e below = absurd (true≢false (sym e))

-- ---- what a pool refuses

pub refusals_help : (a b c : Bool) (refusal : ShmAllocationError) →
    cond a (Some error.ExceedsMaxSupportedAlignment) (cond b (Some error.SizeTooLarge)
    (cond c (Some error.OutOfMemory) None)) ≡ Some refusal → (may_help refusal ≡ true) × IsPoolError refusal
refusals_help a b c error.ExceedsMaxSupportedAlignment is = (refl, tt)
refusals_help a b c error.SizeTooLarge is = (refl, tt)
refusals_help a b c error.OutOfMemory is = (refl, tt)
refusals_help true b c error.SizeIsZero is = absurd (let q = is in cc)
refusals_help false true c error.SizeIsZero is = absurd (let q = is in cc)
refusals_help false false true error.SizeIsZero is = absurd (let q = is in cc)
refusals_help false false false error.SizeIsZero is = absurd (let q = is in cc)

named_alike : (a b c : Bool) → option_map pool_answer (cond a (Some error.ExceedsMaxSupportedAlignment)
    (cond b (Some error.SizeTooLarge) (cond c (Some error.OutOfMemory) None)))
    ≡ cond a (Some ExceedsMaxSupportedAlignment) (cond b (Some SizeTooLarge) (cond c (Some OutOfMemory) None))
named_alike true b c = refl
named_alike false true c = refl
named_alike false false true = refl
named_alike false false false = refl

serves_alike : (a b c : Bool) → (not c && (not b && not a))
    ≡ not (is_some (cond a (Some error.ExceedsMaxSupportedAlignment) (cond b (Some error.SizeTooLarge)
    (cond c (Some error.OutOfMemory) None))))
serves_alike true true true = refl
serves_alike true true false = refl
serves_alike true false true = refl
serves_alike true false false = refl
serves_alike false true true = refl
serves_alike false true false = refl
serves_alike false false true = refl
serves_alike false false false = refl

turned : (a b : ℕ) → nat_le a b ≡ not (nat_lt b a)
turned a b = grind (arith, nat_tests)

module _ (l : Ledger) (shown : ActiveSegment) (was : ShowsSegment l (current l) shown) where
  -- no bucket is free where all are marked
  pub full_is : pool.is_full shown.pool ≡ is_full l
  full_is = go (pool.is_full shown.pool) refl
    where
      free_at : (k : ℕ) → is_used shown.pool k ≡ false → is_free l (current l) k ≡ true
      free_at k unused = not_false (is_free l (current l) k) (sym (was.used k) ∙ unused)

      taken_at : (k : ℕ) → is_used shown.pool k ≡ true → is_free l (current l) k ≡ false
      taken_at k used = not_true (is_free l (current l) k) (sym (was.used k) ∙ used)

      go : (b : Bool) → pool.is_full shown.pool ≡ b → pool.is_full shown.pool ≡ is_full l
      go true e = e ∙ sym (ap not (none_below (is_free l (current l)) (layout_at l (current l)).count
          (λ k below. taken_at k (all_set shown.pool.used k e (let long = was.marks in omega arith)))))
      go false e =
          let mark = unset_mark shown.pool.used e in
          let long = was.marks in
          let below = mark.1 in
          e ∙ sym (ap not (any_below (is_free l (current l)) (layout_at l (current l)).count mark.0 (omega arith)
          (free_at mark.0 mark.2)))

  module _ (layout : SizeAndAlignment) where
    abbrev high : SegmentLayout → Bool
    high b = nat_lt b.alignment layout.alignment

    abbrev large : SegmentLayout → Bool
    large b = nat_lt b.size layout.size

    -- a static memory refuses with the pool's refusal
    pub static_is : static_cause (current_segment l) layout.size layout.alignment
        ≡ option_map pool_answer (pool_refusal shown.pool layout)
    static_is =
        ap (λ (b : SegmentLayout). cond (high b) (Some ExceedsMaxSupportedAlignment)
        (cond (large b) (Some SizeTooLarge) (cond (is_full l) (Some OutOfMemory) None))) (sym was.layout)
        ∙ ap (λ f. cond (high shown.pool.buckets) (Some ExceedsMaxSupportedAlignment)
        (cond (large shown.pool.buckets) (Some SizeTooLarge) (cond f (Some OutOfMemory) None))) (sym full_is)
        ∙ sym (named_alike (high shown.pool.buckets) (large shown.pool.buckets) (pool.is_full shown.pool))

    -- it serves what the pool doesn't refuse
    pub serves_is : serves (current_segment l) layout.size layout.alignment
        ≡ not (is_some (pool_refusal shown.pool layout))
    serves_is =
        ap (λ (b : SegmentLayout). not (is_full l) && fits_bucket b layout.size layout.alignment) (sym was.layout)
        ∙ ap (λ f. not f && fits_bucket shown.pool.buckets layout.size layout.alignment) (sym full_is)
        ∙ ap (λ b. not (pool.is_full shown.pool) && (b && nat_le layout.alignment shown.pool.buckets.alignment))
        (turned layout.size shown.pool.buckets.size)
        ∙ ap (λ b. not (pool.is_full shown.pool) && (not (large shown.pool.buckets) && b))
        (turned layout.alignment shown.pool.buckets.alignment)
        ∙ serves_alike (high shown.pool.buckets) (large shown.pool.buckets) (pool.is_full shown.pool)

    pub refusal_helps : (refusal : ShmAllocationError) → pool_refusal shown.pool layout ≡ Some refusal →
        (may_help refusal ≡ true) × IsPoolError refusal
    refusal_helps refusal is =
        refusals_help (high shown.pool.buckets) (large shown.pool.buckets) (pool.is_full shown.pool) refusal is
