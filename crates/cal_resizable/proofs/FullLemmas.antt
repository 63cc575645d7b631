-- When a pool is full.
use Rattle.std.proofs.Common.{◌≡◌, ◌≤◌, ℕ, Bool, true, false, cond, if◌then◌else◌, nat_lt, nat_eq, Some, None, is_some, eq-eqb, ne_eqb, List, [], ◌∷◌, length, count_by, refl, sym, ap, ◌∙◌, inl, inr, arith}
use Rattle.std.specs.List.{list_all}
use Rattle.std.proofs.lemmas.Bool.{false≢true, cases_Bool, cases_eq}
use Rattle.std.proofs.lemmas.Bool.Decides.{nat_tests}
use Rattle.std.proofs.lemmas.List.Sums.{sum_by-cons, count_by-le-length}
use Rattle.cal_alloc.specs.Pool.{Pool, IsSoundPool, is_full, number_of_used, pool_refusal}
use Rattle.cal_alloc.specs.SizeAndAlignment.{SizeAndAlignment}
use Rattle.cal_alloc.specs.declared.shm_allocator.ShmAllocationError.TheVariants.{ExceedsMaxSupportedAlignment, SizeTooLarge, OutOfMemory}

counted-all : (marks : List Bool) → count_by (λ mark. mark) marks ≡ length marks → list_all (λ mark. mark) marks ≡ true
counted-all [] e = refl
counted-all (true ∷ marks) e = counted-all marks (omega (arith, e, sum_by-cons (λ mark. cond mark 1 0) true marks))
counted-all (false ∷ marks) e =
    absurd (omega (arith, e, sum_by-cons (λ mark. cond mark 1 0) false marks, count_by-le-length (λ mark. mark) marks))

all-counted : (marks : List Bool) → list_all (λ mark. mark) marks ≡ true → count_by (λ mark. mark) marks ≡ length marks
all-counted [] e = refl
all-counted (true ∷ marks) e = omega (arith, all-counted marks e, sum_by-cons (λ mark. cond mark 1 0) true marks)
all-counted (false ∷ marks) e = absurd (false≢true e)

-- a pool is full exactly where as many buckets are used as there are
pub full-counted : (pool : Pool) → IsSoundPool pool → number_of_used pool ≡ pool.buckets.count → is_full pool ≡ true
full-counted pool sound same = counted-all pool.used (same ∙ sym sound.marked)

pub not-full-counted : (pool : Pool) → IsSoundPool pool → (number_of_used pool ≡ pool.buckets.count → ⊥) →
    is_full pool ≡ false
not-full-counted pool sound apart = elim (cases_Bool (is_full pool)) [
  | inl full ↦ absurd (apart (all-counted pool.used full ∙ sound.marked))
  | inr free ↦ free
]

not-above : (most n : ℕ) → n ≤ most → nat_lt most n ≡ false
not-above most n le = grind (arith, nat_tests)

-- a pool that serves so great a layout refuses it only where it is full
pub refused-full : (pool : Pool) (layout : SizeAndAlignment) (used count : ℕ) → IsSoundPool pool →
    layout.alignment ≤ pool.buckets.alignment → layout.size ≤ pool.buckets.size → used ≡ number_of_used pool →
    count ≡ pool.buckets.count → nat_eq used count ≡ is_some (pool_refusal pool layout)
refused-full pool layout used count sound aligned fits used_is count_is = by_full
    ∙ sym (by_size ∙ only_full (is_full pool))
  where
    only_full : (full : Bool) → is_some (if full then Some OutOfMemory else None) ≡ full
    only_full true = refl
    only_full false = refl

    by_size : is_some (pool_refusal pool layout) ≡ is_some (if is_full pool then Some OutOfMemory else None)
    by_size =
        ap (λ t. is_some (if t then Some ExceedsMaxSupportedAlignment
        else if nat_lt pool.buckets.size layout.size then Some SizeTooLarge
        else if is_full pool then Some OutOfMemory else None)) (not-above pool.buckets.alignment layout.alignment
        aligned)
        ∙ ap (λ t. is_some (if t then Some SizeTooLarge else if is_full pool then Some OutOfMemory else None))
        (not-above pool.buckets.size layout.size fits)

    by_full : nat_eq used count ≡ is_full pool
    by_full = elim (cases_eq used count) [
      | inl same ↦ eq-eqb used count same ∙ sym (full-counted pool sound (sym used_is ∙ same ∙ count_is))
      | inr apart ↦
          ne_eqb used count apart
          ∙ sym (not-full-counted pool sound (λ same. apart (used_is ∙ same ∙ sym count_is)))
    ]
