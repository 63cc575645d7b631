-- Marks of which some are freed, and chains of the buckets that are.
use Rattle.std.proofs.Common.{◌≡◌, ◌≢◌, ℕ, zero, suc, ◌+◌, ◌-◌, ◌<◌, ◌≤◌, Bool, true, false, cond, List, [], ◌∷◌, ◌++◌, length, get_or, set, replicate, count_by, append_assoc, refl, sym, ◌∙◌, ap, arith, ◌⊎◌, inl, inr}
use Rattle.std.proofs.lemmas.Bool.{false≢true, cases_lt}
use Rattle.std.proofs.lemmas.List.{get_or-set_other, get_or-append_right, length-replicate, length-set, replicate-append-replicate}
use Rattle.std.proofs.lemmas.List.Folds.{sum_by-replicate}
use Rattle.std.proofs.lemmas.List.Sums.{sum_by-append, sum_by-set}
use Rattle.std.proofs.Math.Seq.{set-append_seam}
use Rattle.std.proofs.Common.{length-append}
use Rattle.cal_alloc.specs.FreeChain.{chain, first_used, freed, AreFreedOnce}
use Rattle.cal_alloc.specs.PoolLaws.{set-free-is_free, marked-free, used-within, none_used}

-- ---- marks of which some are freed

pub length-freed : (marks : List Bool) (buckets : List ℕ) → length (freed marks buckets) ≡ length marks
length-freed marks [] = refl
length-freed marks (bucket ∷ buckets) = length-set (freed marks buckets) bucket false ∙ length-freed marks buckets

-- what is used then was used before
pub freed-used : (marks : List Bool) (buckets : List ℕ) (bucket : ℕ) →
    get_or (freed marks buckets) bucket false ≡ true →
    get_or marks bucket false ≡ true
freed-used marks [] bucket used = used
freed-used marks (first ∷ buckets) bucket used =
    freed-used marks buckets bucket (marked-free (freed marks buckets) first bucket used)

-- to free a used one takes one from the count
pub freed_one-count : (marks : List Bool) (bucket : ℕ) → get_or marks bucket false ≡ true →
    count_by (λ mark. mark) (set marks bucket false) + 1 ≡ count_by (λ mark. mark) marks
freed_one-count marks bucket used =
    omega (
      arith,
      ap {B = ℕ} (λ mark. cond mark 1 0) used,
      sum_by-set (λ mark. cond mark 1 0) marks bucket false false (used-within marks bucket used),
    )

-- to free several takes as many
pub freed-count : (marks : List Bool) (buckets : List ℕ) → AreFreedOnce marks buckets →
    count_by (λ mark. mark) (freed marks buckets) + length buckets ≡ count_by (λ mark. mark) marks
freed-count marks [] once = omega arith
freed-count marks (bucket ∷ buckets) once =
    omega (arith, freed_one-count (freed marks buckets) bucket once.0, freed-count marks buckets once.1)

-- ---- marks of which the first ones are used

pub length-first_used : (used count : ℕ) → used ≤ count → length (first_used used count) ≡ count
length-first_used used count within =
    omega (
      arith,
      length-append (replicate used true) (replicate (count - used) false),
      length-replicate used true,
      length-replicate (count - used) false,
    )

pub first_used-count : (used count : ℕ) → count_by (λ mark. mark) (first_used used count) ≡ used
first_used-count used count =
    omega (
      arith,
      sum_by-append {X = Bool} (λ mark. cond mark 1 0) (replicate used true) (replicate (count - used) false),
      sum_by-replicate {X = Bool} (λ mark. cond mark 1 0) used true,
      sum_by-replicate {X = Bool} (λ mark. cond mark 1 0) (count - used) false,
    )

-- none from there on is used
pub first_used-below : (used count bucket : ℕ) → get_or (first_used used count) bucket false ≡ true → bucket < used
first_used-below used count bucket is = from (cases_lt bucket used)
  where
    from : (bucket < used) ⊎ (used ≤ bucket) → bucket < used
    from (inl below) = below
    from (inr past) =
        absurd (false≢true (sym (get_or-append_right (replicate used true) (replicate (count - used) false) used bucket
        false
        (length-replicate used true) past ∙ none_used (count - used) (bucket - used)) ∙ is))

-- one more is used
pub first_used-next : (used count : ℕ) → used < count →
    first_used (used + 1) count ≡ set (first_used used count) used true
first_used-next used count below =
    let rest = replicate (count - (used + 1)) false in
    let more : count - used ≡ suc (count - (used + 1)) = omega arith in
    let one_more : replicate (used + 1) true ++ rest ≡ replicate used true ++ true ∷ rest =
    ap (λ marks. marks ++ rest) (sym (replicate-append-replicate used 1 true))
    ∙ append_assoc (replicate used true) (true ∷ []) rest in
    one_more ∙ sym (ap (λ n. set (replicate used true ++ replicate n false) used true) more
    ∙ ap (λ n. set (replicate used true ++ false ∷ rest) n true) (sym (length-replicate used true))
    ∙ set-append_seam (replicate used true) false rest true)

-- ---- chains

pub length-chain : (count first : ℕ) (next : List ℕ) → length (chain count first next) ≡ count
length-chain zero first next = refl
length-chain (suc count) first next = ap suc (length-chain count (get_or next first 0) next)

-- a word of a bucket that isn't in the chain may be changed
pub chain-other : (marks : List Bool) (count first : ℕ) (next : List ℕ) (bucket word : ℕ) →
    get_or (freed marks (chain count first next)) bucket false ≡ true →
    chain count first (set next bucket word) ≡ chain count first next
chain-other marks zero first next bucket word used = refl
chain-other marks (suc count) first next bucket word used =
    ap (λ n. first ∷ chain count n (set next bucket word))
    (get_or-set_other next bucket first word 0 (λ same. apart (sym same)))
    ∙ ap (λ rest. first ∷ rest) (chain-other marks count (get_or next first 0) next bucket word
    (sym (get_or-set_other tail first bucket false false apart) ∙ used))
  where
    tail : List Bool
    tail = freed marks (chain count (get_or next first 0) next)

    apart : bucket ≢ first
    apart same = false≢true (sym (set-free-is_free tail first) ∙ ap
        (λ n. get_or (set tail first false) n false) (sym same) ∙ used)
