-- Fewer chunks than buckets leave a bucket free, and chunks in buckets of their own are all found by their buckets.
use Rattle.std.proofs.Common.{ℕ, zero, suc, ◌+◌, ◌<◌, ◌≤◌, ◌≡◌, inl, inr, Bool, true, false, cond, ◌&&◌, ◌||◌, nat_eq, nat_lt, List, [], ◌∷◌, ◌++◌, length, Some, refl, sym, ap, ◌∙◌, subst, arith, length-append}
use Rattle.std.specs.List.{slice_get, list_any, flat_map, filter}
use Rattle.std.proofs.lemmas.Bool.{true≢false, or_parts}
use Rattle.std.proofs.lemmas.Bool.Decides.{nat_tests, eqb_tells}
use Rattle.std.proofs.lemmas.Grind.{flat_map-append}
use Rattle.std.proofs.lemmas.List.Folds.{list_any-append}
use Rattle.cal_transport.specs.Ledger.{Chunk, numbers_below}

-- how many of the chunks pass
abbrev pub how_many : (Chunk → Bool) → List Chunk → ℕ
how_many test chunks = length (filter test chunks)

-- the chunks that pass, bucket by bucket
abbrev pub by_bucket : (Chunk → Bool) → List Chunk → ℕ → List Chunk
by_bucket test chunks bucket = filter (λ c. nat_eq c.bucket bucket && test c) chunks

one_more : (test : Chunk → Bool) (n : ℕ) (chunks : List Chunk) →
    how_many (λ c. nat_lt c.bucket (suc n) && test c) chunks ≡
    how_many (λ c. nat_lt c.bucket n && test c) chunks + how_many (λ c. nat_eq c.bucket n && test c) chunks
one_more test n [] = omega arith
one_more test n (c ∷ chunks) = go (nat_lt c.bucket (suc n)) (nat_lt c.bucket n) (nat_eq c.bucket n) (test c)
    (one_more test n chunks) (three c.bucket n)
  where
    a : List Chunk
    a = filter (λ x. nat_lt x.bucket (suc n) && test x) chunks

    b : List Chunk
    b = filter (λ x. nat_lt x.bucket n && test x) chunks

    d : List Chunk
    d = filter (λ x. nat_eq x.bucket n && test x) chunks

    three : (k m : ℕ) → (nat_lt k (suc m) ≡ (nat_lt k m || nat_eq k m)) × ((nat_lt k m && nat_eq k m) ≡ false)
    three k m = (grind (arith, nat_tests), grind (arith, nat_tests))

    go : (p q r t : Bool) → length a ≡ length b + length d → (p ≡ (q || r)) × ((q && r) ≡ false) →
        length (cond (p && t) (c ∷ a) a) ≡ length (cond (q && t) (c ∷ b) b) + length (cond (r && t) (c ∷ d) d)
    go true true true t e w = absurd (true≢false w.1)
    go true true false true e w = omega arith
    go true true false false e w = e
    go true false true true e w = omega arith
    go true false true false e w = e
    go true false false t e w = absurd (true≢false w.0)
    go false true r t e w = absurd (true≢false (sym w.0))
    go false false true t e w = absurd (true≢false (sym w.0))
    go false false false t e w = e

none_below_zero : (test : Chunk → Bool) (chunks : List Chunk) → how_many (λ c. nat_lt c.bucket 0 && test c) chunks ≡ 0
none_below_zero test [] = refl
none_below_zero test (c ∷ chunks) =
    let none : nat_lt c.bucket 0 ≡ false = grind (arith, nat_tests) in
    ap (λ b. length (cond (b && test c) (c ∷ filter (λ x. nat_lt x.bucket 0 && test x) chunks)
    (filter (λ x. nat_lt x.bucket 0 && test x) chunks))) none ∙ none_below_zero test chunks

-- bucket by bucket each chunk is found once
pub counted_by_bucket : (test : Chunk → Bool) (chunks : List Chunk) (n : ℕ) →
    length (flat_map (by_bucket test chunks) (numbers_below n)) ≡ how_many (λ c. nat_lt c.bucket n && test c) chunks
counted_by_bucket test chunks zero = sym (none_below_zero test chunks)
counted_by_bucket test chunks (suc n) =
    let split = ap length (flat_map-append (by_bucket test chunks) (numbers_below n) (n ∷ [])) in
    let rest = counted_by_bucket test chunks n in
    let more = one_more test n chunks in
    omega (
      arith,
      split,
      length-append (flat_map (by_bucket test chunks) (numbers_below n)) (by_bucket test chunks n ++ []),
      length-append (by_bucket test chunks n) [],
    )

pub at_most_all : (test : Chunk → Bool) (chunks : List Chunk) → how_many test chunks ≤ length chunks
at_most_all test [] = omega arith
at_most_all test (c ∷ chunks) = go (test c) (at_most_all test chunks)
  where
    go : (b : Bool) → how_many test chunks ≤ length chunks →
        length (cond b (c ∷ filter test chunks) (filter test chunks)) ≤ suc (length chunks)
    go true e = omega arith
    go false e = omega arith

-- where all pass, all are counted
pub all_pass : (test : Chunk → Bool) (chunks : List Chunk) →
    ((i : ℕ) (c : Chunk) → slice_get chunks i ≡ Some c → test c ≡ true) → how_many test chunks ≡ length chunks
all_pass test [] pass = refl
all_pass test (c ∷ chunks) pass =
    ap (λ b. length (cond b (c ∷ filter test chunks) (filter test chunks))) (pass 0 c refl)
    ∙ ap suc (all_pass test chunks (λ i x stands. pass (suc i) x stands))

-- where each bucket has a chunk, there are as many chunks
some_each : (f : ℕ → List Chunk) (n : ℕ) → ((k : ℕ) → k < n → 1 ≤ length (f k)) →
    n ≤ length (flat_map f (numbers_below n))
some_each f zero some = omega arith
some_each f (suc n) some =
    let split = ap length (flat_map-append f (numbers_below n) (n ∷ [])) in
    let rest = some_each f n (λ k below. some k (omega arith)) in
    let one = some n (omega arith) in
    omega (arith, split, length-append (flat_map f (numbers_below n)) (f n ++ []), length-append (f n) [])

-- a test of numbers that one below a limit passes
pub passes_below : (f : ℕ → Bool) (n : ℕ) → list_any f (numbers_below n) ≡ false → (k : ℕ) → k < n → f k ≡ false
passes_below f zero none k below = absurd (omega arith)
passes_below f (suc n) none k below =
    let parts = or_parts (list_any f (numbers_below n)) (f n || false)
    (sym (list_any-append f (numbers_below n) (n ∷ [])) ∙ none) in
    elim (eqb_tells k n) [
      | inl same ↦ ap f same.1 ∙ (or_parts (f n) false parts.1).0
      | inr apart ↦ (let q = apart.1 in passes_below f n parts.0 k (omega arith))
    ]

-- a list in which one passes counts one at least
some_pass : (test : Chunk → Bool) (chunks : List Chunk) → list_any test chunks ≡ true → 1 ≤ how_many test chunks
some_pass test [] some = absurd (true≢false (sym some))
some_pass test (c ∷ chunks) some = go (some_pass test chunks) (test c) refl
  where
    go : (list_any test chunks ≡ true → 1 ≤ how_many test chunks) → (b : Bool) → test c ≡ b →
        1 ≤ length (cond (test c) (c ∷ filter test chunks) (filter test chunks))
    go rest true is = subst (λ b. 1 ≤ length (cond b (c ∷ filter test chunks) (filter test chunks))) (sym is)
        (omega arith)
    go rest false is = subst (λ b. 1 ≤ length (cond b (c ∷ filter test chunks) (filter test chunks))) (sym is)
        (rest (sym (ap (λ b. b || list_any test chunks) is) ∙ some))

-- as many buckets as chunks at most have a chunk each
pub few_taken : (chunks : List Chunk) (n : ℕ) →
    ((k : ℕ) → k < n → list_any (λ c. nat_eq c.bucket k && true) chunks ≡ true) → n ≤ length chunks
few_taken chunks n taken =
    let test : Chunk → Bool = λ c. true in
    let each = some_each (by_bucket test chunks) n
    (λ k below. some_pass (λ c. nat_eq c.bucket k && true) chunks (taken k below)) in
    omega (arith, each, counted_by_bucket test chunks n, at_most_all (λ c. nat_lt c.bucket n && true) chunks)
