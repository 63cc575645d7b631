-- The buckets that memory takes next: what a pool proposes for them, and what such a segment has.
use Rattle.std.proofs.Common.{ℕ, zero, suc, ◌+◌, ◌-◌, ◌*◌, ◌/◌, ◌%◌, ◌^◌, ◌<◌, ◌≤◌, ◌≡◌, max, inl, inr, Bool, true, false, cond, not, ◌||◌, ◌&&◌, nat_lt, nat_le, nat_eq, Option, Some, None, length, replicate, refl, sym, ap, ◌∙◌, subst, arith}
use Rattle.std.proofs.Math.Nat.{sub-zero, mod_self, mul_comm, mul-div_cancel, mul-le-mul_left}
use Rattle.std.proofs.lemmas.Bool.{true≢false, cases_lt, and_parts, leb-true}
use Rattle.std.proofs.lemmas.Bool.Decides.{nat_tests}
use Rattle.std.proofs.lemmas.List.{length-replicate}
use Rattle.cal_alloc.specs.Growth.{SegmentLayout, padded_size, bucket_size_of, least_power_of_two, doubled_to, fits_bucket, raised_size, raised_count, raised_buckets, grown_buckets}
use Rattle.cal_alloc.specs.Hints.{pool_setup_hint, is_in_range}
use Rattle.cal_alloc.specs.Pool.{buckets_within, pool_fits}
use Rattle.cal_alloc.specs.PoolLaws.{none_used}
use Rattle.cal_alloc.specs.declared.allocation_strategy.AllocationStrategy.{AllocationStrategy}
use Rattle.cal_alloc.specs.declared.allocation_strategy.AllocationStrategy.TheVariants.{BestFit, PowerOfTwo, Static}
use Rattle.cal_alloc.specs.declared.pool_allocator.Config.{Config}
use Rattle.cal_alloc.specs.declared.shm_allocator.SharedMemorySetupHint.{SharedMemorySetupHint}
use Rattle.cal_resizable.specs.Growth.{made_segment}
use Rattle.cal_transport.specs.Settings.{payload, is_too_large}
use Rattle.cal_transport.specs.LoanCause.{is_static}
use Rattle.cal_transport.specs.Core.{ActiveSegment}
use Rattle.cal_transport.specs.Soundness.{HasSizes}
use Rattle.cal_transport.proofs.Growing.{power_positive, padded_whole}
use Rattle.cal_transport.proofs.GrowthStep.{IsFresh}
use Rattle.cal_transport.proofs.PoolRules.{pool_rules}

-- ---- numbers

abbrev doubled_if : Bool → ℕ → ℕ → ℕ → ℕ
doubled_if reached times n p = elim reached [ true ↦ p | false ↦ doubled_to times n (2 * p) ]

turn_above : (reached : Bool) (times n p : ℕ) → 2 * p ≤ doubled_to times n (2 * p) → p ≤ doubled_if reached times n p
turn_above true times n p more = omega arith
turn_above false times n p more = omega arith

doubled_above : (times n p : ℕ) → p ≤ doubled_to times n p
doubled_above zero n p = omega arith
doubled_above (suc times) n p = turn_above (nat_le n p) times n p (doubled_above times n (2 * p))

-- what was padded is padded
padded_again : (n alignment : ℕ) → n % alignment ≡ 0 → padded_size n alignment ≡ n
padded_again n alignment whole =
    let nothing : n + (alignment - 0) % alignment ≡ n = rw (sub-zero alignment, mod_self alignment) (plus n) in
    ap (λ r. n + (alignment - r) % alignment) whole ∙ nothing
  where
    plus : (m : ℕ) → m + 0 ≡ m
    plus m = omega arith

-- ---- what a strategy raises

whole_raised : (strategy : AllocationStrategy) → is_static strategy ≡ false → (n a : ℕ) → 0 < a →
    raised_size strategy n a % a ≡ 0
whole_raised BestFit grows n a positive = padded_whole n a positive
whole_raised PowerOfTwo grows n a positive = padded_whole (least_power_of_two n) a positive
whole_raised Static grows n a positive = absurd (true≢false grows)

some_raised : (strategy : AllocationStrategy) → is_static strategy ≡ false → (n a : ℕ) → 1 ≤ n →
    1 ≤ raised_size strategy n a
some_raised BestFit grows n a one = omega arith
some_raised PowerOfTwo grows n a one = let p = doubled_above n n 1 in omega arith
some_raised Static grows n a one = absurd (true≢false grows)

some_counted : (strategy : AllocationStrategy) → is_static strategy ≡ false → (n : ℕ) → 1 ≤ raised_count strategy n
some_counted BestFit grows n = omega arith
some_counted PowerOfTwo grows n = doubled_above (n + 1) (n + 1) 1
some_counted Static grows n = absurd (true≢false grows)

grown_is : (strategy : AllocationStrategy) → is_static strategy ≡ false → (old : SegmentLayout) (full : Bool)
    (size alignment : ℕ) →
    grown_buckets strategy old full size alignment ≡ raised_buckets strategy old full size alignment
grown_is BestFit grows old full size alignment = refl
grown_is PowerOfTwo grows old full size alignment = refl
grown_is Static grows old full size alignment = absurd (true≢false grows)

-- ---- the next buckets

-- they are whole multiples of their alignment, of a byte at least, and there is one
pub record AreMakeable (b : SegmentLayout) : Type 0 where
  pub whole : b.size % b.alignment ≡ 0
  pub some : 1 ≤ b.size
  pub counted : 1 ≤ b.count

module _ (strategy : AllocationStrategy) (grows : is_static strategy ≡ false) (old : SegmentLayout) (h : HasSizes old)
    (full : Bool) (used_up : old.count ≡ 0 → full ≡ true) (size alignment : ℕ) where
  positive : 0 < max old.alignment alignment
  positive = let p = power_positive old.alignment h.power in omega arith

  raised_whole : (b : Bool) → fits_bucket old size alignment ≡ b →
      cond b old.size (raised_size strategy (max old.size size) (max old.alignment alignment))
      % max old.alignment alignment ≡ 0
  raised_whole true is =
      let within = leb-true alignment old.alignment
      (and_parts (nat_le size old.size) (nat_le alignment old.alignment) is).1 in
      let same : max old.alignment alignment ≡ old.alignment = omega arith in
      ap (λ n. old.size % n) same ∙ h.padded
  raised_whole false is = whole_raised strategy grows (max old.size size) (max old.alignment alignment) positive

  raised_some : (b : Bool) →
      1 ≤ cond b old.size (raised_size strategy (max old.size size) (max old.alignment alignment))
  raised_some true = h.not_empty
  raised_some false =
      let some = h.not_empty in
      some_raised strategy grows (max old.size size) (max old.alignment alignment) (omega arith)

  raised_counted : (b : Bool) → full ≡ b → 1 ≤ cond b (raised_count strategy old.count) old.count
  raised_counted true is = some_counted strategy grows old.count
  raised_counted false is = elim (cases_lt 0 old.count) [
    | inl some ↦ omega arith
    | inr none ↦ absurd (true≢false (sym (used_up (omega arith)) ∙ is))
  ]

  pub makeable : AreMakeable (grown_buckets strategy old full size alignment)
  makeable = subst AreMakeable (sym (grown_is strategy grows old full size alignment)) (record {
    whole = raised_whole (fits_bucket old size alignment) refl;
    some = raised_some (fits_bucket old size alignment);
    counted = raised_counted full refl;
  })

-- ---- a segment of such buckets

abbrev pub hint_for : SegmentLayout → SharedMemorySetupHint Config
hint_for b = record {
  payload_size = b.size * b.count;
  config = record { bucket_layout = record { size = b.size; alignment = b.alignment } };
}

module _ (b : SegmentLayout) (m : AreMakeable b) where
  pub proposed : pool_setup_hint (record { size = b.size; alignment = b.alignment }) b.count
      ≡ cond (is_in_range b.size b.count) (Some (hint_for b)) None
  proposed =
      let H : ℕ → Option (SharedMemorySetupHint Config) = λ n. cond (is_in_range n b.count) (Some (record {
        payload_size = n * b.count;
        config = record { bucket_layout = record { size = n; alignment = b.alignment } };
      })) None in
      ap H (padded_again b.size b.alignment m.whole)

  size_within : b.size ≤ b.size * b.count
  size_within = let one = m.counted in let h = mul-le-mul_left b.size one in omega arith

  pub in_range : is_in_range b.size b.count ≡ not (is_too_large b)
  in_range = all (b.size * b.count) b.count b.size size_within
    where
      all : (whole count size : ℕ) → size ≤ whole →
          (nat_le whole (2 ^ 56) && (nat_lt count (2 ^ 32) && nat_lt size (2 ^ 64)))
          ≡ not (nat_lt (2 ^ 56) whole || nat_le (2 ^ 32) count)
      all whole count size below = grind (arith, nat_tests)

  bucket_is : bucket_size_of b.size b.alignment ≡ b.size
  bucket_is =
      ap (λ n. padded_size n b.alignment) (let one = m.some in largest b.size one)
      ∙ padded_again b.size b.alignment m.whole
    where
      largest : (n : ℕ) → 1 ≤ n → max 1 n ≡ n
      largest n one = omega arith

  pub cut : buckets_within (b.size * b.count) (record { size = b.size; alignment = b.alignment }) ≡ b
  cut =
      let B : ℕ → ℕ → SegmentLayout = λ size count. record {
        size = size;
        alignment = b.alignment;
        count = count;
      } in
      ap (λ n. B n (b.size * b.count / n)) bucket_is
      ∙ ap (B b.size) (ap (λ n. n / b.size) (mul_comm b.size b.count) ∙ mul-div_cancel b.count m.some)

  pub fits : is_too_large b ≡ false →
      pool_fits (b.size * b.count) (record { size = b.size; alignment = b.alignment }) ≡ true
  fits small =
      ap (λ (c : SegmentLayout). nat_le (b.size * b.count) (2 ^ 56)
      && (nat_lt c.size (2 ^ 64) && nat_lt c.count (2 ^ 32))) cut
      ∙ all (b.size * b.count) b.count b.size size_within small
    where
      all : (whole count size : ℕ) → size ≤ whole → (nat_lt (2 ^ 56) whole || nat_le (2 ^ 32) count) ≡ false →
          (nat_le whole (2 ^ 56) && (nat_lt size (2 ^ 64) && nat_lt count (2 ^ 32))) ≡ true
      all whole count size below small = grind (arith, nat_tests)

  pub some_payload : nat_eq (b.size * b.count) 0 ≡ false
  some_payload = let h = size_within in let one = m.some in not_zero (b.size * b.count) (omega arith)
    where
      not_zero : (n : ℕ) → 1 ≤ n → nat_eq n 0 ≡ false
      not_zero n one = grind (arith, nat_tests)

  -- the segment as it is made: no bucket is used
  abbrev pub fresh : ActiveSegment
  fresh = record {
    pool = (made_segment pool_rules (hint_for b)).allocator;
    payload = (made_segment pool_rules (hint_for b)).payload;
    chunks = 0;
  }

  pub is_fresh : IsFresh fresh b
  is_fresh = record {
    layout = cut;
    unused = λ bucket. none_used (buckets_within (b.size * b.count) (record {
      size = b.size;
      alignment = b.alignment;
    })).count bucket;
    marks = length-replicate (buckets_within (b.size * b.count) (record {
      size = b.size;
      alignment = b.alignment;
    })).count false ∙ ap (λ (c : SegmentLayout). c.count) cut;
    none_out = refl;
    payload = (let long : length {A = ℕ} (replicate (b.size * b.count) 0) ≡ b.size * b.count =
        length-replicate (b.size * b.count) 0 in omega arith);
  }
