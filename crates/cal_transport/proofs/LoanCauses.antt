-- The memory of a transport refuses a loan as the ledger does.
use Rattle.std.proofs.Common.{ℕ, ◌+◌, ◌*◌, ◌<◌, ◌≤◌, ◌≡◌, ◌≢◌, Bool, true, false, cond, not, ◌||◌, ◌&&◌, nat_lt, nat_eq, List, ◌++◌, codes, length, Option, Some, None, is_some, option_map, Err, refl, sym, ap, ◌∙◌, subst, arith, length-append}
use Rattle.std.specs.List.{list_any}
use Rattle.std.specs.Int.{is_power_of_two}
use Rattle.std.specs.Fmt.{decimal}
use Rattle.std.specs.Option.{option_or}
use Rattle.std.proofs.lemmas.Bool.{lt-ltb, and_from, or_left, eq-eqb, eqb-false, ltb-false}
use Rattle.std.proofs.lemmas.Bool.Decides.{nat_tests}
use Rattle.std.proofs.lemmas.Option.{slice_get-get_or}
use Rattle.cal_alloc.specs.Growth.{SegmentLayout, grown_buckets}
use Rattle.cal_alloc.specs.Hints.{pool_resize_hint, pool_setup_hint}
use Rattle.cal_alloc.specs.Pool.{Pool, pool_refusal}
use Rattle.cal_alloc.specs.Pool as pool
use Rattle.cal_alloc.specs.SizeAndAlignment.{SizeAndAlignment}
use Rattle.cal_alloc.specs.declared.allocation_strategy.AllocationStrategy.{AllocationStrategy}
use Rattle.cal_alloc.specs.declared.allocation_strategy.AllocationStrategy.TheVariants.{BestFit, PowerOfTwo, Static}
use Rattle.cal_alloc.specs.declared.pool_allocator.Config.{Config}
use Rattle.cal_alloc.specs.declared.shm_allocator.SharedMemorySetupHint.{SharedMemorySetupHint}
use Rattle.cal_alloc.specs.declared.shm_allocator.ShmAllocationError.{ShmAllocationError}
use Rattle.cal_names.specs.ConceptSettings.{ConceptSettings, type_part}
use Rattle.cal_storage.specs.Contents.{Contents, id_at}
use Rattle.cal_storage.specs.Refusals.{is_too_long}
use Rattle.cal_shm.specs.Refusals.{alignment_refusal}
use Rattle.cal_shm.specs.Segment.{Segment}
use Rattle.cal_shm.specs.declared.errors.SharedMemoryCreateError.{SharedMemoryCreateError}
use Rattle.cal_shm.specs.declared.errors.SharedMemoryCreateError.TheVariants as create
use Rattle.cal_resizable.specs.Chunks.{segment_value}
use Rattle.cal_resizable.specs.Growth.{may_help, grows, segment_plan, segment_refusal, hint_or_error, plan_refusal, chunk_refusal, allocation_refusal}
use Rattle.cal_resizable.specs.Memory.{MemoryState, segment_path}
use Rattle.cal_resizable.specs.SegmentNameLemmas.{by_digits}
use Rattle.cal_resizable.specs.SegmentNames.{number_end}
use Rattle.cal_resizable.specs.Slots.{count_at}
use Rattle.cal_resizable.specs.declared.errors.ResizableShmAllocationError.{ResizableShmAllocationError}
use Rattle.cal_resizable.specs.declared.errors.ResizableShmAllocationError.TheVariants as error
use Rattle.cal_transport.specs.declared.reply.Refusal.{Refusal}
use Rattle.cal_transport.specs.declared.reply.Refusal.TheVariants as refusal
use Rattle.cal_transport.specs.declared.transport.loaning.LoanError.TheVariants as answer
use Rattle.cal_transport.specs.Ledger.{Ledger, layout_at, current, is_free, numbers_below}
use Rattle.cal_transport.specs.LoanCause.{is_static, serves, next_segment, static_cause, growth_cause, loan_cause}
use Rattle.cal_transport.specs.LoanErrors.{CanCome, loan_answer, pool_answer}
use Rattle.cal_transport.specs.Cause.{is_full, current_segment}
use Rattle.cal_transport.specs.Core.{ActiveSegment}
use Rattle.cal_transport.specs.Weights.{live_in}
use Rattle.cal_transport.specs.Settings.{is_too_large}
use Rattle.cal_transport.specs.Shown.{is_active, ShowsSegment, ShowsActive, Shows}
use Rattle.cal_transport.specs.Soundness.{HasSizes}
use Rattle.cal_transport.specs.State.{TransportState, core_of, active_of, IsLinked}
use Rattle.cal_transport.proofs.Fronts.{has_segment}
use Rattle.cal_transport.proofs.Kept.{active_is}
use Rattle.cal_transport.proofs.NextBuckets.{AreMakeable, makeable, hint_for, proposed, in_range, fits, some_payload}
use Rattle.cal_transport.proofs.PoolCauses.{full_is, static_is, serves_is, refusal_helps}
use Rattle.cal_transport.proofs.PoolRules.{pool_rules}
use Rattle.cal_transport.proofs.Seen.{is_seen}
use Rattle.cal_transport.proofs.Settled.{IsSettled}

-- a cause of the ledger and an error of the memory are the same, or there is neither
abbrev pub AreAlike : Option Refusal → Option ResizableShmAllocationError → Type 0
AreAlike None None = Unit {0}
AreAlike None (Some e) = ⊥
AreAlike (Some why) None = ⊥
AreAlike (Some why) (Some e) = CanCome e × (loan_answer e ≡ answer.Refused why)

-- ---- the name of the next segment

-- it is no longer than that of the management segment
digits_short : (n : ℕ) → n < 256 → length (decimal n) ≤ 3
digits_short n small =
    by_digits (λ k ds. length ds ≤ 3) (λ k below. omega arith) (λ k from below. omega arith)
    (λ k from below. omega arith) n small

name_short : (settings : ConceptSettings) (name : List ℕ) (n : ℕ) → n < 256 →
    is_too_long settings (name ++ codes "__mgmt") ≡ false → is_too_long settings (name ++ number_end n) ≡ false
name_short settings name n small fits =
    let front : List ℕ = settings.prefix ++ type_part settings.type_name in
    let a = length-append (front ++ (name ++ codes "__mgmt")) settings.suffix in
    let b = length-append (front ++ (name ++ number_end n)) settings.suffix in
    let c = length-append front (name ++ codes "__mgmt") in
    let d = length-append front (name ++ number_end n) in
    let e = length-append name (codes "__mgmt") in
    let f = length-append name (number_end n) in
    let g = length-append (codes "__") (decimal n) in
    let two : length (codes "__") ≡ 2 = refl in
    let six : length (codes "__mgmt") ≡ 6 = refl in
    let three = digits_short n small in
    let most = ltb-false 255 (length ((front ++ (name ++ codes "__mgmt")) ++ settings.suffix)) fits in
    not_above (length ((front ++ (name ++ number_end n)) ++ settings.suffix)) (omega arith)
  where
    not_above : (k : ℕ) → k ≤ 255 → nat_lt 255 k ≡ false
    not_above k below = grind (arith, nat_tests)

-- ---- the next segment

module _ (contents : Contents (Segment Pool)) (memory : MemoryState) (b : SegmentLayout) (m : AreMakeable b)
    (small : is_too_large b ≡ false) (below : memory.current ≢ 255) (bound : memory.current < 256)
    (short : is_too_long memory.settings (memory.name ++ codes "__mgmt") ≡ false)
    (free : id_at contents (segment_path memory.settings memory.name (memory.current + 1)) ≡ None) where
  -- only its alignment can refuse it
  pub segment_refused : segment_refusal pool_rules contents
      (segment_plan pool_rules memory.settings (memory.name ++ number_end (memory.current + 1)) (hint_for b))
      (hint_for b)
      ≡ alignment_refusal b.alignment
  segment_refused =
      by_tests (nat_eq (b.size * b.count) 0) (pool.pool_fits (b.size * b.count) (record {
        size = b.size;
        alignment = b.alignment;
      }))
      (is_too_long memory.settings (memory.name ++ number_end (memory.current + 1)))
      (id_at contents (segment_path memory.settings memory.name (memory.current + 1)))
      (some_payload b m) (fits b m small)
      (name_short memory.settings memory.name (memory.current + 1) (omega (arith, below)) short) free
    where
      by_tests : (z f long : Bool) (o : Option ℕ) → z ≡ false → f ≡ true → long ≡ false → o ≡ None →
          cond z (Some create.SizeIsZero) (cond (not f) (Some create.SizeOutOfRange)
          (option_or (cond long (Some create.PathTooLong) (cond (is_some o) (Some create.AlreadyExists) None))
          (alignment_refusal b.alignment))) ≡ alignment_refusal b.alignment
      by_tests z f long o zero fit short none =
          ap (λ c. cond c (Some create.SizeIsZero) (cond (not f) (Some create.SizeOutOfRange)
          (option_or (cond long (Some create.PathTooLong) (cond (is_some o) (Some create.AlreadyExists) None))
          (alignment_refusal b.alignment)))) zero
          ∙ ap (λ c. cond (not c) (Some create.SizeOutOfRange)
          (option_or (cond long (Some create.PathTooLong) (cond (is_some o) (Some create.AlreadyExists) None))
          (alignment_refusal b.alignment))) fit
          ∙ ap (λ c. option_or (cond c (Some create.PathTooLong) (cond (is_some o) (Some create.AlreadyExists) None))
          (alignment_refusal b.alignment)) short
          ∙ ap (λ p. option_or (cond (is_some p) (Some create.AlreadyExists) None)
          (alignment_refusal b.alignment)) none

-- ---- the current segment

pub current_active : (l : Ledger) → IsSettled l → is_active l (current l) ≡ true
current_active l s =
    let some = s.segments.some in
    active_is l (current l)
    ∙ and_from (nat_lt (current l) (length l.segments))
    (nat_eq (current l) (current l) || nat_lt 0 (live_in l (current l)))
    (lt-ltb (current l) (length l.segments) (omega arith))
    (or_left (nat_eq (current l) (current l)) (nat_lt 0 (live_in l (current l)))
    (eq-eqb (current l) (current l) refl))

pub current_sizes : (l : Ledger) → IsSettled l → HasSizes (layout_at l (current l))
current_sizes l s =
    let none : SegmentLayout = record { size = 0; alignment = 0; count = 0 } in
    let some = s.segments.some in
    s.segments.sizes (current l) (layout_at l (current l)) (slice_get-get_or l.segments (current l) none (omega arith))

-- a segment of the memory as it is seen
abbrev pub seen_as : TransportState → Segment Pool → ActiveSegment
seen_as t segment = record {
  pool = segment.allocator;
  payload = segment.payload;
  chunks = count_at t.memory.slots t.memory.current;
}

pub record HasCurrent (t : TransportState) (l : Ledger) : Type 0 where
  pub segment : Segment Pool
  pub there : segment_value t.memory_registry t.memory.slots t.memory.current ≡ Some segment
  pub was : ShowsSegment l (current l) (seen_as t segment)

module _ (t : TransportState) (l : Ledger) (s : IsSettled l) (shows : Shows (core_of t) l) where
  pub shown_current : (segment : Segment Pool) →
      segment_value t.memory_registry t.memory.slots t.memory.current ≡ Some segment →
      ShowsSegment l (current l) (seen_as t segment)
  shown_current segment there =
      subst (λ n. ShowsSegment l n (seen_as t segment)) shows.current
      (subst (ShowsActive l t.memory.current) (ap (λ o. active_of o (count_at t.memory.slots t.memory.current)) there)
      (shows.active t.memory.current)).1

  pub has_current : HasCurrent t l
  has_current =
      let had = has_segment (core_of t) l (current l) shows (current_active l s) in
      let seen = is_seen t.memory_registry t.memory (current l) had.shown had.has in
      let there = ap (segment_value t.memory_registry t.memory.slots) shows.current ∙ seen.there in
      record { segment = seen.segment; there = there; was = shown_current seen.segment there }

  -- where it has no bucket, none is free
  used_up : (layout_at l (current l)).count ≡ 0 → is_full l ≡ true
  used_up none = ap (λ n. not (list_any (is_free l (current l)) (numbers_below n))) none

  module _ (linked : IsLinked t) (layout : SizeAndAlignment) (power : is_power_of_two layout.alignment ≡ true)
      (segment : Segment Pool)
      (there : segment_value t.memory_registry t.memory.slots t.memory.current ≡ Some segment) where
    was : ShowsSegment l (current l) (seen_as t segment)
    was = shown_current segment there

    strategy_is : t.memory.strategy ≡ l.settings.strategy
    strategy_is = linked.strategy ∙ ap (λ s. s.strategy) shows.settings

    abbrev next : SegmentLayout
    next = next_segment (current_segment l) layout.size layout.alignment

    -- what the memory proposes is what the ledger has next
    pub next_is : pool_resize_hint segment.allocator layout t.memory.strategy
        ≡ pool_setup_hint (record { size = next.size; alignment = next.alignment }) next.count
    next_is =
        let B : AllocationStrategy → SegmentLayout → Bool → Option (SharedMemorySetupHint Config) = λ strategy old full.
        (let g = grown_buckets strategy old full layout.size layout.alignment in
        pool_setup_hint (record { size = g.size; alignment = g.alignment }) g.count) in
        ap (λ st. B st segment.allocator.buckets (pool.is_full segment.allocator)) strategy_is
        ∙ ap (λ b. B l.settings.strategy b (pool.is_full segment.allocator)) was.layout
        ∙ ap (B l.settings.strategy (layout_at l (current l))) (full_is l (seen_as t segment) was)

    pub next_makeable : is_static l.settings.strategy ≡ false → AreMakeable next
    next_makeable growing = makeable l.settings.strategy growing (layout_at l (current l)) (current_sizes l s)
        (is_full l) used_up layout.size layout.alignment

    -- the proposal, where memory grows
    pub next_hint : is_static l.settings.strategy ≡ false → pool_resize_hint segment.allocator layout t.memory.strategy
        ≡ cond (not (is_too_large next)) (Some (hint_for next)) None
    next_hint growing =
        next_is ∙ proposed next (next_makeable growing)
        ∙ ap (λ b. cond b (Some (hint_for next)) None) (in_range next (next_makeable growing))

    grows_is : (strategy : AllocationStrategy) → grows strategy ≡ not (is_static strategy)
    grows_is BestFit = refl
    grows_is PowerOfTwo = refl
    grows_is Static = refl

    pub growing_is : grows t.memory.strategy ≡ not (is_static l.settings.strategy)
    growing_is = grows_is t.memory.strategy ∙ ap (λ st. not (is_static st)) strategy_is

    -- ---- causes

    abbrev rest : Option Refusal
    rest = cond (is_static l.settings.strategy) (static_cause (current_segment l) layout.size layout.alignment)
        (cond (serves (current_segment l) layout.size layout.alignment) None
        (growth_cause (current_segment l) next))

    pub even : loan_cause (current_segment l) layout.size layout.alignment ≡ rest
    even = ap (λ b. cond (not b) (Some refusal.BadLayout) rest) power

    -- the pool serves
    cause_none : pool_refusal segment.allocator layout ≡ None → rest ≡ None
    cause_none none =
        let a = static_is l (seen_as t segment) was layout ∙ ap (option_map pool_answer) none in
        let b = serves_is l (seen_as t segment) was layout ∙ ap (λ o. not (is_some o)) none in
        ap (λ o. cond (is_static l.settings.strategy) o (cond (serves (current_segment l) layout.size layout.alignment)
        None (growth_cause (current_segment l) next))) a
        ∙ ap (λ c. cond (is_static l.settings.strategy) None (cond c None (growth_cause (current_segment l) next))) b
        ∙ either None (is_static l.settings.strategy)
      where
        either : (o : Option Refusal) (c : Bool) → cond c o o ≡ o
        either o true = refl
        either o false = refl

    -- the pool doesn't, and the memory is static
    cause_static : (why : ShmAllocationError) → pool_refusal segment.allocator layout ≡ Some why →
        is_static l.settings.strategy ≡ true → rest ≡ Some (pool_answer why)
    cause_static why is static =
        ap (λ b. cond b (static_cause (current_segment l) layout.size layout.alignment)
        (cond (serves (current_segment l) layout.size layout.alignment) None (growth_cause (current_segment l) next)))
        static
        ∙ static_is l (seen_as t segment) was layout ∙ ap (option_map pool_answer) is

    -- and the memory grows
    cause_growing : (why : ShmAllocationError) → pool_refusal segment.allocator layout ≡ Some why →
        is_static l.settings.strategy ≡ false → rest ≡ growth_cause (current_segment l) next
    cause_growing why is growing =
        ap (λ b. cond b (static_cause (current_segment l) layout.size layout.alignment)
        (cond (serves (current_segment l) layout.size layout.alignment) None (growth_cause (current_segment l) next)))
        growing
        ∙ ap (λ b. cond b None (growth_cause (current_segment l) next))
        (serves_is l (seen_as t segment) was layout ∙ ap (λ o. not (is_some o)) is)

    -- the plan where the memory is static, and where it grows
    abbrev plan_by : Bool → Bool → ShmAllocationError → Option (SharedMemorySetupHint Config) →
        Option ResizableShmAllocationError
    plan_by helps growing why hint = plan_refusal pool_rules t.memory_registry t.memory
        (cond (not (helps && (growing && true))) (Err (error.ShmAllocationError why))
        (cond (nat_eq t.memory.current 255) (Err error.MaxReallocationsReached) (hint_or_error pool_rules hint)))

    alike_static : (why : ShmAllocationError) → pool_refusal segment.allocator layout ≡ Some why →
        is_static l.settings.strategy ≡ true → AreAlike rest
        (plan_by (may_help why) (grows t.memory.strategy) why
        (pool_resize_hint segment.allocator layout t.memory.strategy))
    alike_static why is static =
        let helps = refusal_helps l (seen_as t segment) was layout why is in
        let none : grows t.memory.strategy ≡ false = growing_is ∙ ap not static in
        subst (λ o. AreAlike o (plan_by (may_help why) (grows t.memory.strategy) why
        (pool_resize_hint segment.allocator layout t.memory.strategy))) (sym (cause_static why is static))
        (subst (λ b. AreAlike (Some (pool_answer why)) (plan_by b (grows t.memory.strategy) why
        (pool_resize_hint segment.allocator layout t.memory.strategy))) (sym helps.0)
        (subst (λ b. AreAlike (Some (pool_answer why)) (plan_by true b why
        (pool_resize_hint segment.allocator layout t.memory.strategy))) (sym none) (helps.1, refl)))

    -- the alignment alone refuses a segment that isn't too large
    alike_alignment : AreAlike (cond (nat_lt 4096 next.alignment) (Some refusal.InternalError) None)
        (option_map error.SharedMemoryCreateError (alignment_refusal next.alignment))
    alike_alignment = go (nat_lt 4096 next.alignment)
      where
        go : (b : Bool) → AreAlike (cond b (Some refusal.InternalError) None)
            (option_map error.SharedMemoryCreateError (cond b (Some create.InternalError) None))
        go true = (tt, refl)
        go false = tt

    alike_growing : (why : ShmAllocationError) → pool_refusal segment.allocator layout ≡ Some why →
        is_static l.settings.strategy ≡ false → AreAlike rest
        (plan_by (may_help why) (grows t.memory.strategy) why
        (pool_resize_hint segment.allocator layout t.memory.strategy))
    alike_growing why is growing =
        let helps = refusal_helps l (seen_as t segment) was layout why is in
        let grown : grows t.memory.strategy ≡ true = growing_is ∙ ap not growing in
        subst (λ o. AreAlike o (plan_by (may_help why) (grows t.memory.strategy) why
        (pool_resize_hint segment.allocator layout t.memory.strategy))) (sym (cause_growing why is growing))
        (subst (λ b. AreAlike (growth_cause (current_segment l) next) (plan_by b (grows t.memory.strategy) why
        (pool_resize_hint segment.allocator layout t.memory.strategy))) (sym helps.0)
        (subst (λ b. AreAlike (growth_cause (current_segment l) next) (plan_by true b why
        (pool_resize_hint segment.allocator layout t.memory.strategy))) (sym grown)
        (subst (λ o. AreAlike (growth_cause (current_segment l) next) (plan_by true true why o))
        (sym (next_hint growing)) (by_number (nat_eq t.memory.current 255) refl))))
      where
        by_size : nat_eq t.memory.current 255 ≡ false → (large : Bool) → is_too_large next ≡ large →
            AreAlike (cond large (Some refusal.SizeOutOfRange)
            (cond (nat_lt 4096 next.alignment) (Some refusal.InternalError) None))
            (plan_refusal pool_rules t.memory_registry t.memory
            (hint_or_error pool_rules (cond (not large) (Some (hint_for next)) None)))
        by_size other true e = (tt, refl)
        by_size other false e =
            let together = linked.together in
            let apart = eqb-false t.memory.current 255 other in
            let bound = together.memory_sound.below in
            subst (λ o. AreAlike (cond (nat_lt 4096 next.alignment) (Some refusal.InternalError) None)
            (option_map error.SharedMemoryCreateError o))
            (sym (segment_refused t.memory_registry t.memory next (next_makeable growing) e apart bound
            together.memory_sound.fits
            (together.later (t.memory.current + 1) (omega arith) (omega (arith, apart))))) alike_alignment

        by_number : (last : Bool) → nat_eq t.memory.current 255 ≡ last →
            AreAlike (growth_cause (current_segment l) next)
            (plan_refusal pool_rules t.memory_registry t.memory (cond last (Err error.MaxReallocationsReached)
            (hint_or_error pool_rules (cond (not (is_too_large next)) (Some (hint_for next)) None))))
        by_number last e =
            subst (λ b. AreAlike (cond b (Some refusal.MaxReallocationsReached)
            (cond (is_too_large next) (Some refusal.SizeOutOfRange)
            (cond (nat_lt 4096 next.alignment) (Some refusal.InternalError) None)))
            (plan_refusal pool_rules t.memory_registry t.memory (cond last (Err error.MaxReallocationsReached)
            (hint_or_error pool_rules (cond (not (is_too_large next)) (Some (hint_for next)) None)))))
            (sym (ap (λ n. nat_eq n 255) (sym shows.current) ∙ e)) (at_last last e)
          where
            at_last : (last : Bool) → nat_eq t.memory.current 255 ≡ last →
                AreAlike (cond last (Some refusal.MaxReallocationsReached)
                (cond (is_too_large next) (Some refusal.SizeOutOfRange)
                (cond (nat_lt 4096 next.alignment) (Some refusal.InternalError) None)))
                (plan_refusal pool_rules t.memory_registry t.memory (cond last (Err error.MaxReallocationsReached)
                (hint_or_error pool_rules (cond (not (is_too_large next)) (Some (hint_for next)) None))))
            at_last true e = (tt, refl)
            at_last false e = by_size e (is_too_large next) refl

    pub alike : AreAlike (loan_cause (current_segment l) layout.size layout.alignment)
        (allocation_refusal pool_rules t.memory_registry t.memory layout segment)
    alike = subst (λ o. AreAlike o (allocation_refusal pool_rules t.memory_registry t.memory layout segment)) (sym even)
        (by_refusal (pool_refusal segment.allocator layout) refl)
      where
        by_strategy : (why : ShmAllocationError) → pool_refusal segment.allocator layout ≡ Some why → (static : Bool) →
            is_static l.settings.strategy ≡ static → AreAlike rest
            (plan_by (may_help why) (grows t.memory.strategy) why
            (pool_resize_hint segment.allocator layout t.memory.strategy))
        by_strategy why is true e = alike_static why is e
        by_strategy why is false e = alike_growing why is e

        by_refusal : (o : Option ShmAllocationError) → pool_refusal segment.allocator layout ≡ o →
            AreAlike rest (chunk_refusal pool_rules t.memory_registry t.memory layout segment.allocator
            (pool_refusal segment.allocator layout))
        by_refusal None e =
            subst (λ o. AreAlike rest (chunk_refusal pool_rules t.memory_registry t.memory layout segment.allocator o))
            (sym e) (subst (λ o. AreAlike o None) (sym (cause_none e)) tt)
        by_refusal (Some why) e =
            subst (λ o. AreAlike rest (chunk_refusal pool_rules t.memory_registry t.memory layout segment.allocator o))
            (sym e) (by_strategy why e (is_static l.settings.strategy) refl)
