-- The segment that a loan makes has sizes that fit, and a ledger that grew by it stays sound.
use Rattle.std.proofs.Common.{ℕ, zero, suc, ◌-◌, ◌*◌, ◌%◌, ◌<◌, ◌≤◌, ◌≡◌, ◌≢◌, inl, inr, Bool, true, false, cond, not, ◌&&◌, max, nat_eq, nat_le, nat_lt, List, [], ◌∷◌, ◌++◌, length, get_or, Option, Some, None, refl, sym, ap, ◌∙◌, subst, arith, length-append}
use Rattle.std.specs.Int.{is_power_of_two}
use Rattle.std.specs.List.{slice_get}
use Rattle.std.proofs.lemmas.Bool.{true≢false, or_parts, and_parts, leb-true, leb-false, ltb-false, le-leb, not-false, cases_lt, eqb-false}
use Rattle.std.proofs.lemmas.List.{get_or_append_left}
use Rattle.std.proofs.lemmas.Option.{slice_get-get_or}
use Rattle.cal_alloc.specs.declared.allocation_strategy.AllocationStrategy.{AllocationStrategy}
use Rattle.cal_alloc.specs.declared.allocation_strategy.AllocationStrategy.TheVariants.{BestFit, PowerOfTwo, Static}
use Rattle.cal_alloc.specs.Growth.{SegmentLayout, padded_size, doubled_to, least_power_of_two, fits_bucket, raised_size, raised_buckets, grown_buckets}
use Rattle.cal_alloc.specs.Limits.{max_memory_size, bucket_limit, max_memory_alignment}
use Rattle.cal_alloc.specs.Multiples.{whole_multiple, next_multiple_of-multiple}
use Rattle.cal_transport.specs.declared.reply.Refusal.{Refusal}
use Rattle.cal_transport.specs.declared.reply.Refusal.TheVariants as refusal
use Rattle.cal_transport.specs.declared.command.Command.TheVariants as command
use Rattle.cal_transport.specs.Settings.{payload, is_too_large}
use Rattle.cal_transport.specs.Ledger.{Ledger, Chunk, layout_at}
use Rattle.cal_transport.specs.LoanCause.{CurrentSegment, is_static, serves, next_segment, static_cause, growth_cause, loan_cause}
use Rattle.cal_transport.specs.Cause.{cause, current_segment}
use Rattle.cal_transport.specs.Step.{grown_ledger}
use Rattle.cal_transport.specs.Soundness.{HasSizes, HasSoundSegments, LiesWithin, IsSentChunk, IsSoundLedger}
use Rattle.cal_transport.proofs.Lists.{old_or_new}
use Rattle.cal_transport.proofs.Moving.{first_no}

-- ---- numbers

abbrev doubled_if : Bool → ℕ → ℕ → ℕ → ℕ
doubled_if reached times n p = elim reached [ true ↦ p | false ↦ doubled_to times n (2 * p) ]

turn_above : (reached : Bool) (times n p : ℕ) → 2 * p ≤ doubled_to times n (2 * p) → p ≤ doubled_if reached times n p
turn_above true times n p more = omega arith
turn_above false times n p more = omega arith

doubled_above : (times n p : ℕ) → p ≤ doubled_to times n p
doubled_above zero n p = omega arith
doubled_above (suc times) n p = turn_above (nat_le n p) times n p (doubled_above times n (2 * p))

some_power : (n : ℕ) → 1 ≤ least_power_of_two n
some_power n = doubled_above n n 1

-- a power of two isn't zero
pub power_positive : (n : ℕ) → is_power_of_two n ≡ true → 0 < n
unfolding lib.Count.ones
power_positive zero e = absurd (true≢false (sym e))
power_positive (suc n) e = omega arith

-- a padded size is a multiple of the alignment
pub padded_whole : (size alignment : ℕ) → 0 < alignment → padded_size size alignment % alignment ≡ 0
padded_whole size alignment positive =
    let m = next_multiple_of-multiple size alignment positive in
    whole_multiple m.0 alignment (padded_size size alignment) positive m.1

-- ---- the segment

-- what a loan without a cause has seen, where the current segment doesn't serve it
record MayGrow (segment : CurrentSegment) (size alignment : ℕ) : Type 0 where
  growing : is_static segment.strategy ≡ false
  power : is_power_of_two alignment ≡ true
  number : segment.number ≢ 255
  large : is_too_large (next_segment segment size alignment) ≡ false
  aligned : nat_lt max_memory_alignment (next_segment segment size alignment).alignment ≡ false

-- a static memory without a cause serves
pub static_serves : (segment : CurrentSegment) (size alignment : ℕ) → static_cause segment size alignment ≡ None →
    serves segment size alignment ≡ true
static_serves segment size alignment none =
    let a = first_no (nat_lt segment.layout.alignment alignment) refusal.ExceedsMaxSupportedAlignment
    (cond (nat_lt segment.layout.size size) (Some refusal.SizeTooLarge)
    (cond segment.full (Some refusal.OutOfMemory) None)) none in
    let b = first_no (nat_lt segment.layout.size size) refusal.SizeTooLarge
    (cond segment.full (Some refusal.OutOfMemory) None) a.1 in
    let c = first_no segment.full refusal.OutOfMemory None b.1 in
    go segment.full (nat_le size segment.layout.size) (nat_le alignment segment.layout.alignment) c.0
    (le-leb size segment.layout.size (ltb-false segment.layout.size size b.0))
    (le-leb alignment segment.layout.alignment (ltb-false segment.layout.alignment alignment a.0))
  where
    go : (a b c : Bool) → a ≡ false → b ≡ true → c ≡ true → (not a && (b && c)) ≡ true
    go false true true x y z = refl
    go true b c x y z = absurd (true≢false x)
    go false false c x y z = absurd (true≢false (sym y))
    go false true false x y z = absurd (true≢false (sym z))

may_grow : (segment : CurrentSegment) (size alignment : ℕ) → loan_cause segment size alignment ≡ None →
    serves segment size alignment ≡ false → MayGrow segment size alignment
may_grow segment size alignment none unserved = go (is_static segment.strategy) refl
  where
    next : SegmentLayout
    next = next_segment segment size alignment

    rest : Bool → Option Refusal
    rest static = cond static (static_cause segment size alignment)
        (cond (serves segment size alignment) None (growth_cause segment next))

    even : (is_power_of_two alignment ≡ true) × (rest (is_static segment.strategy) ≡ None)
    even =
        let p = first_no (not (is_power_of_two alignment)) refusal.BadLayout (rest (is_static segment.strategy)) none in
        (not-false (is_power_of_two alignment) p.0, p.1)

    go : (b : Bool) → is_static segment.strategy ≡ b → MayGrow segment size alignment
    go true is = absurd (true≢false (sym (static_serves segment size alignment
        (sym (ap rest is) ∙ even.1)) ∙ unserved))
    go false is =
        let grows : growth_cause segment next ≡ None = sym (ap (λ b. cond b None (growth_cause segment next)) unserved)
        ∙ sym (ap rest is) ∙ even.1 in
        let number = first_no (nat_eq segment.number 255) refusal.MaxReallocationsReached
        (cond (is_too_large next) (Some refusal.SizeOutOfRange)
        (cond (nat_lt max_memory_alignment next.alignment) (Some refusal.InternalError) None)) grows in
        let large = first_no (is_too_large next) refusal.SizeOutOfRange
        (cond (nat_lt max_memory_alignment next.alignment) (Some refusal.InternalError) None) number.1 in
        let aligned = first_no (nat_lt max_memory_alignment next.alignment) refusal.InternalError None large.1 in
        record {
          growing = is;
          power = even.0;
          number = eqb-false segment.number 255 number.0;
          large = large.0;
          aligned = aligned.0;
        }

-- the greater of two powers of two is one
power_max : (a b : ℕ) → is_power_of_two a ≡ true → is_power_of_two b ≡ true → is_power_of_two (max a b) ≡ true
power_max a b first second = elim (cases_lt a b) [
  | inl below ↦ (let e : max a b ≡ b = omega arith in ap is_power_of_two e ∙ second)
  | inr above ↦ (let e : max a b ≡ a = omega arith in ap is_power_of_two e ∙ first)
]

-- what a strategy that grows gives
record RaisesSize (strategy : AllocationStrategy) : Type 0 where
  whole : (n a : ℕ) → 0 < a → raised_size strategy n a % a ≡ 0
  positive : (n a : ℕ) → 1 ≤ n → 1 ≤ raised_size strategy n a

raises_best : RaisesSize BestFit
raises_best = record { whole = λ n a positive. padded_whole n a positive; positive = λ n a one. omega arith }

raises_power : RaisesSize PowerOfTwo
raises_power = record {
  whole = λ n a positive. padded_whole (least_power_of_two n) a positive;
  positive = λ n a one. (let p = some_power n in omega arith);
}

-- the size of the raised buckets
abbrev size_if : Bool → ℕ → ℕ → ℕ
size_if fits old raised = cond fits old raised

raised_whole : (strategy : AllocationStrategy) (old : SegmentLayout) (full : Bool) (size alignment : ℕ) →
    RaisesSize strategy → HasSizes old → 0 < max old.alignment alignment →
    (raised_buckets strategy old full size alignment).size % max old.alignment alignment ≡ 0
raised_whole strategy old full size alignment raises h positive = go (fits_bucket old size alignment) refl
  where
    raised : ℕ
    raised = raised_size strategy (max old.size size) (max old.alignment alignment)

    go : (b : Bool) → fits_bucket old size alignment ≡ b →
        cond (fits_bucket old size alignment) old.size raised % max old.alignment alignment ≡ 0
    go true is =
        let within = leb-true alignment old.alignment
        (and_parts (nat_le size old.size) (nat_le alignment old.alignment) is).1 in
        let same : max old.alignment alignment ≡ old.alignment = omega arith in
        ap (λ b. cond b old.size raised % max old.alignment alignment) is ∙ ap (λ n. old.size % n) same ∙ h.padded
    go false is = ap (λ b. cond b old.size raised % max old.alignment alignment) is
        ∙ raises.whole (max old.size size) (max old.alignment alignment) positive

raised_some : (strategy : AllocationStrategy) (old : SegmentLayout) (full : Bool) (size alignment : ℕ) →
    RaisesSize strategy → HasSizes old → 1 ≤ (raised_buckets strategy old full size alignment).size
raised_some strategy old full size alignment raises h = go (fits_bucket old size alignment)
  where
    go : (b : Bool) →
        1 ≤ cond b old.size (raised_size strategy (max old.size size) (max old.alignment alignment))
    go true = h.not_empty
    go false =
        let some = h.not_empty in raises.positive (max old.size size) (max old.alignment alignment) (omega arith)

raised_sizes : (strategy : AllocationStrategy) (old : SegmentLayout) (full : Bool) (size alignment : ℕ) →
    RaisesSize strategy → HasSizes old → is_power_of_two alignment ≡ true →
    is_too_large (raised_buckets strategy old full size alignment) ≡ false →
    nat_lt max_memory_alignment (max old.alignment alignment) ≡ false →
    HasSizes (raised_buckets strategy old full size alignment)
raised_sizes strategy old full size alignment raises h power large aligned =
    let next = raised_buckets strategy old full size alignment in
    let positive = power_positive old.alignment h.power in
    let limits = or_parts (nat_lt max_memory_size (payload next)) (nat_le bucket_limit next.count) large in
    record {
      power = power_max old.alignment alignment h.power power;
      supported = ltb-false max_memory_alignment (max old.alignment alignment) aligned;
      padded = raised_whole strategy old full size alignment raises h (omega arith);
      not_empty = raised_some strategy old full size alignment raises h;
      payload = ltb-false max_memory_size (payload next) limits.0;
      count = leb-false bucket_limit next.count limits.1;
    }

next_sizes : (strategy : AllocationStrategy) (old : SegmentLayout) (full : Bool) (size alignment : ℕ) → HasSizes old →
    is_static strategy ≡ false → is_power_of_two alignment ≡ true →
    is_too_large (grown_buckets strategy old full size alignment) ≡ false →
    nat_lt max_memory_alignment (grown_buckets strategy old full size alignment).alignment ≡ false →
    HasSizes (grown_buckets strategy old full size alignment)
next_sizes BestFit old full size alignment h growing power large aligned =
    raised_sizes BestFit old full size alignment raises_best h power large aligned
next_sizes PowerOfTwo old full size alignment h growing power large aligned =
    raised_sizes PowerOfTwo old full size alignment raises_power h power large aligned
next_sizes Static old full size alignment h growing power large aligned = absurd (true≢false growing)

-- ---- the ledger

abbrev with_segment : Ledger → SegmentLayout → Ledger
with_segment l next = record l { segments = l.segments ++ next ∷ [] }

-- the old segments' layouts stay
layout_kept : (l : Ledger) (next : SegmentLayout) (segment : ℕ) → segment < length l.segments →
    layout_at (with_segment l next) segment ≡ layout_at l segment
layout_kept l next segment within =
    get_or_append_left l.segments (next ∷ []) (record { size = 0; alignment = 0; count = 0 }) segment within

lies_kept : (l : Ledger) (next : SegmentLayout) (chunk : Chunk) → LiesWithin l chunk →
    LiesWithin (with_segment l next) chunk
lies_kept l next chunk lies =
    let layout = layout_kept l next chunk.segment lies.segment in
    record {
      segment = omega (arith, length-append l.segments (next ∷ []), lies.segment);
      bucket = (let q = ap (λ b. b.count) layout in let r = lies.bucket in omega arith);
      bytes = lies.bytes ∙ sym (ap (λ b. b.size) layout);
    }

segments_kept : (l : Ledger) (next : SegmentLayout) → HasSoundSegments l → HasSizes next → length l.segments < 256 →
    HasSoundSegments (with_segment l next)
segments_kept l next h sizes room = record {
  some = omega (arith, length-append l.segments (next ∷ []));
  few = omega (arith, length-append l.segments (next ∷ []));
  sizes = λ i buckets stands. elim (old_or_new l.segments next i buckets stands) [
    | inl old ↦ h.sizes i buckets old
    | inr new ↦ subst HasSizes (sym new.1) sizes
  ];
}

sound_with_segment : (l : Ledger) (place : ℕ) (next : SegmentLayout) → IsSoundLedger l place → HasSizes next →
    length l.segments < 256 → IsSoundLedger (with_segment l next) place
sound_with_segment l place next sound sizes room = record {
  room = sound.room;
  segments = segments_kept l next sound.segments sizes room;
  names = sound.names;
  within = λ i a stands. lies_kept l next a (sound.within i a stands);
  apart = sound.apart;
  channels = sound.channels;
  histories = sound.histories;
  known = λ k c name here some. kept name (sound.known k c name here some);
  opened = λ segment is. (let q = sound.opened segment is in omega (arith, length-append l.segments (next ∷ [])));
}
  where
    kept : (name : ℕ) → IsSentChunk l name → IsSentChunk (with_segment l next) name
    kept name s = record {
      index = s.index;
      chunk = s.chunk;
      stands = s.stands;
      same_name = s.same_name;
      sent = s.sent;
      segment = s.segment;
      bucket = s.bucket;
    }

current_sizes : (l : Ledger) (place : ℕ) → IsSoundLedger l place → HasSizes (current_segment l).layout
current_sizes l place sound = last l.segments sound.segments.some sound.segments.sizes
  where
    none : SegmentLayout
    none = record { size = 0; alignment = 0; count = 0 }

    last : (segments : List SegmentLayout) → 1 ≤ length segments →
        ((i : ℕ) (buckets : SegmentLayout) → slice_get segments i ≡ Some buckets → HasSizes buckets) →
        HasSizes (get_or segments (length segments - 1) none)
    last segments some sizes = sizes (length segments - 1) (get_or segments (length segments - 1) none)
        (slice_get-get_or segments (length segments - 1) none (omega arith))

-- the ledger from which a loan takes its bucket is sound
pub sound_grown : (l : Ledger) (place size alignment : ℕ) → IsSoundLedger l place →
    cause l (command.Loan size alignment) ≡ None → IsSoundLedger (grown_ledger l size alignment) place
sound_grown l place size alignment sound none = go (serves (current_segment l) size alignment) refl
  where
    next : SegmentLayout
    next = next_segment (current_segment l) size alignment

    grown : serves (current_segment l) size alignment ≡ false → IsSoundLedger (with_segment l next) place
    grown unserved =
        let may = may_grow (current_segment l) size alignment none unserved in
        let some = sound.segments.some in let few = sound.segments.few in let last = may.number in
        sound_with_segment l place next sound
        (next_sizes l.settings.strategy (current_segment l).layout (current_segment l).full size alignment
        (current_sizes l place sound) may.growing may.power may.large may.aligned)
        (omega arith)

    go : (b : Bool) → serves (current_segment l) size alignment ≡ b → IsSoundLedger (grown_ledger l size alignment)
        place
    go true is = subst (λ b. IsSoundLedger (cond b l (with_segment l next)) place) (sym is) sound
    go false is = subst (λ b. IsSoundLedger (cond b l (with_segment l next)) place) (sym is) (grown is)
