-- Why a loan is refused, and when memory grows for it: by the segment that loans are served from, and nothing else.
use Rattle.std.specs.Prelude.{ℕ, Bool, true, false, not, ◌&&◌, ◌==◌, nat_lt, if◌then◌else◌, Option, Some, None}
use Rattle.std.specs.Int.{is_power_of_two}
use Rattle.cal_alloc.specs.declared.allocation_strategy.AllocationStrategy.{AllocationStrategy}
use Rattle.cal_alloc.specs.declared.allocation_strategy.AllocationStrategy.TheVariants.{BestFit, PowerOfTwo, Static}
use Rattle.cal_alloc.specs.Growth.{SegmentLayout, fits_bucket, grown_buckets}
use Rattle.cal_alloc.specs.Limits.{max_memory_alignment}
use Rattle.cal_transport.specs.declared.reply.Refusal.{Refusal}
use Rattle.cal_transport.specs.declared.reply.Refusal.TheVariants.{BadLayout, ExceedsMaxSupportedAlignment, SizeTooLarge, OutOfMemory, MaxReallocationsReached, SizeOutOfRange, InternalError}
use Rattle.cal_transport.specs.Settings.{is_too_large}

-- the segment that loans are served from: how its memory grows, its number, its layout, and whether no bucket is free
pub record CurrentSegment : Type 0 where
  pub strategy : AllocationStrategy
  pub number : ℕ
  pub layout : SegmentLayout
  pub full : Bool

abbrev pub is_static : AllocationStrategy → Bool
is_static Static = true
is_static BestFit = false
is_static PowerOfTwo = false

-- the segment has a free bucket, and the chunk fits
abbrev pub serves : CurrentSegment → ℕ → ℕ → Bool
serves segment size alignment = not segment.full && fits_bucket segment.layout size alignment

-- a memory that grows has to grow for the loan
abbrev pub needs_segment : CurrentSegment → ℕ → ℕ → Bool
needs_segment segment size alignment =
    is_power_of_two alignment && not (is_static segment.strategy) && not (serves segment size alignment)

-- the layout of the segment that a loan makes where this one doesn't serve it
abbrev pub next_segment : CurrentSegment → ℕ → ℕ → SegmentLayout
next_segment segment size alignment = grown_buckets segment.strategy segment.layout segment.full size alignment

-- a static memory doesn't serve the loan
abbrev pub static_cause : CurrentSegment → ℕ → ℕ → Option Refusal
static_cause segment size alignment =
    if nat_lt segment.layout.alignment alignment then Some ExceedsMaxSupportedAlignment
    else if nat_lt segment.layout.size size then Some SizeTooLarge
    else if segment.full then Some OutOfMemory
    else None

-- a memory that grows can't take this segment next
abbrev pub growth_cause : CurrentSegment → SegmentLayout → Option Refusal
growth_cause segment next =
    if segment.number == 255 then Some MaxReallocationsReached
    else if is_too_large next then Some SizeOutOfRange
    else if nat_lt max_memory_alignment next.alignment then Some InternalError
    else None

-- the first cause against a loan that holds
abbrev pub loan_cause : CurrentSegment → ℕ → ℕ → Option Refusal
loan_cause segment size alignment =
    if not (is_power_of_two alignment) then Some BadLayout
    else if is_static segment.strategy then static_cause segment size alignment
    else if serves segment size alignment then None
    else growth_cause segment (next_segment segment size alignment)
