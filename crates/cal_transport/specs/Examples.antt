-- Worked examples: closed runs and causes that the definitions compute. Each is the contract of a function of its name.
use Rattle.std.specs.Prelude.{ℕ, ◌≡◌, ◌++◌, true, false, replicate, List, [], ◌∷◌, Some, None}
use Rattle.cal_alloc.specs.declared.allocation_strategy.AllocationStrategy.{AllocationStrategy}
use Rattle.cal_alloc.specs.declared.allocation_strategy.AllocationStrategy.TheVariants.{BestFit, PowerOfTwo, Static}
use Rattle.cal_transport.specs.declared.settings.Settings.{Settings}
use Rattle.cal_transport.specs.declared.settings.CreateCause.TheVariants as create
use Rattle.cal_transport.specs.declared.command.Command.{Command}
use Rattle.cal_transport.specs.declared.command.Command.TheVariants.{Loan, Write, Send, Receive, Read, Release, Reclaim, Discard, Count}
use Rattle.cal_transport.specs.declared.reply.Slot.{Slot}
use Rattle.cal_transport.specs.declared.reply.Reply.{Reply}
use Rattle.cal_transport.specs.declared.reply.Reply.TheVariants.{Loaned, Written, Sent, Received, Shown, Released, Reclaimed, Discarded, Counted, Refused, Transit}
use Rattle.cal_transport.specs.declared.reply.Refusal.TheVariants.{BadLayout, ExceedsMaxSupportedAlignment, SizeTooLarge, OutOfMemory, MaxReallocationsReached, SizeOutOfRange, InternalError, NotLoaned, WriteAfterSend, OutsideChunk, OutsideConnection, AlreadyInTransit, ReceiveBufferFull, ReceiveWouldExceedMaxBorrowValue, NotBorrowed, RetrieveBufferFull}
use Rattle.cal_transport.specs.Settings.{create_cause}
use Rattle.cal_transport.specs.Ledger.{Ledger, first_ledger}
use Rattle.cal_transport.specs.Cause.{cause}
use Rattle.cal_transport.specs.Run.{IsRun}
-- a worked example computes whether an alignment is a power of two
unfoldable pub use lib.Count.{ones as count_ones}

-- ---- settings and slots

-- static memory of buckets of eight bytes, and one channel
abbrev pub static_settings : ℕ → ℕ → ℕ → Settings
static_settings count buffer borrow = record {
  size = 8;
  alignment = 8;
  count = count;
  strategy = Static;
  buffer = buffer;
  borrow = borrow;
  overflow = false;
  samples = count;
  segments = 1;
  channels = 1;
}

-- growing memory that begins with one bucket of eight bytes, and one channel
abbrev pub growing_settings : AllocationStrategy → Settings
growing_settings strategy = record {
  size = 8;
  alignment = 8;
  count = 1;
  strategy = strategy;
  buffer = 4;
  borrow = 4;
  overflow = false;
  samples = 8;
  segments = 8;
  channels = 1;
}

abbrev pub slot : ℕ → ℕ → ℕ → Slot
slot chunk segment place = record { chunk = chunk; segment = segment; place = place }

-- ---- runs

-- a chunk is loaned, written, sent, received and read, without a copy; it is in transit then
abbrev pub OneChunk : Type 0
OneChunk = IsRun (static_settings 1 1 1)
    (Loan 8 8 ∷ Write 1 0 (123 ∷ 0 ∷ []) ∷ Send 0 1 ∷ Receive 0 ∷ Read 0 1 0 2 ∷ [])
    (Loaned (slot 1 0 0) ∷ Written ∷ Sent None ∷ Received (Some (slot 1 0 0)) ∷ Shown (123 ∷ 0 ∷ []) ∷ Transit 0
    (slot 1 0 0) ∷ [])

-- each refusal of a static memory's loan, the first that holds
abbrev pub RefusedLoans : Type 0
RefusedLoans = IsRun (static_settings 1 1 1)
    (Loan 16 16 ∷ Loan 16 8 ∷ Loan 8 8 ∷ Loan 8 8 ∷ Loan 4 3 ∷ [])
    (Refused ExceedsMaxSupportedAlignment ∷ Refused SizeTooLarge ∷ Loaned (slot 3 0 0) ∷ Refused OutOfMemory ∷ Refused
    BadLayout ∷ [])

-- memory that grows by powers of two: a larger chunk gets a new segment, and the small one stays where it is
abbrev pub GrowsByPowers : Type 0
GrowsByPowers = IsRun
    (record {
      size = 4;
      alignment = 4;
      count = 8;
      strategy = PowerOfTwo;
      buffer = 4;
      borrow = 4;
      overflow = false;
      samples = 8;
      segments = 1;
      channels = 1;
    })
    (Loan 2 2 ∷ Write 1 0 (123 ∷ 0 ∷ []) ∷ Loan 8 8 ∷ Discard 3 ∷ Count ∷ Send 0 1 ∷ Receive 0 ∷ Read 0 1 0 2 ∷ [])
    (Loaned (slot 1 0 20) ∷ Written ∷ Loaned (slot 3 1 0) ∷ Discarded ∷ Counted
    (record { active = 2; mapped = 0; current = 1; size = 8; buckets = 8 })
    ∷ Sent None ∷ Received (Some (slot 1 0 20)) ∷ Shown (123 ∷ 0 ∷ []) ∷ Transit 0 (slot 1 0 20) ∷ [])

-- where each of four buckets is used, a best fit is one more of the padded size; a power of two is twice as many
abbrev pub four_large : AllocationStrategy → Settings
four_large strategy = record {
  size = 1024;
  alignment = 8;
  count = 4;
  strategy = strategy;
  buffer = 1;
  borrow = 1;
  overflow = false;
  samples = 1;
  segments = 1;
  channels = 1;
}

abbrev pub four_loans : List Command
four_loans = Loan 1024 8 ∷ Loan 1024 8 ∷ Loan 1024 8 ∷ Loan 1024 8 ∷ Loan 1500 16 ∷ Count ∷ []

abbrev pub four_slots : List Reply
four_slots = Loaned (slot 1 0 0) ∷ Loaned (slot 2 0 1024) ∷ Loaned (slot 3 0 2048) ∷ Loaned (slot 4 0 3072) ∷ []

abbrev pub BestFitGrows : Type 0
BestFitGrows = IsRun (four_large BestFit) four_loans
    (four_slots ++ Loaned (slot 5 1 0) ∷ Counted
    (record { active = 2; mapped = 0; current = 1; size = 1504; buckets = 5 }) ∷ [])

abbrev pub PowerOfTwoGrows : Type 0
PowerOfTwoGrows = IsRun (four_large PowerOfTwo) four_loans
    (four_slots ++ Loaned (slot 5 1 2048) ∷ Counted
    (record { active = 2; mapped = 0; current = 1; size = 2048; buckets = 8 }) ∷ [])

-- a send on a full channel takes the oldest chunk back, and the receiver borrows no more than it may
abbrev pub OverflowTakesTheOldest : Type 0
OverflowTakesTheOldest = IsRun
    (record {
      size = 8;
      alignment = 8;
      count = 3;
      strategy = Static;
      buffer = 2;
      borrow = 2;
      overflow = true;
      samples = 3;
      segments = 1;
      channels = 1;
    })
    (Loan 8 8 ∷ Loan 8 8 ∷ Loan 8 8 ∷ Send 0 1 ∷ Send 0 2 ∷ Send 0 3 ∷ Receive 0 ∷ Receive 0 ∷ Receive 0 ∷ [])
    (Loaned (slot 1 0 0) ∷ Loaned (slot 2 0 8) ∷ Loaned (slot 3 0 16) ∷ Sent None ∷ Sent None ∷ Sent (Some (slot 1 0 0))
    ∷ Received (Some (slot 2 0 8)) ∷ Received (Some (slot 3 0 16)) ∷ Refused ReceiveWouldExceedMaxBorrowValue
    ∷ Transit 0 (slot 2 0 8) ∷ Transit 0 (slot 3 0 16) ∷ [])

-- without overflow a full channel refuses; the borrow limit is looked at before the queue, which is empty here
abbrev pub FullChannelRefuses : Type 0
FullChannelRefuses = IsRun (static_settings 2 1 1)
    (Loan 8 8 ∷ Loan 8 8 ∷ Send 0 1 ∷ Send 0 2 ∷ Receive 0 ∷ Receive 0 ∷ [])
    (Loaned (slot 1 0 8) ∷ Loaned (slot 2 0 0) ∷ Sent None ∷ Refused ReceiveBufferFull ∷ Received (Some (slot 1 0 8))
    ∷ Refused ReceiveWouldExceedMaxBorrowValue ∷ Transit 0 (slot 1 0 8) ∷ [])

-- buffer one and borrow limit one: the completion queue holds three
abbrev pub CompletionQueueHoldsThree : Type 0
CompletionQueueHoldsThree = IsRun (static_settings 3 1 1)
    (Loan 1 1 ∷ Loan 1 1 ∷ Loan 1 1 ∷ Send 0 1 ∷ Receive 0 ∷ Reclaim 0 ∷ Send 0 2 ∷ Reclaim 0 ∷ Release 0 1 ∷ Receive 0
    ∷ Send 0 3 ∷ Release 0 2 ∷ Receive 0 ∷ Release 0 3 ∷ [])
    (Loaned (slot 1 0 0) ∷ Loaned (slot 2 0 8) ∷ Loaned (slot 3 0 16) ∷ Sent None ∷ Received (Some (slot 1 0 0)) ∷
    Reclaimed None
    ∷ Sent None ∷ Reclaimed None ∷ Released ∷ Received (Some (slot 2 0 8)) ∷ Sent None ∷ Released ∷ Received
    (Some (slot 3 0 16))
    ∷ Released ∷ Transit 0 (slot 1 0 0) ∷ Transit 0 (slot 2 0 8) ∷ Transit 0 (slot 3 0 16) ∷ [])

-- the fourth release finds it full, until the sender reclaims
abbrev pub FullCompletionQueueRefuses : Type 0
FullCompletionQueueRefuses = IsRun (static_settings 4 1 1)
    (Loan 8 8 ∷ Loan 8 8 ∷ Loan 8 8 ∷ Loan 8 8 ∷ Send 0 1 ∷ Receive 0 ∷ Release 0 1 ∷ Send 0 2 ∷ Receive 0 ∷ Release 0 2
    ∷ Send 0 3 ∷ Receive 0 ∷ Release 0 3 ∷ Send 0 4 ∷ Receive 0 ∷ Release 0 4 ∷ Reclaim 0 ∷ Release 0 4 ∷ [])
    (Loaned (slot 1 0 0) ∷ Loaned (slot 2 0 8) ∷ Loaned (slot 3 0 16) ∷ Loaned (slot 4 0 24) ∷ Sent None
    ∷ Received (Some (slot 1 0 0)) ∷ Released ∷ Sent None ∷ Received (Some (slot 2 0 8)) ∷ Released ∷ Sent None
    ∷ Received (Some (slot 3 0 16)) ∷ Released ∷ Sent None ∷ Received (Some (slot 4 0 24)) ∷ Refused RetrieveBufferFull
    ∷ Reclaimed (Some (slot 1 0 0)) ∷ Released
    ∷ Transit 0 (slot 2 0 8) ∷ Transit 0 (slot 3 0 16) ∷ Transit 0 (slot 4 0 24) ∷ [])

-- a chunk that two channels hold keeps its bucket until both let go
abbrev pub TwoChannelsHoldAChunk : Type 0
TwoChannelsHoldAChunk = IsRun
    (record {
      size = 8;
      alignment = 8;
      count = 1;
      strategy = Static;
      buffer = 1;
      borrow = 1;
      overflow = false;
      samples = 1;
      segments = 1;
      channels = 2;
    })
    (Loan 8 8 ∷ Write 1 0 (255 ∷ []) ∷ Send 0 1 ∷ Send 1 1 ∷ Discard 1 ∷ Receive 0 ∷ Release 0 1 ∷ Reclaim 0 ∷ Loan 8 8
    ∷ Receive 1 ∷ Read 1 1 0 1 ∷ Release 1 1 ∷ Reclaim 1 ∷ Loan 8 8 ∷ Send 1 14 ∷ Receive 1 ∷ Read 1 14 0 8 ∷ [])
    (Loaned (slot 1 0 0) ∷ Written ∷ Sent None ∷ Sent None ∷ Discarded ∷ Received (Some (slot 1 0 0)) ∷ Released
    ∷ Reclaimed (Some (slot 1 0 0)) ∷ Refused OutOfMemory ∷ Received (Some (slot 1 0 0)) ∷ Shown (255 ∷ []) ∷ Released
    ∷ Reclaimed (Some (slot 1 0 0)) ∷ Loaned (slot 14 0 0) ∷ Sent None ∷ Received (Some (slot 14 0 0))
    ∷ Shown (0 ∷ 0 ∷ 0 ∷ 0 ∷ 0 ∷ 0 ∷ 0 ∷ 0 ∷ []) ∷ Transit 1 (slot 14 0 0) ∷ [])

-- three segments with a chunk each are active; the view has the two of which a chunk was received
abbrev pub ManySegments : Type 0
ManySegments = IsRun
    (record {
      size = 8;
      alignment = 8;
      count = 1;
      strategy = BestFit;
      buffer = 2;
      borrow = 2;
      overflow = false;
      samples = 4;
      segments = 4;
      channels = 2;
    })
    (Loan 8 8 ∷ Loan 16 8 ∷ Loan 24 8 ∷ Send 1 1 ∷ Send 0 3 ∷ Send 0 2 ∷ Receive 0 ∷ Receive 1 ∷ Release 1 1 ∷ Count ∷
    [])
    (Loaned (slot 1 0 0) ∷ Loaned (slot 2 1 0) ∷ Loaned (slot 3 2 0) ∷ Sent None ∷ Sent None ∷ Sent None
    ∷ Received (Some (slot 3 2 0)) ∷ Received (Some (slot 1 0 0)) ∷ Released
    ∷ Counted (record { active = 3; mapped = 2; current = 2; size = 24; buckets = 2 })
    ∷ Transit 0 (slot 2 1 0) ∷ Transit 0 (slot 3 2 0) ∷ Transit 1 (slot 1 0 0) ∷ [])

-- a segment goes once its last chunk has come back and a later one is current
abbrev pub SegmentsRetire : Type 0
SegmentsRetire = IsRun (growing_settings BestFit)
    (Loan 8 8 ∷ Loan 16 8 ∷ Count ∷ Discard 1 ∷ Count ∷ Discard 2 ∷ Loan 32 8 ∷ Count ∷ [])
    (Loaned (slot 1 0 0) ∷ Loaned (slot 2 1 16) ∷ Counted
    (record { active = 2; mapped = 0; current = 1; size = 16; buckets = 2 })
    ∷ Discarded ∷ Counted (record { active = 1; mapped = 0; current = 1; size = 16; buckets = 2 })
    ∷ Discarded ∷ Loaned (slot 7 2 0) ∷ Counted (record { active = 1; mapped = 0; current = 2; size = 32; buckets = 2 })
    ∷ [])

-- what came back by overflow and isn't loaned is free again
abbrev pub OverflowFreesABucket : Type 0
OverflowFreesABucket = IsRun
    (record {
      size = 8;
      alignment = 8;
      count = 2;
      strategy = Static;
      buffer = 1;
      borrow = 1;
      overflow = true;
      samples = 2;
      segments = 1;
      channels = 1;
    })
    (Loan 8 8 ∷ Loan 8 8 ∷ Send 0 1 ∷ Discard 1 ∷ Send 0 2 ∷ Loan 8 8 ∷ [])
    (Loaned (slot 1 0 8) ∷ Loaned (slot 2 0 0) ∷ Sent None ∷ Discarded ∷ Sent (Some (slot 1 0 8)) ∷ Loaned (slot 6 0 8)
    ∷ Transit 0 (slot 2 0 0) ∷ [])

-- the refusals of a chunk's way, each where its cause stands first
abbrev pub RefusalsOnTheWay : Type 0
RefusalsOnTheWay = IsRun
    (record {
      size = 8;
      alignment = 8;
      count = 1;
      strategy = Static;
      buffer = 2;
      borrow = 2;
      overflow = false;
      samples = 1;
      segments = 1;
      channels = 1;
    })
    (Loan 0 1 ∷ Send 0 1 ∷ Send 0 1 ∷ Write 1 0 (1 ∷ []) ∷ Read 0 1 0 1 ∷ Receive 0 ∷ Release 0 1 ∷ Release 0 1 ∷
    Reclaim 0
    ∷ Send 0 1 ∷ Send 1 1 ∷ Send 0 5 ∷ Receive 9 ∷ Discard 1 ∷ Discard 1 ∷ [])
    (Loaned (slot 1 0 0) ∷ Sent None ∷ Refused AlreadyInTransit ∷ Refused WriteAfterSend ∷ Refused NotBorrowed
    ∷ Received (Some (slot 1 0 0)) ∷ Released ∷ Refused NotBorrowed ∷ Reclaimed (Some (slot 1 0 0)) ∷ Sent None
    ∷ Refused OutsideConnection ∷ Refused NotLoaned ∷ Refused OutsideConnection ∷ Discarded ∷ Refused NotLoaned
    ∷ Transit 0 (slot 1 0 0) ∷ [])

-- bytes up to the bucket's end may be written, and none past it
abbrev pub WritesStayInside : Type 0
WritesStayInside = IsRun
    (record {
      size = 24;
      alignment = 16;
      count = 2;
      strategy = Static;
      buffer = 1;
      borrow = 1;
      overflow = false;
      samples = 1;
      segments = 1;
      channels = 1;
    })
    (Loan 32 16 ∷ Write 1 32 [] ∷ Write 1 32 (0 ∷ []) ∷ Count ∷ [])
    (Loaned (slot 1 0 32) ∷ Written ∷ Refused OutsideChunk ∷ Counted
    (record { active = 1; mapped = 0; current = 0; size = 32; buckets = 2 }) ∷ [])

-- growth is refused where no memory supports the alignment, and where the segment would be too large
abbrev pub RefusedGrowth : Type 0
RefusedGrowth = IsRun (growing_settings BestFit)
    (Loan 8 8192 ∷ Loan 72057594037927937 1 ∷ [])
    (Refused InternalError ∷ Refused SizeOutOfRange ∷ [])

-- ---- ledgers written out

-- the last segment number is in use, and its bucket is too small
abbrev pub crowded_ledger : Ledger
crowded_ledger = record (first_ledger (growing_settings BestFit)) {
  segments = replicate 256 (record { size = 8; alignment = 8; count = 1 });
}

abbrev pub LastSegmentRefuses : Type 0
LastSegmentRefuses = cause crowded_ledger (Loan 16 8) ≡ Some MaxReallocationsReached

-- a chunk may be given back once for each time that it was received
abbrev pub GivenBackOnce : Type 0
GivenBackOnce = cause
    (record (first_ledger (static_settings 1 1 1)) {
      histories = record { sent = 1 ∷ 1 ∷ []; departures = []; released = []; reclaimed = [] } ∷ [];
    })
    (Release 0 1) ≡ Some NotBorrowed

-- ---- settings

abbrev pub settings_with : ℕ → ℕ → ℕ → ℕ → Settings
settings_with size alignment count buffer = record {
  size = size;
  alignment = alignment;
  count = count;
  strategy = Static;
  buffer = buffer;
  borrow = 1;
  overflow = false;
  samples = 1;
  segments = 1;
  channels = 1;
}

abbrev pub CreateCauses : Type 0
CreateCauses =
    (create_cause (settings_with 8 3 1 1) ≡ Some create.BadLayout)
    × (create_cause (settings_with 0 8 1 1) ≡ Some create.SizeIsZero)
    × (create_cause (settings_with 8 8 0 1) ≡ Some create.SizeIsZero)
    × (create_cause (settings_with 8 8192 1 1) ≡ Some create.InternalError)
    × (create_cause (settings_with 8 8 4294967296 1) ≡ Some create.SizeOutOfRange)
    × (create_cause (settings_with 8 8 1 9223372036854775807) ≡ Some create.SizeOutOfRange)
    × (create_cause (settings_with 8 8 1 0) ≡ None)
