-- Worked examples of what is easily mistaken: which of two causes comes first, what stays after a chunk came back, and
-- places and growth at their edges. Each is the contract of a function of its name.
use Rattle.std.specs.Prelude.{ℕ, ◌≡◌, false, [], ◌∷◌, Some, None}
use Rattle.cal_alloc.specs.declared.allocation_strategy.AllocationStrategy.{AllocationStrategy}
use Rattle.cal_alloc.specs.declared.allocation_strategy.AllocationStrategy.TheVariants.{BestFit, PowerOfTwo, Static}
use Rattle.cal_transport.specs.declared.settings.Settings.{Settings}
use Rattle.cal_transport.specs.declared.command.Command.TheVariants.{Loan, Write, Send, Receive, Read, Release, Reclaim, Count}
use Rattle.cal_transport.specs.declared.reply.Reply.TheVariants.{Loaned, Written, Sent, Received, Shown, Released, Reclaimed, Counted, Refused, Transit}
use Rattle.cal_transport.specs.declared.reply.Refusal.TheVariants.{SizeTooLarge, SizeOutOfRange, NotLoaned, WriteAfterSend, OutsideChunk, OutsideConnection, AlreadyInTransit, ReceiveWouldExceedMaxBorrowValue, NotBorrowed}
use Rattle.cal_transport.specs.Settings.{clamped_settings}
use Rattle.cal_transport.specs.Run.{IsRun}
use Rattle.cal_transport.specs.Examples.{static_settings, growing_settings, slot}

-- ---- the way of a chunk

-- a chunk that came back may be sent and borrowed again, and is given back once again; it isn't written any more
abbrev pub BorrowedAgain : Type 0
BorrowedAgain = IsRun (static_settings 1 1 1)
    (Loan 8 8 ∷ Write 1 7 (9 ∷ []) ∷ Send 0 1 ∷ Receive 0 ∷ Release 0 1 ∷ Reclaim 0 ∷ Write 1 0 (1 ∷ []) ∷ Send 0 1
    ∷ Read 0 1 7 1 ∷ Receive 0 ∷ Read 0 1 7 1 ∷ Release 0 1 ∷ Release 0 1 ∷ [])
    (Loaned (slot 1 0 0) ∷ Written ∷ Sent None ∷ Received (Some (slot 1 0 0)) ∷ Released ∷ Reclaimed (Some (slot 1 0 0))
    ∷ Refused WriteAfterSend ∷ Sent None ∷ Refused NotBorrowed ∷ Received (Some (slot 1 0 0)) ∷ Shown (9 ∷ [])
    ∷ Released ∷ Refused NotBorrowed ∷ Transit 0 (slot 1 0 0) ∷ [])

-- chunks in transit are told by place, also where their names fall
abbrev pub TransitByPlace : Type 0
TransitByPlace = IsRun (static_settings 2 2 1)
    (Loan 8 8 ∷ Loan 8 8 ∷ Send 0 1 ∷ Send 0 2 ∷ [])
    (Loaned (slot 1 0 8) ∷ Loaned (slot 2 0 0) ∷ Sent None ∷ Sent None
    ∷ Transit 0 (slot 2 0 0) ∷ Transit 0 (slot 1 0 8) ∷ [])

-- ---- which of two causes comes first

-- the loan is looked at before the channel, the send and the borrow before the chunk's end, what is in transit before a
-- full channel, and the size before a full memory
abbrev pub FirstCauses : Type 0
FirstCauses = IsRun (static_settings 1 1 1)
    (Loan 8 8 ∷ Send 9 99 ∷ Read 0 1 8 1 ∷ Write 1 8 (1 ∷ []) ∷ Send 0 1 ∷ Write 1 8 (1 ∷ []) ∷ Send 0 1 ∷ Receive 0
    ∷ Read 0 1 8 1 ∷ Read 0 1 8 0 ∷ Read 9 1 8 1 ∷ Loan 9 8 ∷ [])
    (Loaned (slot 1 0 0) ∷ Refused NotLoaned ∷ Refused NotBorrowed ∷ Refused OutsideChunk ∷ Sent None
    ∷ Refused WriteAfterSend ∷ Refused AlreadyInTransit ∷ Received (Some (slot 1 0 0)) ∷ Refused OutsideChunk ∷ Shown []
    ∷ Refused OutsideConnection ∷ Refused SizeTooLarge ∷ Transit 0 (slot 1 0 0) ∷ [])

-- a chunk that isn't borrowed is told before a full completion queue
abbrev pub UnborrowedOnAFullQueue : Type 0
UnborrowedOnAFullQueue = IsRun (static_settings 3 1 1)
    (Loan 8 8 ∷ Loan 8 8 ∷ Loan 8 8 ∷ Send 0 1 ∷ Receive 0 ∷ Release 0 1 ∷ Send 0 2 ∷ Receive 0 ∷ Release 0 2 ∷ Send 0 3
    ∷ Receive 0 ∷ Release 0 3 ∷ Release 0 3 ∷ [])
    (Loaned (slot 1 0 0) ∷ Loaned (slot 2 0 8) ∷ Loaned (slot 3 0 16) ∷ Sent None ∷ Received (Some (slot 1 0 0)) ∷
    Released
    ∷ Sent None ∷ Received (Some (slot 2 0 8)) ∷ Released ∷ Sent None ∷ Received (Some (slot 3 0 16)) ∷ Released
    ∷ Refused NotBorrowed ∷ Transit 0 (slot 1 0 0) ∷ Transit 0 (slot 2 0 8) ∷ Transit 0 (slot 3 0 16) ∷ [])

-- ---- settings

-- one channel, and a connection that can name the first bucket of the first segment alone
abbrev pub first_bucket_settings : ℕ → ℕ → ℕ → ℕ → ℕ → Settings
first_bucket_settings buffer borrow samples segments channels = record {
  size = 8;
  alignment = 8;
  count = 2;
  strategy = Static;
  buffer = buffer;
  borrow = borrow;
  overflow = false;
  samples = samples;
  segments = segments;
  channels = channels;
}

-- a bucket past the samples can be loaned, and not sent
abbrev pub OutsideSamples : Type 0
OutsideSamples = IsRun (first_bucket_settings 1 1 1 1 1)
    (Loan 8 8 ∷ Loan 8 8 ∷ Send 0 2 ∷ Send 0 1 ∷ [])
    (Loaned (slot 1 0 0) ∷ Loaned (slot 2 0 8) ∷ Refused OutsideConnection ∷ Sent None ∷ Transit 0 (slot 1 0 0) ∷ [])

-- zeros count as ones
abbrev pub ZerosCountAsOnes : Type 0
ZerosCountAsOnes = clamped_settings (first_bucket_settings 0 0 0 0 0) ≡ first_bucket_settings 1 1 1 1 1

-- ... in a run, too
abbrev pub ZeroSettings : Type 0
ZeroSettings = IsRun (first_bucket_settings 0 0 0 0 0)
    (Loan 8 8 ∷ Loan 8 8 ∷ Send 0 2 ∷ Send 1 1 ∷ Send 0 1 ∷ Receive 0 ∷ Receive 0 ∷ Receive 1 ∷ [])
    (Loaned (slot 1 0 0) ∷ Loaned (slot 2 0 8) ∷ Refused OutsideConnection ∷ Refused OutsideConnection ∷ Sent None
    ∷ Received (Some (slot 1 0 0)) ∷ Refused ReceiveWouldExceedMaxBorrowValue ∷ Refused OutsideConnection
    ∷ Transit 0 (slot 1 0 0) ∷ [])

-- ---- growth

-- a segment that would be too large is told before an alignment that no memory supports
abbrev pub BothOutOfRange : Type 0
BothOutOfRange = IsRun (growing_settings BestFit) (Loan 72057594037927937 8192 ∷ []) (Refused SizeOutOfRange ∷ [])

-- memory of some buckets of this size and an alignment of eight, and one channel
abbrev pub row_settings : ℕ → ℕ → AllocationStrategy → Settings
row_settings size count strategy = record {
  size = size;
  alignment = 8;
  count = count;
  strategy = strategy;
  buffer = 4;
  borrow = 4;
  overflow = false;
  samples = 4;
  segments = 4;
  channels = 1;
}

-- the least power of two above three is four
abbrev pub FourAfterThree : Type 0
FourAfterThree = IsRun (row_settings 8 3 PowerOfTwo)
    (Loan 8 8 ∷ Loan 8 8 ∷ Loan 8 8 ∷ Loan 8 8 ∷ Count ∷ [])
    (Loaned (slot 1 0 0) ∷ Loaned (slot 2 0 8) ∷ Loaned (slot 3 0 16) ∷ Loaned (slot 4 1 0)
    ∷ Counted (record { active = 2; mapped = 0; current = 1; size = 8; buckets = 4 }) ∷ [])

-- a greater alignment alone makes a new segment, whose buckets are padded to it; the first one is unused, and goes
abbrev pub GrowsToAnAlignment : Type 0
GrowsToAnAlignment = IsRun (row_settings 24 1 BestFit)
    (Loan 8 16 ∷ Count ∷ [])
    (Loaned (slot 1 1 0) ∷ Counted (record { active = 1; mapped = 0; current = 1; size = 32; buckets = 1 }) ∷ [])

-- a chunk of a mapped segment is received without a change of the segment that the view opened last
abbrev pub MappedStays : Type 0
MappedStays = IsRun (row_settings 8 2 BestFit)
    (Loan 8 8 ∷ Loan 8 8 ∷ Loan 16 8 ∷ Send 0 1 ∷ Send 0 3 ∷ Send 0 2 ∷ Receive 0 ∷ Receive 0 ∷ Receive 0 ∷ Release 0 1
    ∷ Release 0 2 ∷ Count ∷ [])
    (Loaned (slot 1 0 0) ∷ Loaned (slot 2 0 8) ∷ Loaned (slot 3 1 0) ∷ Sent None ∷ Sent None ∷ Sent None
    ∷ Received (Some (slot 1 0 0)) ∷ Received (Some (slot 3 1 0)) ∷ Received (Some (slot 2 0 8)) ∷ Released ∷ Released
    ∷ Counted (record { active = 2; mapped = 1; current = 1; size = 16; buckets = 3 })
    ∷ Transit 0 (slot 1 0 0) ∷ Transit 0 (slot 2 0 8) ∷ Transit 0 (slot 3 1 0) ∷ [])
