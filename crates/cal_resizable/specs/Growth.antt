-- How a growing memory hands out a chunk, and what it plans where its current segment refuses one.
use Rattle.std.specs.Prelude.{◌≡◌, ℕ, ◌+◌, Bool, true, false, not, ◌&&◌, ◌||◌, ◌==◌, nat_le, Option, Some, None, is_some, IsSomeAnd, Result, Ok, Err, List, ◌++◌, if◌then◌else◌}
use Rattle.std.specs.Option.{option_map}
use Rattle.cal_alloc.specs.Hints.{pool_resize_hint}
use Rattle.cal_alloc.specs.PointerOffset.{pointer_offset, offset_of}
use Rattle.cal_alloc.specs.Pool.{Pool, buckets_within, pool_refusal}
use Rattle.cal_alloc.specs.SizeAndAlignment.{SizeAndAlignment}
use Rattle.cal_alloc.specs.declared.allocation_strategy.AllocationStrategy.{AllocationStrategy}
use Rattle.cal_alloc.specs.declared.allocation_strategy.AllocationStrategy.TheVariants.{BestFit, PowerOfTwo, Static}
use Rattle.cal_alloc.specs.declared.shm_allocator.SharedMemorySetupHint.{SharedMemorySetupHint}
use Rattle.cal_alloc.specs.declared.shm_allocator.ShmAllocationError.{ShmAllocationError}
use Rattle.cal_alloc.specs.declared.shm_allocator.ShmAllocationError.TheVariants as refusal
use Rattle.cal_alloc.specs.declared.shm_allocator.ShmAllocator as allocator
use Rattle.cal_names.specs.ConceptSettings.{ConceptSettings}
use Rattle.cal_storage.specs.Contents.{Contents, after_creation, new_handle}
use Rattle.cal_storage.specs.Refusals.{finished_version}
use Rattle.cal_shm.specs.Calls.{OfValue, ChangesAllocator}
use Rattle.cal_shm.specs.Plan.{SegmentPlan}
use Rattle.cal_alloc.specs.Limits.{max_memory_alignment}
use Rattle.cal_shm.specs.Refusals.{create_refusal}
use Rattle.cal_shm.specs.Segment.{Segment, new_segment}
use Rattle.cal_shm.specs.declared.errors.SharedMemoryCreateError.{SharedMemoryCreateError}
use Rattle.cal_resizable.specs.Memory.{MemoryState, segment_path}
use Rattle.cal_resizable.specs.SegmentNames.{number_end}
use Rattle.cal_resizable.specs.Slots.{Handle, Slots, HeldSegment, segment_at, with_more, with_less, with_segment, without_unused, after_retiring}
use Rattle.cal_resizable.specs.declared.errors.ResizableShmAllocationError.{ResizableShmAllocationError}
use Rattle.cal_resizable.specs.declared.errors.ResizableShmAllocationError.TheVariants as error

-- an empty chunk is refused by every segment; what else is refused may be served by another
abbrev pub may_help : ShmAllocationError → Bool
may_help refusal.ExceedsMaxSupportedAlignment = true
may_help refusal.SizeTooLarge = true
may_help refusal.OutOfMemory = true
may_help refusal.SizeIsZero = false

-- whether memory of a strategy grows
abbrev pub grows : AllocationStrategy → Bool
grows BestFit = true
grows PowerOfTwo = true
grows Static = false

-- how many buckets the next segment has that an allocation of a layout would make: none where the pool of the current
-- one serves the layout, where memory of this strategy doesn't grow, or where no further segment can be
abbrev pub next_number_of_buckets : AllocationStrategy → ℕ → SizeAndAlignment → Pool → Option ℕ
next_number_of_buckets strategy current layout pool =
    if is_some (pool_refusal pool layout) && (grows strategy && not (current == 255))
    then option_map (λ hint. (buckets_within hint.payload_size hint.config.bucket_layout).count)
    (pool_resize_hint pool layout strategy)
    else None

-- the registry with the segment of a number, and a fact of its allocator and payload
abbrev pub OfSegment : {T : Type 0} → Contents T → Slots → ℕ → (T → Type 0) → Type 0
OfSegment contents slots number fact =
    IsSomeAnd (segment_at slots number) (λ held. OfValue contents held.handle.id fact)

-- the handle of the next segment
abbrev pub next_handle : {T : Type 0} → Contents T → MemoryState → Handle
next_handle contents memory =
    new_handle contents (segment_path memory.settings memory.name (memory.current + 1)) true

-- a memory whose next segment is the current one; the former one is gone where no chunk of it is out
abbrev pub grown_memory : {T : Type 0} → Contents T → MemoryState → MemoryState
grown_memory contents memory = record memory {
  current = memory.current + 1;
  slots = with_segment (without_unused memory.slots memory.current) (memory.current + 1) (next_handle contents memory);
}

-- the memory with one chunk more in its current segment
abbrev pub with_chunk : MemoryState → MemoryState
with_chunk memory = record memory { slots = with_more memory.slots memory.current }

-- what an allocator is, and its configuration
module _ {A C : Type 0} (rules : allocator.Ghosts A C) where
  -- the next segment's memory, or why there is none
  abbrev pub hint_or_error : Option (SharedMemorySetupHint C) →
      Result (SharedMemorySetupHint C) ResizableShmAllocationError
  hint_or_error None = Err error.SizeOutOfRange
  hint_or_error (Some hint) = Ok hint

  -- what is planned where the allocator of the current segment refuses a chunk: the next segment's memory, or why the
  -- memory doesn't grow, the first cause that holds
  abbrev pub growth_plan : AllocationStrategy → ℕ → SizeAndAlignment → A → ShmAllocationError →
      Result (SharedMemorySetupHint C) ResizableShmAllocationError
  growth_plan strategy current layout allocator refusal =
      if not (may_help refusal && (grows strategy && (rules.growth_raises_alignment
      || nat_le layout.alignment (rules.properties allocator).max_alignment)))
      then Err (error.ShmAllocationError refusal)
      else if current == 255 then Err error.MaxReallocationsReached
      else hint_or_error (rules.resize_hint allocator layout strategy)

  -- the allocator of a new segment
  abbrev pub new_allocator : SharedMemorySetupHint C → A
  new_allocator hint = rules.new_uninit max_memory_alignment hint.payload_size hint.config

  -- the plan of the segment of a name
  abbrev pub segment_plan : ConceptSettings → List ℕ → SharedMemorySetupHint C → SegmentPlan
  segment_plan settings name hint = record {
    name = name;
    settings = settings;
    options = record { is_owner = true; size = hint.payload_size };
  }

  -- why a segment isn't made
  abbrev pub segment_refusal : Contents (Segment A) → SegmentPlan → SharedMemorySetupHint C →
      Option SharedMemoryCreateError
  segment_refusal contents plan hint =
      create_refusal (rules.fits hint.payload_size hint.config) (rules.properties (new_allocator hint)).max_alignment
      contents plan

  -- the new segment itself
  abbrev pub made_segment : SharedMemorySetupHint C → Segment A
  made_segment hint = new_segment (rules.after_init (new_allocator hint)) hint.payload_size

  -- why the memory doesn't grow by a plan
  abbrev pub plan_refusal : Contents (Segment A) → MemoryState →
      Result (SharedMemorySetupHint C) ResizableShmAllocationError → Option ResizableShmAllocationError
  plan_refusal contents memory (Err error) = Some error
  plan_refusal contents memory (Ok hint) =
      option_map error.SharedMemoryCreateError
      (segment_refusal contents
      (segment_plan memory.settings (memory.name ++ number_end (memory.current + 1)) hint) hint)

  -- why no chunk of a layout is handed out, where the current segment refuses it and where it doesn't
  abbrev pub chunk_refusal : Contents (Segment A) → MemoryState → SizeAndAlignment → A → Option ShmAllocationError →
      Option ResizableShmAllocationError
  chunk_refusal contents memory layout allocator None = None
  chunk_refusal contents memory layout allocator (Some refusal) =
      plan_refusal contents memory (growth_plan memory.strategy memory.current layout allocator refusal)

  abbrev pub allocation_refusal : Contents (Segment A) → MemoryState → SizeAndAlignment → Segment A →
      Option ResizableShmAllocationError
  allocation_refusal contents memory layout segment =
      chunk_refusal contents memory layout segment.allocator (rules.refusal segment.allocator layout)

  -- the registry with the next segment, and without the former current one where no chunk of it is out: the new one is
  -- made first
  abbrev pub grown_contents : Contents (Segment A) → MemoryState → SharedMemorySetupHint C → Contents (Segment A)
  grown_contents contents memory hint =
      after_retiring (after_creation contents (segment_path memory.settings memory.name (memory.current + 1))
      (made_segment hint) finished_version) (segment_at memory.slots memory.current)

  -- The current segment hands out a chunk of a layout: its allocator gives it, the pointer carries the segment's
  -- number, and the segment has one chunk more.
  pub record AllocatesHere (old : Contents (Segment A)) (before : MemoryState) (layout : SizeAndAlignment)
      (pointer : ℕ) (new : Contents (Segment A)) (after : MemoryState) : Type 0 where
    pub chunk : ℕ
    pub held : HeldSegment
    pub is_current : segment_at before.slots before.current ≡ Some held
    pub given : ChangesAllocator old held.handle.id (λ was is. rules.Allocates was layout chunk is) new
    pub carries : pointer ≡ pointer_offset (offset_of chunk) before.current
    pub counted : after ≡ with_chunk before

  -- a chunk is handed out by the current segment, or by the one that a plan makes
  abbrev pub AllocatesBy : Contents (Segment A) → MemoryState → SizeAndAlignment → ℕ → Contents (Segment A) →
      MemoryState → Result (SharedMemorySetupHint C) ResizableShmAllocationError → Type 0
  AllocatesBy old before layout pointer new after (Err error) = ⊥
  AllocatesBy old before layout pointer new after (Ok hint) =
      AllocatesHere (grown_contents old before hint) (grown_memory old before) layout pointer new after

  abbrev pub AllocatesAfter : Contents (Segment A) → MemoryState → SizeAndAlignment → ℕ → Contents (Segment A) →
      MemoryState → A → Option ShmAllocationError → Type 0
  AllocatesAfter old before layout pointer new after allocator None =
      AllocatesHere old before layout pointer new after
  AllocatesAfter old before layout pointer new after allocator (Some refusal) =
      AllocatesBy old before layout pointer new after
      (growth_plan before.strategy before.current layout allocator refusal)

  -- A chunk is handed out: by the current segment where that serves it, and else by the next one, which is made by one
  -- growth.
  abbrev pub Allocates : Contents (Segment A) → MemoryState → SizeAndAlignment → ℕ → Contents (Segment A) →
      MemoryState → Type 0
  Allocates old before layout pointer new after =
      OfSegment old before.slots before.current (λ segment.
      AllocatesAfter old before layout pointer new after segment.allocator (rules.refusal segment.allocator layout))

  -- a memory has grown by a plan
  abbrev pub GrowsBy : Contents (Segment A) → MemoryState → Contents (Segment A) → MemoryState →
      Result (SharedMemorySetupHint C) ResizableShmAllocationError → Type 0
  GrowsBy old before new after (Err error) = ⊥
  GrowsBy old before new after (Ok hint) = (new ≡ grown_contents old before hint) × (after ≡ grown_memory old before)

-- ---- chunks that come back

-- the memory after a chunk of a segment has come back; one that isn't the current one is retired with its last chunk
abbrev pub after_return : MemoryState → ℕ → MemoryState
after_return memory number = record memory {
  slots = if number == memory.current then with_less memory.slots number
      else without_unused (with_less memory.slots number) number;
}

abbrev pub returned_contents : {T : Type 0} → Contents T → MemoryState → ℕ → Contents T
returned_contents contents memory number =
    if number == memory.current then contents
    else after_retiring contents (segment_at (with_less memory.slots number) number)

-- A chunk of a segment came back: its allocator has changed in this way, and the segment has one chunk less.
pub record TakesBack {A : Type 0} (Change : A → A → Type 0) (old : Contents (Segment A)) (before : MemoryState)
    (number : ℕ) (new : Contents (Segment A)) (after : MemoryState) : Type 0 where
  pub freed : Contents (Segment A)
  pub held : HeldSegment
  pub there : segment_at before.slots number ≡ Some held
  pub change : ChangesAllocator old held.handle.id Change freed
  pub registry : new ≡ returned_contents freed before number
  pub memory : after ≡ after_return before number
