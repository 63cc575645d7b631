-- How a growing memory is created.
use Rattle.std.specs.Prelude.{◌≡◌, ℕ, true, Option, Some, None, is_some, List, ◌++◌, codes, if◌then◌else◌}
use Rattle.std.specs.Option.{option_or}
use Rattle.cal_alloc.specs.SizeAndAlignment.{SizeAndAlignment}
use Rattle.cal_alloc.specs.declared.allocation_strategy.AllocationStrategy.{AllocationStrategy}
use Rattle.cal_alloc.specs.declared.allocation_strategy.AllocationStrategy.TheVariants.{Static}
use Rattle.cal_alloc.specs.declared.shm_allocator.SharedMemorySetupHint.{SharedMemorySetupHint}
use Rattle.cal_alloc.specs.declared.shm_allocator.ShmAllocator as allocator
use Rattle.cal_names.specs.ConceptSettings.{ConceptSettings}
use Rattle.cal_storage.specs.Contents.{Contents, after_creation, new_handle}
use Rattle.cal_storage.specs.Refusals.{finished_version}
use Rattle.cal_shm.specs.Segment.{Segment}
use Rattle.cal_shm.specs.declared.errors.SharedMemoryCreateError.{SharedMemoryCreateError}
use Rattle.cal_shm.specs.declared.errors.SharedMemoryCreateError.TheVariants.{SizeOutOfRange, PathTooLong}
use Rattle.cal_resizable.specs.Growth.{segment_plan, segment_refusal, made_segment}
use Rattle.cal_resizable.specs.Memory.{MemoryState, segment_path, management_path}
use Rattle.cal_resizable.specs.SegmentNames.{management_segment_name, number_end}
use Rattle.cal_resizable.specs.Slots.{Handle, Slots, empty_slots, with_segment}

-- what a builder of growing memory has: the name, what makes the paths of the segments, how the memory grows, and for
-- how many chunks of which layout the first segment is made
pub record MemoryPlan : Type 0 where
  pub name : List ℕ
  pub settings : ConceptSettings
  pub strategy : AllocationStrategy
  pub layout : SizeAndAlignment
  pub number_of_chunks : ℕ

-- the layout of one byte; the management segment is made for one chunk of it
abbrev pub one_byte : SizeAndAlignment
one_byte = record { size = 1; alignment = 1 }

-- the plan of a new builder
abbrev pub new_plan : List ℕ → ConceptSettings → MemoryPlan
new_plan name settings =
    record { name = name; settings = settings; strategy = Static; layout = one_byte; number_of_chunks = 1 }

-- the handle of the management segment, which is made first
abbrev pub management_handle : {T : Type 0} → Contents T → MemoryPlan → Handle
management_handle contents plan = new_handle contents (management_path plan.settings plan.name) true

-- the handle of segment 0, which is made of a registry that has the management segment already
abbrev pub first_handle : {T : Type 0} → Contents T → MemoryPlan → Handle
first_handle managed plan = new_handle managed (segment_path plan.settings plan.name 0) true

-- a memory whose segment 0 is the current one
abbrev pub first_memory : List ℕ → ConceptSettings → AllocationStrategy → Handle → Slots → MemoryState
first_memory name settings strategy management slots = record {
  name = name;
  settings = settings;
  strategy = strategy;
  management = management;
  current = 0;
  slots = slots;
}

-- a new memory by the handles of its management segment and of segment 0, which has no chunk yet
abbrev pub memory_of : MemoryPlan → Handle → Handle → MemoryState
memory_of plan management first =
    first_memory plan.name plan.settings plan.strategy management (with_segment (empty_slots 256) 0 first)

module _ {A C : Type 0} (rules : allocator.Ghosts A C) where
  -- the registry with the management segment, and then with segment 0 too
  abbrev pub managed_contents : Contents (Segment A) → MemoryPlan → SharedMemorySetupHint C → Contents (Segment A)
  managed_contents contents plan hint =
      after_creation contents (management_path plan.settings plan.name) (made_segment rules hint) finished_version

  abbrev pub first_contents : Contents (Segment A) → MemoryPlan → SharedMemorySetupHint C → Contents (Segment A)
  first_contents managed plan hint =
      after_creation managed (segment_path plan.settings plan.name 0) (made_segment rules hint) finished_version

  -- why one of the two segments isn't made, the first cause that holds: first the management segment's
  abbrev pub management_refusal : Contents (Segment A) → MemoryPlan → SharedMemorySetupHint C →
      Option SharedMemoryCreateError
  management_refusal contents plan hint =
      segment_refusal rules contents (segment_plan rules plan.settings (plan.name ++ codes "__mgmt") hint) hint

  abbrev pub first_refusal : Contents (Segment A) → MemoryPlan → SharedMemorySetupHint C →
      Option SharedMemoryCreateError
  first_refusal managed plan hint =
      segment_refusal rules managed (segment_plan rules plan.settings (plan.name ++ number_end 0) hint) hint

  abbrev pub segments_refusal : Contents (Segment A) → MemoryPlan → SharedMemorySetupHint C →
      SharedMemorySetupHint C → Option SharedMemoryCreateError
  segments_refusal contents plan management first =
      option_or (management_refusal contents plan management)
      (first_refusal (managed_contents contents plan management) plan first)

  -- why no memory is made from what is proposed for segment 0 and for the management segment, the first cause that
  -- holds: there is no proposal, the name of the management segment is no file name, or a segment isn't made
  abbrev pub refusal_by : Contents (Segment A) → MemoryPlan → Option (SharedMemorySetupHint C) →
      Option (SharedMemorySetupHint C) → Option SharedMemoryCreateError
  refusal_by contents plan None management = Some SizeOutOfRange
  refusal_by contents plan (Some first) None = Some SizeOutOfRange
  refusal_by contents plan (Some first) (Some management) =
      if is_some (management_segment_name plan.name) then segments_refusal contents plan management first
      else Some PathTooLong

  -- why no memory is made by a plan
  abbrev pub creation_refusal : Contents (Segment A) → MemoryPlan → Option SharedMemoryCreateError
  creation_refusal contents plan =
      refusal_by contents plan (rules.initial_setup_hint plan.layout plan.number_of_chunks)
      (rules.initial_setup_hint one_byte 1)

  -- A memory was made from two proposals: the registry has its management segment and its segment 0, which the memory
  -- owns, and no chunk is out.
  pub record MakesMemory (old : Contents (Segment A)) (plan : MemoryPlan) (management first : SharedMemorySetupHint C)
      (new : Contents (Segment A)) (memory : MemoryState) : Type 0 where
    pub registry : new ≡ first_contents (managed_contents old plan management) plan first
    pub is : memory ≡ memory_of plan (management_handle old plan)
        (first_handle (managed_contents old plan management) plan)

  -- A memory was made by a plan.
  pub record CreatesMemory (old : Contents (Segment A)) (plan : MemoryPlan) (new : Contents (Segment A))
      (memory : MemoryState) : Type 0 where
    pub management : SharedMemorySetupHint C
    pub first : SharedMemorySetupHint C
    pub first_hint : rules.initial_setup_hint plan.layout plan.number_of_chunks ≡ Some first
    pub management_hint : rules.initial_setup_hint one_byte 1 ≡ Some management
    pub makes : MakesMemory old plan management first new memory
