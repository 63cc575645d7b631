-- What a builder of memory segments has.
use Rattle.std.specs.Prelude.{true}
pub use Rattle.cal_names.specs.Plan.{Plan, path_of}
use Rattle.cal_storage.specs.Plan.{StoragePlan}
use Rattle.cal_shm.specs.declared.options.SharedMemoryOptions.{SharedMemoryOptions}

-- the name, the settings, whether a new segment owns its name, and its size in bytes
abbrev pub SegmentPlan : Type 0
SegmentPlan = Plan SharedMemoryOptions

-- what is created by a new builder owns its name, and has no byte
abbrev pub default_options : SharedMemoryOptions
default_options = record { is_owner = true; size = 0 }

-- the plan of the storage that holds the segment
abbrev pub storage_plan : SegmentPlan → StoragePlan
storage_plan plan = record {
  name = plan.name;
  settings = plan.settings;
  options = record { is_owner = plan.options.is_owner; room = 0 };
}
