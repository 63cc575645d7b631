-- What a builder of storages has.
use Rattle.std.specs.Prelude.{true}
pub use Rattle.cal_names.specs.Plan.{Plan, path_of}
use Rattle.cal_storage.specs.declared.dynamic_storage.options.StorageOptions.{StorageOptions}

-- the name, the settings, whether a new storage owns its name, and the room of its initializer in bytes
abbrev pub StoragePlan : Type 0
StoragePlan = Plan StorageOptions

-- what is created by a new builder owns its name, and its initializer has no room
abbrev pub default_options : StorageOptions
default_options = record { is_owner = true; room = 0 }
