-- What a builder of connections has.
use Rattle.std.specs.Prelude.{false}
pub use Rattle.cal_names.specs.Plan.{Plan, path_of}
use Rattle.cal_storage.specs.Plan.{StoragePlan}
use Rattle.cal_connection.specs.declared.options.ConnectionOptions.{ConnectionOptions}
use Rattle.cal_connection.specs.declared.settings.ConnectionSettings.{ConnectionSettings}

-- the name, the settings of its path, the connection's settings, and the initial state of its channels
abbrev pub ConnectionPlan : Type 0
ConnectionPlan = Plan ConnectionOptions

-- what a new builder has been told
abbrev pub default_settings : ConnectionSettings
default_settings = record {
  buffer_size = 4;
  enable_safe_overflow = false;
  max_borrowed_samples = 4;
  number_of_samples = 8;
  number_of_segments = 1;
  number_of_channels = 1;
}

abbrev pub default_options : ConnectionOptions
default_options = record { settings = default_settings; initial_state = 0 }

-- a plan with another setting; a zero counts as one
abbrev pub with_settings : ConnectionPlan → ConnectionSettings → ConnectionPlan
with_settings plan settings = record plan { options = record plan.options { settings = settings } }

-- the plan of the storage of a connection's entry, which doesn't own its name
abbrev pub storage_plan : ConnectionPlan → StoragePlan
storage_plan plan = record {
  name = plan.name;
  settings = plan.settings;
  options = record { is_owner = false; room = 0 };
}
