-- Why a port isn't created, and the registry after one was.
use Rattle.std.specs.Prelude.{ℕ, ◌+◌, Bool, false, Option, Some, None, if◌then◌else◌}
use Rattle.std.specs.Option.{option_and_then}
use Rattle.cal_storage.specs.declared.handle.Handle.{Handle}
use Rattle.cal_storage.specs.declared.dynamic_storage.errors.DynamicStorageOpenError.{DynamicStorageOpenError}
use Rattle.cal_storage.specs.declared.dynamic_storage.errors.DynamicStorageOpenError.TheVariants as opening
use Rattle.cal_storage.specs.Contents.{Contents, id_at, value_at, found_handle, new_handle, after_opening, after_creation}
use Rattle.cal_storage.specs.Refusals.{open_refusal, finished_version}
use Rattle.cal_connection.specs.declared.settings.ConnectionSettings.{ConnectionSettings}
use Rattle.cal_connection.specs.declared.errors.ZeroCopyCreationError.{ZeroCopyCreationError}
use Rattle.cal_connection.specs.declared.errors.ZeroCopyCreationError.TheVariants.{SizeOutOfRange, PathTooLong, InitializationNotYetFinalized, VersionMismatch, InternalError, AnotherInstanceIsAlreadyConnected, IsBeingCleanedUp}
use Rattle.cal_connection.specs.Plan.{ConnectionPlan, path_of, storage_plan}
use Rattle.cal_connection.specs.Port.{PortEntry, port_at, with_port, new_port}
use Rattle.cal_connection.specs.Settings.{is_too_large, incompatibility}
use Rattle.cal_connection.specs.Words.{has_bit, mark}

-- ---- refusals

-- what an opening of the entry that is refused tells of the creation; where there is no entry, one is made
abbrev pub opening_cause : DynamicStorageOpenError → Option ZeroCopyCreationError
opening_cause opening.DoesNotExist = None
opening_cause opening.PathTooLong = Some PathTooLong
opening_cause opening.InitializationNotYetFinalized = Some InitializationNotYetFinalized
opening_cause opening.VersionMismatch = Some VersionMismatch
opening_cause opening.InternalError = Some InternalError

-- the first cause before the entry is looked at
abbrev pub early_refusal : Bool → Contents PortEntry → ConnectionPlan → Option ZeroCopyCreationError
early_refusal checks_version contents plan =
    if is_too_large plan.options.settings then Some SizeOutOfRange
    else option_and_then opening_cause (open_refusal checks_version contents (storage_plan plan))

-- why the port of this bit doesn't join a connection, the first cause that holds
abbrev pub join_refusal : PortEntry → ConnectionSettings → ℕ → Option ZeroCopyCreationError
join_refusal port asked bit =
    if has_bit port.word bit then Some AnotherInstanceIsAlreadyConnected
    else if has_bit port.word mark then Some IsBeingCleanedUp
    else incompatibility port.settings asked

-- why it doesn't join the connection that is found under a plan's path, if there is one
abbrev pub found_refusal : Contents PortEntry → ConnectionPlan → ℕ → Option ZeroCopyCreationError
found_refusal contents plan bit =
    option_and_then (λ port. join_refusal port plan.options.settings bit) (value_at contents (path_of plan))

-- ---- what is created

-- the port of this bit is there
abbrev pub with_bit : PortEntry → ℕ → PortEntry
with_bit port bit = record port { word = port.word + bit }

-- the port of this bit has joined the entry of a handle, which was opened for it
abbrev pub after_joining : Contents PortEntry → Handle → ℕ → Contents PortEntry
after_joining contents handle bit =
    with_port (after_opening contents handle.id) handle
    (with_bit (port_at (after_opening contents handle.id) handle) bit)

-- a new connection, of which the port of this bit is there
abbrev pub after_making : Contents PortEntry → ConnectionPlan → ℕ → Contents PortEntry
after_making contents plan bit =
    after_creation contents (path_of plan) (new_port plan.options.settings bit plan.options.initial_state)
    finished_version

-- the handle of a new port, and the registry in which it is, by what its path stood for
abbrev pub end_handle : Contents PortEntry → ConnectionPlan → Option ℕ → Handle
end_handle contents plan None = new_handle contents (path_of plan) false
end_handle contents plan (Some id) = found_handle (path_of plan) id

abbrev pub after_connecting_at : Contents PortEntry → ConnectionPlan → ℕ → Option ℕ → Contents PortEntry
after_connecting_at contents plan bit None = after_making contents plan bit
after_connecting_at contents plan bit (Some id) = after_joining contents (found_handle (path_of plan) id) bit

abbrev pub new_end : Contents PortEntry → ConnectionPlan → Handle
new_end contents plan = end_handle contents plan (id_at contents (path_of plan))

abbrev pub after_connecting : Contents PortEntry → ConnectionPlan → ℕ → Contents PortEntry
after_connecting contents plan bit = after_connecting_at contents plan bit (id_at contents (path_of plan))
