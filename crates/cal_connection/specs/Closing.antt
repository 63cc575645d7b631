-- What a port that leaves makes of a registry, and what a port that is removed by force does.
use Rattle.std.specs.Prelude.{ℕ, false, Option, Some, None, List, map, Result, Ok, Err}
use Rattle.cal_storage.specs.declared.handle.Handle.{Handle}
use Rattle.cal_storage.specs.Contents.{Contents, id_at, found_handle, after_opening, after_close}
use Rattle.cal_storage.specs.declared.dynamic_storage.errors.DynamicStorageOpenError.{DynamicStorageOpenError}
use Rattle.cal_storage.specs.declared.dynamic_storage.errors.DynamicStorageOpenError.TheVariants as opening
use Rattle.cal_storage.specs.Plan.{StoragePlan}
use Rattle.cal_storage.specs.Refusals.{after_name_removal}
use Rattle.cal_names.specs.ConceptSettings.{ConceptSettings, file_path_for}
use Rattle.cal_connection.specs.declared.errors.ZeroCopyPortRemoveError.{ZeroCopyPortRemoveError}
use Rattle.cal_connection.specs.declared.errors.ZeroCopyPortRemoveError.TheVariants.{DoesNotExist, VersionMismatch}
use Rattle.cal_connection.specs.Channel.{ChannelEntry, with_word}
use Rattle.cal_connection.specs.Port.{PortEntry, port_at, with_port}
use Rattle.cal_connection.specs.Words.{closed, after_leave, leaves_mark}

-- ---- leaving

-- the port of this bit has left
abbrev pub without_bit : PortEntry → ℕ → PortEntry
without_bit port bit = record port { word = after_leave port.word bit }

-- the handle of a port that leaves takes the name with it where it was the last
abbrev pub leaving_handle : Contents PortEntry → Handle → ℕ → Handle
leaving_handle contents handle bit = record handle { is_owner = leaves_mark (port_at contents handle).word bit }

-- the registry after the port has left its entry and closed its handle
abbrev pub after_end : Contents PortEntry → Handle → ℕ → Contents PortEntry
after_end contents handle bit =
    after_close (with_port contents handle (without_bit (port_at contents handle) bit))
    (leaving_handle contents handle bit)

-- ---- removal by force

-- a channel that is closed, whatever its state was
abbrev pub closed_channel : ChannelEntry → ChannelEntry
closed_channel channel = with_word channel closed

-- an entry all of whose channels are closed
abbrev pub with_closed_channels : PortEntry → PortEntry
with_closed_channels port = record port { channels = map closed_channel port.channels }

-- the plan of the storage that is opened for a removal
abbrev pub removal_plan : List ℕ → ConceptSettings → StoragePlan
removal_plan name settings =
    record { name = name; settings = settings; options = record { is_owner = false; room = 0 } }

-- why a port isn't removed
abbrev pub removal_error : DynamicStorageOpenError → Result (Unit {0}) ZeroCopyPortRemoveError
removal_error opening.InitializationNotYetFinalized = Ok tt
removal_error opening.VersionMismatch = Err VersionMismatch
removal_error opening.DoesNotExist = Err DoesNotExist
removal_error opening.PathTooLong = Err DoesNotExist
removal_error opening.InternalError = Err DoesNotExist

abbrev pub removal_answer : Option DynamicStorageOpenError → Result (Unit {0}) ZeroCopyPortRemoveError
removal_answer None = Ok tt
removal_answer (Some error) = removal_error error

-- the entry of a handle after the port of this bit was removed through it
abbrev pub after_removal_by : Contents PortEntry → Handle → ℕ → Contents PortEntry
after_removal_by contents handle bit =
    after_end (with_port contents handle (with_closed_channels (port_at contents handle))) handle bit

abbrev pub after_removal_at : Contents PortEntry → List ℕ → ℕ → Option ℕ → Contents PortEntry
after_removal_at contents path bit None = contents
after_removal_at contents path bit (Some id) = after_removal_by (after_opening contents id) (found_handle path id) bit

-- the registry after a removal by force; an entry that is still being made loses its name
abbrev pub after_forced_removal :
    Option DynamicStorageOpenError → Contents PortEntry → ConceptSettings → List ℕ → ℕ → Contents PortEntry
after_forced_removal None contents settings name bit =
    after_removal_at contents (file_path_for settings name) bit (id_at contents (file_path_for settings name))
after_forced_removal (Some opening.InitializationNotYetFinalized) contents settings name bit =
    after_name_removal settings name contents
after_forced_removal (Some opening.VersionMismatch) contents settings name bit = contents
after_forced_removal (Some opening.DoesNotExist) contents settings name bit = contents
after_forced_removal (Some opening.PathTooLong) contents settings name bit = contents
after_forced_removal (Some opening.InternalError) contents settings name bit = contents
