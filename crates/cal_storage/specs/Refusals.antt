-- Why a creation or an opening is refused.
use Rattle.std.specs.Prelude.{ℕ, Bool, not, ◌&&◌, nat_lt, ◌==◌, Option, Some, None, is_some, List, length, if◌then◌else◌}
use Rattle.cal_names.specs.ConceptSettings.{ConceptSettings, file_name_for, file_path_for}
use Rattle.cal_storage.specs.Plan.{StoragePlan, path_of}
use Rattle.cal_storage.specs.Contents.{Contents, id_at, entry_at, after_removal}
use Rattle.cal_storage.specs.declared.entry.Entry.{Entry}
use Rattle.cal_storage.specs.declared.dynamic_storage.errors.DynamicStorageCreateError.{DynamicStorageCreateError}
use Rattle.cal_storage.specs.declared.dynamic_storage.errors.DynamicStorageCreateError.TheVariants as create
use Rattle.cal_storage.specs.declared.dynamic_storage.errors.DynamicStorageOpenError.{DynamicStorageOpenError}
use Rattle.cal_storage.specs.declared.dynamic_storage.errors.DynamicStorageOpenError.TheVariants as open_error

-- the version of a finished entry; one that is being made has version 0
abbrev pub finished_version : ℕ
finished_version = 9003

-- the path of a name would have a file name of more than 255 bytes
abbrev pub is_too_long : ConceptSettings → List ℕ → Bool
is_too_long settings name = nat_lt 255 (length (file_name_for settings name))

-- why an entry isn't opened, the first cause that holds; the version counts where it is checked
abbrev pub entry_refusal : {T : Type 0} → Bool → Option (Entry T) → Option DynamicStorageOpenError
entry_refusal checks_version None = Some open_error.DoesNotExist
entry_refusal checks_version (Some entry) =
    if not checks_version then None
    else if entry.version == 0 then Some open_error.InitializationNotYetFinalized
    else if entry.version == finished_version then None
    else Some open_error.VersionMismatch

module _ {T : Type 0} where
  -- why nothing is opened under a plan's path, the first cause that holds
  abbrev pub open_refusal : Bool → Contents T → StoragePlan → Option DynamicStorageOpenError
  open_refusal checks_version contents plan =
      if is_too_long plan.settings plan.name then Some open_error.PathTooLong
      else entry_refusal checks_version (entry_at contents (path_of plan))

  -- why nothing is created under a plan's path, the first cause that holds
  abbrev pub create_refusal : Contents T → StoragePlan → Option DynamicStorageCreateError
  create_refusal contents plan =
      if is_too_long plan.settings plan.name then Some create.PathTooLong
      else if is_some (id_at contents (path_of plan)) then Some create.AlreadyExists
      else None

  -- why nothing is opened or created under a plan's path, but for causes of the creation itself
  abbrev pub open_or_create_refusal : Bool → Contents T → StoragePlan → Option DynamicStorageOpenError
  open_or_create_refusal checks_version contents plan =
      if is_too_long plan.settings plan.name then Some open_error.PathTooLong
      else if is_some (id_at contents (path_of plan))
      then entry_refusal checks_version (entry_at contents (path_of plan))
      else None

  -- whether a name is there: its path fits, and stands for an id
  abbrev pub has_name : ConceptSettings → List ℕ → Contents T → Bool
  has_name settings name contents =
      not (is_too_long settings name) && is_some (id_at contents (file_path_for settings name))

  -- without a name; one whose path would be too long stands for nothing
  abbrev pub after_name_removal : ConceptSettings → List ℕ → Contents T → Contents T
  after_name_removal settings name contents =
      if is_too_long settings name then contents else after_removal contents (file_path_for settings name)
