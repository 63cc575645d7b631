-- Why a segment isn't created or opened.
use Rattle.std.specs.Prelude.{ℕ, Bool, not, nat_lt, ◌==◌, Option, Some, None, is_some, List, length, if◌then◌else◌}
use Rattle.std.specs.Option.{option_map, option_or}
use Rattle.cal_alloc.specs.Limits.{max_memory_alignment}
use Rattle.cal_names.specs.ConceptSettings.{ConceptSettings, file_path_for}
use Rattle.cal_storage.specs.Contents.{Contents, id_at, value_at}
use Rattle.cal_storage.specs.Refusals.{is_too_long, open_refusal as storage_open_refusal}
use Rattle.cal_storage.specs.declared.dynamic_storage.errors.DynamicStorageOpenError.{DynamicStorageOpenError}
use Rattle.cal_storage.specs.declared.dynamic_storage.errors.DynamicStorageOpenError.TheVariants as storage
use Rattle.cal_shm.specs.Plan.{SegmentPlan, path_of, storage_plan}
use Rattle.cal_shm.specs.Segment.{Segment}
use Rattle.cal_shm.specs.declared.errors.SharedMemoryCreateError.{SharedMemoryCreateError}
use Rattle.cal_shm.specs.declared.errors.SharedMemoryCreateError.TheVariants as create
use Rattle.cal_shm.specs.declared.errors.SharedMemoryOpenError.{SharedMemoryOpenError}
use Rattle.cal_shm.specs.declared.errors.SharedMemoryOpenError.TheVariants as open_error

-- the refusal of a storage's opening, by the same name
abbrev pub opening_error : DynamicStorageOpenError → SharedMemoryOpenError
opening_error storage.DoesNotExist = open_error.DoesNotExist
opening_error storage.InitializationNotYetFinalized = open_error.InitializationNotYetFinalized
opening_error storage.VersionMismatch = open_error.VersionMismatch
opening_error storage.InternalError = open_error.InternalError
opening_error storage.PathTooLong = open_error.PathTooLong

-- why no allocator serves the memory of a segment: it needs a greater alignment
abbrev pub alignment_refusal : ℕ → Option SharedMemoryCreateError
alignment_refusal max_alignment = if nat_lt max_memory_alignment max_alignment then Some create.InternalError else None

module _ {A : Type 0} where
  -- why nothing is created under a name: its path would be too long, or stands for an entry already
  abbrev pub name_refusal : Contents (Segment A) → ConceptSettings → List ℕ → Option SharedMemoryCreateError
  name_refusal contents settings name =
      if is_too_long settings name then Some create.PathTooLong
      else if is_some (id_at contents (file_path_for settings name)) then Some create.AlreadyExists
      else None

  -- why no segment is created by a plan, the first cause that holds: `fits` says whether there can be an allocator for
  -- that many bytes, which are within the limit of memory then, and `max_alignment` is the alignment that it needs
  abbrev pub create_refusal : Bool → ℕ → Contents (Segment A) → SegmentPlan → Option SharedMemoryCreateError
  create_refusal fits max_alignment contents plan =
      if plan.options.size == 0 then Some create.SizeIsZero
      else if not fits then Some create.SizeOutOfRange
      else option_or (name_refusal contents plan.settings plan.name) (alignment_refusal max_alignment)

  -- why a segment that was found isn't opened: its payload is smaller than what is asked for
  abbrev pub size_refusal : ℕ → Option (Segment A) → Option SharedMemoryOpenError
  size_refusal size None = None
  size_refusal size (Some segment) =
      if nat_lt (length segment.payload) size then Some open_error.SizeDoesNotFit else None

  -- why no segment is opened by a plan, the first cause that holds
  abbrev pub open_refusal : Bool → Contents (Segment A) → SegmentPlan → Option SharedMemoryOpenError
  open_refusal checks_version contents plan =
      option_or (option_map opening_error (storage_open_refusal checks_version contents (storage_plan plan)))
      (size_refusal plan.options.size (value_at contents (path_of plan)))
