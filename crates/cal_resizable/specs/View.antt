-- A view of a growing memory, and what its calls make of it and of the registry.
use Rattle.std.specs.Prelude.{◌≡◌, ℕ, Bool, Option, Some, None, IsSome, is_some, false, List, ◌+◌, ◌++◌, length, codes, slice_range, if◌then◌else◌}
use Rattle.std.specs.Option.{option_map}
use Rattle.cal_alloc.specs.PointerOffset.{offset_of, segment_of}
use Rattle.cal_names.specs.ConceptSettings.{ConceptSettings, file_path_for}
use Rattle.cal_names.specs.FileName.{IsFileName}
use Rattle.cal_resizable.specs.Chunks.{segment_value}
use Rattle.cal_resizable.specs.SegmentNames.{management_segment_name, number_end}
use Rattle.cal_resizable.specs.Slots.{Handle, Slots, EachHeld, EachHandle, SparesHandles, empty_slots, segment_at, with_more, with_less, with_segment, without_unused, after_retiring}
use Rattle.cal_shm.specs.Plan.{SegmentPlan, path_of, default_options}
use Rattle.cal_shm.specs.Refusals.{open_refusal}
use Rattle.cal_shm.specs.Segment.{Segment}
use Rattle.cal_shm.specs.declared.errors.SharedMemoryOpenError.{SharedMemoryOpenError}
use Rattle.cal_shm.specs.declared.errors.SharedMemoryOpenError.TheVariants as open_error
use Rattle.cal_storage.specs.Contents.{Contents, Has, is_id, id_at, found_handle, after_opening}
use Rattle.cal_storage.specs.Refusals.{is_too_long}

-- the memory's name and the settings of its segments, the handle of the management segment, the number of the segment
-- that was mapped last, and the mapped segments, each with the number of offsets that are registered in it
pub record View : Type 0 where
  pub name : List ℕ
  pub settings : ConceptSettings
  pub management : Handle
  pub current : Option ℕ
  pub slots : Slots

-- the name of the management segment, and that of the segment of a number
abbrev pub management_name : List ℕ → List ℕ
management_name name = name ++ codes "__mgmt"

-- the paths of the management segment and of the segment of a number
abbrev pub management_path : View → List ℕ
management_path view = file_path_for view.settings (management_name view.name)

abbrev pub segment_path : View → ℕ → List ℕ
segment_path view number = file_path_for view.settings (view.name ++ number_end number)

-- What every view keeps: there is a slot for each number; the current segment is mapped, and so is each in which an
-- offset is registered, and no other; each handle has the path of its name, which it doesn't own; and the name of the
-- management segment is one.
pub record IsView (view : View) : Type 0 where
  pub slots : length view.slots ≡ 256
  pub name : IsFileName view.name
  pub managed : IsFileName (management_name view.name)
  pub fits : is_too_long view.settings (management_name view.name) ≡ false
  pub management : view.management ≡ found_handle (management_path view) view.management.id
  pub current : (number : ℕ) → view.current ≡ Some number → IsSome (segment_at view.slots number)
  pub used : EachHeld view.slots (λ number held. held.count ≡ 0 → view.current ≡ Some number)
  pub segments : EachHeld view.slots (λ number held.
      held.handle ≡ found_handle (segment_path view number) held.handle.id)

-- how a segment is opened: under its name, at any size
abbrev pub segment_plan : View → ℕ → SegmentPlan
segment_plan view number =
    record { name = view.name ++ number_end number; settings = view.settings; options = default_options }

-- what a builder of views has: the memory's name, and what its configuration holds
pub record ViewPlan : Type 0 where
  pub name : List ℕ
  pub settings : ConceptSettings

-- how the management segment is opened: under its name, at any size
abbrev pub management_plan : ViewPlan → SegmentPlan
management_plan plan =
    record { name = management_name plan.name; settings = plan.settings; options = default_options }

-- a view of which this is the id of the management segment, and that maps no segment yet
abbrev pub new_view : ViewPlan → ℕ → View
new_view plan id = record {
  name = plan.name;
  settings = plan.settings;
  management = found_handle (path_of (management_plan plan)) id;
  current = None;
  slots = empty_slots 256;
}

-- the slots without the segment of a number, if one is given, where it isn't counted
abbrev pub without_unused_of : Slots → Option ℕ → Slots
without_unused_of slots None = slots
without_unused_of slots (Some number) = without_unused slots number

-- the slots of a view with the segment of a number, by a handle that was found; no offset is registered in it yet
abbrev pub with_found : View → ℕ → ℕ → Slots
with_found view number id = with_segment view.slots number (found_handle (segment_path view number) id)

-- A view that maps the segment of a number too, for whose path an id was found. The segment is the current one then,
-- and the former current one is unmapped where no offset is registered in it.
abbrev pub mapping : View → ℕ → Option ℕ → View
mapping view number None = view
mapping view number (Some id) = record view {
  current = Some number;
  slots = without_unused_of (with_found view number id) view.current;
}

-- a view in which one more offset is registered in the segment of a number
abbrev pub registering : View → ℕ → View
registering view number = record view { slots = with_more view.slots number }

-- which segment is unmapped where its last offset is given back: that of the number, unless it is the current one
abbrev pub leaving_of : Option ℕ → ℕ → Option ℕ
leaving_of current number = if is_id current number then None else Some number

-- a view in which one less is registered in the segment of a number, which is unmapped where it was the last one,
-- unless it is the current one
abbrev pub unregistering : View → ℕ → View
unregistering view number =
    record view { slots = without_unused_of (with_less view.slots number) (leaving_of view.current number) }

module _ {T : Type 0} where
  -- the registry has the entry of each handle of a view
  abbrev pub HasView : Contents T → View → Type 0
  HasView contents view = EachHandle view.management view.slots (Has contents)

  -- each open handle that isn't the view's own keeps its entry
  abbrev pub SparesOthers : Contents T → Contents T → View → View → Type 0
  SparesOthers old new before after = SparesHandles old new before.slots after.slots

  -- the registry after the segment of a number, if one is given, was closed where it isn't counted
  abbrev pub after_retiring_of : Contents T → Slots → Option ℕ → Contents T
  after_retiring_of contents slots None = contents
  after_retiring_of contents slots (Some number) = after_retiring contents (segment_at slots number)

  -- the registry after the segment for which this id was found is mapped
  abbrev pub after_mapping : Contents T → View → ℕ → Option ℕ → Contents T
  after_mapping contents view number None = contents
  after_mapping contents view number (Some id) =
      after_retiring_of (after_opening contents id) (with_found view number id) view.current

  -- An offset of the segment of a number arrives. Where the segment is mapped, one more offset is registered in it.
  -- Else the segment is opened by its name, it is the current one from then on, and the former current one is unmapped
  -- where no offset is registered in it.
  abbrev pub view_after_arrival : Contents T → View → ℕ → View
  view_after_arrival contents view number =
      if is_some (segment_at view.slots number) then registering view number
      else registering (mapping view number (id_at contents (segment_path view number))) number

  abbrev pub registry_after_arrival : Contents T → View → ℕ → Contents T
  registry_after_arrival contents view number =
      if is_some (segment_at view.slots number) then contents
      else after_mapping contents view number (id_at contents (segment_path view number))

  -- the registry after an offset of the segment of a number is given back
  abbrev pub registry_after_return : Contents T → View → ℕ → Contents T
  registry_after_return contents view number =
      after_retiring_of contents (with_less view.slots number) (leaving_of view.current number)

module _ {A : Type 0} where
  -- why an arrival is refused: a segment that isn't mapped can't be opened
  abbrev pub arrival_refusal : Bool → Contents (Segment A) → View → ℕ → Option SharedMemoryOpenError
  arrival_refusal checks_version contents view number =
      if is_some (segment_at view.slots number) then None
      else open_refusal checks_version contents (segment_plan view number)

  -- why a view isn't opened: the name of the management segment is no file name, or the segment can't be opened
  abbrev pub opening_refusal : Bool → Contents (Segment A) → ViewPlan → Option SharedMemoryOpenError
  opening_refusal checks_version contents plan =
      if is_some (management_segment_name plan.name) then open_refusal checks_version contents (management_plan plan)
      else Some open_error.PathTooLong

  -- that many bytes from a pointer on, as a view reads them: in the segment that it has mapped under the pointer's
  -- number, if it has one
  abbrev pub mapped_bytes : Contents (Segment A) → View → ℕ → ℕ → Option (List ℕ)
  mapped_bytes contents view pointer count =
      option_map (λ (segment : Segment A).
      slice_range segment.payload (offset_of pointer) (offset_of pointer + count))
      (segment_value contents view.slots (segment_of pointer))
