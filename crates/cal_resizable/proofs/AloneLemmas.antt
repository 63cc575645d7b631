-- What is known of a memory that was created over a new registry, and of a view that opens it.
use Rattle.std.proofs.Common.{◌≡◌, ◌≢◌, ℕ, ◌<◌, Bool, false, nat_lt, if◌then◌else◌, Some, None, is_some, IsSomeAnd, List, ◌++◌, codes, length, option_map, refl, sym, ap, ◌∙◌, subst, arith}
use Rattle.std.specs.Option.{option_and_then, option_or}
use Rattle.std.proofs.lemmas.Bool.Decides.{nat_tests}
use Rattle.std.proofs.lemmas.Option.{none-some, same_Some}
use Rattle.cal_alloc.specs.declared.shm_allocator.ShmAllocator as shm_allocator
use Rattle.cal_names.specs.ConceptSettings.{ConceptSettings, file_path_for}
use Rattle.cal_names.specs.FileName.{IsFileName, as_file_name_yes}
use Rattle.cal_storage.specs.declared.dynamic_storage.errors.DynamicStorageOpenError.TheVariants as storage
use Rattle.cal_storage.specs.declared.entry.Entry.{Entry}
use Rattle.cal_storage.specs.Contents.{Contents, Has, id_at, entry_of, entry_at, nothing_registered, found_handle, after_opening}
use Rattle.cal_storage.specs.HandleLemmas.{has_entry}
use Rattle.cal_storage.specs.NameLemmas.{is_path-apart}
use Rattle.cal_storage.specs.Refusals.{finished_version, is_too_long, entry_refusal}
use Rattle.cal_storage.specs.SoundnessLemmas.{id_at-after_creation-other}
use Rattle.cal_shm.specs.Plan.{SegmentPlan, path_of}
use Rattle.cal_shm.specs.Refusals.{opening_error, size_refusal, open_refusal}
use Rattle.cal_shm.specs.Segment.{Segment}
use Rattle.cal_shm.specs.declared.errors.SharedMemoryOpenError.TheVariants as open_error
use Rattle.cal_resizable.specs.Creation.{MemoryPlan, CreatesMemory, managed_contents}
use Rattle.cal_resizable.specs.Growth.{made_segment}
use Rattle.cal_resizable.specs.Memory.{MemoryState, IsSoundMemory}
use Rattle.cal_resizable.specs.Memory as memory_paths
use Rattle.cal_resizable.specs.SegmentNameLemmas.{number_end-injective, segment_of_name-again, segment_of_name-management}
use Rattle.cal_resizable.specs.SegmentNames.{number_end, segment_of_name}
use Rattle.cal_resizable.specs.Slots.{Handle, HeldSegment, segment_at, LeavesHandle}
use Rattle.cal_resizable.specs.Together.{AllFinished, NoneLater, IsAlone, AreTogether}
use Rattle.cal_resizable.specs.View.{View, ViewPlan, management_name, management_plan, new_view, opening_refusal}
use Rattle.cal_resizable.proofs.FinishedLemmas.{AllFinished-after_creation, AllFinished-after_opening}
use Rattle.cal_resizable.proofs.SlotLemmas.{segment_at-empty}
use Rattle.cal_resizable.proofs.ViewLawLemmas.{entry-sound}
use Rattle.cal_resizable.proofs.ViewLemmas.{LeavesHandle-after_opening}
use Rattle.cal_resizable.proofs.ViewOpenLemmas.{new-IsView, new-HasView}
use Rattle.cal_resizable.proofs.ViewSlotLemmas.{file_path_for-injective}

-- ---- a memory was created over a new registry

-- paths of the segments of a memory differ
module _ (settings : ConceptSettings) (name : List ℕ) (rule : IsFileName name) where
  segments_apart : (m n : ℕ) → m < 256 → n < 256 → m ≢ n →
      memory_paths.segment_path settings name m ≢ memory_paths.segment_path settings name n
  segments_apart m n small_m small_n apart same =
      apart (number_end-injective name m n rule small_m small_n
      (file_path_for-injective settings (name ++ number_end m) (name ++ number_end n) same))

  management_apart : (n : ℕ) → n < 256 →
      memory_paths.management_path settings name ≢ memory_paths.segment_path settings name n
  management_apart n small same =
      let names : name ++ codes "__mgmt" ≡ name ++ number_end n =
      file_path_for-injective settings (name ++ codes "__mgmt") (name ++ number_end n) same in
      none-some (name, n)
      (sym (segment_of_name-management name) ∙ ap segment_of_name names ∙ segment_of_name-again name n rule small)

nothing-finished : {T : Type 0} → AllFinished {T = T} nothing_registered
nothing-finished id entry there = absurd (none-some entry there)

module _ {A C : Type 0} (rules : shm_allocator.Ghosts A C) (plan : MemoryPlan) (new : Contents (Segment A))
    (memory : MemoryState) (created : CreatesMemory rules nothing_registered plan new memory) where
  pub new-finished : AllFinished new
  new-finished =
      let makes = created.makes in
      subst AllFinished (sym makes.registry)
      (AllFinished-after_creation (managed_contents rules nothing_registered plan created.management)
      (memory_paths.segment_path plan.settings plan.name 0) (made_segment rules created.first)
      (AllFinished-after_creation nothing_registered (memory_paths.management_path plan.settings plan.name)
      (made_segment rules created.management) nothing-finished))

  pub new-later : IsFileName plan.name → NoneLater new memory
  new-later rule =
      let makes = created.makes in
      subst (NoneLater new) (sym makes.is)
      (λ number after_first within.
      let path : List ℕ = memory_paths.segment_path plan.settings plan.name number in
      let managed : Contents (Segment A) = managed_contents rules nothing_registered plan created.management in
      ap (λ c. id_at c path) makes.registry
      ∙ id_at-after_creation-other managed (memory_paths.segment_path plan.settings plan.name 0)
      (made_segment rules created.first) finished_version path
      (is_path-apart (memory_paths.segment_path plan.settings plan.name 0) path
      (segments_apart plan.settings plan.name rule 0 number (omega arith) within
      (λ same. absurd (omega (arith, same, after_first)))))
      ∙ id_at-after_creation-other nothing_registered (memory_paths.management_path plan.settings plan.name)
      (made_segment rules created.management) finished_version path
      (is_path-apart (memory_paths.management_path plan.settings plan.name) path
      (management_apart plan.settings plan.name rule number within)))

-- ---- a view opens it

opens-finished : {A : Type 0} (checks : Bool) (contents : Contents (Segment A)) (plan : SegmentPlan)
    (entry : Entry (Segment A)) → is_too_long plan.settings plan.name ≡ false →
    entry_at contents (path_of plan) ≡ Some entry → entry.version ≡ finished_version → plan.options.size ≡ 0 →
    open_refusal checks contents plan ≡ None
opens-finished {A = A} checks contents plan entry fits found finished any_size =
    ap (λ t. option_or (option_map opening_error (if t then Some storage.PathTooLong
    else entry_refusal checks (entry_at contents (path_of plan))))
    (size_refusal plan.options.size (option_map (λ (e : Entry (Segment A)). e.value)
    (entry_at contents (path_of plan))))) fits
    ∙ ap (λ o. option_or (option_map opening_error (entry_refusal checks o))
    (size_refusal plan.options.size (option_map (λ (e : Entry (Segment A)). e.value) o))) found
    ∙ ap (λ r. option_or (option_map opening_error r) (size_refusal plan.options.size (Some entry.value)))
    (entry-sound checks entry finished)
    ∙ ap (λ t. if t then Some open_error.SizeDoesNotFit else None)
    (ap (nat_lt (length entry.value.payload)) any_size ∙ not_below_zero (length entry.value.payload))
  where
    not_below_zero : (n : ℕ) → nat_lt n 0 ≡ false
    not_below_zero n = grind (arith, nat_tests)

module _ {A : Type 0} (contents : Contents (Segment A)) (memory : MemoryState) (plan : ViewPlan)
    (alone : IsAlone contents memory) (name : plan.name ≡ memory.name) (settings : plan.settings ≡ memory.settings)
  where
    managed_rule : IsFileName (management_name plan.name)
    managed_rule = let sound = alone.sound in
        subst (λ base. IsFileName (base ++ codes "__mgmt")) (sym name) sound.name

    managed_fits : is_too_long plan.settings (management_name plan.name) ≡ false
    managed_fits =
        let sound = alone.sound in
        ap (λ s. is_too_long s (plan.name ++ codes "__mgmt")) settings
        ∙ ap (λ base. is_too_long memory.settings (base ++ codes "__mgmt")) name ∙ sound.fits

    managed_path : path_of (management_plan plan) ≡ memory.management.path
    managed_path =
        let sound = alone.sound in
        ap (λ s. file_path_for s (plan.name ++ codes "__mgmt")) settings
        ∙ ap (λ base. file_path_for memory.settings (base ++ codes "__mgmt")) name ∙ sym sound.path

    managed_id : id_at contents (path_of (management_plan plan)) ≡ Some memory.management.id
    managed_id = let names = alone.names in ap (id_at contents) managed_path ∙ names.of_management

    pub alone-opens : (checks : Bool) → opening_refusal checks contents plan ≡ None
    alone-opens checks =
        let has = alone.has in
        let entry = has_entry contents memory.management has.of_management in
        ap (λ found. if is_some found then open_refusal checks contents (management_plan plan)
        else Some open_error.PathTooLong) (as_file_name_yes (management_name plan.name) managed_rule)
        ∙ opens-finished checks contents (management_plan plan) entry.0 managed_fits
        (ap (option_and_then (entry_of contents)) managed_id ∙ entry.1)
        (alone.finished memory.management.id entry.0 entry.1) refl

    module _ (id : ℕ) (rule : IsFileName plan.name) (found : id_at contents (path_of (management_plan plan)) ≡ Some id)
      where
        abbrev view : View
        view = new_view plan id

        abbrev opened : Contents (Segment A)
        opened = after_opening contents id

        same_id : memory.management.id ≡ id
        same_id = same_Some memory.management.id id (sym managed_id ∙ found)

        leaves : (handle : Handle) → LeavesHandle contents opened handle
        leaves = LeavesHandle-after_opening contents id

        has_found : Has contents (found_handle (path_of (management_plan plan)) id)
        has_found =
            let has = alone.has in
            subst (λ i. IsSomeAnd (entry_of contents i)
            (λ (entry : Entry (Segment A)). entry.path ≡ path_of (management_plan plan))) same_id
            (subst (λ path. IsSomeAnd (entry_of contents memory.management.id)
            (λ (entry : Entry (Segment A)). entry.path ≡ path)) (sym managed_path) has.of_management)

        none_mapped : (number : ℕ) (held : HeldSegment) → segment_at view.slots number ≡ Some held → ⊥
        none_mapped number held there = none-some held (sym (segment_at-empty 256 number) ∙ there)

        pub alone-together : AreTogether opened memory view
        alone-together =
            let has = alone.has in
            let holds = alone.holds in
            let left_management = leaves memory.management in
            let left_found = leaves (found_handle (path_of (management_plan plan)) id) in
            record {
              memory_sound = alone.sound;
              view_sound = new-IsView plan.name plan.settings view.management view.slots rule managed_rule managed_fits
                  refl
                  refl;
              name = name;
              settings = settings;
              has_memory = record {
                of_management = left_management.has has.of_management;
                of_segments = λ number held at. let left = leaves held.handle in
                    left.has (has.of_segments number held at);
              };
              has_view = new-HasView opened view plan id view.management refl refl (left_found.has has_found);
              holds = record {
                of_management = left_management.holds 1 (omega arith) (omega arith) holds.of_management;
                of_segments = λ number held at. let left = leaves held.handle in
                    left.holds 1 (omega arith) (omega arith) (holds.of_segments number held at);
              };
              names = alone.names;
              finished = AllFinished-after_opening contents id alone.finished;
              share = λ number one other at_one at_other. absurd (none_mapped number other at_other);
              later = alone.later;
              mapped = λ number held at. absurd (none_mapped number held at);
            }
