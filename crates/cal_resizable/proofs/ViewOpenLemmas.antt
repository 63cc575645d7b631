-- What is known where the management segment was opened.
use Rattle.std.specs.Prelude.{◌≡◌, ℕ, Bool, false, List, length, Option, Some, None, if◌then◌else◌}
use Rattle.std.specs.Option.{option_map, option_or}
use Rattle.std.proofs.Common.{sym, ap, ◌∙◌, subst, inl, inr}
use Rattle.std.proofs.lemmas.Bool.{cases_Bool}
use Rattle.std.proofs.lemmas.Option.{none-some, same_Some}
use Rattle.cal_names.specs.FileName.{IsFileName, is_file_name, is_file_name-decides}
use Rattle.cal_resizable.specs.SegmentNames.{management_segment_name}
use Rattle.cal_resizable.specs.Slots.{Handle, Slots, HeldSegment, EachHandle, empty_slots, segment_at}
use Rattle.cal_resizable.specs.View.{View, ViewPlan, IsView, management_name, new_view}
use Rattle.cal_resizable.proofs.SlotLemmas.{length-replicate, segment_at-empty}
use Rattle.cal_names.specs.ConceptSettings.{ConceptSettings, file_path_for}
use Rattle.cal_shm.specs.Plan.{SegmentPlan, path_of}
use Rattle.cal_shm.specs.Refusals.{opening_error, size_refusal, open_refusal}
use Rattle.cal_shm.specs.Segment.{Segment}
use Rattle.cal_shm.specs.declared.errors.SharedMemoryOpenError.TheVariants as open_error
use Rattle.cal_storage.specs.declared.dynamic_storage.errors.DynamicStorageOpenError.TheVariants as storage
use Rattle.cal_storage.specs.Contents.{Contents, Has, entry_at, value_at, found_handle}
use Rattle.cal_storage.specs.Refusals.{is_too_long, entry_refusal}

pub managed_is : (base name : List ℕ) → management_segment_name base ≡ Some name →
    IsFileName (management_name base) × (name ≡ management_name base)
managed_is base name found = elim (cases_Bool (is_file_name (management_name base))) [
  | inl rule ↦ (
    (is_file_name-decides (management_name base)).0 rule,
    same_Some _ _ (sym found ∙ ap (λ t. if t then Some (management_name base) else None) rule),
  )
  | inr none ↦ absurd (none-some name (sym (ap (λ t. if t then Some (management_name base) else None) none) ∙ found))
]

pub opens-fits : {A : Type 0} (checks : Bool) (contents : Contents (Segment A)) (plan : SegmentPlan) →
    None ≡ open_refusal checks contents plan → is_too_long plan.settings plan.name ≡ false
opens-fits checks contents plan opens = elim (cases_Bool (is_too_long plan.settings plan.name)) [
  | inl long ↦ absurd (none-some open_error.PathTooLong (opens
      ∙ ap (λ t. option_or (option_map opening_error (if t then Some storage.PathTooLong
      else entry_refusal checks (entry_at contents (path_of plan))))
      (size_refusal plan.options.size (value_at contents (path_of plan)))) long))
  | inr fits ↦ fits
]

pub new-IsView : (name : List ℕ) (settings : ConceptSettings) (management : Handle) (slots : Slots) → IsFileName name →
    IsFileName (management_name name) → is_too_long settings (management_name name) ≡ false →
    management ≡ found_handle (file_path_for settings (management_name name)) management.id → slots ≡ empty_slots 256 →
    IsView (record { name = name; settings = settings; management = management; current = None; slots = slots })
new-IsView name settings management slots rule managed fits handle empty = record {
  slots = ap length empty ∙ length-replicate {X = Option HeldSegment} 256 None;
  name = rule;
  managed = managed;
  fits = fits;
  management = handle;
  current = λ n at. absurd (none-some n at);
  used = λ n held there. absurd (none-some held (sym (none-at n) ∙ there));
  segments = λ n held there. absurd (none-some held (sym (none-at n) ∙ there));
}
  where
    none-at : (n : ℕ) → segment_at slots n ≡ None
    none-at n = ap (λ s. segment_at s n) empty ∙ segment_at-empty 256 n

pub new-HasView : {T : Type 0} (contents : Contents T) (view : View) (plan : ViewPlan) (id : ℕ) (management : Handle) →
    view ≡ new_view plan id → view.management ≡ management → Has contents management →
    EachHandle view.management view.slots (Has contents)
new-HasView contents view plan id management is same has = record {
  of_management = subst (Has contents) (sym same) has;
  of_segments = λ n held there.
      absurd (none-some held (sym (ap (λ (v : View). segment_at v.slots n) is ∙ segment_at-empty 256 n) ∙ there));
}
