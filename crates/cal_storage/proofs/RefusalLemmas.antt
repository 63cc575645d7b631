-- Which errors a creation has.
use Rattle.std.proofs.Common.{◌≡◌, ℕ, ◌≤◌, ◌⊎◌, inl, inr, false, Option, Some, None, IsSome, is_some, List, length, if◌then◌else◌, Bool, refl, sym, ap, subst, ◌∙◌}
use Rattle.std.proofs.lemmas.Bool.{le-ltb}
use Rattle.cal_names.specs.ConceptSettings.{file_name_for}
use Rattle.cal_storage.specs.Initializer.{Calls}
use Rattle.cal_storage.specs.Plan.{StoragePlan, path_of}
use Rattle.cal_storage.specs.Contents.{Contents, id_at}
use Rattle.cal_storage.specs.Refusals.{create_refusal}
use Rattle.cal_storage.specs.RegistryCalls.{CreateFails}
use Rattle.cal_storage.specs.declared.dynamic_storage.errors.DynamicStorageCreateError.{DynamicStorageCreateError}
use Rattle.cal_storage.specs.declared.dynamic_storage.errors.DynamicStorageCreateError.TheVariants.{AlreadyExists, PathTooLong}

module _ {T : Type 0} (contents : Contents T) (plan : StoragePlan)
    (fits : length (file_name_for plan.settings plan.name) ≤ 255) where
  -- a path that fits and is there is refused as such
  pub taken : IsSome (id_at contents (path_of plan)) → create_refusal contents plan ≡ Some AlreadyExists
  taken there =
      ap (λ long. if long then Some PathTooLong
      else if is_some (id_at contents (path_of plan)) then Some AlreadyExists else None)
      (le-ltb 255 (length (file_name_for plan.settings plan.name)) fits)
      ∙ ap (λ found. if found then Some AlreadyExists else None) there

  -- and one that fits and stands for nothing isn't refused
  pub free : id_at contents (path_of plan) ≡ None → create_refusal contents plan ≡ None
  free at =
      ap (λ long. if long then Some PathTooLong
      else if is_some (id_at contents (path_of plan)) then Some AlreadyExists else None)
      (le-ltb 255 (length (file_name_for plan.settings plan.name)) fits)
      ∙ ap (λ found. if is_some found then Some AlreadyExists else None) at

  -- so where a creation in the registry was refused as `AlreadyExists` alone, this is the cause
  pub cause_of_error : {X : Type 0} (error : DynamicStorageCreateError) →
      (error ≡ AlreadyExists → IsSome (id_at contents (path_of plan))) →
      (Some AlreadyExists ≡ Some error) ⊎ X → (create_refusal contents plan ≡ Some error) ⊎ X
  cause_of_error error there (inl same) = inl (taken (there (cc)) ∙ same)
  cause_of_error error there (inr other) = inr other

none_from_absent : (found : Option ℕ) → is_some found ≡ false → found ≡ None
none_from_absent None absent = refl
none_from_absent (Some id) absent = absurd (cc)

-- a creation under a path that is free fails for no path
module _ {F T : Type 0} (calls : Calls F T) where
  pub fails_free : (contents : Contents T) (plan : StoragePlan) (path : List ℕ) →
      length (file_name_for plan.settings plan.name) ≤ 255 → path ≡ path_of plan →
      is_some (id_at contents path) ≡ false → (initializer : F) (value : T) (room : ℕ)
      (error : DynamicStorageCreateError) →
      CreateFails calls (create_refusal contents plan) initializer value room error →
      (id_at contents (path_of plan) ≡ None) × CreateFails calls None initializer value room error
  fails_free contents plan path fits is_path_of absent initializer value room error fails =
      let none : id_at contents (path_of plan) ≡ None =
      ap (id_at contents) (sym is_path_of) ∙ none_from_absent (id_at contents path) absent in (
        none,
        subst (λ refusal. CreateFails calls refusal initializer value room error) (free contents plan fits none)
            fails,
      )
