-- Laws of views.
use Rattle.std.specs.Prelude.{◌≡◌, ◌↔◌, ◌⊎◌, ℕ, ◌<◌, ◌≤◌, ◌==◌, Bool, true, false, nat_lt, List, ◌++◌, length, Option, Some, None, IsSome, IsSomeAnd, is_some, codes, if◌then◌else◌}
use Rattle.std.specs.Option.{option_map, option_or}
use Rattle.std.proofs.Common.{arith, refl, ap, ◌∙◌, subst, inl, inr, length-append}
use Rattle.std.proofs.lemmas.Bool.{cases_lt}
use Rattle.std.proofs.lemmas.Bool.Decides.{nat_tests}
use Rattle.cal_names.specs.ConceptSettings.{ConceptSettings, file_name_for, type_part}
use Rattle.cal_resizable.specs.SegmentNames.{number_end}
use Rattle.cal_resizable.specs.SegmentNameLemmas.{number_end-length}
use Rattle.cal_resizable.proofs.ViewSlotLemmas.{no_segment}
use Rattle.cal_resizable.specs.Slots.{HeldSegment, segment_at}
use Rattle.cal_resizable.specs.View.{View, IsView, management_name, segment_path, segment_plan, arrival_refusal}
use Rattle.cal_shm.specs.Refusals.{opening_error, size_refusal, open_refusal}
use Rattle.cal_shm.specs.Segment.{Segment}
use Rattle.cal_shm.specs.declared.errors.SharedMemoryOpenError.TheVariants as open_error
use Rattle.cal_storage.specs.declared.dynamic_storage.errors.DynamicStorageOpenError.TheVariants as storage
use Rattle.cal_storage.specs.declared.entry.Entry.{Entry}
use Rattle.cal_storage.specs.Contents.{Contents, entry_at}
use Rattle.cal_storage.specs.Refusals.{finished_version, is_too_long, entry_refusal}

pub mapped-law : (view : View) (number : ℕ) → IsView view → IsSome (segment_at view.slots number) ↔
    ((view.current ≡ Some number) ⊎ IsSomeAnd (segment_at view.slots number) (λ held. 0 < held.count))
mapped-law view number is = (
  λ some. forth (segment_at view.slots number) refl some,
  λ why. back (segment_at view.slots number) refl why,
)
  where
    forth : (slot : Option HeldSegment) → segment_at view.slots number ≡ slot → IsSome slot →
        (view.current ≡ Some number) ⊎ IsSomeAnd slot (λ held. 0 < held.count)
    forth None there some = absurd (no_segment some)
    forth (Some held) there some = elim (cases_lt 0 held.count) [
      | inl counted ↦ inr counted
      | inr none ↦ inl (is.used number held there (omega arith))
    ]

    back : (slot : Option HeldSegment) → segment_at view.slots number ≡ slot →
        (view.current ≡ Some number) ⊎ IsSomeAnd slot (λ held. 0 < held.count) → IsSome slot
    back None there (inl current) = subst IsSome there (is.current number current)
    back None there (inr counted) = absurd counted
    back (Some held) there why = refl

pub entry-sound : {A : Type 0} (checks : Bool) (entry : Entry (Segment A)) → entry.version ≡ finished_version →
    entry_refusal checks (Some entry) ≡ None
entry-sound false entry is = refl
entry-sound true entry is =
    ap (λ v. if v == 0 then Some storage.InitializationNotYetFinalized
    else if v == finished_version then None else Some storage.VersionMismatch) is

module _ {A : Type 0} (checks_version : Bool) (contents : Contents (Segment A)) (view : View) (number : ℕ) where
  pub mapped_arrival : IsSome (segment_at view.slots number) →
      arrival_refusal checks_version contents view number ≡ None
  mapped_arrival some = from (segment_at view.slots number) some
    where
      from : (slot : Option HeldSegment) → IsSome slot →
          (if is_some slot then None else open_refusal checks_version contents (segment_plan view number)) ≡ None
      from None some = absurd (no_segment some)
      from (Some held) some = refl

  -- the path of a segment isn't too long, since that of the management segment isn't
  pub segment_fits : IsView view → number < 256 → is_too_long view.settings (view.name ++ number_end number) ≡ false
  segment_fits is small =
      let settings : ConceptSettings = view.settings in
      let front : List ℕ = settings.prefix ++ type_part settings.type_name in
      shorter (length (file_name_for settings (view.name ++ number_end number)))
      (length (file_name_for settings (management_name view.name)))
      (omega (
        arith,
        number_end-length number small,
        length-append (front ++ (view.name ++ number_end number)) settings.suffix,
        length-append front (view.name ++ number_end number),
        length-append view.name (number_end number),
        length-append (front ++ management_name view.name) settings.suffix,
        length-append front (management_name view.name),
        length-append view.name (codes "__mgmt"),
      )) is.fits
    where
      shorter : (less more : ℕ) → less ≤ more → nat_lt 255 more ≡ false → nat_lt 255 less ≡ false
      shorter less more le fits = grind (arith, nat_tests)

  pub sound_arrival : (entry : Entry (Segment A)) → IsView view → number < 256 →
      entry_at contents (segment_path view number) ≡ Some entry → entry.version ≡ finished_version →
      arrival_refusal checks_version contents view number ≡ None
  sound_arrival entry is small found finished = from (is_some (segment_at view.slots number))
    where
      not_below_zero : (n : ℕ) → nat_lt n 0 ≡ false
      not_below_zero n = grind (arith, nat_tests)

      opens : open_refusal checks_version contents (segment_plan view number) ≡ None
      opens =
          ap (λ t. option_or (option_map opening_error (if t then Some storage.PathTooLong
          else entry_refusal checks_version (entry_at contents (segment_path view number))))
          (size_refusal 0 (option_map (λ (e : Entry (Segment A)). e.value)
          (entry_at contents (segment_path view number))))) (segment_fits is small)
          ∙ ap (λ o. option_or (option_map opening_error (entry_refusal checks_version o))
          (size_refusal 0 (option_map (λ (e : Entry (Segment A)). e.value) o))) found
          ∙ ap (λ r. option_or (option_map opening_error r) (size_refusal 0 (Some entry.value)))
          (entry-sound checks_version entry finished)
          ∙ ap (λ t. if t then Some open_error.SizeDoesNotFit else None)
          (not_below_zero (length entry.value.payload))

      from : (mapped : Bool) →
          (if mapped then None else open_refusal checks_version contents (segment_plan view number)) ≡ None
      from true = refl
      from false = opens
