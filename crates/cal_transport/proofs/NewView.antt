-- A view of a new memory maps no segment, and leaves the memory's own as they are.
use Rattle.std.proofs.Common.{◌≡◌, ◌≢◌, ℕ, false, Option, Some, None, ◌⊎◌, inl, inr, option_map, refl, sym, ap, ◌∙◌, subst}
use Rattle.std.proofs.lemmas.Bool.Decides.{eqb_tells}
use Rattle.std.proofs.lemmas.Option.{none-some}
use Rattle.cal_alloc.specs.Pool.{Pool}
use Rattle.cal_storage.specs.Contents.{Contents, value_of, slot_of, entry_in, slot_with_holder, after_opening}
use Rattle.cal_storage.specs.SoundnessLemmas.{slot_of-with_slot-other, slot_of-with_slot-same}
use Rattle.cal_storage.specs.declared.entry.Entry.{Entry}
use Rattle.cal_storage.specs.declared.entry.Slot.{Slot}
use Rattle.cal_storage.specs.declared.entry.Slot.TheVariants.{Ended, Kept}
use Rattle.cal_shm.specs.Segment.{Segment}
use Rattle.cal_shm.specs.declared.errors.SharedMemoryOpenError.{SharedMemoryOpenError}
use Rattle.cal_shm.specs.declared.errors.SharedMemoryOpenError.TheVariants as open_error
use Rattle.cal_resizable.specs.Chunks.{value_in}
use Rattle.cal_resizable.specs.Memory.{MemoryState}
use Rattle.cal_resizable.specs.Slots.{HeldSegment, Slots, segment_at, count_in}
use Rattle.cal_resizable.specs.Together.{AreTogether}
use Rattle.cal_resizable.specs.View.{View, new_view, opening_refusal}
use Rattle.cal_transport.specs.declared.settings.Settings.{Settings}
use Rattle.cal_transport.specs.Opening.{HasFirstSegment, AreNewTogether, view_plan}
use Rattle.cal_transport.specs.State.{active_of, active_at}
use Rattle.cal_transport.proofs.Lists.{same_or_apart}
use Rattle.cal_transport.proofs.NewTransport.{everywhere}

module _ {T : Type 0} (contents : Contents T) (id : ℕ) where
  -- an opening leaves every value
  value_kept : (other : ℕ) → value_of (after_opening contents id) other ≡ value_of contents other
  value_kept other = elim (same_or_apart other id) [
    | inl same ↦ ap (λ n. value_of (after_opening contents id) n) same ∙ here ∙ ap (value_of contents) (sym same)
    | inr apart ↦ ap (λ slot. option_map (λ (entry : Entry T). entry.value) (entry_in slot))
        (slot_of-with_slot-other contents id (slot_with_holder (slot_of contents id)) other apart)
  ]
    where
      ended : (slot : Slot T) → slot ≡ Ended → slot_with_holder slot ≡ Ended
      ended slot e = ap slot_with_holder e

      held : (slot : Slot T) → option_map (λ (entry : Entry T). entry.value) (entry_in (slot_with_holder slot))
          ≡ option_map (λ (entry : Entry T). entry.value) (entry_in slot)
      held Ended = refl
      held (Kept entry) = refl

      here : value_of (after_opening contents id) id ≡ value_of contents id
      here =
          ap (λ slot. option_map (λ (entry : Entry T). entry.value) (entry_in slot))
          (slot_of-with_slot-same contents id (slot_with_holder (slot_of contents id)) (ended (slot_of contents id)))
          ∙ held (slot_of contents id)

segment_kept : (contents : Contents (Segment Pool)) (id : ℕ) (slots : Slots) (number : ℕ) →
    active_at (after_opening contents id) slots number ≡ active_at contents slots number
segment_kept contents id slots number = of_slot (segment_at slots number)
  where
    of_slot : (slot : Option HeldSegment) →
        active_of (value_in (after_opening contents id) slot) (count_in slot)
        ≡ active_of (value_in contents slot) (count_in slot)
    of_slot None = refl
    of_slot (Some held) = ap (λ v. active_of v held.count) (value_kept contents id held.handle.id)

pub are_new_together : (s : Settings) (old new : Contents (Segment Pool)) (memory : MemoryState) (view : View)
    (id : ℕ) → HasFirstSegment s old memory → AreTogether (after_opening old id) memory (new_view view_plan id) →
    view ≡ new_view view_plan id → new ≡ after_opening old id → AreNewTogether s new memory view
are_new_together s old new memory view id first together view_is new_is =
    subst (λ c. AreNewTogether s c memory view) (sym new_is)
    (subst (AreNewTogether s (after_opening old id) memory) (sym view_is)
    (record {
      together = together;
      segments = record {
        name = first.name;
        settings = first.settings;
        strategy = first.strategy;
        current = first.current;
        first = segment_kept old id memory.slots 0 ∙ first.first;
        others = λ number apart. segment_kept old id memory.slots number ∙ first.others number apart;
      };
      opened_last = refl;
      mapped = λ number. ap (option_map (λ (held : HeldSegment). held.count)) (everywhere 256 number None);
    }))

-- want of memory is all that is left where nothing refuses the opening
pub view_error : (contents : Contents (Segment Pool)) (error : SharedMemoryOpenError) →
    opening_refusal false contents view_plan ≡ None →
    (opening_refusal false contents view_plan ≡ Some error) ⊎ (error ≡ open_error.NoMemory) →
    error ≡ open_error.NoMemory
view_error contents error none (inl refused) = absurd (none-some error (sym none ∙ refused))
view_error contents error none (inr is) = is
