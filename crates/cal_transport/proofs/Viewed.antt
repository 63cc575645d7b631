-- A segment that the view has mapped is the memory's.
use Rattle.std.proofs.Common.{ℕ, ◌≡◌, Option, Some, None, IsSome, IsSomeAnd, sym, ap, ◌∙◌, subst}
use Rattle.cal_alloc.specs.Pool.{Pool}
use Rattle.cal_storage.specs.Contents.{Contents}
use Rattle.cal_shm.specs.Calls.{OfValue}
use Rattle.cal_shm.specs.Segment.{Segment}
use Rattle.cal_resizable.specs.Chunks.{segment_value, value_in}
use Rattle.cal_resizable.specs.Growth.{OfSegment}
use Rattle.cal_resizable.specs.Memory.{MemoryState}
use Rattle.cal_resizable.specs.Slots.{HeldSegment, segment_at}
use Rattle.cal_resizable.specs.View.{View}
use Rattle.cal_transport.proofs.Housed.{some_counted}
use Rattle.cal_transport.proofs.Owners.{some_value}

module _ (contents : Contents (Segment Pool)) (memory : MemoryState) (view : View) (number : ℕ) where
  pub held_active : (P : Segment Pool → Type 0) → OfSegment contents memory.slots number P →
      IsSome (segment_at memory.slots number)
  held_active P within = some_counted (segment_at memory.slots number) (λ held. OfValue contents held.handle.id P)
      within

  valued : (P : Segment Pool → Type 0) → OfSegment contents memory.slots number P →
      IsSomeAnd (segment_value contents memory.slots number) P
  valued P within = go (segment_at memory.slots number) within
    where
      go : (o : Option HeldSegment) → IsSomeAnd o (λ held. OfValue contents held.handle.id P) →
          IsSomeAnd (value_in contents o) P
      go None holds = absurd holds
      go (Some held) holds = holds

  module _ (same : segment_value contents view.slots number ≡ segment_value contents memory.slots number) where
    -- what holds of the memory's segment holds of the view's
    pub viewed : (P : Segment Pool → Type 0) → OfSegment contents memory.slots number P → (held : HeldSegment) →
        segment_at view.slots number ≡ Some held → OfValue contents held.handle.id P
    viewed P within held there =
        subst (λ (o : Option (Segment Pool)). IsSomeAnd o P) (sym same ∙ ap (value_in contents) there)
        (valued P within)

    -- and the other way round
    pub viewed_back : (P : Segment Pool → Type 0) → ((held : HeldSegment) → segment_at view.slots number ≡ Some held →
        OfValue contents held.handle.id P) → IsSome (segment_at view.slots number) → (found : Segment Pool) →
        segment_value contents memory.slots number ≡ Some found → P found
    viewed_back P holds mapped found is =
        let held = some_value (segment_at view.slots number) mapped in
        subst (λ (o : Option (Segment Pool)). IsSomeAnd o P)
        (sym (ap (value_in contents) held.1) ∙ same ∙ is) (holds held.0 held.1)
