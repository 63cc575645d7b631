-- What the calls of a segment leave in the registry, from the segment that its storage lent.
use Rattle.std.proofs.Common.{◌≡◌, ℕ, Some, IsSomeAnd, sym, ap, subst, ◌∙◌}
use Rattle.cal_storage.specs.Contents.{Contents, Has, value_of, with_value}
use Rattle.cal_storage.specs.declared.Handle.{Handle}
use Rattle.cal_storage.specs.Holding.{KeepsHandles}
use Rattle.cal_storage.specs.HoldingLemmas.{KeepsHandles-is, KeepsHandles-with_value}
use Rattle.cal_storage.specs.ValueLemmas.{with_value-present, value_of-with_value-same}
use Rattle.cal_shm.specs.Calls.{ChangesAllocator, OfValue}
use Rattle.cal_shm.specs.Segment.{Segment, with_allocator}

module _ {A : Type 0} (old : Contents (Segment A)) (id : ℕ) (segment : Segment A)
    (there : Some segment ≡ value_of old id) where
  -- what is a fact of the segment that was lent is one of the segment of the id
  pub of_segment : (fact : Segment A → Type 0) → fact segment → OfValue old id fact
  of_segment fact is = subst (λ found. IsSomeAnd found fact) there is

  -- and the other way round
  pub of_lent : (fact : Segment A → Type 0) → OfValue old id fact → fact segment
  of_lent fact is = subst (λ found. IsSomeAnd found fact) (sym there) is

  module _ (left : Segment A) (new : Contents (Segment A)) (is : new ≡ with_value old id left) where
    -- its allocator was changed
    pub changed : (Change : A → A → Type 0) → Change segment.allocator left.allocator →
        left ≡ with_allocator segment left.allocator → ChangesAllocator old id Change new
    changed Change change same_bytes = record {
      segment = segment;
      allocator = left.allocator;
      was = sym there;
      change = change;
      after = is ∙ ap (with_value old id) same_bytes;
    }

    -- it is as it was
    pub unchanged : left ≡ segment → new ≡ old
    unchanged same = is ∙ ap (with_value old id) same ∙ with_value-present old id segment (sym there)

    pub keeps : KeepsHandles old new
    keeps = KeepsHandles-is old new (with_value old id left) is (KeepsHandles-with_value old id left)

    -- a fact of what was left is one of the segment of the id
    pub of_left : (handle : Handle) → handle.id ≡ id → Has old handle → (fact : Segment A → Type 0) → fact left →
        OfValue new id fact
    of_left handle same has fact holds =
        subst (λ contents. OfValue contents id fact) (sym is)
        (subst (λ found. IsSomeAnd found fact) (sym (value_of-with_value-same old id left handle same has)) holds)
