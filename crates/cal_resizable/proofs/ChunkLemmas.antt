-- That a chunk which was handed out is out, and lies within the payload of its segment.
use Rattle.std.proofs.Common.{◌≡◌, ℕ, ◌+◌, ◌<◌, ◌≤◌, Option, Some, IsSomeAnd, option_map, refl, sym, ap, ◌∙◌, subst, arith}
use Rattle.cal_alloc.specs.Chunks.{Properties, chunk_size}
use Rattle.cal_alloc.specs.PointerOffset.{pointer_offset, offset_of, segment_of}
use Rattle.cal_alloc.specs.SizeAndAlignment.{SizeAndAlignment}
use Rattle.cal_storage.specs.Contents.{Contents, Has, value_of}
use Rattle.cal_storage.specs.ValueLemmas.{value_of-with_value-same}
use Rattle.cal_shm.specs.Calls.{OfValue, ChangesAllocator, IsInPayload, IsChunkWithin}
use Rattle.cal_shm.specs.Segment.{Segment, with_allocator}
use Rattle.cal_resizable.specs.Growth.{OfSegment}
use Rattle.cal_resizable.specs.Slots.{Handle, Slots, HeldSegment, segment_at, with_more, count_in, count_at, EachHandle}
use Rattle.cal_resizable.proofs.KeepingLemmas.{held_is, with_more-is}
use Rattle.cal_resizable.proofs.SlotLemmas.{segment_at-set-same, within_slots}

pub offset_back : (offset number : ℕ) → number < 256 → offset_of (pointer_offset offset number) ≡ offset
offset_back offset number small = omega (arith, small)

pub segment_back : (offset number : ℕ) → number < 256 → segment_of (pointer_offset offset number) ≡ number
segment_back offset number small = omega (arith, small)

pub in_first : (chunk : ℕ) → segment_of chunk ≡ 0 → chunk ≡ pointer_offset (offset_of chunk) 0
in_first chunk first = omega (arith, first)

-- the segment of a number, counted once more
counted_at : (before slots : Slots) (current : ℕ) (held : HeldSegment) → segment_at before current ≡ Some held →
    slots ≡ with_more before current → segment_at slots current ≡ Some (record held { count = held.count + 1 })
counted_at before slots current held at more =
    ap (λ s. segment_at s current) (more ∙ with_more-is before current held at)
    ∙ segment_at-set-same before current (Some (record held { count = held.count + 1 }))
    (within_slots before current held at)

pub one_more_counted : (before slots : Slots) (current : ℕ) (handle : Handle) →
    option_map (λ (held : HeldSegment). held.handle) (segment_at before current) ≡ Some handle →
    slots ≡ with_more before current → count_at slots current ≤ count_at before current + 1
one_more_counted before slots current handle handle_is more =
    let is = held_is (segment_at before current) handle handle_is in
    let was : count_at before current ≡ is.0.count = ap count_in is.1 in
    let now : count_at slots current ≡ is.0.count + 1 =
    ap count_in (counted_at before slots current is.0 is.1 more) in
    omega (arith, was, now)

same_and : {X : Type 0} (option : Option X) (x y : X) (P Q : X → Type 0) → option ≡ Some x → IsSomeAnd option P →
    (P x → Q y) → Q y
same_and option x y P Q is holds then = then (subst (λ o. IsSomeAnd o P) is holds)

module _ {A : Type 0} (old new : Contents (Segment A)) (before slots : Slots) (current : ℕ) (handle : Handle)
    (handle_is : option_map (λ (held : HeldSegment). held.handle) (segment_at before current) ≡ Some handle)
    (more : slots ≡ with_more before current) (chunk pointer : ℕ)
    (pointer_is : pointer ≡ pointer_offset (offset_of chunk) current) (small : current < 256) where
  same_offset : offset_of pointer ≡ offset_of chunk
  same_offset = ap offset_of pointer_is ∙ offset_back (offset_of chunk) current small

  is_current : segment_of pointer ≡ current
  is_current = ap segment_of pointer_is ∙ segment_back (offset_of chunk) current small

  -- what is known of the value of the current segment's handle
  of_current : (P : Segment A → Type 0) → OfValue new handle.id P → OfSegment new slots (segment_of pointer) P
  of_current P holds =
      let is = held_is (segment_at before current) handle handle_is in
      let counted : HeldSegment = record is.0 { count = is.0.count + 1 } in
      let at : segment_at slots (segment_of pointer) ≡ Some counted =
      ap (segment_at slots) is_current ∙ counted_at before slots current is.0 is.1 more in
      subst (λ slot. IsSomeAnd slot (λ h. OfValue new h.handle.id P)) (sym at)
      (subst (λ (h : Handle). OfValue new h.id P) (sym is.2) holds)

  pub chunk_is_out : (IsAllocated : A → ℕ → Type 0) → segment_of chunk ≡ 0 →
      OfValue new handle.id (λ segment. IsAllocated segment.allocator chunk) →
      OfSegment new slots (segment_of pointer)
      (λ segment. IsAllocated segment.allocator (pointer_offset (offset_of pointer) 0))
  chunk_is_out IsAllocated first out =
      let same : chunk ≡ pointer_offset (offset_of pointer) 0 =
      in_first chunk first ∙ ap (λ offset. pointer_offset offset 0) (sym same_offset) in
      of_current (λ segment. IsAllocated segment.allocator (pointer_offset (offset_of pointer) 0))
      (subst (λ p. OfValue new handle.id (λ segment. IsAllocated segment.allocator p)) same out)

  module _ (Change : A → A → Type 0) (given : ChangesAllocator old handle.id Change new)
      (management : Handle) (has : EachHandle management before (Has old)) where
    has_handle : Has old handle
    has_handle =
        let is = held_is (segment_at before current) handle handle_is in
        subst (Has old) is.2 (has.of_segments current is.0 is.1)

    value_after : value_of new handle.id ≡ Some (with_allocator given.segment given.allocator)
    value_after =
        ap (λ contents. value_of contents handle.id) given.after
        ∙ value_of-with_value-same old handle.id (with_allocator given.segment given.allocator) handle refl has_handle

    pub chunk_is_within : (properties : A → Properties) (layout : SizeAndAlignment) →
        properties given.allocator ≡ properties given.segment.allocator →
        OfValue old handle.id (λ segment. IsChunkWithin properties segment layout chunk) →
        OfSegment new slots (segment_of pointer) (λ segment. IsChunkWithin properties segment layout pointer)
    chunk_is_within properties layout same within =
        of_current (λ segment. IsChunkWithin properties segment layout pointer)
        (subst (λ o. IsSomeAnd o (λ segment. IsChunkWithin properties segment layout pointer)) (sym value_after)
        (same_and (value_of old handle.id) given.segment (with_allocator given.segment given.allocator)
        (λ segment. IsChunkWithin properties segment layout chunk)
        (λ segment. IsChunkWithin properties segment layout pointer) given.was within
        (λ fits.
        subst (λ offset. IsInPayload given.segment.payload offset (chunk_size (properties given.allocator) layout))
        (sym same_offset)
        (subst (λ p. IsInPayload given.segment.payload (offset_of chunk) (chunk_size p layout)) (sym same) fits))))
