-- What the calls of a growing memory leave of the chunks that are out.
use Rattle.std.proofs.Common.{◌≡◌, ℕ, ◌<◌, ◌≤◌, Some, None, IsSome, Result, Ok, Err, IfOk, sym, ap, ◌∙◌, subst, refl, arith}
use Rattle.cal_alloc.specs.Chunks.{Properties, IsAllocation, IsDeallocation, chunk_size}
use Rattle.cal_alloc.specs.PointerOffset.{pointer_offset, offset_of, segment_of}
use Rattle.cal_alloc.specs.SizeAndAlignment.{SizeAndAlignment}
use Rattle.cal_alloc.specs.declared.shm_allocator.SharedMemorySetupHint.{SharedMemorySetupHint}
use Rattle.cal_alloc.specs.declared.shm_allocator.ShmAllocationError.{ShmAllocationError}
use Rattle.cal_alloc.specs.declared.shm_allocator.ShmAllocator as shm_allocator
use Rattle.cal_storage.specs.Contents.{Contents}
use Rattle.cal_storage.specs.Refusals.{finished_version}
use Rattle.cal_shm.specs.Calls.{IsChunkWithin}
use Rattle.cal_shm.specs.Segment.{Segment, with_allocator}
use Rattle.cal_resizable.specs.Chunks.{segment_value, GrowsTo, AddsChunk, RemovesChunk}
use Rattle.cal_resizable.specs.Growth.{OfSegment, AllocatesHere, TakesBack, made_segment, grown_contents, grown_memory}
use Rattle.cal_resizable.specs.Memory.{MemoryState, IsSoundMemory, HasAll}
use Rattle.cal_resizable.specs.Slots.{count_at}
use Rattle.cal_resizable.proofs.AllocationLemmas.{of_one}
use Rattle.cal_resizable.proofs.OutLemmas.{AddsSized-given, AreOut-grown, RemovesChunk-returned}
use Rattle.cal_resizable.proofs.SegmentLemmas.{of_value, GivesChunk-here, GrowsTo-grown, ReturnsChunk-by}

module _ {A C : Type 0} (rules : shm_allocator.Ghosts A C) (allocation : (old : A) (layout : SizeAndAlignment)
    (pointer : ℕ) (new : A) → rules.Allocates old layout pointer new →
    IsAllocation (rules.properties old) (rules.properties new) (rules.IsByteUsed old) (rules.IsByteUsed new)
    (rules.IsAllocated old) (rules.IsAllocated new) (rules.IsPadding old pointer) layout pointer)
    (served : (old : A) (layout : SizeAndAlignment) → rules.refusal old layout ≡ None →
    layout.size ≤ chunk_size (rules.properties old) layout)
    (layout : SizeAndAlignment) (pointer : ℕ) where
  -- the current segment hands out a chunk
  pub AddsChunk-here : (old new : Contents (Segment A)) (before after : MemoryState) → IsSoundMemory before →
      HasAll old before → AllocatesHere rules old before layout pointer new after →
      OfSegment new after.slots (segment_of pointer) (λ segment. IsChunkWithin rules.properties segment layout pointer)
      →
      OfSegment old before.slots before.current (λ segment. None ≡ rules.refusal segment.allocator layout) →
      AddsChunk rules.properties rules.IsByteUsed rules.IsAllocated old before.slots layout pointer new after.slots
  AddsChunk-here old new before after sound has here fits serves chunks some out =
      let gives = GivesChunk-here rules allocation old new before after layout pointer sound has here fits in
      let law = allocation gives.was.allocator layout (pointer_offset (offset_of pointer) 0) gives.left gives.given in
      let size : ℕ = chunk_size (rules.properties gives.left) layout in
      let large : layout.size ≤ chunk_size (rules.properties gives.was.allocator) layout =
      served gives.was.allocator layout
      (sym (of_value old before.slots before.current (λ segment. None ≡ rules.refusal segment.allocator layout)
      gives.was
      serves gives.origin)) in
      let same : chunk_size (rules.properties gives.left) layout
      ≡ chunk_size (rules.properties gives.was.allocator) layout =
      ap (λ p. chunk_size p layout) law.properties in (
        size,
        AddsSized-given rules allocation old new before.slots after.slots before.current layout pointer gives size
            chunks
            (with_allocator gives.was gives.left)
            (ap (segment_value new after.slots) gives.carries ∙ gives.becomes) refl
            (omega (arith, large, same, some)) (omega (arith, large, same)) out,
      )

  -- the memory grows, and then the new segment does
  module _ (old mid new : Contents (Segment A)) (before between after : MemoryState) (hint : SharedMemorySetupHint C)
      (sound : IsSoundMemory before) (has : HasAll old before) (below : before.current < 255)
      (contents : mid ≡ grown_contents rules old before hint) (memory : between ≡ grown_memory old before) where
    grows : GrowsTo old before (made_segment rules hint) mid between
    grows =
        subst (λ m. GrowsTo old before (made_segment rules hint) mid m) (sym memory)
        (subst (λ c. GrowsTo old before (made_segment rules hint) c (grown_memory old before)) (sym contents)
        (GrowsTo-grown old before (made_segment rules hint) finished_version sound has below))

    pub AddsChunk-grown : IsSoundMemory between → HasAll mid between →
        AllocatesHere rules mid between layout pointer new after →
        OfSegment new after.slots (segment_of pointer)
        (λ segment. IsChunkWithin rules.properties segment layout pointer) →
        OfSegment mid between.slots between.current (λ segment. None ≡ rules.refusal segment.allocator layout) →
        AddsChunk rules.properties rules.IsByteUsed rules.IsAllocated old before.slots layout pointer new after.slots
    AddsChunk-grown sound_between has_between here fits serves chunks some out =
        AddsChunk-here mid new between after sound_between has_between here fits serves chunks some
        (AreOut-grown rules.properties rules.IsByteUsed rules.IsAllocated old mid before between
        (made_segment rules hint) grows chunks out)

-- the cause why the current segment doesn't serve a layout
pub not_served : {A C : Type 0} (rules : shm_allocator.Ghosts A C) (old : Contents (Segment A)) (memory : MemoryState)
    (layout : SizeAndAlignment) (refusal : ShmAllocationError) →
    OfSegment old memory.slots memory.current (λ segment. Some refusal ≡ rules.refusal segment.allocator layout) →
    OfSegment old memory.slots memory.current (λ segment. IsSome (rules.refusal segment.allocator layout))
not_served rules old memory layout refusal refused =
    of_one old memory.slots memory.current (λ segment. Some refusal ≡ rules.refusal segment.allocator layout)
    (λ segment. IsSome (rules.refusal segment.allocator layout)) refused (λ segment is. subst IsSome is refl)

-- a chunk is taken back
pub RemovesChunk-taken : {A : Type 0} (properties : A → Properties) (IsByteUsed IsAllocated : A → ℕ → Type 0)
    (Deallocates : A → ℕ → A → Type 0) → ((old : A) (pointer : ℕ) (new : A) → Deallocates old pointer new →
    IsDeallocation (properties old) (properties new) (IsByteUsed old) (IsByteUsed new) (IsAllocated old)
    (IsAllocated new) pointer) → (old new : Contents (Segment A)) (before after : MemoryState) (pointer : ℕ) →
    IsSoundMemory before → HasAll old before → 0 < count_at before.slots (segment_of pointer) →
    TakesBack (λ was is. Deallocates was (pointer_offset (offset_of pointer) 0) is) old before (segment_of pointer) new
    after → RemovesChunk properties IsByteUsed IsAllocated old before.slots pointer new after.slots
RemovesChunk-taken properties IsByteUsed IsAllocated Deallocates deallocation old new before after pointer sound has
    some
    takes =
    RemovesChunk-returned properties IsByteUsed IsAllocated Deallocates deallocation old new before.slots after.slots
    pointer
    (ReturnsChunk-by (λ was is. Deallocates was (pointer_offset (offset_of pointer) 0) is) old new before after
    (segment_of pointer) sound has some takes)

-- what is known of a result that is Ok
pub ok_map : {X E : Type 0} (result : Result X E) (P Q : X → Type 0) → IfOk result P → ((x : X) → P x → Q x) →
    IfOk result Q
ok_map (Ok x) P Q is then = then x is
ok_map (Err e) P Q is then = is
