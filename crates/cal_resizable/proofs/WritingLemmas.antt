-- That chunks which are out stay so while bytes are written, and that they can come back.
use Rattle.std.proofs.Common.{◌≡◌, ◌≢◌, ℕ, ◌+◌, ◌<◌, ◌≤◌, Option, Some, None, IsSomeAnd, List, [], ◌++◌, length, take, drop, option_map, refl, sym, ap, ◌∙◌, subst, inl, inr, arith}
use Rattle.std.specs.List.{slice_get}
use Rattle.std.proofs.lemmas.Bool.{cases_eq}
use Rattle.std.proofs.lemmas.List.{length-append, length-drop, length-take}
use Rattle.std.proofs.lemmas.Option.{none-some}
use Rattle.cal_alloc.specs.Chunks.{chunk_size}
use Rattle.cal_alloc.specs.PointerOffset.{pointer_offset, offset_of, segment_of}
use Rattle.cal_alloc.specs.declared.shm_allocator.ShmAllocator as shm_allocator
use Rattle.cal_storage.specs.declared.entry.Entry.{Entry}
use Rattle.cal_storage.specs.Contents.{Contents, entry_of, value_of}
use Rattle.cal_storage.specs.HoldingLemmas.{value-with_value}
use Rattle.cal_storage.specs.ValueLemmas.{value_of-with_value-other}
use Rattle.cal_shm.specs.Calls.{IsInPayload, with_written, with_written_in}
use Rattle.cal_shm.specs.Segment.{Segment, overwritten, with_bytes}
use Rattle.cal_resizable.specs.Chunks.{Chunk, value_in, IsOut, AreOut}
use Rattle.cal_resizable.specs.Creation.{MemoryPlan, memory_of}
use Rattle.cal_resizable.specs.Growth.{OfSegment}
use Rattle.cal_resizable.specs.Memory.{MemoryState}
use Rattle.cal_resizable.specs.Slots.{Handle, Slots, HeldSegment, segment_at, count_in, count_at, empty_slots, with_segment}
use Rattle.cal_resizable.proofs.OutLemmas.{all-map, all-at, counted-at}
use Rattle.cal_resizable.proofs.SegmentLemmas.{value_of-segment}
use Rattle.cal_resizable.proofs.SlotLemmas.{length-replicate, segment_at-empty, segment_at-set-same, segment_at-set-other}

-- bytes that are written over others leave as many
pub length-overwritten : (bytes : List ℕ) (offset : ℕ) (written : List ℕ) →
    length (overwritten bytes offset written) ≡ length bytes
length-overwritten bytes offset written =
    let front : List ℕ = take offset bytes in
    let rest : List ℕ = drop (length written) (drop offset bytes) in
    let whole : length (front ++ (written ++ rest)) ≡ length front + (length written + length rest) =
    length-append front (written ++ rest) ∙ ap (λ n. length front + n) (length-append written rest) in
    omega (
      arith,
      whole,
      length-take (length bytes) (front ++ (written ++ rest)),
      length-take offset bytes,
      length-drop (length written) (drop offset bytes),
      length-drop offset bytes,
    )

entry_there : {T : Type 0} (at : Option (Entry T)) (value : T) →
    option_map (λ (entry : Entry T). entry.value) at ≡ Some value → IsSomeAnd at (λ entry. Unit {0})
entry_there None value is = absurd (none-some value is)
entry_there (Some entry) value is = tt

-- what a segment is after bytes were written
module _ {A : Type 0} (contents : Contents (Segment A)) (id offset : ℕ) (written : List ℕ) (was : Segment A) where
  abbrev after_write : Contents (Segment A)
  after_write = with_written with_bytes contents id offset written

  -- the segment has the allocator and as many bytes as before
  pub record IsAlike (segment : Segment A) : Type 0 where
    pub allocator : segment.allocator ≡ was.allocator
    pub bytes : length segment.payload ≡ length was.payload

  written_elsewhere : (other : ℕ) → other ≢ id → value_of after_write other ≡ value_of contents other
  written_elsewhere other apart = from (value_of contents id)
    where
      from : (found : Option (Segment A)) →
          value_of (with_written_in with_bytes contents id offset written found) other ≡ value_of contents other
      from None = refl
      from (Some segment) = value_of-with_value-other contents id (with_bytes segment offset written) other apart

  written_here : value_of contents id ≡ Some was → value_of after_write id ≡ Some (with_bytes was offset written)
  written_here at =
      ap (λ found. value_of (with_written_in with_bytes contents id offset written found) id) at
      ∙ value-with_value contents id (with_bytes was offset written) (λ entry. Unit {0})
      (entry_there (entry_of contents id) was at)

  alike : (slot : Option HeldSegment) → value_in contents slot ≡ Some was →
      (segment : Segment A) × (value_in after_write slot ≡ Some segment) × IsAlike segment
  alike None at = absurd (none-some was at)
  alike (Some held) at = elim (cases_eq held.handle.id id) [
    | inl same ↦ (
      with_bytes was offset written,
      ap (value_of after_write) same ∙ written_here (ap (value_of contents) (sym same) ∙ at),
      record { allocator = refl; bytes = length-overwritten was.payload offset written },
    )
    | inr apart ↦ (was, written_elsewhere held.handle.id apart ∙ at, record { allocator = refl; bytes = refl })
  ]

module _ {A C : Type 0} (rules : shm_allocator.Ghosts A C) where
  pub AreOut-written : (contents : Contents (Segment A)) (slots : Slots) (id offset : ℕ) (written : List ℕ)
      (chunks : List Chunk) → AreOut rules.properties rules.IsByteUsed rules.IsAllocated contents slots chunks →
      AreOut rules.properties rules.IsByteUsed rules.IsAllocated (with_written with_bytes contents id offset written)
      slots chunks
  AreOut-written contents slots id offset written chunks out = record {
    each = all-map (IsOut rules.properties rules.IsByteUsed rules.IsAllocated contents slots)
        (IsOut rules.properties rules.IsByteUsed rules.IsAllocated (with_written with_bytes contents id offset written)
        slots) chunks still out.each;
    apart = out.apart;
    counted = out.counted;
  }
    where
      still : (chunk : Chunk) → IsOut rules.properties rules.IsByteUsed rules.IsAllocated contents slots chunk →
          IsOut rules.properties rules.IsByteUsed rules.IsAllocated (with_written with_bytes contents id offset written)
          slots chunk
      still chunk was =
          let is = alike contents id offset written was.segment (segment_at slots (segment_of chunk.pointer))
          was.there in
          let same : is.0.allocator ≡ was.segment.allocator = let like = is.2 in like.allocator in
          let as_many : length is.0.payload ≡ length was.segment.payload = let like = is.2 in like.bytes in
          record {
            segment = is.0;
            there = is.1;
            allocated = subst (λ a. rules.IsAllocated a (pointer_offset (offset_of chunk.pointer) 0)) (sym same)
                was.allocated;
            sized = ap (λ a. chunk_size (rules.properties a) chunk.layout) same ∙ was.sized;
            not_empty = was.not_empty;
            large = was.large;
            taken = λ byte inside. subst (λ a. rules.IsByteUsed a byte) (sym same) (was.taken byte inside);
            within = subst (λ n. offset_of chunk.pointer + chunk.size ≤ n) (sym as_many) was.within;
          }

  -- ---- a chunk that is out can come back
  module _ (contents : Contents (Segment A)) (slots : Slots) (chunks : List Chunk) (index : ℕ) (chunk : Chunk)
      (at : slice_get chunks index ≡ Some chunk) (out : AreOut rules.properties rules.IsByteUsed rules.IsAllocated
      contents slots chunks) where
    pub out_counted : 0 < count_at slots (segment_of chunk.pointer)
    out_counted = omega (arith, counted-at chunks index chunk at, out.counted (segment_of chunk.pointer))

    pub out_allocated : OfSegment contents slots (segment_of chunk.pointer)
        (λ segment. rules.IsAllocated segment.allocator (pointer_offset (offset_of chunk.pointer) 0))
    out_allocated =
        let is : IsOut rules.properties rules.IsByteUsed rules.IsAllocated contents slots chunk =
        all-at (IsOut rules.properties rules.IsByteUsed rules.IsAllocated contents slots) chunks index chunk at
        out.each in
        value_of-segment contents slots (segment_of chunk.pointer)
        (λ segment. rules.IsAllocated segment.allocator (pointer_offset (offset_of chunk.pointer) 0)) is.segment
        is.there is.allocated

    pub out_within : (count : ℕ) → count ≤ chunk.layout.size →
        OfSegment contents slots (segment_of chunk.pointer)
        (λ segment. IsInPayload segment.payload (offset_of chunk.pointer) count)
    out_within count fits =
        let is : IsOut rules.properties rules.IsByteUsed rules.IsAllocated contents slots chunk =
        all-at (IsOut rules.properties rules.IsByteUsed rules.IsAllocated contents slots) chunks index chunk at
        out.each in
        value_of-segment contents slots (segment_of chunk.pointer)
        (λ segment. IsInPayload segment.payload (offset_of chunk.pointer) count) is.segment is.there
        (omega (arith, is.within, is.large, fits))

  -- ---- a new memory has none

  none_counted : (handle : Handle) (number : ℕ) → count_at (with_segment (empty_slots 256) 0 handle) number ≡ 0
  none_counted handle number = elim (cases_eq number 0) [
    | inl same ↦
        ap (count_at (with_segment (empty_slots 256) 0 handle)) same
        ∙ ap count_in (segment_at-set-same (empty_slots 256) 0 (Some (record { handle = handle; count = 0 }))
        (omega (arith, length-replicate {X = Option HeldSegment} 256 None)))
    | inr apart ↦
        ap count_in (segment_at-set-other (empty_slots 256) 0 (Some (record { handle = handle; count = 0 })) number
        apart ∙ segment_at-empty 256 number)
  ]

  pub none_out : (contents : Contents (Segment A)) (plan : MemoryPlan) (management first : Handle)
      (memory : MemoryState) → memory ≡ memory_of plan management first → AreOut rules.properties rules.IsByteUsed
      rules.IsAllocated contents memory.slots []
  none_out contents plan management first memory is = record {
    each = tt;
    apart = tt;
    counted = λ number. ap (λ (m : MemoryState). count_at m.slots number) is ∙ none_counted first number;
  }
