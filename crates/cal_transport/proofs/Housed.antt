-- What the memory of a transport has of a live chunk: its segment, and the chunk's bytes there.
use Rattle.std.proofs.Common.{ℕ, ◌+◌, ◌*◌, ◌≤◌, ◌≡◌, true, nat_lt, length, Option, Some, None, IsSome, is_some, IsSomeAnd, refl, sym, ap, ◌∙◌, subst, arith, mul-le-mul_left}
use Rattle.std.specs.List.{slice_get}
use Rattle.std.proofs.lemmas.Bool.{or_left, or_right}
use Rattle.cal_alloc.specs.Growth.{SegmentLayout}
use Rattle.cal_alloc.specs.Limits.{max_memory_size}
use Rattle.cal_alloc.specs.PointerOffset.{offset_of, segment_of}
use Rattle.cal_alloc.specs.Pool.{Pool}
use Rattle.cal_shm.specs.Calls.{IsInPayload}
use Rattle.cal_shm.specs.Segment.{Segment}
use Rattle.cal_resizable.specs.Chunks.{segment_value}
use Rattle.cal_resizable.specs.Growth.{OfSegment}
use Rattle.cal_resizable.specs.Slots.{HeldSegment, segment_at}
use Rattle.cal_transport.specs.declared.transport.chunk_entry.ChunkEntry.{ChunkEntry}
use Rattle.cal_transport.specs.Ledger.{Ledger, Chunk, layout_at, is_live}
use Rattle.cal_transport.specs.Pointed.{HasPlace}
use Rattle.cal_transport.specs.Weights.{transits}
use Rattle.cal_transport.specs.Shown.{Shows, bytes_at, entry_of, pointer_to}
use Rattle.cal_transport.specs.State.{TransportState, core_of}
use Rattle.cal_transport.proofs.Settled.{IsSettled}
use Rattle.cal_transport.proofs.Changed.{live_is}
use Rattle.cal_transport.proofs.Seen.{is_seen}
use Rattle.cal_transport.proofs.Segments.{from_shown, shown_held}
use Rattle.cal_transport.proofs.Fronts.{sizes_of, is_pointer, has_segment, alive_active}

-- the segment of a chunk is there, and the chunk's bytes are those of its bucket
pub record HousesChunk (t : TransportState) (l : Ledger) (chunk : Chunk) (number bucket : ℕ) : Type 0 where
  pub segment : Segment Pool
  pub there : segment_value t.memory_registry t.memory.slots number ≡ Some segment
  pub size : segment.allocator.buckets.size ≡ (layout_at l chunk.segment).size
  pub bytes : bytes_at segment.payload (bucket * segment.allocator.buckets.size) segment.allocator.buckets.size
      ≡ chunk.bytes
  pub inside : bucket * segment.allocator.buckets.size + segment.allocator.buckets.size ≤ length segment.payload
  pub small : bucket * segment.allocator.buckets.size + segment.allocator.buckets.size ≤ max_memory_size
  pub positive : 1 ≤ segment.allocator.buckets.size

pub houses : (t : TransportState) (l : Ledger) → IsSettled l → Shows (core_of t) l → (i : ℕ) (chunk : Chunk) →
    slice_get l.chunks i ≡ Some chunk → is_live l chunk ≡ true → HousesChunk t l chunk chunk.segment chunk.bucket
houses t l s shows i chunk there alive =
    let had = has_segment (core_of t) l chunk.segment shows (alive_active l s i chunk there alive) in
    let seen = is_seen t.memory_registry t.memory chunk.segment had.shown had.has in
    let size_is : seen.segment.allocator.buckets.size ≡ (layout_at l chunk.segment).size =
    ap (λ (q : Pool). q.buckets.size) seen.pool ∙ ap (λ (b : SegmentLayout). b.size) had.shows.layout in
    let sizes = sizes_of l s i chunk there in
    let next : chunk.bucket + 1 ≤ (layout_at l chunk.segment).count =
    (let below = (s.within i chunk there).bucket in omega arith) in
    let below = mul-le-mul_left (layout_at l chunk.segment).size next in
    let most = sizes.payload in
    let all = had.shows.payload in
    record {
      segment = seen.segment;
      there = seen.there;
      size = size_is;
      bytes = ap (λ n. bytes_at seen.segment.payload (chunk.bucket * n) n) size_is
          ∙ ap (λ m. bytes_at m (chunk.bucket * (layout_at l chunk.segment).size) (layout_at l chunk.segment).size)
          seen.payload
          ∙ shows.bytes i chunk had.shown there alive had.has;
      inside = subst (λ n. chunk.bucket * n + n ≤ length seen.segment.payload) (sym size_is)
          (subst (λ m. chunk.bucket * (layout_at l chunk.segment).size + (layout_at l chunk.segment).size ≤ length m)
          (sym seen.payload) (omega arith));
      small = subst (λ n. chunk.bucket * n + n ≤ max_memory_size) (sym size_is) (omega arith);
      positive = subst (λ n. 1 ≤ n) (sym size_is) sizes.not_empty;
    }

-- of the chunk's entry
pub houses_entry : (t : TransportState) (l : Ledger) (chunk : Chunk) (entry : ChunkEntry) →
    entry ≡ entry_of l.histories chunk → HousesChunk t l chunk chunk.segment chunk.bucket →
    HousesChunk t l chunk entry.segment entry.bucket
houses_entry t l chunk entry is h =
    subst (λ (e : ChunkEntry). HousesChunk t l chunk e.segment e.bucket) (sym is) h

-- a chunk whose entry is loaned, or in transit, lives
pub loaned_lives : (l : Ledger) (chunk : Chunk) (entry : ChunkEntry) → entry ≡ entry_of l.histories chunk →
    entry.loaned ≡ true → is_live l chunk ≡ true
loaned_lives l chunk entry is loaned =
    live_is l chunk ∙ or_left chunk.loaned (nat_lt 0 (transits l.histories chunk.name))
    (ap (λ (e : ChunkEntry). e.loaned) (sym is) ∙ loaned)

pub transit_lives_on : (l : Ledger) (chunk : Chunk) (entry : ChunkEntry) → entry ≡ entry_of l.histories chunk →
    nat_lt 0 entry.transits ≡ true → is_live l chunk ≡ true
transit_lives_on l chunk entry is some =
    live_is l chunk ∙ or_right chunk.loaned (nat_lt 0 (transits l.histories chunk.name))
    (ap (λ (e : ChunkEntry). nat_lt 0 e.transits) (sym is) ∙ some)

-- a pointer to the chunk tells the entry's segment and the place of its bucket
pub house_pointer : (t : TransportState) (l : Ledger) → IsSettled l → (i : ℕ) (chunk : Chunk) →
    slice_get l.chunks i ≡ Some chunk → (entry : ChunkEntry) → entry ≡ entry_of l.histories chunk →
    (h : HousesChunk t l chunk entry.segment entry.bucket) (pointer : ℕ) → pointer ≡ pointer_to l chunk →
    (segment_of pointer ≡ entry.segment)
    × (offset_of pointer ≡ entry.bucket * h.segment.allocator.buckets.size)
house_pointer t l s i chunk there entry entry_is h pointer is =
    let p = is_pointer l s i chunk there in (
      ap segment_of is ∙ p.segment ∙ ap (λ (e : ChunkEntry). e.segment) (sym entry_is),
      ap offset_of is ∙ p.offset
          ∙ ap (λ (e : ChunkEntry). e.bucket * (layout_at l chunk.segment).size) (sym entry_is)
          ∙ ap (λ n. entry.bucket * n) (sym h.size),
    )

-- ---- what the calls ask of its segment

module _ (t : TransportState) (l : Ledger) (chunk : Chunk) (number bucket : ℕ)
    (h : HousesChunk t l chunk number bucket) where
  pub house_held : IsSome (segment_at t.memory.slots number)
  house_held = shown_held t.memory_registry t.memory.slots number h.segment h.there

  pub house_place : HasPlace t.memory_registry t.memory number bucket
  house_place = record {
    segment = h.segment;
    there = h.there;
    small = (let small = h.small in let some = h.positive in omega arith);
  }

  -- bytes within the bucket lie within the payload
  pub house_payload : (pointer at count : ℕ) → segment_of pointer ≡ number →
      offset_of pointer ≡ bucket * h.segment.allocator.buckets.size + at →
      at + count ≤ h.segment.allocator.buckets.size →
      OfSegment t.memory_registry t.memory.slots (segment_of pointer)
      (λ s. IsInPayload s.payload (offset_of pointer) count)
  house_payload pointer at count segment_is offset_is within =
      subst (λ n. OfSegment t.memory_registry t.memory.slots n (λ s. IsInPayload s.payload (offset_of pointer) count))
      (sym segment_is)
      (from_shown t.memory_registry t.memory.slots number (λ s. IsInPayload s.payload (offset_of pointer) count)
      h.segment h.there (let inside = h.inside in omega arith))

-- what is counted is there
pub some_counted : (o : Option HeldSegment) (P : HeldSegment → Type 0) → IsSomeAnd o P → is_some o ≡ true
some_counted None P there = absurd there
some_counted (Some held) P there = refl
