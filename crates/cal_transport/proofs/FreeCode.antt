-- What gives the bucket of a live chunk back: what the call asks of the memory, and what the parts are after it.
use Rattle.std.proofs.Common.{ℕ, ◌*◌, ◌/◌, ◌<◌, ◌≡◌, Bool, true, ◌&&◌, nat_eq, Option, Some, None, refl, sym, ap, ◌∙◌, subst, arith}
use Rattle.std.specs.List.{slice_get}
use Rattle.std.proofs.lemmas.Bool.{eq-eqb}
use Rattle.std.proofs.lemmas.Option.{same_Some, none-some}
use Rattle.cal_alloc.specs.Growth.{SegmentLayout}
use Rattle.cal_alloc.specs.Pool.{Pool, is_used, IsUsedBucket}
use Rattle.cal_alloc.specs.PointerOffset.{offset_of, segment_of, pointer_offset}
use Rattle.cal_storage.specs.Contents.{Contents}
use Rattle.cal_shm.specs.Segment.{Segment}
use Rattle.cal_resizable.specs.Chunks.{segment_value}
use Rattle.cal_resizable.specs.Growth.{OfSegment}
use Rattle.cal_resizable.specs.Memory.{MemoryState}
use Rattle.cal_resizable.specs.Slots.{count_at as slots_count}
use Rattle.cal_transport.specs.Ledger.{Ledger, Chunk, layout_at, is_live}
use Rattle.cal_transport.specs.Weights.{live_in, one_if}
use Rattle.cal_transport.specs.Core.{Core, ActiveSegment, GivesBack}
use Rattle.cal_transport.specs.Shown.{Shows, pointer_to}
use Rattle.cal_transport.specs.Sharing.{FreesUnless}
use Rattle.cal_transport.specs.State.{TransportState, core_of, active_of}
use Rattle.cal_transport.proofs.Changing.{pointer_used}
use Rattle.cal_transport.proofs.Changed.{used_is}
use Rattle.cal_transport.proofs.Fronts.{IsPointer, HasSegment, is_pointer, pointed_bucket, has_segment, alive_active}
use Rattle.cal_transport.proofs.Marks.{holds_there}
use Rattle.cal_transport.proofs.Seen.{IsSeen, is_seen}
use Rattle.cal_transport.proofs.Segments.{of_shown, from_shown}
use Rattle.cal_transport.proofs.Settled.{IsSettled}
use Rattle.cal_transport.proofs.Totals.{total_least}

-- as many chunks are out as the segment that is shown tells
counted : (o : Option (Segment Pool)) (count : ℕ) (shown : ActiveSegment) → active_of o count ≡ Some shown →
    count ≡ shown.chunks
counted None count shown is = absurd (none-some shown is)
counted (Some segment) count shown is = ap (λ (a : ActiveSegment). a.chunks) (same_Some (record {
  pool = segment.allocator;
  payload = segment.payload;
  chunks = count;
}) shown is)

module _ (t : TransportState) (l : Ledger) (s : IsSettled l) (shows : Shows (core_of t) l) (i : ℕ) (chunk : Chunk)
    (there : slice_get l.chunks i ≡ Some chunk) (alive : is_live l chunk ≡ true) (pointer : ℕ)
    (is : pointer ≡ pointer_to l chunk) where
  had : HasSegment (core_of t) l chunk.segment
  had = has_segment (core_of t) l chunk.segment shows (alive_active l s i chunk there alive)

  seen : IsSeen t.memory_registry t.memory chunk.segment had.shown
  seen = is_seen t.memory_registry t.memory chunk.segment had.shown had.has

  at : IsPointer l chunk (pointer_to l chunk)
  at = is_pointer l s i chunk there

  size_is : seen.segment.allocator.buckets.size ≡ (layout_at l chunk.segment).size
  size_is = ap (λ (q : Pool). q.buckets.size) seen.pool ∙ ap (λ (b : SegmentLayout). b.size) had.shows.layout

  pub segment_is : segment_of pointer ≡ chunk.segment
  segment_is = ap segment_of is ∙ at.segment

  offset_is : offset_of pointer ≡ chunk.bucket * seen.segment.allocator.buckets.size
  offset_is = ap offset_of is ∙ at.offset ∙ ap (λ n. chunk.bucket * n) (sym size_is)

  bucket_is : offset_of pointer / seen.segment.allocator.buckets.size ≡ chunk.bucket
  bucket_is = ap (λ v. offset_of v / seen.segment.allocator.buckets.size) is
      ∙ pointed_bucket l chunk (pointer_to l chunk) seen.segment.allocator.buckets.size at size_is

  some_live : 0 < live_in l chunk.segment
  some_live =
      let least = total_least (λ d. one_if (nat_eq d.segment chunk.segment && is_live l d)) l.chunks i chunk there in
      let counts = ap (λ b. one_if (b && is_live l chunk)) (eq-eqb chunk.segment chunk.segment refl)
      ∙ ap one_if alive in
      omega arith

  -- a chunk of its segment is out
  pub is_out : 0 < slots_count t.memory.slots (segment_of pointer)
  is_out =
      let some = some_live in
      let shown = counted (segment_value t.memory_registry t.memory.slots chunk.segment)
      (slots_count t.memory.slots chunk.segment) had.shown had.has in
      let same = had.shows.chunks in
      subst (λ n. 0 < slots_count t.memory.slots n) (sym segment_is) (omega arith)

  marked : is_used seen.segment.allocator chunk.bucket ≡ true
  marked = ap (λ q. is_used q chunk.bucket) seen.pool ∙ had.shows.used chunk.bucket
      ∙ used_is l chunk.segment chunk.bucket ∙ holds_there (is_live l) l i chunk there alive

  -- and its bucket is used, and starts at the pointer
  pub is_used_bucket : OfSegment t.memory_registry t.memory.slots (segment_of pointer)
      (λ (segment : Segment Pool). IsUsedBucket segment.allocator (pointer_offset (offset_of pointer) 0))
  is_used_bucket =
      let some = at.size in
      subst (λ n. OfSegment t.memory_registry t.memory.slots n
      (λ (segment : Segment Pool). IsUsedBucket segment.allocator (pointer_offset (offset_of pointer) 0)))
      (sym segment_is)
      (from_shown t.memory_registry t.memory.slots chunk.segment
      (λ (segment : Segment Pool). IsUsedBucket segment.allocator (pointer_offset (offset_of pointer) 0))
      seen.segment seen.there
      (subst (λ n. IsUsedBucket seen.segment.allocator (pointer_offset n 0)) (sym offset_is)
      (pointer_used seen.segment.allocator chunk.bucket (omega (arith, size_is)) marked)))

  -- the size of its segment's buckets
  pub bucket_size_is : (size : ℕ) → OfSegment t.memory_registry t.memory.slots chunk.segment
      (λ (segment : Segment Pool). size ≡ segment.allocator.buckets.size) → size ≡ (layout_at l chunk.segment).size
  bucket_size_is size told =
      of_shown t.memory_registry t.memory.slots chunk.segment
      (λ (segment : Segment Pool). size ≡ segment.allocator.buckets.size) seen.segment told seen.there ∙ size_is

  -- what the call says of the chunk's bucket
  pub freed_here : (kept : Bool) (registry : Contents (Segment Pool)) (memory : MemoryState) →
      ((segment : Segment Pool) → segment_value t.memory_registry t.memory.slots (segment_of pointer) ≡ Some segment →
      FreesUnless kept t.view t.memory_registry t.memory (segment_of pointer)
      (offset_of pointer / segment.allocator.buckets.size) registry memory) →
      FreesUnless kept t.view t.memory_registry t.memory chunk.segment chunk.bucket registry memory
  freed_here kept registry memory freed =
      subst (λ n. FreesUnless kept t.view t.memory_registry t.memory n chunk.bucket registry memory) segment_is
      (subst (λ n. FreesUnless kept t.view t.memory_registry t.memory (segment_of pointer) n registry memory) bucket_is
      (freed seen.segment
      (ap (segment_value t.memory_registry t.memory.slots) segment_is ∙ seen.there)))

-- the parts that show a memory of which a bucket was given back
pub gives : (t : TransportState) (kept : Bool) (segment bucket : ℕ) (registry : Contents (Segment Pool))
    (memory : MemoryState) → FreesUnless kept t.view t.memory_registry t.memory segment bucket registry memory →
    (p' : Core) → p'.current ≡ memory.current →
    ((other : ℕ) → p'.active other ≡
    (core_of (record t { memory_registry = registry; memory = memory })).active other) →
    GivesBack (core_of t) p' kept segment bucket
gives t kept segment bucket registry memory freed p' current active = record {
  current = current ∙ freed.current;
  others = λ other apart. active other ∙ freed.others other apart;
  here = active segment ∙ freed.here;
}
