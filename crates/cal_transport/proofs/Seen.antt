-- What the parts of a transport have of a live chunk: its segment, and the entry to which its pointer leads.
use Rattle.std.proofs.Common.{ℕ, ◌/◌, ◌≡◌, true, [], get_or, Option, Some, None, refl, ap, ◌∙◌, arith}
use Rattle.std.specs.List.{slice_get}
use Rattle.std.proofs.lemmas.Option.{same_Some, none-some}
use Rattle.cal_alloc.specs.Growth.{SegmentLayout}
use Rattle.cal_alloc.specs.Pool.{Pool}
use Rattle.cal_alloc.specs.PointerOffset.{offset_of, segment_of}
use Rattle.cal_storage.specs.Contents.{Contents}
use Rattle.cal_shm.specs.Segment.{Segment}
use Rattle.cal_resizable.specs.Chunks.{segment_value}
use Rattle.cal_resizable.specs.Memory.{MemoryState}
use Rattle.cal_resizable.specs.Slots.{count_at as slots_count}
use Rattle.cal_transport.specs.Ledger.{Ledger, Chunk, layout_at, is_live}
use Rattle.cal_transport.specs.Core.{ActiveSegment}
use Rattle.cal_transport.specs.Pointed.{PointsTo}
use Rattle.cal_transport.specs.Shown.{is_active, Shows, Tracks, pointer_to, entry_of}
use Rattle.cal_transport.specs.State.{TransportState, core_of, active_of, active_at}
use Rattle.cal_transport.proofs.Settled.{IsSettled}
use Rattle.cal_transport.proofs.Fronts.{is_pointer, pointed_bucket, has_segment, entry_at}

-- a segment that is shown has the allocator and the bytes that are shown
pub record IsSeen (contents : Contents (Segment Pool)) (memory : MemoryState) (number : ℕ) (shown : ActiveSegment) :
    Type 0 where
  pub segment : Segment Pool
  pub there : segment_value contents memory.slots number ≡ Some segment
  pub pool : segment.allocator ≡ shown.pool
  pub payload : segment.payload ≡ shown.payload

pub is_seen : (contents : Contents (Segment Pool)) (memory : MemoryState) (number : ℕ) (shown : ActiveSegment) →
    active_at contents memory.slots number ≡ Some shown → IsSeen contents memory number shown
is_seen contents memory number shown is = go (segment_value contents memory.slots number) refl is
  where
    go : (o : Option (Segment Pool)) → segment_value contents memory.slots number ≡ o →
        active_of o (slots_count memory.slots number) ≡ Some shown → IsSeen contents memory number shown
    go None e q = absurd (none-some shown q)
    go (Some segment) e q =
        let same = same_Some (record {
          pool = segment.allocator;
          payload = segment.payload;
          chunks = slots_count memory.slots number;
        }) shown q in
        record {
          segment = segment;
          there = e;
          pool = ap (λ (a : ActiveSegment). a.pool) same;
          payload = ap (λ (a : ActiveSegment). a.payload) same;
        }

-- a pointer to a live chunk leads to its entry
pub record LeadsTo (t : TransportState) (l : Ledger) (i : ℕ) (chunk : Chunk) (pointer : ℕ) : Type 0 where
  pub points : PointsTo t.memory_registry t.memory t.entries (get_or t.owners (segment_of pointer) []) pointer
  pub index : points.index ≡ i
  pub entry : points.entry ≡ entry_of l.histories chunk

pub leads_to : (t : TransportState) (l : Ledger) → IsSettled l → Shows (core_of t) l → Tracks (core_of t) l →
    (i : ℕ) (chunk : Chunk) (pointer : ℕ) → slice_get l.chunks i ≡ Some chunk → is_live l chunk ≡ true →
    is_active l chunk.segment ≡ true → pointer ≡ pointer_to l chunk → LeadsTo t l i chunk pointer
leads_to t l s shows tracks i chunk pointer there alive active is =
    let at = is_pointer l s i chunk there in
    let had = has_segment (core_of t) l chunk.segment shows active in
    let seen = is_seen t.memory_registry t.memory chunk.segment had.shown had.has in
    let segment_is : segment_of pointer ≡ chunk.segment = ap segment_of is ∙ at.segment in
    let size_is : seen.segment.allocator.buckets.size ≡ (layout_at l chunk.segment).size =
    ap (λ (q : Pool). q.buckets.size) seen.pool ∙ ap (λ (b : SegmentLayout). b.size) had.shows.layout in
    let some = at.size in
    record {
      points = record {
        segment = seen.segment;
        index = i;
        entry = entry_of l.histories chunk;
        there = ap (segment_value t.memory_registry t.memory.slots) segment_is ∙ seen.there;
        positive = omega arith;
        owner = ap (λ n. slice_get (get_or t.owners n []) (offset_of pointer / seen.segment.allocator.buckets.size))
            segment_is
            ∙ ap (λ n. slice_get (get_or t.owners chunk.segment []) n)
            (ap (λ v. offset_of v / seen.segment.allocator.buckets.size) is
            ∙ pointed_bucket l chunk (pointer_to l chunk) seen.segment.allocator.buckets.size at size_is)
            ∙ tracks.owners i chunk there alive;
        stands = entry_at (core_of t) l i chunk shows there;
      };
      index = refl;
      entry = refl;
    }
