-- The place of a live chunk in the memory, and the pointer there.
use Rattle.std.proofs.Common.{ℕ, ◌*◌, ◌<◌, ◌≡◌, true, Some, sym, ap, ◌∙◌, subst, arith}
use Rattle.std.specs.List.{slice_get}
use Rattle.std.proofs.lemmas.Nat.{mul-add-lt}
use Rattle.cal_alloc.specs.Growth.{SegmentLayout}
use Rattle.cal_alloc.specs.Limits.{max_memory_size}
use Rattle.cal_alloc.specs.PointerOffset.{pointer_offset}
use Rattle.cal_alloc.specs.Pool.{Pool}
use Rattle.cal_transport.specs.declared.transport.chunk_entry.ChunkEntry.{ChunkEntry}
use Rattle.cal_transport.specs.Ledger.{Ledger, Chunk, layout_at, is_live}
use Rattle.cal_transport.specs.Pointed.{HasPlace}
use Rattle.cal_transport.specs.Shown.{Shows, pointer_to, entry_of}
use Rattle.cal_transport.specs.State.{TransportState, core_of}
use Rattle.cal_transport.proofs.Settled.{IsSettled}
use Rattle.cal_transport.proofs.Fronts.{sizes_of, has_segment, alive_active}
use Rattle.cal_transport.proofs.Seen.{is_seen}

pub record PlaceOf (t : TransportState) (l : Ledger) (chunk : Chunk) (entry : ChunkEntry) : Type 0 where
  pub place : HasPlace t.memory_registry t.memory entry.segment entry.bucket
  pub pointer_is : pointer_offset (entry.bucket * place.segment.allocator.buckets.size) entry.segment
      ≡ pointer_to l chunk

pub place_of : (t : TransportState) (l : Ledger) → IsSettled l → Shows (core_of t) l → (i : ℕ) (chunk : Chunk) →
    slice_get l.chunks i ≡ Some chunk → is_live l chunk ≡ true → PlaceOf t l chunk (entry_of l.histories chunk)
place_of t l s shows i chunk there alive =
    let had = has_segment (core_of t) l chunk.segment shows (alive_active l s i chunk there alive) in
    let seen = is_seen t.memory_registry t.memory chunk.segment had.shown had.has in
    let size_is : seen.segment.allocator.buckets.size ≡ (layout_at l chunk.segment).size =
    ap (λ (q : Pool). q.buckets.size) seen.pool ∙ ap (λ (b : SegmentLayout). b.size) had.shows.layout in
    let sizes = sizes_of l s i chunk there in
    let within = s.within i chunk there in
    let below = mul-add-lt chunk.bucket (layout_at l chunk.segment).size 0 (layout_at l chunk.segment).count
    within.bucket sizes.not_empty in
    let most = sizes.payload in
    record {
      place = record {
        segment = seen.segment;
        there = seen.there;
        small = subst (λ n. chunk.bucket * n < max_memory_size) (sym size_is) (omega arith);
      };
      pointer_is = ap (λ n. pointer_offset (chunk.bucket * n) chunk.segment) size_is;
    }
