-- What is told of a chunk, from what the look-ups say.
use Rattle.std.proofs.Common.{ℕ, ◌*◌, ◌≤◌, ◌≡◌, true, false, cond, ◌||◌, nat_lt, Some, None, IsSome, sym, ap, ◌∙◌, subst, arith}
use Rattle.cal_alloc.specs.Limits.{max_memory_size}
use Rattle.cal_alloc.specs.Pool.{Pool}
use Rattle.cal_shm.specs.Segment.{Segment}
use Rattle.cal_resizable.specs.Chunks.{segment_value}
use Rattle.cal_resizable.specs.Slots.{segment_at}
use Rattle.cal_transport.specs.declared.transport.chunk_entry.ChunkEntry.{ChunkEntry}
use Rattle.cal_transport.specs.declared.transport.chunk_entry.Found.{Found}
use Rattle.cal_transport.specs.Ledger.{Ledger, is_live}
use Rattle.cal_transport.specs.ChunkEntry.{HasNoEntry, IsFound}
use Rattle.cal_transport.specs.ChunkTold.{record_of, record_where_live}
use Rattle.cal_transport.proofs.InsideDoes.{TellsChunk}
use Rattle.cal_transport.specs.State.{TransportState, core_of, Represents}
use Rattle.cal_transport.proofs.Changed.{live_is}
use Rattle.cal_transport.proofs.Finding.{IsChunk, found_chunk, found_none}
use Rattle.cal_transport.proofs.Housed.{HousesChunk, houses, houses_entry, house_held}
use Rattle.cal_transport.proofs.Settled.{settled}

module _ (t : TransportState) (name : ℕ) where
  pub told_unknown : HasNoEntry t.entries name → TellsChunk t name None
  told_unknown none l r = sym (ap (record_where_live l) (found_none (core_of t) l name r.shows none))

  module _ (found : Found) (is : IsFound t.entries name found) where
    abbrev of : (l : Ledger) (r : Represents t l) → IsChunk l name found.index found.entry
    of l r = found_chunk (core_of t) l name found (settled l r.place r.sound) r.shows is

    -- the entry tells whether the chunk lives
    lives_as : (l : Ledger) (r : Represents t l) →
        is_live l (of l r).chunk ≡ (found.entry.loaned || nat_lt 0 found.entry.transits)
    lives_as l r = live_is l (of l r).chunk
        ∙ ap (λ (e : ChunkEntry). e.loaned || nat_lt 0 e.transits) (sym (of l r).entry_is)

    pub told_dead : (found.entry.loaned || nat_lt 0 found.entry.transits) ≡ false → TellsChunk t name None
    told_dead dead l r = sym (ap (record_where_live l) (of l r).named
        ∙ ap (λ b. cond b (Some (record_of l (of l r).chunk)) None) (lives_as l r ∙ dead))

    module _ (alive : (found.entry.loaned || nat_lt 0 found.entry.transits) ≡ true) where
      told_house : (l : Ledger) (r : Represents t l) →
          HousesChunk t l (of l r).chunk found.entry.segment found.entry.bucket
      told_house l r =
          houses_entry t l (of l r).chunk found.entry (of l r).entry_is
          (houses t l (settled l r.place r.sound) r.shows found.index (of l r).chunk (of l r).stands
          (lives_as l r ∙ alive))

      pub told_held : (l : Ledger) (r : Represents t l) → IsSome (segment_at t.memory.slots found.entry.segment)
      told_held l r = house_held t l (of l r).chunk found.entry.segment found.entry.bucket (told_house l r)

      -- its place is within the limits of memory
      pub told_small : (l : Ledger) (r : Represents t l) (size : ℕ) → ((s : Segment Pool) →
          segment_value t.memory_registry t.memory.slots found.entry.segment ≡ Some s →
          size ≡ s.allocator.buckets.size) → found.entry.bucket * size ≤ max_memory_size
      told_small l r size size_is =
          subst (λ n. found.entry.bucket * n ≤ max_memory_size)
          (sym (size_is (told_house l r).segment (told_house l r).there))
          (let small = (told_house l r).small in omega arith)

      pub told_live : (size : ℕ) → ((s : Segment Pool) →
          segment_value t.memory_registry t.memory.slots found.entry.segment ≡ Some s →
          size ≡ s.allocator.buckets.size) → TellsChunk t name (Some (record {
            segment = found.entry.segment;
            place = found.entry.bucket * size;
            loaned = found.entry.loaned;
            sent = found.entry.sent;
          }))
      told_live size size_is l r =
          ap (λ (e : ChunkEntry). Some (record {
            segment = e.segment;
            place = e.bucket * size;
            loaned = e.loaned;
            sent = e.sent;
          })) (of l r).entry_is
          ∙ ap (λ n. Some (record {
            segment = (of l r).chunk.segment;
            place = (of l r).chunk.bucket * n;
            loaned = (of l r).chunk.loaned;
            sent = (of l r).chunk.sent;
          })) (size_is (told_house l r).segment (told_house l r).there ∙ (told_house l r).size)
          ∙ sym (ap (record_where_live l) (of l r).named
          ∙ ap (λ b. cond b (Some (record_of l (of l r).chunk)) None) (lives_as l r ∙ alive))
