-- A discard, from what the calls on the memory and the table say.
use Rattle.std.proofs.Common.{ℕ, ◌+◌, ◌*◌, ◌/◌, ◌<◌, ◌≡◌, true, false, ◌||◌, nat_lt, List, set, Some, None, refl, sym, ap, ◌∙◌, subst}
use Rattle.cal_alloc.specs.PointerOffset.{offset_of, segment_of, pointer_offset}
use Rattle.cal_storage.specs.Contents.{Contents}
use Rattle.cal_alloc.specs.Pool.{Pool, IsUsedBucket}
use Rattle.cal_shm.specs.Segment.{Segment}
use Rattle.cal_resizable.specs.Chunks.{segment_value}
use Rattle.cal_resizable.specs.Growth.{OfSegment}
use Rattle.cal_resizable.specs.Memory.{MemoryState}
use Rattle.cal_resizable.specs.Slots.{count_at as slots_count}
use Rattle.cal_transport.specs.declared.command.Command.TheVariants as command
use Rattle.cal_transport.specs.declared.reply.Reply.{Reply}
use Rattle.cal_transport.specs.declared.reply.Reply.TheVariants.{Discarded, Refused}
use Rattle.cal_transport.specs.declared.reply.Refusal.TheVariants as refusal
use Rattle.cal_transport.specs.declared.transport.chunk_entry.ChunkEntry.{ChunkEntry}
use Rattle.cal_transport.specs.declared.transport.chunk_entry.Found.{Found}
use Rattle.cal_transport.specs.Ledger.{Ledger, loaned_chunk, is_live}
use Rattle.cal_transport.specs.ChunkEntry.{HasNoEntry, IsFound}
use Rattle.cal_transport.specs.Pointed.{HasPlace}
use Rattle.cal_transport.specs.Weights.{transits}
use Rattle.cal_transport.specs.Sharing.{FreesUnless}
use Rattle.cal_transport.specs.Shown.{pointer_to}
use Rattle.cal_transport.specs.State.{TransportState, core_of, IsLinked, Represents, DoesAnywhere}
use Rattle.cal_transport.proofs.Settled.{settled}
use Rattle.cal_transport.proofs.Represented.{IsPlaceless, stands}
use Rattle.cal_transport.proofs.Changed.{live_is}
use Rattle.cal_transport.proofs.Finding.{IsChunk, found_chunk, found_none, loaned_is, unloaned_is, unnamed_is}
use Rattle.cal_transport.proofs.FreeCode.{is_out, is_used_bucket, freed_here, gives}
use Rattle.cal_transport.proofs.Placed.{PlaceOf, place_of}
use Rattle.cal_transport.proofs.Stands.{Steps}
use Rattle.cal_transport.proofs.DiscardStep.{DiscardsAt, first_channel, discards, discard_refused}

module _ (t : TransportState) (linked : IsLinked t) (name : ℕ) where
  placeless : (l : Ledger) (reply : Reply) → IsPlaceless l (command.Discard name) reply
  placeless l reply None a b = refl
  placeless l reply (Some why) a b = refl

  -- ---- what isn't loaned

  pub discard_unknown_does : HasNoEntry t.entries name →
      DoesAnywhere t (command.Discard name) (Refused refusal.NotLoaned) t
  discard_unknown_does none place l r =
      stands t l (command.Discard name) (Refused refusal.NotLoaned) r.place place r.sound
      (placeless l (Refused refusal.NotLoaned))
      (λ any. discard_refused (core_of t) l any name r.shows r.tracks
      (unnamed_is l name (found_none (core_of t) l name r.shows none)))

  module _ (found : Found) (is : IsFound t.entries name found) where
    abbrev of : (l : Ledger) (r : Represents t l) → IsChunk l name found.index found.entry
    of l r = found_chunk (core_of t) l name found (settled l r.place r.sound) r.shows is

    pub discard_unloaned_does : found.entry.loaned ≡ false →
        DoesAnywhere t (command.Discard name) (Refused refusal.NotLoaned) t
    discard_unloaned_does ended place l r =
        stands t l (command.Discard name) (Refused refusal.NotLoaned) r.place place r.sound
        (placeless l (Refused refusal.NotLoaned))
        (λ any. discard_refused (core_of t) l any name r.shows r.tracks
        (unloaned_is l name found.index found.entry (of l r) ended))

    -- ---- a loaned chunk

    module _ (loaned : found.entry.loaned ≡ true) where
      chunk_loaned : (l : Ledger) (r : Represents t l) → (of l r).chunk.loaned ≡ true
      chunk_loaned l r = ap (λ (e : ChunkEntry). e.loaned) (sym (of l r).entry_is) ∙ loaned

      alive : (l : Ledger) (r : Represents t l) → is_live l (of l r).chunk ≡ true
      alive l r = live_is l (of l r).chunk
          ∙ ap (λ b. b || nat_lt 0 (transits l.histories (of l r).chunk.name)) (chunk_loaned l r)

      -- its place in the memory, and the pointer there
      pub place : (l : Ledger) (r : Represents t l) → PlaceOf t l (of l r).chunk found.entry
      place l r = subst (PlaceOf t l (of l r).chunk) (sym (of l r).entry_is)
          (place_of t l (settled l r.place r.sound) r.shows found.index (of l r).chunk (of l r).stands (alive l r))

      module _ (pointer : ℕ) (pointer_is : (p : HasPlace t.memory_registry t.memory found.entry.segment
          found.entry.bucket) →
          pointer ≡ pointer_offset (found.entry.bucket * p.segment.allocator.buckets.size) found.entry.segment) where
        leads_there : (l : Ledger) (r : Represents t l) → pointer ≡ pointer_to l (of l r).chunk
        leads_there l r = pointer_is (place l r).place ∙ (place l r).pointer_is

        pub discard_out : (l : Ledger) (r : Represents t l) → 0 < slots_count t.memory.slots (segment_of pointer)
        discard_out l r = is_out t l (settled l r.place r.sound) r.shows found.index (of l r).chunk (of l r).stands
            (alive l r) pointer (leads_there l r)

        pub discard_used : (l : Ledger) (r : Represents t l) →
            OfSegment t.memory_registry t.memory.slots (segment_of pointer)
            (λ (segment : Segment Pool). IsUsedBucket segment.allocator (pointer_offset (offset_of pointer) 0))
        discard_used l r = is_used_bucket t l (settled l r.place r.sound) r.shows found.index (of l r).chunk
            (of l r).stands (alive l r) pointer (leads_there l r)

        -- ---- the transport after it

        module _ (registry : Contents (Segment Pool)) (memory : MemoryState)
            (freed : (segment : Segment Pool) →
            segment_value t.memory_registry t.memory.slots (segment_of pointer) ≡ Some segment →
            FreesUnless (nat_lt 0 found.entry.transits) t.view t.memory_registry t.memory (segment_of pointer)
            (offset_of pointer / segment.allocator.buckets.size) registry memory)
            (entries : List ChunkEntry)
            (entries_are : entries ≡ set t.entries found.index (record found.entry { loaned = false }))
            (spare : ℕ) where
          abbrev pub discarded : TransportState
          discarded = record t {
            memory_registry = registry;
            memory = memory;
            entries = entries;
            spare = spare;
          }

          freed_is : (l : Ledger) (r : Represents t l) → FreesUnless (nat_lt 0 found.entry.transits) t.view
              t.memory_registry t.memory (of l r).chunk.segment (of l r).chunk.bucket registry memory
          freed_is l r = freed_here t l (settled l r.place r.sound) r.shows found.index (of l r).chunk (of l r).stands
              (alive l r) pointer (leads_there l r) (nat_lt 0 found.entry.transits) registry memory freed

          pub discarded_linked : (l : Ledger) (r : Represents t l) → IsLinked discarded
          discarded_linked l r =
              let f = freed_is l r in
              record {
                together = f.together;
                strategy = f.strategy ∙ linked.strategy;
                ports = linked.ports;
                counts = linked.counts;
                lent = linked.lent;
                transits = linked.transits;
                owners = linked.owners ∙ ap (λ n. n + 1) (sym f.current);
                tables = linked.tables;
                marks = linked.marks;
                pairs = linked.pairs;
              }

          moves : (l : Ledger) (r : Represents t l) →
              DiscardsAt l found.index (of l r).chunk (core_of t) (core_of discarded)
          moves l r =
              let entry_is = (of l r).entry_is in
              let f = subst (λ (e : ChunkEntry). FreesUnless (nat_lt 0 e.transits) t.view t.memory_registry t.memory
              (of l r).chunk.segment (of l r).chunk.bucket registry memory) entry_is (freed_is l r) in
              record {
                settings = refl;
                memory = gives t (nat_lt 0 (transits l.histories (of l r).chunk.name)) (of l r).chunk.segment
                    (of l r).chunk.bucket registry memory f (core_of discarded) refl (λ other. refl);
                entries = entries_are
                    ∙ ap (λ (e : ChunkEntry). set t.entries found.index (record e { loaned = false })) entry_is;
                opened_last = refl;
                mapped = λ segment. refl;
                channels = λ k. record { channel = refl; borrowed = refl };
                tracks = λ k. record { lent = refl; transits = refl };
                owners = λ segment. refl;
                in_transit = refl;
              }

          pub discarded_does : DoesAnywhere t (command.Discard name) Discarded discarded
          discarded_does place l r =
              let s = settled l r.place r.sound in
              let first = first_channel l s in
              let c = of l r in
              stands discarded l (command.Discard name) Discarded r.place place r.sound (placeless l Discarded)
              (λ any. subst (λ n. Steps (core_of discarded) l any (command.Discard n) Discarded) c.same_name
              (discards (core_of t) (core_of discarded) l s first.history first.here found.index c.chunk c.stands
              (chunk_loaned l r) (moves l r) r.shows r.tracks any
              (subst (λ n. loaned_chunk l n ≡ Some c.chunk) (sym c.same_name)
              (loaned_is l name found.index found.entry c loaned))))
