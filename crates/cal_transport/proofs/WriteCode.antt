-- A write, from what the look-ups and the call on the segment's bytes say.
use Rattle.std.proofs.Common.{ℕ, ◌+◌, ◌*◌, ◌<◌, ◌≤◌, ◌≡◌, ◌≢◌, true, false, List, [], ◌∷◌, length, Option, Some, None, IsSome, refl, sym, ap, ◌∙◌, subst, arith}
use Rattle.std.proofs.lemmas.Option.{same_Some, none-some}
use Rattle.cal_alloc.specs.Limits.{max_memory_size}
use Rattle.cal_alloc.specs.PointerOffset.{offset_of, segment_of}
use Rattle.cal_alloc.specs.Pool.{Pool}
use Rattle.cal_storage.specs.Contents.{Contents}
use Rattle.cal_shm.specs.Calls.{IsInPayload}
use Rattle.cal_shm.specs.Segment.{Segment}
use Rattle.cal_resizable.specs.Chunks.{segment_value}
use Rattle.cal_resizable.specs.Growth.{OfSegment}
use Rattle.cal_resizable.specs.Slots.{segment_at, count_at}
use Rattle.cal_transport.specs.declared.command.Command.TheVariants as command
use Rattle.cal_transport.specs.declared.reply.Reply.{Reply}
use Rattle.cal_transport.specs.declared.reply.Reply.TheVariants.{Written, Refused}
use Rattle.cal_transport.specs.declared.reply.Refusal.TheVariants as refusal
use Rattle.cal_transport.specs.declared.transport.chunk_entry.ChunkEntry.{ChunkEntry}
use Rattle.cal_transport.specs.declared.transport.chunk_entry.Found.{Found}
use Rattle.cal_transport.specs.Ledger.{Ledger, layout_at, loaned_chunk}
use Rattle.cal_transport.specs.Cause.{write_cause}
use Rattle.cal_transport.specs.ChunkEntry.{HasNoEntry, IsFound}
use Rattle.cal_transport.specs.Core.{ActiveSegment}
use Rattle.cal_transport.specs.Putting.{PutsBytes}
use Rattle.cal_transport.specs.State.{TransportState, active_of, core_of, IsLinked, Represents, DoesAnywhere}
use Rattle.cal_transport.specs.Step.{with_bytes}
use Rattle.cal_transport.proofs.Settled.{settled}
use Rattle.cal_transport.proofs.Represented.{IsPlaceless, stands}
use Rattle.cal_transport.proofs.Stands.{HasHistory, has_history, Steps}
use Rattle.cal_transport.proofs.Finding.{IsChunk, found_chunk, found_none, loaned_is, unloaned_is, unnamed_is}
use Rattle.cal_transport.proofs.WriteStep.{WritesAt, write_unloaned, write_after_send, write_outside, may_write, writes, writes_none}
use Rattle.cal_transport.proofs.Housed.{HousesChunk, houses, houses_entry, house_held, house_payload, loaned_lives}

-- ---- the core after bytes were put into a segment

-- a segment that is active has the bytes that were put there
pub put_here : (t : TransportState) (number place : ℕ) (bytes : List ℕ) (new : Contents (Segment Pool)) →
    PutsBytes t.memory t.view t.memory_registry number place bytes new → (shown : ActiveSegment) →
    (core_of t).active number ≡ Some shown → active_of (segment_value new t.memory.slots number)
    (count_at t.memory.slots number) ≡ Some (record shown { payload = with_bytes shown.payload place bytes })
put_here t number place bytes new put shown has =
    go (segment_value t.memory_registry t.memory.slots number) refl has
  where
    go : (o : Option (Segment Pool)) → segment_value t.memory_registry t.memory.slots number ≡ o →
        active_of o (count_at t.memory.slots number) ≡ Some shown →
        active_of (segment_value new t.memory.slots number) (count_at t.memory.slots number)
        ≡ Some (record shown { payload = with_bytes shown.payload place bytes })
    go None e q = absurd (none-some shown q)
    go (Some found) e q =
        let same = same_Some (record {
          pool = found.allocator;
          payload = found.payload;
          chunks = count_at t.memory.slots number;
        }) shown q in
        ap (λ o. active_of o (count_at t.memory.slots number)) (put.here found e)
        ∙ ap (λ (a : ActiveSegment). Some (record a { payload = with_bytes a.payload place bytes })) same

module _ (t : TransportState) (name at : ℕ) (bytes : List ℕ) where
  placeless : (l : Ledger) (reply : Reply) → IsPlaceless l (command.Write name at bytes) reply
  placeless l reply None a b = refl
  placeless l reply (Some why) a b = refl

  does : (new : TransportState) (reply : Reply) → ((l : Ledger) (r : Represents t l) (any : ℕ) →
      Steps (core_of new) l any (command.Write name at bytes) reply) →
      DoesAnywhere t (command.Write name at bytes) reply new
  does new reply steps place l r =
      stands new l (command.Write name at bytes) reply r.place place r.sound (placeless l reply) (λ any. steps l r any)

  pub write_unknown_does : HasNoEntry t.entries name →
      DoesAnywhere t (command.Write name at bytes) (Refused refusal.NotLoaned) t
  write_unknown_does none = does t (Refused refusal.NotLoaned) (λ l r any.
      write_unloaned (core_of t) l any name at bytes r.shows r.tracks
      (unnamed_is l name (found_none (core_of t) l name r.shows none)))

  module _ (found : Found) (is : IsFound t.entries name found) where
    abbrev of : (l : Ledger) (r : Represents t l) → IsChunk l name found.index found.entry
    of l r = found_chunk (core_of t) l name found (settled l r.place r.sound) r.shows is

    pub write_ended_does : found.entry.loaned ≡ false →
        DoesAnywhere t (command.Write name at bytes) (Refused refusal.NotLoaned) t
    write_ended_does ended = does t (Refused refusal.NotLoaned) (λ l r any.
        write_unloaned (core_of t) l any name at bytes r.shows r.tracks
        (unloaned_is l name found.index found.entry (of l r) ended))

    module _ (loaned : found.entry.loaned ≡ true) where
      loaned_here : (l : Ledger) (r : Represents t l) → loaned_chunk l name ≡ Some (of l r).chunk
      loaned_here l r = loaned_is l name found.index found.entry (of l r) loaned

      pub write_sent_does : found.entry.sent ≡ true →
          DoesAnywhere t (command.Write name at bytes) (Refused refusal.WriteAfterSend) t
      write_sent_does sent = does t (Refused refusal.WriteAfterSend) (λ l r any.
          write_after_send (core_of t) l any name at bytes (of l r).chunk r.shows r.tracks (loaned_here l r)
          (ap (λ (e : ChunkEntry). e.sent) (sym (of l r).entry_is) ∙ sent))

      pub write_house : (l : Ledger) (r : Represents t l) →
          HousesChunk t l (of l r).chunk found.entry.segment found.entry.bucket
      write_house l r =
          houses_entry t l (of l r).chunk found.entry (of l r).entry_is
          (houses t l (settled l r.place r.sound) r.shows found.index (of l r).chunk (of l r).stands
          (loaned_lives l (of l r).chunk found.entry (of l r).entry_is loaned))

      pub write_held : (l : Ledger) (r : Represents t l) → IsSome (segment_at t.memory.slots found.entry.segment)
      write_held l r = house_held t l (of l r).chunk found.entry.segment found.entry.bucket (write_house l r)

      module _ (unsent : found.entry.sent ≡ false) (size : ℕ) (size_is : (s : Segment Pool) →
          segment_value t.memory_registry t.memory.slots found.entry.segment ≡ Some s →
          size ≡ s.allocator.buckets.size) where
        house_size : (l : Ledger) (r : Represents t l) → size ≡ (write_house l r).segment.allocator.buckets.size
        house_size l r = size_is (write_house l r).segment (write_house l r).there

        layout_size : (l : Ledger) (r : Represents t l) → size ≡ (layout_at l (of l r).chunk.segment).size
        layout_size l r = house_size l r ∙ (write_house l r).size

        unsent_l : (l : Ledger) (r : Represents t l) → (of l r).chunk.sent ≡ false
        unsent_l l r = ap (λ (e : ChunkEntry). e.sent) (sym (of l r).entry_is) ∙ unsent

        pub write_outside_does : size < at + length bytes →
            DoesAnywhere t (command.Write name at bytes) (Refused refusal.OutsideChunk) t
        write_outside_does past = does t (Refused refusal.OutsideChunk) (λ l r any.
            write_outside (core_of t) l any name at bytes (of l r).chunk r.shows r.tracks (loaned_here l r)
            (unsent_l l r) (subst (λ n. n < at + length bytes) (layout_size l r) past))

        module _ (within : at + length bytes ≤ size) where
          within_l : (l : Ledger) (r : Represents t l) →
              at + length bytes ≤ (layout_at l (of l r).chunk.segment).size
          within_l l r = subst (λ n. at + length bytes ≤ n) (layout_size l r) within

          no_cause : (l : Ledger) (r : Represents t l) →
              write_cause l (loaned_chunk l (of l r).chunk.name) at (length bytes) ≡ None
          no_cause l r = subst (λ n. write_cause l (loaned_chunk l n) at (length bytes) ≡ None)
              (sym (of l r).same_name)
              (may_write l name at bytes (of l r).chunk (loaned_here l r) (unsent_l l r) (within_l l r))

          -- no byte is written
          pub write_none_does : length bytes ≡ 0 → DoesAnywhere t (command.Write name at bytes) Written t
          write_none_does none = does t Written (λ l r any.
              subst (λ n. Steps (core_of t) l any (command.Write n at bytes) Written) (of l r).same_name
              (subst (λ bs. Steps (core_of t) l any (command.Write (of l r).chunk.name at bs) Written)
              (sym (empty bytes none))
              (writes_none (core_of t) l (settled l r.place r.sound) any found.index (of l r).chunk at r.shows r.tracks
              (of l r).stands
              (subst (λ n. write_cause l (loaned_chunk l (of l r).chunk.name) at n ≡ None) none (no_cause l r)))))
            where
              empty : (xs : List ℕ) → length xs ≡ 0 → xs ≡ []
              empty [] e = refl
              empty (x ∷ xs) e = absurd (omega arith)

          -- the place of the bytes
          place_below : (l : Ledger) (r : Represents t l) → 0 < length bytes →
              found.entry.bucket * size + at < max_memory_size
          place_below l r some =
              let same = house_size l r in
              subst (λ n. found.entry.bucket * n + at < max_memory_size) (sym same)
              (let small = (write_house l r).small in omega arith)

          pub write_place : (l : Ledger) (r : Represents t l) → length bytes ≢ 0 →
              found.entry.bucket * size + at < max_memory_size
          write_place l r some = place_below l r (omega (arith, some))

          module _ (pointer : ℕ) (segment_is : segment_of pointer ≡ found.entry.segment)
              (offset_is : offset_of pointer ≡ found.entry.bucket * size + at) where
            pub write_payload : (l : Ledger) (r : Represents t l) →
                OfSegment t.memory_registry t.memory.slots (segment_of pointer)
                (λ s. IsInPayload s.payload (offset_of pointer) (length bytes))
            write_payload l r =
                house_payload t l (of l r).chunk found.entry.segment found.entry.bucket (write_house l r) pointer at
                (length bytes) segment_is
                (offset_is ∙ ap (λ n. found.entry.bucket * n + at) (house_size l r))
                (subst (λ n. at + length bytes ≤ n) (house_size l r) within)

            module _ (new : Contents (Segment Pool)) (put : PutsBytes t.memory t.view t.memory_registry
                (segment_of pointer) (offset_of pointer) bytes new) where
              abbrev pub written_state : TransportState
              written_state = record t { memory_registry = new }

              pub written_linked : IsLinked t → IsLinked written_state
              written_linked linked = record {
                together = put.together;
                strategy = linked.strategy;
                ports = linked.ports;
                counts = linked.counts;
                lent = linked.lent;
                transits = linked.transits;
                owners = linked.owners;
                tables = linked.tables;
                marks = linked.marks;
                pairs = linked.pairs;
              }

              -- what the parts are seen as
              writes_at : (l : Ledger) (r : Represents t l) →
                  WritesAt (core_of t) (core_of written_state) (of l r).chunk.segment
                  ((of l r).chunk.bucket * (layout_at l (of l r).chunk.segment).size + at) bytes
              writes_at l r =
                  let number : segment_of pointer ≡ (of l r).chunk.segment =
                  segment_is ∙ ap (λ (e : ChunkEntry). e.segment) (of l r).entry_is in
                  let place : offset_of pointer
                  ≡ (of l r).chunk.bucket * (layout_at l (of l r).chunk.segment).size + at =
                  offset_is ∙ ap (λ n. found.entry.bucket * n + at) (layout_size l r)
                  ∙ ap (λ (e : ChunkEntry). e.bucket * (layout_at l (of l r).chunk.segment).size + at)
                  (of l r).entry_is in
                  record {
                    settings = refl;
                    current = refl;
                    others = λ other apart. ap (λ o. active_of o (count_at t.memory.slots other))
                        (put.others other (λ e. apart (e ∙ number)));
                    here = λ shown has. put_here t (of l r).chunk.segment
                        ((of l r).chunk.bucket * (layout_at l (of l r).chunk.segment).size + at) bytes new
                        (subst (λ n. PutsBytes t.memory t.view t.memory_registry n
                        ((of l r).chunk.bucket * (layout_at l (of l r).chunk.segment).size + at) bytes new) number
                        (subst (λ n. PutsBytes t.memory t.view t.memory_registry (segment_of pointer) n bytes new) place
                        put)) shown has;
                    entries = refl;
                    opened_last = refl;
                    mapped = λ other. refl;
                    channels = λ k. record { channel = refl; borrowed = refl };
                    tracks = λ k. record { lent = refl; transits = refl };
                    owners = λ other. refl;
                    in_transit = refl;
                  }

              pub written_does : DoesAnywhere t (command.Write name at bytes) Written written_state
              written_does = does written_state Written (λ l r any.
                  subst (λ n. Steps (core_of written_state) l any (command.Write n at bytes) Written)
                  (of l r).same_name
                  (writes (core_of t) (core_of written_state) l (settled l r.place r.sound) (first l r).history
                  (first l r).here found.index (of l r).chunk (of l r).stands
                  (ap (λ (e : ChunkEntry). e.loaned) (sym (of l r).entry_is) ∙ loaned) at bytes (within_l l r)
                  (writes_at l r) r.shows r.tracks any (no_cause l r)))
                where
                  first : (l : Ledger) (r : Represents t l) → HasHistory l 0
                  first l r =
                      let s = settled l r.place r.sound in
                      has_history l s 0 (let some = s.room.channels in omega arith)
