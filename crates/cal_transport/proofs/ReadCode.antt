-- A read, from what the look-ups and the view say.
use Rattle.std.proofs.Common.{ℕ, ◌+◌, ◌-◌, ◌*◌, ◌<◌, ◌≤◌, ◌≡◌, Bool, true, false, ◌&&◌, nat_lt, List, length, take, drop, get_or, Some, None, IsSome, refl, sym, ap, ◌∙◌, subst, arith}
use Rattle.std.proofs.lemmas.Bool.{and_parts}
use Rattle.cal_alloc.specs.PointerOffset.{offset_of, segment_of, pointer_offset}
use Rattle.cal_alloc.specs.Pool.{Pool}
use Rattle.cal_queue.specs.UsedChunks.{none_used, contains}
use Rattle.cal_shm.specs.Segment.{Segment}
use Rattle.cal_shm.specs.Calls.{IsInPayload}
use Rattle.cal_resizable.specs.Chunks.{segment_value}
use Rattle.cal_resizable.specs.Growth.{OfSegment}
use Rattle.cal_resizable.specs.Slots.{segment_at}
use Rattle.cal_transport.specs.declared.command.Command.TheVariants as command
use Rattle.cal_transport.specs.declared.settings.Settings.{Settings}
use Rattle.cal_transport.specs.declared.reply.Reply.{Reply}
use Rattle.cal_transport.specs.declared.reply.Reply.TheVariants.{Shown, Refused}
use Rattle.cal_transport.specs.declared.reply.Refusal.TheVariants as refusal
use Rattle.cal_transport.specs.declared.transport.chunk_entry.Found.{Found}
use Rattle.cal_transport.specs.Ledger.{Ledger, is_borrowed}
use Rattle.cal_transport.specs.ChunkEntry.{HasNoEntry, IsFound}
use Rattle.cal_transport.specs.Pointed.{HasPlace}
use Rattle.cal_transport.specs.Shown.{bytes_at, pointer_to}
use Rattle.cal_transport.specs.State.{TransportState, core_of, IsLinked, Represents, DoesAnywhere}
use Rattle.cal_transport.proofs.Settled.{settled}
use Rattle.cal_transport.proofs.Represented.{IsPlaceless, stands}
use Rattle.cal_transport.proofs.Stands.{HasHistory, has_history, Steps}
use Rattle.cal_transport.proofs.Finding.{IsChunk, found_chunk, found_none}
use Rattle.cal_transport.proofs.Lent.{found_tells}
use Rattle.cal_transport.proofs.ReadStep.{read_outside, read_unnamed, read_unborrowed, read_past, reads}
use Rattle.cal_transport.proofs.ReleaseCode.{registered, pointer_by}
use Rattle.cal_transport.proofs.Housed.{HousesChunk, houses, houses_entry, house_held, house_place, house_pointer, house_payload, transit_lives_on, some_counted}

module _ (t : TransportState) (linked : IsLinked t) (k name at len : ℕ) where
  placeless : (l : Ledger) (reply : Reply) → IsPlaceless l (command.Read k name at len) reply
  placeless l reply None a b = refl
  placeless l reply (Some why) a b = refl

  -- a reply that answers wherever the command stands
  does : (reply : Reply) → ((l : Ledger) (r : Represents t l) (any : ℕ) →
      Steps (core_of t) l any (command.Read k name at len) reply) →
      DoesAnywhere t (command.Read k name at len) reply t
  does reply steps place l r = stands t l (command.Read k name at len) reply r.place place r.sound (placeless l reply)
      (λ any. steps l r any)

  pub read_outside_does : t.settings.channels ≤ k →
      DoesAnywhere t (command.Read k name at len) (Refused refusal.OutsideConnection) t
  read_outside_does past = does (Refused refusal.OutsideConnection) (λ l r any.
      read_outside (core_of t) l any k name at len r.shows r.tracks past)

  module _ (inside : k < t.settings.channels) where
    inside_l : (l : Ledger) → Represents t l → k < l.settings.channels
    inside_l l r = subst (λ (s : Settings). k < s.channels) r.shows.settings inside

    abbrev has : (l : Ledger) (r : Represents t l) → HasHistory l k
    has l r = has_history l (settled l r.place r.sound) k (inside_l l r)

    pub read_unknown_does : HasNoEntry t.entries name →
        DoesAnywhere t (command.Read k name at len) (Refused refusal.NotBorrowed) t
    read_unknown_does none = does (Refused refusal.NotBorrowed) (λ l r any.
        read_unnamed (core_of t) l any k name at len r.shows r.tracks (inside_l l r)
        (found_none (core_of t) l name r.shows none))

    module _ (found : Found) (is : IsFound t.entries name found) where
      abbrev is_lent : Bool
      is_lent = nat_lt 0 found.entry.transits
          && contains (get_or t.lent k (none_used 0)) (found.entry.segment * t.settings.samples + found.entry.bucket)

      abbrev of : (l : Ledger) (r : Represents t l) → IsChunk l name found.index found.entry
      of l r = found_chunk (core_of t) l name found (settled l r.place r.sound) r.shows is

      tells : (l : Ledger) (r : Represents t l) → is_lent ≡ is_borrowed (has l r).history (of l r).chunk.name
      tells l r = found_tells (core_of t) l (settled l r.place r.sound) r.shows r.tracks k (has l r).history
          (has l r).here name found.index found.entry (of l r)
          ∙ ap (is_borrowed (has l r).history) (sym (of l r).same_name)

      pub read_unlent_does : is_lent ≡ false →
          DoesAnywhere t (command.Read k name at len) (Refused refusal.NotBorrowed) t
      read_unlent_does unlent = does (Refused refusal.NotBorrowed) (λ l r any.
          read_unborrowed (core_of t) l any k name at len (has l r).history (of l r).chunk r.shows r.tracks
          (inside_l l r) (has l r).on (of l r).named (sym (tells l r) ∙ unlent))

      module _ (lent : is_lent ≡ true) where
        pub read_house : (l : Ledger) (r : Represents t l) →
            HousesChunk t l (of l r).chunk found.entry.segment found.entry.bucket
        read_house l r =
            houses_entry t l (of l r).chunk found.entry (of l r).entry_is
            (houses t l (settled l r.place r.sound) r.shows found.index (of l r).chunk (of l r).stands
            (transit_lives_on l (of l r).chunk found.entry (of l r).entry_is
            (and_parts (nat_lt 0 found.entry.transits) (contains (get_or t.lent k (none_used 0))
            (found.entry.segment * t.settings.samples + found.entry.bucket)) lent).0))

        pub read_held : (l : Ledger) (r : Represents t l) → IsSome (segment_at t.memory.slots found.entry.segment)
        read_held l r = house_held t l (of l r).chunk found.entry.segment found.entry.bucket (read_house l r)

        pub read_place : (l : Ledger) (r : Represents t l) →
            HasPlace t.memory_registry t.memory found.entry.segment found.entry.bucket
        read_place l r = house_place t l (of l r).chunk found.entry.segment found.entry.bucket (read_house l r)

        -- a pointer to it
        module _ (pointer : ℕ) (pointer_is : (p : HasPlace t.memory_registry t.memory found.entry.segment
            found.entry.bucket) →
            pointer ≡ pointer_offset (found.entry.bucket * p.segment.allocator.buckets.size) found.entry.segment) where
          pub leads : (l : Ledger) (r : Represents t l) → pointer ≡ pointer_to l (of l r).chunk
          leads l r = pointer_by t linked k inside name found is lent pointer pointer_is l r

          tells_place : (l : Ledger) (r : Represents t l) → (segment_of pointer ≡ found.entry.segment)
              × (offset_of pointer ≡ found.entry.bucket * (read_house l r).segment.allocator.buckets.size)
          tells_place l r = house_pointer t l (settled l r.place r.sound) found.index (of l r).chunk (of l r).stands
              found.entry (of l r).entry_is (read_house l r) pointer (leads l r)

          -- its segment is mapped
          pub read_mapped : (l : Ledger) (r : Represents t l) → IsSome (segment_at t.view.slots (segment_of pointer))
          read_mapped l r =
              some_counted (segment_at t.view.slots (segment_of pointer)) (λ held. 0 < held.count)
              (registered t linked k inside name found is lent pointer l r (leads l r))

          module _ (size : ℕ) (size_is : (s : Segment Pool) →
              segment_value t.memory_registry t.memory.slots found.entry.segment ≡ Some s →
              size ≡ s.allocator.buckets.size) where
            house_size : (l : Ledger) (r : Represents t l) → size ≡ (read_house l r).segment.allocator.buckets.size
            house_size l r = size_is (read_house l r).segment (read_house l r).there

            pub read_payload : (l : Ledger) (r : Represents t l) →
                OfSegment t.memory_registry t.memory.slots (segment_of pointer)
                (λ s. IsInPayload s.payload (offset_of pointer) size)
            read_payload l r =
                let same = house_size l r in
                let place = (tells_place l r).1 in
                house_payload t l (of l r).chunk found.entry.segment found.entry.bucket (read_house l r) pointer 0 size
                (tells_place l r).0 (omega arith) (omega arith)

            -- the bytes that the view gives
            module _ (whole : List ℕ) (whole_is : (s : Segment Pool) →
                segment_value t.memory_registry t.memory.slots (segment_of pointer) ≡ Some s →
                whole ≡ bytes_at s.payload (offset_of pointer) size) where
              whole_bytes : (l : Ledger) (r : Represents t l) → whole ≡ (of l r).chunk.bytes
              whole_bytes l r =
                  whole_is (read_house l r).segment
                  (ap (segment_value t.memory_registry t.memory.slots) (tells_place l r).0 ∙ (read_house l r).there)
                  ∙ ap (λ n. bytes_at (read_house l r).segment.payload n size) (tells_place l r).1
                  ∙ ap (bytes_at (read_house l r).segment.payload
                  (found.entry.bucket * (read_house l r).segment.allocator.buckets.size)) (house_size l r)
                  ∙ (read_house l r).bytes

              pub read_long : (l : Ledger) (r : Represents t l) → length whole ≡ size
              read_long l r =
                  ap length (whole_bytes l r)
                  ∙ ((settled l r.place r.sound).within found.index (of l r).chunk (of l r).stands).bytes
                  ∙ sym (house_size l r ∙ (read_house l r).size)

              pub read_does : at + len ≤ size →
                  DoesAnywhere t (command.Read k name at len) (Shown (take (at + len - at) (drop at whole))) t
              read_does within = does (Shown (take (at + len - at) (drop at whole))) (λ l r any.
                  reads (core_of t) l any k name at len (has l r).history (of l r).chunk
                  (take (at + len - at) (drop at whole)) r.shows r.tracks (inside_l l r) (has l r).on (of l r).named
                  (sym (tells l r) ∙ lent) (subst (λ n. at + len ≤ n) (house_size l r ∙ (read_house l r).size) within)
                  (ap (λ n. take n (drop at whole)) (let e : at + len - at ≡ len = omega arith in e)
                  ∙ ap (λ m. take len (drop at m)) (whole_bytes l r)))

        pub read_past_does : (size : ℕ) → ((s : Segment Pool) →
            segment_value t.memory_registry t.memory.slots found.entry.segment ≡ Some s →
            size ≡ s.allocator.buckets.size) → size < at + len →
            DoesAnywhere t (command.Read k name at len) (Refused refusal.OutsideChunk) t
        read_past_does size size_is past = does (Refused refusal.OutsideChunk) (λ l r any.
            read_past (core_of t) l any k name at len (has l r).history (of l r).chunk r.shows r.tracks
            (inside_l l r) (has l r).on (of l r).named (sym (tells l r) ∙ lent)
            (subst (λ n. n < at + len)
            (size_is (read_house l r).segment (read_house l r).there ∙ (read_house l r).size) past))
