-- What a send finds of a chunk before it calls the port: why it is refused, and where else it lies.
use Rattle.std.proofs.Common.{ℕ, ◌*◌, ◌/◌, ◌%◌, ◌<◌, ◌≤◌, ◌≡◌, Bool, true, false, ◌&&◌, ◌||◌, nat_le, nat_lt, Some, None, refl, sym, ap, ◌∙◌, subst, arith}
use Rattle.std.proofs.Math.Nat.{mul-div_cancel, mul-mod_left}
use Rattle.std.proofs.lemmas.Bool.{or_left, or_right}
use Rattle.std.proofs.lemmas.Bool.Decides.{nat_tests}
use Rattle.cal_alloc.specs.Pool.{Pool}
use Rattle.cal_alloc.specs.PointerOffset.{offset_of, segment_of, pointer_offset}
use Rattle.cal_shm.specs.Segment.{Segment}
use Rattle.cal_connection.specs.declared.settings.ConnectionSettings.{ConnectionSettings}
use Rattle.cal_connection.specs.Channel.{is_used}
use Rattle.cal_connection.specs.Port.{port_at, channel_of, is_in_use, IsWithin}
use Rattle.cal_resizable.specs.Growth.{OfSegment}
use Rattle.cal_transport.specs.declared.command.Command.TheVariants as command
use Rattle.cal_transport.specs.declared.settings.Settings.{Settings}
use Rattle.cal_transport.specs.declared.reply.Reply.{Reply}
use Rattle.cal_transport.specs.declared.reply.Reply.TheVariants.{Refused}
use Rattle.cal_transport.specs.declared.reply.Refusal.TheVariants as refusal
use Rattle.cal_transport.specs.declared.transport.chunk_entry.ChunkEntry.{ChunkEntry}
use Rattle.cal_transport.specs.declared.transport.chunk_entry.Found.{Found}
use Rattle.cal_transport.specs.Ledger.{Ledger, loaned_chunk, layout_at, is_live, is_in_transit}
use Rattle.cal_transport.specs.Cause.{is_channel_outside, is_bucket_outside}
use Rattle.cal_transport.specs.ChunkEntry.{HasNoEntry, IsFound}
use Rattle.cal_transport.specs.Pointed.{HasPlace}
use Rattle.cal_transport.specs.Weights.{transits}
use Rattle.cal_transport.specs.Shown.{pointer_to}
use Rattle.cal_transport.specs.State.{TransportState, core_of, IsLinked, Represents, DoesAnywhere}
use Rattle.cal_transport.proofs.Settled.{settled}
use Rattle.cal_transport.proofs.Represented.{IsPlaceless, stands}
use Rattle.cal_transport.proofs.Changing.{le_true}
use Rattle.cal_transport.proofs.Changed.{live_is}
use Rattle.cal_transport.proofs.Finding.{IsChunk, found_chunk, found_none, loaned_is, unloaned_is, unnamed_is}
use Rattle.cal_transport.proofs.FreeCode.{bucket_size_is}
use Rattle.cal_transport.proofs.Fronts.{IsPointer, is_pointer}
use Rattle.cal_transport.proofs.Marks.{own_transit}
use Rattle.cal_transport.proofs.PortCalls.{sender_channels}
use Rattle.cal_transport.proofs.Placed.{PlaceOf, place_of}
use Rattle.cal_transport.proofs.Stands.{HasHistory, has_history, Steps}
use Rattle.cal_transport.proofs.SendStep.{MaySend}
use Rattle.cal_transport.proofs.SendAnswers.{IsInside, send_unloaned, send_outside, send_again}

-- a bucket that the connection can't name lies past one of its limits
not_within : (a n b m : ℕ) → (nat_lt a n && nat_lt b m) ≡ false → (nat_le n a || nat_le m b) ≡ true
not_within a n b m none = go (nat_lt a n) refl
  where
    past : (x y : ℕ) → nat_lt x y ≡ false → nat_le y x ≡ true
    past x y e = grind (arith, nat_tests)

    go : (p : Bool) → nat_lt a n ≡ p → (nat_le n a || nat_le m b) ≡ true
    go false e = or_left (nat_le n a) (nat_le m b) (past a n e)
    go true e = or_right (nat_le n a) (nat_le m b) (past b m (sym (ap (λ p. p && nat_lt b m) e) ∙ none))

module _ (t : TransportState) (k name : ℕ) where
  placeless : (l : Ledger) (reply : Reply) → IsPlaceless l (command.Send k name) reply
  placeless l reply None a b = refl
  placeless l reply (Some why) a b = refl

  -- ---- what isn't loaned

  pub send_unknown_does : HasNoEntry t.entries name →
      DoesAnywhere t (command.Send k name) (Refused refusal.NotLoaned) t
  send_unknown_does none place l r =
      stands t l (command.Send k name) (Refused refusal.NotLoaned) r.place place r.sound
      (placeless l (Refused refusal.NotLoaned))
      (λ any. send_unloaned (core_of t) l any k name r.shows r.tracks
      (unnamed_is l name (found_none (core_of t) l name r.shows none)))

  module _ (found : Found) (is : IsFound t.entries name found) where
    abbrev pub of : (l : Ledger) (r : Represents t l) → IsChunk l name found.index found.entry
    of l r = found_chunk (core_of t) l name found (settled l r.place r.sound) r.shows is

    pub send_unloaned_does : found.entry.loaned ≡ false →
        DoesAnywhere t (command.Send k name) (Refused refusal.NotLoaned) t
    send_unloaned_does ended place l r =
        stands t l (command.Send k name) (Refused refusal.NotLoaned) r.place place r.sound
        (placeless l (Refused refusal.NotLoaned))
        (λ any. send_unloaned (core_of t) l any k name r.shows r.tracks
        (unloaned_is l name found.index found.entry (of l r) ended))

    -- ---- a loaned chunk

    module _ (loaned : found.entry.loaned ≡ true) where
      pub chunk_loaned : (l : Ledger) (r : Represents t l) → (of l r).chunk.loaned ≡ true
      chunk_loaned l r = ap (λ (e : ChunkEntry). e.loaned) (sym (of l r).entry_is) ∙ loaned

      pub is_loaned : (l : Ledger) (r : Represents t l) →
          loaned_chunk l (of l r).chunk.name ≡ Some (of l r).chunk
      is_loaned l r = subst (λ n. loaned_chunk l n ≡ Some (of l r).chunk) (sym (of l r).same_name)
          (loaned_is l name found.index found.entry (of l r) loaned)

      pub chunk_lives : (l : Ledger) (r : Represents t l) → is_live l (of l r).chunk ≡ true
      chunk_lives l r = live_is l (of l r).chunk
          ∙ ap (λ b. b || nat_lt 0 (transits l.histories (of l r).chunk.name)) (chunk_loaned l r)

      outside : ((l : Ledger) (r : Represents t l) →
          (is_channel_outside l k || is_bucket_outside l (of l r).chunk) ≡ true) →
          DoesAnywhere t (command.Send k name) (Refused refusal.OutsideConnection) t
      outside past place l r =
          stands t l (command.Send k name) (Refused refusal.OutsideConnection) r.place place r.sound
          (placeless l (Refused refusal.OutsideConnection))
          (λ any. subst (λ n. Steps (core_of t) l any (command.Send k n) (Refused refusal.OutsideConnection))
          (of l r).same_name
          (send_outside (core_of t) l any k (of l r).chunk r.shows r.tracks (is_loaned l r) (past l r)))

      pub send_no_channel_does : t.settings.channels ≤ k →
          DoesAnywhere t (command.Send k name) (Refused refusal.OutsideConnection) t
      send_no_channel_does past = outside (λ l r. or_left (is_channel_outside l k) (is_bucket_outside l (of l r).chunk)
          (le_true l.settings.channels k (subst (λ (s : Settings). s.channels ≤ k) r.shows.settings past)))

      pub send_unnamable_does : (nat_lt found.entry.segment t.settings.segments
          && nat_lt found.entry.bucket t.settings.samples) ≡ false →
          DoesAnywhere t (command.Send k name) (Refused refusal.OutsideConnection) t
      send_unnamable_does past = outside (λ l r.
          or_right (is_channel_outside l k) (is_bucket_outside l (of l r).chunk)
          (not_within (of l r).chunk.segment l.settings.segments (of l r).chunk.bucket l.settings.samples
          (subst (λ (s : Settings). (nat_lt (of l r).chunk.segment s.segments && nat_lt (of l r).chunk.bucket s.samples)
          ≡ false) r.shows.settings
          (subst (λ (e : ChunkEntry). (nat_lt e.segment t.settings.segments && nat_lt e.bucket t.settings.samples)
          ≡ false) (of l r).entry_is past))))

      -- its place in the memory
      pub send_place : (l : Ledger) (r : Represents t l) → PlaceOf t l (of l r).chunk found.entry
      send_place l r = subst (PlaceOf t l (of l r).chunk) (sym (of l r).entry_is)
          (place_of t l (settled l r.place r.sound) r.shows found.index (of l r).chunk (of l r).stands
          (chunk_lives l r))

      -- ---- a channel and a bucket that are there

      module _ (linked : IsLinked t) (inside : k < t.settings.channels)
          (segment : found.entry.segment < t.settings.segments) (bucket : found.entry.bucket < t.settings.samples)
          (pointer size : ℕ)
          (pointer_by : (p : HasPlace t.memory_registry t.memory found.entry.segment found.entry.bucket) →
          pointer ≡ pointer_offset (found.entry.bucket * p.segment.allocator.buckets.size) found.entry.segment)
          (size_by : OfSegment t.memory_registry t.memory.slots found.entry.segment
          (λ (s : Segment Pool). size ≡ s.allocator.buckets.size)) where
        abbrev pub has : (l : Ledger) (r : Represents t l) → HasHistory l k
        has l r = has_history l (settled l r.place r.sound) k
            (subst (λ (s : Settings). k < s.channels) r.shows.settings inside)

        pub send_inside : (l : Ledger) (r : Represents t l) → IsInside l k (of l r).chunk
        send_inside l r = record {
          channel = subst (λ (s : Settings). k < s.channels) r.shows.settings inside;
          segment = subst (λ (s : Settings). (of l r).chunk.segment < s.segments) r.shows.settings
              (subst (λ (e : ChunkEntry). e.segment < t.settings.segments) (of l r).entry_is segment);
          bucket = subst (λ (s : Settings). (of l r).chunk.bucket < s.samples) r.shows.settings
              (subst (λ (e : ChunkEntry). e.bucket < t.settings.samples) (of l r).entry_is bucket);
        }

        -- the pointer and the size are those of the chunk
        pub send_pointer : (l : Ledger) (r : Represents t l) → pointer ≡ pointer_to l (of l r).chunk
        send_pointer l r = pointer_by (send_place l r).place ∙ (send_place l r).pointer_is

        pub send_size : (l : Ledger) (r : Represents t l) → size ≡ (layout_at l (of l r).chunk.segment).size
        send_size l r = bucket_size_is t l (settled l r.place r.sound) r.shows found.index (of l r).chunk
            (of l r).stands (chunk_lives l r) pointer (send_pointer l r) size
            (subst (λ (e : ChunkEntry). OfSegment t.memory_registry t.memory.slots e.segment
            (λ (s : Segment Pool). size ≡ s.allocator.buckets.size)) (of l r).entry_is size_by)

        at : (l : Ledger) (r : Represents t l) → IsPointer l (of l r).chunk (pointer_to l (of l r).chunk)
        at l r = is_pointer l (settled l r.place r.sound) found.index (of l r).chunk (of l r).stands

        pub send_lies : (l : Ledger) (r : Represents t l) → segment_of pointer ≡ (of l r).chunk.segment
        send_lies l r = ap segment_of (send_pointer l r) ∙ (at l r).segment

        offset_is : (l : Ledger) (r : Represents t l) → offset_of pointer ≡ (of l r).chunk.bucket * size
        offset_is l r = ap offset_of (send_pointer l r) ∙ (at l r).offset
            ∙ ap (λ n. (of l r).chunk.bucket * n) (sym (send_size l r))

        positive : (l : Ledger) (r : Represents t l) → 1 ≤ size
        positive l r = subst (λ n. 1 ≤ n) (sym (send_size l r)) (at l r).size

        pub send_bucket : (l : Ledger) (r : Represents t l) → offset_of pointer / size ≡ (of l r).chunk.bucket
        send_bucket l r = ap (λ n. n / size) (offset_is l r) ∙ mul-div_cancel (of l r).chunk.bucket (positive l r)

        -- what the port's calls ask for
        pub send_within : (l : Ledger) (r : Represents t l) →
            IsWithin (port_at t.connection_registry t.sender.handle) k pointer size
        send_within l r =
            let settings = linked.ports.settings_are in
            let named = send_inside l r in
            let same = r.shows.settings in
            record {
              there = sender_channels t.connection_registry t.sender.handle t.receiver.handle t.settings linked.ports k
                  inside;
              size = (let p = positive l r in omega arith);
              divides = ap (λ n. n % size) (offset_is l r) ∙ mul-mod_left (of l r).chunk.bucket size;
              segment = subst (λ n. segment_of pointer < n)
                  (sym (ap (λ (s : ConnectionSettings). s.number_of_segments) settings))
                  (subst (λ n. n < t.settings.segments) (sym (send_lies l r))
                  (subst (λ (s : Settings). (of l r).chunk.segment < s.segments) (sym same) named.segment));
              index = subst (λ n. offset_of pointer / size < n)
                  (sym (ap (λ (s : ConnectionSettings). s.number_of_samples) settings))
                  (subst (λ n. n < t.settings.samples) (sym (send_bucket l r))
                  (subst (λ (s : Settings). (of l r).chunk.bucket < s.samples) (sym same) named.bucket));
            }

        -- its mark tells whether it is in transit on the channel
        pub mark_tells : (l : Ledger) (r : Represents t l) →
            is_in_use (port_at t.connection_registry t.sender.handle) k pointer size
            ≡ is_in_transit (has l r).history (of l r).chunk.name
        mark_tells l r =
            let segments = (channel_of t.connection_registry t.sender.handle k).segments in
            ap (λ n. is_used segments n (offset_of pointer / size)) (send_lies l r)
            ∙ ap (is_used segments (of l r).chunk.segment) (send_bucket l r)
            ∙ (r.shows.channels k (has l r).history (has l r).here).used (of l r).chunk.segment (of l r).chunk.bucket
            ∙ own_transit l (settled l r.place r.sound) k (has l r).history (has l r).here found.index (of l r).chunk
            (of l r).stands (chunk_lives l r)

        pub send_again_does : is_in_use (port_at t.connection_registry t.sender.handle) k pointer size ≡ true →
            DoesAnywhere t (command.Send k name) (Refused refusal.AlreadyInTransit) t
        send_again_does used place l r =
            stands t l (command.Send k name) (Refused refusal.AlreadyInTransit) r.place place r.sound
            (placeless l (Refused refusal.AlreadyInTransit))
            (λ any. subst (λ n. Steps (core_of t) l any (command.Send k n) (Refused refusal.AlreadyInTransit))
            (of l r).same_name
            (send_again (core_of t) l any k (has l r).history (of l r).chunk r.shows r.tracks (has l r).on
            (is_loaned l r) (send_inside l r) (sym (mark_tells l r) ∙ used)))

        abbrev pub may_send_it : is_in_use (port_at t.connection_registry t.sender.handle) k pointer size ≡ false →
            (l : Ledger) (r : Represents t l) → MaySend l (has l r).history
        may_send_it unused l r = record {
          index = found.index;
          chunk = (of l r).chunk;
          stands = (of l r).stands;
          loaned = chunk_loaned l r;
          away = sym (mark_tells l r) ∙ unused;
          within_segments = (send_inside l r).segment;
          within_samples = (send_inside l r).bucket;
        }
