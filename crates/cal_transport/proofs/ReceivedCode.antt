-- A receive of a chunk, from what the calls on the ports, the memory and the view say.
use Rattle.std.proofs.Common.{ℕ, ◌+◌, ◌-◌, ◌*◌, ◌^◌, ◌<◌, ◌≡◌, true, false, cond, nat_le, List, [], length, set, get_or, Option, Some, None, IsSome, Ok, option_map, refl, sym, ap, ◌∙◌, subst, arith}
use Rattle.std.specs.List.{slice_get}
use Rattle.std.proofs.lemmas.Bool.{leb-false}
use Rattle.std.proofs.lemmas.List.{get_or-set_same, get_or-set_other, length-set}
use Rattle.cal_alloc.specs.Pool.{Pool}
use Rattle.cal_alloc.specs.PointerOffset.{offset_of, segment_of}
use Rattle.cal_queue.specs.Queue.{after_pop, oldest}
use Rattle.cal_queue.specs.UsedChunks.{UsedChunks, none_used, capacity_of, after_insertion}
use Rattle.cal_storage.specs.Contents.{Contents}
use Rattle.cal_shm.specs.Segment.{Segment}
use Rattle.cal_connection.specs.Channel.{ChannelEntry}
use Rattle.cal_connection.specs.Port.{PortEntry, ReceiverEnd, channel_of, with_channel_of, settings_at, count_at, with_count}
use Rattle.cal_resizable.specs.Slots.{HeldSegment, segment_at, count_at as slots_count}
use Rattle.cal_resizable.specs.View.{View}
use Rattle.cal_transport.specs.declared.command.Command.TheVariants as command
use Rattle.cal_transport.specs.declared.settings.Settings.{Settings}
use Rattle.cal_transport.specs.declared.reply.Reply.TheVariants.{Received}
use Rattle.cal_transport.specs.declared.transport.chunk_entry.ChunkEntry.{ChunkEntry}
use Rattle.cal_transport.specs.Ledger.{Ledger, is_live, is_borrowed, queued_names}
use Rattle.cal_transport.specs.Pointed.{PointsTo}
use Rattle.cal_transport.specs.Shown.{ShowsMapped, entry_of}
use Rattle.cal_transport.specs.Viewing.{opened_after_arrival, mapped_after_arrival}
use Rattle.cal_transport.specs.Sharing.{Arrives}
use Rattle.cal_transport.specs.State.{TransportState, core_of, active_of, mapped_at, LinksPorts, IsLinked, Represents, DoesAnywhere}
use Rattle.cal_transport.proofs.Settled.{IsSettled, settled}
use Rattle.cal_transport.proofs.PortCalls.{channel_is, borrow_limit, channel_here, channel_else, links_after, count_here, count_else, counts_long}
use Rattle.cal_transport.proofs.Represented.{IsPlaceless, stands, room_to_borrow}
use Rattle.cal_transport.proofs.Names.{is_borrowed_queued}
use Rattle.cal_transport.proofs.Changed.{transit_lives}
use Rattle.cal_transport.proofs.Marks.{mark_below}
use Rattle.cal_transport.proofs.Segments.{shown_held}
use Rattle.cal_transport.proofs.Stands.{has_history, Steps}
use Rattle.cal_transport.proofs.Fronts.{IsFront, is_pointer, alive_active}
use Rattle.cal_transport.proofs.ReceiveStep.{Receives, receives_some, queue_front}
use Rattle.cal_transport.proofs.Seen.{LeadsTo, leads_to}
use Rattle.cal_transport.proofs.ReceiveCode.{ReceiveCall, answer_below, registry_by}

module _ (t : TransportState) (linked : IsLinked t) (k : ℕ) (inside : k < t.settings.channels) (pointer : ℕ)
    (registry : Contents PortEntry) (receiver : ReceiverEnd) (call : ReceiveCall t k (Ok (Some pointer)) registry
    receiver)
  where
    abbrev ch : ChannelEntry
    ch = channel_of t.connection_registry t.sender.handle k

    below : (nat_le (settings_at t.connection_registry t.receiver.handle).max_borrowed_samples (count_at t.receiver k)
        ≡ false) × (Some pointer ≡ oldest (channel_of t.connection_registry t.receiver.handle k).submission)
    below = answer_below (settings_at t.connection_registry t.receiver.handle).max_borrowed_samples
        (count_at t.receiver k) (channel_of t.connection_registry t.receiver.handle k) (Some pointer) call.answer_is

    pub room : count_at t.receiver k < t.settings.borrow
    room = subst (λ n. count_at t.receiver k < n)
        (borrow_limit t.connection_registry t.sender.handle t.receiver.handle t.settings linked.ports)
        (leb-false (settings_at t.connection_registry t.receiver.handle).max_borrowed_samples (count_at t.receiver k)
        below.0)

    pub first : slice_get ch.submission.values 0 ≡ Some pointer
    first = sym (below.1 ∙ ap (λ (e : ChannelEntry). oldest e.submission)
        (channel_is t.connection_registry t.sender.handle t.receiver.handle t.settings linked.ports k))

    abbrev popped : ChannelEntry
    popped = record ch { submission = after_pop ch.submission }

    registry_is : registry ≡ with_channel_of t.connection_registry t.sender.handle k popped
    registry_is =
        registry_by t linked k inside (settings_at t.connection_registry t.receiver.handle).max_borrowed_samples
        registry
        call.registry_is
        ∙ ap (λ b. with_channel_of t.connection_registry t.sender.handle k (cond b ch popped)) below.0

    receiver_is : receiver ≡ with_count t.receiver k (count_at t.receiver k + 1)
    receiver_is = call.receiver_is

    module _ (l : Ledger) (r : Represents t l) where
      settled_l : IsSettled l
      settled_l = settled l r.place r.sound

      pub inside_l : k < l.settings.channels
      inside_l = subst (λ (s : Settings). k < s.channels) r.shows.settings inside

      abbrev pub at_front : IsFront l (has_history l (settled l r.place r.sound) k inside_l).history
          (queued_names (has_history l (settled l r.place r.sound) k inside_l).history) pointer
      at_front = queue_front (core_of t) l (settled l r.place r.sound) k
          (has_history l (settled l r.place r.sound) k inside_l) pointer r.shows first

      alive : is_live l at_front.chunk ≡ true
      alive = transit_lives l k (has_history l (settled l r.place r.sound) k inside_l).history at_front.chunk
          (has_history l (settled l r.place r.sound) k inside_l).here at_front.transit

      pub front_leads : LeadsTo t l at_front.index at_front.chunk pointer
      front_leads = leads_to t l settled_l r.shows r.tracks at_front.index at_front.chunk pointer at_front.stands alive
          (alive_active l settled_l at_front.index at_front.chunk at_front.stands alive) at_front.pointer_is

      -- the chunk's segment is active, and the view has room for one more offset of it
      pub front_active : IsSome (segment_at t.memory.slots (segment_of pointer))
      front_active = shown_held t.memory_registry t.memory.slots (segment_of pointer) front_leads.points.segment
          front_leads.points.there

      unborrowed : is_borrowed (has_history l (settled l r.place r.sound) k inside_l).history at_front.chunk.name ≡
          false
      unborrowed = is_borrowed_queued (has_history l (settled l r.place r.sound) k inside_l).history at_front.chunk.name
          at_front.rest
          (settled_l.orderly k (has_history l (settled l r.place r.sound) k inside_l).history
          (has_history l (settled l r.place r.sound) k inside_l).here)
          at_front.names_are

      pub front_room : t.in_transit < 2 ^ 64 → (held : HeldSegment) →
          segment_at t.view.slots (segment_of pointer) ≡ Some held → held.count < 2 ^ 64 - 1
      front_room small held there =
          let shown = subst (ShowsMapped l (segment_of pointer)) (ap (λ (o : Option HeldSegment).
          option_map (λ (h : HeldSegment). h.count) o) there) (r.shows.mapped (segment_of pointer)) in
          let more = room_to_borrow l (segment_of pointer) k at_front.index
          (has_history l (settled l r.place r.sound) k inside_l).history at_front.chunk
          (has_history l (settled l r.place r.sound) k inside_l).here at_front.stands at_front.transit unborrowed in
          let counted = shown.1 in let all = r.tracks.in_transit in omega arith

      -- its mark
      pub front_mark : at_front.chunk.segment * t.settings.samples + at_front.chunk.bucket
          < t.settings.segments * t.settings.samples
      front_mark =
          let same = r.shows.settings in
          mark_below t.settings.segments t.settings.samples at_front.chunk.segment at_front.chunk.bucket
          (subst (λ (s : Settings). at_front.chunk.segment < s.segments) (sym same) at_front.within_segments)
          (subst (λ (s : Settings). at_front.chunk.bucket < s.samples) (sym same) at_front.within_samples)

      pub front_capacity : capacity_of (get_or t.lent k (none_used 0)) ≡ t.settings.segments * t.settings.samples
      front_capacity =
          (r.tracks.channels k (has_history l (settled l r.place r.sound) k inside_l).history
          (has_history l (settled l r.place r.sound) k inside_l).here).room
          ∙ ap (λ (s : Settings). s.segments * s.samples) (sym r.shows.settings)

      -- the entry that is found there, and its mark
      pub found_entry : (index : ℕ) (entry : ChunkEntry) → ((p : PointsTo t.memory_registry t.memory t.entries
          (get_or t.owners (segment_of pointer) []) pointer) → (index ≡ p.index) × (entry ≡ p.entry)) →
          entry ≡ entry_of l.histories at_front.chunk
      found_entry index entry found = (found front_leads.points).1 ∙ front_leads.entry

      pub entry_mark : (entry : ChunkEntry) → entry ≡ entry_of l.histories at_front.chunk →
          entry.segment * t.settings.samples + entry.bucket < t.settings.segments * t.settings.samples
      entry_mark entry is = subst (λ (e : ChunkEntry). e.segment * t.settings.samples + e.bucket
          < t.settings.segments * t.settings.samples) (sym is) front_mark

    -- ---- the transport after it

    module _ (memory_registry : Contents (Segment Pool)) (view : View)
        (arrives : Arrives t.memory t.memory_registry t.view (segment_of pointer) memory_registry view)
        (found : ChunkEntry) (lent : List UsedChunks)
        (lent_is : lent ≡ set t.lent k (after_insertion (get_or t.lent k (none_used 0))
        (found.segment * t.settings.samples + found.bucket))) where
      abbrev pub received : TransportState
      received = record t {
        memory_registry = memory_registry;
        view = view;
        connection_registry = registry;
        receiver = receiver;
        lent = lent;
      }

      linked_here : LinksPorts (with_channel_of t.connection_registry t.sender.handle k popped) t.sender.handle
          t.receiver.handle t.settings
      linked_here = links_after t.connection_registry t.sender.handle t.receiver.handle t.settings linked.ports k inside
          popped refl

      pub received_linked : IsLinked received
      received_linked = record {
        together = arrives.together;
        strategy = linked.strategy;
        ports = subst (λ c. LinksPorts c t.sender.handle receiver.handle t.settings) (sym registry_is)
            (subst (λ h. LinksPorts (with_channel_of t.connection_registry t.sender.handle k popped) t.sender.handle h
            t.settings) (ap (λ (e : ReceiverEnd). e.handle) (sym receiver_is)) linked_here);
        counts = ap (λ (e : ReceiverEnd). length e.borrow_counts) receiver_is
            ∙ counts_long t.receiver k (count_at t.receiver k + 1) ∙ linked.counts;
        lent = ap length lent_is ∙ length-set t.lent k _ ∙ linked.lent;
        transits = linked.transits;
        owners = linked.owners;
        tables = linked.tables;
        marks = linked.marks;
        pairs = linked.pairs;
      }

      in_counts : k < length t.receiver.borrow_counts
      in_counts = let many = linked.counts in omega arith

      in_lent : k < length t.lent
      in_lent = let many = linked.lent in omega arith

      -- what the parts are seen as
      receives : (l : Ledger) (r : Represents t l) → found ≡ entry_of l.histories (at_front l r).chunk →
          Receives (core_of t) (core_of received) k (at_front l r).chunk.segment (at_front l r).chunk.bucket
      receives l r is =
          let f = at_front l r in
          let at = is_pointer l (settled l r.place r.sound) f.index f.chunk f.stands in
          let segment_is : segment_of pointer ≡ f.chunk.segment = ap segment_of f.pointer_is ∙ at.segment in
          record {
            settings = refl;
            current = refl;
            active = λ other. ap (λ o. active_of o (slots_count t.memory.slots other)) (arrives.segments other);
            opened_last = subst (λ n. view.current ≡ opened_after_arrival t.view.current (mapped_at t.view.slots) n)
                segment_is arrives.opened;
            mapped = λ other. subst (λ n. mapped_at view.slots other
                ≡ mapped_after_arrival t.view.current (mapped_at t.view.slots) n other) segment_is (arrives.mapped
                other);
            others = λ other apart. record {
              channel = ap (λ c. channel_of c t.sender.handle other) registry_is
                  ∙ channel_else t.connection_registry t.sender.handle t.receiver.handle t.settings linked.ports k
                  inside
                  popped refl other apart;
              borrowed = ap (λ (e : ReceiverEnd). count_at e other) receiver_is
                  ∙ count_else t.receiver k other (count_at t.receiver k + 1) apart;
            };
            channel = ap (λ c. channel_of c t.sender.handle k) registry_is
                ∙ channel_here t.connection_registry t.sender.handle t.receiver.handle t.settings linked.ports k inside
                popped refl;
            borrowed = ap (λ (e : ReceiverEnd). count_at e k) receiver_is
                ∙ count_here t.receiver k (count_at t.receiver k + 1) in_counts;
            entries = refl;
            other_tracks = λ other apart. record {
              lent = ap (λ us. get_or us other (none_used 0)) lent_is
                  ∙ get_or-set_other t.lent k other _ (none_used 0) apart;
              transits = refl;
            };
            lent = ap (λ us. get_or us k (none_used 0)) lent_is
                ∙ get_or-set_same t.lent k _ (none_used 0) in_lent
                ∙ ap (λ (e : ChunkEntry). after_insertion (get_or t.lent k (none_used 0))
                (e.segment * t.settings.samples + e.bucket)) is;
            transits = refl;
            owners = λ other. refl;
            in_transit = refl;
          }

      pub received_does : ((l : Ledger) (r : Represents t l) → found ≡ entry_of l.histories (at_front l r).chunk) →
          DoesAnywhere t (command.Receive k) (Received (Some (record {
            chunk = found.name;
            segment = segment_of pointer;
            place = offset_of pointer;
          }))) received
      received_does is place l r =
          stands received l (command.Receive k) (Received (Some (record {
            chunk = found.name;
            segment = segment_of pointer;
            place = offset_of pointer;
          }))) r.place place r.sound placeless
          (λ any. subst (λ n. Steps (core_of received) l any (command.Receive k) (Received (Some (record {
            chunk = n;
            segment = segment_of pointer;
            place = offset_of pointer;
          })))) (ap (λ (e : ChunkEntry). e.name) (sym (is l r)))
          (receives_some (core_of t) (core_of received) l any k pointer (settled l r.place r.sound) r.shows r.tracks
          (inside_l l r) room first (receives l r (is l r))))
        where
          placeless : IsPlaceless l (command.Receive k) (Received (Some (record {
            chunk = found.name;
            segment = segment_of pointer;
            place = offset_of pointer;
          })))
          placeless None a b = refl
          placeless (Some why) a b = refl
