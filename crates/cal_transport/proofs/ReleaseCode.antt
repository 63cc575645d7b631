-- A release, from what the calls on the port and the view say.
use Rattle.std.proofs.Common.{IsSomeAnd, option_map, ℕ, ◌+◌, ◌-◌, ◌*◌, ◌<◌, ◌≤◌, ◌≡◌, ◌≢◌, Bool, true, false, cond, ◌&&◌, nat_eq, nat_lt, List, length, set, get_or, Option, Some, None, Result, Ok, Err, refl, sym, ap, ◌∙◌, subst, arith}
use Rattle.std.proofs.lemmas.Bool.{true≢false, eqb-true, eqb-false, eq-eqb, ltb-true, lt-ltb, and_parts, or_right}
use Rattle.std.proofs.lemmas.List.{get_or-set_same, get_or-set_other, length-set, length-map, set-get_or}
use Rattle.cal_alloc.specs.PointerOffset.{segment_of, pointer_offset}
use Rattle.cal_alloc.specs.Pool.{Pool}
use Rattle.cal_queue.specs.Queue.{after_push, is_full}
use Rattle.cal_queue.specs.UsedChunks.{UsedChunks, none_used, contains, capacity_of, after_removal}
use Rattle.cal_storage.specs.Contents.{Contents}
use Rattle.cal_shm.specs.Segment.{Segment}
use Rattle.cal_connection.specs.declared.errors.ZeroCopyReleaseError.{ZeroCopyReleaseError}
use Rattle.cal_connection.specs.declared.errors.ZeroCopyReleaseError.TheVariants as error
use Rattle.cal_connection.specs.Channel.{ChannelEntry, Shape, release_answer, after_release, count_after_release}
use Rattle.cal_connection.specs.Port.{PortEntry, ReceiverEnd, channel_of, with_channel_of, count_at, with_count}
use Rattle.cal_connection.specs.RegistryLemmas.{with_channel_of-present}
use Rattle.cal_resizable.specs.Slots.{HeldSegment, segment_at, count_at as slots_count}
use Rattle.cal_resizable.specs.View.{View}
use Rattle.cal_transport.specs.declared.command.Command.TheVariants as command
use Rattle.cal_transport.specs.declared.settings.Settings.{Settings}
use Rattle.cal_transport.specs.declared.reply.Reply.{Reply}
use Rattle.cal_transport.specs.declared.reply.Reply.TheVariants.{Released, Refused}
use Rattle.cal_transport.specs.declared.reply.Refusal.TheVariants as refusal
use Rattle.cal_transport.specs.declared.transport.chunk_entry.ChunkEntry.{ChunkEntry}
use Rattle.cal_transport.specs.declared.transport.chunk_entry.Found.{Found}
use Rattle.cal_transport.specs.Settings.{completion_size}
use Rattle.cal_transport.specs.Ledger.{Ledger, is_borrowed, completed_names}
use Rattle.cal_transport.specs.ChunkEntry.{HasNoEntry, IsFound}
use Rattle.cal_transport.specs.Weights.{one_if, borrows, borrowed_in}
use Rattle.cal_transport.specs.Pointed.{HasPlace}
use Rattle.cal_transport.specs.Shown.{ShowsMapped, pointer_to, pointer_named}
use Rattle.cal_transport.specs.Viewing.{is_told, mapped_after_return}
use Rattle.cal_transport.specs.Sharing.{GoesBack}
use Rattle.cal_transport.specs.State.{TransportState, core_of, active_of, mapped_at, LinksPorts, IsLinked, Represents, DoesAnywhere}
use Rattle.cal_transport.proofs.Settled.{settled}
use Rattle.cal_transport.proofs.PortCalls.{channel_is, with_is, channel_here, channel_else, links_after, count_here, count_else, counts_long}
use Rattle.cal_transport.proofs.Represented.{IsPlaceless, stands, state_same}
use Rattle.cal_transport.proofs.Stands.{HasHistory, has_history, Steps}
use Rattle.cal_transport.proofs.Changed.{transit_lives, borrowed_transits}
use Rattle.cal_transport.proofs.Totals.{total_least}
use Rattle.cal_transport.proofs.Names.{fewer_released}
use Rattle.cal_transport.proofs.Mapped.{mapped_told}
use Rattle.cal_transport.proofs.Marks.{mark_below}
pub use Rattle.cal_transport.proofs.Placed.{PlaceOf, place_of}
use Rattle.cal_transport.proofs.Fronts.{is_pointer}
use Rattle.cal_transport.proofs.Finding.{IsChunk, found_chunk, found_none}
use Rattle.cal_transport.proofs.Lent.{IsNamable, namable, unknown_unborrowed, found_tells}
use Rattle.cal_transport.proofs.ReleaseStep.{Releases, IsBorrowed, releases, release_outside, release_unborrowed, release_full, may_release}

-- ---- what the receiver's call says

pub record ReleaseCall (t : TransportState) (k pointer : ℕ) (answer : Result (Unit {0}) ZeroCopyReleaseError)
    (registry : Contents PortEntry) (receiver : ReceiverEnd) : Type 0 where
  pub answer_is : answer ≡ release_answer (channel_of t.connection_registry t.receiver.handle k)
  pub registry_is : registry ≡ with_channel_of t.connection_registry t.receiver.handle k
      (after_release (channel_of t.connection_registry t.receiver.handle k) pointer)
  pub receiver_is : receiver ≡ with_count t.receiver k (count_after_release answer (count_at t.receiver k))

abbrev nothing : Unit {0}
nothing = tt

answer_room : (ch : ChannelEntry) → Ok nothing ≡ release_answer ch → is_full ch.completion ≡ false
answer_room ch is = go (is_full ch.completion) refl is
  where
    go : (b : Bool) → is_full ch.completion ≡ b → Ok nothing ≡ cond b (Err error.RetrieveBufferFull) (Ok nothing) →
        is_full ch.completion ≡ false
    go true e q = absurd (let q2 = q in cc)
    go false e q = e

answer_full : (ch : ChannelEntry) (e : ZeroCopyReleaseError) → Err e ≡ release_answer ch → is_full ch.completion ≡ true
answer_full ch why is = go (is_full ch.completion) refl is
  where
    go : (b : Bool) → is_full ch.completion ≡ b → Err why ≡ cond b (Err error.RetrieveBufferFull) (Ok nothing) →
        is_full ch.completion ≡ true
    go true e q = e
    go false e q = absurd (let q2 = q in cc)

-- ---- a channel that isn't there

pub release_outside_does : (t : TransportState) (k name : ℕ) → t.settings.channels ≤ k →
    DoesAnywhere t (command.Release k name) (Refused refusal.OutsideConnection) t
release_outside_does t k name past place l r =
    stands t l (command.Release k name) (Refused refusal.OutsideConnection) r.place place r.sound placeless
    (λ any. release_outside (core_of t) l any k name r.shows r.tracks past)
  where
    placeless : IsPlaceless l (command.Release k name) (Refused refusal.OutsideConnection)
    placeless None a b = refl
    placeless (Some why) a b = refl

module _ (t : TransportState) (linked : IsLinked t) (k : ℕ) (inside : k < t.settings.channels) (name : ℕ) where
  abbrev ch : ChannelEntry
  ch = channel_of t.connection_registry t.sender.handle k

  ch_is : channel_of t.connection_registry t.receiver.handle k ≡ ch
  ch_is = channel_is t.connection_registry t.sender.handle t.receiver.handle t.settings linked.ports k

  inside_l : (l : Ledger) → Represents t l → k < l.settings.channels
  inside_l l r = subst (λ (s : Settings). k < s.channels) r.shows.settings inside

  abbrev has : (l : Ledger) (r : Represents t l) → HasHistory l k
  has l r = has_history l (settled l r.place r.sound) k (inside_l l r)

  placeless : (l : Ledger) (reply : Reply) → IsPlaceless l (command.Release k name) reply
  placeless l reply None a b = refl
  placeless l reply (Some why) a b = refl

  -- ---- what isn't borrowed

  pub release_unknown_does : HasNoEntry t.entries name →
      DoesAnywhere t (command.Release k name) (Refused refusal.NotBorrowed) t
  release_unknown_does none place l r =
      let s = settled l r.place r.sound in
      stands t l (command.Release k name) (Refused refusal.NotBorrowed) r.place place r.sound
      (placeless l (Refused refusal.NotBorrowed))
      (λ any. release_unborrowed (core_of t) l any k name (has l r).history r.shows r.tracks (inside_l l r) (has l r).on
      (unknown_unborrowed l s k (has l r).history (has l r).here name (found_none (core_of t) l name r.shows none)))

  module _ (found : Found) (is : IsFound t.entries name found) where
    abbrev mark : ℕ
    mark = found.entry.segment * t.settings.samples + found.entry.bucket

    abbrev is_lent : Bool
    is_lent = nat_lt 0 found.entry.transits && contains (get_or t.lent k (none_used 0)) mark

    abbrev of : (l : Ledger) (r : Represents t l) → IsChunk l name found.index found.entry
    of l r = found_chunk (core_of t) l name found (settled l r.place r.sound) r.shows is

    tells : (l : Ledger) (r : Represents t l) → is_lent ≡ is_borrowed (has l r).history name
    tells l r = found_tells (core_of t) l (settled l r.place r.sound) r.shows r.tracks k (has l r).history (has l
        r).here
        name found.index found.entry (of l r)

    pub release_unlent_does : is_lent ≡ false →
        DoesAnywhere t (command.Release k name) (Refused refusal.NotBorrowed) t
    release_unlent_does unlent place l r =
        stands t l (command.Release k name) (Refused refusal.NotBorrowed) r.place place r.sound
        (placeless l (Refused refusal.NotBorrowed))
        (λ any. release_unborrowed (core_of t) l any k name (has l r).history r.shows r.tracks (inside_l l r)
        (has l r).on (sym (tells l r) ∙ unlent))

    -- the marks of the channel, and that of a chunk that is in transit
    pub marks_many : (l : Ledger) (r : Represents t l) →
        capacity_of (get_or t.lent k (none_used 0)) ≡ t.settings.segments * t.settings.samples
    marks_many l r = (r.tracks.channels k (has l r).history (has l r).here).room
        ∙ ap (λ (s : Settings). s.segments * s.samples) (sym r.shows.settings)

    pub transit_mark : (l : Ledger) (r : Represents t l) → 0 < found.entry.transits →
        mark < t.settings.segments * t.settings.samples
    transit_mark l r some =
        let c = of l r in
        let n = namable l (settled l r.place r.sound) found.index c.chunk c.stands
        (ap (λ (e : ChunkEntry). nat_lt 0 e.transits) (sym c.entry_is) ∙ lt-ltb 0 found.entry.transits some) in
        subst (λ (e : ChunkEntry). e.segment * t.settings.samples + e.bucket < t.settings.segments * t.settings.samples)
        (sym c.entry_is)
        (mark_below t.settings.segments t.settings.samples c.chunk.segment c.chunk.bucket
        (subst (λ (s : Settings). c.chunk.segment < s.segments) (sym r.shows.settings) n.segment)
        (subst (λ (s : Settings). c.chunk.bucket < s.samples) (sym r.shows.settings) n.bucket))

    module _ (lent : is_lent ≡ true) where
      borrowed : (l : Ledger) (r : Represents t l) → is_borrowed (has l r).history name ≡ true
      borrowed l r = sym (tells l r) ∙ lent

      counted : nat_lt 0 found.entry.transits ≡ true
      counted = (and_parts (nat_lt 0 found.entry.transits) (contains (get_or t.lent k (none_used 0)) mark) lent).0

      names_it : (l : Ledger) (r : Represents t l) → IsNamable l (of l r).chunk
      names_it l r = namable l (settled l r.place r.sound) found.index (of l r).chunk (of l r).stands
          (ap (λ (e : ChunkEntry). nat_lt 0 e.transits) (sym (of l r).entry_is) ∙ counted)

      abbrev at : (l : Ledger) (r : Represents t l) → IsBorrowed l (has l r).history
      at l r = record {
        index = found.index;
        chunk = (of l r).chunk;
        stands = (of l r).stands;
        borrowed = ap (is_borrowed (has l r).history) (of l r).same_name ∙ borrowed l r;
        within_segments = (names_it l r).segment;
        within_samples = (names_it l r).bucket;
      }

      pub lent_mark : (l : Ledger) (r : Represents t l) → mark < t.settings.segments * t.settings.samples
      lent_mark l r = transit_mark l r (ltb-true 0 found.entry.transits counted)

      -- its place in the memory, and the pointer there
      pub place : (l : Ledger) (r : Represents t l) → PlaceOf t l (of l r).chunk found.entry
      place l r = subst (PlaceOf t l (of l r).chunk) (sym (of l r).entry_is)
          (place_of t l (settled l r.place r.sound) r.shows found.index (of l r).chunk (of l r).stands
          (transit_lives l k (has l r).history (of l r).chunk (has l r).here
          (borrowed_transits (has l r).history (of l r).chunk.name (at l r).borrowed)))

      pub pointer_by : (pointer : ℕ) → ((p : HasPlace t.memory_registry t.memory found.entry.segment
          found.entry.bucket) →
          pointer ≡ pointer_offset (found.entry.bucket * p.segment.allocator.buckets.size) found.entry.segment) →
          (l : Ledger) (r : Represents t l) → pointer ≡ pointer_to l (of l r).chunk
      pointer_by pointer is l r = is (place l r).place ∙ (place l r).pointer_is

      -- it is counted by the receiver, and by the view
      pub counts_it : (l : Ledger) (r : Represents t l) → 0 < count_at t.receiver k
      counts_it l r =
          let fewer = fewer_released (has l r).history name
          ((settled l r.place r.sound).orderly k (has l r).history (has l r).here) (borrowed l r) in
          let counted = (r.shows.channels k (has l r).history (has l r).here).borrowed in omega arith

      some_borrowed : (l : Ledger) (r : Represents t l) → 0 < borrowed_in l (of l r).chunk.segment
      some_borrowed l r =
          let c = (of l r).chunk in
          let own = total_least (λ h. one_if (is_borrowed h c.name)) l.histories k (has l r).history (has l r).here in
          let all = total_least (λ d. cond (nat_eq d.segment c.segment) (borrows l.histories d.name) 0) l.chunks
          found.index c (of l r).stands in
          let same = ap (λ b. cond b (borrows l.histories c.name) 0) (eq-eqb c.segment c.segment refl) in
          let is = ap one_if (at l r).borrowed in omega arith

      pub registered : (pointer : ℕ) (l : Ledger) (r : Represents t l) → pointer ≡ pointer_to l (of l r).chunk →
          IsSomeAnd (segment_at t.view.slots (segment_of pointer)) (λ held. 0 < held.count)
      registered pointer l r is =
          subst (λ n. IsSomeAnd (segment_at t.view.slots n) (λ held. 0 < held.count))
          (sym (ap segment_of is
          ∙ (is_pointer l (settled l r.place r.sound) found.index (of l r).chunk (of l r).stands).segment))
          (go (segment_at t.view.slots (of l r).chunk.segment) (r.shows.mapped (of l r).chunk.segment))
        where
          go : (o : Option HeldSegment) → ShowsMapped l (of l r).chunk.segment (option_map (λ h. h.count) o) →
              IsSomeAnd o (λ held. 0 < held.count)
          go None q = absurd (true≢false (sym (or_right (is_told l.opened_last (of l r).chunk.segment)
              (nat_lt 0 (borrowed_in l (of l r).chunk.segment))
              (lt-ltb 0 (borrowed_in l (of l r).chunk.segment) (some_borrowed l r)))
              ∙ sym (mapped_told l (of l r).chunk.segment) ∙ q))
          go (Some held) q = let some = some_borrowed l r in let same = q.1 in omega arith

      -- the completion queue has room for what a channel may owe
      capacity : (l : Ledger) (r : Represents t l) → ch.completion.capacity ≡ completion_size l.settings
      capacity l r = ap (λ (s : Shape). s.completion) (r.shows.channels k (has l r).history (has l r).here).shape

      waiting : (l : Ledger) (r : Represents t l) →
          length ch.completion.values ≡ length (completed_names (has l r).history)
      waiting l r = ap length (r.shows.channels k (has l r).history (has l r).here).completed
          ∙ length-map (completed_names (has l r).history) (pointer_named l)

      module _ (pointer : ℕ) (registry : Contents PortEntry) (receiver : ReceiverEnd) where
        abbrev same_state : TransportState
        same_state = record t { connection_registry = registry; receiver = receiver }

        -- ---- a completion queue that is full

        pub release_full_state : (e : ZeroCopyReleaseError) → ReleaseCall t k pointer (Err e) registry receiver →
            same_state ≡ t
        release_full_state e call =
            let full = ap (λ (c : ChannelEntry). is_full c.completion) (sym ch_is)
            ∙ answer_full (channel_of t.connection_registry t.receiver.handle k) e call.answer_is in
            state_same t registry receiver
            (call.registry_is
            ∙ ap (λ c. with_channel_of t.connection_registry t.receiver.handle k (after_release c pointer)) ch_is
            ∙ ap (λ b. with_channel_of t.connection_registry t.receiver.handle k
            (cond b ch (record ch { completion = after_push ch.completion pointer }))) full
            ∙ with_is t.connection_registry t.sender.handle t.receiver.handle t.settings linked.ports k ch
            ∙ with_channel_of-present t.connection_registry t.sender.handle k linked.ports.has_sender)
            (call.receiver_is
            ∙ ap (λ cs. record t.receiver { borrow_counts = cs }) (set-get_or t.receiver.borrow_counts k 0))

        pub release_full_does : (e : ZeroCopyReleaseError) → ReleaseCall t k pointer (Err e) registry receiver →
            DoesAnywhere t (command.Release k name) (Refused refusal.RetrieveBufferFull) t
        release_full_does e call place l r =
            let full = eqb-true (length ch.completion.values) ch.completion.capacity
            (ap (λ (c : ChannelEntry). is_full c.completion) (sym ch_is)
            ∙ answer_full (channel_of t.connection_registry t.receiver.handle k) e call.answer_is) in
            let room = capacity l r in let long = waiting l r in
            stands t l (command.Release k name) (Refused refusal.RetrieveBufferFull) r.place place r.sound
            (placeless l (Refused refusal.RetrieveBufferFull))
            (λ any. release_full (core_of t) l any k name (has l r).history r.shows r.tracks (inside_l l r) (has l r).on
            (borrowed l r) (omega arith))

        -- ---- the chunk comes back

        module _ (call : ReleaseCall t k pointer (Ok nothing) registry receiver) where
          abbrev pushed : ChannelEntry
          pushed = record ch { completion = after_push ch.completion pointer }

          has_room : is_full ch.completion ≡ false
          has_room = ap (λ (c : ChannelEntry). is_full c.completion) (sym ch_is)
              ∙ answer_room (channel_of t.connection_registry t.receiver.handle k) call.answer_is

          registry_is : registry ≡ with_channel_of t.connection_registry t.sender.handle k pushed
          registry_is =
              call.registry_is
              ∙ ap (λ c. with_channel_of t.connection_registry t.receiver.handle k (after_release c pointer)) ch_is
              ∙ ap (λ b. with_channel_of t.connection_registry t.receiver.handle k (cond b ch pushed)) has_room
              ∙ with_is t.connection_registry t.sender.handle t.receiver.handle t.settings linked.ports k pushed

          receiver_is : receiver ≡ with_count t.receiver k (count_at t.receiver k - 1)
          receiver_is = call.receiver_is

          few : (l : Ledger) (r : Represents t l) →
              length (completed_names (has l r).history) < completion_size l.settings
          few l r =
              let limits = (r.sound.histories k (has l r).history (has l r).here).limits in
              let most = limits.completed in
              let apart = eqb-false (length ch.completion.values) ch.completion.capacity has_room in
              let room = capacity l r in let long = waiting l r in
              below (length (completed_names (has l r).history)) (completion_size l.settings) most
              (λ same. apart (long ∙ same ∙ sym room))
            where
              below : (a b : ℕ) → a ≤ b → a ≢ b → a < b
              below a b le ne = omega (arith, ne)

          module _ (memory_registry : Contents (Segment Pool)) (view : View)
              (back : GoesBack t.memory t.memory_registry t.view (segment_of pointer) memory_registry view)
              (lent_after : List UsedChunks)
              (lent_is : lent_after ≡ set t.lent k (after_removal (get_or t.lent k (none_used 0)) mark)) where
            abbrev pub released : TransportState
            released = record t {
              memory_registry = memory_registry;
              view = view;
              connection_registry = registry;
              receiver = receiver;
              lent = lent_after;
            }

            linked_here : LinksPorts (with_channel_of t.connection_registry t.sender.handle k pushed) t.sender.handle
                t.receiver.handle t.settings
            linked_here = links_after t.connection_registry t.sender.handle t.receiver.handle t.settings linked.ports k
                inside pushed refl

            pub released_linked : IsLinked released
            released_linked = record {
              together = back.together;
              strategy = linked.strategy;
              ports = subst (λ c. LinksPorts c t.sender.handle receiver.handle t.settings) (sym registry_is)
                  (subst (λ h. LinksPorts (with_channel_of t.connection_registry t.sender.handle k pushed)
                  t.sender.handle h t.settings) (ap (λ (e : ReceiverEnd). e.handle) (sym receiver_is)) linked_here);
              counts = ap (λ (e : ReceiverEnd). length e.borrow_counts) receiver_is
                  ∙ counts_long t.receiver k (count_at t.receiver k - 1) ∙ linked.counts;
              lent = ap length lent_is ∙ length-set t.lent k _ ∙ linked.lent;
              transits = linked.transits;
              owners = linked.owners;
              tables = linked.tables;
              marks = linked.marks;
              pairs = linked.pairs;
            }

            in_counts : k < length t.receiver.borrow_counts
            in_counts = let many = linked.counts in omega arith

            in_lent : k < length t.lent
            in_lent = let many = linked.lent in omega arith

            moves : (l : Ledger) (r : Represents t l) → pointer ≡ pointer_to l (of l r).chunk →
                Releases (core_of t) (core_of released) k (of l r).chunk.segment (of l r).chunk.bucket
                (pointer_to l (of l r).chunk)
            moves l r pointer_is =
                let told = is_pointer l (settled l r.place r.sound) found.index (of l r).chunk (of l r).stands in
                let segment_is : segment_of pointer ≡ (of l r).chunk.segment = ap segment_of pointer_is ∙
                told.segment in
                record {
                  settings = refl;
                  current = refl;
                  active = λ other. ap (λ o. active_of o (slots_count t.memory.slots other)) (back.segments other);
                  opened_last = back.opened;
                  mapped = λ other. subst (λ n. mapped_at view.slots other
                      ≡ mapped_after_return t.view.current (mapped_at t.view.slots) n other) segment_is
                      (back.mapped other);
                  others = λ other apart. record {
                    channel = ap (λ c. channel_of c t.sender.handle other) registry_is
                        ∙ channel_else t.connection_registry t.sender.handle t.receiver.handle t.settings linked.ports k
                        inside pushed refl other apart;
                    borrowed = ap (λ (e : ReceiverEnd). count_at e other) receiver_is
                        ∙ count_else t.receiver k other (count_at t.receiver k - 1) apart;
                  };
                  channel = ap (λ c. channel_of c t.sender.handle k) registry_is
                      ∙ channel_here t.connection_registry t.sender.handle t.receiver.handle t.settings linked.ports k
                      inside pushed refl
                      ∙ ap (λ n. record ch { completion = after_push ch.completion n }) pointer_is;
                  borrowed = ap (λ (e : ReceiverEnd). count_at e k) receiver_is
                      ∙ count_here t.receiver k (count_at t.receiver k - 1) in_counts;
                  entries = refl;
                  other_tracks = λ other apart. record {
                    lent = ap (λ us. get_or us other (none_used 0)) lent_is
                        ∙ get_or-set_other t.lent k other _ (none_used 0) apart;
                    transits = refl;
                  };
                  lent = ap (λ us. get_or us k (none_used 0)) lent_is
                      ∙ get_or-set_same t.lent k _ (none_used 0) in_lent
                      ∙ ap (λ (e : ChunkEntry). after_removal (get_or t.lent k (none_used 0))
                      (e.segment * t.settings.samples + e.bucket)) (of l r).entry_is;
                  transits = refl;
                  owners = λ other. refl;
                  in_transit = refl;
                }

            pub released_does : ((l : Ledger) (r : Represents t l) → pointer ≡ pointer_to l (of l r).chunk) →
                DoesAnywhere t (command.Release k name) Released released
            released_does pointer_is place l r =
                stands released l (command.Release k name) Released r.place place r.sound (placeless l Released)
                (λ any. subst (λ n. Steps (core_of released) l any (command.Release k n) Released) (of l r).same_name
                (releases (core_of t) (core_of released) l (settled l r.place r.sound) k (has l r).history (has l
                r).here
                (at l r) (moves l r (pointer_is l r)) r.shows r.tracks any (has l r).on
                (may_release l k (of l r).chunk.name (has l r).history (inside_l l r) (has l r).on (at l r).borrowed
                (few l r))))
