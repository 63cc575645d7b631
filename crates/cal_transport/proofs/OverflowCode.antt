-- A send that takes the oldest back, from what the calls on the port, the memory and the tables say: the oldest leaves
-- the state in which the chunk has joined the queue.
use Rattle.std.proofs.Common.{ℕ, ◌+◌, ◌-◌, ◌/◌, ◌<◌, ◌≡◌, ◌≢◌, Bool, true, false, ◌||◌, nat_lt, List, [], length, drop, set, get_or, Some, Ok, refl, sym, ap, ◌∙◌, subst, arith}
use Rattle.std.specs.List.{slice_get}
use Rattle.std.proofs.lemmas.Bool.{true≢false}
use Rattle.std.proofs.lemmas.List.{get_or-set_same, get_or-set_other}
use Rattle.std.proofs.lemmas.Option.{slice_get_within}
use Rattle.cal_alloc.specs.Pool.{Pool, IsUsedBucket}
use Rattle.cal_alloc.specs.PointerOffset.{offset_of, segment_of, pointer_offset}
use Rattle.cal_queue.specs.Queue.{after_pop, after_push, is_full, overflow_of}
use Rattle.cal_storage.specs.Contents.{Contents}
use Rattle.cal_shm.specs.Segment.{Segment}
use Rattle.cal_connection.specs.declared.errors.ZeroCopySendError.TheVariants as error
use Rattle.cal_connection.specs.Channel.{ChannelEntry, is_refused, return_answer, after_return, after_send, shape}
use Rattle.cal_connection.specs.ShapeLemmas.{shape-after_send}
use Rattle.cal_connection.specs.Port.{PortEntry, SenderEnd, channel_of, with_channel_of}
use Rattle.cal_resizable.specs.Chunks.{segment_value}
use Rattle.cal_resizable.specs.Growth.{OfSegment}
use Rattle.cal_resizable.specs.Memory.{MemoryState}
use Rattle.cal_resizable.specs.Slots.{count_at as slots_count}
use Rattle.cal_transport.specs.declared.command.Command.TheVariants as command
use Rattle.cal_transport.specs.declared.reply.Reply.TheVariants.{Sent}
use Rattle.cal_transport.specs.declared.transport.chunk_entry.ChunkEntry.{ChunkEntry}
use Rattle.cal_transport.specs.declared.transport.chunk_entry.Found.{Found}
use Rattle.cal_transport.specs.declared.transport.sender.Sample.{Sample}
use Rattle.cal_transport.specs.Ledger.{Ledger, layout_at, is_live, is_in_transit, queued_names}
use Rattle.cal_transport.specs.Sample.{IsSample}
use Rattle.cal_transport.specs.Pointed.{PointsTo}
use Rattle.cal_transport.specs.Sharing.{FreesUnless}
use Rattle.cal_transport.specs.Shown.{entry_of}
use Rattle.cal_transport.specs.Weights.{one_if, transits}
use Rattle.cal_transport.specs.State.{TransportState, core_of, LinksPorts, IsLinked, Represents, DoesAnywhere}
use Rattle.cal_transport.proofs.Settled.{settled}
use Rattle.cal_transport.proofs.PortCalls.{channel_here, channel_else, links_after}
use Rattle.cal_transport.proofs.Represented.{stands}
use Rattle.cal_transport.proofs.Changed.{transit_lives, transits_else}
use Rattle.cal_transport.proofs.Fronts.{IsFront, alive_active}
use Rattle.cal_transport.proofs.FreeCode.{is_out, is_used_bucket, freed_here, gives}
use Rattle.cal_transport.proofs.ReturnedCode.{some_returned}
use Rattle.cal_transport.proofs.Seen.{LeadsTo, leads_to}
use Rattle.cal_transport.proofs.SendAnswers.{sends_over}
use Rattle.cal_transport.proofs.SendCode.{ch, placeless, the, history_at, may, full_tells, joined, sent_entry, joins, same_shape, channel_joined, sends}
use Rattle.cal_transport.proofs.SendStep.{after, sending, sending_changes}
use Rattle.cal_transport.proofs.SentAnswers.{one_leaves, accepted, joined_over, leaves_first}
use Rattle.cal_transport.proofs.SentCode.{SendCall, overflow, front_at, used_entry, no_cause}
use Rattle.cal_transport.proofs.Stands.{Steps}
use Rattle.cal_transport.proofs.Totals.{total_least}
use Rattle.cal_transport.proofs.Unmarked.{Unmarks, unmarks}

module _ (t : TransportState) (linked : IsLinked t) (k name : ℕ) (sample : Sample) (is : IsSample t k name sample)
    (back : ℕ) (registry : Contents PortEntry) (sender : SenderEnd)
    (call : SendCall t k sample.pointer sample.size (Ok (Some back)) registry sender) where
  abbrev channel : ChannelEntry
  channel = ch t linked k name sample is

  abbrev entered : ChannelEntry
  entered = joined t linked k name sample is

  abbrev over_settings : Bool
  over_settings = overflow t linked k name sample is

  kept : (is_refused over_settings channel ≡ false)
      × (Ok (Some back) ≡ return_answer error.ConnectionCorrupted entered.segments (overflow_of channel.submission))
  kept = accepted over_settings channel sample.pointer sample.size (Some back) call.answer_is

  pub leaves : (is_full channel.submission ≡ true) × (slice_get channel.submission.values 0 ≡ Some back)
  leaves = one_leaves channel.submission back
      (some_returned error.ConnectionCorrupted entered.segments (overflow_of channel.submission) back kept.1)

  abbrev pub front : (l : Ledger) (r : Represents t l) →
      IsFront l (history_at t linked k name sample is l r).history
      (queued_names (history_at t linked k name sample is l r).history) back
  front l r = front_at t linked k name sample is l r back leaves.1

  alive : (l : Ledger) (r : Represents t l) → is_live l (front l r).chunk ≡ true
  alive l r =
      let h = history_at t linked k name sample is l r in
      transit_lives l k h.history (front l r).chunk h.here (front l r).transit

  -- the pointer leads to its entry
  pub oldest_leads : (l : Ledger) (r : Represents t l) → LeadsTo t l (front l r).index (front l r).chunk back
  oldest_leads l r =
      let f = front l r in let s = settled l r.place r.sound in
      leads_to t l s r.shows r.tracks f.index f.chunk back f.stands (alive l r)
      (alive_active l s f.index f.chunk f.stands (alive l r)) f.pointer_is

  -- its segment has a chunk out, and its bucket is used
  pub oldest_out : (l : Ledger) (r : Represents t l) → 0 < slots_count t.memory.slots (segment_of back)
  oldest_out l r = is_out t l (settled l r.place r.sound) r.shows (front l r).index (front l r).chunk
      (front l r).stands (alive l r) back (front l r).pointer_is

  pub oldest_used : (l : Ledger) (r : Represents t l) →
      OfSegment t.memory_registry t.memory.slots (segment_of back)
      (λ (segment : Segment Pool). IsUsedBucket segment.allocator (pointer_offset (offset_of back) 0))
  oldest_used l r = is_used_bucket t l (settled l r.place r.sound) r.shows (front l r).index (front l r).chunk
      (front l r).stands (alive l r) back (front l r).pointer_is

  -- it isn't the chunk that is sent
  other_name : (l : Ledger) (r : Represents t l) →
      (front l r).chunk.name ≢ (the t linked k name sample is l r).chunk.name
  other_name l r same =
      let h = history_at t linked k name sample is l r in
      true≢false (sym (front l r).transit ∙ ap (is_in_transit h.history) same
      ∙ (may t linked k name sample is l r).away)

  -- so it is on as many channels as before
  same_transits : (l : Ledger) (r : Represents t l) →
      (let h = history_at t linked k name sample is l r in
      let m = may t linked k name sample is l r in
      transits (after l (settled l r.place r.sound) k h.history h.here m).histories (front l r).chunk.name
      ≡ transits l.histories (front l r).chunk.name)
  same_transits l r =
      let s = settled l r.place r.sound in
      let h = history_at t linked k name sample is l r in
      let m = may t linked k name sample is l r in
      transits_else l (sending l s k h.history h.here m) (sending_changes l s k h.history h.here m)
      (front l r).chunk.name (other_name l r)

  way_counted : (l : Ledger) (r : Represents t l) → 0 < transits l.histories (front l r).chunk.name
  way_counted l r =
      let h = history_at t linked k name sample is l r in
      let f = front l r in
      let own = total_least (λ c. one_if (is_in_transit c f.chunk.name)) l.histories k h.history h.here in
      let one = ap one_if f.transit in omega arith

  module _ (leaving : Found) (leads : (p : PointsTo t.memory_registry t.memory t.entries
      (get_or t.owners (segment_of back) []) back) → (leaving.index ≡ p.index) × (leaving.entry ≡ p.entry)) where
    index_is : (l : Ledger) (r : Represents t l) → leaving.index ≡ (front l r).index
    index_is l r = (leads (oldest_leads l r).points).0 ∙ (oldest_leads l r).index

    entry_is : (l : Ledger) (r : Represents t l) → leaving.entry ≡ entry_of l.histories (front l r).chunk
    entry_is l r = (leads (oldest_leads l r).points).1 ∙ (oldest_leads l r).entry

    pub leaving_index : (l : Ledger) (r : Represents t l) → leaving.index < length t.entries
    leaving_index l r =
        let p = (oldest_leads l r).points in
        subst (λ n. n < length t.entries) (sym (leads p).0) (slice_get_within t.entries p.index p.entry p.stands)

    pub leaving_transit : (l : Ledger) (r : Represents t l) → 0 < leaving.entry.transits
    leaving_transit l r = subst (λ (e : ChunkEntry). 0 < e.transits) (sym (entry_is l r)) (way_counted l r)

    -- ---- the transport after it

    module _ (memory_registry : Contents (Segment Pool)) (memory : MemoryState)
        (freed : (segment : Segment Pool) →
        segment_value t.memory_registry t.memory.slots (segment_of back) ≡ Some segment →
        FreesUnless (leaving.entry.loaned || nat_lt 0 (leaving.entry.transits - 1)) t.view t.memory_registry t.memory
        (segment_of back) (offset_of back / segment.allocator.buckets.size) memory_registry memory)
        (entries : List ChunkEntry)
        (entries_are : entries
        ≡ set (set t.entries sample.found.index (sent_entry t linked k name sample is)) leaving.index
        (record leaving.entry { transits = leaving.entry.transits - 1 })) (spare : ℕ) where
      abbrev pub over : TransportState
      over = record t {
        memory_registry = memory_registry;
        memory = memory;
        connection_registry = registry;
        sender = sender;
        entries = entries;
        spare = spare;
      }

      abbrev middle : TransportState
      middle = joins t linked k name sample is spare

      freed_is : (l : Ledger) (r : Represents t l) →
          FreesUnless (leaving.entry.loaned || nat_lt 0 (leaving.entry.transits - 1)) t.view t.memory_registry t.memory
          (front l r).chunk.segment (front l r).chunk.bucket memory_registry memory
      freed_is l r = freed_here t l (settled l r.place r.sound) r.shows (front l r).index (front l r).chunk
          (front l r).stands (alive l r) back (front l r).pointer_is
          (leaving.entry.loaned || nat_lt 0 (leaving.entry.transits - 1)) memory_registry memory freed

      abbrev left : ChannelEntry
      left = record channel {
        submission = after_push (after_pop channel.submission) sample.pointer;
        segments = after_return entered.segments (Some back);
      }

      left_is : after_send over_settings channel sample.pointer sample.size ≡ left
      left_is = joined_over over_settings channel sample.pointer sample.size back kept.0 leaves.0 leaves.1

      left_shape : shape left ≡ shape channel
      left_shape = ap shape (sym left_is) ∙ shape-after_send over_settings channel sample.pointer sample.size

      registry_is : registry ≡ with_channel_of t.connection_registry t.sender.handle k left
      registry_is = call.registry_is ∙ ap (with_channel_of t.connection_registry t.sender.handle k) left_is

      pub over_linked : (l : Ledger) (r : Represents t l) → IsLinked over
      over_linked l r =
          let f = freed_is l r in
          record {
            together = f.together;
            strategy = f.strategy ∙ linked.strategy;
            ports = subst (λ c. LinksPorts c sender.handle t.receiver.handle t.settings) (sym registry_is)
                (subst (λ (e : SenderEnd). LinksPorts (with_channel_of t.connection_registry t.sender.handle k left)
                e.handle t.receiver.handle t.settings) (sym call.sender_is)
                (links_after t.connection_registry t.sender.handle t.receiver.handle t.settings linked.ports k
                is.channel left left_shape));
            counts = linked.counts;
            lent = linked.lent;
            transits = linked.transits;
            owners = linked.owners ∙ ap (λ n. n + 1) (sym f.current);
            tables = linked.tables;
            marks = linked.marks;
            pairs = linked.pairs;
          }

      in_counts : k < length t.transits
      in_counts = let many = linked.transits in let here = is.channel in omega arith

      channel_is : channel_of registry sender.handle k ≡ left
      channel_is = ap (λ (e : SenderEnd). channel_of registry e.handle k) call.sender_is
          ∙ ap (λ c. channel_of c t.sender.handle k) registry_is
          ∙ channel_here t.connection_registry t.sender.handle t.receiver.handle t.settings linked.ports k is.channel
          left left_shape

      others_are : (other : ℕ) → other ≢ k →
          channel_of registry sender.handle other ≡ channel_of middle.connection_registry t.sender.handle other
      others_are other apart = ap (λ (e : SenderEnd). channel_of registry e.handle other) call.sender_is
          ∙ ap (λ c. channel_of c t.sender.handle other) registry_is
          ∙ channel_else t.connection_registry t.sender.handle t.receiver.handle t.settings linked.ports k is.channel
          left left_shape other apart
          ∙ sym (channel_else t.connection_registry t.sender.handle t.receiver.handle t.settings linked.ports k
          is.channel entered (same_shape t linked k name sample is) other apart)

      channel_middle : channel_of middle.connection_registry t.sender.handle k ≡ entered
      channel_middle = channel_joined t linked k name sample is

      unmarked : (l : Ledger) (r : Represents t l) →
          Unmarks (channel_of middle.connection_registry t.sender.handle k).segments
          (channel_of registry sender.handle k).segments (front l r).chunk.segment (front l r).chunk.bucket
      unmarked l r =
          let f = front l r in
          subst (λ (c : ChannelEntry). Unmarks c.segments (channel_of registry sender.handle k).segments
          f.chunk.segment f.chunk.bucket) (sym channel_middle)
          (subst (λ (c : ChannelEntry). Unmarks entered.segments c.segments f.chunk.segment f.chunk.bucket)
          (sym channel_is)
          (unmarks entered.segments back f.chunk.segment f.chunk.bucket (layout_at l f.chunk.segment).size
          (used_entry t linked k name sample is l r back leaves.1)))

      steps : (l : Ledger) (r : Represents t l) (any : ℕ) →
          Steps (core_of over) l any (command.Send k (the t linked k name sample is l r).chunk.name)
          (Sent (Some (record {
            chunk = (front l r).chunk.name;
            segment = segment_of back;
            place = offset_of back;
          })))
      steps l r any =
          let s = settled l r.place r.sound in
          let h = history_at t linked k name sample is l r in
          let m = may t linked k name sample is l r in
          let f = front l r in
          let e = entry_is l r in
          let same = sym (same_transits l r) in
          let freed_there = subst (λ n. FreesUnless (f.chunk.loaned || nat_lt 0 (n - 1)) t.view t.memory_registry
          t.memory f.chunk.segment f.chunk.bucket memory_registry memory) same
          (subst (λ (x : ChunkEntry). FreesUnless (x.loaned || nat_lt 0 (x.transits - 1)) t.view t.memory_registry
          t.memory f.chunk.segment f.chunk.bucket memory_registry memory) e (freed_is l r)) in
          sends_over l s k h.history h.here m back f (core_of t) (core_of middle) (core_of over) any r.shows r.tracks
          h.on (no_cause t linked k name sample is l r kept.0)
          (sym (full_tells t linked k name sample is l r) ∙ leaves.0) (sends t linked k name sample is spare l r)
          (record {
            capacity = ap (λ (c : ChannelEntry). c.submission.capacity) channel_is
                ∙ sym (ap (λ (c : ChannelEntry). c.submission.capacity) channel_middle);
            submission = ap (λ (c : ChannelEntry). c.submission.values) channel_is
                ∙ leaves_first channel.submission.values back sample.pointer leaves.1
                ∙ sym (ap (λ (c : ChannelEntry). drop 1 c.submission.values) channel_middle);
            completion = ap (λ (c : ChannelEntry). c.completion) channel_is
                ∙ sym (ap (λ (c : ChannelEntry). c.completion) channel_middle);
            segments = unmarked l r;
            borrowed = refl;
          })
          (record {
            settings = refl;
            memory = gives middle
                (f.chunk.loaned || nat_lt 0 (transits (after l s k h.history h.here m).histories f.chunk.name - 1))
                f.chunk.segment f.chunk.bucket memory_registry memory freed_there (core_of over) refl
                (λ other. refl);
            opened_last = refl;
            mapped = λ segment. refl;
            others = λ other apart. record { channel = others_are other apart; borrowed = refl };
            entries = entries_are
                ∙ ap (λ n. set middle.entries n (record leaving.entry { transits = leaving.entry.transits - 1 }))
                (index_is l r)
                ∙ ap (λ (x : ChunkEntry). set middle.entries f.index (record x { transits = x.transits - 1 })) e
                ∙ ap (λ n. set middle.entries f.index (record (entry_of l.histories f.chunk) { transits = n - 1 }))
                same;
            other_tracks = λ other apart. record {
              lent = refl;
              transits = sym (get_or-set_other t.transits k other _ 0 apart);
            };
            lent = refl;
            transits = sym (get_or-set_same t.transits k _ 0 in_counts);
            owners = λ segment. refl;
            in_transit = refl;
          })

      pub over_does : DoesAnywhere t (command.Send k name) (Sent (Some (record {
        chunk = leaving.entry.name;
        segment = segment_of back;
        place = offset_of back;
      }))) over
      over_does place l r =
          stands over l (command.Send k name) (Sent (Some (record {
            chunk = leaving.entry.name;
            segment = segment_of back;
            place = offset_of back;
          }))) r.place place r.sound (placeless t linked k name sample is l (Sent (Some (record {
            chunk = leaving.entry.name;
            segment = segment_of back;
            place = offset_of back;
          }))))
          (λ any. subst (λ n. Steps (core_of over) l any (command.Send k name) (Sent (Some (record {
            chunk = n;
            segment = segment_of back;
            place = offset_of back;
          })))) (ap (λ (e : ChunkEntry). e.name) (sym (entry_is l r)))
          (subst (λ n. Steps (core_of over) l any (command.Send k n) (Sent (Some (record {
            chunk = (front l r).chunk.name;
            segment = segment_of back;
            place = offset_of back;
          })))) (the t linked k name sample is l r).same_name (steps l r any)))
