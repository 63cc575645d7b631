-- A reclaim, from what the calls on the port, the memory and the tables say.
use Rattle.std.proofs.Common.{ℕ, ◌+◌, ◌-◌, ◌/◌, ◌<◌, ◌≤◌, ◌≡◌, ◌≢◌, true, ◌||◌, nat_lt, List, [], ◌∷◌, length, drop, set, get_or, Option, Some, None, Result, Ok, Err, refl, sym, ap, ◌∙◌, subst, arith}
use Rattle.std.specs.List.{slice_get}
use Rattle.std.proofs.lemmas.List.{get_or-set_same, get_or-set_other, length-set}
use Rattle.std.proofs.lemmas.Option.{none-some, slice_get_within}
use Rattle.cal_alloc.specs.Pool.{Pool, IsUsedBucket}
use Rattle.cal_alloc.specs.PointerOffset.{offset_of, segment_of, pointer_offset}
use Rattle.cal_queue.specs.Queue.{after_pop, oldest}
use Rattle.cal_storage.specs.Contents.{Contents}
use Rattle.cal_shm.specs.Segment.{Segment}
use Rattle.cal_connection.specs.declared.errors.ZeroCopyReclaimError.{ZeroCopyReclaimError}
use Rattle.cal_connection.specs.declared.errors.ZeroCopyReclaimError.TheVariants as error
use Rattle.cal_connection.specs.Channel.{ChannelEntry, reclaim_answer, after_return, after_reclaim}
use Rattle.cal_connection.specs.ShapeLemmas.{shape-after_reclaim}
use Rattle.cal_connection.specs.Port.{PortEntry, SenderEnd, channel_of, with_channel_of}
use Rattle.cal_connection.specs.RegistryLemmas.{with_channel_of-present}
use Rattle.cal_resizable.specs.Chunks.{segment_value}
use Rattle.cal_resizable.specs.Growth.{OfSegment}
use Rattle.cal_resizable.specs.Memory.{MemoryState}
use Rattle.cal_resizable.specs.Slots.{count_at as slots_count}
use Rattle.cal_transport.specs.declared.command.Command.TheVariants as command
use Rattle.cal_transport.specs.declared.settings.Settings.{Settings}
use Rattle.cal_transport.specs.declared.reply.Reply.{Reply}
use Rattle.cal_transport.specs.declared.reply.Reply.TheVariants.{Reclaimed, Refused}
use Rattle.cal_transport.specs.declared.reply.Refusal.TheVariants as refusal
use Rattle.cal_transport.specs.declared.transport.chunk_entry.ChunkEntry.{ChunkEntry}
use Rattle.cal_transport.specs.declared.transport.chunk_entry.Found.{Found}
use Rattle.cal_transport.specs.Ledger.{Ledger, layout_at, is_live, is_in_transit, completed_names}
use Rattle.cal_transport.specs.Pointed.{PointsTo}
use Rattle.cal_transport.specs.Sharing.{FreesUnless}
use Rattle.cal_transport.specs.Shown.{entry_of}
use Rattle.cal_transport.specs.Weights.{one_if, transits}
use Rattle.cal_transport.specs.State.{TransportState, core_of, LinksPorts, IsLinked, Represents, DoesAnywhere}
use Rattle.cal_transport.proofs.Settled.{settled}
use Rattle.cal_transport.proofs.PortCalls.{channel_here, channel_else, links_after}
use Rattle.cal_transport.proofs.Represented.{IsPlaceless, stands}
use Rattle.cal_transport.proofs.Changed.{transit_lives}
use Rattle.cal_transport.proofs.Fronts.{IsFront, alive_active}
use Rattle.cal_transport.proofs.FreeCode.{is_out, is_used_bucket, freed_here, gives}
use Rattle.cal_transport.proofs.ReclaimStep.{may_reclaim, reclaim_outside, reclaims_none, reclaims_front, names_used_chunk, completion_front}
use Rattle.cal_transport.proofs.ReturnedCode.{none_returned, some_returned, never_refused}
use Rattle.cal_transport.proofs.Seen.{LeadsTo, leads_to}
use Rattle.cal_transport.proofs.Stands.{HasHistory, has_history, SameCore, Steps}
use Rattle.cal_transport.proofs.Totals.{total_least}
use Rattle.cal_transport.proofs.Unmarked.{IsUsedEntry, Unmarks, returned_is, unmarks}

-- ---- what the sender's call says

pub record ReclaimCall (t : TransportState) (k : ℕ) (answer : Result (Option ℕ) ZeroCopyReclaimError)
    (registry : Contents PortEntry) (sender : SenderEnd) : Type 0 where
  pub answer_is : answer ≡ reclaim_answer (channel_of t.connection_registry t.sender.handle k)
  pub registry_is : registry ≡ with_channel_of t.connection_registry t.sender.handle k
      (after_reclaim (channel_of t.connection_registry t.sender.handle k))
  pub sender_is : sender ≡ t.sender

-- ---- a channel that isn't there

pub reclaim_outside_does : (t : TransportState) (k : ℕ) → t.settings.channels ≤ k →
    DoesAnywhere t (command.Reclaim k) (Refused refusal.OutsideConnection) t
reclaim_outside_does t k past place l r =
    stands t l (command.Reclaim k) (Refused refusal.OutsideConnection) r.place place r.sound placeless
    (λ any. reclaim_outside (core_of t) l any k r.shows r.tracks past)
  where
    placeless : IsPlaceless l (command.Reclaim k) (Refused refusal.OutsideConnection)
    placeless None a b = refl
    placeless (Some why) a b = refl

module _ (t : TransportState) (linked : IsLinked t) (k : ℕ) (inside : k < t.settings.channels) where
  abbrev ch : ChannelEntry
  ch = channel_of t.connection_registry t.sender.handle k

  pub inside_l : (l : Ledger) → Represents t l → k < l.settings.channels
  inside_l l r = subst (λ (s : Settings). k < s.channels) r.shows.settings inside

  abbrev pub has : (l : Ledger) (r : Represents t l) → HasHistory l k
  has l r = has_history l (settled l r.place r.sound) k (inside_l l r)

  placeless : (l : Ledger) (reply : Reply) → IsPlaceless l (command.Reclaim k) reply
  placeless l reply None a b = refl
  placeless l reply (Some why) a b = refl

  -- the oldest that was given back
  abbrev pub front_at : (l : Ledger) (r : Represents t l) (pointer : ℕ) →
      slice_get ch.completion.values 0 ≡ Some pointer →
      IsFront l (has l r).history (completed_names (has l r).history) pointer
  front_at l r pointer first =
      completion_front (core_of t) l (settled l r.place r.sound) k (has l r) pointer r.shows first

  used_entry : (l : Ledger) (r : Represents t l) (pointer : ℕ)
      (first : slice_get ch.completion.values 0 ≡ Some pointer) →
      IsUsedEntry ch.segments pointer (front_at l r pointer first).chunk.segment
      (front_at l r pointer first).chunk.bucket (layout_at l (front_at l r pointer first).chunk.segment).size
  used_entry l r pointer first =
      let f = front_at l r pointer first in
      names_used_chunk (core_of t) l (settled l r.place r.sound) k (has l r).history (has l r).here r.shows f.index
      f.chunk pointer f.stands f.transit f.pointer_is

  -- what comes back is always a used entry
  pub reclaim_answers : (l : Ledger) (r : Represents t l) (e : ZeroCopyReclaimError) (registry : Contents PortEntry)
      (sender : SenderEnd) → ReclaimCall t k (Err e) registry sender → ⊥
  reclaim_answers l r e registry sender call =
      never_refused error.ReceiverReturnedCorruptedPointerOffset ch.segments (oldest ch.completion) e call.answer_is
      (λ pointer first.
      (let f = front_at l r pointer first in
      returned_is ch.segments pointer f.chunk.segment f.chunk.bucket (layout_at l f.chunk.segment).size
      (used_entry l r pointer first) error.ReceiverReturnedCorruptedPointerOffset))

  -- ---- nothing was given back

  empty_values : (values : List ℕ) → slice_get values 0 ≡ None → values ≡ []
  empty_values [] e = refl
  empty_values (v ∷ values) e = absurd (none-some v (sym e))

  module _ (registry : Contents PortEntry) (sender : SenderEnd) (call : ReclaimCall t k (Ok None) registry sender) where
    none : oldest ch.completion ≡ None
    none = none_returned error.ReceiverReturnedCorruptedPointerOffset ch.segments (oldest ch.completion) call.answer_is

    unchanged : after_reclaim ch ≡ ch
    unchanged =
        let empty = empty_values ch.completion.values none in
        ap (λ o. record ch { completion = after_pop ch.completion; segments = after_return ch.segments o }) none
        ∙ ap (λ vs. record ch { completion = record ch.completion { values = drop 1 vs } }) empty
        ∙ ap (λ vs. record ch { completion = record ch.completion { values = vs } }) (sym empty)

    pub reclaim_none_state : record t { connection_registry = registry; sender = sender } ≡ t
    reclaim_none_state =
        ap (λ c. record t { connection_registry = c; sender = sender })
        (call.registry_is
        ∙ ap (with_channel_of t.connection_registry t.sender.handle k) unchanged
        ∙ with_channel_of-present t.connection_registry t.sender.handle k linked.ports.has_sender)
        ∙ ap (λ e. record t { sender = e }) call.sender_is

    same_core : SameCore (core_of t) (core_of t)
    same_core = record {
      settings = refl;
      current = refl;
      active = λ segment. refl;
      opened_last = refl;
      mapped = λ segment. refl;
      channels = λ n. record { channel = refl; borrowed = refl };
      entries = refl;
      tracks = λ n. record { lent = refl; transits = refl };
      owners = λ segment. refl;
      in_transit = refl;
    }

    pub reclaim_none_does : DoesAnywhere t (command.Reclaim k) (Reclaimed None) t
    reclaim_none_does place l r =
        stands t l (command.Reclaim k) (Reclaimed None) r.place place r.sound (placeless l (Reclaimed None))
        (λ any. reclaims_none (core_of t) (core_of t) l any k (settled l r.place r.sound) r.shows r.tracks
        (inside_l l r) none same_core)

  -- ---- the oldest comes back

  module _ (pointer : ℕ) (registry : Contents PortEntry) (sender : SenderEnd)
      (call : ReclaimCall t k (Ok (Some pointer)) registry sender) where
    pub first : slice_get ch.completion.values 0 ≡ Some pointer
    first = some_returned error.ReceiverReturnedCorruptedPointerOffset ch.segments (oldest ch.completion) pointer
        call.answer_is

    abbrev pub front : (l : Ledger) (r : Represents t l) →
        IsFront l (has l r).history (completed_names (has l r).history) pointer
    front l r = front_at l r pointer first

    alive : (l : Ledger) (r : Represents t l) → is_live l (front l r).chunk ≡ true
    alive l r = transit_lives l k (has l r).history (front l r).chunk (has l r).here (front l r).transit

    -- the pointer leads to its entry
    pub front_leads : (l : Ledger) (r : Represents t l) →
        LeadsTo t l (front l r).index (front l r).chunk pointer
    front_leads l r =
        let f = front l r in let s = settled l r.place r.sound in
        leads_to t l s r.shows r.tracks f.index f.chunk pointer f.stands (alive l r)
        (alive_active l s f.index f.chunk f.stands (alive l r)) f.pointer_is

    -- its segment has a chunk out, and its bucket is used
    pub front_out : (l : Ledger) (r : Represents t l) → 0 < slots_count t.memory.slots (segment_of pointer)
    front_out l r = is_out t l (settled l r.place r.sound) r.shows (front l r).index (front l r).chunk
        (front l r).stands (alive l r) pointer (front l r).pointer_is

    pub front_used : (l : Ledger) (r : Represents t l) →
        OfSegment t.memory_registry t.memory.slots (segment_of pointer)
        (λ (segment : Segment Pool). IsUsedBucket segment.allocator (pointer_offset (offset_of pointer) 0))
    front_used l r = is_used_bucket t l (settled l r.place r.sound) r.shows (front l r).index (front l r).chunk
        (front l r).stands (alive l r) pointer (front l r).pointer_is

    -- it is counted
    way_counted : (l : Ledger) (r : Represents t l) → 0 < transits l.histories (front l r).chunk.name
    way_counted l r =
        let f = front l r in
        let own = total_least (λ h. one_if (is_in_transit h f.chunk.name)) l.histories k (has l r).history
        (has l r).here in
        let one = ap one_if f.transit in omega arith

    pub front_counted : (l : Ledger) (r : Represents t l) → 0 < get_or t.transits k 0
    front_counted l r =
        let f = front l r in
        let own = total_least (λ d. one_if (is_in_transit (has l r).history d.name)) l.chunks f.index f.chunk
        f.stands in
        let one = ap one_if f.transit in
        let is = (r.tracks.channels k (has l r).history (has l r).here).transits in omega arith

    pub front_in_all : (l : Ledger) (r : Represents t l) → 0 < t.in_transit
    front_in_all l r =
        let f = front l r in
        let all = total_least (λ d. transits l.histories d.name) l.chunks f.index f.chunk f.stands in
        let own = way_counted l r in
        let is = r.tracks.in_transit in omega arith

    module _ (found : Found) (leads : (p : PointsTo t.memory_registry t.memory t.entries
        (get_or t.owners (segment_of pointer) []) pointer) → (found.index ≡ p.index) × (found.entry ≡ p.entry)) where
      index_is : (l : Ledger) (r : Represents t l) → found.index ≡ (front l r).index
      index_is l r = (leads (front_leads l r).points).0 ∙ (front_leads l r).index

      pub entry_is : (l : Ledger) (r : Represents t l) → found.entry ≡ entry_of l.histories (front l r).chunk
      entry_is l r = (leads (front_leads l r).points).1 ∙ (front_leads l r).entry

      pub found_index : (l : Ledger) (r : Represents t l) → found.index < length t.entries
      found_index l r =
          let p = (front_leads l r).points in
          subst (λ n. n < length t.entries) (sym (leads p).0) (slice_get_within t.entries p.index p.entry p.stands)

      pub found_transit : (l : Ledger) (r : Represents t l) → 0 < found.entry.transits
      found_transit l r = subst (λ (e : ChunkEntry). 0 < e.transits) (sym (entry_is l r)) (way_counted l r)

      -- ---- the transport after it

      module _ (memory_registry : Contents (Segment Pool)) (memory : MemoryState)
          (freed : (segment : Segment Pool) →
          segment_value t.memory_registry t.memory.slots (segment_of pointer) ≡ Some segment →
          FreesUnless (found.entry.loaned || nat_lt 0 (found.entry.transits - 1)) t.view t.memory_registry t.memory
          (segment_of pointer) (offset_of pointer / segment.allocator.buckets.size) memory_registry memory)
          (entries : List ChunkEntry)
          (entries_are : entries
          ≡ set t.entries found.index (record found.entry { transits = found.entry.transits - 1 }))
          (counts : List ℕ) (counts_are : counts ≡ set t.transits k (get_or t.transits k 0 - 1)) (spare : ℕ) where
        abbrev pub reclaimed : TransportState
        reclaimed = record t {
          memory_registry = memory_registry;
          memory = memory;
          connection_registry = registry;
          sender = sender;
          entries = entries;
          transits = counts;
          in_transit = t.in_transit - 1;
          spare = spare;
        }

        freed_is : (l : Ledger) (r : Represents t l) →
            FreesUnless (found.entry.loaned || nat_lt 0 (found.entry.transits - 1)) t.view t.memory_registry t.memory
            (front l r).chunk.segment (front l r).chunk.bucket memory_registry memory
        freed_is l r = freed_here t l (settled l r.place r.sound) r.shows (front l r).index (front l r).chunk
            (front l r).stands (alive l r) pointer (front l r).pointer_is
            (found.entry.loaned || nat_lt 0 (found.entry.transits - 1)) memory_registry memory freed

        linked_here : LinksPorts (with_channel_of t.connection_registry t.sender.handle k (after_reclaim ch))
            t.sender.handle t.receiver.handle t.settings
        linked_here = links_after t.connection_registry t.sender.handle t.receiver.handle t.settings linked.ports k
            inside (after_reclaim ch) (shape-after_reclaim ch)

        pub reclaimed_linked : (l : Ledger) (r : Represents t l) → IsLinked reclaimed
        reclaimed_linked l r =
            let f = freed_is l r in
            record {
              together = f.together;
              strategy = f.strategy ∙ linked.strategy;
              ports = subst (λ c. LinksPorts c sender.handle t.receiver.handle t.settings) (sym call.registry_is)
                  (subst (λ (e : SenderEnd). LinksPorts
                  (with_channel_of t.connection_registry t.sender.handle k (after_reclaim ch)) e.handle
                  t.receiver.handle t.settings) (sym call.sender_is) linked_here);
              counts = linked.counts;
              lent = linked.lent;
              transits = ap length counts_are ∙ length-set t.transits k _ ∙ linked.transits;
              owners = linked.owners ∙ ap (λ n. n + 1) (sym f.current);
              tables = linked.tables;
              marks = linked.marks;
              pairs = linked.pairs;
            }

        in_counts : k < length t.transits
        in_counts = let many = linked.transits in omega arith

        channel_is : channel_of registry sender.handle k ≡ after_reclaim ch
        channel_is = ap (λ (e : SenderEnd). channel_of registry e.handle k) call.sender_is
            ∙ ap (λ c. channel_of c t.sender.handle k) call.registry_is
            ∙ channel_here t.connection_registry t.sender.handle t.receiver.handle t.settings linked.ports k inside
            (after_reclaim ch) (shape-after_reclaim ch)

        others_are : (other : ℕ) → other ≢ k →
            channel_of registry sender.handle other ≡ channel_of t.connection_registry t.sender.handle other
        others_are other apart = ap (λ (e : SenderEnd). channel_of registry e.handle other) call.sender_is
            ∙ ap (λ c. channel_of c t.sender.handle other) call.registry_is
            ∙ channel_else t.connection_registry t.sender.handle t.receiver.handle t.settings linked.ports k inside
            (after_reclaim ch) (shape-after_reclaim ch) other apart

        steps : (l : Ledger) (r : Represents t l) (any : ℕ) →
            Steps (core_of reclaimed) l any (command.Reclaim k) (Reclaimed (Some (record {
              chunk = (front l r).chunk.name;
              segment = segment_of pointer;
              place = offset_of pointer;
            })))
        steps l r any =
            let s = settled l r.place r.sound in
            let f = front l r in
            let e = entry_is l r in
            let counted = front_counted l r in
            let some = front_in_all l r in
            let freed_there = subst (λ (x : ChunkEntry). FreesUnless (x.loaned || nat_lt 0 (x.transits - 1)) t.view
            t.memory_registry t.memory f.chunk.segment f.chunk.bucket memory_registry memory) e (freed_is l r) in
            reclaims_front (core_of t) (core_of reclaimed) l s k (has l r).history (has l r).here pointer f r.shows
            r.tracks any (has l r).on (may_reclaim l k (inside_l l r))
            (record {
              submission = ap (λ (c : ChannelEntry). c.submission) channel_is;
              completion = ap (λ (c : ChannelEntry). c.completion) channel_is;
              segments = subst (λ ss. Unmarks ch.segments ss f.chunk.segment f.chunk.bucket)
                  (sym (ap (λ (c : ChannelEntry). c.segments) channel_is ∙ ap (after_return ch.segments) first))
                  (unmarks ch.segments pointer f.chunk.segment f.chunk.bucket (layout_at l f.chunk.segment).size
                  (used_entry l r pointer first));
              borrowed = refl;
            })
            (record {
              settings = refl;
              memory = gives t (f.chunk.loaned || nat_lt 0 (transits l.histories f.chunk.name - 1)) f.chunk.segment
                  f.chunk.bucket memory_registry memory freed_there (core_of reclaimed) refl (λ other. refl);
              opened_last = refl;
              mapped = λ segment. refl;
              others = λ other apart. record { channel = others_are other apart; borrowed = refl };
              entries = entries_are
                  ∙ ap (λ n. set t.entries n (record found.entry { transits = found.entry.transits - 1 }))
                  (index_is l r)
                  ∙ ap (λ (x : ChunkEntry). set t.entries f.index (record x { transits = x.transits - 1 })) e;
              other_tracks = λ other apart. record {
                lent = refl;
                transits = ap (λ ns. get_or ns other 0) counts_are ∙ get_or-set_other t.transits k other _ 0 apart;
              };
              lent = refl;
              transits =
                  (let now = ap (λ ns. get_or ns k 0) counts_are ∙ get_or-set_same t.transits k _ 0 in_counts in
                  omega arith);
              owners = λ segment. refl;
              in_transit = omega arith;
            })

        pub reclaimed_does : DoesAnywhere t (command.Reclaim k) (Reclaimed (Some (record {
          chunk = found.entry.name;
          segment = segment_of pointer;
          place = offset_of pointer;
        }))) reclaimed
        reclaimed_does place l r =
            stands reclaimed l (command.Reclaim k) (Reclaimed (Some (record {
              chunk = found.entry.name;
              segment = segment_of pointer;
              place = offset_of pointer;
            }))) r.place place r.sound (placeless l (Reclaimed (Some (record {
              chunk = found.entry.name;
              segment = segment_of pointer;
              place = offset_of pointer;
            }))))
            (λ any. subst (λ n. Steps (core_of reclaimed) l any (command.Reclaim k) (Reclaimed (Some (record {
              chunk = n;
              segment = segment_of pointer;
              place = offset_of pointer;
            })))) (ap (λ (e : ChunkEntry). e.name) (sym (entry_is l r))) (steps l r any))
