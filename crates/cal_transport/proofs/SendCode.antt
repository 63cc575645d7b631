-- A send, from what the calls on the port and the tables say: the state in which the chunk has joined the queue,
-- which is the one after a send with room, and from which the oldest leaves by overflow.
use Rattle.std.proofs.Common.{ℕ, ◌+◌, ◌*◌, ◌^◌, ◌<◌, ◌≤◌, ◌≡◌, Bool, true, false, nat_eq, nat_le, [], ◌∷◌, ◌++◌, length, set, get_or, Some, None, refl, sym, ap, ◌∙◌, subst, arith}
use Rattle.std.proofs.Math.Nat.{mul-le-mul_left}
use Rattle.std.proofs.lemmas.Bool.{eqb-true, eqb-false}
use Rattle.std.proofs.lemmas.List.{get_or-set_same, get_or-set_other, length-set, length-map}
use Rattle.cal_queue.specs.Queue.{after_push, is_full}
use Rattle.cal_connection.specs.declared.settings.ConnectionSettings.{ConnectionSettings}
use Rattle.cal_connection.specs.Channel.{ChannelEntry, Shape, with_entry, shape}
use Rattle.cal_connection.specs.Port.{port_at, channel_of, with_channel_of, settings_at}
use Rattle.cal_connection.specs.PortLemmas.{length-segments, samples-segment_at}
use Rattle.cal_connection.specs.ShapeLemmas.{samples-with_entry}
use Rattle.cal_transport.specs.declared.command.Command.TheVariants as command
use Rattle.cal_transport.specs.declared.settings.Settings.{Settings}
use Rattle.cal_transport.specs.declared.reply.Reply.{Reply}
use Rattle.cal_transport.specs.declared.transport.chunk_entry.ChunkEntry.{ChunkEntry}
use Rattle.cal_transport.specs.declared.transport.sender.Sample.{Sample}
use Rattle.cal_transport.specs.Ledger.{Ledger, layout_at, queued_names}
use Rattle.cal_transport.specs.Cause.{is_buffer_full}
use Rattle.cal_transport.specs.Sample.{IsSample}
use Rattle.cal_transport.specs.Weights.{transits}
use Rattle.cal_transport.specs.Shown.{pointer_to, pointer_named}
use Rattle.cal_transport.specs.State.{TransportState, core_of, IsLinked, Represents}
use Rattle.cal_transport.proofs.Settled.{settled}
use Rattle.cal_transport.proofs.Changing.{le_true, le_false}
use Rattle.cal_transport.proofs.Finding.{IsChunk}
use Rattle.cal_transport.proofs.PortCalls.{sender_channels, channel_here, channel_else, links_after}
use Rattle.cal_transport.proofs.Represented.{IsPlaceless}
use Rattle.cal_transport.proofs.Marks.{mark_below}
use Rattle.cal_transport.proofs.SendRefusals.{of, has, send_pointer, send_size, send_lies, send_bucket, may_send_it}
use Rattle.cal_transport.proofs.SendStep.{MaySend, Marks, SendsAt}
use Rattle.cal_transport.proofs.SentMarks.{marks}
use Rattle.cal_transport.proofs.Stands.{HasHistory}
use Rattle.cal_transport.proofs.TransitCounts.{few_channels, few_in_transit, few_on}

-- as many are queued as may be where as many wait as may
same_full : (long capacity queued buffer : ℕ) → long ≡ queued → capacity ≡ buffer → queued ≤ buffer →
    nat_eq long capacity ≡ nat_le buffer queued
same_full long capacity queued buffer a b most =
    ap (λ n. nat_eq n capacity) a ∙ ap (nat_eq queued) b ∙ go (nat_eq queued buffer) refl
  where
    go : (c : Bool) → nat_eq queued buffer ≡ c → nat_eq queued buffer ≡ nat_le buffer queued
    go true e = let same = eqb-true queued buffer e in e ∙ sym (le_true buffer queued (omega arith))
    go false e = let apart = eqb-false queued buffer e in e ∙ sym (le_false buffer queued (omega (arith, apart)))

module _ (t : TransportState) (linked : IsLinked t) (k name : ℕ) (sample : Sample) (is : IsSample t k name sample) where
  abbrev pub ch : ChannelEntry
  ch = channel_of t.connection_registry t.sender.handle k

  pub placeless : (l : Ledger) (reply : Reply) → IsPlaceless l (command.Send k name) reply
  placeless l reply None a b = refl
  placeless l reply (Some why) a b = refl

  abbrev pub the : (l : Ledger) (r : Represents t l) → IsChunk l name sample.found.index sample.found.entry
  the l r = of t k name sample.found is.found l r

  abbrev pub history_at : (l : Ledger) (r : Represents t l) → HasHistory l k
  history_at l r = has t k name sample.found is.found is.loaned linked is.channel is.segment is.bucket sample.pointer
      sample.size is.pointer is.size l r

  abbrev pub may : (l : Ledger) (r : Represents t l) → MaySend l (history_at l r).history
  may l r = may_send_it t k name sample.found is.found is.loaned linked is.channel is.segment is.bucket sample.pointer
      sample.size is.pointer is.size is.unused l r

  pub pointer_is : (l : Ledger) (r : Represents t l) → sample.pointer ≡ pointer_to l (the l r).chunk
  pointer_is l r = send_pointer t k name sample.found is.found is.loaned linked is.channel is.segment is.bucket
      sample.pointer sample.size is.pointer is.size l r

  size_is : (l : Ledger) (r : Represents t l) → sample.size ≡ (layout_at l (the l r).chunk.segment).size
  size_is l r = send_size t k name sample.found is.found is.loaned linked is.channel is.segment is.bucket
      sample.pointer sample.size is.pointer is.size l r

  -- ---- whether the queue is full

  pub full_tells : (l : Ledger) (r : Represents t l) →
      is_full ch.submission ≡ is_buffer_full l (history_at l r).history
  full_tells l r =
      let h = history_at l r in
      let was = r.shows.channels k h.history h.here in
      same_full (length ch.submission.values) ch.submission.capacity (length (queued_names h.history))
      l.settings.buffer
      (ap length was.queued ∙ length-map (queued_names h.history) (pointer_named l))
      (ap (λ (s : Shape). s.submission) was.shape)
      (let limits = (r.sound.histories k h.history h.here).limits in limits.queued)

  pub overflow_is : (settings_at t.connection_registry t.sender.handle).enable_safe_overflow ≡ t.settings.overflow
  overflow_is = ap (λ (s : ConnectionSettings). s.enable_safe_overflow) linked.ports.settings_are

  -- ---- what is counted

  room_of_channels : (l : Ledger) (r : Represents t l) →
      l.settings.channels * (l.settings.segments * l.settings.samples) < 2 ^ 63
  room_of_channels l r =
      let most = subst (λ (s : Settings). s.samples * s.segments * s.channels < 2 ^ 63) r.shows.settings linked.pairs in
      omega arith

  pub all_counted : (l : Ledger) (r : Represents t l) → t.in_transit < 2 ^ 63
  all_counted l r =
      let few = few_in_transit l (settled l r.place r.sound) in
      let room = room_of_channels l r in
      let is = r.tracks.in_transit in omega arith

  pub channel_counted : (l : Ledger) (r : Represents t l) → get_or t.transits k 0 < 2 ^ 63
  channel_counted l r =
      let h = history_at l r in
      let few = few_in_transit l (settled l r.place r.sound) in
      let on = few_on l (settled l r.place r.sound) k h.history h.here in
      let room = room_of_channels l r in
      let is = (r.tracks.channels k h.history h.here).transits in omega arith

  pub entry_counted : (l : Ledger) (r : Represents t l) → sample.found.entry.transits < 2 ^ 63
  entry_counted l r =
      let few = few_channels l (settled l r.place r.sound) (the l r).chunk.name in
      let room = room_of_channels l r in
      let mark = mark_below l.settings.segments l.settings.samples (the l r).chunk.segment (the l r).chunk.bucket
      (may l r).within_segments (may l r).within_samples in
      let some : 1 ≤ l.settings.segments * l.settings.samples = omega arith in
      let most = mul-le-mul_left l.settings.channels some in
      subst (λ (e : ChunkEntry). e.transits < 2 ^ 63) (sym (the l r).entry_is) (omega arith)

  -- ---- the chunk has joined the queue

  abbrev pub joined : ChannelEntry
  joined = record ch {
    submission = after_push ch.submission sample.pointer;
    segments = with_entry ch.segments sample.pointer sample.size;
  }

  abbrev pub sent_entry : ChunkEntry
  sent_entry = record sample.found.entry { sent = true; transits = sample.found.entry.transits + 1 }

  abbrev pub joins : ℕ → TransportState
  joins spare = record t {
    connection_registry = with_channel_of t.connection_registry t.sender.handle k joined;
    entries = set t.entries sample.found.index sent_entry;
    transits = set t.transits k (get_or t.transits k 0 + 1);
    in_transit = t.in_transit + 1;
    spare = spare;
  }

  pub same_shape : shape joined ≡ shape ch
  same_shape = ap (λ ss. record {
    submission = ch.submission.capacity;
    completion = ch.completion.capacity;
    samples = ss;
  }) (samples-with_entry ch.segments sample.pointer sample.size)

  pub channel_joined : channel_of (with_channel_of t.connection_registry t.sender.handle k joined) t.sender.handle k
      ≡ joined
  channel_joined = channel_here t.connection_registry t.sender.handle t.receiver.handle t.settings linked.ports k
      is.channel joined same_shape

  pub joins_linked : (spare : ℕ) → IsLinked (joins spare)
  joins_linked spare = record {
    together = linked.together;
    strategy = linked.strategy;
    ports = links_after t.connection_registry t.sender.handle t.receiver.handle t.settings linked.ports k is.channel
        joined same_shape;
    counts = linked.counts;
    lent = linked.lent;
    transits = length-set t.transits k _ ∙ linked.transits;
    owners = linked.owners;
    tables = linked.tables;
    marks = linked.marks;
    pairs = linked.pairs;
  }

  in_counts : k < length t.transits
  in_counts = let many = linked.transits in let here = is.channel in omega arith

  -- its bucket is marked
  marked : (l : Ledger) (r : Represents t l) → Marks ch.segments joined.segments (the l r).chunk.segment
      (the l r).chunk.bucket (layout_at l (the l r).chunk.segment).size
  marked l r =
      let port = port_at t.connection_registry t.sender.handle in
      let there = sender_channels t.connection_registry t.sender.handle t.receiver.handle t.settings linked.ports k
      is.channel in
      let settings = linked.ports.settings_are in
      let inside : (the l r).chunk.segment < port.settings.number_of_segments =
      subst (λ n. (the l r).chunk.segment < n) (sym (ap (λ (s : ConnectionSettings). s.number_of_segments) settings))
      (subst (λ (s : Settings). (the l r).chunk.segment < s.segments) (sym r.shows.settings) (may l r).within_segments)
      in
      let below : (the l r).chunk.bucket < port.settings.number_of_samples =
      subst (λ n. (the l r).chunk.bucket < n) (sym (ap (λ (s : ConnectionSettings). s.number_of_samples) settings))
      (subst (λ (s : Settings). (the l r).chunk.bucket < s.samples) (sym r.shows.settings) (may l r).within_samples)
      in
      let long = length-segments port linked.ports.sound k there in
      let room = samples-segment_at port linked.ports.sound k (the l r).chunk.segment there inside in
      subst (Marks ch.segments joined.segments (the l r).chunk.segment (the l r).chunk.bucket) (size_is l r)
      (marks ch.segments sample.pointer (the l r).chunk.segment (the l r).chunk.bucket sample.size
      (send_lies t k name sample.found is.found is.loaned linked is.channel is.segment is.bucket sample.pointer
      sample.size is.pointer is.size l r)
      (send_bucket t k name sample.found is.found is.loaned linked is.channel is.segment is.bucket sample.pointer
      sample.size is.pointer is.size l r)
      (subst (λ n. (the l r).chunk.segment < n) (sym long) inside)
      (subst (λ n. (the l r).chunk.bucket < n) (sym room) below))

  pub sends : (spare : ℕ) (l : Ledger) (r : Represents t l) →
      SendsAt l (settled l r.place r.sound) k (history_at l r).history (history_at l r).here (may l r) (core_of t)
      (core_of (joins spare))
  sends spare l r = record {
    settings = refl;
    current = refl;
    active = λ segment. refl;
    opened_last = refl;
    mapped = λ segment. refl;
    others = λ other apart. record {
      channel = channel_else t.connection_registry t.sender.handle t.receiver.handle t.settings linked.ports k
          is.channel joined same_shape other apart;
      borrowed = refl;
    };
    capacity = ap (λ (c : ChannelEntry). c.submission.capacity) channel_joined;
    submission = ap (λ (c : ChannelEntry). c.submission.values) channel_joined
        ∙ ap (λ n. ch.submission.values ++ n ∷ []) (pointer_is l r);
    completion = ap (λ (c : ChannelEntry). c.completion) channel_joined;
    segments = subst (λ (c : ChannelEntry). Marks ch.segments c.segments (the l r).chunk.segment
        (the l r).chunk.bucket (layout_at l (the l r).chunk.segment).size) (sym channel_joined) (marked l r);
    borrowed = refl;
    entries = ap (λ (e : ChunkEntry). set t.entries sample.found.index (record e {
      sent = true;
      transits = e.transits + 1;
    })) (the l r).entry_is;
    other_tracks = λ other apart. record {
      lent = refl;
      transits = get_or-set_other t.transits k other _ 0 apart;
    };
    lent = refl;
    transits = get_or-set_same t.transits k _ 0 in_counts;
    owners = λ segment. refl;
    in_transit = refl;
  }
