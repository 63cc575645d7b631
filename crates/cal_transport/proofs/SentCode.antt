-- A send by the port's answers: refused for want of room, or queued where there is some.
use Rattle.std.proofs.Common.{ℕ, ◌+◌, ◌≤◌, ◌≡◌, Bool, true, false, not, ◌&&◌, List, set, get_or, Option, Some, None, Result, Ok, Err, sym, ap, ◌∙◌, subst, arith}
use Rattle.std.specs.List.{slice_get}
use Rattle.cal_queue.specs.Queue.{is_full, overflow_of}
use Rattle.cal_storage.specs.Contents.{Contents}
use Rattle.cal_connection.specs.declared.errors.ZeroCopySendError.{ZeroCopySendError}
use Rattle.cal_connection.specs.declared.errors.ZeroCopySendError.TheVariants as error
use Rattle.cal_connection.specs.Channel.{ChannelEntry, Shape, is_refused, send_answer, after_send, return_answer}
use Rattle.cal_connection.specs.Port.{PortEntry, SenderEnd, channel_of, with_channel_of, settings_at}
use Rattle.cal_connection.specs.RegistryLemmas.{with_channel_of-present}
use Rattle.cal_transport.specs.declared.command.Command.TheVariants as command
use Rattle.cal_transport.specs.declared.settings.Settings.{Settings}
use Rattle.cal_transport.specs.declared.reply.Reply.TheVariants.{Sent, Refused}
use Rattle.cal_transport.specs.declared.reply.Refusal.TheVariants as refusal
use Rattle.cal_transport.specs.declared.transport.chunk_entry.ChunkEntry.{ChunkEntry}
use Rattle.cal_transport.specs.declared.transport.sender.Sample.{Sample}
use Rattle.cal_transport.specs.Ledger.{Ledger, layout_at, queued_names}
use Rattle.cal_transport.specs.Cause.{cause, is_buffer_full}
use Rattle.cal_transport.specs.Sample.{IsSample}
use Rattle.cal_transport.specs.State.{TransportState, core_of, IsLinked, Represents, DoesAnywhere}
use Rattle.cal_transport.proofs.Settled.{settled}
use Rattle.cal_transport.proofs.Represented.{stands}
use Rattle.cal_transport.proofs.Fronts.{IsFront}
use Rattle.cal_transport.proofs.ReceiveStep.{queue_front}
use Rattle.cal_transport.proofs.ReclaimStep.{names_used_chunk}
use Rattle.cal_transport.proofs.ReturnedCode.{none_returned}
use Rattle.cal_transport.proofs.SendAnswers.{sends_with_room, may_send, send_full, settled_middle, here_middle, stands_middle, overflow_leaves}
use Rattle.cal_transport.proofs.SendCode.{ch, placeless, the, history_at, may, full_tells, overflow_is, joined, sent_entry, joins, channel_joined, joins_linked, sends}
use Rattle.cal_transport.proofs.SendRefusals.{is_loaned, send_inside}
use Rattle.cal_transport.proofs.SendStep.{now, after, sending_shows}
use Rattle.cal_transport.proofs.SentAnswers.{none_leaves, one_leaves, refused_full, accepted, refused_stays, joined_with_room}
use Rattle.cal_transport.proofs.Stands.{Steps}
use Rattle.cal_transport.proofs.Unmarked.{IsUsedEntry, returned_is}

-- ---- what the sender's call says

pub record SendCall (t : TransportState) (k pointer size : ℕ) (answer : Result (Option ℕ) ZeroCopySendError)
    (registry : Contents PortEntry) (sender : SenderEnd) : Type 0 where
  pub answer_is : answer ≡ send_answer (settings_at t.connection_registry t.sender.handle).enable_safe_overflow
      (channel_of t.connection_registry t.sender.handle k) pointer size
  pub registry_is : registry ≡ with_channel_of t.connection_registry t.sender.handle k
      (after_send (settings_at t.connection_registry t.sender.handle).enable_safe_overflow
      (channel_of t.connection_registry t.sender.handle k) pointer size)
  pub sender_is : sender ≡ t.sender

module _ (t : TransportState) (linked : IsLinked t) (k name : ℕ) (sample : Sample) (is : IsSample t k name sample) where
  abbrev channel : ChannelEntry
  channel = ch t linked k name sample is

  abbrev pub overflow : Bool
  overflow = (settings_at t.connection_registry t.sender.handle).enable_safe_overflow

  -- the send is refused for the cause of the ledger
  cause_is : (l : Ledger) (r : Represents t l) →
      (not l.settings.overflow && is_buffer_full l (history_at t linked k name sample is l r).history)
      ≡ is_refused overflow channel
  cause_is l r =
      ap (λ b. not b && is_buffer_full l (history_at t linked k name sample is l r).history)
      (sym (overflow_is t linked k name sample is ∙ ap (λ (s : Settings). s.overflow) r.shows.settings))
      ∙ ap (λ b. not overflow && b) (sym (full_tells t linked k name sample is l r))

  pub capacity_some : (l : Ledger) (r : Represents t l) → 1 ≤ channel.submission.capacity
  capacity_some l r =
      let h = history_at t linked k name sample is l r in
      let room = (settled l r.place r.sound).room.buffer in
      let same = ap (λ (s : Shape). s.submission) (r.shows.channels k h.history h.here).shape in omega arith

  -- the oldest of the queue
  abbrev pub front_at : (l : Ledger) (r : Represents t l) (back : ℕ) →
      slice_get channel.submission.values 0 ≡ Some back →
      IsFront l (history_at t linked k name sample is l r).history
      (queued_names (history_at t linked k name sample is l r).history) back
  front_at l r back first = queue_front (core_of t) l (settled l r.place r.sound) k
      (history_at t linked k name sample is l r) back r.shows first

  -- its sample is in use also once the chunk has joined
  pub used_entry : (l : Ledger) (r : Represents t l) (back : ℕ)
      (first : slice_get channel.submission.values 0 ≡ Some back) →
      IsUsedEntry (joined t linked k name sample is).segments back (front_at l r back first).chunk.segment
      (front_at l r back first).chunk.bucket (layout_at l (front_at l r back first).chunk.segment).size
  used_entry l r back first =
      let s = settled l r.place r.sound in
      let h = history_at t linked k name sample is l r in
      let m = may t linked k name sample is l r in
      let f = front_at l r back first in
      subst (λ (c : ChannelEntry). IsUsedEntry c.segments back f.chunk.segment f.chunk.bucket
      (layout_at l f.chunk.segment).size) (channel_joined t linked k name sample is)
      (names_used_chunk (core_of (joins t linked k name sample is 0)) (after l s k h.history h.here m)
      (settled_middle l s k h.history h.here m back f) k (now l s k h.history h.here m)
      (here_middle l s k h.history h.here m back f)
      (sending_shows l s k h.history h.here m (core_of t) (core_of (joins t linked k name sample is 0))
      (sends t linked k name sample is 0 l r) r.shows r.tracks) f.index f.chunk back
      (stands_middle l s k h.history h.here m back f) (overflow_leaves l s k h.history h.here m back f).was
      f.pointer_is)

  -- ---- no room

  module _ (e : ZeroCopySendError) (registry : Contents PortEntry) (sender : SenderEnd)
      (call : SendCall t k sample.pointer sample.size (Err e) registry sender) where
    refused : (l : Ledger) (r : Represents t l) → is_refused overflow channel ≡ true
    refused l r = refused_full overflow channel sample.pointer sample.size e call.answer_is
        (λ back leaves.
        (let first = (one_leaves channel.submission back leaves).1 in
        let f = front_at l r back first in
        returned_is (joined t linked k name sample is).segments back f.chunk.segment f.chunk.bucket
        (layout_at l f.chunk.segment).size (used_entry l r back first) error.ConnectionCorrupted))

    pub send_full_state : (l : Ledger) (r : Represents t l) →
        record t { connection_registry = registry; sender = sender } ≡ t
    send_full_state l r =
        ap (λ c. record t { connection_registry = c; sender = sender })
        (call.registry_is
        ∙ ap (with_channel_of t.connection_registry t.sender.handle k)
        (refused_stays overflow channel sample.pointer sample.size (refused l r))
        ∙ with_channel_of-present t.connection_registry t.sender.handle k linked.ports.has_sender)
        ∙ ap (λ x. record t { sender = x }) call.sender_is

    pub send_full_does : DoesAnywhere t (command.Send k name) (Refused refusal.ReceiveBufferFull) t
    send_full_does place l r =
        let h = history_at t linked k name sample is l r in
        let c = the t linked k name sample is l r in
        stands t l (command.Send k name) (Refused refusal.ReceiveBufferFull) r.place place r.sound
        (placeless t linked k name sample is l (Refused refusal.ReceiveBufferFull))
        (λ any. subst (λ n. Steps (core_of t) l any (command.Send k n) (Refused refusal.ReceiveBufferFull))
        c.same_name
        (send_full (core_of t) l any k h.history c.chunk r.shows r.tracks h.on
        (is_loaned t k name sample.found is.found is.loaned l r)
        (send_inside t k name sample.found is.found is.loaned linked is.channel is.segment is.bucket sample.pointer
        sample.size is.pointer is.size l r)
        (may t linked k name sample is l r).away (cause_is l r ∙ refused l r)))

  -- ---- no cause

  pub no_cause : (l : Ledger) (r : Represents t l) → is_refused overflow channel ≡ false →
      cause l (command.Send k (the t linked k name sample is l r).chunk.name) ≡ None
  no_cause l r kept =
      let h = history_at t linked k name sample is l r in
      may_send l k h.history (the t linked k name sample is l r).chunk h.on
      (is_loaned t k name sample.found is.found is.loaned l r)
      (send_inside t k name sample.found is.found is.loaned linked is.channel is.segment is.bucket sample.pointer
      sample.size is.pointer is.size l r)
      (may t linked k name sample is l r).away (cause_is l r ∙ kept)

  -- ---- the queue has room

  module _ (registry : Contents PortEntry) (sender : SenderEnd)
      (call : SendCall t k sample.pointer sample.size (Ok None) registry sender) (entries : List ChunkEntry)
      (entries_are : entries ≡ set t.entries sample.found.index (sent_entry t linked k name sample is))
      (counts : List ℕ) (counts_are : counts ≡ set t.transits k (get_or t.transits k 0 + 1)) (spare : ℕ) where
    abbrev pub sent : TransportState
    sent = record t {
      connection_registry = registry;
      sender = sender;
      entries = entries;
      transits = counts;
      in_transit = t.in_transit + 1;
      spare = spare;
    }

    kept : (is_refused overflow channel ≡ false) × (Ok None ≡ return_answer error.ConnectionCorrupted
        (joined t linked k name sample is).segments (overflow_of channel.submission))
    kept = accepted overflow channel sample.pointer sample.size None call.answer_is

    room : (l : Ledger) (r : Represents t l) → is_full channel.submission ≡ false
    room l r = none_leaves channel.submission (capacity_some l r)
        (none_returned error.ConnectionCorrupted (joined t linked k name sample is).segments
        (overflow_of channel.submission) kept.1)

    sent_is : (l : Ledger) (r : Represents t l) → sent ≡ joins t linked k name sample is spare
    sent_is l r =
        ap (λ c. record sent { connection_registry = c })
        (call.registry_is ∙ ap (with_channel_of t.connection_registry t.sender.handle k)
        (joined_with_room overflow channel sample.pointer sample.size kept.0 (room l r)))
        ∙ ap (λ x. record (joins t linked k name sample is spare) {
          sender = x;
          entries = entries;
          transits = counts;
        }) call.sender_is
        ∙ ap (λ es. record (joins t linked k name sample is spare) { entries = es; transits = counts }) entries_are
        ∙ ap (λ ns. record (joins t linked k name sample is spare) { transits = ns }) counts_are

    pub sent_linked : (l : Ledger) (r : Represents t l) → IsLinked sent
    sent_linked l r = subst IsLinked (sym (sent_is l r)) (joins_linked t linked k name sample is spare)

    pub sent_does : DoesAnywhere t (command.Send k name) (Sent None) sent
    sent_does place l r =
        let s = settled l r.place r.sound in
        let h = history_at t linked k name sample is l r in
        let m = may t linked k name sample is l r in
        let c = the t linked k name sample is l r in
        stands sent l (command.Send k name) (Sent None) r.place place r.sound
        (placeless t linked k name sample is l (Sent None))
        (λ any. subst (λ n. Steps (core_of n) l any (command.Send k name) (Sent None)) (sym (sent_is l r))
        (subst (λ n. Steps (core_of (joins t linked k name sample is spare)) l any (command.Send k n) (Sent None))
        c.same_name
        (sends_with_room l s k h.history h.here m (core_of t) (core_of (joins t linked k name sample is spare)) any
        r.shows r.tracks h.on (no_cause l r kept.0)
        (sym (full_tells t linked k name sample is l r) ∙ room l r) (sends t linked k name sample is spare l r))))
