-- A send by its answers: refused, queued, or queued in the place of the oldest.
use Rattle.std.proofs.Common.{ℕ, ◌-◌, ◌<◌, ◌≡◌, ◌≢◌, true, false, cond, not, ◌&&◌, ◌||◌, nat_le, nat_lt, List, [], ◌∷◌, ◌++◌, length, map, drop, set, Option, Some, None, inl, refl, sym, ap, ◌∙◌, arith, set-set}
use Rattle.std.specs.List.{slice_get}
use Rattle.std.proofs.lemmas.Bool.{true≢false}
use Rattle.std.proofs.lemmas.List.{append-nil}
use Rattle.std.proofs.lemmas.Option.{same_Some}
use Rattle.cal_alloc.specs.PointerOffset.{offset_of, segment_of}
use Rattle.cal_connection.specs.Channel as channel
use Rattle.cal_transport.specs.declared.command.Command.TheVariants as command
use Rattle.cal_transport.specs.declared.reply.Reply.{Reply}
use Rattle.cal_transport.specs.declared.reply.Reply.TheVariants.{Sent, Refused}
use Rattle.cal_transport.specs.declared.reply.Refusal.TheVariants as refusal
use Rattle.cal_transport.specs.Ledger.{Ledger, Chunk, ChannelHistory, Departure, ByOverflow, history_on, occurrences, is_in_transit, queued_names, loaned_chunk}
use Rattle.cal_transport.specs.Soundness.{weight, IsOrderly}
use Rattle.cal_transport.specs.Cause.{cause, send_cause, is_channel_outside, is_bucket_outside, is_buffer_full}
use Rattle.cal_transport.specs.Step.{with_history, with_chunk, history_after_send, name_sent_back, front, slot_named, after_command}
use Rattle.cal_transport.specs.Core.{Core}
use Rattle.cal_transport.specs.Shown.{Shows, Tracks, pointer_named}
use Rattle.cal_transport.proofs.Changing.{le_false}
use Rattle.cal_transport.proofs.Histories.{history_after_overflow, queued-overflowed, received-overflowed, weight-overflowed}
use Rattle.cal_transport.proofs.Lists.{set_there, slice_get-set_same, slice_get-set_else}
use Rattle.cal_transport.proofs.Names.{is_in_transit-weight, occurrences_here, occurrences_else, queued-sent_on}
use Rattle.cal_transport.proofs.Steps.{changed_chunk-at}
use Rattle.cal_transport.proofs.Settled.{IsSettled}
use Rattle.cal_transport.proofs.Changed.{Changes, changed}
use Rattle.cal_transport.proofs.Channels.{MovesTo}
use Rattle.cal_transport.proofs.Fronts.{IsFront, slot_at}
use Rattle.cal_transport.proofs.LeavingStep.{Leaves, leaving, LeavesAt, leaving_changes, leaving_shows, leaving_tracks}
use Rattle.cal_transport.proofs.ReclaimStep.{no_weight}
use Rattle.cal_transport.proofs.SendStep.{MaySend, SendsAt, sent_chunk, sending, else_transit, sending_settled, sending_shows, sending_tracks}
use Rattle.cal_transport.proofs.Unmarked.{Unmarks}
use Rattle.cal_transport.proofs.Stands.{Steps, refused, done}

-- ---- causes

-- of a loaned chunk the channel, the bucket, its way and the queue decide
pub send_decides : (l : Ledger) (k : ℕ) (h : ChannelHistory) (chunk : Chunk) → history_on l k ≡ h →
    loaned_chunk l chunk.name ≡ Some chunk →
    cause l (command.Send k chunk.name) ≡ cond (is_channel_outside l k || is_bucket_outside l chunk)
    (Some refusal.OutsideConnection)
    (cond (is_in_transit h chunk.name) (Some refusal.AlreadyInTransit)
    (cond (not l.settings.overflow && is_buffer_full l h) (Some refusal.ReceiveBufferFull) None))
send_decides l k h chunk on loaned =
    ap (send_cause l k) loaned
    ∙ ap (λ e. cond (is_channel_outside l k || is_bucket_outside l chunk) (Some refusal.OutsideConnection)
    (cond (is_in_transit e chunk.name) (Some refusal.AlreadyInTransit)
    (cond (not l.settings.overflow && is_buffer_full l e) (Some refusal.ReceiveBufferFull) None))) on

pub send_unloaned : (p : Core) (l : Ledger) (place k name : ℕ) → Shows p l → Tracks p l →
    loaned_chunk l name ≡ None → Steps p l place (command.Send k name) (Refused refusal.NotLoaned)
send_unloaned p l place k name shows tracks none =
    refused p l place (command.Send k name) refusal.NotLoaned shows tracks (ap (send_cause l k) none)

pub send_outside : (p : Core) (l : Ledger) (place k : ℕ) (chunk : Chunk) → Shows p l → Tracks p l →
    loaned_chunk l chunk.name ≡ Some chunk → (is_channel_outside l k || is_bucket_outside l chunk) ≡ true →
    Steps p l place (command.Send k chunk.name) (Refused refusal.OutsideConnection)
send_outside p l place k chunk shows tracks loaned outside =
    refused p l place (command.Send k chunk.name) refusal.OutsideConnection shows tracks
    (send_decides l k (history_on l k) chunk refl loaned
    ∙ ap (λ b. cond b (Some refusal.OutsideConnection)
    (cond (is_in_transit (history_on l k) chunk.name) (Some refusal.AlreadyInTransit)
    (cond (not l.settings.overflow && is_buffer_full l (history_on l k)) (Some refusal.ReceiveBufferFull) None)))
    outside)

-- the channel is there, and the connection can name the bucket
pub record IsInside (l : Ledger) (k : ℕ) (chunk : Chunk) : Type 0 where
  pub channel : k < l.settings.channels
  pub segment : chunk.segment < l.settings.segments
  pub bucket : chunk.bucket < l.settings.samples

pub is_inside : (l : Ledger) (k : ℕ) (chunk : Chunk) → IsInside l k chunk →
    (is_channel_outside l k || is_bucket_outside l chunk) ≡ false
is_inside l k chunk i =
    ap (λ b. b || is_bucket_outside l chunk) (le_false l.settings.channels k i.channel)
    ∙ ap (λ b. b || nat_le l.settings.samples chunk.bucket) (le_false l.settings.segments chunk.segment i.segment)
    ∙ le_false l.settings.samples chunk.bucket i.bucket

send_within : (l : Ledger) (k : ℕ) (h : ChannelHistory) (chunk : Chunk) → history_on l k ≡ h →
    loaned_chunk l chunk.name ≡ Some chunk → IsInside l k chunk →
    cause l (command.Send k chunk.name) ≡ cond (is_in_transit h chunk.name) (Some refusal.AlreadyInTransit)
    (cond (not l.settings.overflow && is_buffer_full l h) (Some refusal.ReceiveBufferFull) None)
send_within l k h chunk on loaned inside =
    send_decides l k h chunk on loaned
    ∙ ap (λ b. cond b (Some refusal.OutsideConnection)
    (cond (is_in_transit h chunk.name) (Some refusal.AlreadyInTransit)
    (cond (not l.settings.overflow && is_buffer_full l h) (Some refusal.ReceiveBufferFull) None)))
    (is_inside l k chunk inside)

pub send_again : (p : Core) (l : Ledger) (place k : ℕ) (h : ChannelHistory) (chunk : Chunk) → Shows p l → Tracks p l →
    history_on l k ≡ h → loaned_chunk l chunk.name ≡ Some chunk → IsInside l k chunk →
    is_in_transit h chunk.name ≡ true →
    Steps p l place (command.Send k chunk.name) (Refused refusal.AlreadyInTransit)
send_again p l place k h chunk shows tracks on loaned inside transit =
    refused p l place (command.Send k chunk.name) refusal.AlreadyInTransit shows tracks
    (send_within l k h chunk on loaned inside
    ∙ ap (λ b. cond b (Some refusal.AlreadyInTransit)
    (cond (not l.settings.overflow && is_buffer_full l h) (Some refusal.ReceiveBufferFull) None)) transit)

send_away : (l : Ledger) (k : ℕ) (h : ChannelHistory) (chunk : Chunk) → history_on l k ≡ h →
    loaned_chunk l chunk.name ≡ Some chunk → IsInside l k chunk → is_in_transit h chunk.name ≡ false →
    cause l (command.Send k chunk.name)
    ≡ cond (not l.settings.overflow && is_buffer_full l h) (Some refusal.ReceiveBufferFull) None
send_away l k h chunk on loaned inside away =
    send_within l k h chunk on loaned inside
    ∙ ap (λ b. cond b (Some refusal.AlreadyInTransit)
    (cond (not l.settings.overflow && is_buffer_full l h) (Some refusal.ReceiveBufferFull) None)) away

pub send_full : (p : Core) (l : Ledger) (place k : ℕ) (h : ChannelHistory) (chunk : Chunk) → Shows p l → Tracks p l →
    history_on l k ≡ h → loaned_chunk l chunk.name ≡ Some chunk → IsInside l k chunk →
    is_in_transit h chunk.name ≡ false → (not l.settings.overflow && is_buffer_full l h) ≡ true →
    Steps p l place (command.Send k chunk.name) (Refused refusal.ReceiveBufferFull)
send_full p l place k h chunk shows tracks on loaned inside away full =
    refused p l place (command.Send k chunk.name) refusal.ReceiveBufferFull shows tracks
    (send_away l k h chunk on loaned inside away ∙ ap (λ b. cond b (Some refusal.ReceiveBufferFull) None) full)

pub may_send : (l : Ledger) (k : ℕ) (h : ChannelHistory) (chunk : Chunk) → history_on l k ≡ h →
    loaned_chunk l chunk.name ≡ Some chunk → IsInside l k chunk → is_in_transit h chunk.name ≡ false →
    (not l.settings.overflow && is_buffer_full l h) ≡ false → cause l (command.Send k chunk.name) ≡ None
may_send l k h chunk on loaned inside away room =
    send_away l k h chunk on loaned inside away ∙ ap (λ b. cond b (Some refusal.ReceiveBufferFull) None) room

-- ---- the queue has room

module _ (l : Ledger) (s : IsSettled l) (k : ℕ) (h : ChannelHistory) (here : slice_get l.histories k ≡ Some h)
    (m : MaySend l h) where
  abbrev name : ℕ
  name = m.chunk.name

  -- what a send makes of the ledger, by what it takes back
  sent_ledger : (place : ℕ) (reply : Reply) (back : Option ℕ) → history_on l k ≡ h → name_sent_back l h ≡ back →
      after_command l place (command.Send k name) reply ≡ record l {
        chunks = set l.chunks m.index (sent_chunk m.chunk);
        histories = set l.histories k (history_after_send h name back);
      }
  sent_ledger place reply back on is =
      ap (λ e. with_chunk (with_history l k (history_after_send e name (name_sent_back l e))) name sent_chunk) on
      ∙ ap (λ o. with_chunk (with_history l k (history_after_send h name o)) name sent_chunk) is
      ∙ ap (λ chunks. record l { chunks = chunks; histories = set l.histories k (history_after_send h name back) })
      (changed_chunk-at l.chunks m.index m.chunk sent_chunk m.stands
      (λ j d there apart. s.names j m.index d m.chunk there m.stands apart))

  -- what it answers
  sent_owes : (back : Option ℕ) → history_on l k ≡ h → name_sent_back l h ≡ back →
      Sent (slot_named l back) ≡ Sent (slot_named l (name_sent_back l (history_on l k)))
  sent_owes back on is =
      ap (λ o. Sent (slot_named l o)) (sym is)
      ∙ ap (λ e. Sent (slot_named l (name_sent_back l e))) (sym on)

  pub sends_with_room : (p p' : Core) (place : ℕ) → Shows p l → Tracks p l → history_on l k ≡ h →
      cause l (command.Send k name) ≡ None → is_buffer_full l h ≡ false → SendsAt l s k h here m p p' →
      Steps p' l place (command.Send k name) (Sent None)
  sends_with_room p p' place shows tracks on none room r =
      let back : name_sent_back l h ≡ None = ap (λ b. cond b (front (queued_names h)) None) room in
      done p' l (changed l (sending l s k h here m)) place (command.Send k name) (Sent None) none
      (sent_owes None on back) (sent_ledger place (Sent None) None on back)
      (sending_shows l s k h here m p p' r shows tracks) (sending_tracks l s k h here m p p' r shows tracks)

  -- ---- the oldest makes room

  module _ (pointer : ℕ) (f : IsFront l h (queued_names h) pointer) where
    abbrev now : ChannelHistory
    now = history_after_send h name None

    abbrev middle : Ledger
    middle = changed l (sending l s k h here m)

    orderly : IsOrderly h
    orderly = s.orderly k h here

    pub settled_middle : IsSettled middle
    settled_middle = sending_settled l s k h here m

    pub here_middle : slice_get middle.histories k ≡ Some now
    here_middle = slice_get-set_same l.histories k h now here

    -- the oldest isn't the chunk that is sent
    apart : f.index ≢ m.index
    apart same =
        let is : f.chunk ≡ m.chunk =
        same_Some f.chunk m.chunk (sym f.stands ∙ ap (slice_get l.chunks) same ∙ m.stands) in
        true≢false (sym f.transit ∙ ap (λ (d : Chunk). is_in_transit h d.name) is ∙ m.away)

    other_name : f.chunk.name ≢ name
    other_name = s.names f.index m.index f.chunk m.chunk f.stands m.stands apart

    pub stands_middle : slice_get middle.chunks f.index ≡ Some f.chunk
    stands_middle = slice_get-set_else l.chunks m.index f.index (sent_chunk m.chunk) apart ∙ f.stands

    names_middle : queued_names now ≡ f.chunk.name ∷ f.rest ++ name ∷ []
    names_middle = queued-sent_on h name orderly ∙ ap (λ ns. ns ++ name ∷ []) f.names_are

    abbrev end : ChannelHistory
    end = history_after_overflow now f.chunk.name

    pub overflow_leaves : Leaves now end f.chunk
    overflow_leaves = record {
      was = else_transit l s k h here m f.chunk.name other_name ∙ f.transit;
      gone = no_weight end f.chunk.name (
          let w = weight-overflowed now f.chunk.name (f.rest ++ name ∷ []) f.chunk.name names_middle in
          let one = occurrences_here f.chunk.name [] in
          let o = settled_middle.orderly k now here_middle in
          let once = o.once f.chunk.name in omega arith);
      else = λ other elsewhere. is_in_transit-weight end other
          ∙ ap (nat_lt 0) (let w = weight-overflowed now f.chunk.name (f.rest ++ name ∷ []) other names_middle in
          let none = occurrences_else other f.chunk.name [] (λ e. elsewhere (sym e)) in
          let same : weight end other ≡ weight now other = omega arith in same)
          ∙ sym (is_in_transit-weight now other);
      borrowed = λ other. ap (λ names. nat_lt (occurrences other h.released) (occurrences other names))
          (received-overflowed now f.chunk.name);
    }

    -- the oldest has left the queue, and its bucket isn't in use there any more
    pub record OverflowsAt (p p' : Core) : Type 0 where
      pub capacity : (p'.channel k).submission.capacity ≡ (p.channel k).submission.capacity
      pub submission : (p'.channel k).submission.values ≡ drop 1 (p.channel k).submission.values
      pub completion : (p'.channel k).completion ≡ (p.channel k).completion
      pub segments : Unmarks (p.channel k).segments (p'.channel k).segments f.chunk.segment f.chunk.bucket
      pub borrowed : p'.borrowed k ≡ p.borrowed k

    abbrev leaves_changes : Changes middle (leaving middle k f.index now end f.chunk)
    leaves_changes =
        leaving_changes middle settled_middle k f.index now end f.chunk here_middle stands_middle overflow_leaves

    moves : (p p' : Core) → OverflowsAt p p' → Shows p middle →
        MovesTo middle (leaving middle k f.index now end f.chunk) leaves_changes p p'
    moves p p' r shows =
        let was = shows.channels k now here_middle in
        record {
          shape =
              ap (λ n. record {
                submission = n;
                completion = (p'.channel k).completion.capacity;
                samples = map channel.samples_of (p'.channel k).segments;
              }) r.capacity
              ∙ ap (λ (q : channel.Queue). record {
                submission = (p.channel k).submission.capacity;
                completion = q.capacity;
                samples = map channel.samples_of (p'.channel k).segments;
              }) r.completion
              ∙ ap (λ ss. record {
                submission = (p.channel k).submission.capacity;
                completion = (p.channel k).completion.capacity;
                samples = ss;
              }) r.segments.samples;
          queued = r.submission ∙ ap (drop 1) was.queued
              ∙ ap (λ names. drop 1 (map (pointer_named middle) names)) names_middle
              ∙ ap (map (pointer_named middle))
              (sym (queued-overflowed now f.chunk.name (f.rest ++ name ∷ []) names_middle));
          completed = ap (λ (q : channel.Queue). q.values) r.completion ∙ was.completed;
          borrowed = r.borrowed ∙ was.borrowed
              ∙ ap (λ (names : List ℕ). length names - length h.released)
              (sym (received-overflowed now f.chunk.name));
          used_else = λ segment bucket outside. r.segments.else segment bucket outside;
          used_here = r.segments.here ∙ sym overflow_leaves.gone;
          sizes_else = λ segment elsewhere. r.segments.sizes segment;
          sizes_here = inl (r.segments.sizes f.chunk.segment);
          sizes_told = λ is not. absurd (true≢false (sym overflow_leaves.was ∙ not));
        }

    end_is : history_after_send h name (Some f.chunk.name) ≡ end
    end_is = ap (λ (ds : List Departure). record h {
      sent = h.sent ++ name ∷ [];
      departures = ds ++ ByOverflow f.chunk.name ∷ [];
    }) (sym (append-nil h.departures))

    made : (place : ℕ) (reply : Reply) → history_on l k ≡ h → name_sent_back l h ≡ Some f.chunk.name →
        after_command l place (command.Send k name) reply ≡ changed middle (leaving middle k f.index now end f.chunk)
    made place reply on back =
        sent_ledger place reply (Some f.chunk.name) on back
        ∙ ap (λ e. record l {
          chunks = set l.chunks m.index (sent_chunk m.chunk);
          histories = set l.histories k e;
        }) end_is
        ∙ ap (λ hs. record l { chunks = set l.chunks m.index (sent_chunk m.chunk); histories = hs })
        (sym (set-set l.histories k now end))
        ∙ ap (λ chunks. record l { chunks = chunks; histories = set (set l.histories k now) k end })
        (sym (set_there middle.chunks f.index f.chunk stands_middle))

    abbrev reply : Reply
    reply = Sent (Some (record { chunk = f.chunk.name; segment = segment_of pointer; place = offset_of pointer }))

    pub sends_over : (p q p' : Core) (place : ℕ) → Shows p l → Tracks p l → history_on l k ≡ h →
        cause l (command.Send k name) ≡ None → is_buffer_full l h ≡ true → SendsAt l s k h here m p q →
        OverflowsAt q p' →
        LeavesAt middle settled_middle k f.index now end f.chunk here_middle stands_middle overflow_leaves q p' →
        Steps p' l place (command.Send k name) (Sent (Some (record {
          chunk = f.chunk.name;
          segment = segment_of pointer;
          place = offset_of pointer;
        })))
    sends_over p q p' place shows tracks on none full r o leaves =
        let back : name_sent_back l h ≡ Some f.chunk.name =
        ap (λ b. cond b (front (queued_names h)) None) full ∙ ap front f.names_are in
        let shows_middle = sending_shows l s k h here m p q r shows tracks in
        let tracks_middle = sending_tracks l s k h here m p q r shows tracks in
        let at = moves q p' o shows_middle in
        done p' l (changed middle (leaving middle k f.index now end f.chunk)) place (command.Send k name) reply none
        (ap Sent (sym (slot_at l s f.index f.chunk (queued_names h) f.rest pointer f.stands f.names_are f.pointer_is))
        ∙ ap (λ names. Sent (slot_named l (front names))) f.names_are
        ∙ sent_owes (Some f.chunk.name) on back)
        (made place reply on back)
        (leaving_shows middle settled_middle k f.index now end f.chunk here_middle stands_middle overflow_leaves q p'
        leaves at shows_middle tracks_middle)
        (leaving_tracks middle settled_middle k f.index now end f.chunk here_middle stands_middle overflow_leaves q p'
        leaves at shows_middle tracks_middle)
