-- A receive is a step.
use Rattle.std.proofs.Common.{ℕ, ◌+◌, ◌*◌, ◌<◌, ◌≤◌, ◌≡◌, ◌≢◌, true, cond, ◌||◌, nat_le, nat_lt, [], map, drop, set, Some, None, inl, refl, sym, ap, ◌∙◌, subst, arith}
use Rattle.std.specs.List.{slice_get}
use Rattle.std.proofs.lemmas.Bool.{true≢false, le-leb, ne_eqb, eq-eqb}
use Rattle.std.proofs.lemmas.List.{append-nil, length-set}
use Rattle.cal_alloc.specs.PointerOffset.{offset_of, segment_of}
use Rattle.cal_queue.specs.Queue.{after_pop}
use Rattle.cal_queue.specs.UsedChunks.{contains, capacity_of, after_insertion}
use Rattle.cal_connection.specs.Channel as channel
use Rattle.cal_transport.specs.declared.command.Command.TheVariants as command
use Rattle.cal_transport.specs.declared.reply.Reply.{Reply}
use Rattle.cal_transport.specs.declared.reply.Reply.TheVariants.{Received, Refused}
use Rattle.cal_transport.specs.declared.reply.Refusal.TheVariants.{OutsideConnection, ReceiveWouldExceedMaxBorrowValue}
use Rattle.cal_transport.specs.Ledger.{Ledger, ChannelHistory, history_on, is_live, is_in_transit, borrow_count, queued_names}
use Rattle.cal_transport.specs.Soundness.{IsOrderly}
use Rattle.cal_transport.specs.Cause.{receive_cause}
use Rattle.cal_transport.specs.Step.{with_history, history_after_receive, front, slot_named, opened_after_receive, chunk_to_receive, after_command}
use Rattle.cal_transport.specs.Weights.{transits, borrows, one_if}
use Rattle.cal_transport.specs.Core.{Core}
use Rattle.cal_transport.specs.Shown.{Shows, Tracks, ShowsActive, ShowsMapped, ShowsChannel, pointer_named, entry_of}
use Rattle.cal_transport.specs.Viewing.{opened_after_arrival, mapped_after_arrival}
use Rattle.cal_transport.proofs.Changing.{le_false, inserted_here, inserted_else}
use Rattle.cal_transport.proofs.Lists.{set_there}
use Rattle.cal_transport.proofs.Names.{is_in_transit-weight, queued-received_from, weight-received_from, borrow_count-received_from, is_borrowed_queued, is_borrowed-received_from, is_borrowed-received_here}
use Rattle.cal_transport.proofs.Moving.{queued_weighs}
use Rattle.cal_transport.proofs.Settled.{IsSettled}
use Rattle.cal_transport.proofs.Changed.{Change, Changes, changed, transit_lives, live_is, transits_here, borrows_here, borrowed_in-after}
use Rattle.cal_transport.proofs.Kept.{KeepsPayloads, all_kept, bytes_kept}
use Rattle.cal_transport.proofs.Channels.{SameChannel, SameTracks, MovesTo, TracksTo}
use Rattle.cal_transport.proofs.GeneralStep.{StepsTo, shows_after, tracks_after}
use Rattle.cal_transport.proofs.Fronts.{IsFront, front_of, no_front, named, slot_at, entry_at}
use Rattle.cal_transport.proofs.Mapped.{BorrowsMore, arrived, opened_arrived}
use Rattle.cal_transport.proofs.Marks.{other_mark, mark_below, holds_there}
use Rattle.cal_transport.proofs.Stands.{HasHistory, has_history, Steps, refused, done, SameCore, same_shows, same_tracks}

-- ---- causes

pub receive_outside : (p : Core) (l : Ledger) (place k : ℕ) → Shows p l → Tracks p l → p.settings.channels ≤ k →
    Steps p l place (command.Receive k) (Refused OutsideConnection)
receive_outside p l place k shows tracks past =
    refused p l place (command.Receive k) OutsideConnection shows tracks
    (ap (λ b. cond b (Some OutsideConnection) (cond (nat_le l.settings.borrow (borrow_count (history_on l k)))
    (Some ReceiveWouldExceedMaxBorrowValue) None))
    (le-leb l.settings.channels k (subst (λ s. s.channels ≤ k) shows.settings past)))

-- a channel that is there isn't outside
not_outside : (l : Ledger) (k : ℕ) → k < l.settings.channels →
    receive_cause l k ≡ cond (nat_le l.settings.borrow (borrow_count (history_on l k)))
    (Some ReceiveWouldExceedMaxBorrowValue) None
not_outside l k inside =
    ap (λ b. cond b (Some OutsideConnection) (cond (nat_le l.settings.borrow (borrow_count (history_on l k)))
    (Some ReceiveWouldExceedMaxBorrowValue) None)) (le_false l.settings.channels k inside)

pub receive_at_limit : (p : Core) (l : Ledger) (place k : ℕ) → IsSettled l → Shows p l → Tracks p l →
    k < p.settings.channels → p.settings.borrow ≤ p.borrowed k →
    Steps p l place (command.Receive k) (Refused ReceiveWouldExceedMaxBorrowValue)
receive_at_limit p l place k s shows tracks within limit =
    let inside = subst (λ t. k < t.channels) shows.settings within in
    let has = has_history l s k inside in
    let channel = shows.channels k has.history has.here in
    let few = subst (λ t. t.borrow ≤ p.borrowed k) shows.settings limit in
    refused p l place (command.Receive k) ReceiveWouldExceedMaxBorrowValue shows tracks
    (not_outside l k inside
    ∙ ap (λ h. cond (nat_le l.settings.borrow (borrow_count h)) (Some ReceiveWouldExceedMaxBorrowValue) None) has.on
    ∙ ap (λ b. cond b (Some ReceiveWouldExceedMaxBorrowValue) None)
    (le-leb l.settings.borrow (borrow_count has.history) (subst (λ n. l.settings.borrow ≤ n) channel.borrowed few)))

-- a receive from a channel with room to borrow has no cause
may_receive : (p : Core) (l : Ledger) (k : ℕ) (s : IsSettled l) → Shows p l → (has : HasHistory l k) →
    k < l.settings.channels → p.borrowed k < p.settings.borrow → receive_cause l k ≡ None
may_receive p l k s shows has inside room =
    let channel = shows.channels k has.history has.here in
    let few = subst (λ t. p.borrowed k < t.borrow) shows.settings room in
    not_outside l k inside
    ∙ ap (λ h. cond (nat_le l.settings.borrow (borrow_count h)) (Some ReceiveWouldExceedMaxBorrowValue) None) has.on
    ∙ ap (λ b. cond b (Some ReceiveWouldExceedMaxBorrowValue) None)
    (le_false l.settings.borrow (borrow_count has.history) (subst (λ n. n < l.settings.borrow) channel.borrowed few))

-- ---- nothing is queued

pub receives_none : (p p' : Core) (l : Ledger) (place k : ℕ) → IsSettled l → Shows p l → Tracks p l →
    k < p.settings.channels → p.borrowed k < p.settings.borrow →
    slice_get (p.channel k).submission.values 0 ≡ None → SameCore p p' →
    Steps p' l place (command.Receive k) (Received None)
receives_none p p' l place k s shows tracks within room empty same =
    let inside = subst (λ t. k < t.channels) shows.settings within in
    let has = has_history l s k inside in
    let h = has.history in
    let channel = shows.channels k h has.here in
    let none : queued_names h ≡ [] =
    no_front l (queued_names h) (p.channel k).submission.values channel.queued empty in
    let front_is : front (queued_names (history_on l k)) ≡ None =
    ap (λ e. front (queued_names e)) has.on ∙ ap front none in
    done p' l l place (command.Receive k) (Received None) (may_receive p l k s shows has inside room)
    (ap (λ o. Received (slot_named l o)) (sym front_is))
    (ap (λ o. record (with_history l k (history_after_receive (history_on l k) o))
    { opened_last = opened_after_receive l (chunk_to_receive l o) }) front_is
    ∙ ap (λ ds. with_history l k (record (history_on l k) { departures = ds }))
    (append-nil (history_on l k).departures)
    ∙ ap (λ hs. record l { histories = hs })
    (set_there l.histories k (history_on l k) (has.here ∙ ap Some (sym has.on))))
    (same_shows p p' l same shows) (same_tracks p p' l same tracks)

-- ---- a chunk is queued

-- the oldest left the queue of a channel and is borrowed; its offset has arrived at the view, and its bucket is lent
-- out
pub record Receives (p p' : Core) (k segment bucket : ℕ) : Type 0 where
  pub settings : p'.settings ≡ p.settings
  pub current : p'.current ≡ p.current
  pub active : (other : ℕ) → p'.active other ≡ p.active other
  pub opened_last : p'.opened_last ≡ opened_after_arrival p.opened_last p.mapped segment
  pub mapped : (other : ℕ) → p'.mapped other ≡ mapped_after_arrival p.opened_last p.mapped segment other
  pub others : (other : ℕ) → other ≢ k → SameChannel p p' other
  pub channel : p'.channel k ≡ record (p.channel k) { submission = after_pop (p.channel k).submission }
  pub borrowed : p'.borrowed k ≡ p.borrowed k + 1
  pub entries : p'.entries ≡ p.entries
  pub other_tracks : (other : ℕ) → other ≢ k → SameTracks p p' other
  pub lent : p'.lent k ≡ after_insertion (p.lent k) (segment * p.settings.samples + bucket)
  pub transits : p'.transits k ≡ p.transits k
  pub owners : (other : ℕ) → p'.owners other ≡ p.owners other
  pub in_transit : p'.in_transit ≡ p.in_transit

module _ (p p' : Core) (l : Ledger) (s : IsSettled l) (k : ℕ) (h : ChannelHistory)
    (here : slice_get l.histories k ≡ Some h) (pointer : ℕ) (f : IsFront l h (queued_names h) pointer)
    (r : Receives p p' k f.chunk.segment f.chunk.bucket) (shows : Shows p l) (tracks : Tracks p l) where
  abbrev name : ℕ
  name = f.chunk.name

  abbrev now : ChannelHistory
  now = history_after_receive h (Some name)

  abbrev change : Change
  change = record {
    channel = k;
    index = f.index;
    old_history = h;
    new_history = now;
    old_chunk = f.chunk;
    new_chunk = f.chunk;
    opened_last = opened_after_receive l (Some f.chunk);
  }

  abbrev after : Ledger
  after = changed l change

  orderly : IsOrderly h
  orderly = s.orderly k h here

  alive : is_live l f.chunk ≡ true
  alive = transit_lives l k h f.chunk here f.transit

  same_transit : (other : ℕ) → is_in_transit now other ≡ is_in_transit h other
  same_transit other =
      is_in_transit-weight now other ∙ ap (nat_lt 0) (weight-received_from h name f.rest other orderly f.names_are)
      ∙ sym (is_in_transit-weight h other)

  changes : Changes l change
  changes = record {
    settled = s;
    here = here;
    stands = f.stands;
    name = refl;
    segment = refl;
    bucket = refl;
    long = refl;
    transit_else = λ other apart. same_transit other;
    borrowed_else = λ other apart. is_borrowed-received_from h name other (λ e. apart (sym e));
  }

  same_transits : transits after.histories name ≡ transits l.histories name
  same_transits =
      let t = transits_here l change changes in let e = ap one_if (same_transit name) in omega arith

  same_live : is_live after f.chunk ≡ is_live l f.chunk
  same_live = live_is after f.chunk ∙ ap (λ n. f.chunk.loaned || nat_lt 0 n) same_transits ∙ sym (live_is l f.chunk)

  one_more : borrows after.histories name ≡ borrows l.histories name + 1
  one_more =
      let b = borrows_here l change changes in
      let was = ap one_if (is_borrowed_queued h name f.rest orderly f.names_are) in
      let is = ap one_if (is_borrowed-received_here h name orderly) in omega arith

  more : BorrowsMore l after f.chunk.segment
  more = record {
    opened = refl;
    more = (let sums = borrowed_in-after l change changes f.chunk.segment in
        let own = eq-eqb f.chunk.segment f.chunk.segment refl in
        let was = ap (λ b. cond b (borrows l.histories name) 0) own in
        let is = ap (λ b. cond b (borrows after.histories name) 0) own in
        let grown = one_more in omega arith);
    else = λ other apart. (let sums = borrowed_in-after l change changes other in
        let own = ne_eqb f.chunk.segment other (λ e. apart (sym e)) in
        let was = ap (λ b. cond b (borrows l.histories name) 0) own in
        let is = ap (λ b. cond b (borrows after.histories name) 0) own in omega arith);
  }

  was : ShowsChannel p l k h
  was = shows.channels k h here

  moves : MovesTo l change changes p p'
  moves = record {
    shape = ap channel.shape r.channel;
    queued = ap (λ (e : channel.ChannelEntry). e.submission.values) r.channel ∙ ap (drop 1) was.queued
        ∙ ap (λ names. drop 1 (map (pointer_named l) names)) f.names_are
        ∙ ap (map (pointer_named l)) (sym (queued-received_from h name f.rest f.names_are));
    completed = ap (λ (e : channel.ChannelEntry). e.completion.values) r.channel ∙ was.completed;
    borrowed = r.borrowed ∙ ap (λ n. n + 1) was.borrowed ∙ sym (borrow_count-received_from h name orderly);
    used_else = λ segment bucket outside.
        ap (λ (e : channel.ChannelEntry). channel.is_used e.segments segment bucket) r.channel;
    used_here = ap (λ (e : channel.ChannelEntry). channel.is_used e.segments f.chunk.segment f.chunk.bucket) r.channel
        ∙ was.used f.chunk.segment f.chunk.bucket
        ∙ holds_there (λ d. is_in_transit h d.name) l f.index f.chunk f.stands f.transit
        ∙ sym (same_transit name ∙ f.transit);
    sizes_else = λ segment apart.
        ap (λ (e : channel.ChannelEntry). (channel.segment_at e.segments segment).sample_size) r.channel;
    sizes_here = inl
        (ap (λ (e : channel.ChannelEntry). (channel.segment_at e.segments f.chunk.segment).sample_size) r.channel);
    sizes_told = λ is not. absurd (true≢false (sym f.transit ∙ not));
  }

  samples : p.settings.samples ≡ l.settings.samples
  samples = ap (λ t. t.samples) shows.settings

  abbrev mark : ℕ
  mark = f.chunk.segment * l.settings.samples + f.chunk.bucket

  lent_is : p'.lent k ≡ after_insertion (p.lent k) mark
  lent_is = r.lent ∙ ap (λ n. after_insertion (p.lent k) (f.chunk.segment * n + f.chunk.bucket)) samples

  to : TracksTo l change changes p p'
  to = record {
    room = ap capacity_of lent_is ∙ length-set (p.lent k).marks mark true;
    lent_else = λ segment bucket below outside.
        ap (λ used. contains used (segment * l.settings.samples + bucket)) lent_is
        ∙ inserted_else (p.lent k) mark (segment * l.settings.samples + bucket)
        (other_mark l.settings.samples segment bucket f.chunk below f.within_samples outside);
    lent_here = λ inside below. ap (λ used. contains used mark) lent_is
        ∙ inserted_here (p.lent k) mark
        (subst (λ n. mark < n) (sym (tracks.channels k h here).room)
        (mark_below l.settings.segments l.settings.samples f.chunk.segment f.chunk.bucket inside below))
        ∙ sym (is_borrowed-received_here h name orderly);
    transits = (let t = r.transits in let e = ap one_if (same_transit name) in omega arith);
  }

  entries_are : p'.entries ≡ set p.entries f.index (entry_of after.histories f.chunk)
  entries_are =
      r.entries ∙ sym (set_there p.entries f.index (entry_of l.histories f.chunk) (entry_at p l f.index f.chunk shows
      f.stands))
      ∙ ap (λ n. set p.entries f.index (record (entry_of l.histories f.chunk) { transits = n })) (sym same_transits)

  payloads : KeepsPayloads l change changes p p'
  payloads = record { payload = λ segment shown has. (shown, sym (r.active segment) ∙ has, refl) }

  steps : StepsTo l change changes p p'
  steps = record {
    settings = r.settings;
    current = r.current;
    active = λ segment. subst (ShowsActive after segment) (sym (r.active segment))
        (all_kept l change changes same_live segment (p.active segment) (shows.active segment));
    bytes = bytes_kept l change changes p p' alive refl payloads shows.bytes;
    opened_last = r.opened_last
        ∙ ap (λ o. opened_after_arrival o p.mapped f.chunk.segment) shows.opened_last
        ∙ opened_arrived l after p.mapped f.chunk.segment more shows.mapped;
    mapped = λ segment. subst (ShowsMapped after segment)
        (ap (λ o. mapped_after_arrival o p.mapped f.chunk.segment segment) (sym shows.opened_last)
        ∙ sym (r.mapped segment))
        (arrived l after p.mapped f.chunk.segment more shows.mapped segment);
    others = r.others;
    moves = moves;
    entries = entries_are;
    other_tracks = r.other_tracks;
    tracks = to;
    owners = r.owners;
    in_transit = (let t = r.in_transit in let e = same_transits in omega arith);
  }

  made : (place : ℕ) (reply : Reply) → history_on l k ≡ h →
      after_command l place (command.Receive k) reply ≡ after
  made place reply on =
      ap (λ e. record (with_history l k (history_after_receive e (front (queued_names e))))
      { opened_last = opened_after_receive l (chunk_to_receive l (front (queued_names e))) }) on
      ∙ ap (λ names. record (with_history l k (history_after_receive h (front names)))
      { opened_last = opened_after_receive l (chunk_to_receive l (front names)) }) f.names_are
      ∙ ap (λ o. record (with_history l k now) { opened_last = opened_after_receive l o })
      (named l s f.index f.chunk f.stands)
      ∙ ap (λ chunks. record (with_history l k now)
      { opened_last = opened_after_receive l (Some f.chunk); chunks = chunks })
      (sym (set_there l.chunks f.index f.chunk f.stands))

  abbrev reply : Reply
  reply = Received (Some (record { chunk = f.chunk.name; segment = segment_of pointer; place = offset_of pointer }))

  pub receives_front : (place : ℕ) → history_on l k ≡ h → receive_cause l k ≡ None →
      Steps p' l place (command.Receive k) (Received (Some (record {
        chunk = f.chunk.name;
        segment = segment_of pointer;
        place = offset_of pointer;
      })))
  receives_front place on none =
      done p' l after place (command.Receive k) reply none
      (ap Received (sym (ap (λ e. slot_named l (front (queued_names e))) on
      ∙ slot_at l s f.index f.chunk (queued_names h) f.rest pointer f.stands f.names_are f.pointer_is)))
      (made place reply on)
      (shows_after l change changes p p' alive steps shows) (tracks_after l change changes p p' alive steps tracks)

-- the pointer that a channel's queue gives is that of its oldest chunk
pub queue_front : (p : Core) (l : Ledger) (s : IsSettled l) (k : ℕ) (has : HasHistory l k) (pointer : ℕ) → Shows p l →
    slice_get (p.channel k).submission.values 0 ≡ Some pointer → IsFront l has.history (queued_names has.history)
    pointer
queue_front p l s k has pointer shows first =
    front_of l s k has.history (queued_names has.history) (p.channel k).submission.values pointer has.here
    (shows.channels k has.history has.here).queued first (queued_weighs has.history)

pub receives_some : (p p' : Core) (l : Ledger) (place k pointer : ℕ) (s : IsSettled l) (shows : Shows p l) →
    Tracks p l → (within : k < l.settings.channels) → p.borrowed k < p.settings.borrow →
    (first : slice_get (p.channel k).submission.values 0 ≡ Some pointer) →
    (let f = queue_front p l s k (has_history l s k within) pointer shows first in
    Receives p p' k f.chunk.segment f.chunk.bucket →
    Steps p' l place (command.Receive k) (Received (Some (record {
      chunk = f.chunk.name;
      segment = segment_of pointer;
      place = offset_of pointer;
    }))))
receives_some p p' l place k pointer s shows tracks within room first r =
    let has = has_history l s k within in
    let f = queue_front p l s k has pointer shows first in
    receives_front p p' l s k has.history has.here pointer f r shows tracks place has.on
    (may_receive p l k s shows has within room)
