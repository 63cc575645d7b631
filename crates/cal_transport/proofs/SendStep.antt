-- A send is a step: the chunk joins the queue, and where that was full the oldest leaves it. The second is a leaving
-- from the ledger that the first would lead to.
use Rattle.std.proofs.Common.{ℕ, ◌+◌, ◌*◌, ◌<◌, ◌≡◌, ◌≢◌, true, false, ◌&&◌, ◌||◌, nat_eq, nat_lt, List, [], ◌∷◌, ◌++◌, length, map, set, Some, None, inr, refl, sym, ap, ◌∙◌, subst, arith}
use Rattle.std.specs.List.{slice_get}
use Rattle.std.proofs.lemmas.Bool.{ltb-false, lt-ltb}
use Rattle.std.proofs.lemmas.List.{append-nil, map-append}
use Rattle.cal_queue.specs.UsedChunks.{contains}
use Rattle.cal_connection.specs.declared.segment_details.SegmentDetails.{SegmentDetails}
use Rattle.cal_connection.specs.Channel as channel
use Rattle.cal_transport.specs.Ledger.{Ledger, Chunk, ChannelHistory, layout_at, is_live, is_in_transit, borrow_count, queued_names}
use Rattle.cal_transport.specs.Soundness.{weight, IsOrderly}
use Rattle.cal_transport.specs.Step.{history_after_send}
use Rattle.cal_transport.specs.Weights.{transits, borrows, one_if}
use Rattle.cal_transport.specs.Core.{Core}
use Rattle.cal_transport.specs.Shown.{Shows, Tracks, ShowsActive, ShowsMapped, ShowsChannel, pointer_to, pointer_of, pointer_named, entry_of}
use Rattle.cal_transport.proofs.Names.{is_in_transit-weight, occurrences_here, occurrences_else, queued-sent_on, weight-sent_on, is_borrowed-sent_on, orderly_sent_on}
use Rattle.cal_transport.proofs.Settled.{IsSettled}
use Rattle.cal_transport.proofs.Changed.{Change, Changes, changed, live_is, transits_here, borrows_here, stands_after}
use Rattle.cal_transport.proofs.Kept.{KeepsPayloads, all_kept, bytes_kept, mapped_kept}
use Rattle.cal_transport.proofs.Channels.{SameChannel, SameTracks, MovesTo, TracksTo}
use Rattle.cal_transport.proofs.GeneralStep.{StepsTo, shows_after, tracks_after, settled_after}
use Rattle.cal_transport.proofs.Fronts.{named}
use Rattle.cal_transport.proofs.Marks.{own_borrowed}

-- one entry is in use, its segment has this sample size, and nothing else of the segments has changed
pub record Marks (old new : List SegmentDetails) (segment bucket size : ℕ) : Type 0 where
  pub here : channel.is_used new segment bucket ≡ true
  pub else : (other there : ℕ) → (nat_eq segment other && nat_eq bucket there) ≡ false →
      channel.is_used new other there ≡ channel.is_used old other there
  pub size_here : (channel.segment_at new segment).sample_size ≡ size
  pub size_else : (other : ℕ) → other ≢ segment →
      (channel.segment_at new other).sample_size ≡ (channel.segment_at old other).sample_size
  pub samples : map channel.samples_of new ≡ map channel.samples_of old

-- a loaned chunk that the connection can name and that isn't in transit on the channel
pub record MaySend (l : Ledger) (h : ChannelHistory) : Type 0 where
  pub index : ℕ
  pub chunk : Chunk
  pub stands : slice_get l.chunks index ≡ Some chunk
  pub loaned : chunk.loaned ≡ true
  pub away : is_in_transit h chunk.name ≡ false
  pub within_segments : chunk.segment < l.settings.segments
  pub within_samples : chunk.bucket < l.settings.samples

abbrev pub sent_chunk : Chunk → Chunk
sent_chunk chunk = record chunk { sent = true }

module _ (l : Ledger) (s : IsSettled l) (k : ℕ) (h : ChannelHistory) (here : slice_get l.histories k ≡ Some h)
    (m : MaySend l h) where
  abbrev pub name : ℕ
  name = m.chunk.name

  abbrev pub now : ChannelHistory
  now = history_after_send h name None

  abbrev pub sending : Change
  sending = record {
    channel = k;
    index = m.index;
    old_history = h;
    new_history = now;
    old_chunk = m.chunk;
    new_chunk = sent_chunk m.chunk;
    opened_last = l.opened_last;
  }

  abbrev pub after : Ledger
  after = changed l sending

  orderly : IsOrderly h
  orderly = s.orderly k h here

  no_weight : weight h name ≡ 0
  no_weight =
      let low = ltb-false 0 (weight h name) (sym (is_in_transit-weight h name) ∙ m.away) in omega arith

  pub sent_transit : is_in_transit now name ≡ true
  sent_transit =
      is_in_transit-weight now name ∙ lt-ltb 0 (weight now name)
      (let w = weight-sent_on h name name orderly in let one = occurrences_here name [] in omega arith)

  pub else_transit : (other : ℕ) → other ≢ name → is_in_transit now other ≡ is_in_transit h other
  else_transit other apart =
      is_in_transit-weight now other
      ∙ ap (nat_lt 0) (let w = weight-sent_on h name other orderly in
      let none = occurrences_else other name [] (λ e. apart (sym e)) in
      let same : weight now other ≡ weight h other = omega arith in same)
      ∙ sym (is_in_transit-weight h other)

  pub sending_changes : Changes l sending
  sending_changes = record {
    settled = s;
    here = here;
    stands = m.stands;
    name = refl;
    segment = refl;
    bucket = refl;
    long = refl;
    transit_else = else_transit;
    borrowed_else = λ other apart. is_borrowed-sent_on h name other;
  }

  pub sending_alive : is_live l m.chunk ≡ true
  sending_alive = live_is l m.chunk ∙ ap (λ b. b || nat_lt 0 (transits l.histories name)) m.loaned

  pub one_more : transits after.histories name ≡ transits l.histories name + 1
  one_more =
      let t = transits_here l sending sending_changes in
      let was = ap one_if m.away in let is = ap one_if sent_transit in omega arith

  same_borrows : borrows after.histories name ≡ borrows l.histories name
  same_borrows =
      let t = borrows_here l sending sending_changes in
      let e = ap one_if (is_borrowed-sent_on h name name) in omega arith

  lives_on : is_live after (sent_chunk m.chunk) ≡ is_live l m.chunk
  lives_on =
      live_is after (sent_chunk m.chunk) ∙ ap (λ b. b || nat_lt 0 (transits after.histories name)) m.loaned
      ∙ sym sending_alive

  pub sending_settled : IsSettled after
  sending_settled = settled_after l sending sending_changes (record {
    lives = λ living. sending_alive;
    orderly = orderly_sent_on h name orderly no_weight;
    sent = λ was. refl;
    known = λ transit. record {
      index = m.index;
      chunk = sent_chunk m.chunk;
      stands = stands_after l sending sending_changes;
      same_name = refl;
      sent = refl;
      segment = m.within_segments;
      bucket = m.within_samples;
    };
  })

  pointer_is : pointer_named l name ≡ pointer_to l m.chunk
  pointer_is = ap (pointer_of l) (named l s m.index m.chunk m.stands)

  -- the chunk has joined the queue, whether or not there is room, and its bucket is in use on the channel
  pub record SendsAt (p p' : Core) : Type 0 where
    pub settings : p'.settings ≡ p.settings
    pub current : p'.current ≡ p.current
    pub active : (segment : ℕ) → p'.active segment ≡ p.active segment
    pub opened_last : p'.opened_last ≡ p.opened_last
    pub mapped : (segment : ℕ) → p'.mapped segment ≡ p.mapped segment
    pub others : (other : ℕ) → other ≢ k → SameChannel p p' other
    pub capacity : (p'.channel k).submission.capacity ≡ (p.channel k).submission.capacity
    pub submission : (p'.channel k).submission.values ≡ (p.channel k).submission.values ++ pointer_to l m.chunk ∷ []
    pub completion : (p'.channel k).completion ≡ (p.channel k).completion
    pub segments : Marks (p.channel k).segments (p'.channel k).segments m.chunk.segment m.chunk.bucket
        (layout_at l m.chunk.segment).size
    pub borrowed : p'.borrowed k ≡ p.borrowed k
    pub entries : p'.entries ≡ set p.entries m.index (record (entry_of l.histories m.chunk) {
      sent = true;
      transits = transits l.histories m.chunk.name + 1;
    })
    pub other_tracks : (other : ℕ) → other ≢ k → SameTracks p p' other
    pub lent : p'.lent k ≡ p.lent k
    pub transits : p'.transits k ≡ p.transits k + 1
    pub owners : (segment : ℕ) → p'.owners segment ≡ p.owners segment
    pub in_transit : p'.in_transit ≡ p.in_transit + 1

  module _ (p p' : Core) (r : SendsAt p p') (shows : Shows p l) (tracks : Tracks p l) where
    was : ShowsChannel p l k h
    was = shows.channels k h here

    moves : MovesTo l sending sending_changes p p'
    moves = record {
      shape =
          ap (λ n. record {
            submission = n;
            completion = (p'.channel k).completion.capacity;
            samples = map channel.samples_of (p'.channel k).segments;
          }) r.capacity
          ∙ ap (λ (q : channel.Queue). record {
            submission = (p.channel k).submission.capacity;
            completion = q.capacity;
            samples = map channel.samples_of (p'.channel k).segments;
          }) r.completion
          ∙ ap (λ ss. record {
            submission = (p.channel k).submission.capacity;
            completion = (p.channel k).completion.capacity;
            samples = ss;
          }) r.segments.samples;
      queued = r.submission ∙ ap (λ vs. vs ++ pointer_to l m.chunk ∷ []) was.queued
          ∙ ap (λ v. map (pointer_named l) (queued_names h) ++ v ∷ []) (sym pointer_is)
          ∙ sym (map-append (pointer_named l) (queued_names h) (name ∷ []))
          ∙ ap (map (pointer_named l)) (sym (queued-sent_on h name orderly));
      completed = ap (λ (q : channel.Queue). q.values) r.completion ∙ was.completed;
      borrowed = r.borrowed ∙ was.borrowed ∙ sym (same_count h name);
      used_else = λ segment bucket outside. r.segments.else segment bucket outside;
      used_here = r.segments.here ∙ sym sent_transit;
      sizes_else = λ segment apart. r.segments.size_else segment apart;
      sizes_here = inr r.segments.size_here;
      sizes_told = λ is not. r.segments.size_here;
    }
      where
        same_count : (c : ChannelHistory) (n : ℕ) → borrow_count (history_after_send c n None) ≡ borrow_count c
        same_count c n = ap (λ ds. borrow_count (record c { departures = ds })) (append-nil c.departures)

    to : TracksTo l sending sending_changes p p'
    to = record {
      room = ap (λ used. length used.marks) r.lent;
      lent_else = λ segment bucket below outside.
          ap (λ used. contains used (segment * l.settings.samples + bucket)) r.lent;
      lent_here = λ inside below.
          ap (λ used. contains used (m.chunk.segment * l.settings.samples + m.chunk.bucket)) r.lent
          ∙ (tracks.channels k h here).lent m.chunk.segment m.chunk.bucket inside below
          ∙ own_borrowed l s k h here m.index m.chunk m.stands sending_alive
          ∙ sym (is_borrowed-sent_on h name name);
      transits = (let t = r.transits in let was = ap one_if m.away in let is = ap one_if sent_transit in omega arith);
    }

    payloads : KeepsPayloads l sending sending_changes p p'
    payloads = record { payload = λ segment shown has. (shown, sym (r.active segment) ∙ has, refl) }

    steps : StepsTo l sending sending_changes p p'
    steps = record {
      settings = r.settings;
      current = r.current;
      active = λ segment. subst (ShowsActive after segment) (sym (r.active segment))
          (all_kept l sending sending_changes lives_on segment (p.active segment) (shows.active segment));
      bytes = bytes_kept l sending sending_changes p p' sending_alive refl payloads shows.bytes;
      opened_last = r.opened_last ∙ shows.opened_last;
      mapped = λ segment. mapped_kept l sending sending_changes segment (p'.mapped segment) refl same_borrows
          (subst (ShowsMapped l segment) (sym (r.mapped segment)) (shows.mapped segment));
      others = r.others;
      moves = moves;
      entries = r.entries ∙ ap (λ n. set p.entries m.index (record (entry_of l.histories m.chunk) {
        sent = true;
        transits = n;
      })) (sym one_more);
      other_tracks = r.other_tracks;
      tracks = to;
      owners = r.owners;
      in_transit = (let t = r.in_transit in let more = one_more in omega arith);
    }

    pub sending_shows : Shows p' after
    sending_shows = shows_after l sending sending_changes p p' sending_alive steps shows

    pub sending_tracks : Tracks p' after
    sending_tracks = tracks_after l sending sending_changes p p' sending_alive steps tracks
