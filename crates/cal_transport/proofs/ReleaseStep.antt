-- A release is a step.
use Rattle.std.proofs.Common.{ℕ, ◌+◌, ◌-◌, ◌*◌, ◌<◌, ◌≤◌, ◌≡◌, ◌≢◌, true, false, cond, not, ◌||◌, nat_le, nat_lt, [], ◌∷◌, ◌++◌, length, map, set, Some, None, inl, refl, sym, ap, ◌∙◌, subst, arith}
use Rattle.std.specs.List.{slice_get}
use Rattle.std.proofs.lemmas.Bool.{true≢false, le-leb, ne_eqb, eq-eqb}
use Rattle.std.proofs.lemmas.List.{length-set, map-append}
use Rattle.cal_queue.specs.Queue.{after_push}
use Rattle.cal_queue.specs.UsedChunks.{contains, capacity_of, after_removal}
use Rattle.cal_connection.specs.Channel as channel
use Rattle.cal_transport.specs.declared.command.Command.TheVariants as command
use Rattle.cal_transport.specs.declared.reply.Reply.{Reply}
use Rattle.cal_transport.specs.declared.reply.Reply.TheVariants.{Released, Refused}
use Rattle.cal_transport.specs.declared.reply.Refusal.TheVariants.{OutsideConnection, NotBorrowed, RetrieveBufferFull}
use Rattle.cal_transport.specs.Settings.{completion_size}
use Rattle.cal_transport.specs.Ledger.{Ledger, Chunk, ChannelHistory, history_on, is_live, is_in_transit, is_borrowed, completed_names}
use Rattle.cal_transport.specs.Soundness.{IsOrderly}
use Rattle.cal_transport.specs.Cause.{release_cause}
use Rattle.cal_transport.specs.Step.{with_history, history_after_release, after_command}
use Rattle.cal_transport.specs.Weights.{transits, borrows, one_if}
use Rattle.cal_transport.specs.Core.{Core}
use Rattle.cal_transport.specs.Shown.{Shows, Tracks, ShowsActive, ShowsMapped, ShowsChannel, pointer_to, pointer_of, pointer_named, entry_of}
use Rattle.cal_transport.specs.Viewing.{mapped_after_return}
use Rattle.cal_transport.proofs.Changing.{le_false, removed_here, removed_else}
use Rattle.cal_transport.proofs.Lists.{set_there}
use Rattle.cal_transport.proofs.Names.{is_in_transit-weight, completed-released_on, weight-released_on, borrow_count-released_on, is_borrowed-released_else, is_borrowed-released_here}
use Rattle.cal_transport.proofs.Settled.{IsSettled}
use Rattle.cal_transport.proofs.Changed.{Change, Changes, changed, transit_lives, borrowed_transits, live_is, transits_here, borrows_here, borrowed_in-after}
use Rattle.cal_transport.proofs.Kept.{KeepsPayloads, all_kept, bytes_kept}
use Rattle.cal_transport.proofs.Channels.{SameChannel, SameTracks, MovesTo, TracksTo}
use Rattle.cal_transport.proofs.GeneralStep.{StepsTo, shows_after, tracks_after}
use Rattle.cal_transport.proofs.Fronts.{named, entry_at}
use Rattle.cal_transport.proofs.Mapped.{BorrowsLess, returned}
use Rattle.cal_transport.proofs.Marks.{other_mark, mark_below, holds_there}
use Rattle.cal_transport.proofs.Stands.{Steps, refused, done}

-- a chunk that is borrowed from a channel came back to its completion queue; its offset was given back to the view, and
-- its bucket isn't lent out there any more
pub record Releases (p p' : Core) (k segment bucket pointer : ℕ) : Type 0 where
  pub settings : p'.settings ≡ p.settings
  pub current : p'.current ≡ p.current
  pub active : (other : ℕ) → p'.active other ≡ p.active other
  pub opened_last : p'.opened_last ≡ p.opened_last
  pub mapped : (other : ℕ) → p'.mapped other ≡ mapped_after_return p.opened_last p.mapped segment other
  pub others : (other : ℕ) → other ≢ k → SameChannel p p' other
  pub channel : p'.channel k ≡ record (p.channel k) { completion = after_push (p.channel k).completion pointer }
  pub borrowed : p'.borrowed k ≡ p.borrowed k - 1
  pub entries : p'.entries ≡ p.entries
  pub other_tracks : (other : ℕ) → other ≢ k → SameTracks p p' other
  pub lent : p'.lent k ≡ after_removal (p.lent k) (segment * p.settings.samples + bucket)
  pub transits : p'.transits k ≡ p.transits k
  pub owners : (other : ℕ) → p'.owners other ≡ p.owners other
  pub in_transit : p'.in_transit ≡ p.in_transit

-- the borrowed chunk
pub record IsBorrowed (l : Ledger) (h : ChannelHistory) : Type 0 where
  pub index : ℕ
  pub chunk : Chunk
  pub stands : slice_get l.chunks index ≡ Some chunk
  pub borrowed : is_borrowed h chunk.name ≡ true
  pub within_segments : chunk.segment < l.settings.segments
  pub within_samples : chunk.bucket < l.settings.samples

module _ (p p' : Core) (l : Ledger) (s : IsSettled l) (k : ℕ) (h : ChannelHistory)
    (here : slice_get l.histories k ≡ Some h) (b : IsBorrowed l h)
    (r : Releases p p' k b.chunk.segment b.chunk.bucket (pointer_to l b.chunk)) (shows : Shows p l)
    (tracks : Tracks p l) where
  abbrev name : ℕ
  name = b.chunk.name

  abbrev now : ChannelHistory
  now = history_after_release h name

  abbrev change : Change
  change = record {
    channel = k;
    index = b.index;
    old_history = h;
    new_history = now;
    old_chunk = b.chunk;
    new_chunk = b.chunk;
    opened_last = l.opened_last;
  }

  abbrev after : Ledger
  after = changed l change

  orderly : IsOrderly h
  orderly = s.orderly k h here

  transit : is_in_transit h name ≡ true
  transit = borrowed_transits h name b.borrowed

  alive : is_live l b.chunk ≡ true
  alive = transit_lives l k h b.chunk here transit

  same_transit : (other : ℕ) → is_in_transit now other ≡ is_in_transit h other
  same_transit other =
      is_in_transit-weight now other ∙ ap (nat_lt 0) (weight-released_on h name other orderly b.borrowed)
      ∙ sym (is_in_transit-weight h other)

  changes : Changes l change
  changes = record {
    settled = s;
    here = here;
    stands = b.stands;
    name = refl;
    segment = refl;
    bucket = refl;
    long = refl;
    transit_else = λ other apart. same_transit other;
    borrowed_else = λ other apart. is_borrowed-released_else h name other (λ e. apart (sym e));
  }

  same_transits : transits after.histories name ≡ transits l.histories name
  same_transits =
      let t = transits_here l change changes in let e = ap one_if (same_transit name) in omega arith

  same_live : is_live after b.chunk ≡ is_live l b.chunk
  same_live = live_is after b.chunk ∙ ap (λ n. b.chunk.loaned || nat_lt 0 n) same_transits ∙ sym (live_is l b.chunk)

  one_less : borrows after.histories name + 1 ≡ borrows l.histories name
  one_less =
      let t = borrows_here l change changes in
      let was = ap one_if b.borrowed in
      let is = ap one_if (is_borrowed-released_here h name orderly b.borrowed) in omega arith

  less : BorrowsLess l after b.chunk.segment
  less = record {
    opened = refl;
    less = (let sums = borrowed_in-after l change changes b.chunk.segment in
        let own = eq-eqb b.chunk.segment b.chunk.segment refl in
        let was = ap (λ c. cond c (borrows l.histories name) 0) own in
        let is = ap (λ c. cond c (borrows after.histories name) 0) own in
        let fewer = one_less in omega arith);
    else = λ other apart. (let sums = borrowed_in-after l change changes other in
        let own = ne_eqb b.chunk.segment other (λ e. apart (sym e)) in
        let was = ap (λ c. cond c (borrows l.histories name) 0) own in
        let is = ap (λ c. cond c (borrows after.histories name) 0) own in omega arith);
  }

  was : ShowsChannel p l k h
  was = shows.channels k h here

  pointer_is : pointer_named l name ≡ pointer_to l b.chunk
  pointer_is = ap (pointer_of l) (named l s b.index b.chunk b.stands)

  moves : MovesTo l change changes p p'
  moves = record {
    shape = ap channel.shape r.channel;
    queued = ap (λ (e : channel.ChannelEntry). e.submission.values) r.channel ∙ was.queued;
    completed = ap (λ (e : channel.ChannelEntry). e.completion.values) r.channel
        ∙ ap (λ vs. vs ++ pointer_to l b.chunk ∷ []) was.completed
        ∙ ap (λ v. map (pointer_named l) (completed_names h) ++ v ∷ []) (sym pointer_is)
        ∙ sym (map-append (pointer_named l) (completed_names h) (name ∷ []))
        ∙ ap (map (pointer_named l)) (sym (completed-released_on h name orderly));
    borrowed = r.borrowed ∙ ap (λ n. n - 1) was.borrowed ∙ sym (borrow_count-released_on h name);
    used_else = λ segment bucket outside.
        ap (λ (e : channel.ChannelEntry). channel.is_used e.segments segment bucket) r.channel;
    used_here = ap (λ (e : channel.ChannelEntry). channel.is_used e.segments b.chunk.segment b.chunk.bucket) r.channel
        ∙ was.used b.chunk.segment b.chunk.bucket
        ∙ holds_there (λ d. is_in_transit h d.name) l b.index b.chunk b.stands transit
        ∙ sym (same_transit name ∙ transit);
    sizes_else = λ segment apart.
        ap (λ (e : channel.ChannelEntry). (channel.segment_at e.segments segment).sample_size) r.channel;
    sizes_here = inl
        (ap (λ (e : channel.ChannelEntry). (channel.segment_at e.segments b.chunk.segment).sample_size) r.channel);
    sizes_told = λ is not. absurd (true≢false (sym transit ∙ not));
  }

  samples : p.settings.samples ≡ l.settings.samples
  samples = ap (λ t. t.samples) shows.settings

  abbrev mark : ℕ
  mark = b.chunk.segment * l.settings.samples + b.chunk.bucket

  lent_is : p'.lent k ≡ after_removal (p.lent k) mark
  lent_is = r.lent ∙ ap (λ n. after_removal (p.lent k) (b.chunk.segment * n + b.chunk.bucket)) samples

  to : TracksTo l change changes p p'
  to = record {
    room = ap capacity_of lent_is ∙ length-set (p.lent k).marks mark false;
    lent_else = λ segment bucket below outside.
        ap (λ used. contains used (segment * l.settings.samples + bucket)) lent_is
        ∙ removed_else (p.lent k) mark (segment * l.settings.samples + bucket)
        (other_mark l.settings.samples segment bucket b.chunk below b.within_samples outside);
    lent_here = λ inside below. ap (λ used. contains used mark) lent_is
        ∙ removed_here (p.lent k) mark
        (subst (λ n. mark < n) (sym (tracks.channels k h here).room)
        (mark_below l.settings.segments l.settings.samples b.chunk.segment b.chunk.bucket inside below))
        ∙ sym (is_borrowed-released_here h name orderly b.borrowed);
    transits = (let t = r.transits in let e = ap one_if (same_transit name) in omega arith);
  }

  entries_are : p'.entries ≡ set p.entries b.index (entry_of after.histories b.chunk)
  entries_are =
      r.entries ∙ sym (set_there p.entries b.index (entry_of l.histories b.chunk) (entry_at p l b.index b.chunk shows
      b.stands))
      ∙ ap (λ n. set p.entries b.index (record (entry_of l.histories b.chunk) { transits = n })) (sym same_transits)

  payloads : KeepsPayloads l change changes p p'
  payloads = record { payload = λ segment shown has. (shown, sym (r.active segment) ∙ has, refl) }

  steps : StepsTo l change changes p p'
  steps = record {
    settings = r.settings;
    current = r.current;
    active = λ segment. subst (ShowsActive after segment) (sym (r.active segment))
        (all_kept l change changes same_live segment (p.active segment) (shows.active segment));
    bytes = bytes_kept l change changes p p' alive refl payloads shows.bytes;
    opened_last = r.opened_last ∙ shows.opened_last;
    mapped = λ segment. subst (ShowsMapped after segment)
        (ap (λ o. mapped_after_return o p.mapped b.chunk.segment segment) (sym shows.opened_last)
        ∙ sym (r.mapped segment))
        (returned l after p.mapped b.chunk.segment less shows.mapped segment);
    others = r.others;
    moves = moves;
    entries = entries_are;
    other_tracks = r.other_tracks;
    tracks = to;
    owners = r.owners;
    in_transit = (let t = r.in_transit in let e = same_transits in omega arith);
  }

  made : (place : ℕ) (reply : Reply) → history_on l k ≡ h →
      after_command l place (command.Release k name) reply ≡ after
  made place reply on =
      ap (λ e. with_history l k (history_after_release e name)) on
      ∙ ap (λ chunks. record (with_history l k now) { chunks = chunks })
      (sym (set_there l.chunks b.index b.chunk b.stands))

  pub releases : (place : ℕ) → history_on l k ≡ h → release_cause l k name ≡ None →
      Steps p' l place (command.Release k name) Released
  releases place on none =
      done p' l after place (command.Release k name) Released none refl (made place Released on)
      (shows_after l change changes p p' alive steps shows) (tracks_after l change changes p p' alive steps tracks)

-- ---- causes

pub release_outside : (p : Core) (l : Ledger) (place k name : ℕ) → Shows p l → Tracks p l → p.settings.channels ≤ k →
    Steps p l place (command.Release k name) (Refused OutsideConnection)
release_outside p l place k name shows tracks past =
    refused p l place (command.Release k name) OutsideConnection shows tracks
    (ap (λ c. cond c (Some OutsideConnection) (cond (not (is_borrowed (history_on l k) name)) (Some NotBorrowed)
    (cond (nat_le (completion_size l.settings) (length (completed_names (history_on l k)))) (Some RetrieveBufferFull)
    None)))
    (le-leb l.settings.channels k (subst (λ t. t.channels ≤ k) shows.settings past)))

-- of a channel that is there the chunk and the queue decide
release_decides : (l : Ledger) (k name : ℕ) (h : ChannelHistory) → k < l.settings.channels → history_on l k ≡ h →
    release_cause l k name ≡ cond (not (is_borrowed h name)) (Some NotBorrowed)
    (cond (nat_le (completion_size l.settings) (length (completed_names h))) (Some RetrieveBufferFull) None)
release_decides l k name h inside on =
    ap (λ c. cond c (Some OutsideConnection) (cond (not (is_borrowed (history_on l k) name)) (Some NotBorrowed)
    (cond (nat_le (completion_size l.settings) (length (completed_names (history_on l k)))) (Some RetrieveBufferFull)
    None)))
    (le_false l.settings.channels k inside)
    ∙ ap (λ e. cond (not (is_borrowed e name)) (Some NotBorrowed)
    (cond (nat_le (completion_size l.settings) (length (completed_names e))) (Some RetrieveBufferFull) None)) on

pub release_unborrowed : (p : Core) (l : Ledger) (place k name : ℕ) (h : ChannelHistory) → Shows p l → Tracks p l →
    k < l.settings.channels → history_on l k ≡ h → is_borrowed h name ≡ false →
    Steps p l place (command.Release k name) (Refused NotBorrowed)
release_unborrowed p l place k name h shows tracks inside on not_there =
    refused p l place (command.Release k name) NotBorrowed shows tracks
    (release_decides l k name h inside on
    ∙ ap (λ c. cond (not c) (Some NotBorrowed)
    (cond (nat_le (completion_size l.settings) (length (completed_names h))) (Some RetrieveBufferFull) None)) not_there)

pub release_full : (p : Core) (l : Ledger) (place k name : ℕ) (h : ChannelHistory) → Shows p l → Tracks p l →
    k < l.settings.channels → history_on l k ≡ h → is_borrowed h name ≡ true →
    completion_size l.settings ≤ length (completed_names h) →
    Steps p l place (command.Release k name) (Refused RetrieveBufferFull)
release_full p l place k name h shows tracks inside on borrowed full =
    refused p l place (command.Release k name) RetrieveBufferFull shows tracks
    (release_decides l k name h inside on
    ∙ ap (λ c. cond (not c) (Some NotBorrowed)
    (cond (nat_le (completion_size l.settings) (length (completed_names h))) (Some RetrieveBufferFull) None)) borrowed
    ∙ ap (λ c. cond c (Some RetrieveBufferFull) None)
    (le-leb (completion_size l.settings) (length (completed_names h)) full))

pub may_release : (l : Ledger) (k name : ℕ) (h : ChannelHistory) → k < l.settings.channels → history_on l k ≡ h →
    is_borrowed h name ≡ true → length (completed_names h) < completion_size l.settings →
    release_cause l k name ≡ None
may_release l k name h inside on borrowed room =
    release_decides l k name h inside on
    ∙ ap (λ c. cond (not c) (Some NotBorrowed)
    (cond (nat_le (completion_size l.settings) (length (completed_names h))) (Some RetrieveBufferFull) None)) borrowed
    ∙ ap (λ c. cond c (Some RetrieveBufferFull) None)
    (le_false (completion_size l.settings) (length (completed_names h)) room)
