-- A reclaim is a step.
use Rattle.std.proofs.Common.{ℕ, ◌<◌, ◌≤◌, ◌≡◌, true, false, cond, nat_lt, List, [], ◌∷◌, map, drop, Some, None, inl, refl, sym, ap, ◌∙◌, subst, arith}
use Rattle.std.specs.List.{slice_get}
use Rattle.std.proofs.lemmas.Bool.{true≢false, le-leb, lt-ltb}
use Rattle.std.proofs.lemmas.List.{append-nil}
use Rattle.cal_alloc.specs.PointerOffset.{offset_of, segment_of}
use Rattle.cal_queue.specs.Queue.{after_pop}
use Rattle.cal_connection.specs.Channel as channel
use Rattle.cal_transport.specs.declared.command.Command.TheVariants as command
use Rattle.cal_transport.specs.declared.reply.Reply.{Reply}
use Rattle.cal_transport.specs.declared.reply.Reply.TheVariants.{Reclaimed, Refused}
use Rattle.cal_transport.specs.declared.reply.Refusal.TheVariants.{OutsideConnection}
use Rattle.cal_transport.specs.Ledger.{Ledger, Chunk, ChannelHistory, history_on, layout_at, is_in_transit, completed_names}
use Rattle.cal_transport.specs.Soundness.{weight, IsOrderly}
use Rattle.cal_transport.specs.Cause.{reclaim_cause}
use Rattle.cal_transport.specs.Step.{with_history, history_after_reclaim, front, slot_named, after_command}
use Rattle.cal_transport.specs.Core.{Core}
use Rattle.cal_transport.specs.Shown.{Shows, Tracks, ShowsChannel, pointer_to, pointer_named}
use Rattle.cal_transport.proofs.Changing.{le_false}
use Rattle.cal_transport.proofs.Lists.{set_there}
use Rattle.cal_transport.proofs.Names.{is_in_transit-weight, occurrences_here, occurrences_else, completed-reclaimed_from, weight-reclaimed_from}
use Rattle.cal_transport.proofs.Moving.{completed_weighs}
use Rattle.cal_transport.proofs.Settled.{IsSettled}
use Rattle.cal_transport.proofs.Changed.{Changes, changed}
use Rattle.cal_transport.proofs.Channels.{MovesTo}
use Rattle.cal_transport.proofs.Fronts.{IsFront, front_of, no_front, is_pointer, slot_at}
use Rattle.cal_transport.proofs.LeavingStep.{Leaves, leaving, LeavesAt, leaving_changes, leaving_shows, leaving_tracks}
use Rattle.cal_transport.proofs.Marks.{holds_there}
use Rattle.cal_transport.proofs.Unmarked.{Unmarks, IsUsedEntry}
use Rattle.cal_transport.proofs.Stands.{HasHistory, has_history, Steps, refused, done, SameCore, same_shows, same_tracks}

-- ---- what leaves by a reclaim

-- a name that is the lightest and loses one isn't on its way any more
pub no_weight : (c : ChannelHistory) (name : ℕ) → weight c name ≡ 0 → is_in_transit c name ≡ false
no_weight c name none = is_in_transit-weight c name ∙ ap (nat_lt 0) none

pub leaves_by_reclaim : (h : ChannelHistory) (chunk : Chunk) (rest : List ℕ) → IsOrderly h →
    completed_names h ≡ chunk.name ∷ rest → Leaves h (history_after_reclaim h (Some chunk.name)) chunk
leaves_by_reclaim h chunk rest o names = record {
  was = is_in_transit-weight h chunk.name
      ∙ lt-ltb 0 (weight h chunk.name) (completed_weighs h chunk.name rest names);
  gone = no_weight now chunk.name (
      let w = weight-reclaimed_from h chunk.name rest chunk.name names in
      let one = occurrences_here chunk.name [] in let once = o.once chunk.name in omega arith);
  else = λ name apart. is_in_transit-weight now name
      ∙ ap (nat_lt 0) (let w = weight-reclaimed_from h chunk.name rest name names in
      let none = occurrences_else name chunk.name [] (λ e. apart (sym e)) in
      let same : weight now name ≡ weight h name = omega arith in same)
      ∙ sym (is_in_transit-weight h name);
  borrowed = λ name. refl;
}
  where
    now : ChannelHistory
    now = history_after_reclaim h (Some chunk.name)

-- ---- the step

module _ (p p' : Core) (l : Ledger) (s : IsSettled l) (k : ℕ) (h : ChannelHistory)
    (here : slice_get l.histories k ≡ Some h) (pointer : ℕ) (f : IsFront l h (completed_names h) pointer)
    (shows : Shows p l) (tracks : Tracks p l) where
  abbrev now : ChannelHistory
  now = history_after_reclaim h (Some f.chunk.name)

  pub reclaim_leaves : Leaves h now f.chunk
  reclaim_leaves = leaves_by_reclaim h f.chunk f.rest (s.orderly k h here) f.names_are

  abbrev after : Ledger
  after = changed l (leaving l k f.index h now f.chunk)

  abbrev changes : Changes l (leaving l k f.index h now f.chunk)
  changes = leaving_changes l s k f.index h now f.chunk here f.stands reclaim_leaves

  was : ShowsChannel p l k h
  was = shows.channels k h here

  -- the oldest has left the completion queue, and its bucket isn't in use there any more
  pub record ReclaimsAt : Type 0 where
    pub submission : (p'.channel k).submission ≡ (p.channel k).submission
    pub completion : (p'.channel k).completion ≡ after_pop (p.channel k).completion
    pub segments : Unmarks (p.channel k).segments (p'.channel k).segments f.chunk.segment f.chunk.bucket
    pub borrowed : p'.borrowed k ≡ p.borrowed k

  moves : ReclaimsAt → MovesTo l (leaving l k f.index h now f.chunk) changes p p'
  moves r = record {
    shape =
        ap (λ (q : channel.Queue). channel.shape (record (p'.channel k) { submission = q })) r.submission
        ∙ ap (λ (q : channel.Queue). channel.shape (record (p'.channel k) {
          submission = (p.channel k).submission;
          completion = q;
        })) r.completion
        ∙ ap (λ ss. record {
          submission = (p.channel k).submission.capacity;
          completion = (p.channel k).completion.capacity;
          samples = ss;
        }) r.segments.samples;
    queued = ap (λ (q : channel.Queue). q.values) r.submission ∙ was.queued;
    completed = ap (λ (q : channel.Queue). q.values) r.completion ∙ ap (drop 1) was.completed
        ∙ ap (λ names. drop 1 (map (pointer_named l) names)) f.names_are
        ∙ ap (map (pointer_named l)) (sym (completed-reclaimed_from h f.chunk.name f.rest f.names_are));
    borrowed = r.borrowed ∙ was.borrowed;
    used_else = λ segment bucket outside. r.segments.else segment bucket outside;
    used_here = r.segments.here ∙ sym reclaim_leaves.gone;
    sizes_else = λ segment apart. r.segments.sizes segment;
    sizes_here = inl (r.segments.sizes f.chunk.segment);
    sizes_told = λ is not. absurd (true≢false (sym f.transit ∙ not));
  }

  made : (place : ℕ) (reply : Reply) → history_on l k ≡ h →
      after_command l place (command.Reclaim k) reply ≡ after
  made place reply on =
      ap (λ e. with_history l k (history_after_reclaim e (front (completed_names e)))) on
      ∙ ap (λ names. with_history l k (history_after_reclaim h (front names))) f.names_are
      ∙ ap (λ chunks. record (with_history l k now) { chunks = chunks })
      (sym (set_there l.chunks f.index f.chunk f.stands))

  abbrev reply : Reply
  reply = Reclaimed (Some (record { chunk = f.chunk.name; segment = segment_of pointer; place = offset_of pointer }))

  pub reclaims_front : (place : ℕ) → history_on l k ≡ h → reclaim_cause l k ≡ None → ReclaimsAt →
      LeavesAt l s k f.index h now f.chunk here f.stands reclaim_leaves p p' →
      Steps p' l place (command.Reclaim k) (Reclaimed (Some (record {
        chunk = f.chunk.name;
        segment = segment_of pointer;
        place = offset_of pointer;
      })))
  reclaims_front place on none r leaves =
      done p' l after place (command.Reclaim k) reply none
      (ap Reclaimed (sym (ap (λ e. slot_named l (front (completed_names e))) on
      ∙ slot_at l s f.index f.chunk (completed_names h) f.rest pointer f.stands f.names_are f.pointer_is)))
      (made place reply on)
      (leaving_shows l s k f.index h now f.chunk here f.stands reclaim_leaves p p' leaves (moves r) shows tracks)
      (leaving_tracks l s k f.index h now f.chunk here f.stands reclaim_leaves p p' leaves (moves r) shows tracks)

-- ---- causes

pub reclaim_outside : (p : Core) (l : Ledger) (place k : ℕ) → Shows p l → Tracks p l → p.settings.channels ≤ k →
    Steps p l place (command.Reclaim k) (Refused OutsideConnection)
reclaim_outside p l place k shows tracks past =
    refused p l place (command.Reclaim k) OutsideConnection shows tracks
    (ap (λ b. cond b (Some OutsideConnection) None)
    (le-leb l.settings.channels k (subst (λ t. t.channels ≤ k) shows.settings past)))

pub may_reclaim : (l : Ledger) (k : ℕ) → k < l.settings.channels → reclaim_cause l k ≡ None
may_reclaim l k inside = ap (λ b. cond b (Some OutsideConnection) None) (le_false l.settings.channels k inside)

-- nothing was given back
pub reclaims_none : (p p' : Core) (l : Ledger) (place k : ℕ) → IsSettled l → Shows p l → Tracks p l →
    k < l.settings.channels → slice_get (p.channel k).completion.values 0 ≡ None → SameCore p p' →
    Steps p' l place (command.Reclaim k) (Reclaimed None)
reclaims_none p p' l place k s shows tracks inside empty same =
    let has = has_history l s k inside in
    let h = has.history in
    let channel = shows.channels k h has.here in
    let none : completed_names h ≡ [] =
    no_front l (completed_names h) (p.channel k).completion.values channel.completed empty in
    let front_is : front (completed_names (history_on l k)) ≡ None =
    ap (λ e. front (completed_names e)) has.on ∙ ap front none in
    done p' l l place (command.Reclaim k) (Reclaimed None) (may_reclaim l k inside)
    (ap (λ o. Reclaimed (slot_named l o)) (sym front_is))
    (ap (λ o. with_history l k (history_after_reclaim (history_on l k) o)) front_is
    ∙ ap (λ ns. with_history l k (record (history_on l k) { reclaimed = ns })) (append-nil (history_on l k).reclaimed)
    ∙ ap (λ hs. record l { histories = hs })
    (set_there l.histories k (history_on l k) (has.here ∙ ap Some (sym has.on))))
    (same_shows p p' l same shows) (same_tracks p p' l same tracks)

-- the pointer of a chunk in transit names a used entry of its channel
pub names_used_chunk : (p : Core) (l : Ledger) (s : IsSettled l) (k : ℕ) (h : ChannelHistory) →
    slice_get l.histories k ≡ Some h → Shows p l → (i : ℕ) (chunk : Chunk) (pointer : ℕ) →
    slice_get l.chunks i ≡ Some chunk → is_in_transit h chunk.name ≡ true → pointer ≡ pointer_to l chunk →
    IsUsedEntry (p.channel k).segments pointer chunk.segment chunk.bucket (layout_at l chunk.segment).size
names_used_chunk p l s k h here shows i chunk pointer there transit is =
    let at = is_pointer l s i chunk there in
    let was = shows.channels k h here in
    record {
      lies = ap segment_of is ∙ at.segment;
      offset = ap offset_of is ∙ at.offset;
      positive = at.size;
      stored = was.sizes i chunk there transit;
      used = was.used chunk.segment chunk.bucket ∙ holds_there (λ d. is_in_transit h d.name) l i chunk there transit;
    }

-- the pointer that a completion queue gives is that of the chunk that was given back first
pub completion_front : (p : Core) (l : Ledger) (s : IsSettled l) (k : ℕ) (has : HasHistory l k) (pointer : ℕ) →
    Shows p l → slice_get (p.channel k).completion.values 0 ≡ Some pointer →
    IsFront l has.history (completed_names has.history) pointer
completion_front p l s k has pointer shows first =
    front_of l s k has.history (completed_names has.history) (p.channel k).completion.values pointer has.here
    (shows.channels k has.history has.here).completed first (completed_weighs has.history)
