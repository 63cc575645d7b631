-- A chunk isn't in transit any more on a channel where it was, by a reclaim or by overflow: its bucket comes back where
-- the chunk isn't loaned and no other channel has it.
use Rattle.std.proofs.Common.{ℕ, ◌+◌, ◌-◌, ◌*◌, ◌<◌, ◌≡◌, ◌≢◌, Bool, true, false, cond, ◌||◌, nat_eq, nat_lt, length, set, Option, Some, None, inl, inr, refl, sym, ap, ◌∙◌, subst, arith}
use Rattle.std.specs.List.{slice_get}
use Rattle.std.proofs.lemmas.Option.{same_Some, none-some}
use Rattle.cal_queue.specs.UsedChunks.{contains}
use Rattle.cal_transport.specs.Ledger.{Ledger, Chunk, ChannelHistory, is_live, is_in_transit, is_borrowed}
use Rattle.cal_transport.specs.Weights.{transits, borrows, one_if}
use Rattle.cal_transport.specs.Core.{Core, ActiveSegment, without_bucket, given_back, GivesBack}
use Rattle.cal_transport.specs.Shown.{Shows, Tracks, ShowsMapped, entry_of}
use Rattle.cal_transport.proofs.Lists.{same_or_apart}
use Rattle.cal_transport.proofs.Settled.{IsSettled}
use Rattle.cal_transport.proofs.Changed.{Change, Changes, changed, transit_lives, live_is, transits_here, borrows_here}
use Rattle.cal_transport.proofs.Kept.{KeepsPayloads, active_after, bytes_kept, mapped_kept}
use Rattle.cal_transport.proofs.Channels.{SameChannel, SameTracks, MovesTo, TracksTo}
use Rattle.cal_transport.proofs.GeneralStep.{StepsTo, shows_after, tracks_after}
use Rattle.cal_transport.proofs.Marks.{own_borrowed}

-- the payloads stay, whether a bucket comes back or not
payload_here : (kept is_current : Bool) (bucket : ℕ) (o : Option ActiveSegment) (shown : ActiveSegment) →
    cond kept o (given_back is_current bucket o) ≡ Some shown →
    (before : ActiveSegment) × (o ≡ Some before) × (shown.payload ≡ before.payload)
payload_here true is_current bucket o shown is = (shown, is, refl)
payload_here false is_current bucket None shown is = absurd (none-some shown is)
payload_here false is_current bucket (Some before) shown is =
    by_test (is_current || nat_lt 0 (without_bucket before bucket).chunks) is
  where
    by_test : (b : Bool) → cond b (Some (without_bucket before bucket)) None ≡ Some shown →
        (was : ActiveSegment) × (Some before ≡ Some was) × (shown.payload ≡ was.payload)
    by_test true e =
        (before, refl, ap (λ (a : ActiveSegment). a.payload) (sym (same_Some (without_bucket before bucket) shown e)))
    by_test false e = absurd (none-some shown e)

pub gives_payloads : (l : Ledger) (x : Change) (c : Changes l x) (p p' : Core) (kept : Bool) (segment bucket : ℕ) →
    GivesBack p p' kept segment bucket → KeepsPayloads l x c p p'
gives_payloads l x c p p' kept segment bucket gives = record {
  payload = λ other shown has. elim (same_or_apart other segment) [
    | inl same ↦
        let at = payload_here kept (nat_eq segment p.current) bucket (p.active segment) shown
        (sym gives.here ∙ ap p'.active (sym same) ∙ has) in
        (at.0, ap p.active same ∙ at.1, at.2)
    | inr apart ↦ (shown, sym (gives.others other apart) ∙ has, refl)
  ];
}

-- the chunk leaves the channel, and no other does; what is borrowed stays borrowed
pub record Leaves (h now : ChannelHistory) (chunk : Chunk) : Type 0 where
  pub was : is_in_transit h chunk.name ≡ true
  pub gone : is_in_transit now chunk.name ≡ false
  pub else : (name : ℕ) → name ≢ chunk.name → is_in_transit now name ≡ is_in_transit h name
  pub borrowed : (name : ℕ) → is_borrowed now name ≡ is_borrowed h name

abbrev pub leaving : Ledger → ℕ → ℕ → ChannelHistory → ChannelHistory → Chunk → Change
leaving l k i h now chunk = record {
  channel = k;
  index = i;
  old_history = h;
  new_history = now;
  old_chunk = chunk;
  new_chunk = chunk;
  opened_last = l.opened_last;
}

module _ (l : Ledger) (s : IsSettled l) (k i : ℕ) (h now : ChannelHistory) (chunk : Chunk)
    (here : slice_get l.histories k ≡ Some h) (stands : slice_get l.chunks i ≡ Some chunk)
    (leaves : Leaves h now chunk) where
  abbrev change : Change
  change = leaving l k i h now chunk

  abbrev after : Ledger
  after = changed l change

  pub leaving_changes : Changes l change
  leaving_changes = record {
    settled = s;
    here = here;
    stands = stands;
    name = refl;
    segment = refl;
    bucket = refl;
    long = refl;
    transit_else = leaves.else;
    borrowed_else = λ name apart. leaves.borrowed name;
  }

  pub leaving_alive : is_live l chunk ≡ true
  leaving_alive = transit_lives l k h chunk here leaves.was

  pub one_less : transits after.histories chunk.name + 1 ≡ transits l.histories chunk.name
  one_less =
      let t = transits_here l change leaving_changes in
      let was = ap one_if leaves.was in let is = ap one_if leaves.gone in omega arith

  same_borrows : borrows after.histories chunk.name ≡ borrows l.histories chunk.name
  same_borrows =
      let t = borrows_here l change leaving_changes in let e = ap one_if (leaves.borrowed chunk.name) in omega arith

  -- whether the bucket is kept is told by the entry
  pub kept_is : (chunk.loaned || nat_lt 0 (transits l.histories chunk.name - 1)) ≡ is_live after chunk
  kept_is =
      let less = one_less in
      let same : transits l.histories chunk.name - 1 ≡ transits after.histories chunk.name = omega arith in
      ap (λ n. chunk.loaned || nat_lt 0 n) same ∙ sym (live_is after chunk)

  -- what becomes of the parts, but of the channel itself
  pub record LeavesAt (p p' : Core) : Type 0 where
    pub settings : p'.settings ≡ p.settings
    pub memory : GivesBack p p' (chunk.loaned || nat_lt 0 (transits l.histories chunk.name - 1)) chunk.segment
        chunk.bucket
    pub opened_last : p'.opened_last ≡ p.opened_last
    pub mapped : (segment : ℕ) → p'.mapped segment ≡ p.mapped segment
    pub others : (other : ℕ) → other ≢ k → SameChannel p p' other
    pub entries : p'.entries
        ≡ set p.entries i (record (entry_of l.histories chunk) { transits = transits l.histories chunk.name - 1 })
    pub other_tracks : (other : ℕ) → other ≢ k → SameTracks p p' other
    pub lent : p'.lent k ≡ p.lent k
    pub transits : p'.transits k + 1 ≡ p.transits k
    pub owners : (segment : ℕ) → p'.owners segment ≡ p.owners segment
    pub in_transit : p'.in_transit + 1 ≡ p.in_transit

  module _ (p p' : Core) (r : LeavesAt p p') (moves : MovesTo l change leaving_changes p p') (shows : Shows p l)
      (tracks : Tracks p l) where
    gives : GivesBack p p' (is_live after chunk) chunk.segment chunk.bucket
    gives = subst (λ kept. GivesBack p p' kept chunk.segment chunk.bucket) kept_is r.memory

    -- the bucket's mark tells whether the chunk is borrowed
    lent_stays : chunk.segment < l.settings.segments → chunk.bucket < l.settings.samples →
        contains (p.lent k) (chunk.segment * l.settings.samples + chunk.bucket) ≡ is_borrowed now chunk.name
    lent_stays inside below =
        (tracks.channels k h here).lent chunk.segment chunk.bucket inside below
        ∙ own_borrowed l s k h here i chunk stands leaving_alive ∙ sym (leaves.borrowed chunk.name)

    to : TracksTo l change leaving_changes p p'
    to = record {
      room = ap (λ used. length used.marks) r.lent;
      lent_else = λ segment bucket below outside.
          ap (λ used. contains used (segment * l.settings.samples + bucket)) r.lent;
      lent_here = λ inside below.
          ap (λ used. contains used (chunk.segment * l.settings.samples + chunk.bucket)) r.lent
          ∙ lent_stays inside below;
      transits = (let t = r.transits in let was = ap one_if leaves.was in let is = ap one_if leaves.gone in omega
          arith);
    }

    steps : StepsTo l change leaving_changes p p'
    steps = record {
      settings = r.settings;
      current = gives.current;
      active = active_after l change leaving_changes p p' leaving_alive shows.current gives shows.active;
      bytes = bytes_kept l change leaving_changes p p' leaving_alive refl
          (gives_payloads l change leaving_changes p p' (is_live after chunk) chunk.segment chunk.bucket gives)
          shows.bytes;
      opened_last = r.opened_last ∙ shows.opened_last;
      mapped = λ segment. mapped_kept l change leaving_changes segment (p'.mapped segment) refl same_borrows
          (subst (ShowsMapped l segment) (sym (r.mapped segment)) (shows.mapped segment));
      others = r.others;
      moves = moves;
      entries = r.entries ∙ ap (λ n. set p.entries i (record (entry_of l.histories chunk) { transits = n }))
          (let less = one_less in
          let same : transits l.histories chunk.name - 1 ≡ transits after.histories chunk.name = omega arith in same);
      other_tracks = r.other_tracks;
      tracks = to;
      owners = r.owners;
      in_transit = (let t = r.in_transit in let less = one_less in omega arith);
    }

    pub leaving_shows : Shows p' after
    leaving_shows = shows_after l change leaving_changes p p' leaving_alive steps shows

    pub leaving_tracks : Tracks p' after
    leaving_tracks = tracks_after l change leaving_changes p p' leaving_alive steps tracks
