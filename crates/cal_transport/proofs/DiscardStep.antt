-- A discard is a step: the loan ends, and the bucket comes back where the chunk isn't in transit on any channel.
use Rattle.std.proofs.Common.{ℕ, ◌+◌, ◌*◌, ◌≡◌, true, false, ◌||◌, nat_lt, length, set, Some, None, inl, refl, sym, ap, ◌∙◌, subst, arith}
use Rattle.std.specs.List.{slice_get}
use Rattle.std.proofs.lemmas.Bool.{true≢false}
use Rattle.std.proofs.lemmas.Option.{slice_get-get_or}
use Rattle.cal_queue.specs.UsedChunks.{contains}
use Rattle.cal_connection.specs.Channel as channel
use Rattle.cal_transport.specs.declared.command.Command.TheVariants as command
use Rattle.cal_transport.specs.declared.reply.Reply.{Reply}
use Rattle.cal_transport.specs.declared.reply.Reply.TheVariants.{Discarded, Refused}
use Rattle.cal_transport.specs.declared.reply.Refusal.TheVariants.{NotLoaned}
use Rattle.cal_transport.specs.Ledger.{Ledger, Chunk, ChannelHistory, new_history, loaned_chunk, is_live}
use Rattle.cal_transport.specs.Cause.{discard_cause}
use Rattle.cal_transport.specs.Step.{after_command}
use Rattle.cal_transport.specs.Weights.{transits, borrows}
use Rattle.cal_transport.specs.Core.{Core, GivesBack}
use Rattle.cal_transport.specs.Shown.{Shows, Tracks, ShowsMapped, ShowsChannel, entry_of}
use Rattle.cal_transport.proofs.Lists.{set_there}
use Rattle.cal_transport.proofs.Steps.{changed_chunk-at}
use Rattle.cal_transport.proofs.Settled.{IsSettled}
use Rattle.cal_transport.proofs.Changed.{Change, Changes, changed, live_is, transits_here, borrows_here}
use Rattle.cal_transport.proofs.Kept.{active_after, bytes_kept, mapped_kept}
use Rattle.cal_transport.proofs.Channels.{SameChannel, SameTracks, MovesTo, TracksTo}
use Rattle.cal_transport.proofs.GeneralStep.{StepsTo, shows_after, tracks_after}
use Rattle.cal_transport.proofs.LeavingStep.{gives_payloads}
use Rattle.cal_transport.proofs.Marks.{own_transit, own_borrowed}
use Rattle.cal_transport.proofs.Stands.{Steps, refused, done}

-- ---- a chunk that changes while its channels don't

-- channel 0 is there
pub record First (l : Ledger) : Type 0 where
  pub history : ChannelHistory
  pub here : slice_get l.histories 0 ≡ Some history

pub first_channel : (l : Ledger) → IsSettled l → First l
first_channel l s =
    let many = s.channels in let some = s.room.channels in
    record { history = _; here = slice_get-get_or l.histories 0 new_history (omega arith) }

abbrev pub standing : Ledger → ChannelHistory → ℕ → Chunk → Chunk → Change
standing l h i old new = record {
  channel = 0;
  index = i;
  old_history = h;
  new_history = h;
  old_chunk = old;
  new_chunk = new;
  opened_last = l.opened_last;
}

-- the chunk keeps its name and its bucket
pub record Keeps (old new : Chunk) : Type 0 where
  pub name : new.name ≡ old.name
  pub segment : new.segment ≡ old.segment
  pub bucket : new.bucket ≡ old.bucket
  pub long : length new.bytes ≡ length old.bytes

module _ (l : Ledger) (s : IsSettled l) (h : ChannelHistory) (here : slice_get l.histories 0 ≡ Some h) (i : ℕ)
    (old new : Chunk) (stands : slice_get l.chunks i ≡ Some old) (keeps : Keeps old new)
    (alive : is_live l old ≡ true) where
  abbrev pub change : Change
  change = standing l h i old new

  abbrev pub after : Ledger
  after = changed l change

  pub standing_changes : Changes l change
  standing_changes = record {
    settled = s;
    here = here;
    stands = stands;
    name = keeps.name;
    segment = keeps.segment;
    bucket = keeps.bucket;
    long = keeps.long;
    transit_else = λ name apart. refl;
    borrowed_else = λ name apart. refl;
  }

  pub same_transits : transits after.histories new.name ≡ transits l.histories old.name
  same_transits =
      let t = transits_here l change standing_changes in
      let e = ap (transits after.histories) keeps.name in omega arith

  pub same_borrows : borrows after.histories new.name ≡ borrows l.histories old.name
  same_borrows =
      let t = borrows_here l change standing_changes in
      let e = ap (borrows after.histories) keeps.name in omega arith

  -- no channel changes, and what is kept of them doesn't
  pub record StandsAt (p p' : Core) : Type 0 where
    pub opened_last : p'.opened_last ≡ p.opened_last
    pub mapped : (segment : ℕ) → p'.mapped segment ≡ p.mapped segment
    pub channels : (k : ℕ) → SameChannel p p' k
    pub tracks : (k : ℕ) → SameTracks p p' k
    pub owners : (segment : ℕ) → p'.owners segment ≡ p.owners segment
    pub in_transit : p'.in_transit ≡ p.in_transit

  module _ (p p' : Core) (r : StandsAt p p') (shows : Shows p l) (tracks : Tracks p l) where
    was : ShowsChannel p l 0 h
    was = shows.channels 0 h here

    pub standing_moves : MovesTo l change standing_changes p p'
    standing_moves = record {
      shape = ap channel.shape (r.channels 0).channel;
      queued = ap (λ (e : channel.ChannelEntry). e.submission.values) (r.channels 0).channel ∙ was.queued;
      completed = ap (λ (e : channel.ChannelEntry). e.completion.values) (r.channels 0).channel ∙ was.completed;
      borrowed = (r.channels 0).borrowed ∙ was.borrowed;
      used_else = λ segment bucket outside.
          ap (λ (e : channel.ChannelEntry). channel.is_used e.segments segment bucket) (r.channels 0).channel;
      used_here =
          ap (λ (e : channel.ChannelEntry). channel.is_used e.segments old.segment old.bucket) (r.channels 0).channel
          ∙ was.used old.segment old.bucket ∙ own_transit l s 0 h here i old stands alive;
      sizes_else = λ segment apart.
          ap (λ (e : channel.ChannelEntry). (channel.segment_at e.segments segment).sample_size) (r.channels 0).channel;
      sizes_here = inl (ap
          (λ (e : channel.ChannelEntry). (channel.segment_at e.segments old.segment).sample_size)
          (r.channels 0).channel);
      sizes_told = λ is not. absurd (true≢false (sym is ∙ not));
    }

    pub standing_tracks : TracksTo l change standing_changes p p'
    standing_tracks = record {
      room = ap (λ used. length used.marks) (r.tracks 0).lent;
      lent_else = λ segment bucket below outside.
          ap (λ used. contains used (segment * l.settings.samples + bucket)) (r.tracks 0).lent;
      lent_here = λ inside below.
          ap (λ used. contains used (old.segment * l.settings.samples + old.bucket)) (r.tracks 0).lent
          ∙ (tracks.channels 0 h here).lent old.segment old.bucket inside below
          ∙ own_borrowed l s 0 h here i old stands alive;
      transits = (let t = (r.tracks 0).transits in omega arith);
    }

-- ---- the end of a loan

abbrev pub discarded : Chunk → Chunk
discarded chunk = record chunk { loaned = false }

-- the loan ended, and the bucket came back unless the chunk is in transit
pub record DiscardsAt (l : Ledger) (i : ℕ) (chunk : Chunk) (p p' : Core) : Type 0 where
  pub settings : p'.settings ≡ p.settings
  pub memory : GivesBack p p' (nat_lt 0 (transits l.histories chunk.name)) chunk.segment chunk.bucket
  pub entries : p'.entries ≡ set p.entries i (record (entry_of l.histories chunk) { loaned = false })
  pub opened_last : p'.opened_last ≡ p.opened_last
  pub mapped : (segment : ℕ) → p'.mapped segment ≡ p.mapped segment
  pub channels : (k : ℕ) → SameChannel p p' k
  pub tracks : (k : ℕ) → SameTracks p p' k
  pub owners : (segment : ℕ) → p'.owners segment ≡ p.owners segment
  pub in_transit : p'.in_transit ≡ p.in_transit

module _ (p p' : Core) (l : Ledger) (s : IsSettled l) (h : ChannelHistory) (here : slice_get l.histories 0 ≡ Some h)
    (i : ℕ) (chunk : Chunk) (stands : slice_get l.chunks i ≡ Some chunk) (loaned : chunk.loaned ≡ true)
    (r : DiscardsAt l i chunk p p') (shows : Shows p l) (tracks : Tracks p l) where
  keeps : Keeps chunk (discarded chunk)
  keeps = record { name = refl; segment = refl; bucket = refl; long = refl }

  alive : is_live l chunk ≡ true
  alive = live_is l chunk ∙ ap (λ b. b || nat_lt 0 (transits l.histories chunk.name)) loaned

  abbrev x : Change
  x = standing l h i chunk (discarded chunk)

  abbrev end : Ledger
  end = changed l x

  abbrev c : Changes l x
  c = standing_changes l s h here i chunk (discarded chunk) stands keeps alive

  kept_is : nat_lt 0 (transits l.histories chunk.name) ≡ is_live end (discarded chunk)
  kept_is =
      ap (nat_lt 0) (sym (same_transits l s h here i chunk (discarded chunk) stands keeps alive))
      ∙ sym (live_is end (discarded chunk))

  gives : GivesBack p p' (is_live end (discarded chunk)) chunk.segment chunk.bucket
  gives = subst (λ kept. GivesBack p p' kept chunk.segment chunk.bucket) kept_is r.memory

  at : StandsAt l s h here i chunk (discarded chunk) stands keeps alive p p'
  at = record {
    opened_last = r.opened_last;
    mapped = r.mapped;
    channels = r.channels;
    tracks = r.tracks;
    owners = r.owners;
    in_transit = r.in_transit;
  }

  steps : StepsTo l x c p p'
  steps = record {
    settings = r.settings;
    current = gives.current;
    active = active_after l x c p p' alive shows.current gives shows.active;
    bytes = bytes_kept l x c p p' alive refl
        (gives_payloads l x c p p' (is_live end (discarded chunk)) chunk.segment chunk.bucket gives) shows.bytes;
    opened_last = r.opened_last ∙ shows.opened_last;
    mapped = λ segment. mapped_kept l x c segment (p'.mapped segment) refl
        (same_borrows l s h here i chunk (discarded chunk) stands keeps alive)
        (subst (ShowsMapped l segment) (sym (r.mapped segment)) (shows.mapped segment));
    others = λ k apart. r.channels k;
    moves = standing_moves l s h here i chunk (discarded chunk) stands keeps alive p p' at shows tracks;
    entries = r.entries ∙ ap (λ n. set p.entries i (record (entry_of l.histories chunk) {
      loaned = false;
      transits = n;
    })) (sym (same_transits l s h here i chunk (discarded chunk) stands keeps alive));
    other_tracks = λ k apart. r.tracks k;
    tracks = standing_tracks l s h here i chunk (discarded chunk) stands keeps alive p p' at shows tracks;
    owners = r.owners;
    in_transit = (let t = r.in_transit in
        let same = same_transits l s h here i chunk (discarded chunk) stands keeps alive in omega arith);
  }

  made : (place : ℕ) (reply : Reply) → after_command l place (command.Discard chunk.name) reply ≡ end
  made place reply =
      ap (λ chunks. record l { chunks = chunks })
      (changed_chunk-at l.chunks i chunk discarded stands
      (λ j d there apart. s.names j i d chunk there stands apart))
      ∙ ap (λ hs. record l { chunks = set l.chunks i (discarded chunk); histories = hs })
      (sym (set_there l.histories 0 h here))

  pub discards : (place : ℕ) → loaned_chunk l chunk.name ≡ Some chunk →
      Steps p' l place (command.Discard chunk.name) Discarded
  discards place is =
      done p' l end place (command.Discard chunk.name) Discarded (ap discard_cause is) refl (made place Discarded)
      (shows_after l x c p p' alive steps shows) (tracks_after l x c p p' alive steps tracks)

pub discard_refused : (p : Core) (l : Ledger) (place name : ℕ) → Shows p l → Tracks p l →
    loaned_chunk l name ≡ None → Steps p l place (command.Discard name) (Refused NotLoaned)
discard_refused p l place name shows tracks none =
    refused p l place (command.Discard name) NotLoaned shows tracks (ap discard_cause none)
