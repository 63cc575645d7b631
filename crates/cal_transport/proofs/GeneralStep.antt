-- The general step: one chunk's entry, one bucket's mark and one channel change. What the parts show then.
use Rattle.std.proofs.Common.{ℕ, ◌+◌, ◌<◌, ◌≡◌, ◌≢◌, true, length, set, Some, inl, inr, refl, sym, ap, ◌∙◌, subst, arith}
use Rattle.std.specs.List.{slice_get}
use Rattle.std.proofs.lemmas.Bool.{lt-ltb, ltb-true}
use Rattle.std.proofs.lemmas.List.{length-set}
use Rattle.std.proofs.lemmas.Option.{same_Some}
use Rattle.cal_transport.specs.Ledger.{current, Ledger, Chunk, ChannelHistory, layout_at, is_live, is_in_transit}
use Rattle.cal_transport.specs.Soundness.{LiesWithin, IsSentChunk, weight, IsOrderly}
use Rattle.cal_transport.specs.Weights.{transits}
use Rattle.cal_transport.specs.Core.{Core}
use Rattle.cal_transport.specs.Shown.{ShowsActive, ShowsMapped, ShowsChannel, TracksChannel, Shows, Tracks, entry_of}
use Rattle.cal_transport.proofs.Lists.{same_or_apart, slice_get-set_else}
use Rattle.cal_transport.proofs.Names.{is_in_transit-weight}
use Rattle.cal_transport.proofs.Settled.{IsSettled}
use Rattle.cal_transport.proofs.Changed.{Change, Changes, changed, stood, stands_after, here_after, live_else, transits_in-after}
use Rattle.cal_transport.proofs.Kept.{ShowsAllBytes, entries_after, owners_after}
use Rattle.cal_transport.proofs.Channels.{SameChannel, SameTracks, MovesTo, TracksTo, channel_else, tracks_else, channel_here, tracks_here, else_history, name_stood}

module _ (l : Ledger) (x : Change) (c : Changes l x) where
  abbrev after : Ledger
  after = changed l x

  -- what the parts are after the step: memory and view show the ledger after, and the rest has changed as the chunk has
  pub record StepsTo (p p' : Core) : Type 0 where
    pub settings : p'.settings ≡ p.settings
    pub current : p'.current ≡ p.current
    pub active : (segment : ℕ) → ShowsActive after segment (p'.active segment)
    pub bytes : ShowsAllBytes l x c p' after
    pub opened_last : p'.opened_last ≡ x.opened_last
    pub mapped : (segment : ℕ) → ShowsMapped after segment (p'.mapped segment)
    pub others : (k : ℕ) → k ≢ x.channel → SameChannel p p' k
    pub moves : MovesTo l x c p p'
    pub entries : p'.entries ≡ set p.entries x.index (entry_of after.histories x.new_chunk)
    pub other_tracks : (k : ℕ) → k ≢ x.channel → SameTracks p p' k
    pub tracks : TracksTo l x c p p'
    pub owners : (segment : ℕ) → p'.owners segment ≡ p.owners segment
    pub in_transit : p'.in_transit + transits l.histories x.old_chunk.name
        ≡ p.in_transit + transits after.histories x.new_chunk.name

  history_after : (k : ℕ) (h : ChannelHistory) → k ≡ x.channel → slice_get after.histories k ≡ Some h →
      x.new_history ≡ h
  history_after k h same there =
      same_Some x.new_history h (sym (here_after l x c) ∙ ap (slice_get after.histories) (sym same) ∙ there)

  pub shows_after : (p p' : Core) → is_live l x.old_chunk ≡ true → StepsTo p p' → Shows p l → Shows p' after
  shows_after p p' alive s shows = record {
    settings = s.settings ∙ shows.settings;
    current = s.current ∙ shows.current;
    active = s.active;
    bytes = s.bytes;
    opened_last = s.opened_last;
    mapped = s.mapped;
    channels = each;
    entries = s.entries ∙ entries_after l x c p.entries shows.entries;
  }
    where
      each : (k : ℕ) (h : ChannelHistory) → slice_get after.histories k ≡ Some h → ShowsChannel p' after k h
      each k h there = elim (same_or_apart k x.channel) [
        | inl same ↦ subst (λ n. ShowsChannel p' after n h) (sym same)
            (subst (ShowsChannel p' after x.channel) (history_after k h same there)
            (channel_here l x c p p' alive s.moves (shows.channels x.channel x.old_history c.here)))
        | inr apart ↦ channel_else l x c p p' k h (s.others k apart)
            (shows.channels k h (else_history l x c k h apart there))
      ]

  pub tracks_after : (p p' : Core) → is_live l x.old_chunk ≡ true → StepsTo p p' → Tracks p l → Tracks p' after
  tracks_after p p' alive s tracks = record {
    channels = each;
    owners = λ i chunk there living. ap (λ os. slice_get os chunk.bucket) (s.owners chunk.segment)
        ∙ owners_after l x c p.owners alive tracks.owners i chunk there living;
    table = ap length (s.owners (current l)) ∙ tracks.table;
    in_transit = (let was = tracks.in_transit in let moved = s.in_transit in
        let sums = transits_in-after l x c in omega arith);
  }
    where
      each : (k : ℕ) (h : ChannelHistory) → slice_get after.histories k ≡ Some h → TracksChannel p' after k h
      each k h there = elim (same_or_apart k x.channel) [
        | inl same ↦ subst (λ n. TracksChannel p' after n h) (sym same)
            (subst (TracksChannel p' after x.channel) (history_after k h same there)
            (tracks_here l x c p p' alive s.tracks (tracks.channels x.channel x.old_history c.here)))
        | inr apart ↦ tracks_else l x c p p' k h (s.other_tracks k apart)
            (tracks.channels k h (else_history l x c k h apart there))
      ]

  -- ---- a settled ledger stays so

  -- no chunk comes to life, names are on their way in order, and what is on its way was sent
  pub record StaysSettled : Type 0 where
    pub lives : is_live after x.new_chunk ≡ true → is_live l x.old_chunk ≡ true
    pub orderly : IsOrderly x.new_history
    pub sent : x.old_chunk.sent ≡ true → x.new_chunk.sent ≡ true
    pub known : is_in_transit x.new_history x.old_chunk.name ≡ true → IsSentChunk after x.old_chunk.name

  lived : StaysSettled → (i : ℕ) (a : Chunk) → slice_get after.chunks i ≡ Some a → is_live after a ≡ true →
      (before : Chunk) × (slice_get l.chunks i ≡ Some before) × (is_live l before ≡ true) × (before.segment ≡ a.segment)
      × (before.bucket ≡ a.bucket)
  lived s i a there living = elim (same_or_apart i x.index) [
    | inl here ↦
        let is : a ≡ x.new_chunk = same_Some a x.new_chunk
        (sym there ∙ ap (slice_get after.chunks) here ∙ stands_after l x c) in (
          x.old_chunk,
          ap (slice_get l.chunks) here ∙ c.stands,
          s.lives (ap (is_live after) (sym is) ∙ living),
          sym (ap (λ (d : Chunk). d.segment) is ∙ c.segment),
          sym (ap (λ (d : Chunk). d.bucket) is ∙ c.bucket),
        )
    | inr apart ↦
        let before = stood l x c i a apart there in
        (a, before, sym (live_else l x c i a apart before) ∙ living, refl, refl)
  ]

  kept_sent : StaysSettled → (name : ℕ) → IsSentChunk l name → IsSentChunk after name
  kept_sent s name k = elim (same_or_apart k.index x.index) [
    | inl here ↦
        let is : k.chunk ≡ x.old_chunk = same_Some k.chunk x.old_chunk
        (sym k.stands ∙ ap (slice_get l.chunks) here ∙ c.stands) in
        record {
          index = x.index;
          chunk = x.new_chunk;
          stands = stands_after l x c;
          same_name = c.name ∙ ap (λ (d : Chunk). d.name) (sym is) ∙ k.same_name;
          sent = s.sent (ap (λ (d : Chunk). d.sent) (sym is) ∙ k.sent);
          segment = subst (λ n. n < l.settings.segments) (ap (λ (d : Chunk). d.segment) is ∙ sym c.segment) k.segment;
          bucket = subst (λ n. n < l.settings.samples) (ap (λ (d : Chunk). d.bucket) is ∙ sym c.bucket) k.bucket;
        }
    | inr apart ↦ record {
      index = k.index;
      chunk = k.chunk;
      stands = slice_get-set_else l.chunks x.index k.index x.new_chunk apart ∙ k.stands;
      same_name = k.same_name;
      sent = k.sent;
      segment = k.segment;
      bucket = k.bucket;
    }
  ]

  pub settled_after : StaysSettled → IsSettled after
  settled_after s = record {
    room = c.settled.room;
    segments = record {
      some = c.settled.segments.some;
      few = c.settled.segments.few;
      sizes = c.settled.segments.sizes;
    };
    names = λ i j a b first second apart same. (let x1 = name_stood l x c i a first in
        let x2 = name_stood l x c j b second in
        c.settled.names i j x1.0 x2.0 x1.1 x2.1 apart (sym x1.2 ∙ same ∙ x2.2));
    within = λ i a there. within_after i a there;
    apart = λ i j a b first second living other share. (let x1 = lived s i a first living in
        let x2 = lived s j b second other in
        c.settled.apart i j x1.0 x2.0 x1.1 x2.1 x1.2 x2.2 (record {
          segment = x1.3 ∙ share.segment ∙ sym x2.3;
          bucket = x1.4 ∙ share.bucket ∙ sym x2.4;
        }));
    channels = length-set l.histories x.channel x.new_history ∙ c.settled.channels;
    orderly = λ k h there. elim (same_or_apart k x.channel) [
      | inl same ↦ subst IsOrderly (history_after k h same there) s.orderly
      | inr apart ↦ c.settled.orderly k h (else_history l x c k h apart there)
    ];
    known = λ k h name there some. known_after k h name there some;
  }
    where
      within_after : (i : ℕ) (a : Chunk) → slice_get after.chunks i ≡ Some a → LiesWithin after a
      within_after i a there = elim (same_or_apart i x.index) [
        | inl here ↦
            let is : x.new_chunk ≡ a = same_Some x.new_chunk a
            (sym (stands_after l x c) ∙ ap (slice_get after.chunks) (sym here) ∙ there) in
            let w = c.settled.within x.index x.old_chunk c.stands in
            subst (LiesWithin after) is (record {
              segment = subst (λ n. n < length l.segments) (sym c.segment) w.segment;
              bucket = subst (λ n. n < (layout_at l x.new_chunk.segment).count) (sym c.bucket)
                  (subst (λ n. x.old_chunk.bucket < (layout_at l n).count) (sym c.segment) w.bucket);
              bytes = c.long ∙ w.bytes ∙ ap (λ n. (layout_at l n).size) (sym c.segment);
            })
        | inr apart ↦
            let w = c.settled.within i a (stood l x c i a apart there) in
            record { segment = w.segment; bucket = w.bucket; bytes = w.bytes }
      ]

      by_weight : (h : ChannelHistory) (name : ℕ) → 0 < weight h name → is_in_transit h name ≡ true
      by_weight h name some = is_in_transit-weight h name ∙ lt-ltb 0 (weight h name) some

      weighs : (h : ChannelHistory) (name : ℕ) → is_in_transit h name ≡ true → 0 < weight h name
      weighs h name transit = ltb-true 0 (weight h name) (sym (is_in_transit-weight h name) ∙ transit)

      known_after : (k : ℕ) (h : ChannelHistory) (name : ℕ) → slice_get after.histories k ≡ Some h →
          0 < weight h name → IsSentChunk after name
      known_after k h name there some = elim (same_or_apart k x.channel) [
        | inl same ↦
            let now : is_in_transit x.new_history name ≡ true =
            ap (λ e. is_in_transit e name) (history_after k h same there) ∙ by_weight h name some in
            elim (same_or_apart name x.old_chunk.name) [
              | inl here ↦ subst (IsSentChunk after) (sym here)
                  (s.known (ap (is_in_transit x.new_history) (sym here) ∙ now))
              | inr apart ↦ kept_sent s name (c.settled.known x.channel x.old_history name c.here
                  (weighs x.old_history name (sym (c.transit_else name apart) ∙ now)))
            ]
        | inr apart ↦ kept_sent s name (c.settled.known k h name (else_history l x c k h apart there) some)
      ]
