-- What the ports show of a ledger where one chunk and one channel's history change: of every other channel, and of the
-- changed one by what became of its entry.
use Rattle.std.proofs.Common.{ℕ, ◌+◌, ◌*◌, ◌<◌, ◌≡◌, ◌≢◌, Bool, true, false, ◌⊎◌, map, Some, inl, inr, refl, sym, ap, ◌∙◌, subst, arith}
use Rattle.std.specs.List.{slice_get}
use Rattle.std.proofs.lemmas.Option.{same_Some}
use Rattle.cal_queue.specs.UsedChunks.{contains, capacity_of}
use Rattle.cal_connection.specs.Channel as channel
use Rattle.cal_transport.specs.Ledger.{Ledger, Chunk, ChannelHistory, layout_at, is_live, is_in_transit, is_borrowed, borrow_count, queued_names, completed_names}
use Rattle.cal_transport.specs.Weights.{lies_in, one_if}
use Rattle.cal_transport.specs.Core.{Core}
use Rattle.cal_transport.specs.Shown.{ShowsChannel, TracksChannel, pointer_named}
use Rattle.cal_transport.proofs.Lists.{same_or_apart, slice_get-set_else}
use Rattle.cal_transport.proofs.Changed.{Change, Changes, changed, other_name, stood, stands_after, lies_there, mark_right, marks_same, marks_transit, marks_borrowed, transits_on-after, transits_on-else}
use Rattle.cal_transport.proofs.Kept.{pointers-after}

-- the channel is as it was, and so is what the receiver counts there
pub record SameChannel (p p' : Core) (k : ℕ) : Type 0 where
  pub channel : p'.channel k ≡ p.channel k
  pub borrowed : p'.borrowed k ≡ p.borrowed k

-- what the transport keeps of the channel is as it was
pub record SameTracks (p p' : Core) (k : ℕ) : Type 0 where
  pub lent : p'.lent k ≡ p.lent k
  pub transits : p'.transits k ≡ p.transits k

module _ (l : Ledger) (x : Change) (c : Changes l x) where
  abbrev after : Ledger
  after = changed l x

  -- the name at a place of the later ledger stood there
  pub name_stood : (i : ℕ) (chunk : Chunk) → slice_get after.chunks i ≡ Some chunk →
      (before : Chunk) × (slice_get l.chunks i ≡ Some before) × (chunk.name ≡ before.name)
      × (chunk.segment ≡ before.segment)
  name_stood i chunk there = elim (same_or_apart i x.index) [
    | inl here ↦
        let is : chunk ≡ x.new_chunk = same_Some chunk x.new_chunk
        (sym there ∙ ap (slice_get after.chunks) here ∙ stands_after l x c) in (
          x.old_chunk,
          ap (slice_get l.chunks) here ∙ c.stands,
          ap (λ (d : Chunk). d.name) is ∙ c.name,
          ap (λ (d : Chunk). d.segment) is ∙ c.segment,
        )
    | inr apart ↦ (chunk, stood l x c i chunk apart there, refl, refl)
  ]

  -- ---- another channel

  pub else_history : (k : ℕ) (h : ChannelHistory) → k ≢ x.channel → slice_get after.histories k ≡ Some h →
      slice_get l.histories k ≡ Some h
  else_history k h apart there = sym (slice_get-set_else l.histories x.channel k x.new_history apart) ∙ there

  pub channel_else : (p p' : Core) (k : ℕ) (h : ChannelHistory) → SameChannel p p' k → ShowsChannel p l k h →
      ShowsChannel p' after k h
  channel_else p p' k h same shows = record {
    shape = ap channel.shape same.channel ∙ shows.shape;
    queued = ap (λ (e : channel.ChannelEntry). e.submission.values) same.channel ∙ shows.queued
        ∙ sym (pointers-after l x c (queued_names h));
    completed = ap (λ (e : channel.ChannelEntry). e.completion.values) same.channel ∙ shows.completed
        ∙ sym (pointers-after l x c (completed_names h));
    borrowed = same.borrowed ∙ shows.borrowed;
    used = λ segment bucket. ap (λ (e : channel.ChannelEntry). channel.is_used e.segments segment bucket) same.channel
        ∙ shows.used segment bucket
        ∙ sym (marks_same l x c (λ d. is_in_transit h d.name) (λ d. is_in_transit h d.name) segment bucket
        (λ j d apart there. refl) (ap (is_in_transit h) c.name));
    sizes = λ i chunk there transit. (let b = name_stood i chunk there in
        ap (λ (e : channel.ChannelEntry). (channel.segment_at e.segments chunk.segment).sample_size) same.channel
        ∙ ap (λ s. (channel.segment_at (p.channel k).segments s).sample_size) b.3
        ∙ shows.sizes i b.0 b.1 (ap (is_in_transit h) (sym b.2) ∙ transit)
        ∙ ap (λ s. (layout_at l s).size) (sym b.3));
  }

  pub tracks_else : (p p' : Core) (k : ℕ) (h : ChannelHistory) → SameTracks p p' k → TracksChannel p l k h →
      TracksChannel p' after k h
  tracks_else p p' k h same tracks = record {
    room = ap capacity_of same.lent ∙ tracks.room;
    lent = λ segment bucket inside below. ap (λ used. contains used (segment * l.settings.samples + bucket)) same.lent
        ∙ tracks.lent segment bucket inside below
        ∙ sym (marks_same l x c (λ d. is_borrowed h d.name) (λ d. is_borrowed h d.name) segment bucket
        (λ j d apart there. refl) (ap (is_borrowed h) c.name));
    transits = same.transits ∙ tracks.transits ∙ sym (transits_on-else l x c h);
  }

  -- ---- the changed channel

  -- the channel's entry, and the receiver's count, are those of the new history: the queues by their names, the marks
  -- by the one bucket whose chunk changed
  pub record MovesTo (p p' : Core) : Type 0 where
    pub shape : channel.shape (p'.channel x.channel) ≡ channel.shape (p.channel x.channel)
    pub queued : (p'.channel x.channel).submission.values ≡ map (pointer_named l) (queued_names x.new_history)
    pub completed : (p'.channel x.channel).completion.values ≡ map (pointer_named l) (completed_names x.new_history)
    pub borrowed : p'.borrowed x.channel ≡ borrow_count x.new_history
    pub used_else : (segment bucket : ℕ) → lies_in segment bucket x.old_chunk ≡ false →
        channel.is_used (p'.channel x.channel).segments segment bucket
        ≡ channel.is_used (p.channel x.channel).segments segment bucket
    pub used_here : channel.is_used (p'.channel x.channel).segments x.old_chunk.segment x.old_chunk.bucket
        ≡ is_in_transit x.new_history x.old_chunk.name
    pub sizes_else : (segment : ℕ) → segment ≢ x.old_chunk.segment →
        (channel.segment_at (p'.channel x.channel).segments segment).sample_size
        ≡ (channel.segment_at (p.channel x.channel).segments segment).sample_size
    pub sizes_here : ((channel.segment_at (p'.channel x.channel).segments x.old_chunk.segment).sample_size
        ≡ (channel.segment_at (p.channel x.channel).segments x.old_chunk.segment).sample_size)
        ⊎ ((channel.segment_at (p'.channel x.channel).segments x.old_chunk.segment).sample_size
        ≡ (layout_at l x.old_chunk.segment).size)
    pub sizes_told : is_in_transit x.new_history x.old_chunk.name ≡ true →
        is_in_transit x.old_history x.old_chunk.name ≡ false →
        (channel.segment_at (p'.channel x.channel).segments x.old_chunk.segment).sample_size
        ≡ (layout_at l x.old_chunk.segment).size

  at_there : (segment bucket : ℕ) (f : ℕ → ℕ → Bool) (b : Bool) → lies_in segment bucket x.old_chunk ≡ true →
      f x.old_chunk.segment x.old_chunk.bucket ≡ b → f segment bucket ≡ b
  at_there segment bucket f b inside is =
      let at = lies_there segment bucket x.old_chunk inside in
      ap (λ s. f s bucket) (sym at.0) ∙ ap (f x.old_chunk.segment) (sym at.1) ∙ is

  size_at : (p p' : Core) → MovesTo p p' → ShowsChannel p l x.channel x.old_history → (i : ℕ) (before : Chunk) →
      slice_get l.chunks i ≡ Some before → is_in_transit x.old_history before.name ≡ true →
      (channel.segment_at (p'.channel x.channel).segments before.segment).sample_size ≡ (layout_at l
      before.segment).size
  size_at p p' moves shows i before there transit = elim (same_or_apart before.segment x.old_chunk.segment) [
    | inl same ↦ elim (moves.sizes_here) [
      | inl kept ↦ ap (λ s. (channel.segment_at (p'.channel x.channel).segments s).sample_size) same ∙ kept
          ∙ ap (λ s. (channel.segment_at (p.channel x.channel).segments s).sample_size) (sym same)
          ∙ shows.sizes i before there transit
      | inr told ↦ ap (λ s. (channel.segment_at (p'.channel x.channel).segments s).sample_size) same ∙ told
          ∙ ap (λ s. (layout_at l s).size) (sym same)
    ]
    | inr apart ↦ moves.sizes_else before.segment apart ∙ shows.sizes i before there transit
  ]

  size_after : (p p' : Core) → MovesTo p p' → ShowsChannel p l x.channel x.old_history → (i : ℕ) (chunk : Chunk) →
      slice_get after.chunks i ≡ Some chunk → is_in_transit x.new_history chunk.name ≡ true →
      (channel.segment_at (p'.channel x.channel).segments chunk.segment).sample_size ≡ (layout_at l chunk.segment).size
  size_after p p' moves shows i chunk there transit =
      let b = name_stood i chunk there in
      let now : is_in_transit x.new_history b.0.name ≡ true = ap (is_in_transit x.new_history) (sym b.2) ∙ transit in
      let size : (channel.segment_at (p'.channel x.channel).segments b.0.segment).sample_size
      ≡ (layout_at l b.0.segment).size = elim (same_or_apart i x.index) [
        | inl here ↦
            let is : b.0 ≡ x.old_chunk = same_Some b.0 x.old_chunk
            (sym b.1 ∙ ap (slice_get l.chunks) here ∙ c.stands) in
            by_old is (subst (λ (d : Chunk). is_in_transit x.new_history d.name ≡ true) is now)
            (is_in_transit x.old_history x.old_chunk.name) refl
        | inr apart ↦ size_at p p' moves shows i b.0 b.1
            (sym (c.transit_else b.0.name (other_name l x c i b.0 apart b.1)) ∙ now)
      ] in
      ap (λ s. (channel.segment_at (p'.channel x.channel).segments s).sample_size) b.3 ∙ size
      ∙ ap (λ s. (layout_at l s).size) (sym b.3)
    where
      by_old : {before : Chunk} → before ≡ x.old_chunk → is_in_transit x.new_history x.old_chunk.name ≡ true →
          (was : Bool) → is_in_transit x.old_history x.old_chunk.name ≡ was →
          (channel.segment_at (p'.channel x.channel).segments before.segment).sample_size
          ≡ (layout_at l before.segment).size
      by_old is now true was =
          ap (λ (d : Chunk). (channel.segment_at (p'.channel x.channel).segments d.segment).sample_size) is
          ∙ size_at p p' moves shows x.index x.old_chunk c.stands was
          ∙ ap (λ (d : Chunk). (layout_at l d.segment).size) (sym is)
      by_old is now false was =
          ap (λ (d : Chunk). (channel.segment_at (p'.channel x.channel).segments d.segment).sample_size) is
          ∙ moves.sizes_told now was ∙ ap (λ (d : Chunk). (layout_at l d.segment).size) (sym is)

  pub channel_here : (p p' : Core) → is_live l x.old_chunk ≡ true → MovesTo p p' →
      ShowsChannel p l x.channel x.old_history → ShowsChannel p' after x.channel x.new_history
  channel_here p p' alive moves shows = record {
    shape = moves.shape ∙ shows.shape;
    queued = moves.queued ∙ sym (pointers-after l x c (queued_names x.new_history));
    completed = moves.completed ∙ sym (pointers-after l x c (completed_names x.new_history));
    borrowed = moves.borrowed;
    used = λ segment bucket. mark_right l x c (λ d. is_in_transit x.old_history d.name)
        (λ d. is_in_transit x.new_history d.name) segment bucket
        (channel.is_used (p.channel x.channel).segments segment bucket)
        (channel.is_used (p'.channel x.channel).segments segment bucket) (marks_transit l x c alive)
        (shows.used segment bucket) (moves.used_else segment bucket)
        (λ inside. at_there segment bucket (channel.is_used (p'.channel x.channel).segments)
        (is_in_transit x.new_history x.old_chunk.name) inside moves.used_here ∙ ap (is_in_transit x.new_history) (sym
        c.name));
    sizes = size_after p p' moves shows;
  }

  -- what the transport keeps of the changed channel
  pub record TracksTo (p p' : Core) : Type 0 where
    pub room : capacity_of (p'.lent x.channel) ≡ capacity_of (p.lent x.channel)
    pub lent_else : (segment bucket : ℕ) → bucket < l.settings.samples → lies_in segment bucket x.old_chunk ≡ false →
        contains (p'.lent x.channel) (segment * l.settings.samples + bucket)
        ≡ contains (p.lent x.channel) (segment * l.settings.samples + bucket)
    pub lent_here : x.old_chunk.segment < l.settings.segments → x.old_chunk.bucket < l.settings.samples →
        contains (p'.lent x.channel) (x.old_chunk.segment * l.settings.samples + x.old_chunk.bucket)
        ≡ is_borrowed x.new_history x.old_chunk.name
    pub transits : p'.transits x.channel + one_if (is_in_transit x.old_history x.old_chunk.name)
        ≡ p.transits x.channel + one_if (is_in_transit x.new_history x.old_chunk.name)

  pub tracks_here : (p p' : Core) → is_live l x.old_chunk ≡ true → TracksTo p p' →
      TracksChannel p l x.channel x.old_history → TracksChannel p' after x.channel x.new_history
  tracks_here p p' alive to tracks = record {
    room = to.room ∙ tracks.room;
    lent = λ segment bucket inside below. mark_right l x c (λ d. is_borrowed x.old_history d.name)
        (λ d. is_borrowed x.new_history d.name) segment bucket
        (contains (p.lent x.channel) (segment * l.settings.samples + bucket))
        (contains (p'.lent x.channel) (segment * l.settings.samples + bucket)) (marks_borrowed l x c alive)
        (tracks.lent segment bucket inside below) (to.lent_else segment bucket below)
        (λ there. own segment bucket inside below there);
    transits =
        let sums = transits_on-after l x c in
        let named = ap (λ n. one_if (is_in_transit x.new_history n)) c.name in
        let moved = to.transits in let was = tracks.transits in omega arith;
  }
    where
      own : (segment bucket : ℕ) → segment < l.settings.segments → bucket < l.settings.samples →
          lies_in segment bucket x.old_chunk ≡ true →
          contains (p'.lent x.channel) (segment * l.settings.samples + bucket)
          ≡ is_borrowed x.new_history x.new_chunk.name
      own segment bucket inside below there =
          let at = lies_there segment bucket x.old_chunk there in
          ap (λ s. contains (p'.lent x.channel) (s * l.settings.samples + bucket)) (sym at.0)
          ∙ ap (λ b. contains (p'.lent x.channel) (x.old_chunk.segment * l.settings.samples + b)) (sym at.1)
          ∙ to.lent_here (subst (λ s. s < l.settings.segments) (sym at.0) inside)
          (subst (λ b. b < l.settings.samples) (sym at.1) below)
          ∙ ap (is_borrowed x.new_history) (sym c.name)
