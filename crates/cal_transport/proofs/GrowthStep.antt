-- A memory has grown by a segment, of which no chunk is out yet: the parts show the ledger that has this segment too.
use Rattle.std.proofs.Common.{ℕ, suc, ◌+◌, ◌-◌, ◌*◌, ◌<◌, ◌≤◌, ◌≡◌, ◌≢◌, Bool, true, false, cond, not, ◌&&◌, ◌||◌, nat_eq, nat_lt, List, [], ◌∷◌, ◌++◌, length, get_or, Option, Some, None, inl, inr, refl, sym, ap, ◌∙◌, subst, arith, length-append}
use Rattle.std.specs.List.{slice_get}
use Rattle.std.proofs.lemmas.Bool.{true≢false, eq-eqb, ne_eqb, lt-ltb, ltb-true, and_left, and_parts}
use Rattle.std.proofs.lemmas.Bool.Decides.{nat_tests}
use Rattle.std.proofs.lemmas.List.{get_or_append_left, get_or-append_right}
use Rattle.std.proofs.lemmas.Option.{none-some}
use Rattle.cal_alloc.specs.Growth.{SegmentLayout}
use Rattle.cal_alloc.specs.Pool.{is_used}
use Rattle.cal_alloc.specs.PointerOffset.{pointer_offset}
use Rattle.cal_queue.specs.UsedChunks.{contains, capacity_of}
use Rattle.cal_connection.specs.Channel as channel
use Rattle.cal_transport.specs.Settings.{payload}
use Rattle.cal_transport.specs.Ledger.{Ledger, Chunk, ChannelHistory, layout_at, current, chunk_named, is_live, is_free, is_unused, queued_names, completed_names}
use Rattle.cal_transport.specs.Weights.{lies_in, live_in, one_if, total}
use Rattle.cal_transport.specs.Core.{Core, ActiveSegment, if_active}
use Rattle.cal_transport.specs.Shown.{is_active, ShowsSegment, ShowsActive, ShowsMapped, ShowsChannel, Shows, Tracks, pointer_to, pointer_of, pointer_named, bytes_at}
use Rattle.cal_transport.proofs.Lists.{same_or_apart, map_agree}
use Rattle.cal_transport.proofs.Steps.{find_stands}
use Rattle.cal_transport.proofs.Settled.{IsSettled}
use Rattle.cal_transport.proofs.Changed.{used_is}
use Rattle.cal_transport.proofs.Totals.{any_none}
use Rattle.cal_transport.proofs.Kept.{active_is}
use Rattle.cal_transport.proofs.Channels.{SameChannel, SameTracks}

abbrev pub with_next : Ledger → SegmentLayout → Ledger
with_next l next = record l { segments = l.segments ++ next ∷ [] }

-- no bucket is used
pub record IsFresh (shown : ActiveSegment) (next : SegmentLayout) : Type 0 where
  pub layout : shown.pool.buckets ≡ next
  pub unused : (bucket : ℕ) → is_used shown.pool bucket ≡ false
  pub marks : length shown.pool.used ≡ next.count
  pub none_out : shown.chunks ≡ 0
  pub payload : payload next ≤ length shown.payload

-- the next segment is the current one; the former stays where a chunk of it is out
pub record GrowsAt (p p' : Core) (next : SegmentLayout) (fresh : ActiveSegment) : Type 0 where
  pub settings : p'.settings ≡ p.settings
  pub current : p'.current ≡ p.current + 1
  pub made : p'.active (p.current + 1) ≡ Some fresh
  pub is_fresh : IsFresh fresh next
  pub former : (shown : ActiveSegment) → p.active p.current ≡ Some shown → p'.active p.current ≡ if_active false shown
  pub others : (segment : ℕ) → segment ≢ p.current + 1 → segment ≢ p.current → p'.active segment ≡ p.active segment
  pub entries : p'.entries ≡ p.entries
  pub opened_last : p'.opened_last ≡ p.opened_last
  pub mapped : (segment : ℕ) → p'.mapped segment ≡ p.mapped segment
  pub channels : (k : ℕ) → SameChannel p p' k
  pub tracks : (k : ℕ) → SameTracks p p' k
  pub other_owners : (segment : ℕ) → segment ≢ p.current + 1 → p'.owners segment ≡ p.owners segment
  pub table : length (p'.owners (p.current + 1)) ≡ next.count
  pub in_transit : p'.in_transit ≡ p.in_transit

-- nothing weighs anything
pub total_none : {A : Type 0} (f : A → ℕ) (xs : List A) → ((j : ℕ) (x : A) → slice_get xs j ≡ Some x → f x ≡ 0) →
    total f xs ≡ 0
total_none f [] none = refl
total_none f (x ∷ xs) none =
    let first = none 0 x refl in let rest = total_none f xs (λ j z there. none (suc j) z there) in omega arith

module _ (p p' : Core) (l : Ledger) (s : IsSettled l) (next : SegmentLayout) (fresh : ActiveSegment)
    (g : GrowsAt p p' next fresh) (shows : Shows p l) (tracks : Tracks p l) where
  abbrev end : Ledger
  end = with_next l next

  abbrev number : ℕ
  number = length l.segments

  some : 1 ≤ length l.segments
  some = s.segments.some

  current_is : p.current ≡ length l.segments - 1
  current_is = shows.current

  next_is : p.current + 1 ≡ number
  next_is = let c = current_is in let one = some in omega arith

  long : length end.segments ≡ number + 1
  long = length-append l.segments (next ∷ [])

  current_end : current end ≡ number
  current_end = let e = long in omega arith

  pub layout_kept : (segment : ℕ) → segment < number → layout_at end segment ≡ layout_at l segment
  layout_kept segment below =
      get_or_append_left l.segments (next ∷ []) (record { size = 0; alignment = 0; count = 0 }) segment below

  pub layout_new : layout_at end number ≡ next
  layout_new =
      get_or-append_right l.segments (next ∷ []) number number (record { size = 0; alignment = 0; count = 0 }) refl
      (omega arith)
      ∙ ap (λ n. get_or (next ∷ []) n (record { size = 0; alignment = 0; count = 0 }))
      (let e : number - number ≡ 0 = omega arith in e)

  chunk_below : (i : ℕ) (chunk : Chunk) → slice_get l.chunks i ≡ Some chunk → chunk.segment < number
  chunk_below i chunk there = (s.within i chunk there).segment

  -- no chunk lies in the new segment
  free_new : (bucket : ℕ) → not (is_free end number bucket) ≡ false
  free_new bucket =
      used_is end number bucket
      ∙ any_none (λ d. lies_in number bucket d && is_live end d) l.chunks
      (λ j d there. and_left (lies_in number bucket d) (is_live end d)
      (and_left (nat_eq d.segment number) (nat_eq d.bucket bucket)
      (ne_eqb d.segment number (λ e. (let below = chunk_below j d there in absurd (omega arith))))))

  live_new : live_in end number ≡ 0
  live_new =
      total_none (λ d. one_if (nat_eq d.segment number && is_live end d)) l.chunks
      (λ j d there. ap (λ b. one_if (b && is_live end d))
      (ne_eqb d.segment number (λ e. (let below = chunk_below j d there in absurd (omega arith)))))

  -- an old segment but the former current one
  old_active : (segment : ℕ) → segment ≢ number → segment ≢ p.current →
      is_active end segment ≡ is_active l segment
  old_active segment apart other =
      active_is end segment
      ∙ both (nat_lt 0 (live_in l segment))
      ∙ sym (active_is l segment)
    where
      both : (b : Bool) → (nat_lt segment (length end.segments) && (nat_eq segment (current end) || b))
          ≡ (nat_lt segment (length l.segments) && (nat_eq segment (current l) || b))
      both b =
          ap (λ c. nat_lt segment (length end.segments) && (c || b))
          (ne_eqb segment (current end) (λ e. (let c = current_end in absurd (apart (omega arith)))))
          ∙ ap (λ c. c && b) (same_side (nat_lt segment (length end.segments)) (nat_lt segment (length l.segments)) refl
          refl)
          ∙ ap (λ c. nat_lt segment (length l.segments) && (c || b))
          (sym (ne_eqb segment (current l) (λ e. (let c = current_is in absurd (other (omega arith))))))
        where
          same_side : (x y : Bool) → nat_lt segment (length end.segments) ≡ x → nat_lt segment (length l.segments) ≡ y →
              nat_lt segment (length end.segments) ≡ nat_lt segment (length l.segments)
          same_side x y e f = (let more = long in grind (arith, nat_tests))

  shown_kept : (segment : ℕ) (shown : ActiveSegment) → segment < number → ShowsSegment l segment shown →
      ShowsSegment end segment shown
  shown_kept segment shown below shows = record {
    layout = shows.layout ∙ sym (layout_kept segment below);
    used = shows.used;
    marks = shows.marks ∙ ap (λ (b : SegmentLayout). b.count) (sym (layout_kept segment below));
    chunks = shows.chunks;
    payload = subst (λ b. payload b ≤ length shown.payload) (sym (layout_kept segment below)) shows.payload;
  }

  else_shown : (segment : ℕ) (o : Option ActiveSegment) → segment ≢ number → segment ≢ p.current →
      ShowsActive l segment o → ShowsActive end segment o
  else_shown segment None apart other shows = old_active segment apart other ∙ shows
  else_shown segment (Some shown) apart other shows =
      (old_active segment apart other ∙ shows.0, shown_kept segment shown (below_when shows.0) shows.1)
    where
      below_when : is_active l segment ≡ true → segment < number
      below_when active =
          ltb-true segment number (and_parts (nat_lt segment (length l.segments))
          (nat_eq segment (current l) || not (is_unused l segment)) active).0

  new_shown : ShowsActive end number (Some fresh)
  new_shown = (
    active_is end number
        ∙ ap (λ b. b && (nat_eq number (current end) || nat_lt 0 (live_in end number)))
        (lt-ltb number (length end.segments) (let e = long in omega arith))
        ∙ ap (λ b. b || nat_lt 0 (live_in end number)) (eq-eqb number (current end) (sym current_end)),
    record {
      layout = g.is_fresh.layout ∙ sym layout_new;
      used = λ bucket. g.is_fresh.unused bucket ∙ sym (free_new bucket);
      marks = g.is_fresh.marks ∙ ap (λ (b : SegmentLayout). b.count) (sym layout_new);
      chunks = g.is_fresh.none_out ∙ sym live_new;
      payload = subst (λ b. payload b ≤ length fresh.payload) (sym layout_new) g.is_fresh.payload;
    },
  )

  former_shown : (shown : ActiveSegment) → ShowsSegment l p.current shown →
      ShowsActive end p.current (if_active false shown)
  former_shown shown shows = by_test (nat_lt 0 shown.chunks) refl
    where
      below : p.current < number
      below = let n = next_is in omega arith

      is : is_active end p.current ≡ nat_lt 0 shown.chunks
      is = active_is end p.current
          ∙ ap (λ b. b && (nat_eq p.current (current end) || nat_lt 0 (live_in end p.current)))
          (lt-ltb p.current (length end.segments) (let e = long in let n = next_is in omega arith))
          ∙ ap (λ b. b || nat_lt 0 (live_in end p.current))
          (ne_eqb p.current (current end)
          (λ e. (let c = current_end in let n = next_is in absurd (omega arith))))
          ∙ ap (nat_lt 0) (sym shows.chunks)

      by_test : (b : Bool) → nat_lt 0 shown.chunks ≡ b → ShowsActive end p.current (cond b (Some shown) None)
      by_test true e = (is ∙ e, shown_kept p.current shown below shows)
      by_test false e = is ∙ e

  active_end : (segment : ℕ) → ShowsActive end segment (p'.active segment)
  active_end segment = elim (same_or_apart segment number) [
    | inl same ↦ subst (λ n. ShowsActive end n (p'.active n)) (sym same)
        (subst (ShowsActive end number) (sym (ap p'.active (sym next_is) ∙ g.made)) new_shown)
    | inr apart ↦ elim (same_or_apart segment p.current) [
      | inl same ↦ subst (λ n. ShowsActive end n (p'.active n)) (sym same) (at_current (p.active p.current) refl
          (shows.active p.current))
      | inr other ↦ subst (ShowsActive end segment)
          (sym (g.others segment (λ e. apart (e ∙ next_is)) other))
          (else_shown segment (p.active segment) apart other (shows.active segment))
    ]
  ]
    where
      at_current : (o : Option ActiveSegment) → p.active p.current ≡ o → ShowsActive l p.current o →
          ShowsActive end p.current (p'.active p.current)
      at_current (Some shown) is s = subst (ShowsActive end p.current) (sym (g.former shown is)) (former_shown shown
          s.1)
      at_current None is inactive = absurd (true≢false (sym (active_is l p.current
          ∙ ap (λ b. b && (nat_eq p.current (current l) || nat_lt 0 (live_in l p.current)))
          (lt-ltb p.current (length l.segments) (let n = next_is in omega arith))
          ∙ ap (λ b. b || nat_lt 0 (live_in l p.current)) (eq-eqb p.current (current l) current_is)) ∙ inactive))

  -- what an old segment shows it showed
  payload_before : (segment : ℕ) (shown : ActiveSegment) → segment ≢ number → p'.active segment ≡ Some shown →
      p.active segment ≡ Some shown
  payload_before segment shown apart has = elim (same_or_apart segment p.current) [
    | inl same ↦ ap p.active same ∙ at_current (p.active p.current) refl (ap p'.active (sym same) ∙ has)
    | inr other ↦ sym (g.others segment (λ e. apart (e ∙ next_is)) other) ∙ has
  ]
    where
      at_current : (o : Option ActiveSegment) → p.active p.current ≡ o → p'.active p.current ≡ Some shown →
          p.active p.current ≡ Some shown
      at_current None is has = absurd (none_active is)
        where
          none_active : p.active p.current ≡ None → ⊥
          none_active e =
              let s = subst (ShowsActive l p.current) e (shows.active p.current) in
              true≢false (sym (active_is l p.current
              ∙ ap (λ b. b && (nat_eq p.current (current l) || nat_lt 0 (live_in l p.current)))
              (lt-ltb p.current (length l.segments) (let n = next_is in omega arith))
              ∙ ap (λ b. b || nat_lt 0 (live_in l p.current)) (eq-eqb p.current (current l) current_is)) ∙ s)
      at_current (Some before) is has = by_test (nat_lt 0 before.chunks) (sym (g.former before is) ∙ has)
        where
          by_test : (b : Bool) → cond b (Some before) None ≡ Some shown → p.active p.current ≡ Some shown
          by_test true e = is ∙ e
          by_test false e = absurd (none-some shown e)

  -- pointers of chunks
  pointer_kept : (chunk : Chunk) → chunk.segment < number → pointer_to end chunk ≡ pointer_to l chunk
  pointer_kept chunk below =
      ap (λ (b : SegmentLayout). pointer_offset (chunk.bucket * b.size) chunk.segment) (layout_kept chunk.segment below)

  pointer_named_kept : (name : ℕ) → pointer_named end name ≡ pointer_named l name
  pointer_named_kept name = go (chunk_named l name) refl
    where
      go : (o : Option Chunk) → chunk_named l name ≡ o → pointer_of end o ≡ pointer_of l o
      go None e = refl
      go (Some chunk) e =
          let found = find_stands l.chunks name chunk e in
          pointer_kept chunk (chunk_below found.0 chunk found.1)

  channel_kept : (k : ℕ) (h : ChannelHistory) → ShowsChannel p l k h → ShowsChannel p' end k h
  channel_kept k h was =
      let same = g.channels k in
      record {
        shape = ap channel.shape same.channel ∙ was.shape;
        queued = ap (λ (e : channel.ChannelEntry). e.submission.values) same.channel ∙ was.queued
            ∙ sym (map_agree (pointer_named end) (pointer_named l) (queued_names h) pointer_named_kept);
        completed = ap (λ (e : channel.ChannelEntry). e.completion.values) same.channel ∙ was.completed
            ∙ sym (map_agree (pointer_named end) (pointer_named l) (completed_names h) pointer_named_kept);
        borrowed = same.borrowed ∙ was.borrowed;
        used = λ segment bucket.
            ap (λ (e : channel.ChannelEntry). channel.is_used e.segments segment bucket) same.channel
            ∙ was.used segment bucket;
        sizes = λ i chunk there transit.
            ap (λ (e : channel.ChannelEntry). (channel.segment_at e.segments chunk.segment).sample_size) same.channel
            ∙ was.sizes i chunk there transit
            ∙ ap (λ (b : SegmentLayout). b.size) (sym (layout_kept chunk.segment (chunk_below i chunk there)));
      }

  pub grown_shows : Shows p' end
  grown_shows = record {
    settings = g.settings ∙ shows.settings;
    current = g.current ∙ next_is ∙ sym current_end;
    active = active_end;
    bytes = λ i chunk shown there living has. (
        let below = chunk_below i chunk there in
        let apart : chunk.segment ≢ number = λ e. absurd (omega arith) in
        subst (λ (b : SegmentLayout). bytes_at shown.payload (chunk.bucket * b.size) b.size ≡ chunk.bytes)
        (sym (layout_kept chunk.segment below))
        (shows.bytes i chunk shown there living (payload_before chunk.segment shown apart has)));
    opened_last = g.opened_last ∙ shows.opened_last;
    mapped = λ segment. shows_mapped segment (p'.mapped segment)
        (subst (ShowsMapped l segment) (sym (g.mapped segment)) (shows.mapped segment));
    channels = λ k h here. channel_kept k h (shows.channels k h here);
    entries = g.entries ∙ shows.entries;
  }
    where
      shows_mapped : (segment : ℕ) (o : Option ℕ) → ShowsMapped l segment o → ShowsMapped end segment o
      shows_mapped segment None m = m
      shows_mapped segment (Some count) m = m

  pub grown_tracks : Tracks p' end
  grown_tracks = record {
    channels = λ k h here. (let t = tracks.channels k h here in let same = g.tracks k in record {
      room = ap capacity_of same.lent ∙ t.room;
      lent = λ segment bucket inside below.
          ap (λ used. contains used (segment * l.settings.samples + bucket)) same.lent ∙ t.lent segment bucket inside
          below;
      transits = same.transits ∙ t.transits;
    });
    owners = λ i chunk there living. (
        let below = chunk_below i chunk there in
        ap (λ os. slice_get os chunk.bucket)
        (g.other_owners chunk.segment (λ e. (let n = next_is in absurd (omega arith))))
        ∙ tracks.owners i chunk there living);
    table = ap (λ n. length (p'.owners n)) (current_end ∙ sym next_is) ∙ g.table
        ∙ ap (λ (b : SegmentLayout). b.count) (sym layout_new) ∙ ap (λ n. (layout_at end n).count) (sym current_end);
    in_transit = g.in_transit ∙ tracks.in_transit;
  }
