-- What a transport shows determines its tables: tables that lead to the chunks of one ledger lead to those of each that
-- the parts show.
use Rattle.std.proofs.Common.{ℕ, zero, suc, ◌+◌, ◌-◌, ◌*◌, ◌/◌, ◌<◌, ◌≤◌, ◌≡◌, Bool, true, false, not, ◌&&◌, ◌||◌, nat_eq, nat_lt, List, [], ◌∷◌, length, map, Option, Some, None, option_map, refl, sym, ap, ◌∙◌, subst, arith}
use Rattle.std.specs.List.{slice_get, list_any}
use Rattle.std.proofs.lemmas.Bool.{true≢false, false_from_ne_true, eqb-true, eq-eqb, lt-ltb, and_from, or_left}
use Rattle.std.proofs.lemmas.Bool.Decides.{nat_tests}
use Rattle.std.proofs.lemmas.List.{length-map}
use Rattle.std.proofs.lemmas.Option.{same_Some, none-some, slice_get-map}
use Rattle.cal_alloc.specs.Growth.{SegmentLayout}
use Rattle.cal_alloc.specs.Pool.{Pool}
use Rattle.cal_alloc.specs.PointerOffset.{offset_of, segment_of, pointer_offset}
use Rattle.cal_queue.specs.UsedChunks.{UsedChunks, contains, capacity_of}
use Rattle.cal_transport.specs.declared.settings.Settings.{Settings}
use Rattle.cal_transport.specs.declared.transport.chunk_entry.ChunkEntry.{ChunkEntry}
use Rattle.cal_transport.specs.Ledger.{Ledger, Chunk, ChannelHistory, layout_at, current, chunk_named, has_name, occurrences, received_names, queued_names, completed_names, is_live, is_in_transit, is_borrowed, is_unused}
use Rattle.cal_transport.specs.Soundness.{weight, IsOrderly}
use Rattle.cal_transport.specs.Weights.{total, one_if, transits, holds, lies_in, transits_on, transits_in}
use Rattle.cal_transport.specs.Core.{Core, ActiveSegment}
use Rattle.cal_transport.specs.Shown.{is_active, Shows, Tracks, TracksChannel, ShowsSegment, pointer_to, pointer_of, pointer_named, entry_of}
use Rattle.cal_transport.proofs.Settled.{IsSettled}
use Rattle.cal_transport.proofs.Names.{has_name-occurrences, is_in_transit-weight}
use Rattle.cal_transport.proofs.Changed.{live_is, transit_lives}
use Rattle.cal_transport.proofs.Following.{Passes, any_at, any_from}
use Rattle.cal_transport.proofs.Marks.{own_transit}
use Rattle.cal_transport.proofs.Fronts.{is_pointer, pointed_bucket, named, has_segment, entry_at, alive_active}
use Rattle.cal_transport.proofs.Finding.{stands_under}

-- ---- lists that agree place by place

any_pairs : {A : Type 0} (f g : A → Bool) (xs ys : List A) → length xs ≡ length ys →
    ((i : ℕ) (x y : A) → slice_get xs i ≡ Some x → slice_get ys i ≡ Some y → f x ≡ g y) →
    list_any f xs ≡ list_any g ys
any_pairs f g [] [] long agree = refl
any_pairs f g [] (y ∷ ys) long agree = absurd (omega (arith, long))
any_pairs f g (x ∷ xs) [] long agree = absurd (omega (arith, long))
any_pairs f g (x ∷ xs) (y ∷ ys) long agree =
    ap (λ b. b || list_any f xs) (agree 0 x y refl refl)
    ∙ ap (λ b. g y || b) (any_pairs f g xs ys (omega (arith, long)) (λ i z w a b. agree (suc i) z w a b))

total_pairs : {A : Type 0} (f g : A → ℕ) (xs ys : List A) → length xs ≡ length ys →
    ((i : ℕ) (x y : A) → slice_get xs i ≡ Some x → slice_get ys i ≡ Some y → f x ≡ g y) → total f xs ≡ total g ys
total_pairs f g [] [] long agree = refl
total_pairs f g [] (y ∷ ys) long agree = absurd (omega (arith, long))
total_pairs f g (x ∷ xs) [] long agree = absurd (omega (arith, long))
total_pairs f g (x ∷ xs) (y ∷ ys) long agree =
    let first = agree 0 x y refl refl in
    let rest = total_pairs f g xs ys (omega (arith, long)) (λ i z w a b. agree (suc i) z w a b) in omega arith

slice_get_below : {A : Type 0} (xs : List A) (k : ℕ) (x : A) → slice_get xs k ≡ Some x → k < length xs
slice_get_below [] k x e = absurd (none-some x e)
slice_get_below (y ∷ xs) zero x e = omega arith
slice_get_below (y ∷ xs) (suc k) x e = let rest = slice_get_below xs k x e in omega arith

slice_get_none : {A : Type 0} (xs : List A) (k : ℕ) → slice_get xs k ≡ None → k < length xs → ⊥
slice_get_none [] k e below = absurd (omega arith)
slice_get_none (y ∷ xs) zero e below = none-some y (sym e)
slice_get_none (y ∷ xs) (suc k) e below = slice_get_none xs k e (omega arith)

-- ---- a chunk that is on its way once at most

-- it is borrowed where it is in transit, and neither queued nor completed
borrowed_is : (h : ChannelHistory) → IsOrderly h → (name : ℕ) → is_borrowed h name
    ≡ (is_in_transit h name && not (has_name name (queued_names h)) && not (has_name name (completed_names h)))
borrowed_is h o name =
    go (has_name name (queued_names h)) (is_borrowed h name) (has_name name (completed_names h)) refl refl refl
  where
    go : (q b c : Bool) → has_name name (queued_names h) ≡ q → is_borrowed h name ≡ b →
        has_name name (completed_names h) ≡ c → b ≡ ((q || b || c) && not q && not c)
    go true true c e f g =
        let once = o.once name in
        let queued : nat_lt 0 (occurrences name (queued_names h)) ≡ true =
        sym (has_name-occurrences name (queued_names h)) ∙ e in
        absurd (grind (arith, nat_tests))
    go true false c e f g = refl
    go false true true e f g =
        let once = o.once name in
        let completed : nat_lt 0 (occurrences name (completed_names h)) ≡ true =
        sym (has_name-occurrences name (completed_names h)) ∙ g in
        absurd (grind (arith, nat_tests))
    go false true false e f g = refl
    go false false true e f g = refl
    go false false false e f g = refl

-- ---- the chunks of one ledger in the other

-- the chunk at the same place in another ledger
pub record Partner (l l' : Ledger) (i : ℕ) (chunk : Chunk) : Type 0 where
  pub other : Chunk
  pub stands : slice_get l'.chunks i ≡ Some other
  pub entry : entry_of l.histories chunk ≡ entry_of l'.histories other

module _ (p : Core) (l l' : Ledger) (s : IsSettled l) (s' : IsSettled l') (shows : Shows p l)
    (shows' : Shows p l') where
  pub long : length l.chunks ≡ length l'.chunks
  long =
      sym (length-map l.chunks (entry_of l.histories))
      ∙ ap length (sym shows.entries ∙ shows'.entries) ∙ length-map l'.chunks (entry_of l'.histories)

  pub partner : (i : ℕ) (chunk : Chunk) → slice_get l.chunks i ≡ Some chunk → Partner l l' i chunk
  partner i chunk there =
      let x = stands_under (entry_of l'.histories) l'.chunks i (entry_of l.histories chunk)
      (ap (λ es. slice_get es i) (sym shows'.entries) ∙ entry_at p l i chunk shows there) in
      record { other = x.0; stands = x.1; entry = x.2 }

  pub same_entry : (i : ℕ) (chunk other : Chunk) → slice_get l.chunks i ≡ Some chunk →
      slice_get l'.chunks i ≡ Some other → entry_of l.histories chunk ≡ entry_of l'.histories other
  same_entry i chunk other there stands =
      same_Some (entry_of l.histories chunk) (entry_of l'.histories other)
      (sym (entry_at p l i chunk shows there) ∙ entry_at p l' i other shows' stands)

  pub live_same : (chunk other : Chunk) → entry_of l.histories chunk ≡ entry_of l'.histories other →
      is_live l chunk ≡ is_live l' other
  live_same chunk other same =
      live_is l chunk ∙ ap (λ (e : ChunkEntry). e.loaned || nat_lt 0 e.transits) same ∙ sym (live_is l' other)

  -- an active segment has one layout in both
  pub layout_same : (segment : ℕ) → is_active l segment ≡ true → is_active l' segment ≡ true →
      layout_at l segment ≡ layout_at l' segment
  layout_same segment active active' =
      let had = has_segment p l segment shows active in
      let had' = has_segment p l' segment shows' active' in
      let same = same_Some had.shown had'.shown (sym had.has ∙ had'.has) in
      sym had.shows.layout ∙ ap (λ (a : ActiveSegment). a.pool.buckets) same ∙ had'.shows.layout

  pub pointer_same : (i : ℕ) (chunk other : Chunk) → slice_get l.chunks i ≡ Some chunk →
      slice_get l'.chunks i ≡ Some other → is_live l chunk ≡ true → pointer_to l chunk ≡ pointer_to l' other
  pointer_same i chunk other there stands alive =
      let same = same_entry i chunk other there stands in
      let alive' = sym (live_same chunk other same) ∙ alive in
      let segment_is = ap (λ (e : ChunkEntry). e.segment) same in
      let layout = layout_same chunk.segment (alive_active l s i chunk there alive)
      (ap (is_active l') segment_is ∙ alive_active l' s' i other stands alive') in
      ap (λ (b : SegmentLayout). pointer_offset (chunk.bucket * b.size) chunk.segment) layout
      ∙ ap (λ n. pointer_offset (chunk.bucket * (layout_at l' n).size) n) segment_is
      ∙ ap (λ n. pointer_offset (n * (layout_at l' other.segment).size) other.segment)
      (ap (λ (e : ChunkEntry). e.bucket) same)

-- two live chunks at one pointer are the same
pointer_apart : (l : Ledger) → IsSettled l → (i j : ℕ) (a b : Chunk) → slice_get l.chunks i ≡ Some a →
    slice_get l.chunks j ≡ Some b → is_live l a ≡ true → is_live l b ≡ true → pointer_to l a ≡ pointer_to l b →
    a.name ≡ b.name
pointer_apart l s i j a b first second alive living same =
    let p = is_pointer l s i a first in
    let q = is_pointer l s j b second in
    let segment_is : a.segment ≡ b.segment = sym p.segment ∙ ap segment_of same ∙ q.segment in
    let bucket_is : a.bucket ≡ b.bucket =
    sym (pointed_bucket l a (pointer_to l a) (layout_at l a.segment).size p refl)
    ∙ ap (λ n. offset_of n / (layout_at l a.segment).size) same
    ∙ pointed_bucket l b (pointer_to l b) (layout_at l a.segment).size q
    (ap (λ n. (layout_at l n).size) segment_is) in
    let at = s.apart i j a b first second alive living (record { segment = segment_is; bucket = bucket_is }) in
    ap (λ (c : Chunk). c.name) (same_Some a b (sym first ∙ ap (slice_get l.chunks) at ∙ second))

-- ---- a channel

-- a list of names with these pointers, each of a chunk on its way
record IsQueue (l : Ledger) (h : ChannelHistory) (values names : List ℕ) : Type 0 where
  pub values_are : values ≡ map (pointer_named l) names
  pub moves : (name : ℕ) → has_name name names ≡ true → is_in_transit h name ≡ true

queued_queue : (p : Core) (l : Ledger) (k : ℕ) (h : ChannelHistory) → Shows p l → slice_get l.histories k ≡ Some h →
    IsQueue l h (p.channel k).submission.values (queued_names h)
queued_queue p l k h shows here = record {
  values_are = (shows.channels k h here).queued;
  moves = λ name has. go (has_name name (queued_names h)) (is_borrowed h name) (has_name name (completed_names h)) has;
}
  where
    go : (q b c : Bool) → q ≡ true → (q || b || c) ≡ true
    go true b c has = refl
    go false b c has = absurd (true≢false (sym has))

completed_queue : (p : Core) (l : Ledger) (k : ℕ) (h : ChannelHistory) → Shows p l → slice_get l.histories k ≡ Some h →
    IsQueue l h (p.channel k).completion.values (completed_names h)
completed_queue p l k h shows here = record {
  values_are = (shows.channels k h here).completed;
  moves = λ name has. go (has_name name (queued_names h)) (is_borrowed h name) (has_name name (completed_names h)) has;
}
  where
    go : (q b c : Bool) → c ≡ true → (q || b || c) ≡ true
    go true b c has = refl
    go false true c has = refl
    go false false c has = has

-- the live chunk of a name that is on its way
record IsMoving (l : Ledger) (name : ℕ) : Type 0 where
  pub index : ℕ
  pub chunk : Chunk
  pub stands : slice_get l.chunks index ≡ Some chunk
  pub same_name : chunk.name ≡ name
  pub alive : is_live l chunk ≡ true

moving : (l : Ledger) → IsSettled l → (k : ℕ) (h : ChannelHistory) → slice_get l.histories k ≡ Some h → (name : ℕ) →
    is_in_transit h name ≡ true → IsMoving l name
moving l s k h here name moves =
    let heavy : 0 < weight h name =
    (let e = sym (is_in_transit-weight h name) ∙ moves in grind (arith, nat_tests)) in
    let known = s.known k h name here heavy in
    record {
      index = known.index;
      chunk = known.chunk;
      stands = known.stands;
      same_name = known.same_name;
      alive = transit_lives l k h known.chunk here (ap (is_in_transit h) known.same_name ∙ moves);
    }

slice_get-map_some : {A B : Type 0} (f : A → B) (xs : List A) (i : ℕ) (x : A) → slice_get xs i ≡ Some x →
    slice_get (map f xs) i ≡ Some (f x)
slice_get-map_some f xs i x there = slice_get-map f xs i ∙ ap (option_map f) there

module _ (p : Core) (l l' : Ledger) (s : IsSettled l) (s' : IsSettled l') (shows : Shows p l) (shows' : Shows p l')
    (k : ℕ) (h h' : ChannelHistory) (here : slice_get l.histories k ≡ Some h)
    (here' : slice_get l'.histories k ≡ Some h') where
  -- a chunk that stands in a queue of one ledger stands in that of the other
  queue_there : (values names names' : List ℕ) → IsQueue l h values names → IsQueue l' h' values names' →
      (i : ℕ) (chunk other : Chunk) → slice_get l.chunks i ≡ Some chunk → slice_get l'.chunks i ≡ Some other →
      has_name chunk.name names ≡ true → has_name other.name names' ≡ true
  queue_there values names names' queue queue' i chunk other there stands has =
      go (any_at (λ n. nat_eq n chunk.name) names has)
    where
      alive : is_live l chunk ≡ true
      alive = transit_lives l k h chunk here (queue.moves chunk.name has)

      go : Passes (λ n. nat_eq n chunk.name) names → has_name other.name names' ≡ true
      go at =
          let name_is : at.element ≡ chunk.name = eqb-true at.element chunk.name at.passes in
          let value : slice_get values at.index ≡ Some (pointer_named l at.element) =
          ap (λ vs. slice_get vs at.index) queue.values_are
          ∙ slice_get-map_some (pointer_named l) names at.index at.element at.stands in
          let x = stands_under (pointer_named l') names' at.index (pointer_named l at.element)
          (ap (λ vs. slice_get vs at.index) (sym queue'.values_are) ∙ value) in
          let in_names' : has_name x.0 names' ≡ true =
          any_from (λ n. nat_eq n x.0) names' at.index x.0 x.1 (eq-eqb x.0 x.0 refl) in
          let m = moving l' s' k h' here' x.0 (queue'.moves x.0 in_names') in
          let same = same_entry p l l' s s' shows shows' i chunk other there stands in
          let here_is : pointer_named l at.element ≡ pointer_to l chunk =
          ap (pointer_named l) name_is ∙ ap (pointer_of l) (named l s i chunk there) in
          let there_is : pointer_named l' x.0 ≡ pointer_to l' m.chunk =
          ap (pointer_named l') (sym m.same_name) ∙ ap (pointer_of l') (named l' s' m.index m.chunk m.stands) in
          let name' : m.chunk.name ≡ other.name =
          pointer_apart l' s' m.index i m.chunk other m.stands stands m.alive
          (sym (live_same p l l' s s' shows shows' chunk other same) ∙ alive)
          (sym there_is ∙ sym x.2 ∙ here_is ∙ pointer_same p l l' s s' shows shows' i chunk other there stands alive) in
          subst (λ n. has_name n names' ≡ true) (sym m.same_name ∙ name') in_names'

  -- and is in transit there
  transit_there : (i : ℕ) (chunk other : Chunk) → slice_get l.chunks i ≡ Some chunk →
      slice_get l'.chunks i ≡ Some other → is_in_transit h chunk.name ≡ is_in_transit h' other.name
  transit_there i chunk other there stands = go (is_live l chunk) refl
    where
      same : entry_of l.histories chunk ≡ entry_of l'.histories other
      same = same_entry p l l' s s' shows shows' i chunk other there stands

      go : (b : Bool) → is_live l chunk ≡ b → is_in_transit h chunk.name ≡ is_in_transit h' other.name
      go true alive =
          sym (own_transit l s k h here i chunk there alive)
          ∙ sym ((shows.channels k h here).used chunk.segment chunk.bucket)
          ∙ (shows'.channels k h' here').used chunk.segment chunk.bucket
          ∙ ap (λ n. holds (λ d. is_in_transit h' d.name) l'.chunks n chunk.bucket)
          (ap (λ (e : ChunkEntry). e.segment) same)
          ∙ ap (λ n. holds (λ d. is_in_transit h' d.name) l'.chunks other.segment n)
          (ap (λ (e : ChunkEntry). e.bucket) same)
          ∙ own_transit l' s' k h' here' i other stands
          (sym (live_same p l l' s s' shows shows' chunk other same) ∙ alive)
      go false dead =
          false_from_ne_true (is_in_transit h chunk.name)
          (λ moves. true≢false (sym (transit_lives l k h chunk here moves) ∙ dead))
          ∙ sym (false_from_ne_true (is_in_transit h' other.name)
          (λ moves. true≢false (sym (transit_lives l' k h' other here' moves)
          ∙ sym (live_same p l l' s s' shows shows' chunk other same) ∙ dead)))

same_tests : (a b : Bool) → (a ≡ true → b ≡ true) → (b ≡ true → a ≡ true) → a ≡ b
same_tests true b to from = sym (to refl)
same_tests false true to from = from refl
same_tests false false to from = refl

module _ (p : Core) (l l' : Ledger) (s : IsSettled l) (s' : IsSettled l') (shows : Shows p l)
    (shows' : Shows p l') where
  borrowed_there : (k : ℕ) (h h' : ChannelHistory) → slice_get l.histories k ≡ Some h →
      slice_get l'.histories k ≡ Some h' → (i : ℕ) (chunk other : Chunk) → slice_get l.chunks i ≡ Some chunk →
      slice_get l'.chunks i ≡ Some other → is_borrowed h chunk.name ≡ is_borrowed h' other.name
  borrowed_there k h h' here here' i chunk other there stands =
      let moves = transit_there p l l' s s' shows shows' k h h' here here' i chunk other there stands in
      let queued = same_tests (has_name chunk.name (queued_names h)) (has_name other.name (queued_names h'))
      (queue_there p l l' s s' shows shows' k h h' here here' (p.channel k).submission.values (queued_names h)
      (queued_names h') (queued_queue p l k h shows here) (queued_queue p l' k h' shows' here') i chunk other there
      stands)
      (queue_there p l' l s' s shows' shows k h' h here' here (p.channel k).submission.values (queued_names h')
      (queued_names h) (queued_queue p l' k h' shows' here') (queued_queue p l k h shows here) i other chunk stands
      there) in
      let completed = same_tests (has_name chunk.name (completed_names h)) (has_name other.name (completed_names h'))
      (queue_there p l l' s s' shows shows' k h h' here here' (p.channel k).completion.values (completed_names h)
      (completed_names h') (completed_queue p l k h shows here) (completed_queue p l' k h' shows' here') i chunk other
      there stands)
      (queue_there p l' l s' s shows' shows k h' h here' here (p.channel k).completion.values (completed_names h')
      (completed_names h) (completed_queue p l' k h' shows' here') (completed_queue p l k h shows here) i other chunk
      stands there) in
      borrowed_is h (s.orderly k h here) chunk.name
      ∙ ap (λ b. b && not (has_name chunk.name (queued_names h)) && not (has_name chunk.name (completed_names h))) moves
      ∙ ap (λ b. is_in_transit h' other.name && not b && not (has_name chunk.name (completed_names h))) queued
      ∙ ap (λ b. is_in_transit h' other.name && not (has_name other.name (queued_names h')) && not b) completed
      ∙ sym (borrowed_is h' (s'.orderly k h' here') other.name)

  -- a channel of one ledger is one of the other
  history_there : (k : ℕ) (h' : ChannelHistory) → slice_get l'.histories k ≡ Some h' →
      (h : ChannelHistory) × (slice_get l.histories k ≡ Some h)
  history_there k h' here' = go (slice_get l.histories k) refl
    where
      below' : k < length l'.histories
      below' = slice_get_below l'.histories k h' here'

      go : (o : Option ChannelHistory) → slice_get l.histories k ≡ o →
          (h : ChannelHistory) × (slice_get l.histories k ≡ Some h)
      go (Some h) is = (h, is)
      go None is =
          let same = ap (λ (t : Settings). t.channels) (sym shows.settings ∙ shows'.settings) in
          let many = s.channels in let many' = s'.channels in let below = below' in
          absurd (slice_get_none l.histories k is (omega arith))

  pub tracks_any : Tracks p l → Tracks p l'
  tracks_any tracks = record {
    channels = channels;
    owners = owners;
    table = table;
    in_transit = tracks.in_transit
        ∙ total_pairs (λ (c : Chunk). transits l.histories c.name)
        (λ (c : Chunk). transits l'.histories c.name) l.chunks
        l'.chunks (long p l l' s s' shows shows')
        (λ i x y there stands. ap (λ (e : ChunkEntry). e.transits)
        (same_entry p l l' s s' shows shows' i x y there stands));
  }
    where
      same_settings : l.settings ≡ l'.settings
      same_settings = sym shows.settings ∙ shows'.settings

      channels : (k : ℕ) (h' : ChannelHistory) → slice_get l'.histories k ≡ Some h' → TracksChannel p l' k h'
      channels k h' here' =
          let found = history_there k h' here' in
          let h = found.0 in
          let here : slice_get l.histories k ≡ Some h = found.1 in
          let t = tracks.channels k h here in
          record {
            room = t.room ∙ ap (λ (c : Settings). c.segments * c.samples) same_settings;
            lent = λ segment bucket inside below.
                ap (λ (c : Settings). contains (p.lent k) (segment * c.samples + bucket)) (sym same_settings)
                ∙ t.lent segment bucket (subst (λ (c : Settings). segment < c.segments) (sym same_settings) inside)
                (subst (λ (c : Settings). bucket < c.samples) (sym same_settings) below)
                ∙ any_pairs (λ (c : Chunk). lies_in segment bucket c && is_borrowed h c.name)
                (λ (c : Chunk). lies_in segment bucket c && is_borrowed h' c.name) l.chunks l'.chunks
                (long p l l' s s' shows shows')
                (λ i x y there stands. (
                let same = same_entry p l l' s s' shows shows' i x y there stands in
                ap (λ (e : ChunkEntry). (nat_eq e.segment segment && nat_eq e.bucket bucket) && is_borrowed h x.name)
                same
                ∙ ap (λ b. lies_in segment bucket y && b) (borrowed_there k h h' here here' i x y there stands)));
            transits = t.transits
                ∙ total_pairs (λ (c : Chunk). one_if (is_in_transit h c.name))
                (λ (c : Chunk). one_if (is_in_transit h' c.name)) l.chunks l'.chunks (long p l l' s s' shows shows')
                (λ i x y there stands.
                ap one_if (transit_there p l l' s s' shows shows' k h h' here here' i x y there stands));
          }

      owners : (i : ℕ) (chunk : Chunk) → slice_get l'.chunks i ≡ Some chunk → is_live l' chunk ≡ true →
          slice_get (p.owners chunk.segment) chunk.bucket ≡ Some i
      owners i chunk there alive =
          let mate = partner p l' l s' s shows' shows i chunk there in
          ap (λ (e : ChunkEntry). slice_get (p.owners e.segment) e.bucket) mate.entry
          ∙ tracks.owners i mate.other mate.stands
          (sym (live_same p l' l s' s shows' shows chunk mate.other mate.entry) ∙ alive)

      current_is : current l ≡ current l'
      current_is = sym shows.current ∙ shows'.current

      active_current : (m : Ledger) → IsSettled m → is_active m (current m) ≡ true
      active_current m r =
          let some = r.segments.some in
          and_from (nat_lt (current m) (length m.segments))
          (nat_eq (current m) (current m) || not (is_unused m (current m)))
          (lt-ltb (current m) (length m.segments) (omega arith))
          (or_left (nat_eq (current m) (current m)) (not (is_unused m (current m)))
          (eq-eqb (current m) (current m) refl))

      table : length (p.owners (current l')) ≡ (layout_at l' (current l')).count
      table =
          ap (λ n. length (p.owners n)) (sym current_is) ∙ tracks.table
          ∙ ap (λ n. (layout_at l n).count) current_is
          ∙ ap (λ (b : SegmentLayout). b.count) (layout_same p l l' s s' shows shows' (current l')
          (subst (λ n. is_active l n ≡ true) current_is (active_current l s)) (active_current l' s'))
