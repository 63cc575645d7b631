-- What the parts show of a ledger where one chunk and one channel's history change: the parts that this leaves.
use Rattle.std.proofs.Common.{ℕ, zero, suc, ◌-◌, ◌≤◌, ◌≡◌, ◌≢◌, Bool, true, false, cond, not, ◌&&◌, ◌||◌, nat_eq, nat_lt, List, [], ◌∷◌, length, map, set, Option, Some, None, option_map, option_to_list, find, inl, inr, refl, sym, ap, ◌∙◌, subst, arith}
use Rattle.std.specs.List.{slice_get}
use Rattle.std.proofs.lemmas.Bool.{true≢false, cases_Bool, and_from, or_right, cases_lt, eq-eqb, ne_eqb, lt-ltb}
use Rattle.std.proofs.lemmas.Option.{same_Some, none-some}
use Rattle.std.proofs.lemmas.List.{get_or_past, length-set}
use Rattle.cal_alloc.specs.Growth.{SegmentLayout}
use Rattle.cal_alloc.specs.Pool.{Pool, is_used, with_mark}
use Rattle.cal_transport.specs.Settings.{payload}
use Rattle.cal_transport.specs.Ledger.{Ledger, Chunk, layout_at, current, chunk_named, is_live, is_free, is_mapped, has_name}
use Rattle.cal_transport.specs.Weights.{borrows, one_if, live_in, borrowed_in}
use Rattle.cal_transport.specs.declared.transport.chunk_entry.ChunkEntry.{ChunkEntry}
use Rattle.cal_transport.specs.Core.{Core, ActiveSegment, without_bucket, if_active, given_back, GivesBack}
use Rattle.cal_transport.specs.Shown.{is_active, ShowsSegment, ShowsActive, ShowsBytes, ShowsMapped, pointer_to, pointer_of, pointer_named, entry_of}
use Rattle.cal_transport.proofs.Changing.{mark_here, mark_else}
use Rattle.cal_transport.proofs.Totals.{and-false, total_least}
use Rattle.cal_transport.proofs.Lists.{same_or_apart, map-set_agree, map_agree}
use Rattle.cal_transport.proofs.Changed.{Change, Changes, changed, used_is, in_use_is, mapped_is, lies_there, other_name, transits_else, live_else, stood, stands_after, mark_right, marks_same, marks_live, live_in-after, borrowed_in-after}

-- ---- segments

pub active_is : (l : Ledger) (segment : ℕ) → is_active l segment
    ≡ (nat_lt segment (length l.segments) && (nat_eq segment (current l) || nat_lt 0 (live_in l segment)))
active_is l segment =
    ap (λ b. nat_lt segment (length l.segments) && (nat_eq segment (current l) || b)) (in_use_is l segment)

-- a segment that the two ledgers see alike
pub record SeesAlike (l l' : Ledger) (segment : ℕ) : Type 0 where
  pub active : is_active l' segment ≡ is_active l segment
  pub layout : layout_at l' segment ≡ layout_at l segment
  pub free : (bucket : ℕ) → not (is_free l' segment bucket) ≡ not (is_free l segment bucket)
  pub live : live_in l' segment ≡ live_in l segment

pub segment_kept : (l l' : Ledger) (segment : ℕ) (shown : ActiveSegment) → SeesAlike l l' segment →
    ShowsSegment l segment shown → ShowsSegment l' segment shown
segment_kept l l' segment shown alike shows = record {
  layout = shows.layout ∙ sym alike.layout;
  used = λ bucket. shows.used bucket ∙ sym (alike.free bucket);
  marks = shows.marks ∙ ap (λ (b : SegmentLayout). b.count) (sym alike.layout);
  chunks = shows.chunks ∙ sym alike.live;
  payload = subst (λ b. payload b ≤ length shown.payload) (sym alike.layout) shows.payload;
}

pub active_kept : (l l' : Ledger) (segment : ℕ) (o : Option ActiveSegment) → SeesAlike l l' segment →
    ShowsActive l segment o → ShowsActive l' segment o
active_kept l l' segment None alike shows = alike.active ∙ shows
active_kept l l' segment (Some shown) alike shows =
    (alike.active ∙ shows.0, segment_kept l l' segment shown alike shows.1)

-- a bucket that was marked as free is free
mark_cleared : (pool : Pool) (bucket : ℕ) → is_used (with_mark pool bucket false) bucket ≡ false
mark_cleared pool bucket = elim (cases_lt bucket (length pool.used)) [
  | inl within ↦ mark_here pool bucket false within
  | inr past ↦ get_or_past (set pool.used bucket false) bucket false (omega (arith, length-set pool.used bucket false))
]

-- ---- pointers

find_set : {A B : Type 0} (p : A → Bool) (f : A → B) (xs : List A) (i : ℕ) (x y : A) → slice_get xs i ≡ Some x →
    p y ≡ p x → f y ≡ f x → option_map f (find p (set xs i y)) ≡ option_map f (find p xs)
find_set p f [] i x y stands same maps = absurd (none-some x stands)
find_set p f (z ∷ xs) zero x y stands same maps =
    let here = same_Some z x stands in
    ap (λ b. option_map f (cond b (Some y) (find p xs))) (same ∙ ap p (sym here)) ∙ by_test (p z) (maps ∙ ap f (sym
    here))
  where
    by_test : (b : Bool) → f y ≡ f z →
        option_map f (cond b (Some y) (find p xs)) ≡ option_map f (cond b (Some z) (find p xs))
    by_test true e = ap Some e
    by_test false e = refl
find_set p f (z ∷ xs) (suc i) x y stands same maps = by_test (p z) (find_set p f xs i x y stands same maps)
  where
    by_test : (b : Bool) → option_map f (find p (set xs i y)) ≡ option_map f (find p xs) →
        option_map f (cond b (Some z) (find p (set xs i y))) ≡ option_map f (cond b (Some z) (find p xs))
    by_test true e = refl
    by_test false e = e

pointer_of_map : (l : Ledger) (a b : Option Chunk) → option_map (pointer_to l) a ≡ option_map (pointer_to l) b →
    pointer_of l a ≡ pointer_of l b
pointer_of_map l None None e = refl
pointer_of_map l None (Some b) e = absurd (none-some (pointer_to l b) e)
pointer_of_map l (Some a) None e = absurd (none-some (pointer_to l a) (sym e))
pointer_of_map l (Some a) (Some b) e = same_Some (pointer_to l a) (pointer_to l b) e

module _ (l : Ledger) (x : Change) (c : Changes l x) where
  abbrev after : Ledger
  after = changed l x

  pub pointer_same : pointer_to l x.new_chunk ≡ pointer_to l x.old_chunk
  pointer_same =
      ap (λ s. pointer_to l (record x.new_chunk { segment = s })) c.segment
      ∙ ap (λ b. pointer_to l (record x.new_chunk { segment = x.old_chunk.segment; bucket = b })) c.bucket

  pub pointer_named-after : (name : ℕ) → pointer_named after name ≡ pointer_named l name
  pointer_named-after name =
      pointer_of_map l (chunk_named after name) (chunk_named l name)
      (find_set (λ d. nat_eq d.name name) (pointer_to l) l.chunks x.index x.old_chunk x.new_chunk c.stands
      (ap (λ n. nat_eq n name) c.name) pointer_same)

  pub pointers-after : (names : List ℕ) → map (pointer_named after) names ≡ map (pointer_named l) names
  pointers-after names = map_agree (pointer_named after) (pointer_named l) names pointer_named-after

  -- ---- the memory where no chunk's liveness changes

  alike_where : is_live after x.new_chunk ≡ is_live l x.old_chunk → (segment : ℕ) → SeesAlike l after segment
  alike_where same segment =
      let s = ap (λ n. nat_eq n segment) c.segment in
      let sums = live_in-after l x c segment in
      let told = ap (λ b. one_if (b && is_live after x.new_chunk)) s
      ∙ ap (λ b. one_if (nat_eq x.old_chunk.segment segment && b)) same in
      let live : live_in after segment ≡ live_in l segment = omega arith in
      record {
        active = active_is after segment
            ∙ ap (λ n. nat_lt segment (length l.segments) && (nat_eq segment (current l) || nat_lt 0 n)) live
            ∙ sym (active_is l segment);
        layout = refl;
        free = λ bucket. used_is after segment bucket
            ∙ marks_same l x c (is_live l) (is_live after) segment bucket (live_else l x c) same
            ∙ sym (used_is l segment bucket);
        live = live;
      }

  pub all_kept : is_live after x.new_chunk ≡ is_live l x.old_chunk → (segment : ℕ) (o : Option ActiveSegment) →
      ShowsActive l segment o → ShowsActive after segment o
  all_kept same segment o shows = active_kept l after segment o (alike_where same segment) shows

  -- ---- the memory where the chunk dies

  -- another segment sees nothing of it
  else_alike : is_live l x.old_chunk ≡ true → (segment : ℕ) → segment ≢ x.old_chunk.segment → SeesAlike l after segment
  else_alike alive segment apart =
      let outside : nat_eq x.old_chunk.segment segment ≡ false =
      ne_eqb x.old_chunk.segment segment (λ e. apart (sym e)) in
      let sums = live_in-after l x c segment in
      let was = ap (λ b. one_if (b && is_live l x.old_chunk)) outside in
      let is = ap (λ n. one_if (nat_eq n segment && is_live after x.new_chunk)) c.segment
      ∙ ap (λ b. one_if (b && is_live after x.new_chunk)) outside in
      let live : live_in after segment ≡ live_in l segment = omega arith in
      record {
        active = active_is after segment
            ∙ ap (λ n. nat_lt segment (length l.segments) && (nat_eq segment (current l) || nat_lt 0 n)) live
            ∙ sym (active_is l segment);
        layout = refl;
        free = λ bucket. used_is after segment bucket
            ∙ sym (mark_right l x c (is_live l) (is_live after) segment bucket (not (is_free l segment bucket))
            (not (is_free l segment bucket)) (marks_live l x c alive) (used_is l segment bucket) (λ e. refl)
            (λ e. absurd (apart (sym (lies_there segment bucket x.old_chunk e).0))));
        live = live;
      }

  -- a live chunk's segment is active
  pub live_active : is_live l x.old_chunk ≡ true → is_active l x.old_chunk.segment ≡ true
  live_active alive =
      let within = (c.settled.within x.index x.old_chunk c.stands).segment in
      let least = total_least (λ d. one_if (nat_eq d.segment x.old_chunk.segment && is_live l d)) l.chunks x.index
      x.old_chunk c.stands in
      let counts = ap (λ b. one_if (b && is_live l x.old_chunk)) (eq-eqb x.old_chunk.segment x.old_chunk.segment refl)
      ∙ ap one_if alive in
      active_is l x.old_chunk.segment
      ∙ and_from (nat_lt x.old_chunk.segment (length l.segments))
      (nat_eq x.old_chunk.segment (current l) || nat_lt 0 (live_in l x.old_chunk.segment))
      (lt-ltb x.old_chunk.segment (length l.segments) within)
      (or_right (nat_eq x.old_chunk.segment (current l)) (nat_lt 0 (live_in l x.old_chunk.segment))
      (lt-ltb 0 (live_in l x.old_chunk.segment) (omega arith)))

  -- its bucket is free then, and one live chunk less is in its segment
  freed_segment : (shown : ActiveSegment) → is_live l x.old_chunk ≡ true → is_live after x.new_chunk ≡ false →
      ShowsSegment l x.old_chunk.segment shown →
      ShowsSegment after x.old_chunk.segment (without_bucket shown x.old_chunk.bucket)
  freed_segment shown alive dead shows =
      let sums = live_in-after l x c x.old_chunk.segment in
      let was = ap (λ b. one_if (b && is_live l x.old_chunk)) (eq-eqb x.old_chunk.segment x.old_chunk.segment refl)
      ∙ ap one_if alive in
      let is = ap (λ b. one_if (nat_eq x.new_chunk.segment x.old_chunk.segment && b)) dead
      ∙ ap one_if (and-false (nat_eq x.new_chunk.segment x.old_chunk.segment)) in
      let chunks = shows.chunks in
      record {
        layout = shows.layout;
        used = λ bucket. mark_right l x c (is_live l) (is_live after) x.old_chunk.segment bucket
            (is_used shown.pool bucket) (is_used (with_mark shown.pool x.old_chunk.bucket false) bucket)
            (marks_live l x c alive) (shows.used bucket ∙ used_is l x.old_chunk.segment bucket)
            (λ outside. mark_else shown.pool x.old_chunk.bucket bucket false
            (λ e. true≢false (sym (and_from (nat_eq x.old_chunk.segment x.old_chunk.segment)
            (nat_eq x.old_chunk.bucket bucket) (eq-eqb x.old_chunk.segment x.old_chunk.segment refl)
            (eq-eqb x.old_chunk.bucket bucket (sym e))) ∙ outside)))
            (λ inside. ap (is_used (with_mark shown.pool x.old_chunk.bucket false))
            (sym (lies_there x.old_chunk.segment bucket x.old_chunk inside).1)
            ∙ mark_cleared shown.pool x.old_chunk.bucket ∙ sym dead)
            ∙ sym (used_is after x.old_chunk.segment bucket);
        marks = length-set shown.pool.used x.old_chunk.bucket false ∙ shows.marks;
        chunks = omega arith;
        payload = shows.payload;
      }

  freed_active : (shown : ActiveSegment) (chunks : ℕ) → chunks ≡ live_in after x.old_chunk.segment →
      ShowsSegment after x.old_chunk.segment shown → shown.chunks ≡ chunks →
      ShowsActive after x.old_chunk.segment (if_active (nat_eq x.old_chunk.segment (current l)) shown)
  freed_active shown chunks live shows counted =
      by_test (nat_eq x.old_chunk.segment (current l) || nat_lt 0 shown.chunks) refl
    where
      within : nat_lt x.old_chunk.segment (length l.segments) ≡ true
      within = lt-ltb x.old_chunk.segment (length l.segments) (c.settled.within x.index x.old_chunk c.stands).segment

      is : is_active after x.old_chunk.segment ≡ (nat_eq x.old_chunk.segment (current l) || nat_lt 0 shown.chunks)
      is = active_is after x.old_chunk.segment
          ∙ ap (λ b. b && (nat_eq x.old_chunk.segment (current l) || nat_lt 0 (live_in after x.old_chunk.segment)))
          within
          ∙ ap (λ n. nat_eq x.old_chunk.segment (current l) || nat_lt 0 n) (sym live ∙ sym counted)

      by_test : (b : Bool) → (nat_eq x.old_chunk.segment (current l) || nat_lt 0 shown.chunks) ≡ b →
          ShowsActive after x.old_chunk.segment (cond b (Some shown) None)
      by_test true e = (is ∙ e, shows)
      by_test false e = is ∙ e

  -- a segment whose chunk may have died is shown where its bucket was given back
  active_here : (o : Option ActiveSegment) → is_live l x.old_chunk ≡ true → is_live after x.new_chunk ≡ false →
      ShowsActive l x.old_chunk.segment o →
      ShowsActive after x.old_chunk.segment (given_back (nat_eq x.old_chunk.segment (current l)) x.old_chunk.bucket o)
  active_here None alive dead shows = absurd (true≢false (sym (live_active alive) ∙ shows))
  active_here (Some shown) alive dead shows =
      let freed = freed_segment shown alive dead shows.1 in
      freed_active (without_bucket shown x.old_chunk.bucket) (shown.chunks - 1) freed.chunks freed refl

  -- the memory after its bucket was given back, unless the chunk lives on
  pub active_after : (p p' : Core) → is_live l x.old_chunk ≡ true → p.current ≡ current l →
      GivesBack p p' (is_live after x.new_chunk) x.old_chunk.segment x.old_chunk.bucket →
      ((segment : ℕ) → ShowsActive l segment (p.active segment)) →
      (segment : ℕ) → ShowsActive after segment (p'.active segment)
  active_after p p' alive at gives shows segment = elim (cases_Bool (is_live after x.new_chunk)) [
    | inl lives ↦ subst (ShowsActive after segment) (sym (as_before lives))
        (all_kept (lives ∙ sym alive) segment (p.active segment) (shows segment))
    | inr dead ↦ elim (same_or_apart segment x.old_chunk.segment) [
      | inl same ↦ subst (λ s. ShowsActive after s (p'.active s)) (sym same)
          (subst (ShowsActive after x.old_chunk.segment) (sym (without dead))
          (active_here (p.active x.old_chunk.segment) alive dead (shows x.old_chunk.segment)))
      | inr apart ↦ subst (ShowsActive after segment) (sym (gives.others segment apart))
          (active_kept l after segment (p.active segment) (else_alike alive segment apart) (shows segment))
    ]
  ]
    where
      as_before : is_live after x.new_chunk ≡ true → p'.active segment ≡ p.active segment
      as_before lives = elim (same_or_apart segment x.old_chunk.segment) [
        | inl same ↦ ap p'.active same ∙ gives.here
            ∙ ap (λ b. cond b (p.active x.old_chunk.segment) (given_back (nat_eq x.old_chunk.segment p.current)
            x.old_chunk.bucket (p.active x.old_chunk.segment))) lives
            ∙ ap p.active (sym same)
        | inr apart ↦ gives.others segment apart
      ]

      without : is_live after x.new_chunk ≡ false → p'.active x.old_chunk.segment
          ≡ given_back (nat_eq x.old_chunk.segment (current l)) x.old_chunk.bucket (p.active x.old_chunk.segment)
      without dead = gives.here
          ∙ ap (λ b. cond b (p.active x.old_chunk.segment) (given_back (nat_eq x.old_chunk.segment p.current)
          x.old_chunk.bucket (p.active x.old_chunk.segment))) dead
          ∙ ap (λ n. given_back (nat_eq x.old_chunk.segment n) x.old_chunk.bucket (p.active x.old_chunk.segment)) at

  -- ---- bytes

  -- each active segment was active and has the payload that it had
  pub record KeepsPayloads (p p' : Core) : Type 0 where
    pub payload : (segment : ℕ) (shown : ActiveSegment) → p'.active segment ≡ Some shown →
        (before : ActiveSegment) × (p.active segment ≡ Some before) × (shown.payload ≡ before.payload)

  abbrev pub ShowsAllBytes : Core → Ledger → Type 0
  ShowsAllBytes p l = (i : ℕ) (chunk : Chunk) (shown : ActiveSegment) → slice_get l.chunks i ≡ Some chunk →
      is_live l chunk ≡ true → p.active chunk.segment ≡ Some shown → ShowsBytes l chunk shown

  bytes_moved : (chunk : Chunk) (shown before : ActiveSegment) → shown.payload ≡ before.payload →
      ShowsBytes l chunk before → ShowsBytes after chunk shown
  bytes_moved chunk shown before same shows =
      subst (λ payload. ShowsBytes l chunk (record shown { payload = payload })) (sym same) shows

  pub bytes_kept : (p p' : Core) → is_live l x.old_chunk ≡ true → x.new_chunk.bytes ≡ x.old_chunk.bytes →
      KeepsPayloads p p' → ShowsAllBytes p l → ShowsAllBytes p' after
  bytes_kept p p' alive same keeps shows i chunk shown there living has = elim (same_or_apart i x.index) [
    | inl here ↦ own here
    | inr apart ↦
        let b = keeps.payload chunk.segment shown has in
        let stood_there = stood l x c i chunk apart there in
        bytes_moved chunk shown b.0 b.2
        (shows i chunk b.0 stood_there (sym (live_else l x c i chunk apart stood_there) ∙ living) b.1)
  ]
    where
      own : i ≡ x.index → ShowsBytes after chunk shown
      own here =
          let is : chunk ≡ x.new_chunk = same_Some chunk x.new_chunk
          (sym there ∙ ap (slice_get after.chunks) here ∙ stands_after l x c) in
          let at : p'.active x.old_chunk.segment ≡ Some shown =
          ap p'.active (sym (ap (λ (d : Chunk). d.segment) is ∙ c.segment)) ∙ has in
          let b = keeps.payload x.old_chunk.segment shown at in
          let old : ShowsBytes l x.old_chunk shown = bytes_moved x.old_chunk shown b.0 b.2
          (shows x.index x.old_chunk b.0 c.stands alive b.1) in
          subst (λ (d : Chunk). ShowsBytes after d shown) (sym is)
          (subst (λ s. ShowsBytes l (record x.new_chunk { segment = s }) shown) (sym c.segment)
          (subst (λ b. ShowsBytes l (record x.new_chunk { segment = x.old_chunk.segment; bucket = b }) shown)
          (sym c.bucket)
          (old ∙ sym same)))

  -- ---- entries and owners

  pub entries_after : (entries : List ChunkEntry) → entries ≡ map (entry_of l.histories) l.chunks →
      set entries x.index (entry_of after.histories x.new_chunk) ≡ map (entry_of after.histories) after.chunks
  entries_after entries is =
      ap (λ es. set es x.index (entry_of after.histories x.new_chunk)) is
      ∙ map-set_agree (entry_of l.histories) (entry_of after.histories) l.chunks x.index x.new_chunk
      (λ j d apart there. ap (λ n. record {
        name = d.name;
        segment = d.segment;
        bucket = d.bucket;
        loaned = d.loaned;
        sent = d.sent;
        transits = n;
      }) (sym (transits_else l x c d.name (other_name l x c j d apart there))))

  abbrev pub Owns : (ℕ → List ℕ) → Ledger → Type 0
  Owns owners l = (i : ℕ) (chunk : Chunk) → slice_get l.chunks i ≡ Some chunk → is_live l chunk ≡ true →
      slice_get (owners chunk.segment) chunk.bucket ≡ Some i

  pub owners_after : (owners : ℕ → List ℕ) → is_live l x.old_chunk ≡ true → Owns owners l → Owns owners after
  owners_after owners alive owns i chunk there living = elim (same_or_apart i x.index) [
    | inl here ↦
        let is : chunk ≡ x.new_chunk = same_Some chunk x.new_chunk
        (sym there ∙ ap (slice_get after.chunks) here ∙ stands_after l x c) in
        ap (λ s. slice_get (owners s) chunk.bucket) (ap (λ (d : Chunk). d.segment) is ∙ c.segment)
        ∙ ap (slice_get (owners x.old_chunk.segment)) (ap (λ (d : Chunk). d.bucket) is ∙ c.bucket)
        ∙ owns x.index x.old_chunk c.stands alive ∙ ap Some (sym here)
    | inr apart ↦
        let stood_there = stood l x c i chunk apart there in
        owns i chunk stood_there (sym (live_else l x c i chunk apart stood_there) ∙ living)
  ]

  -- ---- the view where nothing is borrowed or given back

  pub mapped_kept : (segment : ℕ) (o : Option ℕ) → x.opened_last ≡ l.opened_last →
      borrows after.histories x.new_chunk.name ≡ borrows l.histories x.old_chunk.name →
      ShowsMapped l segment o → ShowsMapped after segment o
  mapped_kept segment o same borrowed shows = by_option o shows
    where
      sums : borrowed_in after segment ≡ borrowed_in l segment
      sums =
          let s = borrowed_in-after l x c segment in
          let told = ap (λ n. cond (nat_eq n segment) (borrows after.histories x.new_chunk.name) 0) c.segment
          ∙ ap (λ n. cond (nat_eq x.old_chunk.segment segment) n 0) borrowed in
          omega arith

      is : is_mapped after segment ≡ is_mapped l segment
      is = mapped_is after segment
          ∙ ap (λ o. has_name segment (option_to_list o) || nat_lt 0 (borrowed_in after segment)) same
          ∙ ap (λ n. has_name segment (option_to_list l.opened_last) || nat_lt 0 n) sums
          ∙ sym (mapped_is l segment)

      by_option : (o : Option ℕ) → ShowsMapped l segment o → ShowsMapped after segment o
      by_option None shows = is ∙ shows
      by_option (Some count) shows = (is ∙ shows.0, shows.1 ∙ sym sums)
