-- A bucket of the current segment is handed out: the parts show the ledger with the new chunk.
use Rattle.std.proofs.Common.{ℕ, zero, suc, ◌+◌, ◌*◌, ◌<◌, ◌≤◌, ◌≡◌, ◌≢◌, Bool, true, false, cond, not, ◌&&◌, ◌||◌, nat_eq, nat_lt, List, [], ◌∷◌, ◌++◌, length, get_or, map, set, replicate, Option, Some, None, option_to_list, inl, inr, refl, sym, ap, ◌∙◌, subst, arith, mul-le-mul_left, drop_of_length-le}
use Rattle.std.specs.List.{slice_get, find}
use Rattle.std.proofs.lemmas.Bool.{true≢false, and_from, or_left, or_right, eq-eqb, ne_eqb, lt-ltb, false_from_ne_true}
use Rattle.std.proofs.lemmas.List.{append-nil, length-replicate, length-set, length-map, map-append}
use Rattle.std.proofs.lemmas.Option.{same_Some, none-some, slice_get-get_or}
use Rattle.cal_alloc.specs.Pool.{is_used, with_mark}
use Rattle.cal_queue.specs.UsedChunks.{contains, capacity_of}
use Rattle.cal_connection.specs.Channel as channel
use Rattle.cal_transport.specs.Ledger.{Ledger, Chunk, ChannelHistory, layout_at, current, is_live, is_free, is_mapped, is_in_transit, is_borrowed, queued_names, completed_names, occurrences, has_name}
use Rattle.cal_transport.specs.Step.{new_chunk, with_bytes}
use Rattle.cal_transport.specs.Soundness.{AreNamed, weight}
use Rattle.cal_transport.specs.declared.transport.chunk_entry.ChunkEntry.{ChunkEntry}
use Rattle.cal_transport.specs.Weights.{lies_in, holds, live_in, borrowed_in, transits, borrows, one_if}
use Rattle.cal_transport.specs.Core.{Core, ActiveSegment}
use Rattle.cal_transport.specs.Shown.{is_active, ShowsSegment, ShowsActive, ShowsBytes, ShowsMapped, ShowsChannel, TracksChannel, Shows, Tracks, pointer_of, pointer_named, entry_of, bytes_at}
use Rattle.cal_transport.proofs.Changing.{mark_here, mark_else}
use Rattle.cal_transport.proofs.Lending.{not_free}
use Rattle.cal_transport.proofs.Lists.{same_or_apart, slice_get-set_same, slice_get-set_else, old_or_new}
use Rattle.cal_transport.proofs.Names.{is_in_transit-weight, occurrences_here}
use Rattle.cal_transport.proofs.Settled.{IsSettled}
use Rattle.cal_transport.proofs.Totals.{or-false, and-false, any_append, total_append}
use Rattle.cal_transport.proofs.Changed.{used_is, mapped_is, borrowed_transits}
use Rattle.cal_transport.proofs.Kept.{active_is, SeesAlike, active_kept}
use Rattle.cal_transport.proofs.GrowthStep.{total_none}
use Rattle.cal_transport.proofs.Writes.{length-overwritten, length-bytes_at, bytes_outside, bytes_inside, buckets_disjoint}
use Rattle.cal_transport.proofs.Channels.{SameChannel, SameTracks}

-- ---- lists

-- a map by a function that agrees on all elements of a list
map_agree_at : {A B : Type 0} (f g : A → B) (xs : List A) → ((j : ℕ) (x : A) → slice_get xs j ≡ Some x → f x ≡ g x) →
    map f xs ≡ map g xs
map_agree_at f g [] agree = refl
map_agree_at f g (x ∷ xs) agree =
    let first = agree 0 x refl in let rest = map_agree_at f g xs (λ j z there. agree (suc j) z there) in cc

-- a name that stands in a list occurs there
occurs : (name : ℕ) (names : List ℕ) (j : ℕ) → slice_get names j ≡ Some name → 0 < occurrences name names
occurs name [] j there = absurd (none-some name there)
occurs name (x ∷ names) zero there =
    let here = same_Some x name there in
    let one = ap (λ n. occurrences name (n ∷ names)) here ∙ occurrences_here name names in omega arith
occurs name (x ∷ names) (suc j) there = let rest = occurs name names j there in omega arith

-- what is found of a longer list
find_append_else : {A : Type 0} (p : A → Bool) (xs : List A) (y : A) → p y ≡ false → find p (xs ++ y ∷ []) ≡ find p xs
find_append_else p [] y fails = ap (λ b. cond b (Some y) None) fails
find_append_else p (x ∷ xs) y fails = ap (λ o. cond (p x) (Some x) o) (find_append_else p xs y fails)

-- ---- the loan

-- a bucket of the current segment was handed out, cleared and entered
pub record LendsAt (p p' : Core) (name bucket size : ℕ) : Type 0 where
  pub settings : p'.settings ≡ p.settings
  pub current : p'.current ≡ p.current
  pub others : (segment : ℕ) → segment ≢ p.current → p'.active segment ≡ p.active segment
  pub here : (shown : ActiveSegment) → p.active p.current ≡ Some shown → p'.active p.current ≡ Some (record {
    pool = with_mark shown.pool bucket true;
    payload = with_bytes shown.payload (bucket * size) (replicate size 0);
    chunks = shown.chunks + 1;
  })
  pub marked : (shown : ActiveSegment) → p.active p.current ≡ Some shown → bucket < length shown.pool.used
  pub entries : p'.entries ≡ p.entries ++ (record {
    name = name;
    segment = p.current;
    bucket = bucket;
    loaned = true;
    sent = false;
    transits = 0;
  }) ∷ []
  pub opened_last : p'.opened_last ≡ p.opened_last
  pub mapped : (segment : ℕ) → p'.mapped segment ≡ p.mapped segment
  pub channels : (k : ℕ) → SameChannel p p' k
  pub tracks : (k : ℕ) → SameTracks p p' k
  pub other_owners : (segment : ℕ) → segment ≢ p.current → p'.owners segment ≡ p.owners segment
  pub owner : p'.owners p.current ≡ set (p.owners p.current) bucket (length p.entries)
  pub in_transit : p'.in_transit ≡ p.in_transit

module _ (p p' : Core) (l : Ledger) (s : IsSettled l) (place bucket : ℕ) (names : AreNamed l.chunks place)
    (within : bucket < (layout_at l (current l)).count) (free : is_free l (current l) bucket ≡ true)
    (r : LendsAt p p' place bucket (layout_at l (current l)).size) (shows : Shows p l) (tracks : Tracks p l) where
  abbrev size : ℕ
  size = (layout_at l (current l)).size

  abbrev pub lent : Chunk
  lent = new_chunk place (current l) bucket size

  abbrev pub end : Ledger
  end = record l { chunks = l.chunks ++ lent ∷ [] }

  abbrev zeros : List ℕ
  zeros = replicate size 0

  zeros_long : length zeros ≡ size
  zeros_long = length-replicate size 0

  -- ---- the name is new

  older : (i : ℕ) (d : Chunk) → slice_get l.chunks i ≡ Some d → d.name ≢ place
  older i d there e = (let before = names.before i d there in absurd (omega arith))

  unweighed : (k : ℕ) (h : ChannelHistory) → slice_get l.histories k ≡ Some h → weight h place ≡ 0
  unweighed k h here = go (weight h place) refl
    where
      go : (n : ℕ) → weight h place ≡ n → weight h place ≡ 0
      go zero e = e
      go (suc n) e =
          let known = s.known k h place here (omega arith) in
          absurd (older known.index known.chunk known.stands known.same_name)

  never_sent : (k : ℕ) (h : ChannelHistory) → slice_get l.histories k ≡ Some h → is_in_transit h place ≡ false
  never_sent k h here = is_in_transit-weight h place ∙ ap (nat_lt 0) (unweighed k h here)

  never_borrowed : (k : ℕ) (h : ChannelHistory) → slice_get l.histories k ≡ Some h → is_borrowed h place ≡ false
  never_borrowed k h here = false_from_ne_true (is_borrowed h place) (λ borrowed.
      true≢false (sym (borrowed_transits h place borrowed) ∙ never_sent k h here))

  no_transits : transits l.histories place ≡ 0
  no_transits = total_none (λ h. one_if (is_in_transit h place)) l.histories (λ k h here. ap one_if (never_sent k h
      here))

  no_borrows : borrows l.histories place ≡ 0
  no_borrows = total_none (λ h. one_if (is_borrowed h place)) l.histories (λ k h here. ap one_if (never_borrowed k h
      here))

  -- ---- segments

  lent_lives : is_live end lent ≡ true
  lent_lives = refl

  live_end : (segment : ℕ) → live_in end segment ≡ live_in l segment + one_if (nat_eq (current l) segment && true)
  live_end segment = total_append (λ d. one_if (nat_eq d.segment segment && is_live l d)) l.chunks lent

  used_end : (segment there : ℕ) → not (is_free end segment there)
      ≡ (not (is_free l segment there) || (lies_in segment there lent && true))
  used_end segment there =
      used_is end segment there
      ∙ any_append (λ d. lies_in segment there d && is_live l d) l.chunks lent
      ∙ ap (λ b. b || (lies_in segment there lent && true)) (sym (used_is l segment there))

  else_alike : (segment : ℕ) → segment ≢ current l → SeesAlike l end segment
  else_alike segment apart =
      let other : nat_eq (current l) segment ≡ false = ne_eqb (current l) segment (λ e. apart (sym e)) in
      let sums = live_end segment in
      let none = ap (λ b. one_if (b && true)) other in
      let same : live_in end segment ≡ live_in l segment = omega arith in
      record {
        active = active_is end segment
            ∙ ap (λ n. nat_lt segment (length l.segments) && (nat_eq segment (current l) || nat_lt 0 n)) same
            ∙ sym (active_is l segment);
        layout = refl;
        free = λ there. used_end segment there
            ∙ ap (λ b. not (is_free l segment there) || ((b && nat_eq bucket there) && true)) other
            ∙ or-false (not (is_free l segment there));
        live = same;
      }

  current_is : p.current ≡ current l
  current_is = shows.current

  here_active : is_active end (current l) ≡ true
  here_active =
      let some = s.segments.some in
      active_is end (current l)
      ∙ and_from (nat_lt (current l) (length l.segments))
      (nat_eq (current l) (current l) || nat_lt 0 (live_in end (current l)))
      (lt-ltb (current l) (length l.segments) (omega arith))
      (or_left (nat_eq (current l) (current l)) (nat_lt 0 (live_in end (current l)))
      (eq-eqb (current l) (current l) refl))

  -- the segment with the bucket that is handed out
  abbrev lending : ActiveSegment → ActiveSegment
  lending shown = record {
    pool = with_mark shown.pool bucket true;
    payload = with_bytes shown.payload (bucket * size) (replicate size 0);
    chunks = shown.chunks + 1;
  }

  -- the bucket lies in the payload
  inside : (shown : ActiveSegment) → ShowsSegment l (current l) shown → bucket * size + size ≤ length shown.payload
  inside shown was =
      let all = was.payload in
      let next : bucket + 1 ≤ (layout_at l (current l)).count = omega arith in
      let below = mul-le-mul_left size next in omega arith

  cleared_long : (shown : ActiveSegment) → ShowsSegment l (current l) shown →
      length (with_bytes shown.payload (bucket * size) (replicate size 0)) ≡ length shown.payload
  cleared_long shown was =
      length-overwritten shown.payload (bucket * size) (replicate size 0)
      (let long = zeros_long in let in_it = inside shown was in omega arith)

  lent_segment : (shown : ActiveSegment) → bucket < length shown.pool.used → ShowsSegment l (current l) shown →
      ShowsSegment end (current l) (lending shown)
  lent_segment shown marked was = record {
    layout = was.layout;
    used = λ there. elim (same_or_apart there bucket) [
      | inl same ↦ ap (is_used (with_mark shown.pool bucket true)) same ∙ mark_here shown.pool bucket true marked
          ∙ sym (used_end (current l) there
          ∙ or_right (not (is_free l (current l) there)) (lies_in (current l) there lent && true)
          (and_from (lies_in (current l) there lent) true
          (and_from (nat_eq (current l) (current l)) (nat_eq bucket there) (eq-eqb (current l) (current l) refl)
          (eq-eqb bucket there (sym same))) refl))
      | inr apart ↦ mark_else shown.pool bucket there true apart ∙ was.used there
          ∙ sym (used_end (current l) there
          ∙ ap (λ b. not (is_free l (current l) there) || ((nat_eq (current l) (current l) && b) && true))
          (ne_eqb bucket there (λ e. apart (sym e)))
          ∙ ap (λ b. not (is_free l (current l) there) || (b && true)) (and-false (nat_eq (current l) (current l)))
          ∙ or-false (not (is_free l (current l) there)))
    ];
    marks = length-set shown.pool.used bucket true ∙ was.marks;
    chunks =
        let sums = live_end (current l) in
        let one = ap (λ b. one_if (b && true)) (eq-eqb (current l) (current l) refl) in
        let had = was.chunks in omega arith;
    payload = (let all = was.payload in let e = cleared_long shown was in omega arith);
  }

  -- the current segment is shown
  pub record HasCurrent : Type 0 where
    pub shown : ActiveSegment
    pub has : p.active p.current ≡ Some shown
    pub was : ShowsSegment l (current l) shown

  has_current : HasCurrent
  has_current = go (p.active p.current) refl
      (subst (λ n. ShowsActive l n (p.active p.current)) current_is (shows.active p.current))
    where
      go : (o : Option ActiveSegment) → p.active p.current ≡ o → ShowsActive l (current l) o → HasCurrent
      go None is inactive =
          let some = s.segments.some in
          absurd (true≢false (sym (active_is l (current l)
          ∙ and_from (nat_lt (current l) (length l.segments))
          (nat_eq (current l) (current l) || nat_lt 0 (live_in l (current l)))
          (lt-ltb (current l) (length l.segments) (omega arith))
          (or_left (nat_eq (current l) (current l)) (nat_lt 0 (live_in l (current l)))
          (eq-eqb (current l) (current l) refl))) ∙ inactive))
      go (Some shown) is shown_is = record { shown = shown; has = is; was = shown_is.1 }

  here_is : p'.active (current l) ≡ Some (lending has_current.shown)
  here_is = ap p'.active (sym current_is) ∙ r.here has_current.shown has_current.has

  active_end : (segment : ℕ) → ShowsActive end segment (p'.active segment)
  active_end segment = elim (same_or_apart segment (current l)) [
    | inl same ↦ subst (λ n. ShowsActive end n (p'.active n)) (sym same)
        (subst (ShowsActive end (current l)) (sym here_is) (
          here_active,
          lent_segment has_current.shown (r.marked has_current.shown has_current.has) has_current.was,
        ))
    | inr apart ↦ subst (ShowsActive end segment) (sym (r.others segment (λ e. apart (e ∙ current_is))))
        (active_kept l end segment (p.active segment) (else_alike segment apart) (shows.active segment))
  ]

  -- ---- bytes

  shown_is : (shown : ActiveSegment) → p'.active (current l) ≡ Some shown →
      shown.payload ≡ with_bytes has_current.shown.payload (bucket * size) (replicate size 0)
  shown_is shown has =
      ap (λ (a : ActiveSegment). a.payload) (same_Some shown (lending has_current.shown) (sym has ∙ here_is))

  -- an old live chunk of the segment lies in another bucket
  other_bytes : (i : ℕ) (d : Chunk) (shown : ActiveSegment) → slice_get l.chunks i ≡ Some d → is_live l d ≡ true →
      d.segment ≡ current l → p'.active d.segment ≡ Some shown → ShowsBytes l d shown
  other_bytes i d shown there living same has =
      let elsewhere : d.bucket ≢ bucket = λ e. not_free l (current l) bucket i d free there living same e in
      let below = subst (λ n. d.bucket < (layout_at l n).count) same (s.within i d there).bucket in
      let all = has_current.was.payload in
      let next : d.bucket + 1 ≤ (layout_at l (current l)).count = omega arith in
      let in_it = mul-le-mul_left size next in
      let own = inside has_current.shown has_current.was in
      let long = zeros_long in
      let was = shows.bytes i d has_current.shown there living
      (ap p.active (same ∙ sym current_is) ∙ has_current.has) in
      subst (λ n. bytes_at shown.payload (d.bucket * (layout_at l n).size) (layout_at l n).size ≡ d.bytes) (sym same)
      (ap (λ m. bytes_at m (d.bucket * size) size) (shown_is shown (ap p'.active (sym same) ∙ has))
      ∙ bytes_outside has_current.shown.payload (bucket * size) (replicate size 0) (d.bucket * size) size (omega arith)
      (omega arith)
      (elim (buckets_disjoint size bucket d.bucket (λ e. elsewhere (sym e))) [
        | inl behind ↦ inr (omega arith)
        | inr ahead ↦ inl (omega arith)
      ])
      ∙ subst (λ n. bytes_at has_current.shown.payload (d.bucket * (layout_at l n).size) (layout_at l n).size ≡ d.bytes)
      same was)

  own_bytes : (shown : ActiveSegment) → p'.active (current l) ≡ Some shown → ShowsBytes end lent shown
  own_bytes shown has =
      let own = inside has_current.shown has_current.was in
      let long = zeros_long in
      let at : bucket * size + 0 ≡ bucket * size = omega arith in
      let room : length (bytes_at has_current.shown.payload (bucket * size) size) ≡ size =
      length-bytes_at has_current.shown.payload (bucket * size) size own in
      ap (λ m. bytes_at m (bucket * size) size) (shown_is shown has)
      ∙ ap (λ n. bytes_at (with_bytes has_current.shown.payload n (replicate size 0)) (bucket * size) size) (sym at)
      ∙ bytes_inside has_current.shown.payload 0 (replicate size 0) (bucket * size) size (omega arith) own
      ∙ all_over (bytes_at has_current.shown.payload (bucket * size) size) (replicate size 0) (zeros_long ∙ sym room)
    where
      all_over : (m bytes : List ℕ) → length bytes ≡ length m → with_bytes m 0 bytes ≡ bytes
      all_over m bytes long =
          ap (λ rest. bytes ++ rest) (drop_of_length-le m (let all : length m ≤ 0 + length bytes = omega arith in
          all)) ∙ append-nil bytes

  bytes_end : (i : ℕ) (chunk : Chunk) (shown : ActiveSegment) → slice_get end.chunks i ≡ Some chunk →
      is_live end chunk ≡ true → p'.active chunk.segment ≡ Some shown → ShowsBytes end chunk shown
  bytes_end i chunk shown there living has = elim (old_or_new l.chunks lent i chunk there) [
    | inl old ↦ elim (same_or_apart chunk.segment (current l)) [
      | inl same ↦ other_bytes i chunk shown old living same has
      | inr apart ↦ shows.bytes i chunk shown old living
          (sym (r.others chunk.segment (λ e. apart (e ∙ current_is))) ∙ has)
    ]
    | inr new ↦ subst (λ (d : Chunk). ShowsBytes end d shown) (sym new.1)
        (own_bytes shown (ap (λ (d : Chunk). p'.active d.segment) (sym new.1) ∙ has))
  ]

  -- ---- the view

  borrowed_end : (segment : ℕ) → borrowed_in end segment ≡ borrowed_in l segment
  borrowed_end segment =
      let sums = total_append (λ d. cond (nat_eq d.segment segment) (borrows l.histories d.name) 0) l.chunks lent in
      let none : cond (nat_eq (current l) segment) (borrows l.histories place) 0 ≡ 0 =
      either (nat_eq (current l) segment) (borrows l.histories place) no_borrows in
      omega arith
    where
      either : (b : Bool) (n : ℕ) → n ≡ 0 → cond b n 0 ≡ 0
      either true n e = e
      either false n e = refl

  mapped_end : (segment : ℕ) (o : Option ℕ) → ShowsMapped l segment o → ShowsMapped end segment o
  mapped_end segment o m = by_option o m
    where
      is : is_mapped end segment ≡ is_mapped l segment
      is = mapped_is end segment
          ∙ ap (λ n. has_name segment (option_to_list l.opened_last) || nat_lt 0 n) (borrowed_end segment)
          ∙ sym (mapped_is l segment)

      by_option : (o : Option ℕ) → ShowsMapped l segment o → ShowsMapped end segment o
      by_option None m = is ∙ m
      by_option (Some count) m = (is ∙ m.0, m.1 ∙ sym (borrowed_end segment))

  -- ---- the ports

  pointer_else : (name : ℕ) → name ≢ place → pointer_named end name ≡ pointer_named l name
  pointer_else name apart =
      ap (pointer_of l) (find_append_else (λ d. nat_eq d.name name) l.chunks lent
      (ne_eqb place name (λ e. apart (sym e))))

  pointers_of : (k : ℕ) (h : ChannelHistory) → slice_get l.histories k ≡ Some h → (ns : List ℕ) →
      ((j name : ℕ) → slice_get ns j ≡ Some name → 0 < weight h name) →
      map (pointer_named end) ns ≡ map (pointer_named l) ns
  pointers_of k h here ns weighs =
      map_agree_at (pointer_named end) (pointer_named l) ns (λ j name there. pointer_else name
      (λ e. (let heavy = weighs j name there in let none = unweighed k h here in
      let same = ap (weight h) e in absurd (omega arith))))

  marks_end : (test : Chunk → Bool) (segment there : ℕ) → test lent ≡ false →
      holds test end.chunks segment there ≡ holds test l.chunks segment there
  marks_end test segment there fails =
      any_append (λ d. lies_in segment there d && test d) l.chunks lent
      ∙ ap (λ b. holds test l.chunks segment there || (lies_in segment there lent && b)) fails
      ∙ ap (λ b. holds test l.chunks segment there || b) (and-false (lies_in segment there lent))
      ∙ or-false (holds test l.chunks segment there)

  channel_end : (k : ℕ) (h : ChannelHistory) → slice_get l.histories k ≡ Some h → ShowsChannel p l k h →
      ShowsChannel p' end k h
  channel_end k h here was =
      let same = r.channels k in
      record {
        shape = ap channel.shape same.channel ∙ was.shape;
        queued = ap (λ (e : channel.ChannelEntry). e.submission.values) same.channel ∙ was.queued
            ∙ sym (pointers_of k h here (queued_names h) (λ j name there. (
            let some = occurs name (queued_names h) j there in omega arith)));
        completed = ap (λ (e : channel.ChannelEntry). e.completion.values) same.channel ∙ was.completed
            ∙ sym (pointers_of k h here (completed_names h) (λ j name there. (
            let some = occurs name (completed_names h) j there in omega arith)));
        borrowed = same.borrowed ∙ was.borrowed;
        used = λ segment there.
            ap (λ (e : channel.ChannelEntry). channel.is_used e.segments segment there) same.channel
            ∙ was.used segment there
            ∙ sym (marks_end (λ d. is_in_transit h d.name) segment there (never_sent k h here));
        sizes = λ i chunk there transit. elim (old_or_new l.chunks lent i chunk there) [
          | inl old ↦ ap (λ (e : channel.ChannelEntry). (channel.segment_at e.segments chunk.segment).sample_size)
              same.channel ∙ was.sizes i chunk old transit
          | inr new ↦ absurd (true≢false (sym transit ∙ ap (λ (d : Chunk). is_in_transit h d.name) new.1
              ∙ never_sent k h here))
        ];
      }

  tracks_end : (k : ℕ) (h : ChannelHistory) → slice_get l.histories k ≡ Some h → TracksChannel p l k h →
      TracksChannel p' end k h
  tracks_end k h here t =
      let same = r.tracks k in
      record {
        room = ap capacity_of same.lent ∙ t.room;
        lent = λ segment there in_it below.
            ap (λ used. contains used (segment * l.settings.samples + there)) same.lent ∙ t.lent segment there in_it
            below
            ∙ sym (marks_end (λ d. is_borrowed h d.name) segment there (never_borrowed k h here));
        transits =
            let sums = total_append (λ d. one_if (is_in_transit h d.name)) l.chunks lent in
            let none = ap one_if (never_sent k h here) in
            let kept = same.transits in let was = t.transits in omega arith;
      }

  -- ---- all of it

  entries_end : p'.entries ≡ map (entry_of l.histories) end.chunks
  entries_end =
      r.entries ∙ ap (λ es. es ++ (record {
        name = place;
        segment = p.current;
        bucket = bucket;
        loaned = true;
        sent = false;
        transits = 0;
      }) ∷ []) shows.entries
      ∙ ap (λ (e : ChunkEntry). map (entry_of l.histories) l.chunks ++ e ∷ []) entry_is
      ∙ sym (map-append (entry_of l.histories) l.chunks (lent ∷ []))
    where
      entry_is : record {
        name = place;
        segment = p.current;
        bucket = bucket;
        loaned = true;
        sent = false;
        transits = 0;
      } ≡ entry_of l.histories lent
      entry_is =
          ap (λ n. record {
            name = place;
            segment = n;
            bucket = bucket;
            loaned = true;
            sent = false;
            transits = 0;
          }) current_is
          ∙ ap (λ n. record {
            name = place;
            segment = current l;
            bucket = bucket;
            loaned = true;
            sent = false;
            transits = n;
          }) (sym no_transits)

  pub lent_shows : Shows p' end
  lent_shows = record {
    settings = r.settings ∙ shows.settings;
    current = r.current ∙ shows.current;
    active = active_end;
    bytes = bytes_end;
    opened_last = r.opened_last ∙ shows.opened_last;
    mapped = λ segment. mapped_end segment (p'.mapped segment)
        (subst (ShowsMapped l segment) (sym (r.mapped segment)) (shows.mapped segment));
    channels = λ k h here. channel_end k h here (shows.channels k h here);
    entries = entries_end;
  }

  owner_end : (i : ℕ) (chunk : Chunk) → slice_get end.chunks i ≡ Some chunk → is_live end chunk ≡ true →
      slice_get (p'.owners chunk.segment) chunk.bucket ≡ Some i
  owner_end i chunk there living = elim (old_or_new l.chunks lent i chunk there) [
    | inl old ↦ elim (same_or_apart chunk.segment (current l)) [
      | inl same ↦
          let elsewhere : chunk.bucket ≢ bucket = λ e. not_free l (current l) bucket i chunk free old living same e in
          ap (λ os. slice_get os chunk.bucket) (ap p'.owners (same ∙ sym current_is) ∙ r.owner)
          ∙ slice_get-set_else (p.owners p.current) bucket chunk.bucket (length p.entries) elsewhere
          ∙ ap (λ n. slice_get (p.owners n) chunk.bucket) (current_is ∙ sym same)
          ∙ tracks.owners i chunk old living
      | inr apart ↦ ap (λ os. slice_get os chunk.bucket)
          (r.other_owners chunk.segment (λ e. apart (e ∙ current_is))) ∙ tracks.owners i chunk old living
    ]
    | inr new ↦ new_owner new
  ]
    where
      set_within : (xs : List ℕ) (n x : ℕ) → n < length xs → slice_get (set xs n x) n ≡ Some x
      set_within xs n x below =
          slice_get-set_same xs n (get_or xs n 0) x (slice_get-get_or xs n 0 below)

      long : length (p.owners p.current) ≡ (layout_at l (current l)).count
      long = ap (λ n. length (p.owners n)) current_is ∙ tracks.table

      new_owner : (i ≡ length l.chunks) × (chunk ≡ lent) → slice_get (p'.owners chunk.segment) chunk.bucket ≡ Some i
      new_owner new =
          ap (λ (d : Chunk). slice_get (p'.owners d.segment) d.bucket) new.1
          ∙ ap (λ os. slice_get os bucket) (ap p'.owners (sym current_is) ∙ r.owner)
          ∙ set_within (p.owners p.current) bucket (length p.entries) (let e = long in omega arith)
          ∙ ap Some (ap length shows.entries ∙ length-map l.chunks (entry_of l.histories) ∙ sym new.0)

  pub lent_tracks : Tracks p' end
  lent_tracks = record {
    channels = λ k h here. tracks_end k h here (tracks.channels k h here);
    owners = owner_end;
    table = ap (λ n. length (p'.owners n)) (sym current_is) ∙ ap length r.owner
        ∙ length-set (p.owners p.current) bucket (length p.entries) ∙ ap (λ n. length (p.owners n)) current_is
        ∙ tracks.table;
    in_transit =
        let sums = total_append (λ d. transits l.histories d.name) l.chunks lent in
        let none = no_transits in let kept = r.in_transit in let was = tracks.in_transit in omega arith;
  }
