-- A write is a step: the bytes of one bucket change, and those of no other.
use Rattle.std.proofs.Common.{ℕ, ◌+◌, ◌*◌, ◌<◌, ◌≤◌, ◌≡◌, ◌≢◌, true, false, cond, ◌||◌, nat_lt, List, [], ◌++◌, length, take, drop, set, Some, None, inl, inr, refl, sym, ap, ◌∙◌, subst, arith, mul-le-mul_left, take-append-drop}
use Rattle.std.specs.List.{slice_get}
use Rattle.std.proofs.lemmas.Bool.{lt-ltb}
use Rattle.std.proofs.lemmas.List.{append-nil}
use Rattle.std.proofs.lemmas.Bool.Decides.{nat_tests}
use Rattle.std.proofs.lemmas.Option.{same_Some}
use Rattle.cal_transport.specs.declared.command.Command.TheVariants as command
use Rattle.cal_transport.specs.declared.reply.Reply.{Reply}
use Rattle.cal_transport.specs.declared.reply.Reply.TheVariants.{Written, Refused}
use Rattle.cal_transport.specs.declared.reply.Refusal.TheVariants as refusal
use Rattle.cal_transport.specs.Ledger.{Ledger, Chunk, ChannelHistory, layout_at, loaned_chunk, is_live}
use Rattle.cal_transport.specs.Cause.{write_cause, exceeds_bucket}
use Rattle.cal_transport.specs.Step.{with_bytes, after_command}
use Rattle.cal_transport.specs.Weights.{transits}
use Rattle.cal_transport.specs.Core.{Core, ActiveSegment}
use Rattle.cal_transport.specs.Shown.{Shows, Tracks, ShowsActive, ShowsBytes, ShowsMapped, entry_of, bytes_at}
use Rattle.cal_transport.proofs.Lists.{same_or_apart, set_there}
use Rattle.cal_transport.proofs.Steps.{changed_chunk-at}
use Rattle.cal_transport.proofs.Settled.{IsSettled}
use Rattle.cal_transport.proofs.Writes.{length-overwritten, bytes_outside, bytes_inside, buckets_disjoint}
use Rattle.cal_transport.proofs.Changed.{Change, Changes, changed, live_is, live_else, stood, stands_after}
use Rattle.cal_transport.proofs.Kept.{ShowsAllBytes, all_kept, mapped_kept}
use Rattle.cal_transport.proofs.Channels.{SameChannel, SameTracks}
use Rattle.cal_transport.proofs.GeneralStep.{StepsTo, shows_after, tracks_after}
use Rattle.cal_transport.proofs.Fronts.{HasSegment, has_segment, entry_at}
use Rattle.cal_transport.proofs.Kept.{live_active}
use Rattle.cal_transport.proofs.DiscardStep.{Keeps, StandsAt, standing, standing_changes, standing_moves, standing_tracks, same_transits, same_borrows}
use Rattle.cal_transport.proofs.Stands.{Steps, refused, done}

-- ---- causes

pub write_unloaned : (p : Core) (l : Ledger) (place name at : ℕ) (bytes : List ℕ) → Shows p l → Tracks p l →
    loaned_chunk l name ≡ None → Steps p l place (command.Write name at bytes) (Refused refusal.NotLoaned)
write_unloaned p l place name at bytes shows tracks none =
    refused p l place (command.Write name at bytes) refusal.NotLoaned shows tracks
    (ap (λ o. write_cause l o at (length bytes)) none)

pub write_after_send : (p : Core) (l : Ledger) (place name at : ℕ) (bytes : List ℕ) (chunk : Chunk) → Shows p l →
    Tracks p l → loaned_chunk l name ≡ Some chunk → chunk.sent ≡ true →
    Steps p l place (command.Write name at bytes) (Refused refusal.WriteAfterSend)
write_after_send p l place name at bytes chunk shows tracks loaned sent =
    refused p l place (command.Write name at bytes) refusal.WriteAfterSend shows tracks
    (ap (λ o. write_cause l o at (length bytes)) loaned
    ∙ ap (λ b. cond b (Some refusal.WriteAfterSend)
    (cond (exceeds_bucket l chunk at (length bytes)) (Some refusal.OutsideChunk) None)) sent)

-- of a chunk that wasn't sent the length decides
write_unsent : (l : Ledger) (name at : ℕ) (bytes : List ℕ) (chunk : Chunk) → loaned_chunk l name ≡ Some chunk →
    chunk.sent ≡ false → write_cause l (loaned_chunk l name) at (length bytes)
    ≡ cond (exceeds_bucket l chunk at (length bytes)) (Some refusal.OutsideChunk) None
write_unsent l name at bytes chunk loaned unsent =
    ap (λ o. write_cause l o at (length bytes)) loaned
    ∙ ap (λ b. cond b (Some refusal.WriteAfterSend)
    (cond (exceeds_bucket l chunk at (length bytes)) (Some refusal.OutsideChunk) None)) unsent

pub write_outside : (p : Core) (l : Ledger) (place name at : ℕ) (bytes : List ℕ) (chunk : Chunk) → Shows p l →
    Tracks p l → loaned_chunk l name ≡ Some chunk → chunk.sent ≡ false →
    (layout_at l chunk.segment).size < at + length bytes →
    Steps p l place (command.Write name at bytes) (Refused refusal.OutsideChunk)
write_outside p l place name at bytes chunk shows tracks loaned unsent past =
    refused p l place (command.Write name at bytes) refusal.OutsideChunk shows tracks
    (write_unsent l name at bytes chunk loaned unsent
    ∙ ap (λ b. cond b (Some refusal.OutsideChunk) None)
    (lt-ltb (layout_at l chunk.segment).size (at + length bytes) past))

pub may_write : (l : Ledger) (name at : ℕ) (bytes : List ℕ) (chunk : Chunk) → loaned_chunk l name ≡ Some chunk →
    chunk.sent ≡ false → at + length bytes ≤ (layout_at l chunk.segment).size →
    write_cause l (loaned_chunk l name) at (length bytes) ≡ None
may_write l name at bytes chunk loaned unsent within =
    write_unsent l name at bytes chunk loaned unsent
    ∙ ap (λ b. cond b (Some refusal.OutsideChunk) None) (lt_false (layout_at l chunk.segment).size (at + length bytes)
    within)
  where
    lt_false : (a b : ℕ) → b ≤ a → nat_lt a b ≡ false
    lt_false a b h = grind (arith, nat_tests)

-- ---- the write

abbrev pub written : Chunk → ℕ → List ℕ → Chunk
written chunk at bytes = record chunk { bytes = with_bytes chunk.bytes at bytes }

-- bytes were put into the payload of a segment; nothing else has changed
pub record WritesAt (p p' : Core) (segment place : ℕ) (bytes : List ℕ) : Type 0 where
  pub settings : p'.settings ≡ p.settings
  pub current : p'.current ≡ p.current
  pub others : (other : ℕ) → other ≢ segment → p'.active other ≡ p.active other
  pub here : (shown : ActiveSegment) → p.active segment ≡ Some shown →
      p'.active segment ≡ Some (record shown { payload = with_bytes shown.payload place bytes })
  pub entries : p'.entries ≡ p.entries
  pub opened_last : p'.opened_last ≡ p.opened_last
  pub mapped : (other : ℕ) → p'.mapped other ≡ p.mapped other
  pub channels : (k : ℕ) → SameChannel p p' k
  pub tracks : (k : ℕ) → SameTracks p p' k
  pub owners : (other : ℕ) → p'.owners other ≡ p.owners other
  pub in_transit : p'.in_transit ≡ p.in_transit

module _ (p p' : Core) (l : Ledger) (s : IsSettled l) (h : ChannelHistory) (here : slice_get l.histories 0 ≡ Some h)
    (i : ℕ) (chunk : Chunk) (stands : slice_get l.chunks i ≡ Some chunk) (loaned : chunk.loaned ≡ true) (at : ℕ)
    (bytes : List ℕ) (within : at + length bytes ≤ (layout_at l chunk.segment).size)
    (r : WritesAt p p' chunk.segment (chunk.bucket * (layout_at l chunk.segment).size + at) bytes) (shows : Shows p l)
    (tracks : Tracks p l) where
  abbrev size : ℕ
  size = (layout_at l chunk.segment).size

  abbrev place : ℕ
  place = chunk.bucket * size + at

  alive : is_live l chunk ≡ true
  alive = live_is l chunk ∙ ap (λ b. b || nat_lt 0 (transits l.histories chunk.name)) loaned

  long : length (with_bytes chunk.bytes at bytes) ≡ length chunk.bytes
  long = length-overwritten chunk.bytes at bytes
      (let has = (s.within i chunk stands).bytes in omega arith)

  keeps : Keeps chunk (written chunk at bytes)
  keeps = record { name = refl; segment = refl; bucket = refl; long = long }

  abbrev x : Change
  x = standing l h i chunk (written chunk at bytes)

  abbrev end : Ledger
  end = changed l x

  abbrev c : Changes l x
  c = standing_changes l s h here i chunk (written chunk at bytes) stands keeps alive

  had : HasSegment p l chunk.segment
  had = has_segment p l chunk.segment shows (live_active l x c alive)

  -- the bucket lies within the payload
  inside : (chunk.bucket * size + size ≤ length had.shown.payload)
  inside =
      let all = had.shows.payload in
      let bucket = (s.within i chunk stands).bucket in
      let next : chunk.bucket + 1 ≤ (layout_at l chunk.segment).count = omega arith in
      let below = mul-le-mul_left size next in omega arith

  has_is : p'.active chunk.segment ≡ Some (record had.shown { payload = with_bytes had.shown.payload place bytes })
  has_is = r.here had.shown had.has

  kept_long : length (with_bytes had.shown.payload place bytes) ≡ length had.shown.payload
  kept_long = length-overwritten had.shown.payload place bytes (let in_it = inside in omega arith)

  same_live : is_live end (written chunk at bytes) ≡ is_live l chunk
  same_live =
      live_is end (written chunk at bytes) ∙ ap (λ n. chunk.loaned || nat_lt 0 n)
      (same_transits l s h here i chunk (written chunk at bytes) stands keeps alive)
      ∙ sym (live_is l chunk)

  active_end : (segment : ℕ) → ShowsActive end segment (p'.active segment)
  active_end segment = elim (same_or_apart segment chunk.segment) [
    | inl same ↦ subst (λ n. ShowsActive end n (p'.active n)) (sym same)
        (subst (ShowsActive end chunk.segment) (sym has_is)
        (let before = all_kept l x c same_live chunk.segment (Some had.shown)
        (subst (ShowsActive l chunk.segment) had.has (shows.active chunk.segment)) in (
          before.0,
          record {
            layout = before.1.layout;
            used = before.1.used;
            marks = before.1.marks;
            chunks = before.1.chunks;
            payload = (let fits = before.1.payload in let e = kept_long in omega arith);
          },
        )))
    | inr apart ↦ subst (ShowsActive end segment) (sym (r.others segment apart))
        (all_kept l x c same_live segment (p.active segment) (shows.active segment))
  ]

  -- another chunk of the segment lies elsewhere
  other_bytes : (j : ℕ) (d : Chunk) → j ≢ i → slice_get l.chunks j ≡ Some d → is_live l d ≡ true →
      d.segment ≡ chunk.segment → ShowsBytes l d had.shown →
      bytes_at (with_bytes had.shown.payload place bytes) (d.bucket * size) size ≡ d.bytes
  other_bytes j d apart there living same was =
      let elsewhere : chunk.bucket ≢ d.bucket = λ e. apart (s.apart j i d chunk there stands living alive
      (record { segment = same; bucket = sym e })) in
      let bucket = subst (λ n. d.bucket < (layout_at l n).count) same (s.within j d there).bucket in
      let all = had.shows.payload in
      let next : d.bucket + 1 ≤ (layout_at l chunk.segment).count = omega arith in
      let below = mul-le-mul_left size next in
      let in_it = inside in
      bytes_outside had.shown.payload place bytes (d.bucket * size) size (omega arith) (omega arith)
      (elim (buckets_disjoint size chunk.bucket d.bucket elsewhere) [
        | inl behind ↦ inr (omega arith)
        | inr ahead ↦ inl (omega arith)
      ])
      ∙ ap (λ n. bytes_at had.shown.payload (d.bucket * (layout_at l n).size) (layout_at l n).size) (sym same) ∙ was

  own_bytes : ShowsBytes l chunk had.shown →
      bytes_at (with_bytes had.shown.payload place bytes) (chunk.bucket * size) size ≡ with_bytes chunk.bytes at bytes
  own_bytes was =
      bytes_inside had.shown.payload at bytes (chunk.bucket * size) size within inside
      ∙ ap (λ m. with_bytes m at bytes) was

  -- the payload that is shown
  payload_is : (shown : ActiveSegment) → p'.active chunk.segment ≡ Some shown →
      shown.payload ≡ with_bytes had.shown.payload place bytes
  payload_is shown has = ap (λ (a : ActiveSegment). a.payload)
      (same_Some shown (record had.shown { payload = with_bytes had.shown.payload place bytes }) (sym has ∙ has_is))

  in_segment : (j : ℕ) (d : Chunk) (shown : ActiveSegment) → j ≢ i → slice_get l.chunks j ≡ Some d →
      is_live l d ≡ true → d.segment ≡ chunk.segment → p'.active d.segment ≡ Some shown → ShowsBytes end d shown
  in_segment j d shown apart there living same has =
      ap (λ m. bytes_at m (d.bucket * (layout_at l d.segment).size) (layout_at l d.segment).size)
      (payload_is shown (ap p'.active (sym same) ∙ has))
      ∙ ap (λ n. bytes_at (with_bytes had.shown.payload place bytes) (d.bucket * (layout_at l n).size)
      (layout_at l n).size) same
      ∙ other_bytes j d apart there living same
      (shows.bytes j d had.shown there living (ap p.active same ∙ had.has))

  bytes_end : ShowsAllBytes l x c p' end
  bytes_end j d shown there living has = elim (same_or_apart j i) [
    | inl same ↦
        let is : written chunk at bytes ≡ d = same_Some (written chunk at bytes) d
        (sym (stands_after l x c) ∙ ap (slice_get end.chunks) (sym same) ∙ there) in
        subst (λ (e : Chunk). ShowsBytes end e shown) is
        (ap (λ m. bytes_at m (chunk.bucket * size) size)
        (payload_is shown (ap (λ (e : Chunk). p'.active e.segment) is ∙ has))
        ∙ own_bytes (shows.bytes i chunk had.shown stands alive had.has))
    | inr apart ↦
        let before = stood l x c j d apart there in
        let lived = sym (live_else l x c j d apart before) ∙ living in
        elim (same_or_apart d.segment chunk.segment) [
          | inl same ↦ in_segment j d shown apart before lived same has
          | inr elsewhere ↦ shows.bytes j d shown before lived (sym (r.others d.segment elsewhere) ∙ has)
        ]
  ]

  at_all : StandsAt l s h here i chunk (written chunk at bytes) stands keeps alive p p'
  at_all = record {
    opened_last = r.opened_last;
    mapped = r.mapped;
    channels = r.channels;
    tracks = r.tracks;
    owners = r.owners;
    in_transit = r.in_transit;
  }

  steps : StepsTo l x c p p'
  steps = record {
    settings = r.settings;
    current = r.current;
    active = active_end;
    bytes = bytes_end;
    opened_last = r.opened_last ∙ shows.opened_last;
    mapped = λ segment. mapped_kept l x c segment (p'.mapped segment) refl
        (same_borrows l s h here i chunk (written chunk at bytes) stands keeps alive)
        (subst (ShowsMapped l segment) (sym (r.mapped segment)) (shows.mapped segment));
    others = λ k apart. r.channels k;
    moves = standing_moves l s h here i chunk (written chunk at bytes) stands keeps alive p p' at_all shows tracks;
    entries = r.entries
        ∙ sym (set_there p.entries i (entry_of l.histories chunk) (entry_at p l i chunk shows stands))
        ∙ ap (λ n. set p.entries i (record (entry_of l.histories chunk) { transits = n }))
        (sym (same_transits l s h here i chunk (written chunk at bytes) stands keeps alive));
    other_tracks = λ k apart. r.tracks k;
    tracks = standing_tracks l s h here i chunk (written chunk at bytes) stands keeps alive p p' at_all shows tracks;
    owners = r.owners;
    in_transit = (let t = r.in_transit in
        let same = same_transits l s h here i chunk (written chunk at bytes) stands keeps alive in omega arith);
  }

  made : (turn : ℕ) (reply : Reply) → after_command l turn (command.Write chunk.name at bytes) reply ≡ end
  made turn reply =
      ap (λ chunks. record l { chunks = chunks })
      (changed_chunk-at l.chunks i chunk (λ d. written d at bytes) stands
      (λ j d there apart. s.names j i d chunk there stands apart))
      ∙ ap (λ hs. record l { chunks = set l.chunks i (written chunk at bytes); histories = hs })
      (sym (set_there l.histories 0 h here))

  pub writes : (turn : ℕ) → write_cause l (loaned_chunk l chunk.name) at (length bytes) ≡ None →
      Steps p' l turn (command.Write chunk.name at bytes) Written
  writes turn none =
      done p' l end turn (command.Write chunk.name at bytes) Written none refl (made turn Written)
      (shows_after l x c p p' alive steps shows) (tracks_after l x c p p' alive steps tracks)

-- to write no byte changes nothing
pub writes_none : (p : Core) (l : Ledger) (s : IsSettled l) (turn i : ℕ) (chunk : Chunk) (at : ℕ) → Shows p l →
    Tracks p l → slice_get l.chunks i ≡ Some chunk → write_cause l (loaned_chunk l chunk.name) at 0 ≡ None →
    Steps p l turn (command.Write chunk.name at []) Written
writes_none p l s turn i chunk at shows tracks stands none =
    done p l l turn (command.Write chunk.name at []) Written none refl
    (ap (λ chunks. record l { chunks = chunks })
    (changed_chunk-at l.chunks i chunk (λ d. written d at []) stands
    (λ j d there apart. s.names j i d chunk there stands apart)
    ∙ set_there l.chunks i (written chunk at []) (stands ∙ ap Some (sym same))))
    shows tracks
  where
    same : written chunk at [] ≡ chunk
    same = ap (λ bytes. record chunk { bytes = bytes }) (nothing chunk.bytes at)
      where
        nothing : (m : List ℕ) (n : ℕ) → with_bytes m n [] ≡ m
        nothing m n =
            ap (λ front. front ++ drop (n + 0) m) (append-nil (take n m))
            ∙ ap (λ k. take n m ++ drop k m) (let e : n + 0 ≡ n = omega arith in e) ∙ take-append-drop n m
