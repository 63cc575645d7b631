-- A pointer that a queue gives leads to the chunk of the queue's first name, which is in transit and lies in an active
-- segment.
use Rattle.std.proofs.Common.{ℕ, ◌*◌, ◌/◌, ◌<◌, ◌≤◌, ◌≡◌, true, nat_lt, nat_eq, ◌&&◌, ◌||◌, List, [], ◌∷◌, length, map, Option, Some, None, option_map, refl, sym, ap, ◌∙◌, subst, arith}
use Rattle.std.specs.List.{slice_get}
use Rattle.std.proofs.lemmas.Bool.{true≢false, and_from, or_right, eq-eqb, lt-ltb}
use Rattle.std.proofs.lemmas.Option.{same_Some, none-some, slice_get-get_or, slice_get-map}
use Rattle.std.proofs.Math.Nat.{mul-div_cancel}
use Rattle.cal_alloc.specs.Growth.{SegmentLayout}
use Rattle.cal_alloc.specs.PointerOffset.{offset_of, segment_of}
use Rattle.cal_transport.specs.declared.reply.Slot.{Slot}
use Rattle.cal_transport.specs.declared.transport.chunk_entry.ChunkEntry.{ChunkEntry}
use Rattle.cal_transport.specs.Ledger.{Ledger, Chunk, ChannelHistory, layout_at, current, chunk_named, is_live, is_in_transit}
use Rattle.cal_transport.specs.Step.{front, slot_of, slot_named}
use Rattle.cal_transport.specs.Soundness.{HasSizes, weight}
use Rattle.cal_transport.specs.ChunkEntry.{LeadsToEntry}
use Rattle.cal_transport.specs.Weights.{live_in, one_if}
use Rattle.cal_transport.specs.Core.{Core, ActiveSegment}
use Rattle.cal_transport.specs.Shown.{is_active, ShowsSegment, ShowsActive, Shows, Tracks, pointer_to, pointer_of, pointer_named, entry_of}
use Rattle.cal_transport.proofs.Names.{is_in_transit-weight}
use Rattle.cal_transport.proofs.Steps.{find_first}
use Rattle.cal_transport.proofs.Settled.{IsSettled}
use Rattle.cal_transport.proofs.Totals.{total_least}
use Rattle.cal_transport.proofs.Kept.{active_is}

-- ---- where a chunk lies

-- the buckets of a chunk's segment can be had
pub sizes_of : (l : Ledger) → IsSettled l → (i : ℕ) (chunk : Chunk) → slice_get l.chunks i ≡ Some chunk →
    HasSizes (layout_at l chunk.segment)
sizes_of l s i chunk there =
    let none : SegmentLayout = record { size = 0; alignment = 0; count = 0 } in
    s.segments.sizes chunk.segment (layout_at l chunk.segment)
    (slice_get-get_or l.segments chunk.segment none (s.within i chunk there).segment)

-- a chunk's pointer tells its segment and its bucket's place
pub record IsPointer (l : Ledger) (chunk : Chunk) (pointer : ℕ) : Type 0 where
  pub segment : segment_of pointer ≡ chunk.segment
  pub offset : offset_of pointer ≡ chunk.bucket * (layout_at l chunk.segment).size
  pub small : chunk.segment < 256
  pub size : 1 ≤ (layout_at l chunk.segment).size
  pub bucket : chunk.bucket < (layout_at l chunk.segment).count

pub is_pointer : (l : Ledger) → IsSettled l → (i : ℕ) (chunk : Chunk) → slice_get l.chunks i ≡ Some chunk →
    IsPointer l chunk (pointer_to l chunk)
is_pointer l s i chunk there =
    let within = s.within i chunk there in
    let inside = within.segment in
    let few = s.segments.few in
    let sizes = sizes_of l s i chunk there in
    record {
      segment = omega arith;
      offset = omega arith;
      small = omega arith;
      size = sizes.not_empty;
      bucket = within.bucket;
    }

-- the bucket that a pointer's offset lies in
pub pointed_bucket : (l : Ledger) (chunk : Chunk) (pointer size : ℕ) → IsPointer l chunk pointer →
    size ≡ (layout_at l chunk.segment).size → offset_of pointer / size ≡ chunk.bucket
pointed_bucket l chunk pointer size p is =
    ap (λ n. offset_of pointer / n) is ∙ ap (λ n. n / (layout_at l chunk.segment).size) p.offset
    ∙ mul-div_cancel chunk.bucket p.size

-- ---- names

pub named : (l : Ledger) → IsSettled l → (i : ℕ) (chunk : Chunk) → slice_get l.chunks i ≡ Some chunk →
    chunk_named l chunk.name ≡ Some chunk
named l s i chunk there =
    find_first l.chunks i chunk there (λ j d stands apart. s.names j i d chunk stands there apart)

-- ---- the front of a queue

pub record IsFront (l : Ledger) (h : ChannelHistory) (names : List ℕ) (pointer : ℕ) : Type 0 where
  pub index : ℕ
  pub chunk : Chunk
  pub rest : List ℕ
  pub stands : slice_get l.chunks index ≡ Some chunk
  pub names_are : names ≡ chunk.name ∷ rest
  pub pointer_is : pointer ≡ pointer_to l chunk
  pub transit : is_in_transit h chunk.name ≡ true
  pub within_segments : chunk.segment < l.settings.segments
  pub within_samples : chunk.bucket < l.settings.samples

pub front_of : (l : Ledger) → IsSettled l → (k : ℕ) (h : ChannelHistory) (names values : List ℕ) (pointer : ℕ) →
    slice_get l.histories k ≡ Some h → values ≡ map (pointer_named l) names → slice_get values 0 ≡ Some pointer →
    ((name : ℕ) (rest : List ℕ) → names ≡ name ∷ rest → 0 < weight h name) → IsFront l h names pointer
front_of l s k h [] values pointer here is first weighs =
    absurd (none-some pointer (sym (ap (λ vs. slice_get vs 0) is) ∙ first))
front_of l s k h (name ∷ rest) values pointer here is first weighs =
    let heavy = weighs name rest refl in
    let known = s.known k h name here heavy in
    let at : chunk_named l name ≡ Some known.chunk =
    subst (λ n. chunk_named l n ≡ Some known.chunk) known.same_name (named l s known.index known.chunk known.stands) in
    record {
      index = known.index;
      chunk = known.chunk;
      rest = rest;
      stands = known.stands;
      names_are = ap (λ n. n ∷ rest) (sym known.same_name);
      pointer_is = sym (same_Some (pointer_named l name) pointer (sym (ap (λ vs. slice_get vs 0) is) ∙ first))
          ∙ ap (pointer_of l) at;
      transit = is_in_transit-weight h known.chunk.name
          ∙ lt-ltb 0 (weight h known.chunk.name) (subst (λ n. 0 < weight h n) (sym known.same_name) heavy);
      within_segments = known.segment;
      within_samples = known.bucket;
    }

-- an empty queue gives none
pub no_front : (l : Ledger) (names values : List ℕ) → values ≡ map (pointer_named l) names →
    slice_get values 0 ≡ None → names ≡ []
no_front l [] values is first = refl
no_front l (name ∷ rest) values is first =
    absurd (none-some (pointer_named l name) (sym first ∙ ap (λ vs. slice_get vs 0) is))

-- ---- what the parts have of a live chunk

-- a live chunk's segment is one that the memory has
pub record HasSegment (p : Core) (l : Ledger) (segment : ℕ) : Type 0 where
  pub shown : ActiveSegment
  pub has : p.active segment ≡ Some shown
  pub shows : ShowsSegment l segment shown

pub has_segment : (p : Core) (l : Ledger) (segment : ℕ) → Shows p l → is_active l segment ≡ true →
    HasSegment p l segment
has_segment p l segment shows active = go (p.active segment) refl (shows.active segment)
  where
    go : (o : Option ActiveSegment) → p.active segment ≡ o → ShowsActive l segment o → HasSegment p l segment
    go None is inactive = absurd (true≢false (sym active ∙ inactive))
    go (Some shown) is s = record { shown = shown; has = is; shows = s.1 }

-- the entry at a chunk's place
pub entry_at : (p : Core) (l : Ledger) (i : ℕ) (chunk : Chunk) → Shows p l → slice_get l.chunks i ≡ Some chunk →
    slice_get p.entries i ≡ Some (entry_of l.histories chunk)
entry_at p l i chunk shows there =
    ap (λ es. slice_get es i) shows.entries ∙ slice_get-map (entry_of l.histories) l.chunks i
    ∙ ap (option_map (entry_of l.histories)) there

-- the bucket of a live chunk leads to its entry
pub leads : (p : Core) (l : Ledger) (i : ℕ) (chunk : Chunk) → Shows p l → Tracks p l →
    slice_get l.chunks i ≡ Some chunk → is_live l chunk ≡ true →
    LeadsToEntry p.entries (p.owners chunk.segment) chunk.bucket
leads p l i chunk shows tracks there alive = record {
  index = i;
  entry = entry_of l.histories chunk;
  owner = tracks.owners i chunk there alive;
  stands = entry_at p l i chunk shows there;
}

-- and to no other
pub led : (p : Core) (l : Ledger) (i : ℕ) (chunk : Chunk) (index : ℕ) (entry : ChunkEntry) → Shows p l → Tracks p l →
    slice_get l.chunks i ≡ Some chunk → is_live l chunk ≡ true →
    slice_get (p.owners chunk.segment) chunk.bucket ≡ Some index → slice_get p.entries index ≡ Some entry →
    (index ≡ i) × (entry ≡ entry_of l.histories chunk)
led p l i chunk index entry shows tracks there alive owner stands =
    let same = same_Some index i (sym owner ∙ tracks.owners i chunk there alive) in (
      same,
      same_Some entry (entry_of l.histories chunk)
          (sym stands ∙ ap (slice_get p.entries) same ∙ entry_at p l i chunk shows there),
    )

-- where the chunk of a name lies
pub slot_at : (l : Ledger) → IsSettled l → (i : ℕ) (chunk : Chunk) (names rest : List ℕ) (pointer : ℕ) →
    slice_get l.chunks i ≡ Some chunk → names ≡ chunk.name ∷ rest → pointer ≡ pointer_to l chunk →
    slot_named l (front names)
    ≡ Some (record { chunk = chunk.name; segment = segment_of pointer; place = offset_of pointer })
slot_at l s i chunk names rest pointer there names_are is =
    let p = is_pointer l s i chunk there in
    let slot : ℕ → ℕ → Option Slot = λ segment place. Some (record {
      chunk = chunk.name;
      segment = segment;
      place = place;
    }) in
    ap (λ ns. slot_named l (front ns)) names_are ∙ ap (option_map (slot_of l)) (named l s i chunk there)
    ∙ ap (λ n. slot n (chunk.bucket * (layout_at l chunk.segment).size)) (sym p.segment ∙ ap segment_of (sym is))
    ∙ ap (slot (segment_of pointer)) (sym p.offset ∙ ap offset_of (sym is))

-- a live chunk's segment is active
pub alive_active : (l : Ledger) → IsSettled l → (i : ℕ) (chunk : Chunk) → slice_get l.chunks i ≡ Some chunk →
    is_live l chunk ≡ true → is_active l chunk.segment ≡ true
alive_active l s i chunk there alive =
    let within = (s.within i chunk there).segment in
    let least = total_least (λ d. one_if (nat_eq d.segment chunk.segment && is_live l d)) l.chunks i chunk there in
    let counts = ap (λ b. one_if (b && is_live l chunk)) (eq-eqb chunk.segment chunk.segment refl) ∙ ap one_if alive in
    active_is l chunk.segment
    ∙ and_from (nat_lt chunk.segment (length l.segments))
    (nat_eq chunk.segment (current l) || nat_lt 0 (live_in l chunk.segment))
    (lt-ltb chunk.segment (length l.segments) within)
    (or_right (nat_eq chunk.segment (current l)) (nat_lt 0 (live_in l chunk.segment))
    (lt-ltb 0 (live_in l chunk.segment) (omega arith)))
