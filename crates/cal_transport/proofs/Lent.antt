-- What the lists of lent buckets tell of the chunk that a name leads to.
use Rattle.std.proofs.Common.{ℕ, ◌+◌, ◌*◌, ◌<◌, ◌≡◌, Bool, true, false, ◌&&◌, nat_lt, Some, None, refl, sym, ap, ◌∙◌, subst}
use Rattle.std.specs.List.{slice_get, list_any}
use Rattle.std.proofs.lemmas.Bool.{true≢false, ltb-true, or_right}
use Rattle.std.proofs.lemmas.Option.{same_Some, none-some}
use Rattle.cal_queue.specs.UsedChunks.{contains}
use Rattle.cal_transport.specs.declared.transport.chunk_entry.ChunkEntry.{ChunkEntry}
use Rattle.cal_transport.specs.Ledger.{Ledger, Chunk, ChannelHistory, chunk_named, is_in_transit, is_borrowed}
use Rattle.cal_transport.specs.Soundness.{weight}
use Rattle.cal_transport.specs.Weights.{transits, one_if}
use Rattle.cal_transport.specs.Core.{Core}
use Rattle.cal_transport.specs.Shown.{Shows, Tracks}
use Rattle.cal_transport.proofs.Changed.{live_is, borrowed_transits}
use Rattle.cal_transport.proofs.Following.{Passes, any_at, any_from}
use Rattle.cal_transport.proofs.Totals.{any_total, one_tells}
use Rattle.cal_transport.proofs.Names.{is_in_transit-weight}
use Rattle.cal_transport.proofs.Marks.{own_borrowed}
use Rattle.cal_transport.proofs.Settled.{IsSettled}
use Rattle.cal_transport.proofs.Fronts.{named}
use Rattle.cal_transport.proofs.Finding.{IsChunk}

-- a name that no chunk has isn't borrowed
pub unknown_unborrowed : (l : Ledger) → IsSettled l → (k : ℕ) (h : ChannelHistory) → slice_get l.histories k ≡ Some h →
    (name : ℕ) → chunk_named l name ≡ None → is_borrowed h name ≡ false
unknown_unborrowed l s k h here name none = go (is_borrowed h name) refl
  where
    go : (b : Bool) → is_borrowed h name ≡ b → is_borrowed h name ≡ false
    go false e = e
    go true e =
        let heavy = ltb-true 0 (weight h name)
        (sym (is_in_transit-weight h name) ∙ borrowed_transits h name e) in
        let known = s.known k h name here heavy in
        absurd (none-some known.chunk (sym none ∙ subst (λ n. chunk_named l n ≡ Some known.chunk) known.same_name
        (named l s known.index known.chunk known.stands)))

-- a chunk is in transit somewhere where its entry counts it
transits_tell : (l : Ledger) (chunk : Chunk) →
    list_any (λ h. is_in_transit h chunk.name) l.histories ≡ nat_lt 0 (transits l.histories chunk.name)
transits_tell l chunk = any_total (λ h. is_in_transit h chunk.name) (λ h. one_if (is_in_transit h chunk.name))
    l.histories (λ h. one_tells (is_in_transit h chunk.name))

-- the connection can name a chunk that is in transit
pub record IsNamable (l : Ledger) (chunk : Chunk) : Type 0 where
  pub segment : chunk.segment < l.settings.segments
  pub bucket : chunk.bucket < l.settings.samples

pub namable : (l : Ledger) → IsSettled l → (i : ℕ) (chunk : Chunk) → slice_get l.chunks i ≡ Some chunk →
    nat_lt 0 (transits l.histories chunk.name) ≡ true → IsNamable l chunk
namable l s i chunk there some = go (any_at (λ h. is_in_transit h chunk.name) l.histories (transits_tell l chunk ∙
    some))
  where
    go : Passes (λ h. is_in_transit h chunk.name) l.histories → IsNamable l chunk
    go p =
        let heavy = ltb-true 0 (weight p.element chunk.name)
        (sym (is_in_transit-weight p.element chunk.name) ∙ p.passes) in
        let known = s.known p.index p.element chunk.name p.stands heavy in
        let same = same_Some known.chunk chunk (sym (subst (λ n. chunk_named l n ≡ Some known.chunk) known.same_name
        (named l s known.index known.chunk known.stands)) ∙ named l s i chunk there) in
        record {
          segment = subst (λ (d : Chunk). d.segment < l.settings.segments) same known.segment;
          bucket = subst (λ (d : Chunk). d.bucket < l.settings.samples) same known.bucket;
        }

-- the marks tell of a chunk that is in transit whether it is borrowed from a channel; no other chunk is
pub lent_tells : (p : Core) (l : Ledger) → IsSettled l → Tracks p l → (k : ℕ) (h : ChannelHistory) →
    slice_get l.histories k ≡ Some h → (i : ℕ) (chunk : Chunk) → slice_get l.chunks i ≡ Some chunk →
    (nat_lt 0 (transits l.histories chunk.name)
    && contains (p.lent k) (chunk.segment * l.settings.samples + chunk.bucket)) ≡ is_borrowed h chunk.name
lent_tells p l s tracks k h here i chunk there = go (nat_lt 0 (transits l.histories chunk.name)) refl
  where
    mark : Bool
    mark = contains (p.lent k) (chunk.segment * l.settings.samples + chunk.bucket)

    unborrowed : nat_lt 0 (transits l.histories chunk.name) ≡ false → (c : Bool) → is_borrowed h chunk.name ≡ c →
        false ≡ is_borrowed h chunk.name
    unborrowed none false e = sym e
    unborrowed none true e = absurd (true≢false (sym (any_from (λ c. is_in_transit c chunk.name) l.histories k h here
        (borrowed_transits h chunk.name e)) ∙ transits_tell l chunk ∙ none))

    go : (b : Bool) → nat_lt 0 (transits l.histories chunk.name) ≡ b →
        (nat_lt 0 (transits l.histories chunk.name) && mark) ≡ is_borrowed h chunk.name
    go true e =
        let n = namable l s i chunk there e in
        let alive = live_is l chunk ∙ or_right chunk.loaned (nat_lt 0 (transits l.histories chunk.name)) e in
        ap (λ b. b && mark) e
        ∙ (tracks.channels k h here).lent chunk.segment chunk.bucket n.segment n.bucket
        ∙ own_borrowed l s k h here i chunk there alive
    go false e = ap (λ b. b && mark) e ∙ unborrowed e (is_borrowed h chunk.name) refl

-- of the entry that was found
pub found_tells : (p : Core) (l : Ledger) → IsSettled l → Shows p l → Tracks p l → (k : ℕ) (h : ChannelHistory) →
    slice_get l.histories k ≡ Some h → (name index : ℕ) (entry : ChunkEntry) → IsChunk l name index entry →
    (nat_lt 0 entry.transits && contains (p.lent k) (entry.segment * p.settings.samples + entry.bucket))
    ≡ is_borrowed h name
found_tells p l s shows tracks k h here name index entry c =
    ap (λ (e : ChunkEntry). nat_lt 0 e.transits && contains (p.lent k) (e.segment * p.settings.samples + e.bucket))
    c.entry_is
    ∙ ap (λ n. nat_lt 0 (transits l.histories c.chunk.name)
    && contains (p.lent k) (c.chunk.segment * n + c.chunk.bucket)) (ap (λ t. t.samples) shows.settings)
    ∙ lent_tells p l s tracks k h here index c.chunk c.stands ∙ ap (is_borrowed h) c.same_name
