-- One chunk and the history of one channel change, and nothing else: what that does to tests and sums over a ledger.
use Rattle.std.proofs.Common.{ℕ, ◌+◌, ◌≡◌, ◌≢◌, Bool, true, false, cond, not, ◌&&◌, ◌||◌, nat_eq, nat_lt, length, set, Option, Some, option_to_list, inl, inr, refl, sym, ap, ◌∙◌, arith}
use Rattle.std.specs.List.{slice_get, list_any}
use Rattle.std.proofs.lemmas.Bool.{true≢false, cases_Bool, false_from_ne_true, and_parts, and_left, or_left, or_right, eqb-true}
use Rattle.cal_transport.specs.Ledger.{Ledger, Chunk, ChannelHistory, is_live, is_free, is_unused, is_mapped, is_in_transit, is_borrowed, is_borrowed_anywhere, live_chunks, has_name, queued_names, completed_names}
use Rattle.cal_transport.specs.Weights.{one_if, transits, borrows, lies_in, holds, live_in, borrowed_in, transits_on, transits_in}
use Rattle.cal_transport.proofs.Lists.{slice_get-set_same, slice_get-set_else}
use Rattle.cal_transport.proofs.Following.{any_from}
use Rattle.cal_transport.proofs.Settled.{IsSettled}
use Rattle.cal_transport.proofs.Totals.{not-not, any_set, any_alone, any_filter, total_set, any_total, one_tells}

-- the channel and the chunk that change
pub record Change : Type 0 where
  pub channel : ℕ
  pub index : ℕ
  pub old_history : ChannelHistory
  pub new_history : ChannelHistory
  pub old_chunk : Chunk
  pub new_chunk : Chunk
  pub opened_last : Option ℕ

abbrev pub changed : Ledger → Change → Ledger
changed l x = record l {
  chunks = set l.chunks x.index x.new_chunk;
  histories = set l.histories x.channel x.new_history;
  opened_last = x.opened_last;
}

-- the chunk stays in its bucket, and no other name's way changes
pub record Changes (l : Ledger) (x : Change) : Type 0 where
  pub settled : IsSettled l
  pub here : slice_get l.histories x.channel ≡ Some x.old_history
  pub stands : slice_get l.chunks x.index ≡ Some x.old_chunk
  pub name : x.new_chunk.name ≡ x.old_chunk.name
  pub segment : x.new_chunk.segment ≡ x.old_chunk.segment
  pub bucket : x.new_chunk.bucket ≡ x.old_chunk.bucket
  pub long : length x.new_chunk.bytes ≡ length x.old_chunk.bytes
  pub transit_else : (name : ℕ) → name ≢ x.old_chunk.name →
      is_in_transit x.new_history name ≡ is_in_transit x.old_history name
  pub borrowed_else : (name : ℕ) → name ≢ x.old_chunk.name →
      is_borrowed x.new_history name ≡ is_borrowed x.old_history name

-- ---- tests over all ledgers

-- a chunk is live where it is loaned or in transit on some channel
pub live_is : (l : Ledger) (chunk : Chunk) →
    is_live l chunk ≡ (chunk.loaned || nat_lt 0 (transits l.histories chunk.name))
live_is l chunk =
    ap (λ b. chunk.loaned || b)
    (any_total (λ h. is_in_transit h chunk.name) (λ h. one_if (is_in_transit h chunk.name)) l.histories
    (λ h. one_tells (is_in_transit h chunk.name)))

-- a chunk in transit on a channel is live
pub transit_lives : (l : Ledger) (k : ℕ) (h : ChannelHistory) (chunk : Chunk) → slice_get l.histories k ≡ Some h →
    is_in_transit h chunk.name ≡ true → is_live l chunk ≡ true
transit_lives l k h chunk here transit = or_right chunk.loaned (list_any (λ c. is_in_transit c chunk.name) l.histories)
    (any_from (λ c. is_in_transit c chunk.name) l.histories k h here transit)

-- a borrowed chunk is in transit
pub borrowed_transits : (h : ChannelHistory) (name : ℕ) → is_borrowed h name ≡ true → is_in_transit h name ≡ true
borrowed_transits h name borrowed =
    or_left (has_name name (queued_names h) || is_borrowed h name) (has_name name (completed_names h))
    (or_right (has_name name (queued_names h)) (is_borrowed h name) borrowed)

-- a bucket is used where it has a live chunk
pub used_is : (l : Ledger) (segment bucket : ℕ) →
    not (is_free l segment bucket) ≡ holds (is_live l) l.chunks segment bucket
used_is l segment bucket =
    not-not (list_any (lies_in segment bucket) (live_chunks l)) ∙ any_filter (lies_in segment bucket) (is_live l)
    l.chunks

-- a segment is unused where it has no live chunk
pub in_use_is : (l : Ledger) (segment : ℕ) → not (is_unused l segment) ≡ nat_lt 0 (live_in l segment)
in_use_is l segment =
    not-not (list_any (λ c. nat_eq c.segment segment) (live_chunks l))
    ∙ any_filter (λ c. nat_eq c.segment segment) (is_live l) l.chunks
    ∙ any_total (λ c. nat_eq c.segment segment && is_live l c) (λ c. one_if (nat_eq c.segment segment && is_live l c))
    l.chunks (λ c. one_tells (nat_eq c.segment segment && is_live l c))

-- a segment is mapped where the view opened it last, or a chunk of it is borrowed
pub mapped_is : (l : Ledger) (segment : ℕ) →
    is_mapped l segment ≡ (has_name segment (option_to_list l.opened_last) || nat_lt 0 (borrowed_in l segment))
mapped_is l segment =
    ap (λ b. has_name segment (option_to_list l.opened_last) || b)
    (any_total (λ c. nat_eq c.segment segment && is_borrowed_anywhere l c)
    (λ c. cond (nat_eq c.segment segment) (borrows l.histories c.name) 0) l.chunks
    (λ c. tells (nat_eq c.segment segment) c))
  where
    tells : (b : Bool) (c : Chunk) →
        (b && is_borrowed_anywhere l c) ≡ nat_lt 0 (cond b (borrows l.histories c.name) 0)
    tells true c =
        any_total (λ h. is_borrowed h c.name) (λ h. one_if (is_borrowed h c.name)) l.histories
        (λ h. one_tells (is_borrowed h c.name))
    tells false c = refl

-- what lies in a bucket
pub lies_there : (segment bucket : ℕ) (chunk : Chunk) → lies_in segment bucket chunk ≡ true →
    (chunk.segment ≡ segment) × (chunk.bucket ≡ bucket)
lies_there segment bucket chunk e =
    let parts = and_parts (nat_eq chunk.segment segment) (nat_eq chunk.bucket bucket) e in
    (eqb-true chunk.segment segment parts.0, eqb-true chunk.bucket bucket parts.1)

-- ---- one change

module _ (l : Ledger) (x : Change) (c : Changes l x) where
  abbrev after : Ledger
  after = changed l x

  pub other_name : (j : ℕ) (d : Chunk) → j ≢ x.index → slice_get l.chunks j ≡ Some d → d.name ≢ x.old_chunk.name
  other_name j d apart there = c.settled.names j x.index d x.old_chunk there c.stands apart

  -- on how many channels another chunk is in transit and borrowed
  pub transits_else : (name : ℕ) → name ≢ x.old_chunk.name → transits after.histories name ≡ transits l.histories name
  transits_else name apart =
      let same = ap one_if (c.transit_else name apart) in
      let sums = total_set (λ h. one_if (is_in_transit h name)) (λ h. one_if (is_in_transit h name)) l.histories
      x.channel
      x.old_history x.new_history c.here (λ j z elsewhere there. refl) in omega arith

  pub transits_here :
      transits after.histories x.old_chunk.name + one_if (is_in_transit x.old_history x.old_chunk.name)
      ≡ transits l.histories x.old_chunk.name + one_if (is_in_transit x.new_history x.old_chunk.name)
  transits_here =
      total_set (λ h. one_if (is_in_transit h x.old_chunk.name)) (λ h. one_if (is_in_transit h x.old_chunk.name))
      l.histories x.channel x.old_history x.new_history c.here (λ j z elsewhere there. refl)

  pub borrows_else : (name : ℕ) → name ≢ x.old_chunk.name → borrows after.histories name ≡ borrows l.histories name
  borrows_else name apart =
      let same = ap one_if (c.borrowed_else name apart) in
      let sums = total_set (λ h. one_if (is_borrowed h name)) (λ h. one_if (is_borrowed h name)) l.histories x.channel
      x.old_history x.new_history c.here (λ j z elsewhere there. refl) in omega arith

  pub borrows_here :
      borrows after.histories x.old_chunk.name + one_if (is_borrowed x.old_history x.old_chunk.name)
      ≡ borrows l.histories x.old_chunk.name + one_if (is_borrowed x.new_history x.old_chunk.name)
  borrows_here =
      total_set (λ h. one_if (is_borrowed h x.old_chunk.name)) (λ h. one_if (is_borrowed h x.old_chunk.name))
      l.histories x.channel x.old_history x.new_history c.here (λ j z elsewhere there. refl)

  -- another chunk is live where it was
  pub live_else : (j : ℕ) (d : Chunk) → j ≢ x.index → slice_get l.chunks j ≡ Some d → is_live after d ≡ is_live l d
  live_else j d apart there =
      live_is after d ∙ ap (λ n. d.loaned || nat_lt 0 n) (transits_else d.name (other_name j d apart there))
      ∙ sym (live_is l d)

  -- a chunk of the later ledger at another place stood there
  pub stood : (j : ℕ) (d : Chunk) → j ≢ x.index → slice_get after.chunks j ≡ Some d → slice_get l.chunks j ≡ Some d
  stood j d apart there = sym (slice_get-set_else l.chunks x.index j x.new_chunk apart) ∙ there

  pub stands_after : slice_get after.chunks x.index ≡ Some x.new_chunk
  stands_after = slice_get-set_same l.chunks x.index x.old_chunk x.new_chunk c.stands

  pub here_after : slice_get after.histories x.channel ≡ Some x.new_history
  here_after = slice_get-set_same l.histories x.channel x.old_history x.new_history c.here

  lies_after : (segment bucket : ℕ) → lies_in segment bucket x.new_chunk ≡ lies_in segment bucket x.old_chunk
  lies_after segment bucket =
      ap (λ n. nat_eq n segment && nat_eq x.new_chunk.bucket bucket) c.segment
      ∙ ap (λ n. nat_eq x.old_chunk.segment segment && nat_eq n bucket) c.bucket

  -- in the bucket of a live chunk no other chunk is live
  pub others_dead : (j : ℕ) (d : Chunk) → is_live l x.old_chunk ≡ true → j ≢ x.index → slice_get l.chunks j ≡ Some d →
      lies_in x.old_chunk.segment x.old_chunk.bucket d ≡ true → is_live l d ≡ false
  others_dead j d alive apart there inside =
      let at = lies_there x.old_chunk.segment x.old_chunk.bucket d inside in
      false_from_ne_true (is_live l d) (λ living. apart (c.settled.apart j x.index d x.old_chunk there c.stands living
      alive (record { segment = at.0; bucket = at.1 })))

  -- ---- marks of buckets

  -- a test of chunks that only live ones pass, and a later one that agrees on all other chunks
  pub record Marks (p p' : Chunk → Bool) : Type 0 where
    pub alive : is_live l x.old_chunk ≡ true
    pub lives : (j : ℕ) (d : Chunk) → slice_get l.chunks j ≡ Some d → p d ≡ true → is_live l d ≡ true
    pub agree : (j : ℕ) (d : Chunk) → j ≢ x.index → slice_get l.chunks j ≡ Some d → p' d ≡ p d

  -- in another bucket nothing changes
  marks_else : (p p' : Chunk → Bool) (segment bucket : ℕ) → Marks p p' →
      lies_in segment bucket x.old_chunk ≡ false → holds p' after.chunks segment bucket ≡ holds p l.chunks segment
      bucket
  marks_else p p' segment bucket m outside =
      any_set (λ d. lies_in segment bucket d && p d) (λ d. lies_in segment bucket d && p' d) l.chunks x.index
      x.old_chunk
      x.new_chunk c.stands
      (and_left (lies_in segment bucket x.new_chunk) (p' x.new_chunk) (lies_after segment bucket ∙ outside)
      ∙ sym (and_left (lies_in segment bucket x.old_chunk) (p x.old_chunk) outside))
      (λ j d apart there. ap (λ b. lies_in segment bucket d && b) (m.agree j d apart there))

  -- in the chunk's own bucket the chunk alone counts
  marks_here : (p p' : Chunk → Bool) (segment bucket : ℕ) → Marks p p' →
      lies_in segment bucket x.old_chunk ≡ true → holds p' after.chunks segment bucket ≡ p' x.new_chunk
  marks_here p p' segment bucket m inside =
      any_alone (λ d. lies_in segment bucket d && p' d) after.chunks x.index x.new_chunk stands_after
      (λ j d apart there. dead j d apart (stood j d apart there))
      ∙ ap (λ b. b && p' x.new_chunk) (lies_after segment bucket ∙ inside)
    where
      at : (x.old_chunk.segment ≡ segment) × (x.old_chunk.bucket ≡ bucket)
      at = lies_there segment bucket x.old_chunk inside

      dead : (j : ℕ) (d : Chunk) → j ≢ x.index → slice_get l.chunks j ≡ Some d →
          (lies_in segment bucket d && p' d) ≡ false
      dead j d apart there = elim (cases_Bool (lies_in segment bucket d)) [
        | inl there_too ↦
            let same : lies_in x.old_chunk.segment x.old_chunk.bucket d ≡ true =
            ap (λ n. nat_eq d.segment n && nat_eq d.bucket x.old_chunk.bucket) at.0
            ∙ ap (λ n. nat_eq d.segment segment && nat_eq d.bucket n) at.1 ∙ there_too in
            let none : p d ≡ false = false_from_ne_true (p d) (λ passes. true≢false
            (sym (m.lives j d there passes) ∙ others_dead j d m.alive apart there same)) in
            ap (λ b. lies_in segment bucket d && b) (m.agree j d apart there ∙ none)
            ∙ ap (λ b. b && false) there_too
        | inr elsewhere ↦ and_left (lies_in segment bucket d) (p' d) elsewhere
      ]

  -- a mark that was right is right where it is kept in other buckets, and told by the chunk in its own
  pub mark_right : (p p' : Chunk → Bool) (segment bucket : ℕ) (was now : Bool) → Marks p p' →
      was ≡ holds p l.chunks segment bucket →
      (lies_in segment bucket x.old_chunk ≡ false → now ≡ was) →
      (lies_in segment bucket x.old_chunk ≡ true → now ≡ p' x.new_chunk) →
      now ≡ holds p' after.chunks segment bucket
  mark_right p p' segment bucket was now m right else here = elim (cases_Bool (lies_in segment bucket x.old_chunk)) [
    | inl inside ↦ here inside ∙ sym (marks_here p p' segment bucket m inside)
    | inr outside ↦ else outside ∙ right ∙ sym (marks_else p p' segment bucket m outside)
  ]

  -- where no chunk's test changes, no mark does
  pub marks_same : (p p' : Chunk → Bool) (segment bucket : ℕ) →
      ((j : ℕ) (d : Chunk) → j ≢ x.index → slice_get l.chunks j ≡ Some d → p' d ≡ p d) →
      p' x.new_chunk ≡ p x.old_chunk → holds p' after.chunks segment bucket ≡ holds p l.chunks segment bucket
  marks_same p p' segment bucket agree same =
      any_set (λ d. lies_in segment bucket d && p d) (λ d. lies_in segment bucket d && p' d) l.chunks x.index
      x.old_chunk
      x.new_chunk c.stands
      (ap (λ b. b && p' x.new_chunk) (lies_after segment bucket)
      ∙ ap (λ b. lies_in segment bucket x.old_chunk && b) same)
      (λ j d apart there. ap (λ b. lies_in segment bucket d && b) (agree j d apart there))

  -- the tests of live chunks, of those in transit on the channel and of those borrowed there
  pub marks_live : is_live l x.old_chunk ≡ true → Marks (is_live l) (is_live after)
  marks_live alive = record { alive = alive; lives = λ j d there passes. passes; agree = live_else }

  pub marks_transit : is_live l x.old_chunk ≡ true →
      Marks (λ d. is_in_transit x.old_history d.name) (λ d. is_in_transit x.new_history d.name)
  marks_transit alive = record {
    alive = alive;
    lives = λ j d there passes. transit_lives l x.channel x.old_history d c.here passes;
    agree = λ j d apart there. c.transit_else d.name (other_name j d apart there);
  }

  pub marks_borrowed : is_live l x.old_chunk ≡ true →
      Marks (λ d. is_borrowed x.old_history d.name) (λ d. is_borrowed x.new_history d.name)
  marks_borrowed alive = record {
    alive = alive;
    lives = λ j d there passes. transit_lives l x.channel x.old_history d c.here
        (borrowed_transits x.old_history d.name passes);
    agree = λ j d apart there. c.borrowed_else d.name (other_name j d apart there);
  }

  -- ---- sums

  pub live_in-after : (segment : ℕ) →
      live_in after segment + one_if (nat_eq x.old_chunk.segment segment && is_live l x.old_chunk)
      ≡ live_in l segment + one_if (nat_eq x.new_chunk.segment segment && is_live after x.new_chunk)
  live_in-after segment =
      total_set (λ d. one_if (nat_eq d.segment segment && is_live l d))
      (λ d. one_if (nat_eq d.segment segment && is_live after d)) l.chunks x.index x.old_chunk x.new_chunk c.stands
      (λ j d apart there. ap (λ b. one_if (nat_eq d.segment segment && b)) (live_else j d apart there))

  pub borrowed_in-after : (segment : ℕ) →
      borrowed_in after segment + cond (nat_eq x.old_chunk.segment segment) (borrows l.histories x.old_chunk.name) 0
      ≡ borrowed_in l segment + cond (nat_eq x.new_chunk.segment segment) (borrows after.histories x.new_chunk.name) 0
  borrowed_in-after segment =
      total_set (λ d. cond (nat_eq d.segment segment) (borrows l.histories d.name) 0)
      (λ d. cond (nat_eq d.segment segment) (borrows after.histories d.name) 0) l.chunks x.index x.old_chunk x.new_chunk
      c.stands
      (λ j d apart there. ap (λ n. cond (nat_eq d.segment segment) n 0)
      (borrows_else d.name (other_name j d apart there)))

  pub transits_on-after :
      transits_on x.new_history after.chunks + one_if (is_in_transit x.old_history x.old_chunk.name)
      ≡ transits_on x.old_history l.chunks + one_if (is_in_transit x.new_history x.new_chunk.name)
  transits_on-after =
      total_set (λ d. one_if (is_in_transit x.old_history d.name)) (λ d. one_if (is_in_transit x.new_history d.name))
      l.chunks x.index x.old_chunk x.new_chunk c.stands
      (λ j d apart there. ap one_if (c.transit_else d.name (other_name j d apart there)))

  -- on another channel
  pub transits_on-else : (history : ChannelHistory) → transits_on history after.chunks ≡ transits_on history l.chunks
  transits_on-else history =
      let same = ap (λ n. one_if (is_in_transit history n)) c.name in
      let sums = total_set (λ d. one_if (is_in_transit history d.name)) (λ d. one_if (is_in_transit history d.name))
      l.chunks x.index x.old_chunk x.new_chunk c.stands (λ j d apart there. refl) in omega arith

  pub transits_in-after :
      transits_in after + transits l.histories x.old_chunk.name
      ≡ transits_in l + transits after.histories x.new_chunk.name
  transits_in-after =
      total_set (λ d. transits l.histories d.name) (λ d. transits after.histories d.name) l.chunks x.index x.old_chunk
      x.new_chunk c.stands (λ j d apart there. transits_else d.name (other_name j d apart there))
