-- The numbers by which the buckets of all segments stand in one list, and marks that are there.
use Rattle.std.proofs.Common.{ℕ, ◌+◌, ◌*◌, ◌/◌, ◌%◌, ◌<◌, ◌≡◌, ◌≢◌, Bool, true, false, nat_eq, ◌&&◌, Some, refl, sym, ap, ◌∙◌, subst, mul_comm}
use Rattle.std.specs.List.{slice_get}
use Rattle.std.proofs.lemmas.Bool.{true≢false, and_from, and_parts, false_from_ne_true, eq-eqb}
use Rattle.std.proofs.lemmas.Nat.{mul-add-lt, div-mul-add, mod-mul-add}
use Rattle.cal_transport.specs.Ledger.{Ledger, Chunk, ChannelHistory, is_live, is_in_transit, is_borrowed}
use Rattle.cal_transport.specs.Weights.{lies_in, holds}
use Rattle.cal_transport.proofs.Following.{any_from}
use Rattle.cal_transport.proofs.Totals.{any_alone}
use Rattle.cal_transport.proofs.Settled.{IsSettled}
use Rattle.cal_transport.proofs.Changed.{transit_lives, borrowed_transits, lies_there}

-- two buckets of one number are the same
pub same_mark : (samples segment bucket other there : ℕ) → bucket < samples → there < samples →
    segment * samples + bucket ≡ other * samples + there → (segment ≡ other) × (bucket ≡ there)
same_mark samples segment bucket other there below within same = (
  sym (div-mul-add segment samples bucket below) ∙ ap (λ n. n / samples) same ∙ div-mul-add other samples there within,
  sym (mod-mul-add segment samples bucket below) ∙ ap (λ n. n % samples) same ∙ mod-mul-add other samples there within,
)

-- another bucket has another number
pub other_mark : (samples segment bucket : ℕ) (chunk : Chunk) → bucket < samples → chunk.bucket < samples →
    lies_in segment bucket chunk ≡ false →
    segment * samples + bucket ≢ chunk.segment * samples + chunk.bucket
other_mark samples segment bucket chunk below within outside same =
    let at = same_mark samples segment bucket chunk.segment chunk.bucket below within same in
    true≢false (sym (and_from (nat_eq chunk.segment segment) (nat_eq chunk.bucket bucket)
    (eq-eqb chunk.segment segment (sym at.0)) (eq-eqb chunk.bucket bucket (sym at.1))) ∙ outside)

-- each number is below that of all buckets
pub mark_below : (segments samples segment bucket : ℕ) → segment < segments → bucket < samples →
    segment * samples + bucket < segments * samples
mark_below segments samples segment bucket inside below =
    subst (λ n. segment * samples + bucket < n) (mul_comm samples segments)
    (mul-add-lt segment samples bucket segments inside below)

-- a chunk that passes marks its bucket
pub holds_there : (test : Chunk → Bool) (l : Ledger) (i : ℕ) (chunk : Chunk) → slice_get l.chunks i ≡ Some chunk →
    test chunk ≡ true → holds test l.chunks chunk.segment chunk.bucket ≡ true
holds_there test l i chunk there passes =
    any_from (λ d. lies_in chunk.segment chunk.bucket d && test d) l.chunks i chunk there
    (and_from (lies_in chunk.segment chunk.bucket chunk) (test chunk)
    (and_from (nat_eq chunk.segment chunk.segment) (nat_eq chunk.bucket chunk.bucket)
    (eq-eqb chunk.segment chunk.segment refl) (eq-eqb chunk.bucket chunk.bucket refl))
    passes)

-- ---- a live chunk's own bucket

-- in its bucket a live chunk alone tells a test that only live chunks pass
pub own_mark : (l : Ledger) → IsSettled l → (test : Chunk → Bool) (i : ℕ) (chunk : Chunk) →
    slice_get l.chunks i ≡ Some chunk → is_live l chunk ≡ true →
    ((j : ℕ) (d : Chunk) → slice_get l.chunks j ≡ Some d → test d ≡ true → is_live l d ≡ true) →
    holds test l.chunks chunk.segment chunk.bucket ≡ test chunk
own_mark l s test i chunk there alive lives =
    any_alone (λ d. lies_in chunk.segment chunk.bucket d && test d) l.chunks i chunk there dead
    ∙ ap (λ b. b && test chunk)
    (and_from (nat_eq chunk.segment chunk.segment) (nat_eq chunk.bucket chunk.bucket)
    (eq-eqb chunk.segment chunk.segment refl) (eq-eqb chunk.bucket chunk.bucket refl))
  where
    dead : (j : ℕ) (d : Chunk) → j ≢ i → slice_get l.chunks j ≡ Some d →
        (lies_in chunk.segment chunk.bucket d && test d) ≡ false
    dead j d apart stands = false_from_ne_true (lies_in chunk.segment chunk.bucket d && test d) (λ both. (
        let parts = and_parts (lies_in chunk.segment chunk.bucket d) (test d) both in
        let at = lies_there chunk.segment chunk.bucket d parts.0 in
        apart (s.apart j i d chunk stands there (lives j d stands parts.1) alive
        (record { segment = at.0; bucket = at.1 }))))

pub own_transit : (l : Ledger) → IsSettled l → (k : ℕ) (h : ChannelHistory) → slice_get l.histories k ≡ Some h →
    (i : ℕ) (chunk : Chunk) → slice_get l.chunks i ≡ Some chunk → is_live l chunk ≡ true →
    holds (λ d. is_in_transit h d.name) l.chunks chunk.segment chunk.bucket ≡ is_in_transit h chunk.name
own_transit l s k h here i chunk there alive =
    own_mark l s (λ d. is_in_transit h d.name) i chunk there alive
    (λ j d stands passes. transit_lives l k h d here passes)

pub own_borrowed : (l : Ledger) → IsSettled l → (k : ℕ) (h : ChannelHistory) → slice_get l.histories k ≡ Some h →
    (i : ℕ) (chunk : Chunk) → slice_get l.chunks i ≡ Some chunk → is_live l chunk ≡ true →
    holds (λ d. is_borrowed h d.name) l.chunks chunk.segment chunk.bucket ≡ is_borrowed h chunk.name
own_borrowed l s k h here i chunk there alive =
    own_mark l s (λ d. is_borrowed h d.name) i chunk there alive
    (λ j d stands passes. transit_lives l k h d here (borrowed_transits h d.name passes))
