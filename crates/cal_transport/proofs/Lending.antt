-- A loan in a free bucket keeps the ledger sound.
use Rattle.std.proofs.Common.{ℕ, zero, suc, ◌+◌, ◌/◌, ◌%◌, ◌<◌, ◌≡◌, inl, inr, Bool, true, false, cond, ◌&&◌, nat_eq, nat_lt, List, [], ◌∷◌, ◌++◌, Some, refl, sym, ap, ◌∙◌, subst, arith}
use Rattle.std.specs.List.{slice_get, list_any, filter}
use Rattle.std.proofs.lemmas.Bool.{true≢false, not-true, ltb-true, eq-eqb, and_from, or_left, or_right}
use Rattle.std.proofs.lemmas.List.{length-replicate}
use Rattle.std.proofs.lemmas.Option.{same_Some, none-some, slice_get_within}
use Rattle.cal_transport.specs.declared.reply.Reply.{Reply}
use Rattle.cal_transport.specs.declared.reply.Reply.TheVariants.{Loaned, Written, Sent, Received, Shown, Released, Reclaimed, Discarded, Counted, Refused, Transit}
use Rattle.cal_transport.specs.Ledger.{Ledger, Chunk, layout_at, current, is_live, is_free}
use Rattle.cal_transport.specs.Step.{IsLoan, after_loan, new_chunk}
use Rattle.cal_transport.specs.Soundness.{LiesWithin, ShareBucket, IsSentChunk, IsSoundLedger}
use Rattle.cal_transport.proofs.Lists.{slice_get-append_old, old_or_new}

-- ---- free buckets

any_filtered : {A : Type 0} (p q : A → Bool) (xs : List A) (i : ℕ) (x : A) → slice_get xs i ≡ Some x → p x ≡ true →
    q x ≡ true → list_any p (filter q xs) ≡ true
any_filtered p q [] i x stands a b = absurd (none-some x stands)
any_filtered p q (y ∷ xs) zero x stands a b =
    let here = same_Some y x stands in
    ap (λ k. list_any p (cond k (y ∷ filter q xs) (filter q xs))) (ap q here ∙ b)
    ∙ or_left (p y) (list_any p (filter q xs)) (ap p here ∙ a)
any_filtered p q (y ∷ xs) (suc i) x stands a b = go (any_filtered p q xs i x stands a b) (q y) refl
  where
    go : list_any p (filter q xs) ≡ true → (k : Bool) → q y ≡ k →
        list_any p (cond (q y) (y ∷ filter q xs) (filter q xs)) ≡ true
    go rest true f = ap (λ m. list_any p (cond m (y ∷ filter q xs) (filter q xs))) f
        ∙ or_right (p y) (list_any p (filter q xs)) rest
    go rest false f = ap (λ m. list_any p (cond m (y ∷ filter q xs) (filter q xs))) f ∙ rest

-- no live chunk is in a free bucket
pub not_free : (l : Ledger) (segment bucket i : ℕ) (a : Chunk) → is_free l segment bucket ≡ true →
    slice_get l.chunks i ≡ Some a → is_live l a ≡ true → a.segment ≡ segment → a.bucket ≡ bucket → ⊥
not_free l segment bucket i a free stands alive same there =
    let p : Chunk → Bool = λ chunk. nat_eq chunk.segment segment && nat_eq chunk.bucket bucket in
    let found = any_filtered p (is_live l) l.chunks i a stands
    (and_from (nat_eq a.segment segment) (nat_eq a.bucket bucket) (eq-eqb a.segment segment same)
    (eq-eqb a.bucket bucket there)) alive in
    let none = not-true (list_any p (filter (is_live l) l.chunks)) free in
    true≢false (sym found ∙ none)

-- ---- the loan

module _ (l : Ledger) (place : ℕ) (bucket : ℕ) (sound : IsSoundLedger l place)
    (within : bucket < (layout_at l (current l)).count) (free : is_free l (current l) bucket ≡ true) where
  abbrev lent_chunk : Chunk
  lent_chunk = new_chunk place (current l) bucket (layout_at l (current l)).size

  abbrev lent : Ledger
  lent = record l { chunks = l.chunks ++ lent_chunk ∷ [] }

  lent_rising : (i j : ℕ) (a b : Chunk) → slice_get lent.chunks i ≡ Some a → slice_get lent.chunks j ≡ Some b → i < j →
      a.name < b.name
  lent_rising i j a b first second below = elim (old_or_new l.chunks lent_chunk j b second) [
    | inl old ↦ elim (old_or_new l.chunks lent_chunk i a first) [
      | inl before ↦ sound.names.rising i j a b before old below
      | inr new ↦ (let long = slice_get_within l.chunks j b old in let at = new.0 in absurd (omega arith))
    ]
    | inr last ↦ elim (old_or_new l.chunks lent_chunk i a first) [
      | inl before ↦ (let lt = sound.names.before i a before in let q = ap (λ x. x.name) last.1 in omega arith)
      | inr new ↦ (let p = new.0 in let q = last.0 in absurd (omega arith))
    ]
  ]

  lent_before : (i : ℕ) (a : Chunk) → slice_get lent.chunks i ≡ Some a → a.name < place + 1
  lent_before i a stands = elim (old_or_new l.chunks lent_chunk i a stands) [
    | inl old ↦ (let lt = sound.names.before i a old in omega arith)
    | inr new ↦ (let q = ap (λ x. x.name) new.1 in omega arith)
  ]

  lent_lies : LiesWithin lent lent_chunk
  lent_lies = record {
    segment = (let some = sound.segments.some in omega arith);
    bucket = within;
    bytes = length-replicate (layout_at l (current l)).size 0;
  }

  lent_within : (i : ℕ) (a : Chunk) → slice_get lent.chunks i ≡ Some a → LiesWithin lent a
  lent_within i a stands = elim (old_or_new l.chunks lent_chunk i a stands) [
    | inl old ↦ (let h = sound.within i a old in record { segment = h.segment; bucket = h.bucket; bytes = h.bytes })
    | inr new ↦ subst (LiesWithin lent) (sym new.1) lent_lies
  ]

  -- an old live chunk isn't in the new one's bucket
  lent_apart : (i : ℕ) (a b : Chunk) → slice_get l.chunks i ≡ Some a → is_live l a ≡ true → b ≡ lent_chunk →
      ShareBucket a b → ⊥
  lent_apart i a b stands alive new share = not_free l (current l) bucket i a free stands alive
      (share.segment ∙ ap (λ x. x.segment) new) (share.bucket ∙ ap (λ x. x.bucket) new)

  lent_all_apart : (i j : ℕ) (a b : Chunk) → slice_get lent.chunks i ≡ Some a → slice_get lent.chunks j ≡ Some b →
      is_live lent a ≡ true → is_live lent b ≡ true → ShareBucket a b → i ≡ j
  lent_all_apart i j a b first second alive living share = elim (old_or_new l.chunks lent_chunk i a first) [
    | inl old ↦ elim (old_or_new l.chunks lent_chunk j b second) [
      | inl other ↦ sound.apart i j a b old other alive living share
      | inr new ↦ absurd (lent_apart i a b old alive new.1 share)
    ]
    | inr new ↦ elim (old_or_new l.chunks lent_chunk j b second) [
      | inl other ↦ absurd (lent_apart j b a other living new.1
          (record { segment = sym share.segment; bucket = sym share.bucket }))
      | inr last ↦ new.0 ∙ sym last.0
    ]
  ]

  lent_known : (name : ℕ) → IsSentChunk l name → IsSentChunk lent name
  lent_known name s = record {
    index = s.index;
    chunk = s.chunk;
    stands = slice_get-append_old l.chunks lent_chunk s.index s.chunk s.stands;
    same_name = s.same_name;
    sent = s.sent;
    segment = s.segment;
    bucket = s.bucket;
  }

  sound_lent : IsSoundLedger lent (place + 1)
  sound_lent = record {
    room = sound.room;
    segments = record { some = sound.segments.some; few = sound.segments.few; sizes = sound.segments.sizes };
    names = record { rising = lent_rising; before = lent_before };
    within = lent_within;
    apart = lent_all_apart;
    channels = sound.channels;
    histories = sound.histories;
    known = λ k c name here some. lent_known name (sound.known k c name here some);
    opened = sound.opened;
  }

-- what a free place is
pub free_parts : (a b c : Bool) → (a && b && c) ≡ true → (b ≡ true) × (c ≡ true)
free_parts true true true e = (refl, refl)
free_parts true true false e = absurd (true≢false (sym e))
free_parts true false c e = absurd (true≢false (sym e))
free_parts false b c e = absurd (true≢false (sym e))

pub sound_loan : (l : Ledger) (place : ℕ) (reply : Reply) → IsSoundLedger l place → IsLoan l place reply →
    IsSoundLedger (after_loan l place reply) (place + 1)
sound_loan l place (Loaned slot) sound is =
    let buckets = layout_at l (current l) in
    let bucket = slot.place / buckets.size in
    let free = free_parts (nat_eq (slot.place % buckets.size) 0) (nat_lt bucket buckets.count)
    (is_free l (current l) bucket) is.2 in
    sound_lent l place bucket sound (ltb-true bucket buckets.count free.0) free.1
sound_loan l place Written sound is = absurd is
sound_loan l place (Sent back) sound is = absurd is
sound_loan l place (Received taken) sound is = absurd is
sound_loan l place (Shown bytes) sound is = absurd is
sound_loan l place Released sound is = absurd is
sound_loan l place (Reclaimed back) sound is = absurd is
sound_loan l place Discarded sound is = absurd is
sound_loan l place (Counted count) sound is = absurd is
sound_loan l place (Refused refusal) sound is = absurd is
sound_loan l place (Transit channel slot) sound is = absurd is
