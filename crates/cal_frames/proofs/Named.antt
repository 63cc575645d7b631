-- Chunks by their names: what is found after one was added or changed.
use Rattle.std.proofs.Common.{ℕ, zero, suc, ◌+◌, ◌<◌, ◌≡◌, ◌≢◌, inl, inr, Bool, cond, nat_eq, List, [], ◌∷◌, ◌++◌, Some, None, refl, sym, ap, ◌∙◌, arith}
use Rattle.std.specs.List.{slice_get, find}
use Rattle.std.proofs.lemmas.Bool.Decides.{eqb_tells}
use Rattle.std.proofs.lemmas.Option.{same_Some, none-some}
use Rattle.cal_transport.specs.Ledger.{Ledger, Chunk}
use Rattle.cal_transport.specs.Step.{with_changed_chunk}
use Rattle.cal_frames.specs.Carrying.{BeginsWith, AreNamedBelow}

-- ---- what is found

abbrev has_that_name : ℕ → Chunk → Bool
has_that_name name = λ chunk. nat_eq chunk.name name

pub find_named : (chunks : List Chunk) (name : ℕ) (chunk : Chunk) →
    find (has_that_name name) chunks ≡ Some chunk → chunk.name ≡ name
find_named [] name chunk e = absurd (none-some chunk e)
find_named (x ∷ chunks) name chunk e = elim (eqb_tells x.name name) [
  | inl same ↦ (let here = same_Some x chunk
      (sym (ap (λ b. cond b (Some x) (find (has_that_name name) chunks)) same.0) ∙ e) in
      ap (λ y. y.name) (sym here) ∙ same.1)
  | inr apart ↦ find_named chunks name chunk
      (sym (ap (λ b. cond b (Some x) (find (has_that_name name) chunks)) apart.0) ∙ e)
]

find_more : (chunks more : List Chunk) (name : ℕ) (chunk : Chunk) →
    find (has_that_name name) chunks ≡ Some chunk → find (has_that_name name) (chunks ++ more) ≡ Some chunk
find_more [] more name chunk e = absurd (none-some chunk e)
find_more (x ∷ chunks) more name chunk e = elim (eqb_tells x.name name) [
  | inl same ↦ (ap (λ b. cond b (Some x) (find (has_that_name name) (chunks ++ more))) same.0
      ∙ (sym (ap (λ b. cond b (Some x) (find (has_that_name name) chunks)) same.0) ∙ e))
  | inr apart ↦ (ap (λ b. cond b (Some x) (find (has_that_name name) (chunks ++ more))) apart.0
      ∙ find_more chunks more name chunk
      (sym (ap (λ b. cond b (Some x) (find (has_that_name name) chunks)) apart.0) ∙ e))
]

find_new : (chunks : List Chunk) (new : Chunk) →
    ((i : ℕ) (x : Chunk) → slice_get chunks i ≡ Some x → x.name < new.name) →
    find (has_that_name new.name) (chunks ++ new ∷ []) ≡ Some new
find_new [] new below = elim (eqb_tells new.name new.name) [
  | inl same ↦ ap (λ b. cond b (Some new) None) same.0
  | inr apart ↦ absurd (apart.1 refl)
]
find_new (x ∷ chunks) new below = elim (eqb_tells x.name new.name) [
  | inl same ↦ (let less = below 0 x refl in let is = same.1 in absurd (omega arith))
  | inr apart ↦ (ap (λ b. cond b (Some x) (find (has_that_name new.name) (chunks ++ new ∷ []))) apart.0
      ∙ find_new chunks new (λ i y stands. below (suc i) y stands))
]

-- a chunk, changed where it has a name
abbrev changed_if_named : (Chunk → Chunk) → ℕ → Chunk → Chunk
changed_if_named change name = λ chunk. cond (nat_eq chunk.name name) (change chunk) chunk

-- a change that leaves the name
pub record KeepsName (change : Chunk → Chunk) : Type 0 where
  pub name : (chunk : Chunk) → (change chunk).name ≡ chunk.name

changed_name : (change : Chunk → Chunk) (name : ℕ) (chunk : Chunk) → KeepsName change →
    (changed_if_named change name chunk).name ≡ chunk.name
changed_name change name chunk keeps = elim (eqb_tells chunk.name name) [
  | inl same ↦ (ap (λ b. (cond b (change chunk) chunk).name) same.0 ∙ keeps.name chunk)
  | inr apart ↦ ap (λ b. (cond b (change chunk) chunk).name) apart.0
]

find_changed : (change : Chunk → Chunk) (name other : ℕ) (chunks : List Chunk) (chunk : Chunk) → KeepsName change →
    find (has_that_name other) chunks ≡ Some chunk →
    find (has_that_name other) (with_changed_chunk change name chunks) ≡ Some (changed_if_named change name chunk)
find_changed change name other [] chunk keeps e = absurd (none-some chunk e)
find_changed change name other (x ∷ chunks) chunk keeps e =
    let y = changed_if_named change name x in
    let rest = with_changed_chunk change name chunks in
    let same_test : nat_eq y.name other ≡ nat_eq x.name other =
    ap (λ n. nat_eq n other) (changed_name change name x keeps) in
    elim (eqb_tells x.name other) [
      | inl same ↦ (let here =
          same_Some x chunk (sym (ap (λ b. cond b (Some x) (find (has_that_name other) chunks)) same.0) ∙ e) in
          ap (λ b. cond b (Some y) (find (has_that_name other) rest)) (same_test ∙ same.0)
          ∙ ap (λ z. Some (changed_if_named change name z)) here)
      | inr apart ↦ (ap (λ b. cond b (Some y) (find (has_that_name other) rest)) (same_test ∙ apart.0)
          ∙ find_changed change name other chunks chunk keeps
          (sym (ap (λ b. cond b (Some x) (find (has_that_name other) chunks)) apart.0) ∙ e))
    ]

-- ---- the same chunks

pub named_same : (l l' : Ledger) (bound : ℕ) → l'.chunks ≡ l.chunks → AreNamedBelow l bound → AreNamedBelow l' bound
named_same l l' bound same below = λ i chunk stands. below i chunk (ap (λ cs. slice_get cs i) (sym same) ∙ stands)

pub begins_same : (l l' : Ledger) (name : ℕ) (bytes : List ℕ) → l'.chunks ≡ l.chunks → BeginsWith l name bytes →
    BeginsWith l' name bytes
begins_same l l' name bytes same b = record {
  chunk = b.chunk;
  named = ap (λ cs. find (has_that_name name) cs) same ∙ b.named;
  rest = b.rest;
  bytes_are = b.bytes_are;
}

-- ---- one chunk more

added_below : (chunks : List Chunk) (new : Chunk) (bound : ℕ) →
    ((i : ℕ) (x : Chunk) → slice_get chunks i ≡ Some x → x.name < bound) → new.name < bound →
    (i : ℕ) (chunk : Chunk) → slice_get (chunks ++ new ∷ []) i ≡ Some chunk → chunk.name < bound
added_below [] new bound below new_below zero chunk e =
    let same = ap (λ x. x.name) (same_Some new chunk e) in omega arith
added_below [] new bound below new_below (suc i) chunk e = absurd (none-some chunk e)
added_below (x ∷ chunks) new bound below new_below zero chunk e = below 0 chunk e
added_below (x ∷ chunks) new bound below new_below (suc i) chunk e =
    added_below chunks new bound (λ j y stands. below (suc j) y stands) new_below i chunk e

pub named_added : (l l' : Ledger) (new : Chunk) → l'.chunks ≡ l.chunks ++ new ∷ [] → AreNamedBelow l new.name →
    AreNamedBelow l' (new.name + 1)
named_added l l' new added below = λ i chunk stands.
    added_below l.chunks new (new.name + 1) (λ j x here. (let less = below j x here in omega arith)) (omega arith) i
    chunk
    (ap (λ cs. slice_get cs i) (sym added) ∙ stands)

pub begins_added : (l l' : Ledger) (new : Chunk) (name : ℕ) (bytes : List ℕ) → l'.chunks ≡ l.chunks ++ new ∷ [] →
    BeginsWith l name bytes → BeginsWith l' name bytes
begins_added l l' new name bytes added b = record {
  chunk = b.chunk;
  named = ap (λ cs. find (has_that_name name) cs) added ∙ find_more l.chunks (new ∷ []) name b.chunk b.named;
  rest = b.rest;
  bytes_are = b.bytes_are;
}

pub begins_new : (l l' : Ledger) (new : Chunk) → l'.chunks ≡ l.chunks ++ new ∷ [] → AreNamedBelow l new.name →
    BeginsWith l' new.name []
begins_new l l' new added below = record {
  chunk = new;
  named = ap (λ cs. find (has_that_name new.name) cs) added ∙ find_new l.chunks new below;
  rest = new.bytes;
  bytes_are = refl;
}

-- ---- a chunk is changed

changed_below : (change : Chunk → Chunk) (name : ℕ) (chunks : List Chunk) (bound : ℕ) → KeepsName change →
    ((i : ℕ) (x : Chunk) → slice_get chunks i ≡ Some x → x.name < bound) →
    (i : ℕ) (chunk : Chunk) → slice_get (with_changed_chunk change name chunks) i ≡ Some chunk → chunk.name < bound
changed_below change name [] bound keeps below i chunk e = absurd (none-some chunk e)
changed_below change name (x ∷ chunks) bound keeps below zero chunk e =
    let same = ap (λ y. y.name) (same_Some (changed_if_named change name x) chunk e) in
    let kept = changed_name change name x keeps in
    let less = below 0 x refl in omega arith
changed_below change name (x ∷ chunks) bound keeps below (suc i) chunk e =
    changed_below change name chunks bound keeps (λ j y stands. below (suc j) y stands) i chunk e

pub named_changed : (l l' : Ledger) (change : Chunk → Chunk) (name bound : ℕ) → KeepsName change →
    l'.chunks ≡ with_changed_chunk change name l.chunks → AreNamedBelow l bound → AreNamedBelow l' bound
named_changed l l' change name bound keeps changed below = λ i chunk stands.
    changed_below change name l.chunks bound keeps below i chunk (ap (λ cs. slice_get cs i) (sym changed) ∙ stands)

-- another chunk is as it was
pub begins_elsewhere : (l l' : Ledger) (change : Chunk → Chunk) (name other : ℕ) (bytes : List ℕ) →
    KeepsName change → l'.chunks ≡ with_changed_chunk change name l.chunks → other ≢ name →
    BeginsWith l other bytes → BeginsWith l' other bytes
begins_elsewhere l l' change name other bytes keeps changed apart b =
    let is = find_named l.chunks other b.chunk b.named in record {
      chunk = changed_if_named change name b.chunk;
      named = ap (λ cs. find (has_that_name other) cs) changed
          ∙ find_changed change name other l.chunks b.chunk keeps b.named;
      rest = b.rest;
      bytes_are = elim (eqb_tells b.chunk.name name) [
        | inl same ↦ absurd (apart (sym is ∙ same.1))
        | inr other_name ↦ (ap (λ t. (cond t (change b.chunk) b.chunk).bytes) other_name.0 ∙ b.bytes_are)
      ];
    }

-- a change that leaves the bytes, too
pub begins_unchanged : (l l' : Ledger) (change : Chunk → Chunk) (name other : ℕ) (bytes : List ℕ) →
    KeepsName change → ((chunk : Chunk) → (change chunk).bytes ≡ chunk.bytes) →
    l'.chunks ≡ with_changed_chunk change name l.chunks → BeginsWith l other bytes → BeginsWith l' other bytes
begins_unchanged l l' change name other bytes keeps same_bytes changed b = record {
  chunk = changed_if_named change name b.chunk;
  named = ap (λ cs. find (has_that_name other) cs) changed
      ∙ find_changed change name other l.chunks b.chunk keeps b.named;
  rest = b.rest;
  bytes_are = elim (eqb_tells b.chunk.name name) [
    | inl same ↦ (ap (λ t. (cond t (change b.chunk) b.chunk).bytes) same.0
        ∙ (same_bytes b.chunk ∙ b.bytes_are))
    | inr apart ↦ (ap (λ t. (cond t (change b.chunk) b.chunk).bytes) apart.0 ∙ b.bytes_are)
  ];
}

-- the chunk of that name has the bytes that the change gives it
pub begins_changed : (l l' : Ledger) (change : Chunk → Chunk) (name : ℕ) (bytes now rest : List ℕ) →
    KeepsName change → l'.chunks ≡ with_changed_chunk change name l.chunks → (b : BeginsWith l name bytes) →
    (change b.chunk).bytes ≡ now ++ rest → BeginsWith l' name now
begins_changed l l' change name bytes now rest keeps changed b gives =
    let is = find_named l.chunks name b.chunk b.named in record {
      chunk = changed_if_named change name b.chunk;
      named = ap (λ cs. find (has_that_name name) cs) changed
          ∙ find_changed change name name l.chunks b.chunk keeps b.named;
      rest = rest;
      bytes_are = elim (eqb_tells b.chunk.name name) [
        | inl same ↦ (ap (λ t. (cond t (change b.chunk) b.chunk).bytes) same.0 ∙ gives)
        | inr apart ↦ absurd (apart.1 is)
      ];
    }
