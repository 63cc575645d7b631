-- The chunk of a name: where it stands in a list of chunks, and what a change of it is.
use Rattle.std.proofs.Common.{ℕ, zero, suc, ◌≡◌, ◌≢◌, inl, inr, cond, nat_eq, List, [], ◌∷◌, set, Some, refl, sym, ap, ◌∙◌, arith}
use Rattle.std.specs.List.{slice_get, find}
use Rattle.std.proofs.lemmas.Option.{same_Some, none-some}
use Rattle.std.proofs.lemmas.Bool.Decides.{eqb_tells}
use Rattle.cal_transport.specs.Ledger.{Chunk}
use Rattle.cal_transport.specs.Step.{with_changed_chunk}

-- ---- the chunk of a name

-- what a list's first element of a name is: it stands somewhere, and has the name
pub find_stands : (chunks : List Chunk) (name : ℕ) (chunk : Chunk) →
    find (λ x. nat_eq x.name name) chunks ≡ Some chunk →
    (i : ℕ) × (slice_get chunks i ≡ Some chunk) × (chunk.name ≡ name)
find_stands [] name chunk e = absurd (none-some chunk e)
find_stands (x ∷ chunks) name chunk e = elim (eqb_tells x.name name) [
  | inl same ↦ (let here =
      same_Some x chunk (sym (ap (λ b. cond b (Some x) (find (λ y. nat_eq y.name name) chunks)) same.0) ∙ e) in
      (0, ap Some here, ap (λ y. y.name) (sym here) ∙ same.1))
  | inr apart ↦ (let rest =
      find_stands chunks name chunk (sym (ap (λ b. cond b (Some x) (find (λ y. nat_eq y.name name) chunks)) apart.0)
      ∙ e) in
      (suc rest.0, rest.1, rest.2))
]

-- the first of a name is the one that stands there, where none before it has the name
pub find_first : (chunks : List Chunk) (i : ℕ) (chunk : Chunk) → slice_get chunks i ≡ Some chunk →
    ((j : ℕ) (x : Chunk) → slice_get chunks j ≡ Some x → j ≢ i → x.name ≢ chunk.name) →
    find (λ x. nat_eq x.name chunk.name) chunks ≡ Some chunk
find_first [] i chunk e apart = absurd (none-some chunk e)
find_first (x ∷ chunks) zero chunk e apart =
    let here = same_Some x chunk e in
    elim (eqb_tells x.name chunk.name) [
      | inl same ↦ ap (λ b. cond b (Some x) (find (λ y. nat_eq y.name chunk.name) chunks)) same.0 ∙ e
      | inr other ↦ absurd (other.1 (ap (λ y. y.name) here))
    ]
find_first (x ∷ chunks) (suc i) chunk e apart = elim (eqb_tells x.name chunk.name) [
  | inl same ↦ absurd (apart 0 x refl (λ q. absurd (omega arith)) same.1)
  | inr other ↦ ap (λ b. cond b (Some x) (find (λ y. nat_eq y.name chunk.name) chunks)) other.0
      ∙ find_first chunks i chunk e (λ j y stands elsewhere. apart (suc j) y stands (λ q. elsewhere (omega arith)))
]

-- to change the chunk of a name is to write at its place
pub changed_chunk-at : (chunks : List Chunk) (i : ℕ) (chunk : Chunk) (change : Chunk → Chunk) →
    slice_get chunks i ≡ Some chunk →
    ((j : ℕ) (x : Chunk) → slice_get chunks j ≡ Some x → j ≢ i → x.name ≢ chunk.name) →
    with_changed_chunk change chunk.name chunks ≡ set chunks i (change chunk)
changed_chunk-at [] i chunk change e apart = absurd (none-some chunk e)
changed_chunk-at (x ∷ chunks) zero chunk change e apart =
    let here = same_Some x chunk e in
    let first : cond (nat_eq x.name chunk.name) (change x) x ≡ change chunk = elim (eqb_tells x.name chunk.name) [
      | inl same ↦ ap (λ b. cond b (change x) x) same.0 ∙ ap change here
      | inr other ↦ absurd (other.1 (ap (λ y. y.name) here))
    ] in
    let rest = none_changed chunks chunk.name change
    (λ j y stands. apart (suc j) y stands (λ q. absurd (omega arith))) in cc
  where
    none_changed : (chunks : List Chunk) (name : ℕ) (change : Chunk → Chunk) →
        ((j : ℕ) (x : Chunk) → slice_get chunks j ≡ Some x → x.name ≢ name) →
        with_changed_chunk change name chunks ≡ chunks
    none_changed [] name change apart = refl
    none_changed (x ∷ chunks) name change apart =
        let first : cond (nat_eq x.name name) (change x) x ≡ x = elim (eqb_tells x.name name) [
          | inl same ↦ absurd (apart 0 x refl same.1)
          | inr other ↦ ap (λ b. cond b (change x) x) other.0
        ] in
        let rest = none_changed chunks name change (λ j y stands. apart (suc j) y stands) in cc
changed_chunk-at (x ∷ chunks) (suc i) chunk change e apart =
    let first : cond (nat_eq x.name chunk.name) (change x) x ≡ x = elim (eqb_tells x.name chunk.name) [
      | inl same ↦ absurd (apart 0 x refl (λ q. absurd (omega arith)) same.1)
      | inr other ↦ ap (λ b. cond b (change x) x) other.0
    ] in
    let rest = changed_chunk-at chunks i chunk change e
    (λ j y stands elsewhere. apart (suc j) y stands (λ q. elsewhere (omega arith))) in cc
