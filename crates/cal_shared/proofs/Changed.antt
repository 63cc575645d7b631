-- Elements of a list that are changed one after the other.
use Rattle.std.specs.Prelude.{◌≡◌, ◌≢◌, ℕ, ◌+◌, ◌<◌, ◌≤◌, List, length, map, slice_index_or, slice_set}
use Rattle.std.proofs.Common.{refl, sym, ap, ◌∙◌, subst, inl, inr, arith}
use Rattle.std.proofs.Math.ListN.{get_or-map}
use Rattle.std.proofs.lemmas.Bool.{cases_eq}
use Rattle.std.proofs.lemmas.List.{get_or_default, get_or-set_same, get_or-set_other, length-map, length-set, same_lists}

module _ {T : Type 0} (change : T → T) where
  -- the elements below an index are changed, and the others are as they were
  pub record IsChangedBelow (old now : List T) (index : ℕ) : Type 0 where
    pub size : length now ≡ length old
    pub changed : (k : ℕ) (d : T) → k < index → k < length old →
        slice_index_or now k d ≡ change (slice_index_or old k d)
    pub kept : (k : ℕ) (d : T) → index ≤ k → slice_index_or now k d ≡ slice_index_or old k d

module _ {T : Type 0} (change : T → T) (old : List T) where
  pub IsChangedBelow-at_start : IsChangedBelow change old old 0
  IsChangedBelow-at_start = record {
    size = refl;
    changed = λ k d below. absurd (omega arith);
    kept = λ k d above. refl;
  }

  -- one more
  pub IsChangedBelow-next : (now : List T) (index : ℕ) (found next : T) → index < length old →
      found ≡ slice_index_or now index found → next ≡ change found → IsChangedBelow change old now index →
      IsChangedBelow change old (slice_set now index next) (index + 1)
  IsChangedBelow-next now index found next within is made so_far =
      let there : index < length now = omega (arith, so_far.size) in
      record {
        size = length-set now index next ∙ so_far.size;
        changed = λ k d below inside. elim (cases_eq k index) [
          | inl same ↦
              ap (λ i. slice_index_or (slice_set now index next) i d) same
              ∙ get_or-set_same now index next d there ∙ made ∙ ap change is
              ∙ ap change (get_or_default now index found d there)
              ∙ ap change (so_far.kept index d (omega arith))
              ∙ ap (λ i. change (slice_index_or old i d)) (sym same)
          | inr apart ↦ get_or-set_other now index k next d apart ∙ so_far.changed k d (omega arith) inside
        ];
        kept = λ k d above.
            let apart : k ≢ index = omega arith in
            get_or-set_other now index k next d apart ∙ so_far.kept k d (omega arith);
      }

  -- all of them
  pub map-from_IsChangedBelow : (now : List T) (index : ℕ) → length old ≤ index →
      IsChangedBelow change old now index → now ≡ map change old
  map-from_IsChangedBelow now index all so_far =
      same_lists now (map change old) (so_far.size ∙ sym (length-map old change)) (λ k d within.
      let inside : k < length old = omega (arith, so_far.size) in
      so_far.changed k d (omega arith) inside ∙ sym (get_or-map change old k d)
      ∙ get_or_default (map change old) k (change d) d
      (subst (λ n. k < n) (sym (length-map old change)) inside))
