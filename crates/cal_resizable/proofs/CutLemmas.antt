-- That the search from the end finds the last `__`.
use Rattle.std.proofs.Common.{◌≡◌, ℕ, ◌+◌, zero, suc, ◌-◌, ◌<◌, ◌≤◌, ◌==◌, ◌&&◌, List, [], ◌∷◌, length, get_or, take, drop, Some, None, refl, sym, ap, ◌∙◌, arith, inl, inr, eq-eqb, option_map}
use Rattle.std.proofs.lemmas.Bool.{cases_Bool}
use Rattle.std.proofs.lemmas.Bool.Decides.{nat_tests}
use Rattle.std.specs.Option.{option_or}
use Rattle.std.specs.Prelude.{if◌then◌else◌}
use Rattle.cal_resizable.specs.SegmentNames.{Cut, with_front, cut_at_start, cut_at_last}

abbrev cut_here : (bytes : List ℕ) (k : ℕ) → Cut
cut_here bytes k = record { before = take k bytes; behind = drop (suc (suc k)) bytes }

start-yes : (a b : ℕ) (rest : List ℕ) → a ≡ 95 → b ≡ 95 →
    cut_at_start (a ∷ b ∷ rest) ≡ Some (record { before = []; behind = rest })
start-yes a b rest is_a is_b =
    ap (λ t. if t && b == 95 then Some (record { before = []; behind = rest }) else None) (eq-eqb a 95 is_a)
    ∙ ap (λ t. if t then Some (record { before = []; behind = rest }) else None) (eq-eqb b 95 is_b)

start-no : (a b : ℕ) (rest : List ℕ) → (a ≡ 95 → b ≡ 95 → ⊥) → cut_at_start (a ∷ b ∷ rest) ≡ None
start-no a b rest apart = elim (cases_Bool (a == 95 && b == 95)) [
  | inl both ↦ absurd (apart (grind (arith, nat_tests)) (grind (arith, nat_tests)))
  | inr other ↦ ap (λ t. if t then Some (record { before = []; behind = rest }) else None) other
]

-- nothing behind is a `__`, and here is one
here : (bytes : List ℕ) (k : ℕ) → suc (suc k) ≤ length bytes → get_or bytes k 0 ≡ 95 → get_or bytes (suc k) 0 ≡ 95 →
    cut_at_last (drop (suc k) bytes) ≡ None → cut_at_last bytes ≡ Some (cut_here bytes k)
here [] k within first second none = absurd (omega (arith, within))
here (a ∷ []) zero within first second none = absurd (omega (arith, within))
here (a ∷ b ∷ rest) zero within first second none =
    ap (λ o. option_or (option_map (with_front a) o) (cut_at_start (a ∷ b ∷ rest))) none
    ∙ start-yes a b rest first second
here (a ∷ rest) (suc k) within first second none =
    ap (λ o. option_or (option_map (with_front a) o) (cut_at_start (a ∷ rest)))
    (here rest k (omega (arith, within)) first second none)

-- nothing behind is a `__`, and neither is here
not_here : (bytes : List ℕ) (k : ℕ) → suc (suc k) ≤ length bytes →
    (get_or bytes k 0 ≡ 95 → get_or bytes (suc k) 0 ≡ 95 → ⊥) → cut_at_last (drop (suc k) bytes) ≡ None →
    cut_at_last (drop k bytes) ≡ None
not_here [] k within apart none = absurd (omega (arith, within))
not_here (a ∷ []) zero within apart none = absurd (omega (arith, within))
not_here (a ∷ b ∷ rest) zero within apart none =
    ap (λ o. option_or (option_map (with_front a) o) (cut_at_start (a ∷ b ∷ rest))) none ∙ start-no a b rest apart
not_here (a ∷ rest) (suc k) within apart none = not_here rest k (omega (arith, within)) apart none

-- the last byte alone is none
last_alone : (bytes : List ℕ) (n : ℕ) → n ≡ length bytes - 1 → cut_at_last (drop n bytes) ≡ None
last_alone [] zero same = refl
last_alone [] (suc n) same = refl
last_alone (a ∷ []) zero same = refl
last_alone (a ∷ []) (suc n) same = absurd (omega (arith, same))
last_alone (a ∷ b ∷ rest) zero same = absurd (omega (arith, same))
last_alone (a ∷ b ∷ rest) (suc n) same = last_alone (b ∷ rest) n (omega (arith, same))

module _ (bytes : List ℕ) where
  pub search-start : cut_at_last (drop (length bytes - 1) bytes) ≡ None
  search-start = last_alone bytes (length bytes - 1) refl

  module _ (end : ℕ) (two : 2 ≤ end) (within : end ≤ length bytes) (none : cut_at_last (drop (end - 1) bytes) ≡ None)
    where
      pub search-found : get_or bytes (end - 1) 0 ≡ 95 → get_or bytes (end - 2) 0 ≡ 95 →
          cut_at_last bytes ≡ Some (record { before = take (end - 2) bytes; behind = drop (end - 2 + 2) bytes })
      search-found second first =
          let next : end - 1 ≡ suc (end - 2) = omega (arith, two) in
          here bytes (end - 2) (omega (arith, two, within)) first (ap (λ n. get_or bytes n 0) (sym next) ∙ second)
          (ap (λ n. cut_at_last (drop n bytes)) (sym next) ∙ none)
          ∙ ap (λ n. Some (record { before = take (end - 2) bytes; behind = drop n bytes })) (two_more (end - 2))
        where
          two_more : (n : ℕ) → suc (suc n) ≡ n + 2
          two_more n = omega arith

      pub search-on : (get_or bytes (end - 1) 0 ≡ 95 → get_or bytes (end - 2) 0 ≡ 95 → ⊥) →
          cut_at_last (drop (end - 1 - 1) bytes) ≡ None
      search-on apart =
          let next : end - 1 ≡ suc (end - 2) = omega (arith, two) in
          let back : end - 1 - 1 ≡ end - 2 = omega (arith, two) in
          ap (λ n. cut_at_last (drop n bytes)) back
          ∙ not_here bytes (end - 2) (omega (arith, two, within))
          (λ first second. apart (ap (λ n. get_or bytes n 0) next ∙ second) first)
          (ap (λ n. cut_at_last (drop n bytes)) (sym next) ∙ none)

  pub search-ended : (end : ℕ) → end < 2 → cut_at_last (drop (end - 1) bytes) ≡ None → cut_at_last bytes ≡ None
  search-ended end few none =
      let start : end - 1 ≡ 0 = omega (arith, few) in
      sym (ap (λ n. cut_at_last (drop n bytes)) start) ∙ none
