-- How many chunks are in transit at most: those on their way lie in different buckets that the connection can name, and
-- each is counted once for a channel.
use Rattle.std.proofs.Common.{ℕ, zero, suc, ◌+◌, ◌*◌, ◌≤◌, ◌≡◌, Bool, true, false, ◌&&◌, nat_eq, nat_lt, List, [], ◌∷◌, length, Some, refl, sym, ap, ◌∙◌, arith}
use Rattle.std.specs.List.{slice_get}
use Rattle.std.proofs.Math.Nat.{mul-le-mul_left}
use Rattle.std.proofs.lemmas.Bool.{true≢false, and_parts, or_right, eqb-true, eq-eqb, ltb-true, ltb-false, lt-ltb}
use Rattle.std.proofs.lemmas.Bool.Decides.{nat_tests}
use Rattle.cal_transport.specs.Ledger.{Ledger, Chunk, ChannelHistory, is_live, is_in_transit}
use Rattle.cal_transport.specs.Weights.{total, one_if, transits, transits_on, transits_in}
use Rattle.cal_transport.proofs.Settled.{IsSettled}
use Rattle.cal_transport.proofs.Totals.{total_agree, total_fewer, total_least}
use Rattle.cal_transport.proofs.Changed.{live_is}
use Rattle.cal_transport.proofs.Marks.{same_mark, mark_below}
use Rattle.cal_transport.proofs.Lent.{namable}

-- ---- sums

total_sum : {A : Type 0} (f g h : A → ℕ) (xs : List A) → ((x : A) → f x ≡ g x + h x) →
    total f xs ≡ total g xs + total h xs
total_sum f g h [] is = omega arith
total_sum f g h (x ∷ xs) is = let first = is x in let rest = total_sum f g h xs is in omega arith

total_zero : {A : Type 0} (f : A → ℕ) (xs : List A) → ((j : ℕ) (x : A) → slice_get xs j ≡ Some x → f x ≡ 0) →
    total f xs ≡ 0
total_zero f [] none = refl
total_zero f (x ∷ xs) none =
    let first = none 0 x refl in let rest = total_zero f xs (λ j z there. none (suc j) z there) in omega arith

total_scaled : {A : Type 0} (f g : A → ℕ) (n : ℕ) (xs : List A) → ((x : A) → f x ≤ n * g x) →
    total f xs ≤ n * total g xs
total_scaled f g n [] le = omega arith
total_scaled f g n (x ∷ xs) le = let first = le x in let rest = total_scaled f g n xs le in omega arith

-- at most as many pass as there are
total_length : {A : Type 0} (test : A → Bool) (xs : List A) → total (λ x. one_if (test x)) xs ≤ length xs
total_length test [] = omega arith
total_length test (x ∷ xs) = go (test x) (total_length test xs)
  where
    go : (b : Bool) → total (λ y. one_if (test y)) xs ≤ length xs →
        one_if b + total (λ y. one_if (test y)) xs ≤ suc (length xs)
    go true le = omega arith
    go false le = omega arith

-- where one alone passes
abbrev PassesOnce : {A : Type 0} → (A → Bool) → List A → Type 0
PassesOnce {A} test xs = (i j : ℕ) (x y : A) → slice_get xs i ≡ Some x → slice_get xs j ≡ Some y → test x ≡ true →
    test y ≡ true → i ≡ j

total_once : {A : Type 0} (test : A → Bool) (xs : List A) → PassesOnce test xs → total (λ x. one_if (test x)) xs ≤ 1
total_once {A} test [] once = omega arith
total_once {A} test (x ∷ xs) once = go (test x) refl
    (total_once test xs (λ i j y z first second a b. (let e = once (suc i) (suc j) y z first second a b in omega
    arith)))
  where
    dead : test x ≡ true → (j : ℕ) (y : A) → slice_get xs j ≡ Some y → (b : Bool) → test y ≡ b → one_if b ≡ 0
    dead first j y there false e = refl
    dead first j y there true e = absurd (let apart = once 0 (suc j) x y refl there first e in omega arith)

    go : (b : Bool) → test x ≡ b → total (λ y. one_if (test y)) xs ≤ 1 →
        one_if (test x) + total (λ y. one_if (test y)) xs ≤ 1
    go true e rest =
        let none = total_zero (λ y. one_if (test y)) xs (λ j y there. dead e j y there (test y) refl) in
        let one = ap one_if e in omega arith
    go false e rest = let none = ap one_if e in omega arith

-- ---- one number more

one_more : (b : Bool) (mark n : ℕ) →
    one_if (b && nat_lt mark (suc n)) ≡ one_if (b && nat_lt mark n) + one_if (b && nat_eq mark n)
one_more true mark n = go (nat_lt mark (suc n)) (nat_lt mark n) (nat_eq mark n)
    (λ e. (let below = ltb-true mark n e in lt-ltb mark (suc n) (omega arith)))
    (λ e. (let same = eqb-true mark n e in lt-ltb mark (suc n) (omega arith)))
    (λ a b. (let below = ltb-true mark n a in let same = eqb-true mark n b in omega arith))
    (λ a b. (let below = ltb-true mark (suc n) a in let past = ltb-false mark n b in eq-eqb mark n (omega arith)))
  where
    go : (p q r : Bool) → (q ≡ true → p ≡ true) → (r ≡ true → p ≡ true) → (q ≡ true → r ≡ true → ⊥) →
        (p ≡ true → q ≡ false → r ≡ true) → one_if p ≡ one_if q + one_if r
    go true true true a b c d = absurd (c refl refl)
    go true true false a b c d = refl
    go true false true a b c d = refl
    go true false false a b c d = absurd (true≢false (sym (d refl refl)))
    go false true r a b c d = absurd (true≢false (sym (a refl)))
    go false false true a b c d = absurd (true≢false (sym (b refl)))
    go false false false a b c d = refl
one_more false mark n = refl

none_below : (b : Bool) (mark : ℕ) → one_if (b && nat_lt mark 0) ≡ 0
none_below true mark = let none : nat_lt mark 0 ≡ false = grind (arith, nat_tests) in ap one_if none
none_below false mark = refl

-- ---- chunks on their way

module _ (l : Ledger) (s : IsSettled l) where
  abbrev on_way : Chunk → Bool
  on_way d = nat_lt 0 (transits l.histories d.name)

  abbrev mark : Chunk → ℕ
  mark d = d.segment * l.settings.samples + d.bucket

  abbrev limit : ℕ
  limit = l.settings.segments * l.settings.samples

  alive : (d : Chunk) → on_way d ≡ true → is_live l d ≡ true
  alive d way = live_is l d ∙ or_right d.loaned (on_way d) way

  once : (n : ℕ) → PassesOnce (λ d. on_way d && nat_eq (mark d) n) l.chunks
  once n i j a b first second one other =
      let x = and_parts (on_way a) (nat_eq (mark a) n) one in
      let y = and_parts (on_way b) (nat_eq (mark b) n) other in
      let p = namable l s i a first x.0 in
      let q = namable l s j b second y.0 in
      let same = same_mark l.settings.samples a.segment a.bucket b.segment b.bucket p.bucket q.bucket
      (eqb-true (mark a) n x.1 ∙ sym (eqb-true (mark b) n y.1)) in
      s.apart i j a b first second (alive a x.0) (alive b y.0) (record { segment = same.0; bucket = same.1 })

  few_below : (n : ℕ) → total (λ d. one_if (on_way d && nat_lt (mark d) n)) l.chunks ≤ n
  few_below zero =
      let none = total_zero (λ d. one_if (on_way d && nat_lt (mark d) 0)) l.chunks
      (λ j d there. none_below (on_way d) (mark d)) in omega arith
  few_below (suc n) =
      let split = total_sum (λ d. one_if (on_way d && nat_lt (mark d) (suc n)))
      (λ d. one_if (on_way d && nat_lt (mark d) n)) (λ d. one_if (on_way d && nat_eq (mark d) n)) l.chunks
      (λ d. one_more (on_way d) (mark d) n) in
      let rest = few_below n in
      let one = total_once (λ d. on_way d && nat_eq (mark d) n) l.chunks (once n) in omega arith

  all_below : total (λ d. one_if (on_way d)) l.chunks
      ≡ total (λ d. one_if (on_way d && nat_lt (mark d) limit)) l.chunks
  all_below = total_agree (λ d. one_if (on_way d)) (λ d. one_if (on_way d && nat_lt (mark d) limit)) l.chunks
      (λ j d there. each j d there (on_way d) refl)
    where
      each : (j : ℕ) (d : Chunk) → slice_get l.chunks j ≡ Some d → (b : Bool) → on_way d ≡ b →
          one_if (on_way d) ≡ one_if (on_way d && nat_lt (mark d) limit)
      each j d there true e =
          let p = namable l s j d there e in
          let inside = lt-ltb (mark d) limit
          (mark_below l.settings.segments l.settings.samples d.segment d.bucket p.segment p.bucket) in
          ap one_if e ∙ ap one_if (sym inside) ∙ ap (λ b. one_if (b && nat_lt (mark d) limit)) (sym e)
      each j d there false e = ap one_if e ∙ ap (λ b. one_if (b && nat_lt (mark d) limit)) (sym e)

  few_on_way : total (λ d. one_if (on_way d)) l.chunks ≤ limit
  few_on_way = let all = all_below in let few = few_below limit in omega arith

  -- a chunk is in transit on each channel at most
  pub few_channels : (name : ℕ) → transits l.histories name ≤ l.settings.channels
  few_channels name =
      let few = total_length (λ h. is_in_transit h name) l.histories in let many = s.channels in omega arith

  counted : (n : ℕ) → n ≤ l.settings.channels → (b : Bool) → nat_lt 0 n ≡ b → n ≤ l.settings.channels * one_if b
  counted n few true e = omega arith
  counted n few false e = let none = ltb-false 0 n e in omega arith

  pub few_in_transit : transits_in l ≤ l.settings.channels * (l.settings.segments * l.settings.samples)
  few_in_transit =
      let scaled = total_scaled (λ d. transits l.histories d.name) (λ d. one_if (on_way d)) l.settings.channels l.chunks
      (λ d. counted (transits l.histories d.name) (few_channels d.name) (on_way d) refl) in
      let most = mul-le-mul_left l.settings.channels few_on_way in omega arith

  -- on a channel at most as many as in all
  pub few_on : (k : ℕ) (h : ChannelHistory) → slice_get l.histories k ≡ Some h →
      transits_on h l.chunks ≤ transits_in l
  few_on k h here = total_fewer (λ d. one_if (is_in_transit h d.name)) (λ d. transits l.histories d.name) l.chunks
      (λ d. total_least (λ e. one_if (is_in_transit e d.name)) l.histories k h here)
