-- How many chunks are listed as in transit: no more than are in transit.
use Rattle.std.proofs.Common.{ℕ, zero, suc, ◌+◌, ◌≤◌, ◌≡◌, Bool, true, false, cond, ◌&&◌, nat_eq, nat_lt, List, [], ◌∷◌, ◌++◌, length, get_or, map, refl, sym, ap, ◌∙◌, arith, length-append}
use Rattle.std.specs.List.{flat_map, filter}
use Rattle.std.proofs.lemmas.Bool.Decides.{nat_tests}
use Rattle.std.proofs.lemmas.List.{length-map}
use Rattle.cal_transport.specs.Ledger.{Ledger, Chunk, ChannelHistory, history_on, new_history, is_in_transit, layout_at, numbers_below}
use Rattle.cal_transport.specs.Weights.{total, one_if, transits, transits_on, transits_in}
use Rattle.cal_transport.specs.Run.{transit_at, transit_on, transit_list}
use Rattle.cal_transport.specs.declared.reply.Reply.TheVariants.{Transit}
use Rattle.cal_transport.specs.Step.{slot_of}
use Rattle.cal_transport.specs.TransitLines.{lines_on}
use Rattle.cal_transport.proofs.Totals.{and-false, total_agree, total_append, total_fewer}

-- ---- sums

total_zero : {A : Type 0} (xs : List A) → total (λ x. 0) xs ≡ 0
total_zero [] = refl
total_zero (x ∷ xs) = let rest = total_zero xs in omega arith

total_both : {A : Type 0} (f g : A → ℕ) (xs : List A) → total (λ x. f x + g x) xs ≡ total f xs + total g xs
total_both f g [] = refl
total_both f g (x ∷ xs) = let rest = total_both f g xs in omega arith

-- a double sum may be taken either way round
pub total_swap : {A B : Type 0} (f : A → B → ℕ) (xs : List A) (ys : List B) →
    total (λ x. total (f x) ys) xs ≡ total (λ y. total (λ x. f x y) xs) ys
total_swap f [] ys = sym (total_zero ys)
total_swap f (x ∷ xs) ys =
    ap (λ n. total (f x) ys + n) (total_swap f xs ys) ∙ sym (total_both (f x) (λ y. total (λ z. f z y) xs) ys)

length_flat_map : {A B : Type 0} (f : A → List B) (xs : List A) →
    length (flat_map f xs) ≡ total (λ x. length (f x)) xs
length_flat_map f [] = refl
length_flat_map f (x ∷ xs) =
    length-append (f x) (flat_map f xs) ∙ ap (λ n. length (f x) + n) (length_flat_map f xs)

pub length_filter : {A : Type 0} (p : A → Bool) (xs : List A) → length (filter p xs) ≡ total (λ x. one_if (p x)) xs
length_filter p [] = refl
length_filter p (x ∷ xs) = by_test (p x) (length_filter p xs)
  where
    by_test : (b : Bool) → length (filter p xs) ≡ total (λ y. one_if (p y)) xs →
        length (cond b (x ∷ filter p xs) (filter p xs)) ≡ one_if b + total (λ y. one_if (p y)) xs
    by_test true rest = omega arith
    by_test false rest = omega arith

-- one number below another is hit once
hit_below : (v : ℕ) (c : Bool) (n : ℕ) →
    total (λ b. one_if (nat_eq v b && c)) (numbers_below n) ≡ one_if (nat_lt v n && c)
hit_below v c zero = ap (λ b. one_if (b && c)) (let past : false ≡ nat_lt v 0 = grind (arith, nat_tests) in past)
hit_below v c (suc n) =
    total_append (λ b. one_if (nat_eq v b && c)) (numbers_below n) n
    ∙ ap (λ m. m + one_if (nat_eq v n && c)) (hit_below v c n)
    ∙ go (nat_lt v n) (nat_eq v n) (nat_lt v (suc n)) refl refl refl
  where
    go : (a b d : Bool) → nat_lt v n ≡ a → nat_eq v n ≡ b → nat_lt v (suc n) ≡ d →
        one_if (a && c) + one_if (b && c) ≡ one_if (d && c)
    go true true d e f g = absurd (grind (arith, nat_tests))
    go true false true e f g = omega arith
    go true false false e f g = absurd (grind (arith, nat_tests))
    go false true true e f g = omega arith
    go false true false e f g = absurd (grind (arith, nat_tests))
    go false false true e f g = absurd (grind (arith, nat_tests))
    go false false false e f g = omega arith

pub hit_once : (v : ℕ) (c : Bool) (n : ℕ) →
    total (λ b. one_if (nat_eq v b && c)) (numbers_below n) ≤ one_if c
hit_once v c n = let is = hit_below v c n in let few = go (nat_lt v n) in omega arith
  where
    go : (b : Bool) → one_if (b && c) ≤ one_if c
    go true = omega arith
    go false = omega arith

-- a sum over the numbers below the next is the first and the sum over the others
from_first : (f : ℕ → ℕ) (n : ℕ) → total f (numbers_below (suc n)) ≡ f 0 + total (λ k. f (suc k)) (numbers_below n)
from_first f zero = refl
from_first f (suc n) =
    let whole = total_append f (numbers_below (suc n)) (suc n) in
    let fewer = from_first f n in
    let last = total_append (λ k. f (suc k)) (numbers_below n) n in
    omega arith

-- a sum over the places of a list is one over its elements
pub total_places : {A : Type 0} (f : A → ℕ) (xs : List A) (none : A) →
    total (λ k. f (get_or xs k none)) (numbers_below (length xs)) ≡ total f xs
total_places f [] none = refl
total_places f (x ∷ xs) none =
    from_first (λ k. f (get_or (x ∷ xs) k none)) (length xs)
    ∙ ap (λ n. f x + n) (total_places f xs none)

-- ---- chunks in transit

module _ (l : Ledger) (k : ℕ) where
  abbrev moves : Chunk → Bool
  moves chunk = is_in_transit (history_on l k) chunk.name

  -- a chunk is listed in one bucket of its segment, and in no other segment
  in_segment : (chunk : Chunk) (e : Bool) (n : ℕ) →
      total (λ b. one_if (e && nat_eq chunk.bucket b && moves chunk)) (numbers_below n) ≤ one_if (e && moves chunk)
  in_segment chunk true n = hit_once chunk.bucket (moves chunk) n
  in_segment chunk false n = let none = total_zero (numbers_below n) in omega arith

  once : (chunk : Chunk) →
      total (λ segment. total (λ b. one_if (nat_eq chunk.segment segment && nat_eq chunk.bucket b && moves chunk))
      (numbers_below (layout_at l segment).count)) (numbers_below (length l.segments)) ≤ one_if (moves chunk)
  once chunk =
      let each = total_fewer (λ segment. total (λ b. one_if (nat_eq chunk.segment segment && nat_eq chunk.bucket b
      && moves chunk)) (numbers_below (layout_at l segment).count))
      (λ segment. one_if (nat_eq chunk.segment segment && moves chunk)) (numbers_below (length l.segments))
      (λ segment. in_segment chunk (nat_eq chunk.segment segment) (layout_at l segment).count) in
      let hit = hit_once chunk.segment (moves chunk) (length l.segments) in omega arith

  pub transit_on_few : length (transit_on l k) ≤ transits_on (history_on l k) l.chunks
  transit_on_few =
      let told =
      length_flat_map (λ segment. flat_map (transit_at l k segment) (numbers_below (layout_at l segment).count))
      (numbers_below (length l.segments))
      ∙ total_agree (λ segment. length (flat_map (transit_at l k segment)
      (numbers_below (layout_at l segment).count)))
      (λ segment. total (λ chunk. total (λ b. one_if (nat_eq chunk.segment segment && nat_eq chunk.bucket b
      && moves chunk)) (numbers_below (layout_at l segment).count)) l.chunks)
      (numbers_below (length l.segments))
      (λ j segment there. in_one segment)
      ∙ total_swap (λ segment chunk. total (λ b. one_if (nat_eq chunk.segment segment && nat_eq chunk.bucket b
      && moves chunk)) (numbers_below (layout_at l segment).count)) (numbers_below (length l.segments)) l.chunks in
      let few = total_fewer (λ chunk. total (λ segment. total (λ b. one_if (nat_eq chunk.segment segment
      && nat_eq chunk.bucket b && moves chunk)) (numbers_below (layout_at l segment).count))
      (numbers_below (length l.segments))) (λ chunk. one_if (moves chunk)) l.chunks once in omega arith
    where
      in_one : (segment : ℕ) →
          length (flat_map (transit_at l k segment) (numbers_below (layout_at l segment).count))
          ≡ total (λ chunk. total (λ b. one_if (nat_eq chunk.segment segment && nat_eq chunk.bucket b
          && moves chunk)) (numbers_below (layout_at l segment).count)) l.chunks
      in_one segment =
          length_flat_map (transit_at l k segment) (numbers_below (layout_at l segment).count)
          ∙ total_agree (λ b. length (transit_at l k segment b))
          (λ b. total (λ chunk. one_if (nat_eq chunk.segment segment && nat_eq chunk.bucket b && moves chunk))
          l.chunks) (numbers_below (layout_at l segment).count)
          (λ j b there. length_filter (λ chunk. nat_eq chunk.segment segment && nat_eq chunk.bucket b
          && moves chunk) l.chunks)
          ∙ total_swap (λ b chunk. one_if (nat_eq chunk.segment segment && nat_eq chunk.bucket b && moves chunk))
          (numbers_below (layout_at l segment).count) l.chunks

  pub lines_on_few : length (lines_on l k) ≤ transits_on (history_on l k) l.chunks
  lines_on_few =
      let long = length-map (transit_on l k) (λ (chunk : Chunk). Transit k (slot_of l chunk)) in
      let few = transit_on_few in omega arith

-- all lines together are no more than chunks are in transit, each counted once for each channel
pub transit_list_few : (l : Ledger) → length (transit_list l) ≤ transits_in l
transit_list_few l =
    let told = length_flat_map (lines_on l) (numbers_below (length l.histories)) in
    let few = total_fewer (λ k. length (lines_on l k)) (λ k. transits_on (history_on l k) l.chunks)
    (numbers_below (length l.histories)) (lines_on_few l) in
    let places = total_places (λ (h : ChannelHistory). transits_on h l.chunks) l.histories new_history in
    let swapped = total_swap (λ (h : ChannelHistory) (chunk : Chunk). one_if (is_in_transit h chunk.name)) l.histories
    l.chunks in omega arith
