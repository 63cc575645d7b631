-- A walk from one used bucket of a channel to the next tells the chunks in transit there.
use Rattle.std.proofs.Common.{ℕ, zero, suc, ◌+◌, ◌*◌, ◌<◌, ◌≤◌, ◌≡◌, ◌≢◌, Bool, true, false, cond, ◌&&◌, nat_eq, nat_lt, List, [], ◌∷◌, ◌++◌, length, get_or, map, Option, Some, None, inl, inr, refl, sym, ap, ◌∙◌, subst, arith, length-append, append_assoc}
use Rattle.std.specs.List.{slice_get, flat_map, filter}
use Rattle.std.proofs.lemmas.Bool.{cases_lt, true≢false, eqb-true, and_from, and_parts, eq-eqb}
use Rattle.std.proofs.lemmas.Option.{same_Some, none-some}
use Rattle.std.proofs.lemmas.List.{append-nil, map-append}
use Rattle.std.proofs.lemmas.Grind.{flat_map-append}
use Rattle.cal_transport.specs.declared.reply.Reply.{Reply}
use Rattle.cal_transport.specs.declared.reply.Reply.TheVariants.{Transit}
use Rattle.cal_transport.specs.Ledger.{Ledger, Chunk, ChannelHistory, history_on, is_in_transit, is_live, layout_at, numbers_below}
use Rattle.cal_transport.specs.Weights.{holds, lies_in, total, transits, one_if}
use Rattle.cal_transport.specs.Step.{slot_of}
use Rattle.cal_transport.specs.Run.{transit_at, transit_on, transit_list}
use Rattle.cal_transport.specs.TransitLines.{line_of, lines_below, lines_in, lines_on}
use Rattle.cal_transport.proofs.Settled.{IsSettled}
use Rattle.cal_transport.proofs.Following.{Passes, any_at, any_from}
use Rattle.cal_transport.proofs.Changed.{transit_lives}

-- ---- lists

filter_none : {A : Type 0} (p : A → Bool) (xs : List A) →
    ((i : ℕ) (x : A) → slice_get xs i ≡ Some x → p x ≡ false) → filter p xs ≡ []
filter_none p [] none = refl
filter_none p (y ∷ xs) none =
    ap (λ b. cond b (y ∷ filter p xs) (filter p xs)) (none 0 y refl) ∙ filter_none p xs (λ i x e. none (suc i) x e)

filter_one : {A : Type 0} (p : A → Bool) (xs : List A) (i : ℕ) (x : A) → slice_get xs i ≡ Some x → p x ≡ true →
    ((j : ℕ) (y : A) → slice_get xs j ≡ Some y → j ≢ i → p y ≡ false) → filter p xs ≡ x ∷ []
filter_one p [] i x e here else = absurd (none-some x e)
filter_one p (y ∷ xs) zero x e here else =
    let same = same_Some y x e in
    ap (λ b. cond b (y ∷ filter p xs) (filter p xs)) (ap p same ∙ here)
    ∙ ap (λ rest. y ∷ rest) (filter_none p xs (λ j z f. else (suc j) z f (λ q. absurd (omega arith))))
    ∙ ap (λ z. z ∷ []) same
filter_one p (y ∷ xs) (suc i) x e here else =
    ap (λ b. cond b (y ∷ filter p xs) (filter p xs)) (else 0 y refl (λ q. absurd (omega arith)))
    ∙ filter_one p xs i x e here (λ j z f apart. else (suc j) z f (λ q. apart (omega arith)))

pub map_flat_map : {A B C : Type 0} (g : B → C) (f : A → List B) (xs : List A) →
    map g (flat_map f xs) ≡ flat_map (λ x. map g (f x)) xs
map_flat_map g f [] = refl
map_flat_map g f (x ∷ xs) =
    map-append g (f x) (flat_map f xs) ∙ ap (λ rest. map g (f x) ++ rest) (map_flat_map g f xs)

-- what a function gives at the next number comes last
pub flat_map_next : {A : Type 0} (f : ℕ → List A) (n : ℕ) →
    flat_map f (numbers_below (suc n)) ≡ flat_map f (numbers_below n) ++ f n
flat_map_next f n =
    flat_map-append f (numbers_below n) (n ∷ [])
    ∙ ap (λ last. flat_map f (numbers_below n) ++ last) (append-nil (f n))

-- where a function gives nothing between two numbers, nothing is added between them
pub flat_map_gap : {A : Type 0} (f : ℕ → List A) (start end : ℕ) → start ≤ end →
    ((k : ℕ) → start ≤ k → k < end → f k ≡ []) → flat_map f (numbers_below end) ≡ flat_map f (numbers_below start)
flat_map_gap f start zero up none = ap (λ k. flat_map f (numbers_below k)) (let e : 0 ≡ start = omega arith in e)
flat_map_gap f start (suc end) up none = elim (cases_lt end start) [
  | inl below ↦ ap (λ k. flat_map f (numbers_below k)) (let e : suc end ≡ start = omega arith in e)
  | inr past ↦ flat_map_next f end
      ∙ ap (λ last. flat_map f (numbers_below end) ++ last) (none end past (omega arith))
      ∙ append-nil (flat_map f (numbers_below end))
      ∙ flat_map_gap f start end past (λ k above below. none k above (omega arith))
]

-- where it gives nothing from either number on, both lists are the same
pub flat_map_ends : {A : Type 0} (f : ℕ → List A) (m n : ℕ) → ((k : ℕ) → m ≤ k → k < n → f k ≡ []) →
    ((k : ℕ) → n ≤ k → k < m → f k ≡ []) → flat_map f (numbers_below m) ≡ flat_map f (numbers_below n)
flat_map_ends f m n past beyond = elim (cases_lt m n) [
  | inl below ↦ sym (flat_map_gap f m n (omega arith) past)
  | inr above ↦ flat_map_gap f n m above beyond
]

-- a part of the lists that a function gives is no longer than all of them
pub part_few : {A : Type 0} (f : ℕ → List A) (k n : ℕ) → k < n →
    length (flat_map f (numbers_below k)) + length (f k) ≤ length (flat_map f (numbers_below n))
part_few f k zero below = absurd (omega arith)
part_few f k (suc n) below = elim (cases_lt k n) [
  | inl less ↦ let rest = part_few f k n less in
      let long = ap length (flat_map_next f n) ∙ length-append (flat_map f (numbers_below n)) (f n) in
      omega arith
  | inr past ↦ let same : k ≡ n = omega arith in
      let long = ap length (flat_map_next f n) ∙ length-append (flat_map f (numbers_below n)) (f n) in
      subst (λ m. length (flat_map f (numbers_below m)) + length (f m) ≤ length (flat_map f (numbers_below (suc n))))
      (sym same) (omega arith)
]

-- ---- the chunks of a channel

and3 : (a b c : Bool) → a ≡ true → b ≡ true → c ≡ true → (a && b && c) ≡ true
and3 true true true x y z = refl
and3 true true false x y z = z
and3 true false c x y z = absurd (true≢false (sym y))
and3 false b c x y z = absurd (true≢false (sym x))

and3_false : (a b c : Bool) → (a ≡ true → b ≡ true → c ≡ true → ⊥) → (a && b && c) ≡ false
and3_false true true true never = absurd (never refl refl refl)
and3_false true true false never = refl
and3_false true false c never = refl
and3_false false b c never = refl

module _ (l : Ledger) (s : IsSettled l) (k : ℕ) (h : ChannelHistory) (here : slice_get l.histories k ≡ Some h)
    (on : history_on l k ≡ h) (segment bucket : ℕ) where
  abbrev is_there : Chunk → Bool
  is_there chunk = nat_eq chunk.segment segment && nat_eq chunk.bucket bucket && is_in_transit (history_on l k)
      chunk.name

  moves_there : (i : ℕ) (chunk : Chunk) → slice_get l.chunks i ≡ Some chunk → nat_eq chunk.segment segment ≡ true →
      nat_eq chunk.bucket bucket ≡ true → is_in_transit (history_on l k) chunk.name ≡ true →
      holds (λ c. is_in_transit h c.name) l.chunks segment bucket ≡ true
  moves_there i chunk stands a b c =
      any_from (λ d. lies_in segment bucket d && is_in_transit h d.name) l.chunks i chunk stands
      (and_from (lies_in segment bucket chunk) (is_in_transit h chunk.name)
      (and_from (nat_eq chunk.segment segment) (nat_eq chunk.bucket bucket) a b)
      (ap (λ g. is_in_transit g chunk.name) (sym on) ∙ c))

  -- nothing is listed of a bucket that isn't in use
  pub none_there : holds (λ c. is_in_transit h c.name) l.chunks segment bucket ≡ false →
      transit_at l k segment bucket ≡ []
  none_there unused =
      filter_none is_there l.chunks (λ i chunk stands. and3_false (nat_eq chunk.segment segment)
      (nat_eq chunk.bucket bucket) (is_in_transit (history_on l k) chunk.name)
      (λ a b c. true≢false (sym (moves_there i chunk stands a b c) ∙ unused)))

  -- the chunk of a bucket that is in use
  pub record IsListed : Type 0 where
    pub index : ℕ
    pub chunk : Chunk
    pub stands : slice_get l.chunks index ≡ Some chunk
    pub in_segment : chunk.segment ≡ segment
    pub in_bucket : chunk.bucket ≡ bucket
    pub moves : is_in_transit h chunk.name ≡ true
    pub alive : is_live l chunk ≡ true
    pub alone : transit_at l k segment bucket ≡ chunk ∷ []

  pub one_there : holds (λ c. is_in_transit h c.name) l.chunks segment bucket ≡ true → IsListed
  one_there used =
      go (any_at (λ d. lies_in segment bucket d && is_in_transit h d.name) l.chunks used)
    where
      go : Passes (λ d. lies_in segment bucket d && is_in_transit h d.name) l.chunks → IsListed
      go p =
          let both = and_parts (lies_in segment bucket p.element) (is_in_transit h p.element.name) p.passes in
          let lies = and_parts (nat_eq p.element.segment segment) (nat_eq p.element.bucket bucket) both.0 in
          let at_segment = eqb-true p.element.segment segment lies.0 in
          let at_bucket = eqb-true p.element.bucket bucket lies.1 in
          let alive = transit_lives l k h p.element here both.1 in
          record {
            index = p.index;
            chunk = p.element;
            stands = p.stands;
            in_segment = at_segment;
            in_bucket = at_bucket;
            moves = both.1;
            alive = alive;
            alone = filter_one is_there l.chunks p.index p.element p.stands
                (and3 (nat_eq p.element.segment segment) (nat_eq p.element.bucket bucket)
                (is_in_transit (history_on l k) p.element.name) lies.0 lies.1
                (ap (λ g. is_in_transit g p.element.name) on ∙ both.1))
                (λ j y there apart. and3_false (nat_eq y.segment segment) (nat_eq y.bucket bucket)
                (is_in_transit (history_on l k) y.name) (λ a b c. apart
                (s.apart j p.index y p.element there p.stands
                (transit_lives l k h y here (ap (λ g. is_in_transit g y.name) (sym on) ∙ c)) alive
                (record {
                  segment = eqb-true y.segment segment a ∙ sym at_segment;
                  bucket = eqb-true y.bucket bucket b ∙ sym at_bucket;
                }))));
          }
