-- How often a name stands in a list, and what a change of a channel's four lists leaves of its name's way.
use Rattle.std.proofs.Common.{ℕ, zero, suc, ◌+◌, ◌-◌, ◌<◌, ◌≤◌, ◌≡◌, ◌≢◌, true, false, cond, ◌||◌, inl, inr, nat_lt, nat_eq, List, [], ◌∷◌, ◌++◌, length, drop, Some, None, refl, sym, ap, ◌∙◌, subst, arith, zero-add, add-zero, add-one, length-append}
use Rattle.std.proofs.lemmas.List.{drop-append-le, append-nil}
use Rattle.std.proofs.lemmas.Bool.Decides.{nat_tests, eqb_tells}
use Rattle.cal_transport.specs.Ledger.{ChannelHistory, Departure, ByReceive, ByOverflow, received_names, occurrences, has_name, queued_names, completed_names, is_borrowed, borrow_count, is_in_transit}
use Rattle.cal_transport.specs.Step.{history_after_send, history_after_receive, history_after_release, history_after_reclaim}
use Rattle.cal_transport.specs.Soundness.{weight, IsOrderly}

-- ---- lists of names

pub occurrences-append : (name : ℕ) (xs ys : List ℕ) →
    occurrences name (xs ++ ys) ≡ occurrences name xs + occurrences name ys
occurrences-append name [] ys = omega arith
occurrences-append name (x ∷ xs) ys = omega (arith, occurrences-append name xs ys)

pub has_name-occurrences : (name : ℕ) (xs : List ℕ) → has_name name xs ≡ nat_lt 0 (occurrences name xs)
has_name-occurrences name [] = refl
has_name-occurrences name (x ∷ xs) =
    elim (nat_eq x name) as (λ b. (b || has_name name xs) ≡ nat_lt 0 (cond b 1 0 + occurrences name xs)) [
      | true ↦ grind (arith, nat_tests)
      | false ↦ rw zero-add (has_name-occurrences name xs)
    ]

pub occurrences_here : (name : ℕ) (xs : List ℕ) → occurrences name (name ∷ xs) ≡ suc (occurrences name xs)
occurrences_here name xs = grind (arith, nat_tests)

pub occurrences_else : (name other : ℕ) (xs : List ℕ) → other ≢ name →
    occurrences name (other ∷ xs) ≡ occurrences name xs
occurrences_else name other xs apart = grind (arith, nat_tests)

-- the list without the first that has this name
without : ℕ → List ℕ → List ℕ
without name [] = []
without name (x ∷ xs) = cond (nat_eq x name) xs (x ∷ without name xs)

length-without : (name : ℕ) (xs : List ℕ) → 0 < occurrences name xs → length (without name xs) + 1 ≡ length xs
unfolding without
length-without name [] some = absurd (omega arith)
length-without name (x ∷ xs) some = elim (eqb_tells x name) [
  | inl same ↦ rw same.0 (omega arith)
  | inr apart ↦ rw apart.0 (let e = occurrences_else name x xs apart.1 in omega (arith, length-without name xs))
]

occurrences-without : (name other : ℕ) (xs : List ℕ) → 0 < occurrences name xs →
    occurrences other (without name xs) + occurrences other (name ∷ []) ≡ occurrences other xs
unfolding without
occurrences-without name other [] some = absurd (omega arith)
occurrences-without name other (x ∷ xs) some = elim (eqb_tells x name) [
  | inl same ↦ rw same.0 (subst (λ y. occurrences other xs + occurrences other (y ∷ []) ≡ occurrences other (x ∷ xs))
      same.1 (omega arith))
  | inr apart ↦ rw apart.0
      (let e = occurrences_else name x xs apart.1 in omega (arith, occurrences-without name other xs))
]

-- a list in which no name stands more often than in another isn't longer
pub occurrences_bound_length : (xs ys : List ℕ) → ((name : ℕ) → occurrences name xs ≤ occurrences name ys) →
    length xs ≤ length ys
occurrences_bound_length [] ys bound = omega arith
occurrences_bound_length (x ∷ xs) ys bound =
    let here = occurrences_here x xs in
    let some : 0 < occurrences x ys = omega (arith, bound x) in
    let rest = occurrences_bound_length xs (without x ys)
    (λ name. omega (arith, bound name, occurrences-without x name ys some)) in
    omega (arith, rest, length-without x ys some)

-- a number that is 0 at a name, and 1 at most elsewhere, stays 1 at most where it rises there by one
one_more : (w : ℕ → ℕ) (name other : ℕ) → w name ≡ 0 → w other ≤ 1 → w other + occurrences other (name ∷ []) ≤ 1
one_more w name other none once = elim (eqb_tells name other) [
  | inl same ↦ (let e = occurrences_here other [] in let n = subst (λ x. w x ≡ 0) same.1 none in subst
      (λ x. w other + occurrences other (x ∷ []) ≤ 1) (sym same.1) (omega arith))
  | inr apart ↦ (let e = occurrences_else other name [] apart.1 in omega arith)
]

pub received-append : (xs ys : List Departure) → received_names (xs ++ ys) ≡ received_names xs ++ received_names ys
received-append [] ys = refl
received-append (ByReceive name ∷ xs) ys = ap (λ names. name ∷ names) (received-append xs ys)
received-append (ByOverflow name ∷ xs) ys = received-append xs ys

-- the first of what is left of a list leaves
pub drop_front : {A : Type 0} (k : ℕ) (xs : List A) (x : A) (rest : List A) → drop k xs ≡ x ∷ rest →
    drop (k + 1) xs ≡ rest
drop_front zero [] x rest e = cc
drop_front zero (y ∷ xs) x rest e = cc
drop_front (suc k) [] x rest e = cc
drop_front (suc k) (y ∷ xs) x rest e = let e' = drop_front k xs x rest e in rw add-one (rw add-one at e')

pub drop_front_within : {A : Type 0} (k : ℕ) (xs : List A) (x : A) (rest : List A) → drop k xs ≡ x ∷ rest →
    k < length xs
drop_front_within zero [] x rest e = cc
drop_front_within zero (y ∷ xs) x rest e = omega arith
drop_front_within (suc k) [] x rest e = cc
drop_front_within (suc k) (y ∷ xs) x rest e = omega (arith, drop_front_within k xs x rest e)

-- ---- a channel

pub is_in_transit-weight : (c : ChannelHistory) (name : ℕ) → is_in_transit c name ≡ nat_lt 0 (weight c name)
is_in_transit-weight c name =
    rw (has_name-occurrences name (queued_names c), has_name-occurrences name (completed_names c))
    (grind (arith, nat_tests))

-- ---- a send

pub queued-sent_on : (c : ChannelHistory) (name : ℕ) → IsOrderly c →
    queued_names (history_after_send c name None) ≡ queued_names c ++ name ∷ []
queued-sent_on c name o =
    rw (append-nil c.departures, drop-append-le (length c.departures) c.sent (name ∷ []) o.left_sent) refl

pub weight-sent_on : (c : ChannelHistory) (name other : ℕ) → IsOrderly c →
    weight (history_after_send c name None) other ≡ weight c other + occurrences other (name ∷ [])
weight-sent_on c name other o =
    rw (queued-sent_on c name o, append-nil c.departures)
    (omega (arith, occurrences-append other (queued_names c) (name ∷ [])))

pub is_borrowed-sent_on : (c : ChannelHistory) (name other : ℕ) →
    is_borrowed (history_after_send c name None) other ≡ is_borrowed c other
is_borrowed-sent_on c name other = rw append-nil refl

pub orderly_sent_on : (c : ChannelHistory) (name : ℕ) → IsOrderly c → weight c name ≡ 0 →
    IsOrderly (history_after_send c name None)
orderly_sent_on c name o none = record {
  left_sent = rw (append-nil c.departures) (omega (arith, length-append c.sent (name ∷ []), o.left_sent));
  released_received = rw (append-nil c.departures) o.released_received;
  reclaimed_released = o.reclaimed_released;
  named = λ other. rw (append-nil c.departures) (o.named other);
  once = λ other. rw (weight-sent_on c name other o) (one_more (weight c) name other none (o.once other));
}

-- ---- a receive

pub queued-received_from : (c : ChannelHistory) (name : ℕ) (rest : List ℕ) → queued_names c ≡ name ∷ rest →
    queued_names (history_after_receive c (Some name)) ≡ rest
queued-received_from c name rest e =
    rw length-append (drop_front (length c.departures) c.sent name rest e)

pub received-received_from : (c : ChannelHistory) (name : ℕ) →
    received_names (history_after_receive c (Some name)).departures ≡ received_names c.departures ++ name ∷ []
received-received_from c name = received-append c.departures (ByReceive name ∷ [])

pub weight-received_from : (c : ChannelHistory) (name : ℕ) (rest : List ℕ) (other : ℕ) → IsOrderly c →
    queued_names c ≡ name ∷ rest →
    weight (history_after_receive c (Some name)) other ≡ weight c other
weight-received_from c name rest other o e =
    rw (queued-received_from c name rest e, received-received_from c name)
    (let split = occurrences-append other (received_names c.departures) (name ∷ []) in
    let first = ap (occurrences other) e in
    let named = o.named other in omega arith)

pub orderly_received_from : (c : ChannelHistory) (name : ℕ) (rest : List ℕ) → IsOrderly c →
    queued_names c ≡ name ∷ rest →
    IsOrderly (history_after_receive c (Some name))
orderly_received_from c name rest o e = record {
  left_sent = omega (
    arith,
    length-append c.departures (ByReceive name ∷ []),
    drop_front_within (length c.departures) c.sent name rest e,
  );
  released_received = rw (received-received_from c name)
      (omega (arith, length-append (received_names c.departures) (name ∷ []), o.released_received));
  reclaimed_released = o.reclaimed_released;
  named = λ other. rw (received-received_from c name)
      (omega (arith, occurrences-append other (received_names c.departures) (name ∷ []), o.named other));
  once = λ other. rw (weight-received_from c name rest other o e) (o.once other);
}

pub borrow_count-received_from : (c : ChannelHistory) (name : ℕ) → IsOrderly c →
    borrow_count (history_after_receive c (Some name)) ≡ borrow_count c + 1
borrow_count-received_from c name o =
    rw (received-received_from c name)
    (omega (arith, length-append (received_names c.departures) (name ∷ []), o.released_received))

-- a queued chunk isn't borrowed
pub is_borrowed_queued : (c : ChannelHistory) (name : ℕ) (rest : List ℕ) → IsOrderly c → queued_names c ≡ name ∷ rest →
    is_borrowed c name ≡ false
is_borrowed_queued c name rest o e =
    let first = ap (occurrences name) e ∙ occurrences_here name rest in
    let once = o.once name in grind (arith, nat_tests)

pub is_borrowed-received_from : (c : ChannelHistory) (name other : ℕ) → name ≢ other →
    is_borrowed (history_after_receive c (Some name)) other ≡ is_borrowed c other
is_borrowed-received_from c name other apart =
    rw (
      received-received_from c name,
      occurrences-append other (received_names c.departures) (name ∷ []),
      occurrences_else other name [] apart,
      add-zero,
    ) refl

pub is_borrowed-received_here : (c : ChannelHistory) (name : ℕ) → IsOrderly c →
    is_borrowed (history_after_receive c (Some name)) name ≡ true
is_borrowed-received_here c name o =
    rw (received-received_from c name) (let split = occurrences-append name (received_names c.departures) (name ∷ []) in
    let here = occurrences_here name [] in let named = o.named name in grind (arith, nat_tests))

-- ---- a release

pub completed-released_on : (c : ChannelHistory) (name : ℕ) → IsOrderly c →
    completed_names (history_after_release c name) ≡ completed_names c ++ name ∷ []
completed-released_on c name o = drop-append-le (length c.reclaimed) c.released (name ∷ []) o.reclaimed_released

-- a borrowed chunk was received once more than it was given back, and is on its way nowhere else
pub borrowed_once : (c : ChannelHistory) (name : ℕ) → IsOrderly c → is_borrowed c name ≡ true →
    occurrences name (received_names c.departures) ≡ occurrences name c.released + 1
borrowed_once c name o borrowed = let once = o.once name in grind (arith, nat_tests)

weight-released_here : (c : ChannelHistory) (name : ℕ) → IsOrderly c → is_borrowed c name ≡ true →
    weight (history_after_release c name) name ≡ weight c name
weight-released_here c name o borrowed =
    rw (completed-released_on c name o)
    (let here = occurrences_here name [] in let once = borrowed_once c name o borrowed in
    omega (
      arith,
      occurrences-append name c.released (name ∷ []),
      occurrences-append name (completed_names c) (name ∷ []),
    ))

weight-released_else : (c : ChannelHistory) (name other : ℕ) → IsOrderly c → name ≢ other →
    weight (history_after_release c name) other ≡ weight c other
weight-released_else c name other o apart =
    rw (completed-released_on c name o)
    (let e = occurrences_else other name [] apart in
    omega (
      arith,
      occurrences-append other c.released (name ∷ []),
      occurrences-append other (completed_names c) (name ∷ []),
    ))

pub weight-released_on : (c : ChannelHistory) (name other : ℕ) → IsOrderly c → is_borrowed c name ≡ true →
    weight (history_after_release c name) other ≡ weight c other
weight-released_on c name other o borrowed = elim (eqb_tells name other) [
  | inl same ↦ subst (λ x. weight (history_after_release c name) x ≡ weight c x) same.1
      (weight-released_here c name o borrowed)
  | inr apart ↦ weight-released_else c name other o apart.1
]

named_released_on : (c : ChannelHistory) (name other : ℕ) → IsOrderly c → is_borrowed c name ≡ true →
    occurrences other (c.released ++ name ∷ []) ≤ occurrences other (received_names c.departures)
named_released_on c name other o borrowed = elim (eqb_tells name other) [
  | inl same ↦ subst (λ x. occurrences x (c.released ++ name ∷ []) ≤ occurrences x (received_names c.departures)) same.1
      (let here = occurrences_here name [] in
      omega (arith, occurrences-append name c.released (name ∷ []), borrowed_once c name o borrowed))
  | inr apart ↦ (let e = occurrences_else other name [] apart.1 in
      omega (arith, occurrences-append other c.released (name ∷ []), o.named other))
]

pub fewer_released : (c : ChannelHistory) (name : ℕ) → IsOrderly c → is_borrowed c name ≡ true →
    length c.released < length (received_names c.departures)
fewer_released c name o borrowed =
    omega (
      arith,
      length-append c.released (name ∷ []),
      occurrences_bound_length (c.released ++ name ∷ []) (received_names c.departures)
          (λ other. named_released_on c name other o borrowed),
    )

pub orderly_released_on : (c : ChannelHistory) (name : ℕ) → IsOrderly c → is_borrowed c name ≡ true →
    IsOrderly (history_after_release c name)
orderly_released_on c name o borrowed = record {
  left_sent = o.left_sent;
  released_received = omega (arith, length-append c.released (name ∷ []), fewer_released c name o borrowed);
  reclaimed_released = omega (arith, length-append c.released (name ∷ []), o.reclaimed_released);
  named = λ other. named_released_on c name other o borrowed;
  once = λ other. rw (weight-released_on c name other o borrowed) (o.once other);
}

pub borrow_count-released_on : (c : ChannelHistory) (name : ℕ) →
    borrow_count (history_after_release c name) ≡ borrow_count c - 1
borrow_count-released_on c name = rw (length-append c.released (name ∷ [])) (omega arith)

pub is_borrowed-released_else : (c : ChannelHistory) (name other : ℕ) → name ≢ other →
    is_borrowed (history_after_release c name) other ≡ is_borrowed c other
is_borrowed-released_else c name other apart =
    rw (occurrences-append other c.released (name ∷ []), occurrences_else other name [] apart, add-zero) refl

pub is_borrowed-released_here : (c : ChannelHistory) (name : ℕ) → IsOrderly c → is_borrowed c name ≡ true →
    is_borrowed (history_after_release c name) name ≡ false
is_borrowed-released_here c name o borrowed =
    let split = occurrences-append name c.released (name ∷ []) in let here = occurrences_here name [] in
    let once = borrowed_once c name o borrowed in grind (arith, nat_tests)

-- ---- a reclaim

pub completed-reclaimed_from : (c : ChannelHistory) (name : ℕ) (rest : List ℕ) → completed_names c ≡ name ∷ rest →
    completed_names (history_after_reclaim c (Some name)) ≡ rest
completed-reclaimed_from c name rest e = rw length-append (drop_front (length c.reclaimed) c.released name rest e)

pub weight-reclaimed_from : (c : ChannelHistory) (name : ℕ) (rest : List ℕ) (other : ℕ) →
    completed_names c ≡ name ∷ rest →
    weight (history_after_reclaim c (Some name)) other + occurrences other (name ∷ []) ≡ weight c other
weight-reclaimed_from c name rest other e =
    rw (completed-reclaimed_from c name rest e)
    (let first = ap (occurrences other) e in omega arith)

pub orderly_reclaimed_from : (c : ChannelHistory) (name : ℕ) (rest : List ℕ) → IsOrderly c →
    completed_names c ≡ name ∷ rest →
    IsOrderly (history_after_reclaim c (Some name))
orderly_reclaimed_from c name rest o e = record {
  left_sent = o.left_sent;
  released_received = o.released_received;
  reclaimed_released = omega
      (arith, length-append c.reclaimed (name ∷ []), drop_front_within (length c.reclaimed) c.released name rest e);
  named = o.named;
  once = λ other. omega (arith, weight-reclaimed_from c name rest other e, o.once other);
}
