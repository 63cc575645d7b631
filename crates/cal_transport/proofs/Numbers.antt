-- Names one after another, as a channel's history has them where all that is sent is received and given back in order.
use Rattle.std.proofs.Common.{ℕ, zero, suc, ◌+◌, ◌-◌, ◌<◌, ◌≤◌, ◌≡◌, true, List, [], ◌∷◌, ◌++◌, length, drop, map, Some, None, refl, sym, ap, ◌∙◌, subst, arith}
use Rattle.std.proofs.lemmas.List.{append-nil, length-map, map-append}
use Rattle.std.proofs.lemmas.Bool.{lt-ltb}
use Rattle.cal_transport.specs.Ledger.{ChannelHistory, ByReceive, received_names, occurrences, queued_names, completed_names, is_borrowed, borrow_count}
use Rattle.cal_transport.specs.Step.{history_after_send, history_after_receive, history_after_release}
use Rattle.cal_transport.specs.Soundness.{weight}
use Rattle.cal_transport.specs.FillList.{names_from}
use Rattle.cal_transport.proofs.Names.{occurrences_else, occurrences_here}

-- ---- names from a number on

pub names_from-length : (first count : ℕ) → length (names_from first count) ≡ count
names_from-length first zero = refl
names_from-length first (suc count) = omega (arith, names_from-length (first + 1) count)

pub names_from-push : (first count : ℕ) → names_from first count ++ (first + count) ∷ [] ≡ names_from first (suc count)
names_from-push first zero = ap (λ n. n ∷ []) (let e : first + 0 ≡ first = omega arith in e)
names_from-push first (suc count) =
    let e : first + suc count ≡ first + 1 + count = omega arith in
    ap (λ n. first ∷ (names_from (first + 1) count ++ n ∷ [])) e
    ∙ ap (λ ns. first ∷ ns) (names_from-push (first + 1) count)

pub names_from-drop : (k first count : ℕ) → drop k (names_from first count) ≡ names_from (first + k) (count - k)
names_from-drop zero first count =
    let a : first ≡ first + 0 = omega arith in let b : count ≡ count - 0 = omega arith in
    ap (λ n. names_from n count) a ∙ ap (names_from (first + 0)) b
names_from-drop (suc k) first zero = ap (names_from (first + suc k)) (let e : 0 ≡ 0 - suc k = omega arith in e)
names_from-drop (suc k) first (suc count) =
    let a : first + 1 + k ≡ first + suc k = omega arith in
    let b : count - k ≡ suc count - suc k = omega arith in
    names_from-drop k (first + 1) count ∙ ap (λ n. names_from n (count - k)) a ∙ ap (names_from (first + suc k)) b

pub occurrences-below : (name first count : ℕ) → name < first → occurrences name (names_from first count) ≡ 0
occurrences-below name first zero below = refl
occurrences-below name first (suc count) below =
    occurrences_else name first (names_from (first + 1) count) (λ e. absurd (omega arith))
    ∙ occurrences-below name (first + 1) count (omega arith)

pub occurrences-past : (name first count : ℕ) → first + count ≤ name → occurrences name (names_from first count) ≡ 0
occurrences-past name first zero past = refl
occurrences-past name first (suc count) past =
    occurrences_else name first (names_from (first + 1) count) (λ e. absurd (omega arith))
    ∙ occurrences-past name (first + 1) count (omega arith)

pub occurrences-within : (k first count : ℕ) → k < count → occurrences (first + k) (names_from first count) ≡ 1
occurrences-within k first zero below = absurd (omega arith)
occurrences-within zero first (suc count) below =
    let e : first + 0 ≡ first = omega arith in
    subst (λ n. occurrences n (names_from first (suc count)) ≡ 1) (sym e)
    (occurrences_here first (names_from (first + 1) count)
    ∙ ap suc (occurrences-below first (first + 1) count (omega arith)))
occurrences-within (suc k) first (suc count) below =
    let e : first + 1 + k ≡ first + suc k = omega arith in
    occurrences_else (first + suc k) first (names_from (first + 1) count) (λ q. absurd (omega arith))
    ∙ subst (λ n. occurrences n (names_from (first + 1) count) ≡ 1) e (occurrences-within k (first + 1) count
    (omega arith))

pub all_received : (names : List ℕ) → received_names (map ByReceive names) ≡ names
all_received [] = refl
all_received (name ∷ names) = ap (λ ns. name ∷ ns) (all_received names)

-- ---- a channel's history as three numbers

-- the first names were sent, the first of them received, and the first of those released; none was reclaimed
abbrev pub counted : ℕ → ℕ → ℕ → ChannelHistory
counted sent received released = record {
  sent = names_from 1 sent;
  departures = map ByReceive (names_from 1 received);
  released = names_from 1 released;
  reclaimed = [];
}

module _ (s r e : ℕ) where
  pub counted-queued : queued_names (counted s r e) ≡ names_from (1 + r) (s - r)
  counted-queued = ap (λ n. drop n (names_from 1 s)) (length-map (names_from 1 r) ByReceive ∙ names_from-length 1 r)
      ∙ names_from-drop r 1 s

  pub counted-received : received_names (counted s r e).departures ≡ names_from 1 r
  counted-received = all_received (names_from 1 r)

  pub counted-queue_length : length (queued_names (counted s r e)) ≡ s - r
  counted-queue_length = ap length counted-queued ∙ names_from-length (1 + r) (s - r)

  pub counted-borrow_count : borrow_count (counted s r e) ≡ r - e
  counted-borrow_count =
      let a = ap length counted-received ∙ names_from-length 1 r in let b = names_from-length 1 e in omega arith

  pub counted-completed_length : length (completed_names (counted s r e)) ≡ e
  counted-completed_length = names_from-length 1 e

  -- the next name isn't on its way
  pub counted-next : r ≤ s → e ≤ r → weight (counted s r e) (1 + s) ≡ 0
  counted-next within given =
      let a = ap (occurrences (1 + s)) counted-queued ∙ occurrences-past (1 + s) (1 + r) (s - r) (omega arith) in
      let b = ap (occurrences (1 + s)) counted-received ∙ occurrences-past (1 + s) 1 r (omega arith) in
      let c = occurrences-past (1 + s) 1 e (omega arith) in
      omega arith

  -- the oldest borrowed name
  pub counted-borrowed : e < r → is_borrowed (counted s r e) (1 + e) ≡ true
  counted-borrowed held =
      let a = ap (occurrences (1 + e)) counted-received ∙ occurrences-within e 1 r held in
      let b = occurrences-past (1 + e) 1 e (omega arith) in
      lt-ltb (occurrences (1 + e) (names_from 1 e))
      (occurrences (1 + e) (received_names (map ByReceive (names_from 1 r)))) (omega arith)

  pub counted-sent : history_after_send (counted s r e) (1 + s) None ≡ counted (suc s) r e
  counted-sent = ap (λ ns. record (counted s r e) {
    sent = ns;
    departures = map ByReceive (names_from 1 r) ++ [];
  }) (names_from-push 1 s)
      ∙ ap (λ ds. record (counted (suc s) r e) { departures = ds }) (append-nil (map ByReceive (names_from 1 r)))

  pub counted-taken : history_after_receive (counted s r e) (Some (1 + r)) ≡ counted s (suc r) e
  counted-taken = ap (λ ds. record (counted s r e) { departures = ds })
      (sym (map-append ByReceive (names_from 1 r) ((1 + r) ∷ [])) ∙ ap (map ByReceive) (names_from-push 1 r))

  pub counted-given : history_after_release (counted s r e) (1 + e) ≡ counted s r (suc e)
  counted-given = ap (λ ns. record (counted s r e) { released = ns }) (names_from-push 1 e)
