-- What each move of a channel keeps of its history: names on their way once, in order, and within the limits.
use Rattle.std.proofs.Common.{ℕ, zero, suc, ◌+◌, ◌-◌, ◌<◌, ◌≡◌, true, List, [], ◌∷◌, ◌++◌, length, take, drop, Some, None, refl, sym, ap, ◌∙◌, subst, arith, add-one, length-append, length-drop}
use Rattle.std.proofs.lemmas.List.{append-nil, take-append-le}
use Rattle.cal_transport.specs.declared.settings.Settings.{Settings}
use Rattle.cal_transport.specs.Settings.{completion_size}
use Rattle.cal_transport.specs.Ledger.{ChannelHistory, Departure, ByReceive, ByOverflow, received_names, occurrences, queued_names, completed_names, is_borrowed, borrow_count}
use Rattle.cal_transport.specs.Step.{history_after_send, history_after_receive, history_after_release, history_after_reclaim}
use Rattle.cal_transport.specs.Soundness.{departed_names, IsInOrder, IsWithinLimits, IsSoundHistory, weight, IsOrderly}
use Rattle.cal_transport.proofs.Names.{received-append, drop_front, drop_front_within, queued-sent_on, orderly_sent_on, queued-received_from, orderly_received_from, borrow_count-received_from, completed-released_on, orderly_released_on, borrow_count-released_on, completed-reclaimed_from, orderly_reclaimed_from}

-- ---- lists

-- the front of a list with the first of what is left
pub take_front : {A : Type 0} (k : ℕ) (xs : List A) (x : A) (rest : List A) → drop k xs ≡ x ∷ rest →
    take (k + 1) xs ≡ take k xs ++ x ∷ []
take_front zero [] x rest e = cc
take_front zero (y ∷ xs) x rest e = cc
take_front (suc k) [] x rest e = cc
take_front (suc k) (y ∷ xs) x rest e =
    let e' = take_front k xs x rest e in rw add-one (ap (λ zs. y ∷ zs) (rw add-one at e'))

pub departed-append : (xs ys : List Departure) → departed_names (xs ++ ys) ≡ departed_names xs ++ departed_names ys
departed-append [] ys = refl
departed-append (ByReceive name ∷ xs) ys = ap (λ names. name ∷ names) (departed-append xs ys)
departed-append (ByOverflow name ∷ xs) ys = ap (λ names. name ∷ names) (departed-append xs ys)

pub no_longer : (xs : List ℕ) (k : ℕ) → length (drop k xs) ≡ length xs - k
no_longer xs k = length-drop k xs

-- ---- the oldest leaves by overflow

abbrev pub history_after_overflow : ChannelHistory → ℕ → ChannelHistory
history_after_overflow c oldest = record c { departures = c.departures ++ ByOverflow oldest ∷ [] }

-- a send on a full queue is that, and then a send
pub overflow_then_send : (c : ChannelHistory) (name oldest : ℕ) →
    history_after_send c name (Some oldest) ≡ history_after_send (history_after_overflow c oldest) name None
overflow_then_send c name oldest = rw (append-nil (c.departures ++ ByOverflow oldest ∷ [])) refl

pub queued-overflowed : (c : ChannelHistory) (oldest : ℕ) (rest : List ℕ) → queued_names c ≡ oldest ∷ rest →
    queued_names (history_after_overflow c oldest) ≡ rest
queued-overflowed c oldest rest e = rw length-append (drop_front (length c.departures) c.sent oldest rest e)

pub received-overflowed : (c : ChannelHistory) (oldest : ℕ) →
    received_names (c.departures ++ ByOverflow oldest ∷ []) ≡ received_names c.departures
received-overflowed c oldest = received-append c.departures (ByOverflow oldest ∷ [])
    ∙ append-nil (received_names c.departures)

pub weight-overflowed : (c : ChannelHistory) (oldest : ℕ) (rest : List ℕ) (other : ℕ) →
    queued_names c ≡ oldest ∷ rest →
    weight (history_after_overflow c oldest) other + occurrences other (oldest ∷ []) ≡ weight c other
weight-overflowed c oldest rest other e =
    rw (queued-overflowed c oldest rest e, received-overflowed c oldest)
    (let first = ap (occurrences other) e in omega arith)

pub orderly_overflowed : (c : ChannelHistory) (oldest : ℕ) (rest : List ℕ) → IsOrderly c →
    queued_names c ≡ oldest ∷ rest → IsOrderly (history_after_overflow c oldest)
orderly_overflowed c oldest rest o e = record {
  left_sent = omega (
    arith,
    length-append c.departures (ByOverflow oldest ∷ []),
    drop_front_within (length c.departures) c.sent oldest rest e,
  );
  released_received = rw (received-overflowed c oldest) o.released_received;
  reclaimed_released = o.reclaimed_released;
  named = λ other. rw (received-overflowed c oldest) (o.named other);
  once = λ other. omega (arith, weight-overflowed c oldest rest other e, o.once other);
}

-- ---- in order

-- one more left a queue, the oldest
departs_in_order : (c : ChannelHistory) (left : Departure) (name : ℕ) (rest : List ℕ) → IsInOrder c →
    departed_names (left ∷ []) ≡ name ∷ [] → queued_names c ≡ name ∷ rest →
    departed_names (c.departures ++ left ∷ []) ≡ take (length (c.departures ++ left ∷ [])) c.sent
departs_in_order c left name rest i is e =
    departed-append c.departures (left ∷ []) ∙ ap (λ names. names ++ departed_names (left ∷ [])) i.departures
    ∙ ap (λ names. take (length c.departures) c.sent ++ names) is
    ∙ sym (take_front (length c.departures) c.sent name rest e)
    ∙ ap (λ n. take n c.sent) (sym (length-append c.departures (left ∷ [])))

in_order_sent : (c : ChannelHistory) (name : ℕ) → IsOrderly c → IsInOrder c → IsInOrder (history_after_send c name None)
in_order_sent c name o i = record {
  departures = rw (append-nil c.departures)
      (i.departures ∙ sym (take-append-le (length c.departures) c.sent (name ∷ []) o.left_sent));
  reclaims = i.reclaims;
}

in_order_overflowed : (c : ChannelHistory) (oldest : ℕ) (rest : List ℕ) → IsInOrder c →
    queued_names c ≡ oldest ∷ rest → IsInOrder (history_after_overflow c oldest)
in_order_overflowed c oldest rest i e =
    record { departures = departs_in_order c (ByOverflow oldest) oldest rest i refl e; reclaims = i.reclaims }

in_order_received : (c : ChannelHistory) (name : ℕ) (rest : List ℕ) → IsInOrder c → queued_names c ≡ name ∷ rest →
    IsInOrder (history_after_receive c (Some name))
in_order_received c name rest i e =
    record { departures = departs_in_order c (ByReceive name) name rest i refl e; reclaims = i.reclaims }

in_order_released : (c : ChannelHistory) (name : ℕ) → IsOrderly c → IsInOrder c →
    IsInOrder (history_after_release c name)
in_order_released c name o i = record {
  departures = i.departures;
  reclaims = i.reclaims ∙ sym (take-append-le (length c.reclaimed) c.released (name ∷ []) o.reclaimed_released);
}

in_order_reclaimed : (c : ChannelHistory) (name : ℕ) (rest : List ℕ) → IsInOrder c → completed_names c ≡ name ∷ rest →
    IsInOrder (history_after_reclaim c (Some name))
in_order_reclaimed c name rest i e = record {
  departures = i.departures;
  reclaims = ap (λ names. names ++ name ∷ []) i.reclaims ∙ sym (take_front (length c.reclaimed) c.released name rest e)
      ∙ ap (λ n. take n c.released) (sym (length-append c.reclaimed (name ∷ [])));
}

-- ---- within the limits

within_sent : (s : Settings) (c : ChannelHistory) (name : ℕ) → IsOrderly c → IsWithinLimits s c →
    length (queued_names c) < s.buffer → IsWithinLimits s (history_after_send c name None)
within_sent s c name o w room = record {
  queued = rw (queued-sent_on c name o) (omega (arith, length-append (queued_names c) (name ∷ [])));
  borrowed = rw (append-nil c.departures) w.borrowed;
  completed = w.completed;
}

within_overflowed : (s : Settings) (c : ChannelHistory) (oldest : ℕ) (rest : List ℕ) → IsWithinLimits s c →
    queued_names c ≡ oldest ∷ rest → IsWithinLimits s (history_after_overflow c oldest)
within_overflowed s c oldest rest w e = record {
  queued = rw (queued-overflowed c oldest rest e) (omega (arith, ap length e, w.queued));
  borrowed = rw (received-overflowed c oldest) w.borrowed;
  completed = w.completed;
}

within_received : (s : Settings) (c : ChannelHistory) (name : ℕ) (rest : List ℕ) → IsOrderly c → IsWithinLimits s c →
    queued_names c ≡ name ∷ rest → borrow_count c < s.borrow → IsWithinLimits s (history_after_receive c (Some name))
within_received s c name rest o w e room = record {
  queued = rw (queued-received_from c name rest e) (omega (arith, ap length e, w.queued));
  borrowed = omega (arith, borrow_count-received_from c name o);
  completed = w.completed;
}

within_released : (s : Settings) (c : ChannelHistory) (name : ℕ) → IsOrderly c → IsWithinLimits s c →
    length (completed_names c) < completion_size s → IsWithinLimits s (history_after_release c name)
within_released s c name o w room = record {
  queued = w.queued;
  borrowed = omega (arith, borrow_count-released_on c name, w.borrowed);
  completed = rw (completed-released_on c name o) (omega (arith, length-append (completed_names c) (name ∷ [])));
}

within_reclaimed : (s : Settings) (c : ChannelHistory) (name : ℕ) (rest : List ℕ) → IsWithinLimits s c →
    completed_names c ≡ name ∷ rest → IsWithinLimits s (history_after_reclaim c (Some name))
within_reclaimed s c name rest w e = record {
  queued = w.queued;
  borrowed = w.borrowed;
  completed = rw (completed-reclaimed_from c name rest e) (omega (arith, ap length e, w.completed));
}

-- ---- all of it

pub sound_sent : (s : Settings) (c : ChannelHistory) (name : ℕ) → IsSoundHistory s c → weight c name ≡ 0 →
    length (queued_names c) < s.buffer → IsSoundHistory s (history_after_send c name None)
sound_sent s c name h none room = record {
  orderly = orderly_sent_on c name h.orderly none;
  in_order = in_order_sent c name h.orderly h.in_order;
  limits = within_sent s c name h.orderly h.limits room;
}

pub sound_overflowed : (s : Settings) (c : ChannelHistory) (oldest : ℕ) (rest : List ℕ) → IsSoundHistory s c →
    queued_names c ≡ oldest ∷ rest → IsSoundHistory s (history_after_overflow c oldest)
sound_overflowed s c oldest rest h e = record {
  orderly = orderly_overflowed c oldest rest h.orderly e;
  in_order = in_order_overflowed c oldest rest h.in_order e;
  limits = within_overflowed s c oldest rest h.limits e;
}

-- a send on a full queue
pub sound_replaced : (s : Settings) (c : ChannelHistory) (name oldest : ℕ) (rest : List ℕ) → IsSoundHistory s c →
    queued_names c ≡ oldest ∷ rest → weight c name ≡ 0 → IsSoundHistory s (history_after_send c name (Some oldest))
sound_replaced s c name oldest rest h e none =
    let between = sound_overflowed s c oldest rest h e in
    let lighter = weight-overflowed c oldest rest name e in
    let shorter = ap length (queued-overflowed c oldest rest e) in
    let long = ap length e in
    let within = h.limits.queued in
    subst (IsSoundHistory s) (sym (overflow_then_send c name oldest))
    (sound_sent s (history_after_overflow c oldest) name between (omega arith) (omega arith))

pub sound_received : (s : Settings) (c : ChannelHistory) (name : ℕ) (rest : List ℕ) → IsSoundHistory s c →
    queued_names c ≡ name ∷ rest → borrow_count c < s.borrow →
    IsSoundHistory s (history_after_receive c (Some name))
sound_received s c name rest h e room = record {
  orderly = orderly_received_from c name rest h.orderly e;
  in_order = in_order_received c name rest h.in_order e;
  limits = within_received s c name rest h.orderly h.limits e room;
}

pub sound_released : (s : Settings) (c : ChannelHistory) (name : ℕ) → IsSoundHistory s c → is_borrowed c name ≡ true →
    length (completed_names c) < completion_size s → IsSoundHistory s (history_after_release c name)
sound_released s c name h borrowed room = record {
  orderly = orderly_released_on c name h.orderly borrowed;
  in_order = in_order_released c name h.orderly h.in_order;
  limits = within_released s c name h.orderly h.limits room;
}

pub sound_reclaimed : (s : Settings) (c : ChannelHistory) (name : ℕ) (rest : List ℕ) → IsSoundHistory s c →
    completed_names c ≡ name ∷ rest → IsSoundHistory s (history_after_reclaim c (Some name))
sound_reclaimed s c name rest h e = record {
  orderly = orderly_reclaimed_from c name rest h.orderly e;
  in_order = in_order_reclaimed c name rest h.in_order e;
  limits = within_reclaimed s c name rest h.limits e;
}
