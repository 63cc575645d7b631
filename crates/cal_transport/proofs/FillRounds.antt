-- The rounds of the fill list, one after another, and what is in transit at its end.
use Rattle.std.proofs.Common.{ℕ, zero, suc, ◌+◌, ◌/◌, ◌%◌, ◌<◌, ◌≤◌, ◌≡◌, inl, inr, Bool, true, false, cond, not, ◌&&◌, ◌||◌, nat_eq, nat_lt, List, [], ◌∷◌, ◌++◌, length, map, replicate, Option, Some, None, refl, sym, ap, ◌∙◌, subst, arith, length-append}
use Rattle.std.specs.Int.{is_power_of_two}
use Rattle.std.specs.List.{slice_get, list_any, filter, flat_map}
use Rattle.std.proofs.lemmas.Bool.{false≢true, cases_Bool, cond-true, and_parts, and_from, not-false, or_cases, or_left, or_right, lt-ltb, le-ltb, ltb-true, eq-eqb, not_from_true}
use Rattle.std.proofs.lemmas.List.{length-map, length_push}
use Rattle.std.proofs.lemmas.Option.{none-some, slice_get_within}
use Rattle.cal_alloc.specs.Growth.{SegmentLayout}
use Rattle.cal_transport.specs.declared.settings.Settings.{Settings}
use Rattle.cal_transport.specs.declared.command.Command.{Command}
use Rattle.cal_transport.specs.declared.command.Command.TheVariants as command
use Rattle.cal_transport.specs.declared.reply.Reply.{Reply}
use Rattle.cal_transport.specs.declared.reply.Reply.TheVariants.{Loaned, Written, Sent, Received, Shown, Released, Reclaimed, Discarded, Counted, Refused, Transit}
use Rattle.cal_transport.specs.declared.reply.Refusal.TheVariants as refusal
use Rattle.cal_transport.specs.Settings.{clamped_settings, first_layout}
use Rattle.cal_transport.specs.Ledger.{Ledger, Chunk, ChannelHistory, new_history, first_ledger, is_live, is_free, has_free_bucket, numbers_below, is_in_transit}
use Rattle.cal_transport.specs.LoanCause.{serves, static_cause, is_static, growth_cause, next_segment}
use Rattle.cal_transport.specs.Cause.{cause, current_segment, is_full}
use Rattle.cal_transport.specs.Step.{IsLoan, after_loan, grown_ledger, new_chunk, slot_of}
use Rattle.cal_transport.specs.Run.{IsRun, transit_at, transit_on, transit_list}
use Rattle.cal_transport.specs.Soundness.{weight}
use Rattle.cal_transport.specs.FillList.{names_from, IsServed, AreServed, AreFilled, completed_after, fill_list, send_and_receive, send_and_leave, release_and_receive}
use Rattle.cal_transport.proofs.Opening.{can_make}
use Rattle.cal_transport.proofs.Lists.{old_or_new}
use Rattle.cal_transport.proofs.Names.{is_in_transit-weight}
use Rattle.cal_transport.proofs.Growing.{static_serves}
use Rattle.cal_transport.proofs.Lending.{free_parts}
use Rattle.cal_transport.proofs.Sound.{first_sizes}
use Rattle.cal_transport.proofs.Numbers.{counted, counted-completed_length, occurrences-within}
use Rattle.cal_transport.proofs.Pigeons.{by_bucket, counted_by_bucket, all_pass, passes_below, few_taken}
use Rattle.cal_transport.proofs.Filling.{Ends, goes_on, completed_count, after_none, FillSettings, AreFillChunks, filled, no_cause, sends_on, receives_on, releases_on, reclaims_on}

-- ---- a free bucket

one_power : is_power_of_two 1 ≡ true
unfolding lib.Count.ones lib.Count.ones_in
one_power = refl

any_unfiltered : (p q t : Chunk → Bool) (chunks : List Chunk) → ((c : Chunk) → p c ≡ true → t c ≡ true) →
    list_any p (filter q chunks) ≡ true → list_any t chunks ≡ true
any_unfiltered p q t [] so some = absurd (false≢true some)
any_unfiltered p q t (c ∷ chunks) so some = go (any_unfiltered p q t chunks so) (q c) refl
  where
    go : (list_any p (filter q chunks) ≡ true → list_any t chunks ≡ true) → (b : Bool) → q c ≡ b →
        (t c || list_any t chunks) ≡ true
    go rest true is =
        let some' : (p c || list_any p (filter q chunks)) ≡ true =
        sym (ap (λ b. list_any p (cond b (c ∷ filter q chunks) (filter q chunks))) is) ∙ some in
        elim (or_cases (p c) (list_any p (filter q chunks)) some') [
          | inl here ↦ or_left (t c) (list_any t chunks) (so c here)
          | inr later ↦ or_right (t c) (list_any t chunks) (rest later)
        ]
    go rest false is = or_right (t c) (list_any t chunks) (rest
        (sym (ap (λ b. list_any p (cond b (c ∷ filter q chunks) (filter q chunks))) is) ∙ some))

-- fewer chunks than buckets leave one free
free_left : (s : Settings) (first : SegmentLayout) (chunks : List Chunk) (opened : Option ℕ) (h : ChannelHistory) →
    length chunks < first.count → is_full (filled s first chunks opened h) ≡ false
free_left s first chunks opened h fewer = elim (cases_Bool (has_free_bucket l 0)) [
  | inl some ↦ not_from_true (has_free_bucket l 0) some
  | inr none ↦ absurd (let many = few_taken chunks first.count (taken none) in omega arith)
]
  where
    l : Ledger
    l = filled s first chunks opened h

    taken : has_free_bucket l 0 ≡ false → (k : ℕ) → k < first.count →
        list_any (λ c. nat_eq c.bucket k && true) chunks ≡ true
    taken none k below =
        let held = not-false (list_any (λ c. nat_eq c.segment 0 && nat_eq c.bucket k) (filter (is_live l) chunks))
        (passes_below (is_free l 0) first.count none k below) in
        any_unfiltered (λ c. nat_eq c.segment 0 && nat_eq c.bucket k) (is_live l) (λ c. nat_eq c.bucket k && true)
        chunks
        (λ c both. and_from (nat_eq c.bucket k) true (and_parts (nat_eq c.segment 0) (nat_eq c.bucket k) both).1 refl)
        held

-- ---- what is in transit at the end

flat_agree : (f g : ℕ → List Chunk) (ks : List ℕ) → ((k : ℕ) → f k ≡ g k) → flat_map f ks ≡ flat_map g ks
flat_agree f g [] same = refl
flat_agree f g (k ∷ ks) same = ap (λ front. front ++ flat_map f ks) (same k)
    ∙ ap (λ rest. g k ++ rest) (flat_agree f g ks same)

filter_agree : (p q : Chunk → Bool) (chunks : List Chunk) → ((c : Chunk) → p c ≡ q c) →
    filter p chunks ≡ filter q chunks
filter_agree p q [] same = refl
filter_agree p q (c ∷ chunks) same = ap (λ b. cond b (c ∷ filter p chunks) (filter p chunks)) (same c)
    ∙ ap (λ rest. cond (q c) (c ∷ rest) rest) (filter_agree p q chunks same)

turned : (a b d : Bool) → (a && b && d) ≡ (b && (a && d))
turned true true true = refl
turned true true false = refl
turned true false true = refl
turned true false false = refl
turned false true true = refl
turned false true false = refl
turned false false true = refl
turned false false false = refl

all_in_transit : (s : Settings) (first : SegmentLayout) (chunks : List Chunk) (opened : Option ℕ) (n : ℕ) →
    AreFillChunks first n chunks → length (transit_list (filled s first chunks opened (counted n n n))) ≡ n
all_in_transit s first chunks opened n h =
    let each = flat_agree (transit_at l 0 0) (by_bucket test chunks) (numbers_below first.count)
    (λ k. filter_agree (λ c. nat_eq c.segment 0 && nat_eq c.bucket k && is_in_transit history c.name)
    (λ c. nat_eq c.bucket k && test c) chunks
    (λ c. turned (nat_eq c.segment 0) (nat_eq c.bucket k) (is_in_transit history c.name))) in
    let all = all_pass (λ c. nat_lt c.bucket first.count && test c) chunks passes in
    omega (
      arith,
      length-append (map (λ c. Transit 0 (slot_of l c)) (transit_on l 0)) [],
      length-map (transit_on l 0) (λ c. Transit 0 (slot_of l c)),
      length-append (flat_map (transit_at l 0 0) (numbers_below first.count)) [],
      ap length each,
      counted_by_bucket test chunks first.count,
      all,
      h.count,
    )
  where
    history : ChannelHistory
    history = counted n n n

    l : Ledger
    l = filled s first chunks opened history

    test : Chunk → Bool
    test c = nat_eq c.segment 0 && is_in_transit history c.name

    passes : (i : ℕ) (c : Chunk) → slice_get chunks i ≡ Some c → (nat_lt c.bucket first.count && test c) ≡ true
    passes i c stands =
        let within = slice_get_within chunks i c stands in let long = h.count in
        let once = occurrences-within i 1 n (omega arith) in
        let heavy : is_in_transit history (1 + i) ≡ true = is_in_transit-weight history (1 + i)
        ∙ lt-ltb 0 (weight history (1 + i)) (omega arith) in
        and_from (nat_lt c.bucket first.count) (test c) (lt-ltb c.bucket first.count (h.bucket i c stands))
        (and_from (nat_eq c.segment 0) (is_in_transit history c.name) (eq-eqb c.segment 0 (h.segment i c stands))
        (ap (is_in_transit history) (h.name i c stands) ∙ heavy))

-- ---- loans

lent_chunks : (first : SegmentLayout) (m bucket : ℕ) (chunks : List Chunk) → AreFillChunks first m chunks →
    bucket < first.count → AreFillChunks first (suc m) (chunks ++ new_chunk (1 + m) 0 bucket first.size ∷ [])
lent_chunks first m bucket chunks h within = record {
  count = (let e = h.count in omega (arith, length_push chunks new));
  name = λ i c stands. elim (old_or_new chunks new i c stands) [
    | inl old ↦ h.name i c old
    | inr last ↦ (let e = ap (λ x. x.name) last.1 in let at = last.0 in let long = h.count in omega arith)
  ];
  segment = λ i c stands. elim (old_or_new chunks new i c stands) [
    | inl old ↦ h.segment i c old
    | inr last ↦ ap (λ x. x.segment) last.1
  ];
  bucket = λ i c stands. elim (old_or_new chunks new i c stands) [
    | inl old ↦ h.bucket i c old
    | inr last ↦ (let e = ap (λ x. x.bucket) last.1 in omega arith)
  ];
  loaned = λ i c stands. elim (old_or_new chunks new i c stands) [
    | inl old ↦ h.loaned i c old
    | inr last ↦ ap (λ x. x.loaned) last.1
  ];
}
  where
    new : Chunk
    new = new_chunk (1 + m) 0 bucket first.size

module _ (s : Settings) (first : SegmentLayout) (buffer borrow : ℕ) (f : FillSettings s first buffer borrow)
    (some_buffer : 1 ≤ buffer) (some_borrow : 1 ≤ borrow) (last : ℕ) where
  abbrev whole_count : ℕ
  whole_count = buffer + borrow + 1

  -- what is served from the ledger with this history, whatever the place, the marks and the view are
  abbrev EndsFrom : ChannelHistory → List Command → Type 0
  EndsFrom history commands = (place : ℕ) (chunks : List Chunk) (opened : Option ℕ) →
      AreFillChunks first whole_count chunks → Ends last (filled s first chunks opened history) place commands

  loan_none : (chunks : List Chunk) (opened : Option ℕ) (h : ChannelHistory) → length chunks < first.count →
      static_cause (current_segment (filled s first chunks opened h)) 1 1 ≡ None
  loan_none chunks opened h fewer =
      let size = f.size in let alignment = f.alignment in
      no_cause s first buffer borrow f (nat_lt first.alignment 1) (nat_lt first.size 1)
      (is_full (filled s first chunks opened h)) refusal.ExceedsMaxSupportedAlignment refusal.SizeTooLarge
      refusal.OutOfMemory (le-ltb first.alignment 1 (omega arith)) (le-ltb first.size 1 (omega arith))
      (free_left s first chunks opened h fewer)

  loan_goes_on : (commands : List Command) (place m : ℕ) (chunks : List Chunk) (opened : Option ℕ) →
      place ≡ 1 + m → AreFillChunks first m chunks → m < whole_count →
      ((more : List Chunk) → AreFillChunks first (suc m) more →
      Ends last (filled s first more opened (counted 0 0 0)) (place + 1) commands) →
      Ends last (filled s first chunks opened (counted 0 0 0)) place (command.Loan 1 1 ∷ commands)
  loan_goes_on commands place m chunks opened at h below next =
      goes_on last l place (command.Loan 1 1) commands none (λ reply owes.
      lent reply (subst (λ g. IsLoan g place reply) same owes))
    where
      l : Ledger
      l = filled s first chunks opened (counted 0 0 0)

      fewer : length chunks < first.count
      fewer = let long = h.count in let many = f.buckets in omega arith

      static_none : static_cause (current_segment l) 1 1 ≡ None
      static_none = loan_none chunks opened (counted 0 0 0) fewer

      none : cause l (command.Loan 1 1) ≡ None
      none = ap (λ b. cond (not b) (Some refusal.BadLayout) (cond (is_static s.strategy)
          (static_cause (current_segment l) 1 1) (cond (serves (current_segment l) 1 1) None
          (growth_cause (current_segment l) (next_segment (current_segment l) 1 1))))) one_power
          ∙ cond-true (is_static s.strategy) (static_cause (current_segment l) 1 1)
          (cond (serves (current_segment l) 1 1) None
          (growth_cause (current_segment l) (next_segment (current_segment l) 1 1))) f.static
          ∙ static_none

      same : grown_ledger l 1 1 ≡ l
      same = cond-true (serves (current_segment l) 1 1) l
          (record l { segments = l.segments ++ next_segment (current_segment l) 1 1 ∷ [] })
          (static_serves (current_segment l) 1 1 static_none)

      lent : (reply : Reply) → IsLoan l place reply →
          IsServed (command.Loan 1 1) reply ×
          Ends last (after_loan (grown_ledger l 1 1) place reply) (place + 1) commands
      lent (Loaned slot) is =
          let bucket = slot.place / first.size in
          let within = ltb-true bucket first.count (free_parts (nat_eq (slot.place % first.size) 0)
          (nat_lt bucket first.count) (is_free l 0 bucket) is.2).0 in
          let more = subst (λ p. AreFillChunks first (suc m) (chunks ++ new_chunk p 0 bucket first.size ∷ [])) (sym at)
          (lent_chunks first m bucket chunks h within) in (
            record { accepted = λ why refused. absurd (cc); nothing_back = λ asked. absurd (cc) },
            subst (λ g. Ends last (after_loan g place (Loaned slot)) (place + 1) commands) (sym same)
                (next (chunks ++ new_chunk place 0 bucket first.size ∷ []) more),
          )
      lent Written is = absurd is
      lent (Sent back) is = absurd is
      lent (Received taken) is = absurd is
      lent (Shown bytes) is = absurd is
      lent Released is = absurd is
      lent (Reclaimed back) is = absurd is
      lent Discarded is = absurd is
      lent (Counted count) is = absurd is
      lent (Refused why) is = absurd is
      lent (Transit channel slot) is = absurd is

  loan_rounds : (count m place : ℕ) (commands : List Command) (chunks : List Chunk) (opened : Option ℕ) →
      place ≡ 1 + m → m + count ≡ whole_count → AreFillChunks first m chunks → EndsFrom (counted 0 0 0) commands →
      Ends last (filled s first chunks opened (counted 0 0 0)) place (replicate count (command.Loan 1 1) ++ commands)
  loan_rounds zero m place commands chunks opened at sum h next =
      next place chunks opened
      (subst (λ k. AreFillChunks first k chunks) (let e : m ≡ whole_count = omega arith in e) h)
  loan_rounds (suc count) m place commands chunks opened at sum h next =
      loan_goes_on (replicate count (command.Loan 1 1) ++ commands) place m chunks opened at h (omega arith)
      (λ more good. loan_rounds count (suc m) (place + 1) commands more opened (omega arith) (omega arith) good next)

  -- ---- rounds of sends and releases

  opening_rounds : (count n : ℕ) (commands : List Command) → n + count ≤ borrow →
      EndsFrom (counted (n + count) (n + count) 0) commands →
      EndsFrom (counted n n 0) (flat_map send_and_receive (names_from (1 + n) count) ++ commands)
  opening_rounds zero n commands within next =
      let e : n + 0 ≡ n = omega arith in subst (λ k. EndsFrom (counted k k 0) commands) e next
  opening_rounds (suc count) n commands within next = λ place chunks opened h.
      let e : 1 + suc n ≡ 1 + n + 1 = omega arith in
      let q : n + suc count ≡ suc n + count = omega arith in
      let rest : EndsFrom (counted (suc n) (suc n) 0)
      (flat_map send_and_receive (names_from (1 + n + 1) count) ++ commands) =
      subst (λ k. EndsFrom (counted (suc n) (suc n) 0) (flat_map send_and_receive (names_from k count) ++ commands)) e
      (opening_rounds count (suc n) commands (omega arith) (subst (λ k. EndsFrom (counted k k 0) commands) q next)) in
      let tail = flat_map send_and_receive (names_from (1 + n + 1) count) ++ commands in
      sends_on s first buffer borrow f last place (command.Receive 0 ∷ command.Reclaim 0 ∷ tail) chunks opened n n 0 h
      (omega arith) (omega arith) (omega arith) (omega arith) (λ more good.
      receives_on s first buffer borrow f last (place + 1) (command.Reclaim 0 ∷ tail) more opened (suc n) n 0
      (omega arith)
      (omega arith) (omega arith) (λ later.
      reclaims_on s first buffer borrow f last (place + 1 + 1) tail more later (suc n) (suc n)
      (rest (place + 1 + 1 + 1) more later good)))

  leaving_rounds : (count n : ℕ) (commands : List Command) → borrow ≤ n → n + count ≤ borrow + buffer →
      EndsFrom (counted (n + count) borrow 0) commands →
      EndsFrom (counted n borrow 0) (flat_map send_and_leave (names_from (1 + n) count) ++ commands)
  leaving_rounds zero n commands past within next =
      let e : n + 0 ≡ n = omega arith in subst (λ k. EndsFrom (counted k borrow 0) commands) e next
  leaving_rounds (suc count) n commands past within next = λ place chunks opened h.
      let e : 1 + suc n ≡ 1 + n + 1 = omega arith in
      let q : n + suc count ≡ suc n + count = omega arith in
      let rest : EndsFrom (counted (suc n) borrow 0)
      (flat_map send_and_leave (names_from (1 + n + 1) count) ++ commands) =
      subst (λ k. EndsFrom (counted (suc n) borrow 0) (flat_map send_and_leave (names_from k count) ++ commands)) e
      (leaving_rounds count (suc n) commands (omega arith) (omega arith)
      (subst (λ k. EndsFrom (counted k borrow 0) commands) q next)) in
      let tail = flat_map send_and_leave (names_from (1 + n + 1) count) ++ commands in
      sends_on s first buffer borrow f last place (command.Reclaim 0 ∷ tail) chunks opened n borrow 0 h (omega arith)
      (omega arith) (omega arith) (omega arith) (λ more good.
      reclaims_on s first buffer borrow f last (place + 1) tail more opened (suc n) borrow
      (rest (place + 1 + 1) more opened good))

  turning_rounds : (count e : ℕ) (commands : List Command) → e + count ≤ buffer + 1 →
      EndsFrom (counted whole_count (e + count + borrow) (e + count)) commands →
      EndsFrom (counted whole_count (e + borrow) e)
      (flat_map release_and_receive (names_from (1 + e) count) ++ commands)
  turning_rounds zero e commands within next =
      let q : e + 0 ≡ e = omega arith in subst (λ k. EndsFrom (counted whole_count (k + borrow) k) commands) q next
  turning_rounds (suc count) e commands within next = λ place chunks opened h.
      let p : 1 + suc e ≡ 1 + e + 1 = omega arith in
      let q : e + suc count ≡ suc e + count = omega arith in
      let r : suc e + borrow ≡ suc (e + borrow) = omega arith in
      let rest : EndsFrom (counted whole_count (suc (e + borrow)) (suc e))
      (flat_map release_and_receive (names_from (1 + e + 1) count) ++ commands) =
      subst (λ k. EndsFrom (counted whole_count k (suc e))
      (flat_map release_and_receive (names_from (1 + e + 1) count) ++ commands)) r
      (subst (λ k. EndsFrom (counted whole_count (suc e + borrow) (suc e))
      (flat_map release_and_receive (names_from k count) ++ commands)) p
      (turning_rounds count (suc e) commands (omega arith)
      (subst (λ k. EndsFrom (counted whole_count (k + borrow) k) commands) q next))) in
      let tail = flat_map release_and_receive (names_from (1 + e + 1) count) ++ commands in
      releases_on s first buffer borrow f last place (command.Receive 0 ∷ tail) chunks opened whole_count (e + borrow) e
      (omega arith) (omega arith)
      (receives_on s first buffer borrow f last (place + 1) tail chunks opened whole_count (e + borrow) (suc e)
      (omega arith) (omega arith) (omega arith) (λ later. rest (place + 1 + 1) chunks later h))

  closing_rounds : (count e : ℕ) → e + count ≡ whole_count →
      EndsFrom (counted whole_count whole_count whole_count) [] →
      EndsFrom (counted whole_count whole_count e) (map (λ name. command.Release 0 name) (names_from (1 + e) count))
  closing_rounds zero e sum next =
      let q : whole_count ≡ e = omega arith in subst (λ k. EndsFrom (counted whole_count whole_count k) []) q next
  closing_rounds (suc count) e sum next = λ place chunks opened h.
      let p : 1 + suc e ≡ 1 + e + 1 = omega arith in
      let rest = subst (λ k. EndsFrom (counted whole_count whole_count (suc e))
      (map (λ name. command.Release 0 name) (names_from k count))) p
      (closing_rounds count (suc e) (omega arith) next) in
      releases_on s first buffer borrow f last place
      (map (λ name. command.Release 0 name) (names_from (1 + e + 1) count)) chunks opened whole_count whole_count e
      (omega arith) (omega arith) (rest (place + 1) chunks opened h)

  -- one chunk is exchanged for the last
  exchange : (commands : List Command) → EndsFrom (counted whole_count (1 + borrow) 1) commands →
      EndsFrom (counted (borrow + buffer) borrow 0)
      (command.Release 0 1 ∷ command.Receive 0 ∷ command.Send 0 whole_count ∷ commands)
  exchange commands next place chunks opened h =
      let n : 1 + (borrow + buffer) ≡ whole_count = omega arith in
      let sent : suc (borrow + buffer) ≡ whole_count = omega arith in
      let taken : 1 + borrow ≡ suc borrow = omega arith in
      let rest = subst (λ k. EndsFrom (counted k (suc borrow) 1) commands) (sym sent)
      (subst (λ k. EndsFrom (counted whole_count k 1) commands) taken next) in
      releases_on s first buffer borrow f last place (command.Receive 0 ∷ command.Send 0 whole_count ∷ commands) chunks
      opened (borrow + buffer) borrow 0 (omega arith) (omega arith)
      (receives_on s first buffer borrow f last (place + 1) (command.Send 0 whole_count ∷ commands) chunks opened
      (borrow + buffer) borrow 1 (omega arith) (omega arith) (omega arith) (λ later.
      subst (λ k. Ends last (filled s first chunks later (counted (borrow + buffer) (suc borrow) 1)) (place + 1 + 1)
      (command.Send 0 k ∷ commands)) n
      (sends_on s first buffer borrow f last (place + 1 + 1) commands chunks later (borrow + buffer) (suc borrow) 1 h
      (omega arith) (omega arith) (omega arith) (omega arith) (λ more good.
      rest (place + 1 + 1 + 1) more later good))))

  -- all of them
  all_rounds : EndsFrom (counted whole_count whole_count whole_count) [] →
      Ends last (filled s first [] None (counted 0 0 0)) 1 (fill_list buffer borrow)
  all_rounds end =
      let releases = map (λ name. command.Release 0 name) (names_from (buffer + 2) borrow) in
      let turns = flat_map release_and_receive (names_from 2 buffer) ++ releases in
      let middle = command.Release 0 1 ∷ command.Receive 0 ∷ command.Send 0 whole_count ∷ turns in
      let a : 1 + (1 + buffer) ≡ buffer + 2 = omega arith in
      let b : whole_count ≡ 1 + buffer + borrow = omega arith in
      let c : 1 + borrow ≡ borrow + 1 = omega arith in
      let closed = subst (λ k. EndsFrom (counted whole_count whole_count (1 + buffer))
      (map (λ name. command.Release 0 name) (names_from k borrow))) a
      (closing_rounds borrow (1 + buffer) (omega arith) end) in
      let turned_on = turning_rounds buffer 1 releases (omega arith)
      (subst (λ k. EndsFrom (counted whole_count k (1 + buffer)) releases) b closed) in
      let left = subst (λ k. EndsFrom (counted borrow borrow 0)
      (flat_map send_and_leave (names_from k buffer) ++ middle)) c
      (leaving_rounds buffer borrow middle (omega arith) (omega arith) (exchange turns turned_on)) in
      let none : AreFillChunks first 0 [] = record {
        count = refl;
        name = λ i c stands. absurd (none-some c stands);
        segment = λ i c stands. absurd (none-some c stands);
        bucket = λ i c stands. absurd (none-some c stands);
        loaned = λ i c stands. absurd (none-some c stands);
      } in
      loan_rounds whole_count 0 1
      (flat_map send_and_receive (names_from 1 borrow) ++
      (flat_map send_and_leave (names_from (borrow + 1) buffer) ++ middle)) [] None refl (omega arith) none
      (opening_rounds borrow 0 (flat_map send_and_leave (names_from (borrow + 1) buffer) ++ middle) (omega arith)
      (subst (λ k. EndsFrom (counted k k 0) (flat_map send_and_leave (names_from (borrow + 1) buffer) ++ middle))
      (let e : borrow ≡ 0 + borrow = omega arith in e) left))

-- ---- the law

fill_settings : (s : Settings) (buffer borrow : ℕ) → AreFilled s buffer borrow →
    FillSettings (clamped_settings s) (first_layout s) buffer borrow
fill_settings s buffer borrow h =
    let m = can_make s h.made in
    let b = h.buffer_is in let r = h.borrow_is in let c = h.one_channel in let d = h.some_buffer in
    let e = h.some_borrow in
    let n = h.samples in
    record {
      static = h.static;
      no_overflow = h.no_overflow;
      one_channel = omega arith;
      segments = omega arith;
      buffer_is = omega arith;
      borrow_is = omega arith;
      buckets = h.buckets;
      samples = omega arith;
      size = (first_sizes s h.made).not_empty;
      alignment = m.aligned;
    }

pub fill_served : (s : Settings) (buffer borrow : ℕ) (replies : List Reply) → AreFilled s buffer borrow →
    IsRun s (fill_list buffer borrow) replies →
    AreServed (buffer + borrow + 1) (fill_list buffer borrow) replies ×
    (completed_after s (fill_list buffer borrow) replies ≡ buffer + borrow + 1)
fill_served s buffer borrow replies h =
    let channels : (clamped_settings s).channels ≡ 1 = let c = h.one_channel in omega arith in
    let is : first_ledger s ≡ filled (clamped_settings s) (first_layout s) [] None (counted 0 0 0) =
    ap (λ n. record (first_ledger s) { histories = replicate n new_history }) channels in
    let ends = all_rounds (clamped_settings s) (first_layout s) buffer borrow (fill_settings s buffer borrow h)
    h.some_buffer h.some_borrow (buffer + borrow + 1)
    (λ place chunks opened good replies run. (
      ap length run ∙ all_in_transit (clamped_settings s) (first_layout s) chunks opened (buffer + borrow + 1) good,
      ap completed_count (after_none (filled (clamped_settings s) (first_layout s) chunks opened
          (counted (buffer + borrow + 1) (buffer + borrow + 1) (buffer + borrow + 1))) place replies)
          ∙ counted-completed_length (buffer + borrow + 1) (buffer + borrow + 1) (buffer + borrow + 1),
    )) in
    (subst (λ l. Ends (buffer + borrow + 1) l 1 (fill_list buffer borrow)) (sym is) ends) replies
