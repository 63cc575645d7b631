-- What the view has mapped is the ledger's, after an offset has arrived or was given back.
use Rattle.std.proofs.Common.{ℕ, ◌+◌, ◌-◌, ◌≡◌, ◌≢◌, Bool, true, false, cond, ◌||◌, nat_eq, nat_lt, Option, Some, None, is_some, option_map, option_to_list, refl, sym, ap, ◌∙◌, subst, arith}
use Rattle.std.proofs.lemmas.Bool.{true≢false, or_parts, or_right, eqb-true, eqb-false, ne_eqb, lt-ltb, ltb-false}
use Rattle.cal_transport.specs.Ledger.{Ledger, is_mapped, has_name}
use Rattle.cal_transport.specs.Weights.{borrowed_in}
use Rattle.cal_transport.specs.Shown.{ShowsMapped}
use Rattle.cal_transport.specs.Viewing.{is_told, while_counted, opened_after_arrival, mapped_after_arrival, mapped_after_return}
use Rattle.cal_transport.proofs.Changed.{mapped_is}
use Rattle.cal_transport.proofs.Totals.{or-false}

told_is : (o : Option ℕ) (segment : ℕ) → has_name segment (option_to_list o) ≡ is_told o segment
told_is None segment = refl
told_is (Some other) segment = or-false (nat_eq other segment)

-- a segment is mapped where it was opened last, or a chunk of it is borrowed
pub mapped_told : (l : Ledger) (segment : ℕ) →
    is_mapped l segment ≡ (is_told l.opened_last segment || nat_lt 0 (borrowed_in l segment))
mapped_told l segment = mapped_is l segment
    ∙ ap (λ b. b || nat_lt 0 (borrowed_in l segment)) (told_is l.opened_last segment)

-- the view tells whether a segment is mapped
pub mapped_tells : (l : Ledger) (segment : ℕ) (o : Option ℕ) → ShowsMapped l segment o →
    is_some o ≡ is_mapped l segment
mapped_tells l segment None shows = sym shows
mapped_tells l segment (Some count) shows = sym shows.0

-- a number that is more than none
zero_or_more : (n : ℕ) → nat_lt 0 n ≡ false → n ≡ 0
zero_or_more n e = let low = ltb-false 0 n e in omega arith

-- while a segment isn't opened last, it is mapped exactly while it is counted
counted_shows : (l : Ledger) (segment count : ℕ) → is_mapped l segment ≡ nat_lt 0 count →
    count ≡ borrowed_in l segment → ShowsMapped l segment (while_counted (Some count))
counted_shows l segment count is same = go (nat_lt 0 count) refl
  where
    go : (b : Bool) → nat_lt 0 count ≡ b → ShowsMapped l segment (cond b (Some count) None)
    go true e = (is ∙ e, same)
    go false e = is ∙ e

-- nothing that a segment's look depends on has changed
same_shows : (l l' : Ledger) (segment : ℕ) (o : Option ℕ) → is_mapped l' segment ≡ is_mapped l segment →
    borrowed_in l' segment ≡ borrowed_in l segment → ShowsMapped l segment o → ShowsMapped l' segment o
same_shows l l' segment None is count shows = is ∙ shows
same_shows l l' segment (Some n) is count shows = (is ∙ shows.0, shows.1 ∙ sym count)

-- ---- an arrival

-- one more chunk of the segment is borrowed, and it was opened where it wasn't mapped
pub record BorrowsMore (l l' : Ledger) (segment : ℕ) : Type 0 where
  pub opened : l'.opened_last ≡ cond (is_mapped l segment) l.opened_last (Some segment)
  pub more : borrowed_in l' segment ≡ borrowed_in l segment + 1
  pub else : (other : ℕ) → other ≢ segment → borrowed_in l' other ≡ borrowed_in l other

module _ (l l' : Ledger) (mapped : ℕ → Option ℕ) (segment : ℕ) (b : BorrowsMore l l' segment)
    (shows : (other : ℕ) → ShowsMapped l other (mapped other)) where
  -- the segment was mapped
  opened_same : is_mapped l segment ≡ true → l'.opened_last ≡ l.opened_last
  opened_same was = b.opened ∙ ap (λ m. cond m l.opened_last (Some segment)) was

  opened_new : is_mapped l segment ≡ false → l'.opened_last ≡ Some segment
  opened_new was = b.opened ∙ ap (λ m. cond m l.opened_last (Some segment)) was

  is_same : is_mapped l segment ≡ true → (other : ℕ) → other ≢ segment → is_mapped l' other ≡ is_mapped l other
  is_same was other apart =
      mapped_told l' other ∙ ap (λ o. is_told o other || nat_lt 0 (borrowed_in l' other)) (opened_same was)
      ∙ ap (λ n. is_told l.opened_last other || nat_lt 0 n) (b.else other apart) ∙ sym (mapped_told l other)

  -- one more of a segment that was mapped
  one_more : (o : Option ℕ) → is_mapped l segment ≡ true → ShowsMapped l segment o →
      ShowsMapped l' segment (option_map (λ count. count + 1) o)
  one_more None was s = absurd (true≢false (sym was ∙ s))
  one_more (Some count) was s =
      let more = b.more in (
        mapped_told l' segment
            ∙ or_right (is_told l'.opened_last segment) (nat_lt 0 (borrowed_in l' segment))
            (lt-ltb 0 (borrowed_in l' segment) (omega arith)),
        (let same = s.1 in omega arith),
      )

  -- the first of a segment that wasn't
  first_one : is_mapped l segment ≡ false → ShowsMapped l' segment (Some 1)
  first_one was =
      let more = b.more in
      let none = zero_or_more (borrowed_in l segment)
      (or_parts (is_told l.opened_last segment) (nat_lt 0 (borrowed_in l segment))
      (sym (mapped_told l segment) ∙ was)).1 in (
        mapped_told l' segment
            ∙ or_right (is_told l'.opened_last segment) (nat_lt 0 (borrowed_in l' segment))
            (lt-ltb 0 (borrowed_in l' segment) (omega arith)),
        omega arith,
      )

  -- another segment, where this one is opened
  is_counted : is_mapped l segment ≡ false → (other : ℕ) → other ≢ segment →
      is_mapped l' other ≡ nat_lt 0 (borrowed_in l other)
  is_counted was other apart =
      mapped_told l' other ∙ ap (λ o. is_told o other || nat_lt 0 (borrowed_in l' other)) (opened_new was)
      ∙ ap (λ c. c || nat_lt 0 (borrowed_in l' other)) (ne_eqb segment other (λ e. apart (sym e)))
      ∙ ap (nat_lt 0) (b.else other apart)

  former : (o : Option ℕ) → is_mapped l segment ≡ false → (other : ℕ) → other ≢ segment → ShowsMapped l other o →
      ShowsMapped l' other (while_counted o)
  former None was other apart s =
      is_counted was other apart
      ∙ (or_parts (is_told l.opened_last other) (nat_lt 0 (borrowed_in l other)) (sym (mapped_told l other) ∙ s)).1
  former (Some count) was other apart s =
      counted_shows l' other count (is_counted was other apart ∙ ap (nat_lt 0) (sym s.1)) (s.1 ∙ sym (b.else other
      apart))

  further : (o : Option ℕ) → is_mapped l segment ≡ false → (other : ℕ) → other ≢ segment →
      is_told l.opened_last other ≡ false → ShowsMapped l other o → ShowsMapped l' other o
  further o was other apart untold s =
      same_shows l l' other o
      (is_counted was other apart ∙ sym (mapped_told l other
      ∙ ap (λ c. c || nat_lt 0 (borrowed_in l other)) untold))
      (b.else other apart) s

  pub arrived : (other : ℕ) → ShowsMapped l' other (mapped_after_arrival l.opened_last mapped segment other)
  arrived other =
      subst (λ m. ShowsMapped l' other (cond m
      (cond (nat_eq other segment) (option_map (λ count. count + 1) (mapped other)) (mapped other))
      (cond (nat_eq other segment) (Some 1)
      (cond (is_told l.opened_last other) (while_counted (mapped other)) (mapped other)))))
      (sym (mapped_tells l segment (mapped segment) (shows segment)))
      (by_mapped (is_mapped l segment) (nat_eq other segment) refl refl)
    where
      by_mapped : (m same : Bool) → is_mapped l segment ≡ m → nat_eq other segment ≡ same →
          ShowsMapped l' other (cond m
          (cond same (option_map (λ count. count + 1) (mapped other)) (mapped other))
          (cond same (Some 1) (cond (is_told l.opened_last other) (while_counted (mapped other)) (mapped other))))
      by_mapped true true was e =
          subst (λ s. ShowsMapped l' s (option_map (λ count. count + 1) (mapped s))) (sym (eqb-true other segment e))
          (one_more (mapped segment) was (shows segment))
      by_mapped true false was e =
          same_shows l l' other (mapped other) (is_same was other (eqb-false other segment e))
          (b.else other (eqb-false other segment e)) (shows other)
      by_mapped false true was e =
          subst (λ s. ShowsMapped l' s (Some 1)) (sym (eqb-true other segment e)) (first_one was)
      by_mapped false false was e = by_told (is_told l.opened_last other) refl
        where
          by_told : (t : Bool) → is_told l.opened_last other ≡ t →
              ShowsMapped l' other (cond t (while_counted (mapped other)) (mapped other))
          by_told true told = former (mapped other) was other (eqb-false other segment e) (shows other)
          by_told false told = further (mapped other) was other (eqb-false other segment e) told (shows other)

  pub opened_arrived : opened_after_arrival l.opened_last mapped segment ≡ l'.opened_last
  opened_arrived =
      ap (λ m. cond m l.opened_last (Some segment)) (mapped_tells l segment (mapped segment) (shows segment))
      ∙ sym b.opened

-- ---- a return

-- one chunk less of the segment is borrowed
pub record BorrowsLess (l l' : Ledger) (segment : ℕ) : Type 0 where
  pub opened : l'.opened_last ≡ l.opened_last
  pub less : borrowed_in l' segment + 1 ≡ borrowed_in l segment
  pub else : (other : ℕ) → other ≢ segment → borrowed_in l' other ≡ borrowed_in l other

module _ (l l' : Ledger) (mapped : ℕ → Option ℕ) (segment : ℕ) (b : BorrowsLess l l' segment)
    (shows : (other : ℕ) → ShowsMapped l other (mapped other)) where
  -- the segment that was opened last stays
  stays_opened : (o : Option ℕ) → is_told l.opened_last segment ≡ true → ShowsMapped l segment o →
      ShowsMapped l' segment (option_map (λ count. count - 1) o)
  stays_opened None told s =
      absurd (true≢false (sym (mapped_told l segment ∙ ap (λ c. c || nat_lt 0 (borrowed_in l segment)) told) ∙ s))
  stays_opened (Some count) told s =
      let less = b.less in (
        mapped_told l' segment ∙ ap (λ o. is_told o segment || nat_lt 0 (borrowed_in l' segment)) b.opened
            ∙ ap (λ c. c || nat_lt 0 (borrowed_in l' segment)) told,
        (let same = s.1 in omega arith),
      )

  goes_at_none : (o : Option ℕ) → is_told l.opened_last segment ≡ false → ShowsMapped l segment o →
      ShowsMapped l' segment (while_counted (option_map (λ count. count - 1) o))
  goes_at_none None told s =
      let less = b.less in
      let none = zero_or_more (borrowed_in l segment)
      (or_parts (is_told l.opened_last segment) (nat_lt 0 (borrowed_in l segment))
      (sym (mapped_told l segment) ∙ s)).1 in
      absurd (omega arith)
  goes_at_none (Some count) told s =
      let less = b.less in let same = s.1 in
      let left : count - 1 ≡ borrowed_in l' segment = omega arith in
      counted_shows l' segment (count - 1)
      (mapped_told l' segment ∙ ap (λ o. is_told o segment || nat_lt 0 (borrowed_in l' segment)) b.opened
      ∙ ap (λ c. c || nat_lt 0 (borrowed_in l' segment)) told ∙ ap (nat_lt 0) (sym left))
      left

  pub returned : (other : ℕ) → ShowsMapped l' other (mapped_after_return l.opened_last mapped segment other)
  returned other = by_same (nat_eq other segment) refl
    where
      here : (t : Bool) → is_told l.opened_last segment ≡ t →
          ShowsMapped l' segment (cond t (option_map (λ count. count - 1) (mapped segment))
          (while_counted (option_map (λ count. count - 1) (mapped segment))))
      here true told = stays_opened (mapped segment) told (shows segment)
      here false told = goes_at_none (mapped segment) told (shows segment)

      by_same : (same : Bool) → nat_eq other segment ≡ same →
          ShowsMapped l' other (cond same (cond (is_told l.opened_last segment)
          (option_map (λ count. count - 1) (mapped segment))
          (while_counted (option_map (λ count. count - 1) (mapped segment)))) (mapped other))
      by_same true e =
          subst (λ s. ShowsMapped l' s (cond (is_told l.opened_last segment)
          (option_map (λ count. count - 1) (mapped segment))
          (while_counted (option_map (λ count. count - 1) (mapped segment))))) (sym (eqb-true other segment e))
          (here (is_told l.opened_last segment) refl)
      by_same false e =
          let apart = eqb-false other segment e in
          same_shows l l' other (mapped other)
          (mapped_told l' other ∙ ap (λ o. is_told o other || nat_lt 0 (borrowed_in l' other)) b.opened
          ∙ ap (λ n. is_told l.opened_last other || nat_lt 0 n) (b.else other apart) ∙ sym (mapped_told l other))
          (b.else other apart) (shows other)
