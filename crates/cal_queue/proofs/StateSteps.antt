-- Each step at a state table keeps its rule, and the table allows it.
use Rattle.std.proofs.Common.{◌≡◌, ◌≢◌, ℕ, zero, suc, ◌+◌, ◌<◌, ◌≤◌, ◌⊎◌, Bool, true, false, eqb, List, [], ◌∷◌, ◌++◌, length, get_or, set, replicate, inl, inr, ⊎_elim, sym, refl, ap, ◌∙◌, subst, arith, length-append, cond, length-set, get_or-set_same, get_or-set_other, eq-eqb, ne_eqb}
use Rattle.std.proofs.lemmas.Bool.{eqb-true}
use Rattle.std.proofs.lemmas.List.{length-replicate}
use Rattle.std.specs.Prelude.{Option, Some, None, IfSome}
use Rattle.std.specs.Option.{unwrap_or}
use Rattle.std.proofs.lemmas.Bool.Decides.{nat_tests}
use mathlib.Core.Logic.{dite}
use mathlib.Core.Option.{none, some, some-injective, some-ne-none}
use mathlib.Core.List.{map-append}
use native.Mathlib.Decide.{ℕ_discrete}
use lib.ListN.{get_elem?}
use prog.Atomic.{either}
use Rattle.atomic_table.specs.Table.{State, Me, step, keeps, Allows, Splits}
use Rattle.atomic_table.proofs.Lists.{at_set, set_again}
use Rattle.cal_queue.specs.declared.state_table.pass.OpeningWords.{OpeningWords}
use Rattle.cal_queue.specs.declared.state_table.pass.StateStep.{StateStep}
use Rattle.cal_queue.specs.declared.state_table.pass.StatePass.{StatePass}
use Rattle.cal_queue.specs.StateTable.{IsPortWord, Joins, LeavesOther, LeavesMark, MayChange, MayStep, IsRun, IsWitnessed, TakenStep, exchange_step, new_pass, has_bit, load_step, mark, opening_words, port_index, steps_of, steps_of_all, after_step, words_after, write_step}
use Rattle.cal_queue.specs.StateLaw.{EveryOpening, EveryRun, EveryStep}
use Rattle.cal_queue.proofs.ListIndexes.{at_snoc, at_within}
use Rattle.cal_queue.specs.StateRule.{Exchanges, IsSoundTable, Knows, Loads}

abbrev Changes : ℕ → ℕ → ℕ → Type 0
Changes bit seen written = Joins bit seen written ⊎ (LeavesOther bit seen written ⊎ LeavesMark bit seen written)

-- a word without the bit and without the mark
without-first : (word : ℕ) → IsPortWord word → has_bit word 1 ≡ false → has_bit word mark ≡ false → word + 1 ≤ 3
without-first word is absent unmarked = ⊎_elim (λ small. grind (arith, nat_tests))
    (λ marked. grind (arith, nat_tests)) is

without-second : (word : ℕ) → IsPortWord word → has_bit word 2 ≡ false → has_bit word mark ≡ false → word + 2 ≤ 3
without-second word is absent unmarked = ⊎_elim (λ small. grind (arith, nat_tests))
    (λ marked. grind (arith, nat_tests)) is

changed-first : (seen written : ℕ) → IsPortWord seen → Changes 1 seen written → IsPortWord written
changed-first seen written is = ⊎_elim
    (λ joins. let more = without-first seen is joins.absent joins.unmarked in let added = joins.added in
    inl (omega arith))
    (⊎_elim (λ leaves. let taken = leaves.taken in inl (omega arith)) (λ marks. inr marks.marked))

changed-second : (seen written : ℕ) → IsPortWord seen → Changes 2 seen written → IsPortWord written
changed-second seen written is = ⊎_elim
    (λ joins. let more = without-second seen is joins.absent joins.unmarked in let added = joins.added in
    inl (omega arith))
    (⊎_elim (λ leaves. let taken = leaves.taken in inl (omega arith)) (λ marks. inr marks.marked))

-- a change of a port word leads to a word that a port may have
port-change : (seen written : ℕ) → IsPortWord seen → MayChange seen written → IsPortWord written
port-change seen written is change = ⊎_elim
    (λ one. changed-first seen written is (subst (λ (bit : ℕ). Changes bit seen written) one change.2))
    (λ two. changed-second seen written is (subst (λ (bit : ℕ). Changes bit seen written) two change.2))
    change.1

IsRun-snoc : (first : List ℕ) (steps : List StateStep) (last : List ℕ) (s : StateStep) → IsRun first steps last →
    MayStep last s
    → IsRun first (steps ++ s ∷ []) (words_after last s)
IsRun-snoc first [] last s run may =
    (subst (λ (w : List ℕ). MayStep w s) run may, ap (λ (w : List ℕ). words_after w s) run)
IsRun-snoc first (x ∷ xs) last s run may = (run.0, IsRun-snoc (words_after first x) xs last s run.1 may)

IsRun-length : (first : List ℕ) (steps : List StateStep) (last : List ℕ) → IsRun first steps last →
    length last ≡ length first
IsRun-length first [] last run = ap (λ (w : List ℕ). length w) run
IsRun-length first (x ∷ xs) last run = IsRun-length (words_after first x) xs last run.1
    ∙ length-set first x.index (unwrap_or x.written x.seen)

kept_or_not : (b : Bool) (x : StateStep) (longer shorter : List StateStep) (s : StateStep) →
    longer ≡ shorter ++ s ∷ [] → cond b (x ∷ longer) longer ≡ cond b (x ∷ shorter) shorter ++ s ∷ []
kept_or_not true x longer shorter s e = ap (λ (ss : List StateStep). x ∷ ss) e
kept_or_not false x longer shorter s e = e

steps_of-here : (by : ℕ) (taken : List TakenStep) (s : StateStep) →
    steps_of by (taken ++ record { by = by; step = s } ∷ []) ≡ steps_of by taken ++ s ∷ []
steps_of-here by [] s = ap (λ (b : Bool). cond b (s ∷ []) []) (eq-eqb by by refl)
steps_of-here by (t ∷ taken) s = kept_or_not (eqb t.by by) t.step _ _ s (steps_of-here by taken s)

steps_of-else : (by other : ℕ) (taken : List TakenStep) (s : StateStep) → by ≢ other →
    steps_of other (taken ++ record { by = by; step = s } ∷ []) ≡ steps_of other taken
steps_of-else by other [] s apart = ap (λ (b : Bool). cond b (s ∷ []) []) (ne_eqb by other apart)
steps_of-else by other (t ∷ taken) s apart = ap
    (λ (ss : List StateStep). cond (eqb t.by other) (t.step ∷ ss) ss) (steps_of-else by other taken s apart)

new_pass-knows : (o : OpeningWords) (by : ℕ) (p : StatePass) →
    (get_elem? {A = StatePass} [] by ≡ some p) ⊎ ((by ≡ 0) × (new_pass o ≡ p)) → Knows o [] by p
new_pass-knows o by p = ⊎_elim
    (λ no. absurd (some-ne-none p (sym no)))
    (λ here. subst (Knows o [] by) here.1 (record { opening = refl; steps = refl }))

module _ (words : List ℕ) (s : StateStep) (may : MayStep words s) (port : IsPortWord (get_or words port_index 0)) where
  port-seen : s.index ≡ port_index → IsPortWord s.seen
  port-seen here = subst IsPortWord (ap (λ (index : ℕ). get_or words index 0) (sym here) ∙ sym may.sees) port

  -- what stands at the index of the step
  port-here : (written : Option ℕ) → s.written ≡ written → s.index ≡ port_index → IsPortWord (unwrap_or written s.seen)
  port-here None is here = port-seen here
  port-here (Some w) is here =
      port-change s.seen w (port-seen here)
      (subst (λ (o : Option ℕ). IfSome o (MayChange s.seen)) is (may.changes here))

  port-after : IsPortWord (get_or (words_after words s) port_index 0)
  port-after = dite (ℕ_discrete s.index port_index)
      (λ here. let within : s.index < length words = may.within in
      subst IsPortWord (sym (ap (λ (index : ℕ). get_or (words_after words s) index 0) (sym here)
      ∙ get_or-set_same words s.index _ 0 within)) (port-here s.written refl here))
      (λ apart. subst IsPortWord (sym (get_or-set_other words s.index port_index _ 0 (λ e. apart (sym e)))) port)

-- each run from words with such a port word leads to words with such a port word
port-along : (first : List ℕ) (steps : List StateStep) (last : List ℕ) → IsPortWord (get_or first port_index 0) →
    IsRun first steps last → IsPortWord (get_or last port_index 0)
port-along first [] last port run = subst IsPortWord (ap (λ (words : List ℕ). get_or words port_index 0) (sym run)) port
port-along first (s ∷ steps) last port run = port-along (words_after first s) steps last (port-after first s run.0 port)
    run.1

pub every_run : EveryRun
every_run o steps words small run = port-along (opening_words o) steps words (inl small) run

pub every_opening : EveryOpening
every_opening o small = record {
  taken = [];
  run = refl;
  own = λ by p at. new_pass-knows o by p (at_snoc [] (new_pass o) p by at);
  others = λ by past. refl;
  port = inl small;
}

module _ (o : OpeningWords) (words : List ℕ) (passes : List StatePass) (kept : IsSoundTable o words passes) (id : ℕ)
    (p : StatePass) (at : get_elem? passes id ≡ some p) where
  abbrev mine : Knows o kept.taken id p
  mine = kept.own id p at

  pub Kept-width : length words ≡ p.opening.channels + 1
  Kept-width =
      let same : length words ≡ length (opening_words o) = IsRun-length (opening_words o) (steps_of_all kept.taken)
      words kept.run in
      let long : length (replicate o.channels o.initial) ≡ o.channels = length-replicate o.channels o.initial in
      let mine' : p.opening.channels ≡ o.channels = ap (λ (x : OpeningWords). x.channels) mine.opening in
      omega arith

  module _ (s : StateStep) (may : MayStep words s) where
    abbrev longer : List TakenStep
    longer = kept.taken ++ record { by = id; step = s } ∷ []

    run-after : IsRun (opening_words o) (steps_of_all longer) (words_after words s)
    run-after = subst (λ (steps : List StateStep). IsRun (opening_words o) steps (words_after words s))
        (sym (map-append (λ (t : TakenStep). t.step) kept.taken (record { by = id; step = s } ∷ [])))
        (IsRun-snoc (opening_words o) (steps_of_all kept.taken) words s kept.run may)

    own-after : (by : ℕ) (q : StatePass) →
        ((by ≡ id) × (after_step p s ≡ q)) ⊎ ((by ≢ id) × (get_elem? passes by ≡ some q)) → Knows o longer by q
    own-after by q = ⊎_elim
        (λ here. subst (Knows o longer by) here.1 (record {
          opening = mine.opening;
          steps = ap (λ (ss : List StateStep). ss ++ s ∷ []) mine.steps ∙ sym (steps_of-here id kept.taken s) ∙ ap
              (λ (k : ℕ). steps_of k longer) (sym here.0);
        }))
        (λ there. let known = kept.own by q there.1 in record {
          opening = known.opening;
          steps = known.steps ∙ sym (steps_of-else id by kept.taken s (λ e. there.0 (sym e)));
        })

    pub Kept-stepped : IsSoundTable o (words_after words s) (set passes id (after_step p s))
    Kept-stepped = record {
      taken = longer;
      run = run-after;
      own = λ by q found. own-after by q (at_set passes id by (after_step p s) q found);
      others = λ by past.
          let inside : id < length passes = at_within passes id p at in
          let same : length (set passes id (after_step p s)) ≡ length passes = length-set passes id (after_step p s) in
          let apart : id ≢ by = λ e. (omega arith) in
          steps_of-else id by kept.taken s apart ∙ kept.others by (omega arith);
      port = port-after words s may kept.port;
    }

    pub IsWitnessed-stepped : IsWitnessed (after_step p s)
    IsWitnessed-stepped = record {
      by = id;
      before = kept.taken;
      last = s;
      words = words_after words s;
      run = subst (λ (x : OpeningWords). IsRun (opening_words x) (steps_of_all longer) (words_after words s))
          (sym mine.opening) run-after;
      own = ap (λ (ss : List StateStep). ss ++ s ∷ []) mine.steps;
    }

  own-split : (by : ℕ) (q : StatePass) →
      (get_elem? (set passes id p) by ≡ some q) ⊎ ((by ≡ length (set passes id p)) × (new_pass p.opening ≡ q)) →
      Knows o kept.taken by q
  own-split by q = ⊎_elim
      (λ old. kept.own by q (subst (λ (l : List StatePass). get_elem? l by ≡ some q) (set_again passes id p at) old))
      (λ new. let none_yet = kept.others by (subst (λ (n : ℕ). n ≤ by) (length-set passes id p) (omega arith)) in
      subst (Knows o kept.taken by) new.1 (record { opening = mine.opening; steps = sym none_yet }))

  pub Kept-split : IsSoundTable o words (set passes id p ++ new_pass p.opening ∷ [])
  Kept-split = record {
    taken = kept.taken;
    run = kept.run;
    own = λ by q found. own-split by q (at_snoc (set passes id p) (new_pass p.opening) q by found);
    others = λ by past.
        let same : length (set passes id p) ≡ length passes = length-set passes id p in
        kept.others by (omega (arith, length-append (set passes id p) (new_pass p.opening ∷ [])));
    port = kept.port;
  }

pub every_step : EveryStep
every_step o words passes by p s kept at may = Kept-stepped o words passes kept by p at s may

module _ (o : OpeningWords) where
  abbrev Rule : State (Unit {0}) StatePass → Type 0
  Rule s = IsSoundTable o s.words s.views

  pub splits : (id : ℕ) (p : StatePass) → Splits Rule id p p (new_pass p.opening)
  splits id p s kept at = Kept-split o s.words s.views kept id p at

  module _ (slots id : ℕ) (me : Me (Unit {0}) StatePass) (index : ℕ) (within : index < me.0.opening.channels + 1) where
    may_look : (s : State (Unit {0}) StatePass) → Rule s → get_elem? s.views id ≡ some me.0 →
        MayStep s.words (load_step index (get_or s.words index 0))
    may_look s kept at = record {
      within = (let width = Kept-width o s.words s.views kept id me.0 at in omega arith);
      sees = refl;
      changes = λ here. tt;
    }

    pub loads : Allows Rule slots id me index (λ n. n) (Loads (step slots index 0 0 none) me)
    loads s kept homes at small =
        let found : ℕ = get_or s.words index 0 in
        let may = may_look s kept at in (
          after_step me.0 (load_step index found),
          keeps,
          tt,
          Kept-stepped o s.words s.views kept id me.0 at (load_step index found) may,
          record {
            pass = refl;
            witnessed = IsWitnessed-stepped o s.words s.views kept id me.0 at (load_step index found) may;
            port = λ here. port-seen s.words (load_step index found) may kept.port here;
          },
        )

    module _ (expected new : ℕ) (change : index ≡ port_index → MayChange expected new) where
      -- what an exchange that found a number does
      abbrev Goes : State (Unit {0}) StatePass → ℕ → Bool → Type 0
      Goes s found won =
          let st : StateStep = cond won (write_step index found new) (load_step index found) in
          IsSoundTable o (set s.words index (either won new found)) (set s.views id (after_step me.0 st)) ×
          IsWitnessed (after_step me.0 st)

      goes : (s : State (Unit {0}) StatePass) → Rule s → get_elem? s.views id ≡ some me.0 → (won : Bool) →
          eqb (get_or s.words index 0) expected ≡ won
          → Goes s (get_or s.words index 0) won
      goes s kept at true is =
          let found : ℕ = get_or s.words index 0 in
          let hit : found ≡ expected = eqb-true found expected is in
          let may : MayStep s.words (write_step index found new) = record {
            within = (may_look s kept at).within;
            sees = refl;
            changes = λ here. subst (λ (n : ℕ). MayChange n new) (sym hit) (change here);
          } in (
            Kept-stepped o s.words s.views kept id me.0 at (write_step index found new) may,
            IsWitnessed-stepped o s.words s.views kept id me.0 at (write_step index found new) may,
          )
      goes s kept at false is =
          let found : ℕ = get_or s.words index 0 in
          let may = may_look s kept at in (
            Kept-stepped o s.words s.views kept id me.0 at (load_step index found) may,
            IsWitnessed-stepped o s.words s.views kept id me.0 at (load_step index found) may,
          )

      pub exchanges : Allows Rule slots id me index
          (λ n. either (eqb n expected) new n) (Exchanges (step slots index expected new none) me)
      exchanges s kept homes at small =
          let found : ℕ = get_or s.words index 0 in
          let gone = goes s kept at (eqb found expected) refl in
          let may = may_look s kept at in (
            after_step me.0 (exchange_step index expected new found),
            keeps,
            tt,
            gone.0,
            record {
              pass = refl;
              witnessed = gone.1;
              port = λ here. port-seen s.words (load_step index found) may kept.port here;
            },
          )
