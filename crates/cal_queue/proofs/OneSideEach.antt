-- A ring's steps, its opening, split and join keep each side in one hand.
use Rattle.std.proofs.Common.{◌≡◌, ℕ, zero, suc, ◌<◌, Bool, true, false, List, [], ◌∷◌, ◌++◌, length, set, sym, refl, ap, ◌∙◌, subst, inl, inr, ◌⊎◌, ⊎_elim, arith}
use Rattle.std.proofs.lemmas.Bool.{false≢true}
use mathlib.Core.Logic.{dite}
use native.Mathlib.Decide.{ℕ_discrete}
use mathlib.Core.Option.{Option, some, some-injective, some-ne-none}
use lib.ListN.{get_elem?}
use Rattle.atomic_table.specs.Table.{State}
use Rattle.atomic_table.proofs.Lists.{at_set, set_here, set_else, at_longer, at_last}
use Rattle.cal_queue.specs.declared.sided.Sided.{Sided}
use Rattle.cal_queue.specs.Sides.{HasTwoSides, both_sides, joined_sides}
use Rattle.cal_queue.proofs.ListIndexes.{at_snoc, at_within}

module _ {V : Type 0} (flag : V → Bool) where
  -- some view with this flag is at an index
  abbrev Held : List V → ℕ → Type 0
  Held views j = (u : V) × (get_elem? views j ≡ some u) × (flag u ≡ true)

  -- a side that some seat has stays with it where one view changes and keeps that flag
  held_on : (views : List V) (seat j : ℕ) (v w : V) → get_elem? views seat ≡ some v → (flag v ≡ true → flag w ≡ true) →
      Held views j → Held (set views seat w) j
  held_on views seat j v w at same held = dite (ℕ_discrete j seat)
      (λ e. let here : some held.0 ≡ some v = sym held.1 ∙ ap (λ (k : ℕ). get_elem? views k) e ∙ at in
      let is : flag v ≡ true = ap flag (sym (some-injective held.0 v here)) ∙ held.2 in (
        w,
        ap (λ (k : ℕ). get_elem? (set views seat w) k) e ∙ set_here views seat w (at_within views seat v at),
        same is,
      ))
      (λ other. (held.0, set_else views seat j w other ∙ held.1, held.2))

module _ {S P Q : Type 0} (Sound : List ℕ → P → Q → Type 0) where
  -- what the seat of the writing side, of the reading side, and of both knows of the whole
  pub writer_meets : (s : State S (Sided P Q)) → HasTwoSides Sound s → (seat : ℕ) (v : Sided P Q) →
      get_elem? s.views seat ≡ some v → v.writes ≡ true
      → (q : Q) × Sound s.words v.writer q
  writer_meets s h seat v at writes =
      (h.reader, subst (λ (p : P). Sound s.words p h.reader) (sym (h.only_writer seat v at writes).1) h.sound)

  pub reader_meets : (s : State S (Sided P Q)) → HasTwoSides Sound s → (seat : ℕ) (v : Sided P Q) →
      get_elem? s.views seat ≡ some v → v.reads ≡ true
      → (p : P) × Sound s.words p v.reader
  reader_meets s h seat v at reads =
      (h.writer, subst (λ (q : Q). Sound s.words h.writer q) (sym (h.only_reader seat v at reads).1) h.sound)

  pub both_meet : (s : State S (Sided P Q)) → HasTwoSides Sound s → (seat : ℕ) (v : Sided P Q) →
      get_elem? s.views seat ≡ some v → v.writes ≡ true → v.reads ≡ true
      → Sound s.words v.writer v.reader
  both_meet s h seat v at writes reads =
      subst (λ (p : P). Sound s.words p v.reader) (sym (h.only_writer seat v at writes).1)
      (subst (λ (q : Q). Sound s.words h.writer q) (sym (h.only_reader seat v at reads).1) h.sound)

  -- the seat of the writing side has a new pass, and the words may be others
  pub writer_steps : (s : State S (Sided P Q)) → HasTwoSides Sound s → (seat : ℕ) (v : Sided P Q) →
      get_elem? s.views seat ≡ some v → v.writes ≡ true
      → (words : List ℕ) (homes : List (Option S)) (p : P) → ((q : Q) → Sound s.words v.writer q → Sound words p q)
      → HasTwoSides Sound (record { words = words; homes = homes; views = set s.views seat (record v { writer = p }) })
  writer_steps s h seat v at writes words homes p keeps =
      let mine = h.only_writer seat v at writes in
      let w : Sided P Q = record v { writer = p } in record {
        writing_seat = h.writing_seat;
        reading_seat = h.reading_seat;
        writer = p;
        reader = h.reader;
        sound = keeps h.reader (subst (λ (x : P). Sound s.words x h.reader) (sym mine.1) h.sound);
        only_writer = λ j u e t. ⊎_elim (λ k. (k.0 ∙ mine.0, sym (ap (λ (z : Sided P Q). z.writer) k.1)))
            (λ k. absurd (k.0 ((h.only_writer j u k.1 t).0 ∙ sym mine.0))) (at_set s.views seat j w u e);
        only_reader = λ j u e t. ⊎_elim
            (λ k. let r = h.only_reader seat v at (ap (λ (z : Sided P Q). z.reads) k.1 ∙ t) in
            (k.0 ∙ r.0, sym (ap (λ (z : Sided P Q). z.reader) k.1) ∙ r.1))
            (λ k. h.only_reader j u k.1 t) (at_set s.views seat j w u e);
        one_writer = held_on (λ z. z.writes) s.views seat h.writing_seat v w at (λ t. t) h.one_writer;
        one_reader = held_on (λ z. z.reads) s.views seat h.reading_seat v w at (λ t. t) h.one_reader;
      }

  -- the same for the reading side
  pub reader_steps : (s : State S (Sided P Q)) → HasTwoSides Sound s → (seat : ℕ) (v : Sided P Q) →
      get_elem? s.views seat ≡ some v → v.reads ≡ true
      → (words : List ℕ) (homes : List (Option S)) (q : Q) → ((p : P) → Sound s.words p v.reader → Sound words p q)
      → HasTwoSides Sound (record { words = words; homes = homes; views = set s.views seat (record v { reader = q }) })
  reader_steps s h seat v at reads words homes q keeps =
      let mine = h.only_reader seat v at reads in
      let w : Sided P Q = record v { reader = q } in record {
        writing_seat = h.writing_seat;
        reading_seat = h.reading_seat;
        writer = h.writer;
        reader = q;
        sound = keeps h.writer (subst (λ (x : Q). Sound s.words h.writer x) (sym mine.1) h.sound);
        only_writer = λ j u e t. ⊎_elim
            (λ k. let r = h.only_writer seat v at (ap (λ (z : Sided P Q). z.writes) k.1 ∙ t) in
            (k.0 ∙ r.0, sym (ap (λ (z : Sided P Q). z.writer) k.1) ∙ r.1))
            (λ k. h.only_writer j u k.1 t) (at_set s.views seat j w u e);
        only_reader = λ j u e t. ⊎_elim (λ k. (k.0 ∙ mine.0, sym (ap (λ (z : Sided P Q). z.reader) k.1)))
            (λ k. absurd (k.0 ((h.only_reader j u k.1 t).0 ∙ sym mine.0))) (at_set s.views seat j w u e);
        one_writer = held_on (λ z. z.writes) s.views seat h.writing_seat v w at (λ t. t) h.one_writer;
        one_reader = held_on (λ z. z.reads) s.views seat h.reading_seat v w at (λ t. t) h.one_reader;
      }

  -- one seat has both sides when a ring is made
  pub opens : (words : List ℕ) (homes : List (Option S)) (p : P) (q : Q) → Sound words p q
      → HasTwoSides Sound (record { words = words; homes = homes; views = both_sides p q ∷ [] })
  opens words homes p q sound = record {
    writing_seat = 0;
    reading_seat = 0;
    writer = p;
    reader = q;
    sound = sound;
    only_writer = λ j u e t. alone (λ z. z.writer) p refl j u e;
    only_reader = λ j u e t. alone (λ z. z.reader) q refl j u e;
    one_writer = (both_sides p q, refl, refl);
    one_reader = (both_sides p q, refl, refl);
  }
    where
      alone : {B : Type 0} (part : Sided P Q → B) (b : B) → part (both_sides p q) ≡ b → (seat : ℕ) (v : Sided P Q) →
          get_elem? (both_sides p q ∷ []) seat ≡ some v → (seat ≡ 0) × (part v ≡ b)
      alone part b is zero v e = (refl, ap part (sym (some-injective (both_sides p q) v e)) ∙ is)
      alone part b is (suc j) v e = absurd (some-ne-none v (sym e))

  module _ (s : State S (Sided P Q)) (h : HasTwoSides Sound s) (seat : ℕ) (v : Sided P Q)
      (at : get_elem? s.views seat ≡ some v) (writes : v.writes ≡ true) (reads : v.reads ≡ true) where
    abbrev left_view : Sided P Q
    left_view = record v { reads = false }

    abbrev right_view : Sided P Q
    right_view = record v { writes = false }

    -- the seat that has both sides keeps the writing side, and a new seat has the reading side
    pub parts : HasTwoSides Sound
        (record { words = s.words; homes = s.homes; views = set s.views seat left_view ++ right_view ∷ [] })
    parts = let kept = set s.views seat left_view in
        let mine = h.only_writer seat v at writes in
        let his = h.only_reader seat v at reads in record {
          writing_seat = seat;
          reading_seat = length kept;
          writer = v.writer;
          reader = v.reader;
          sound = both_meet s h seat v at writes reads;
          only_writer = λ j u e t. ⊎_elim
              (λ k. ⊎_elim (λ i. (i.0, sym (ap (λ (z : Sided P Q). z.writer) i.1)))
              (λ i. absurd (i.0 ((h.only_writer j u i.1 t).0 ∙ sym mine.0))) (at_set s.views seat j left_view u k))
              (λ k. absurd (false≢true (ap (λ (z : Sided P Q). z.writes) k.1 ∙ t))) (at_snoc kept right_view u j e);
          only_reader = λ j u e t. ⊎_elim
              (λ k. ⊎_elim (λ i. absurd (false≢true (ap (λ (z : Sided P Q). z.reads) i.1 ∙ t)))
              (λ i. absurd (i.0 ((h.only_reader j u i.1 t).0 ∙ sym his.0))) (at_set s.views seat j left_view u k))
              (λ k. (k.0, sym (ap (λ (z : Sided P Q). z.reader) k.1))) (at_snoc kept right_view u j e);
          one_writer = (
            left_view,
            at_longer kept (right_view ∷ []) seat left_view
                (set_here s.views seat left_view (at_within s.views seat v at)),
            writes,
          );
          one_reader = (right_view, at_last kept right_view (length kept) refl, reads);
        }

  module _ (s : State S (Sided P Q)) (h : HasTwoSides Sound s) (seat other : ℕ) (v w gone : Sided P Q)
      (at : get_elem? s.views seat ≡ some v) (writes : v.writes ≡ true)
      (apart : ¬ (other ≡ seat)) (there : get_elem? (set s.views seat (joined_sides v w)) other ≡ some w)
      (reads : w.reads ≡ true) (no_writes : gone.writes ≡ false) (no_reads : gone.reads ≡ false) where
    -- the seat of the writing side takes the reading side in, and the other seat's view is spent
    pub joins : HasTwoSides Sound
        (record { words = s.words; homes = s.homes; views = set (set s.views seat (joined_sides v w)) other gone })
    joins = let both = joined_sides v w in
        let half = set s.views seat both in
        let at_other = sym (set_else s.views seat other both apart) ∙ there in
        let mine = h.only_writer seat v at writes in
        let his = h.only_reader other w at_other reads in
        let back : ¬ (seat ≡ other) = λ e. apart (sym e) in
        let here = set_else half other seat gone back ∙ set_here s.views seat both (at_within s.views seat v at) in
        record {
          writing_seat = seat;
          reading_seat = seat;
          writer = v.writer;
          reader = w.reader;
          sound = subst (λ (p : P). Sound s.words p w.reader) (sym mine.1)
              (subst (λ (q : Q). Sound s.words h.writer q) (sym his.1) h.sound);
          only_writer = λ j u e t. ⊎_elim
              (λ k. absurd (false≢true (sym no_writes ∙ ap (λ (z : Sided P Q). z.writes) k.1 ∙ t)))
              (λ k. ⊎_elim (λ i. (i.0, sym (ap (λ (z : Sided P Q). z.writer) i.1)))
              (λ i. absurd (i.0 ((h.only_writer j u i.1 t).0 ∙ sym mine.0))) (at_set s.views seat j both u k.1))
              (at_set half other j gone u e);
          only_reader = λ j u e t. ⊎_elim
              (λ k. absurd (false≢true (sym no_reads ∙ ap (λ (z : Sided P Q). z.reads) k.1 ∙ t)))
              (λ k. ⊎_elim (λ i. (i.0, sym (ap (λ (z : Sided P Q). z.reader) i.1)))
              (λ i. absurd (k.0 ((h.only_reader j u i.1 t).0 ∙ sym his.0))) (at_set s.views seat j both u k.1))
              (at_set half other j gone u e);
          one_writer = (both, here, refl);
          one_reader = (both, here, refl);
        }
