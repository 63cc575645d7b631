-- What a table's steps ask of a rule with two sides, once for every ring: it is enough that the pass of the side that
-- steps,
-- beside any pass of the other side, fits the words before and after.
use Rattle.std.proofs.Common.{◌≡◌, ℕ, ◌<◌, true, false, List, get_or, set, sym, subst}
use Rattle.std.proofs.lemmas.List.{set-get_or}
use Rattle.atomic_table.specs.Table.{Me, keeps, Allows, Splits, Joins}
use Rattle.cal_queue.specs.declared.sided.Sided.{Sided}
use Rattle.cal_queue.specs.Sides.{HasTwoSides, joined_sides}
use Rattle.cal_queue.proofs.OneSideEach.{writer_meets, reader_meets, both_meet, writer_steps, reader_steps, parts, joins}

module _ {S P Q : Type 0} (Sound : List ℕ → P → Q → Type 0) (slots seat : ℕ) (me : Me S (Sided P Q)) (i : ℕ) (f : ℕ → ℕ)
    (then : ℕ → Me S (Sided P Q) → Type 0) where
  abbrev found : List ℕ → ℕ
  found words = get_or words i 0

  -- a step of the writing side
  pub writer_allowed : (next : ℕ → P) → me.0.writes ≡ true
      → ((words : List ℕ) (q : Q) → found words < 18446744073709551616 → Sound words me.0.writer q
      → Sound (set words i (f (found words))) (next (found words)) q × then (found words)
      (record me.0 { writer = next (found words) }, me.1))
      → Allows (HasTwoSides Sound) slots seat me i f then
  writer_allowed next writes step s h count at below =
      let n = found s.words in
      let q = writer_meets Sound s h seat me.0 at writes in (
        record me.0 { writer = next n },
        keeps,
        tt,
        writer_steps Sound s h seat me.0 at writes (set s.words i (f n)) s.homes (next n)
            (λ r sound. (step s.words r below sound).0),
        (step s.words q.0 below q.1).1,
      )

  -- a step of the reading side
  pub reader_allowed : (next : ℕ → Q) → me.0.reads ≡ true
      → ((words : List ℕ) (p : P) → found words < 18446744073709551616 → Sound words p me.0.reader
      → Sound (set words i (f (found words))) p (next (found words)) × then (found words)
      (record me.0 { reader = next (found words) }, me.1))
      → Allows (HasTwoSides Sound) slots seat me i f then
  reader_allowed next reads step s h count at below =
      let n = found s.words in
      let p = reader_meets Sound s h seat me.0 at reads in (
        record me.0 { reader = next n },
        keeps,
        tt,
        reader_steps Sound s h seat me.0 at reads (set s.words i (f n)) s.homes (next n)
            (λ r sound. (step s.words r below sound).0),
        (step s.words p.0 below p.1).1,
      )

module _ {S P Q : Type 0} (Sound : List ℕ → P → Q → Type 0) (slots seat : ℕ) (me : Me S (Sided P Q)) (i : ℕ)
    (then : ℕ → Me S (Sided P Q) → Type 0) where
  -- a look by the seat that has both sides, which changes nothing
  pub look_allowed : me.0.writes ≡ true → me.0.reads ≡ true
      → ((words : List ℕ) → Sound words me.0.writer me.0.reader → then (get_or words i 0) me)
      → Allows (HasTwoSides Sound) slots seat me i (λ n. n) then
  look_allowed writes reads tells s h count at below =
      let n = get_or s.words i 0 in (
        me.0,
        keeps,
        tt,
        writer_steps Sound s h seat me.0 at writes (set s.words i n) s.homes me.0.writer
            (λ r sound. subst (λ (w : List ℕ). Sound w me.0.writer r) (sym (set-get_or s.words i 0)) sound),
        tells s.words (both_meet Sound s h seat me.0 at writes reads),
      )

module _ {S P Q : Type 0} (Sound : List ℕ → P → Q → Type 0) (seat : ℕ) (v : Sided P Q) (writes : v.writes ≡ true) where
  -- the two sides go apart
  pub sides_split : v.reads ≡ true →
      Splits {S = S} (HasTwoSides Sound) seat v (record v { reads = false }) (record v { writes = false })
  sides_split reads s h at = parts Sound s h seat v at writes reads

  -- and come together
  pub sides_join : (other : ℕ) (w gone : Sided P Q) → w.reads ≡ true → gone.writes ≡ false → gone.reads ≡ false →
      Joins {S = S} (HasTwoSides Sound) seat v other w (joined_sides v w) gone
  sides_join other w gone reads no_writes no_reads s h at apart there =
      joins Sound s h seat other v w gone at writes apart there reads no_writes no_reads
