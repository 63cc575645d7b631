-- The rule that both rings of a channel share: each side of a ring is in one hand, and the words and the two sides'
-- passes fit together.
use Rattle.std.specs.Prelude.{◌≡◌, ℕ, true, false, List}
use mathlib.Core.Option.{some}
use lib.ListN.{get_elem?}
use Rattle.atomic_table.specs.Table.{State, Me}
use Rattle.cal_queue.specs.declared.sided.Sided.{Sided}

module _ {P Q : Type 0} where
  -- both sides in one hand
  abbrev pub both_sides : P → Q → Sided P Q
  both_sides p q = record { writes = true; reads = true; writer = p; reader = q }

  -- the writing side of one view and the reading side of another
  abbrev pub joined_sides : Sided P Q → Sided P Q → Sided P Q
  joined_sides v w = both_sides v.writer w.reader

  -- no side is in hand, and the passes count for nothing
  abbrev pub spent_sides : P → Q → Sided P Q
  spent_sides p q = record { writes = false; reads = false; writer = p; reader = q }

  -- One seat has the writing side with its pass, and one seat the reading side with its pass; they may be one seat. The
  -- words and the two passes meet `Sound`. A view with no flag is spent, and nothing is said of it
  pub record HasTwoSides {S : Type 0} (Sound : List ℕ → P → Q → Type 0) (s : State S (Sided P Q)) : Type 0 where
    pub writing_seat : ℕ
    pub reading_seat : ℕ
    pub writer : P
    pub reader : Q
    pub sound : Sound s.words writer reader
    pub only_writer : (seat : ℕ) (v : Sided P Q) → get_elem? s.views seat ≡ some v → v.writes ≡ true
        → (seat ≡ writing_seat) × (v.writer ≡ writer)
    pub only_reader : (seat : ℕ) (v : Sided P Q) → get_elem? s.views seat ≡ some v → v.reads ≡ true
        → (seat ≡ reading_seat) × (v.reader ≡ reader)
    pub one_writer : (v : Sided P Q) × (get_elem? s.views writing_seat ≡ some v) × (v.writes ≡ true)
    pub one_reader : (v : Sided P Q) × (get_elem? s.views reading_seat ≡ some v) × (v.reads ≡ true)

module _ {S P Q : Type 0} where
  -- a seat whose writing side, or whose reading side, has a new pass
  abbrev pub with_writer : Me S (Sided P Q) → P → Me S (Sided P Q)
  with_writer me p = (record me.0 { writer = p }, me.1)

  abbrev pub with_reader : Me S (Sided P Q) → Q → Me S (Sided P Q)
  with_reader me q = (record me.0 { reader = q }, me.1)
