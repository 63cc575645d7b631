-- The rule of a state table, and what one step tells the seat that takes it.
use Rattle.std.specs.Prelude.{◌≡◌, ℕ, ◌≤◌, List, [], length, slice_index}
use mathlib.Core.Option.{some}
use lib.ListN.{get_elem?}
use Rattle.atomic_table.specs.Table.{Me, Step}
use Rattle.cal_queue.specs.declared.state_table.pass.OpeningWords.{OpeningWords}
use Rattle.cal_queue.specs.declared.state_table.pass.StatePass.{StatePass}
use Rattle.cal_queue.specs.StateTable.{IsPortWord, IsRun, IsWitnessed, TakenStep, exchange_step, load_step, opening_words, port_index, steps_of, steps_of_all, after_step}

-- the pass of a seat has just the steps that it took
pub record Knows (o : OpeningWords) (taken : List TakenStep) (by : ℕ) (p : StatePass) : Type 0 where
  pub opening : p.opening ≡ o
  pub steps : p.steps ≡ steps_of by taken

-- The steps of all seats lead from the opening words to the words now. Each pass has the steps of its
-- seat, and a seat that is still to be made has none. The port word is one that a port may have.
pub record IsSoundTable (o : OpeningWords) (words : List ℕ) (passes : List StatePass) : Type 0 where
  pub taken : List TakenStep
  pub run : IsRun (opening_words o) (steps_of_all taken) words
  pub own : (by : ℕ) (p : StatePass) → get_elem? passes by ≡ some p → Knows o taken by p
  pub others : (by : ℕ) → length passes ≤ by → steps_of by taken ≡ []
  pub port : IsPortWord (slice_index words port_index)

abbrev Seated : Type 0
Seated = Me (Unit {0}) StatePass

-- a load adds to the pass that it saw the word found
pub record Loads (s : Step (Unit {0})) (before : Seated) (found : ℕ) (after : Seated) : Type 0 where
  pub pass : after.0 ≡ after_step before.0 (load_step s.word found)
  pub witnessed : IsWitnessed after.0
  pub port : s.word ≡ port_index → IsPortWord found

-- an exchange adds to the pass that it saw the word found, and what it wrote if that was the one expected
pub record Exchanges (s : Step (Unit {0})) (before : Seated) (found : ℕ) (after : Seated) : Type 0 where
  pub pass : after.0 ≡ after_step before.0 (exchange_step s.word s.first s.second found)
  pub witnessed : IsWitnessed after.0
  pub port : s.word ≡ port_index → IsPortWord found
