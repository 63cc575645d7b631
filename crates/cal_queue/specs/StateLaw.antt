-- What holds of a state table whatever its seats do.
use Rattle.std.specs.Prelude.{◌≡◌, ℕ, ◌≤◌, List, [], ◌∷◌, slice_index, slice_set}
use mathlib.Core.Option.{some}
use lib.ListN.{get_elem?}
use Rattle.cal_queue.specs.declared.state_table.pass.OpeningWords.{OpeningWords}
use Rattle.cal_queue.specs.declared.state_table.pass.StateStep.{StateStep}
use Rattle.cal_queue.specs.declared.state_table.pass.StatePass.{StatePass}
use Rattle.cal_queue.specs.StateRule.{IsSoundTable}
use Rattle.cal_queue.specs.StateTable.{IsPortWord, IsRun, MayStep, new_pass, opening_words, port_index, after_step, words_after}

-- a new table meets the rule
abbrev pub EveryOpening : Type 0
EveryOpening = (o : OpeningWords) → o.port ≤ 3 → IsSoundTable o (opening_words o) (new_pass o ∷ [])

-- a step of any seat, taken at words and passes that meet the rule, leaves words and passes that meet it
abbrev pub EveryStep : Type 0
EveryStep = (o : OpeningWords) (words : List ℕ) (passes : List StatePass) (by : ℕ) (p : StatePass) (s : StateStep)
    → IsSoundTable o words passes → get_elem? passes by ≡ some p → MayStep words s
    → IsSoundTable o (words_after words s) (slice_set passes by (after_step p s))

-- steps of any number of seats, from the opening words on, lead to a port word that a port may have
abbrev pub EveryRun : Type 0
EveryRun = (o : OpeningWords) (steps : List StateStep) (words : List ℕ)
    → o.port ≤ 3 → IsRun (opening_words o) steps words → IsPortWord (slice_index words port_index)
