-- A state table as contracts see it: its words, the steps that seats take at them, and what a seat knows.
use Rattle.std.specs.Prelude.{◌≡◌, ℕ, ◌+◌, ◌-◌, ◌/◌, ◌%◌, ◌<◌, ◌≤◌, ◌==◌, Bool, false, ◌⊎◌, List, [], ◌∷◌, ◌++◌, length, map, replicate, slice_index, slice_set, Some, None, IfSome, if◌then◌else◌}
use Rattle.std.specs.Option.{unwrap_or}
use Rattle.cal_queue.specs.declared.state_table.pass.OpeningWords.{OpeningWords}
use Rattle.cal_queue.specs.declared.state_table.pass.StateStep.{StateStep}
use Rattle.cal_queue.specs.declared.state_table.pass.StatePass.{StatePass}

-- a port word shows which sides are there, 1 for the first and 2 for the second, or it is the mark of a
-- connection that is being cleaned up, 128
abbrev pub IsPortWord : ℕ → Type 0
IsPortWord word = (word ≤ 3) ⊎ (word ≡ 128)

abbrev pub mark : ℕ
mark = 128

abbrev pub IsPortBit : ℕ → Type 0
IsPortBit bit = (bit ≡ 1) ⊎ (bit ≡ 2)

abbrev pub has_bit : ℕ → ℕ → Bool
has_bit word bit = (word / bit) % 2 == 1

-- a side joins: its bit is added to a word that has neither that bit nor the mark
pub record Joins (bit seen written : ℕ) : Type 0 where
  pub absent : has_bit seen bit ≡ false
  pub unmarked : has_bit seen mark ≡ false
  pub added : written ≡ seen + bit

-- a side leaves and the other stays: its bit is taken from a word that has both bits
pub record LeavesOther (bit seen written : ℕ) : Type 0 where
  pub both : seen ≡ 3
  pub taken : written ≡ 3 - bit

-- the last side leaves: a word that is its bit alone becomes the mark
pub record LeavesMark (bit seen written : ℕ) : Type 0 where
  pub alone : seen ≡ bit
  pub marked : written ≡ mark

-- the changes of a port word
abbrev pub MayChange : ℕ → ℕ → Type 0
MayChange seen written = (bit : ℕ) × IsPortBit bit
    × (Joins bit seen written ⊎ (LeavesOther bit seen written ⊎ LeavesMark bit seen written))

-- the index of the port word, and that of a channel's word
abbrev pub port_index : ℕ
port_index = 0

abbrev pub channel_index : ℕ → ℕ
channel_index channel = channel + 1

-- the words when the table is made
abbrev pub opening_words : OpeningWords → List ℕ
opening_words o = o.port ∷ replicate o.channels o.initial

-- a step that wrote nothing, and one that wrote a word
abbrev pub load_step : ℕ → ℕ → StateStep
load_step index seen = record { index = index; seen = seen; written = None }

abbrev pub write_step : ℕ → ℕ → ℕ → StateStep
write_step index seen word = record { index = index; seen = seen; written = Some word }

-- an exchange writes exactly where it sees the word that it expects
abbrev pub exchange_step : ℕ → ℕ → ℕ → ℕ → StateStep
exchange_step index expected word seen = if seen == expected then write_step index seen word else load_step index seen

-- the words after a step: at its index stands what it wrote, or else what it saw
abbrev pub words_after : List ℕ → StateStep → List ℕ
words_after words s = slice_set words s.index (unwrap_or s.written s.seen)

-- a step that may be taken at these words: it sees the word at its index, and changes a port word only
-- in one of the three ways
pub record MayStep (words : List ℕ) (s : StateStep) : Type 0 where
  pub within : s.index < length words
  pub sees : s.seen ≡ slice_index words s.index
  pub changes : s.index ≡ port_index → IfSome s.written (MayChange s.seen)

-- steps that may be taken one after the other lead from the first words to the last
abbrev pub IsRun : List ℕ → List StateStep → List ℕ → Type 0
IsRun first [] last = last ≡ first
IsRun first (s ∷ steps) last = MayStep first s × IsRun (words_after first s) steps last

-- a step, and the number of the seat that took it
pub record TakenStep : Type 0 where
  pub by : ℕ
  pub step : StateStep

abbrev pub steps_of_all : List TakenStep → List StateStep
steps_of_all = map (λ (t : TakenStep). t.step)

-- the steps of one seat among those of all
abbrev pub steps_of : ℕ → List TakenStep → List StateStep
steps_of by [] = []
steps_of by (t ∷ taken) = if t.by == by then (t.step ∷ steps_of by taken) else steps_of by taken

-- the pass of a seat that has taken no step
abbrev pub new_pass : OpeningWords → StatePass
new_pass o = record { opening = o; steps = [] }

abbrev pub new_pass_of : ℕ → ℕ → ℕ → StatePass
new_pass_of port channels initial = new_pass (record { port = port; initial = initial; channels = channels })

-- the pass after one more step
abbrev pub after_step : StatePass → StateStep → StatePass
after_step p s = record { opening = p.opening; steps = p.steps ++ s ∷ [] }

-- the last step of a pass ends a run of the steps of all seats from the opening words, in which the
-- steps of the pass are those of one seat
pub record IsWitnessed (p : StatePass) : Type 0 where
  pub by : ℕ
  pub before : List TakenStep
  pub last : StateStep
  pub words : List ℕ
  pub run : IsRun (opening_words p.opening) (steps_of_all (before ++ record { by = by; step = last } ∷ [])) words
  pub own : p.steps ≡ steps_of by before ++ last ∷ []
