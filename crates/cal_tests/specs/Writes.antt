-- What the steps of a side come to.
use Rattle.std.specs.Prelude.{◌≡◌, ℕ, ◌+◌, ◌-◌, ◌%◌, ◌^◌, ◌⊎◌, false, List, [], ◌∷◌, ◌++◌, is_some, IfSome, if◌then◌else◌}
use Rattle.cal_queue.specs.StateTable.{channel_index, has_bit, load_step, port_index, write_step}
use Rattle.cal_queue.specs.declared.state_table.pass.StateStep.{StateStep}

-- how many of these steps wrote
abbrev pub writes : List StateStep → ℕ
writes [] = 0
writes (s ∷ steps) = (if is_some s.written then 1 else 0) + writes steps

-- a step at the word of this channel that wrote nothing, or one more than it saw, and 0 after the last number
pub record AddsOne (channel : ℕ) (s : StateStep) : Type 0 where
  pub index : s.index ≡ channel_index channel
  pub written : IfSome s.written (λ word. word ≡ (s.seen + 1) % 2 ^ 64)

-- the last of these steps is this one
abbrev pub EndsIn : List StateStep → StateStep → Type 0
EndsIn steps last = (before : List StateStep) × (steps ≡ before ++ last ∷ [])

-- the last of these steps took the bit of a side from the word with both bits: the other side is there
abbrev pub LeavesOtherBehind : ℕ → List StateStep → Type 0
LeavesOtherBehind bit steps = EndsIn steps (write_step port_index 3 (3 - bit))

-- the last of these steps saw a word without that bit: somebody else took it
abbrev pub FindsBitGone : ℕ → List StateStep → Type 0
FindsBitGone bit steps = (seen : ℕ) × (has_bit seen bit ≡ false) × EndsIn steps (load_step port_index seen)
