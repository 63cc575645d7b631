-- What the answers of a side that joins or leaves say of its pass.
use Rattle.std.specs.Prelude.{◌≡◌, ℕ, ◌+◌, ◌-◌, true, false, List, [], ◌∷◌, ◌++◌, None}
use Rattle.cal_queue.specs.declared.reserve_refusal.ReserveRefusal.{ReserveRefusal}
use Rattle.cal_queue.specs.declared.reserve_refusal.ReserveRefusal.TheVariants.{AlreadyConnected, BeingCleanedUp}
use Rattle.cal_queue.specs.declared.state_table.pass.StateStep.{StateStep}
use Rattle.cal_queue.specs.declared.state_table.pass.StatePass.{StatePass}
use Rattle.cal_queue.specs.StateTable.{has_bit, load_step, mark, port_index, write_step}

-- steps at the port word that wrote nothing
abbrev pub AreLooks : List StateStep → Type 0
AreLooks [] = Unit {0}
AreLooks (s ∷ steps) = (s.index ≡ port_index) × (s.written ≡ None) × AreLooks steps

-- the call looked at the port word some times, and did nothing else
pub record OnlyLooked (before after : StatePass) : Type 0 where
  pub looks : List StateStep
  pub are_looks : AreLooks looks
  pub opening : after.opening ≡ before.opening
  pub steps : after.steps ≡ before.steps ++ looks

-- the call looked at the port word some times, and then took this last step
pub record EndsWith (before after : StatePass) (last : StateStep) : Type 0 where
  pub looks : List StateStep
  pub are_looks : AreLooks looks
  pub opening : after.opening ≡ before.opening
  pub steps : after.steps ≡ (before.steps ++ looks) ++ last ∷ []

-- the last step added the bit to a word that had neither the bit nor the mark
pub record Reserved (bit : ℕ) (before after : StatePass) : Type 0 where
  pub seen : ℕ
  pub absent : has_bit seen bit ≡ false
  pub unmarked : has_bit seen mark ≡ false
  pub steps : EndsWith before after (write_step port_index seen (seen + bit))

-- the last step saw the word that the refusal carries, and no step wrote: the bit is there, or else the mark is
abbrev pub Refused : ℕ → ReserveRefusal → StatePass → StatePass → Type 0
Refused bit (AlreadyConnected seen) before after = (has_bit seen bit ≡ true)
    × EndsWith before after (load_step port_index seen)
Refused bit (BeingCleanedUp seen) before after = (has_bit seen bit ≡ false) × (has_bit seen mark ≡ true)
    × EndsWith before after (load_step port_index seen)

-- the last step took the word that was the bit alone to the mark
abbrev pub LeftMark : ℕ → StatePass → StatePass → Type 0
LeftMark bit before after = EndsWith before after (write_step port_index bit mark)

-- the last step took the bit from the word with both bits
abbrev pub LeftOther : ℕ → StatePass → StatePass → Type 0
LeftOther bit before after = EndsWith before after (write_step port_index 3 (3 - bit))

-- the last step saw a word without the bit, and no step wrote
pub record WasAbsent (bit : ℕ) (before after : StatePass) : Type 0 where
  pub seen : ℕ
  pub absent : has_bit seen bit ≡ false
  pub steps : EndsWith before after (load_step port_index seen)
