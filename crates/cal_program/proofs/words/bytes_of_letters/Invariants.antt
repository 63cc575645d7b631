use Rattle.std.proofs.Common.{◌≡◌, ◌≤◌, ◌-◌, ◌++◌, length, drop}
use Rattle.std.specs.Prelude.{option_map}
use Rattle.cal_program.specs.Words.{bytes_of_letters}
use Rattle.cal_program.proofs.words.bytes_of_letters.Given as goal

abbrev pub invariant-loop-place : goal.invariant-loop-place
invariant-loop-place l = record {
  within : l.place ≤ length l.letters;
  rest : option_map (λ bytes. l.bytes.items ++ bytes) (bytes_of_letters (drop l.place l.letters)) ≡
      bytes_of_letters l.letters;
}

abbrev pub decreases-loop-place : goal.decreases-loop-place
decreases-loop-place l = length l.letters - l.place
