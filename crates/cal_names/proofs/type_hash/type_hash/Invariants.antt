use Rattle.std.proofs.Common.{◌≡◌, ◌*◌, ◌-◌, ◌/◌, ◌%◌, ◌^◌, ◌<◌, ℕ, length, slice_index}
use Rattle.std.specs.Int.Digits.{number_from_digits}
use Rattle.cal_names.specs.TypeHash.{hash_letters}
use Rattle.cal_names.proofs.type_hash.type_hash.Given as goal

abbrev pub invariant-loop-index : goal.invariant-loop-index
invariant-loop-index l = record {
  length : length l.text ≡ 27;
  letters : (k : ℕ) → k < l.index →
      slice_index l.text k ≡ slice_index hash_letters (number_from_digits 256 l.hash * 4 / 2 ^ (6 * (26 - k)) % 64);
}
