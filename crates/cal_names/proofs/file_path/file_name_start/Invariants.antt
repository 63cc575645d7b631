use Rattle.std.proofs.Common.{◌≡◌, ◌≤◌, ◌<◌, ℕ, length, eqb, slice_index, false}
use Rattle.cal_names.specs.Path.{slash}
use Rattle.cal_names.proofs.file_path.file_name_start.Given as goal

abbrev pub invariant-loop-start : goal.invariant-loop-start
invariant-loop-start l = record {
  within : l.start ≤ length l.value;
  after : (k : ℕ) → l.start ≤ k → k < length l.value → eqb (slice_index l.value k) slash ≡ false;
}

abbrev pub decreases-loop-start : goal.decreases-loop-start
decreases-loop-start l = l.start
