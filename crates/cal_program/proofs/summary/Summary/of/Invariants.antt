use Rattle.std.proofs.Common.{◌≡◌, ◌*◌, ◌≤◌, take}
use Rattle.std.specs.Prelude.{sum}
use Rattle.std.specs.List.{sum_by}
use Rattle.cal_program.specs.Summary.{answer_count, refusal_count, transit_count, shown_bytes, shown_count}
use Rattle.cal_program.proofs.summary.Summary.of.Given as goal

abbrev pub invariant-loop-place : goal.invariant-loop-place
invariant-loop-place l = record {
  answered : l.summary.answered ≡ sum_by answer_count (take l.place l.replies.items);
  refused : l.summary.refused ≡ sum_by refusal_count (take l.place l.replies.items);
  transit : l.summary.transit ≡ sum_by transit_count (take l.place l.replies.items);
  total : l.summary.sum ≡ sum_by (λ reply. sum (shown_bytes reply)) (take l.place l.replies.items);
  answered_few : l.summary.answered ≤ l.place;
  refused_few : l.summary.refused ≤ l.place;
  transit_few : l.summary.transit ≤ l.place;
  total_few : l.summary.sum ≤ 255 * shown_count (take l.place l.replies.items);
}
