-- What is still held closes to the same, and nothing below the number is held.
use Rattle.std.proofs.Common.{◌≡◌, ℕ, ◌<◌, None}
use Rattle.cal_resizable.specs.Closing.{held_handles, after_closing, CanClose}
use Rattle.cal_resizable.specs.Slots.{segment_at}
use Rattle.cal_resizable.proofs.closing.close_all.Given as goal

abbrev pub invariant-loop-number : goal.invariant-loop-number
invariant-loop-number g l = record {
  same : after_closing l.reg (held_handles l.segments) ≡ after_closing l.fn.reg (held_handles l.fn.segments);
  can : CanClose l.reg (held_handles l.segments);
  gone : (k : ℕ) → k < l.number → segment_at l.segments k ≡ None;
}
