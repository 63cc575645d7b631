use Rattle.std.proofs.Common.{◌+◌, ◌*◌, ◌≤◌, length}
use Rattle.cal_frames.proofs.Progress.{IsShowing}
use Rattle.cal_frames.proofs.Standing.{waiting}
use Rattle.cal_frames.proofs.showing.show_frames.Given as goal

-- what was shown so far, and that there is room for the frames that are left
abbrev pub invariant-loop-number : goal.invariant-loop-number
invariant-loop-number l = record {
  showing : IsShowing l.transport l.frames l.number l.shown.items;
  room : 8 * length l.frames ≤ l.transport.spare + 8 * l.number;
}

-- all frames were handed over
abbrev pub invariant-loop-shown : goal.invariant-loop-shown
invariant-loop-shown l = IsShowing l.transport l.frames (length l.frames) l.shown.items

-- each turn shows a frame that waits
abbrev pub decreases-loop-shown : goal.decreases-loop-shown
decreases-loop-shown l = waiting l.transport
