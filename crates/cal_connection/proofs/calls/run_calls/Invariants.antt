use Rattle.std.proofs.Common.{◌≡◌, ◌≤◌, length}
use Rattle.std.specs.Vec.{vec_capacity}
use Rattle.cal_connection.specs.Calls.{AreJoined}
use Rattle.cal_connection.proofs.Made.{AreMade}
use Rattle.cal_connection.proofs.calls.run_calls.Given as goal

-- the calls before this one were made
abbrev pub invariant-loop-call : goal.invariant-loop-call
invariant-loop-call g l = record {
  made : AreMade l.fn.reg l.fn.receiver l.calls l.reg l.receiver l.replies.items l.call-index;
  joined : AreJoined l.reg l.sender l.receiver;
  sender : l.sender ≡ l.fn.sender;
  room : length l.calls ≤ vec_capacity l.replies;
}
