use Rattle.std.proofs.Common.{Some, None, refl, arith}
use Rattle.cal_queue.specs.BitSet.{marks_of}
use Rattle.cal_queue.specs.UsedChunkMembers.{member-within}
use Rattle.cal_queue.proofs.BitMarks.{length-marks_of, shown-first}
use Rattle.cal_queue.proofs.Members.{IsOwed-at_start, IsOwed-skip, IsOwed-called, RunsOver-at_end, pre-from_IsOwed}
use Rattle.cal_queue.proofs.used_chunk_list.call_on_each.Goals as goal

pub members-init : goal.members-init
members-init g c = record { within = omega arith; owed = IsOwed-at_start _ _ _ c.requires.callable }

-- the number is the first that is owed a call
pub callback-requires : goal.callback-requires
callback-requires g c =
    let marks = marks_of c.args.words.now c.args.capacity in
    let first = shown-first c.args.words.now c.args.capacity _ (record { sound = c.requires.words; is = refl })
    c.members.from
    (Some c.in-Some.number) c.in-Some.ensures.first in
    let within = member-within marks c.in-Some.number first.passes in
    pre-from_IsOwed _ _ _ _ c.in-Some.number within
    (IsOwed-skip _ _ marks _ c.members.from c.in-Some.number first.not_before (omega arith) first.first
    c.members.invariant.owed) first.passes

pub members-preserved : goal.members-preserved
members-preserved g c =
    let marks = marks_of c.args.words.now c.args.capacity in
    let first = shown-first c.args.words.now c.args.capacity _ (record { sound = c.requires.words; is = refl })
    c.members.from
    (Some c.in-Some.number) c.in-Some.ensures.first in
    let within = member-within marks c.in-Some.number first.passes in
    record {
      within = omega (arith, within, length-marks_of c.args.words.now c.args.capacity);
      owed = IsOwed-called _ _ _ _ c.in-Some.number within
          (IsOwed-skip _ _ marks _ c.members.from c.in-Some.number first.not_before (omega arith) first.first
          c.members.invariant.owed)
          _ first.passes c.callback.ensures;
    }

-- none is left
pub returns : goal.returns
returns g c =
    let marks = marks_of c.args.words.now c.args.capacity in
    let none = shown-first c.args.words.now c.args.capacity (record { marks = marks })
    (record { sound = c.requires.words; is = refl })
    c.members.from None c.in_default.ensures.first in
    let whole = length-marks_of c.args.words.now c.args.capacity in
    record {
      called = RunsOver-at_end _ _ marks c.members.callback c.args.capacity (omega arith)
          (IsOwed-skip _ _ marks _ c.members.from c.args.capacity c.members.invariant.within (omega arith)
          (λ k above below. none k above)
          c.members.invariant.owed);
    }
