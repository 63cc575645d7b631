use Rattle.std.proofs.Common.{◌≡◌, true, false, get_or, sym, ◌∙◌, rules, arith}
use Rattle.cal_queue.proofs.Members.{IsClearedBelow-at_start, IsClearedBelow-next, replicate-from_IsClearedBelow, IsOwed-at_start, IsOwed-called, IsOwed-skipped, RunsOver-at_end, pre-from_IsOwed}
use Rattle.cal_queue.proofs.marks.clear_marks.Goals as goal
use Rattle.cal_queue.proofs.marks.clear_marks.Goals.{then-replace, else-replace}

pub loop-index-init : goal.loop-index-init
loop-index-init g c =
    record { so_far = IsClearedBelow-at_start _; owed = IsOwed-at_start _ _ _ c.requires }

-- the mark at the index is the first one there
pub callback-requires : goal.callback-requires
callback-requires g c =
    let i = c.loop-index.index in
    let before = c.loop-index.invariant in
    let is : get_or c.args.marks.now i false ≡ true =
    sym (before.so_far.kept i (omega arith)) ∙ sym c.replace.ensures.value ∙ c.if-replace.true in
    pre-from_IsOwed _ _ _ _ i (omega arith) before.owed is

pub loop-index-preserved : goal.loop-index-preserved
loop-index-preserved g c =
    let i = c.loop-index.index in
    let before = c.loop-index.invariant in
    let is : get_or c.args.marks.now i false ≡ c.replace.result =
    sym (before.so_far.kept i (omega arith)) ∙ sym c.replace.ensures.value in
    record {
      so_far = rw c.replace.ensures.after (IsClearedBelow-next _ _ i (omega arith) before.so_far);
      owed = elim c.if-replace.branch [
        | then-replace w ↦ rw w.callback-is
            (IsOwed-called _ _ _ _ i (omega arith) before.owed _ (is ∙ w.if-replace.true) w.callback.ensures)
        | else-replace w ↦ rw w.callback-is
            (IsOwed-skipped _ _ _ _ i (omega arith) before.owed (is ∙ w.if-replace.false))
      ];
    }

pub returns-clause-called : goal.returns-clause-called
returns-clause-called g c = search (rules, RunsOver-at_end)

pub returns-clause-empty : goal.returns-clause-empty
returns-clause-empty g c =
    replicate-from_IsClearedBelow _ _ _ _ (omega arith) c.loop-index.auto.marks c.loop-index.invariant.so_far
