use Rattle.std.proofs.Common.{arith}
use Rattle.cal_resizable.proofs.CutLemmas.{search-start, search-found, search-on}
use Rattle.cal_resizable.proofs.names.last_separator.Goals as goal
use Rattle.cal_resizable.proofs.names.last_separator.Goals.{else-bytes-end-eq95-via-then-bytes-end-eq95+else-bytes-end-eq95-2, else-bytes-end-eq95-via-else-bytes-end-eq95}

pub loop-end-init : goal.loop-end-init
loop-end-init c = record { within = omega arith; none = search-start c.args.bytes.now }

pub returns-then-bytes-end-eq95-2-clause-cut : goal.returns-then-bytes-end-eq95-2-clause-cut
returns-then-bytes-end-eq95-2-clause-cut c =
    search-found c.args.bytes.now c.loop-end.end c.loop-end-test.true c.loop-end.invariant.within
    c.loop-end.invariant.none c.if-bytes-end-eq95.true c.if-bytes-end-eq95-2.true

pub loop-end-preserved : goal.loop-end-preserved
loop-end-preserved c = record {
  within = omega arith;
  none = search-on c.args.bytes.now c.loop-end.end c.loop-end-test.true c.loop-end.invariant.within
      c.loop-end.invariant.none (λ second first. elim c.else-bytes-end-eq95.branch [
        | else-bytes-end-eq95-via-then-bytes-end-eq95+else-bytes-end-eq95-2 w ↦ w.if-bytes-end-eq95-2.false first
        | else-bytes-end-eq95-via-else-bytes-end-eq95 w ↦ w.if-bytes-end-eq95.false second
      ]);
}
