use Rattle.std.proofs.Common.{length, ap, sym, subst, ◌∙◌}
use Rattle.std.proofs.lemmas.List.FromFn.{length-range_with_len}
use Rattle.cal_tests.specs.Rising.{IsRising}
use Rattle.cal_tests.proofs.RisingValues.{range-rises, received-rises}
use Rattle.cal_tests.proofs.submission_ring.send_and_take.Goals as goal

pub returns-clause-sent : goal.returns-clause-sent
returns-clause-sent g c =
    let sent = rw c.in_ok-send-2.was at c.join-sent.ensures.first in
    c.rest.ensures.sent ∙ ap length sent.1 ∙ length-range_with_len 0 c.args.count

pub returns-clause-taken_rise : goal.returns-clause-taken_rise
returns-clause-taken_rise g c =
    let partition = c.rest.ensures.partition in
    let sent = rw c.in_ok-send-2.was at c.join-sent.ensures.first in
    let took = rw c.in_ok-take.was at c.join-sent.ensures.second in
    let rising = subst IsRising (sym sent.1) (range-rises c.args.count) in
    subst IsRising (sym took.1) (received-rises _ _ rising partition.received_rise partition.received_as_sent)

pub returns-clause-returned_rise : goal.returns-clause-returned_rise
returns-clause-returned_rise g c =
    let partition = c.rest.ensures.partition in
    let sent = rw c.in_ok-send-2.was at c.join-sent.ensures.first in
    let rising = subst IsRising (sym sent.1) (range-rises c.args.count) in
    subst IsRising (sym sent.2) (received-rises _ _ rising partition.overflowed_rise partition.overflowed_as_sent)
