use Rattle.std.proofs.Common.{ℕ, List, length, rules, arith, ap, refl, sym, subst}
use Rattle.cal_queue.specs.RingState.{Tag, received, tagged_positions}
use Rattle.cal_queue.specs.SubmissionSteps.{End, IsSettled}
use Rattle.cal_queue.specs.Partition.{IsPartition}
use Rattle.cal_queue.proofs.SidedTables.{sides_join}
use Rattle.cal_queue.proofs.SubmissionAllowed.{settles-allowed}
use Rattle.cal_queue.proofs.TaggedPositions.{tagged-counts, tagged-partition}
use Rattle.cal_queue.proofs.submission_ring.resting.rest.Goals as goal

pub join_seat-requires : goal.join_seat-requires
join_seat-requires c =
    let send = c.args.send in
    let take = c.args.take in
    let sized = send.sized in (
      search rules,
      search rules,
      search rules,
      search rules,
      sides_join _ _ _ send.sends.0 _ _ _ take.takes.0 refl refl,
    )

pub load-read-requires : goal.load-read-requires
load-read-requires c =
    let joined_sides = c.join_seat.ensures.2 in (
      search rules,
      search rules,
      settles-allowed _ _ _ _ (ap (λ (m : End). m.0.writes) joined_sides) (ap (λ (m : End). m.0.reads) joined_sides),
    )

-- what the last look told, of the passes as they stood
settled : (c : goal.After-drop-send) →
    (tags : List Tag) × IsSettled c.args.send.seat.me.0.writer c.args.take.seat.me.0.reader c.load-read.result tags
settled c =
    let told = c.load-read.ensures.2.1 in (
      told.0,
      subst (λ (m : End). IsSettled m.0.writer m.0.reader c.load-read.result told.0) c.join_seat.ensures.2
          told.1,
    )

pub returns-clause-adds_up : goal.returns-clause-adds_up
returns-clause-adds_up c =
    let told = settled c in
    let send = c.args.send in
    let sent = send.seat.me.0.writer.sent in
    let counts = tagged-counts 0 told.0 sent told.1.read_within in
    let returned = ap length told.1.overflowed_tagged in
    let received = ap length told.1.received_tagged in
    let position = told.1.read_position in
    let within = told.1.read_within in
    let by_sender = send.counted in
    let by_taker = c.args.take.counted in omega arith

pub returns-clause-within : goal.returns-clause-within
returns-clause-within c =
    let told = settled c in
    let send = c.args.send in
    let room = told.1.room send.nothing_due in
    let position = told.1.read_position in
    let counted = send.counted in omega arith

pub returns-clause-partition : goal.returns-clause-partition
returns-clause-partition c =
    let told = settled c in
    let sent = c.args.send.seat.me.0.writer.sent in
    let partition = tagged-partition told.0 sent told.1.read_within in
    subst (λ (l : List (ℕ × ℕ)). IsPartition sent l c.args.send.seat.me.0.writer.overflowed)
    (sym told.1.received_tagged)
    (subst (λ (l : List (ℕ × ℕ)). IsPartition sent (tagged_positions received 0 told.0 sent) l)
    (sym told.1.overflowed_tagged) partition)

pub returns-clause-scheduled : goal.returns-clause-scheduled
returns-clause-scheduled c =
    let told = settled c in (told.0, told.1.submitted, told.1.overflowed_tagged, told.1.received_tagged)
