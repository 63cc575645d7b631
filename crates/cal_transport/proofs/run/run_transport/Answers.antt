use Rattle.std.proofs.Common.{◌≡◌, ◌+◌, ◌≤◌, ◌<◌, [], length, Some, refl, sym, ◌∙◌, subst, arith}
use Rattle.std.specs.List.{slice_get}
use Rattle.std.proofs.lemmas.Option.{slice_get_read}
use Rattle.cal_transport.specs.FillList.{AreServed, completed_after}
use Rattle.cal_transport.specs.Run.{IsRun, after_steps}
use Rattle.cal_transport.specs.Ledger.{first_ledger}
use Rattle.cal_transport.proofs.Capacity.{run_has_capacity}
use Rattle.cal_transport.proofs.FillRounds.{fill_served}
use Rattle.cal_transport.proofs.RunningState.{starts, running_below, runs_on, ran, ended, ran_out, left_answered, left_unanswered}
use Rattle.cal_transport.proofs.run.run_transport.Goals as goal

pub loop-index-init : goal.loop-index-init
loop-index-init c = (
  starts c.args.settings.now c.args.commands.now c.in-Ok.transport c.in-Ok-new.replies
      (length c.args.commands.now + length c.args.commands.now) c.in-Ok.ensures.first c.in-Ok-new.ensures.empty
      c.in-Ok.ensures.room c.in-Ok.ensures.nothing c.in-Ok-new.ensures.room,
  c.requires.none,
)

pub serve-requires-clause-below : goal.serve-requires-clause-below
serve-requires-clause-below c =
    running_below c.args.settings.now c.args.commands.now c.loop-index.transport c.loop-index.replies c.loop-index.index
    (length c.args.commands.now + length c.args.commands.now) c.loop-index.invariant.0

pub serve-requires-clause-room : goal.serve-requires-clause-room
serve-requires-clause-room c =
    let room = c.loop-index.invariant.0.entries_room in let below = c.loop-index-test.true in omega arith

pub push-requires : goal.push-requires
push-requires c = record {
  room = (let room = c.loop-index.invariant.0.spare in let below = c.loop-index-test.true in omega arith);
}

pub returns-then-len-eq0-clause-error : goal.returns-then-len-eq0-clause-error
returns-then-len-eq0-clause-error c =
    let next : slice_get c.args.commands.now c.loop-index.index ≡ Some c.index-commands-index.result =
    slice_get_read c.args.commands.now (length c.args.commands.now) c.loop-index.index c.index-commands-index.result
    refl c.loop-index-test.true c.index-commands-index.is in (
      c.in-Ok.ensures.made,
      ran_out c.args.settings.now c.args.commands.now c.loop-index.transport c.loop-index.replies c.loop-index.index
          (length c.args.commands.now + length c.args.commands.now) c.index-commands-index.result
          c.loop-index.invariant.0 next c.in-Err.ensures.error,
    )

pub returns-then-len-eq0-clause-left : goal.returns-then-len-eq0-clause-left
returns-then-len-eq0-clause-left c =
    left_unanswered c.args.settings.now c.args.commands.now c.loop-index.replies.items c.loop-index.end
    (sym c.len.ensures.count ∙ c.if-len-eq0.true) c.loop-index.invariant.1

pub returns-in-Err-clause-error : goal.returns-in-Err-clause-error
returns-in-Err-clause-error c =
    let next : slice_get c.args.commands.now c.loop-index.index ≡ Some c.index-commands-index.result =
    slice_get_read c.args.commands.now (length c.args.commands.now) c.loop-index.index c.index-commands-index.result
    refl c.loop-index-test.true c.index-commands-index.is in (
      c.in-Ok.ensures.made,
      ran_out c.args.settings.now c.args.commands.now c.loop-index.transport c.loop-index.replies c.loop-index.index
          (length c.args.commands.now + length c.args.commands.now) c.index-commands-index.result
          c.loop-index.invariant.0 next c.in-Err.ensures.error,
    )

pub returns-in-Err-clause-left : goal.returns-in-Err-clause-left
returns-in-Err-clause-left c =
    let told = c.len.ensures.count in let some = c.if-len-eq0.false in
    left_answered c.args.settings.now c.args.commands.now c.serve.new.self c.loop-index.replies.items (omega arith)
    (c.in-Err.ensures.same
    (after_steps (first_ledger c.args.settings.now) 1 c.args.commands.now c.loop-index.replies.items)
    c.loop-index.invariant.0.stands)

pub loop-index-preserved : goal.loop-index-preserved
loop-index-preserved c =
    let next : slice_get c.args.commands.now c.loop-index.index ≡ Some c.index-commands-index.result =
    slice_get_read c.args.commands.now (length c.args.commands.now) c.loop-index.index c.index-commands-index.result
    refl c.loop-index-test.true c.index-commands-index.is in
    let spare = c.loop-index.invariant.0.spare in
    let below = c.loop-index-test.true in (
      runs_on c.args.settings.now c.args.commands.now c.loop-index.transport c.serve.new.self c.loop-index.replies
          c.push.new.self c.loop-index.index (length c.args.commands.now + length c.args.commands.now)
          c.index-commands-index.result c.in-Ok-serve.reply c.loop-index.invariant.0 next
          c.in-Ok-serve.ensures.served c.in-Ok-serve.ensures.room c.push.ensures.items c.push.ensures.room
          (omega arith),
      c.loop-index.invariant.1,
    )

pub transit-requires : goal.transit-requires
transit-requires c = record {
  room = (let spare = c.loop-index.invariant.0.spare in let few = c.loop-index.invariant.0.in_transit in
      let most = c.loop-index.auto.index-end in omega arith);
}

pub returns-clause-run : goal.returns-clause-run
returns-clause-run c =
    let most = c.loop-index.auto.index-end in let past = c.loop-index-test.false in
    ran c.args.settings.now c.args.commands.now c.loop-index.transport c.loop-index.replies c.transit.new.into.items
    c.loop-index.index (length c.args.commands.now + length c.args.commands.now) c.loop-index.invariant.0 (omega arith)
    c.transit.ensures.listed

pub returns-clause-end : goal.returns-clause-end
returns-clause-end c =
    let most = c.loop-index.auto.index-end in let past = c.loop-index-test.false in
    ended c.args.settings.now c.args.commands.now c.loop-index.transport c.loop-index.replies c.transit.new.into.items
    c.loop-index.index (length c.args.commands.now + length c.args.commands.now) c.loop-index.invariant.0 (omega arith)
    c.transit.ensures.listed

pub returns-clause-capacity : goal.returns-clause-capacity
returns-clause-capacity c =
    run_has_capacity c.args.settings.now c.args.commands.now c.transit.new.into.items c.in-Ok.ensures.made
    (returns-clause-run c)

pub returns-clause-filled : goal.returns-clause-filled
returns-clause-filled c = λ buffer borrow filled is.
    subst (λ commands. AreServed (buffer + borrow + 1) commands c.transit.new.into.items) (sym is)
    (fill_served c.args.settings.now buffer borrow c.transit.new.into.items filled
    (subst (λ commands. IsRun c.args.settings.now commands c.transit.new.into.items) is (returns-clause-run c))).0

pub returns-clause-completed : goal.returns-clause-completed
returns-clause-completed c = λ buffer borrow filled is.
    subst
    (λ commands. completed_after c.args.settings.now commands c.transit.new.into.items ≡ buffer + borrow + 1)
    (sym is)
    (fill_served c.args.settings.now buffer borrow c.transit.new.into.items filled
    (subst (λ commands. IsRun c.args.settings.now commands c.transit.new.into.items) is (returns-clause-run c))).1
