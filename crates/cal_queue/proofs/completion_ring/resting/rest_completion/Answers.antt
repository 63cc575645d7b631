use Rattle.std.proofs.Common.{ℕ, rules, ap, refl, sym, subst}
use Rattle.cal_queue.specs.CompletionCalls.{put_pass}
use Rattle.cal_queue.specs.CompletionSteps.{End, IsSettled}
use Rattle.cal_queue.specs.RingState.{IsCompleted}
use Rattle.cal_queue.proofs.CompletionAllowed.{settles-allowed}
use Rattle.cal_queue.proofs.SidedTables.{sides_join}
use Rattle.cal_queue.proofs.completion_ring.resting.rest_completion.Goals as goal

pub join_seat-requires : goal.join_seat-requires
join_seat-requires c =
    let put = c.args.put in
    let sized = put.sized in (
      search rules,
      search rules,
      search rules,
      search rules,
      sides_join _ _ _ put.puts.0 _ _ _ c.args.get.gets.0 refl refl,
    )

pub load-requires : goal.load-requires
load-requires c =
    let joined = c.join_seat.ensures.2 in (
      search rules,
      search rules,
      settles-allowed _ _ _ _ (ap (λ (m : End). m.0.writes) joined) (ap (λ (m : End). m.0.reads) joined),
    )

pub returns-clause-completed : goal.returns-clause-completed
returns-clause-completed c =
    let told = subst (λ (m : End). IsSettled m.0.writer m.0.reader) c.join_seat.ensures.2 c.load.ensures.2.settled in
    subst (λ (n : ℕ). IsCompleted (put_pass c.args.put).capacity (put_pass c.args.put).put n)
    (sym c.args.get.counted) told.completed
