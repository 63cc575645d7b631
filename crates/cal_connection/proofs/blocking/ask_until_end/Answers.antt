use Rattle.std.proofs.Common.{◌∷◌, [], ◌∙◌, sym, arith}
use Rattle.cal_connection.specs.BackpressureLemmas.{EndsTurns-asked, not_false}
use Rattle.cal_connection.proofs.blocking.ask_until_end.Goals as goal

pub returns-then-ends_turns : goal.returns-then-ends_turns
returns-then-ends_turns g c = record {
  ended =
      c.loop.invariant c.if-retries_until_delivered.false (c.ask-answer.result ∷ []) c.sets_fail_mark.result (
        (c.saturating_sub-ticks.result, omega arith, c.ask-answer.ensures.allowed),
        sym c.ends_turns.ensures.value ∙ c.if-ends_turns.true,
        c.sets_fail_mark.ensures.value,
      );
}

pub loop-preserved : goal.loop-preserved
loop-preserved g c = λ again answers fails ends.
    c.loop.invariant c.if-retries_until_delivered.false (c.ask-answer.result ∷ answers) fails
    (EndsTurns-asked _ c.args.strategy c.loop.retry c.saturating_sub-ticks.result c.saturating_add-retry.result
    c.ask-answer.result answers fails (omega arith) c.ask-answer.ensures.allowed
    (sym c.asks_again-retries_until_delivered.ensures.value
    ∙ not_false c.asks_again-retries_until_delivered.result again)
    c.saturating_add-retry.ensures ends)
