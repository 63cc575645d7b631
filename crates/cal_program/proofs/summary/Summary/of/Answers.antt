-- One reply more is counted, and its bytes are within those of all.
use Rattle.std.proofs.Common.{◌≡◌, ℕ, ◌+◌, Some, length, sym, ap, ◌∙◌, arith}
use Rattle.std.specs.Prelude.{slice_get, option_copied, sum}
use Rattle.cal_transport.specs.declared.reply.Reply.{Reply}
use Rattle.cal_program.specs.Summary.{answer_count, refusal_count, transit_count, shown_bytes}
use Rattle.cal_program.proofs.SummaryLemmas.{sum_by-next, sum_by-within, answer_count-few, refusal_count-few, transit_count-few, summary_of-all}
use Rattle.cal_program.proofs.summary.Summary.of.Goals as goal

pub add-requires-clause-sum_fits : goal.add-requires-clause-sum_fits
add-requires-clause-sum_fits c =
    let found : slice_get c.args.replies.now.items c.loop-place.place ≡ Some c.unwrap-reply.result.now =
    sym c.get.ensures.reply ∙ ap option_copied c.unwrap-reply.ensures
    in
    omega (
      arith,
      sum_by-within (λ (reply : Reply). length (shown_bytes reply)) c.args.replies.now.items c.loop-place.place
          c.unwrap-reply.result.now found,
    )

pub loop-place-preserved : goal.loop-place-preserved
loop-place-preserved c =
    let items = c.args.replies.now.items in
    let place = c.loop-place.place in
    let reply = c.unwrap-reply.result.now in
    let found : slice_get items place ≡ Some reply = sym c.get.ensures.reply ∙ ap option_copied c.unwrap-reply.ensures
    in
    let before = c.loop-place.invariant in
    record {
      answered = c.add.ensures.answered ∙ ap (λ (n : ℕ). n + answer_count reply) before.answered
          ∙ sym (sum_by-next answer_count items place reply found);
      refused = c.add.ensures.refused ∙ ap (λ (n : ℕ). n + refusal_count reply) before.refused
          ∙ sym (sum_by-next refusal_count items place reply found);
      transit = c.add.ensures.transit ∙ ap (λ (n : ℕ). n + transit_count reply) before.transit
          ∙ sym (sum_by-next transit_count items place reply found);
      total = c.add.ensures.total ∙ ap (λ (n : ℕ). n + sum (shown_bytes reply)) before.total
          ∙ sym (sum_by-next (λ (r : Reply). sum (shown_bytes r)) items place reply found);
      answered_few = omega (arith, c.add.ensures.answered, before.answered_few, answer_count-few reply);
      refused_few = omega (arith, c.add.ensures.refused, before.refused_few, refusal_count-few reply);
      transit_few = omega (arith, c.add.ensures.transit, before.transit_few, transit_count-few reply);
      total_few = omega (
        arith,
        c.add.ensures.bound,
        before.total_few,
        sum_by-next (λ (r : Reply). length (shown_bytes r)) items place reply found,
      );
    }

pub returns : goal.returns
returns c =
    let last = c.loop-place.invariant in
    record {
      value = summary_of-all c.loop-place.summary c.args.replies.now.items c.loop-place.place
          (omega (arith, c.loop-place-test.false, c.len-place-end.ensures.count))
          last.answered last.refused last.transit last.total;
    }
