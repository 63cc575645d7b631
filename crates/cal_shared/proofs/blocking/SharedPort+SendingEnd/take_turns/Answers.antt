use Rattle.std.proofs.Common.{◌<◌, refl, sym, ap, ◌∙◌, subst, inl, inr, not, arith}
use Rattle.cal_connection.specs.declared.settings.ConnectionSettings.{ConnectionSettings}
use Rattle.cal_shared.specs.Port.{Pair}
use Rattle.cal_shared.proofs.TurnSteps.{Continues-after_asking, Continues-at_start, Continues-while_waiting, SomeTurns-answered, SomeTurns-by_look}
use Rattle.cal_shared.proofs.blocking.SharedPort+SendingEnd.take_turns.Goals as goal

pub loop-init : goal.loop-init
loop-init g c = record {
  there = c.requires.channel;
  pair = refl;
  samples = refl;
  turns = Continues-at_start _ c.args.strategy c.args.channel_id c.args.self.now;
}

pub look-requires : goal.look-requires
look-requires g c = record { channel = c.loop.invariant.there }

pub returns-in-NoReceiver : goal.returns-in-NoReceiver
returns-in-NoReceiver g c = record {
  turns = SomeTurns-by_look _ c.args.strategy c.args.channel_id c.args.self.now c.loop.self c.look.new.self c.loop.retry
      (not c.loop.retries_until_delivered) _ (inl (refl, c.in-NoReceiver.ensures.seen)) c.loop.invariant.turns;
  pair = c.in-NoReceiver.ensures.pair ∙ c.loop.invariant.pair;
  samples = c.in-NoReceiver.ensures.samples ∙ c.loop.invariant.samples;
}

pub returns-in-ClosedChannel : goal.returns-in-ClosedChannel
returns-in-ClosedChannel g c = record {
  turns = SomeTurns-by_look _ c.args.strategy c.args.channel_id c.args.self.now c.loop.self c.look.new.self c.loop.retry
      (not c.loop.retries_until_delivered) _ (inr (inl (refl, c.in-ClosedChannel.ensures.seen))) c.loop.invariant.turns;
  pair = c.in-ClosedChannel.ensures.pair ∙ c.loop.invariant.pair;
  samples = c.in-ClosedChannel.ensures.samples ∙ c.loop.invariant.samples;
}

pub returns-in-Nothing : goal.returns-in-Nothing
returns-in-Nothing g c = record {
  turns = SomeTurns-by_look _ c.args.strategy c.args.channel_id c.args.self.now c.loop.self c.look.new.self c.loop.retry
      (not c.loop.retries_until_delivered) _ (inr (inr (refl, c.in-Nothing.ensures.seen))) c.loop.invariant.turns;
  pair = c.in-Nothing.ensures.pair ∙ c.loop.invariant.pair;
  samples = c.in-Nothing.ensures.samples ∙ c.loop.invariant.samples;
}

pub loop-preserved-then-retries_until_delivered : goal.loop-preserved-then-retries_until_delivered
loop-preserved-then-retries_until_delivered g c = record {
  there =
      subst (λ (s : ConnectionSettings). c.args.channel_id < s.number_of_channels)
      (sym (ap (λ (p : Pair). p.settings) c.in-FullQueue.ensures.pair)) c.loop.invariant.there;
  pair = c.in-FullQueue.ensures.pair ∙ c.loop.invariant.pair;
  samples = c.in-FullQueue.ensures.samples ∙ c.loop.invariant.samples;
  turns = Continues-while_waiting _ c.args.strategy c.args.channel_id c.args.self.now c.loop.self c.look.new.self
      c.loop.retry c.loop.retries_until_delivered c.if-retries_until_delivered.true c.in-FullQueue.ensures.seen
      c.loop.invariant.turns;
}

pub returns-then-ends_turns : goal.returns-then-ends_turns
returns-then-ends_turns g c = record {
  turns = SomeTurns-answered _ c.args.strategy c.args.channel_id c.args.self.now c.loop.self c.look.new.self
      c.loop.retry c.loop.retries_until_delivered c.outcome_of.result c.if-retries_until_delivered.false
      (record {
        full = c.in-FullQueue.ensures.seen;
        answer = c.ask-answer.result;
        allowed = (c.saturating_sub-ticks.result, omega arith, c.ask-answer.ensures.allowed);
        final = sym c.ends_turns.ensures.value ∙ c.if-ends_turns.true;
        leads = c.outcome_of.ensures.value;
      }) c.loop.invariant.turns;
  pair = c.in-FullQueue.ensures.pair ∙ c.loop.invariant.pair;
  samples = c.in-FullQueue.ensures.samples ∙ c.loop.invariant.samples;
}

pub loop-preserved : goal.loop-preserved
loop-preserved g c = record {
  there =
      subst (λ (s : ConnectionSettings). c.args.channel_id < s.number_of_channels)
      (sym (ap (λ (p : Pair). p.settings) c.in-FullQueue.ensures.pair)) c.loop.invariant.there;
  pair = c.in-FullQueue.ensures.pair ∙ c.loop.invariant.pair;
  samples = c.in-FullQueue.ensures.samples ∙ c.loop.invariant.samples;
  turns = Continues-after_asking _ c.args.strategy c.args.channel_id c.args.self.now c.loop.self c.look.new.self
      c.loop.retry c.saturating_add-retry.result c.ask-answer.result c.loop.retries_until_delivered
      c.asks_again-retries_until_delivered.result c.if-retries_until_delivered.false c.in-FullQueue.ensures.seen
      (c.saturating_sub-ticks.result, omega arith, c.ask-answer.ensures.allowed)
      (sym c.ends_turns.ensures.value ∙ c.if-ends_turns.false) c.saturating_add-retry.ensures
      c.asks_again-retries_until_delivered.ensures.value c.loop.invariant.turns;
}
