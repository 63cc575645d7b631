use Rattle.std.proofs.Common.{◌≡◌, ℕ, ◌<◌, ◌^◌, not}
use Rattle.cal_connection.specs.declared.backpressure.BackpressureToReceiverAction.{BackpressureToReceiverAction}
use Rattle.cal_shared.specs.Port.{pair_of_sender}
use Rattle.cal_shared.specs.Sending.{used_samples}
use Rattle.cal_shared.proofs.TurnSteps.{Continues}
use Rattle.cal_shared.proofs.blocking.SharedPort+SendingEnd.take_turns.Given as goal

-- the turns so far found the queue full, and left what a send needs
abbrev pub invariant-loop : goal.invariant-loop
invariant-loop g l = record {
  there : l.channel_id < l.self.settings.number_of_channels;
  pair : pair_of_sender l.self ≡ pair_of_sender l.initial.self;
  samples : used_samples l.self ≡ used_samples l.initial.self;
  turns : Continues (λ (retry : ℕ) (answer : BackpressureToReceiverAction).
      (ticks : ℕ) × (ticks < 2 ^ 64) × goal.F-post g l.handler retry ticks answer)
      l.strategy l.channel_id l.initial.self l.retry (not l.retries_until_delivered) l.self;
}
