use Rattle.std.proofs.Common.{◌≡◌, ℕ, ◌<◌, ◌^◌, Bool, false, List}
use Rattle.cal_connection.specs.declared.backpressure.BackpressureToReceiverAction.{BackpressureToReceiverAction}
use Rattle.cal_connection.specs.Backpressure.{EndsTurns, SomeAnswersEnd}
use Rattle.cal_connection.proofs.blocking.ask_until_end.Given as goal

abbrev pub invariant-loop : goal.invariant-loop
invariant-loop g l =
    let Allows : ℕ → BackpressureToReceiverAction → Type 0 =
    λ retry answer. (ticks : ℕ) × (ticks < 2 ^ 64) × goal.F-post g l.handler retry ticks answer in
    l.retries_until_delivered ≡ false → (answers : List BackpressureToReceiverAction) (fails : Bool) →
    EndsTurns Allows l.strategy l.retry answers fails → SomeAnswersEnd Allows l.strategy fails
