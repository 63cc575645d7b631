-- What the handler of a blocking send answers, turn by turn.
use Rattle.std.specs.Prelude.{◌≡◌, ℕ, ◌+◌, ◌-◌, ◌^◌, Bool, true, false, not, min, List, [], ◌∷◌, Result, Ok, Err, if◌then◌else◌}
use Rattle.cal_connection.specs.declared.backpressure.BackpressureToReceiverAction.{BackpressureToReceiverAction}
use Rattle.cal_connection.specs.declared.backpressure.BackpressureToReceiverAction.TheVariants.{FollowBackpressureyStrategy, Retry, DiscardPointerOffset, DiscardPointerOffsetAndFail}
use Rattle.cal_connection.specs.declared.backpressure.Obstacle.{Obstacle}
use Rattle.cal_connection.specs.declared.backpressure.Obstacle.TheVariants.{Nothing, NoReceiver, ClosedChannel, FullQueue}
use Rattle.cal_connection.specs.Channel.{is_refused}
use Rattle.cal_connection.specs.Port.{PortEntry, channel_at}
use Rattle.cal_connection.specs.Words.{is_connected, is_closed}
use Rattle.cal_connection.specs.declared.errors.ZeroCopySendError.{ZeroCopySendError}
use Rattle.cal_connection.specs.declared.errors.ZeroCopySendError.TheVariants.{NoConnectedReceiverAndBufferIsFull, ChannelIsClosed, UnableToDeliver}

-- the answer of what is done before a send, where the send then follows
abbrev pub passes : Result (Unit {0}) ZeroCopySendError
passes = Ok tt

-- what stands in the way of a send on a channel
abbrev pub obstacle : PortEntry → ℕ → Obstacle
obstacle port channel =
    if not (is_refused port.settings.enable_safe_overflow (channel_at port channel)) then Nothing
    else if not (is_connected port.word) then NoReceiver
    else if is_closed (channel_at port channel).word then ClosedChannel
    else FullQueue

-- the strategy's action isn't to try again
abbrev pub is_final : BackpressureToReceiverAction → Bool
is_final Retry = false
is_final FollowBackpressureyStrategy = true
is_final DiscardPointerOffset = true
is_final DiscardPointerOffsetAndFail = true

-- an answer after which the sender looks again and asks again
abbrev pub asks_again : BackpressureToReceiverAction → Bool
asks_again Retry = true
asks_again FollowBackpressureyStrategy = false
asks_again DiscardPointerOffset = false
asks_again DiscardPointerOffsetAndFail = false

-- an answer that ends the turns under the strategy's action
abbrev pub ends_turns : BackpressureToReceiverAction → BackpressureToReceiverAction → Bool
ends_turns strategy Retry = false
ends_turns strategy FollowBackpressureyStrategy = is_final strategy
ends_turns strategy DiscardPointerOffset = true
ends_turns strategy DiscardPointerOffsetAndFail = true

-- an answer with which the send fails
abbrev pub sets_fail_mark : BackpressureToReceiverAction → Bool
sets_fail_mark Retry = false
sets_fail_mark FollowBackpressureyStrategy = false
sets_fail_mark DiscardPointerOffset = false
sets_fail_mark DiscardPointerOffsetAndFail = true

-- the number of the next turn; it stops at the greatest number
abbrev pub next_retry : ℕ → ℕ
next_retry retry = min (retry + 1) (2 ^ 64 - 1)

module _ (Allows : ℕ → BackpressureToReceiverAction → Type 0) (strategy : BackpressureToReceiverAction) where
  -- these answers, the first of them in the turn of this number, end the turns, and the send fails by them or not
  abbrev pub EndsTurns : ℕ → List BackpressureToReceiverAction → Bool → Type 0
  EndsTurns retry [] fails = ⊥
  EndsTurns retry (answer ∷ []) fails =
      Allows retry answer × (ends_turns strategy answer ≡ true) × (fails ≡ sets_fail_mark answer)
  EndsTurns retry (answer ∷ next ∷ answers) fails =
      Allows retry answer × (asks_again answer ≡ true) × EndsTurns (next_retry retry) (next ∷ answers) fails

  -- some answers end the turns so
  abbrev pub SomeAnswersEnd : Bool → Type 0
  SomeAnswersEnd fails = (answers : List BackpressureToReceiverAction) × EndsTurns 0 answers fails

  -- what is answered where this stands in the way, and a send would be answered so
  abbrev pub AnswersObstacle : {A : Type 0} → Obstacle → Result A ZeroCopySendError → Result A ZeroCopySendError →
      Type 0
  AnswersObstacle Nothing sent answer = answer ≡ sent
  AnswersObstacle NoReceiver sent answer = answer ≡ Err NoConnectedReceiverAndBufferIsFull
  AnswersObstacle ClosedChannel sent answer = answer ≡ Err ChannelIsClosed
  AnswersObstacle FullQueue sent answer =
      (fails : Bool) × SomeAnswersEnd fails × (answer ≡ (if fails then Err UnableToDeliver else sent))
