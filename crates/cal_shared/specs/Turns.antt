-- The turns of a blocking send, and what they lead to.
use Rattle.std.specs.Prelude.{◌≡◌, ℕ, Bool, true, false, ◌⊎◌, List, [], ◌∷◌, Option, Some, None, Result, Ok, Err, MatchResult}
use Rattle.cal_queue.specs.StateTable.{after_step, channel_index, load_step, port_index}
use Rattle.cal_connection.specs.Backpressure.{asks_again, ends_turns, next_retry, sets_fail_mark}
use Rattle.cal_connection.specs.Words.{is_closed, is_connected}
use Rattle.cal_connection.specs.declared.backpressure.BackpressureToReceiverAction.{BackpressureToReceiverAction}
use Rattle.cal_connection.specs.declared.backpressure.Obstacle.{Obstacle}
use Rattle.cal_connection.specs.declared.backpressure.Obstacle.TheVariants.{ClosedChannel, FullQueue, NoReceiver, Nothing}
use Rattle.cal_connection.specs.declared.errors.ZeroCopySendError.{ZeroCopySendError}
use Rattle.cal_connection.specs.declared.errors.ZeroCopySendError.TheVariants.{ChannelIsClosed, NoConnectedReceiverAndBufferIsFull, UnableToDeliver}
use Rattle.cal_shared.specs.Port.{OnChannel, SendingPort, with_states}
use Rattle.cal_shared.specs.Sending.{SeesFull, SeesRoom, TriesToSend}

-- ---- one look

-- the port after one load of the port word, and then one of a channel's word, which showed these
abbrev pub after_looks : ℕ → ℕ → ℕ → SendingPort → SendingPort
after_looks channel port_word word port =
    with_states port
    (after_step (after_step port.states (load_step port_index port_word)) (load_step (channel_index channel) word))

-- what the two words showed: not both ports are there, the channel is closed, or neither
abbrev pub ShowsObstacle : Obstacle → ℕ → ℕ → Type 0
ShowsObstacle NoReceiver port_word word = is_connected port_word ≡ false
ShowsObstacle ClosedChannel port_word word = (is_connected port_word ≡ true) × (is_closed word ≡ true)
ShowsObstacle FullQueue port_word word = (is_connected port_word ≡ true) × (is_closed word ≡ false)
ShowsObstacle Nothing port_word word = (is_connected port_word ≡ true) × (is_closed word ≡ false)

-- the queue is looked at where both ports are there and the channel is open
abbrev pub LooksAtQueue : ℕ → Obstacle → SendingPort → SendingPort → Type 0
LooksAtQueue channel NoReceiver before after = after ≡ before
LooksAtQueue channel ClosedChannel before after = after ≡ before
LooksAtQueue channel FullQueue before after = OnChannel channel SeesFull before after
LooksAtQueue channel Nothing before after = OnChannel channel SeesRoom before after

-- what stands in the way, by one look at each of the two words and one at the queue where that is looked at
pub record SeesObstacle (channel : ℕ) (obstacle : Obstacle) (before after : SendingPort) : Type 0 where
  pub port_word : ℕ
  pub word : ℕ
  pub shown : ShowsObstacle obstacle port_word word
  pub queue : LooksAtQueue channel obstacle (after_looks channel port_word word before) after

-- ---- the turns

-- the answer of what is done before a send, where the send then follows
abbrev pub passes : Result (Unit {0}) ZeroCopySendError
passes = Ok tt

-- a look ends the turns where it doesn't find the queue full
abbrev pub EndsByLook : ℕ → Result (Unit {0}) ZeroCopySendError → SendingPort → SendingPort → Type 0
EndsByLook channel outcome before after =
    ((outcome ≡ Err NoConnectedReceiverAndBufferIsFull) × SeesObstacle channel NoReceiver before after)
    ⊎ (((outcome ≡ Err ChannelIsClosed) × SeesObstacle channel ClosedChannel before after)
    ⊎ ((outcome ≡ passes) × SeesObstacle channel Nothing before after))

-- what an answer of the handler leads to that ends the turns
abbrev pub outcome_of : BackpressureToReceiverAction → Result (Unit {0}) ZeroCopySendError
outcome_of answer = elim (sets_fail_mark answer) [ true ↦ Err UnableToDeliver | false ↦ passes ]

module _ (Allows : ℕ → BackpressureToReceiverAction → Type 0) (strategy : BackpressureToReceiverAction) where
  -- a turn finds the queue full, and the handler's answer ends the turns
  pub record EndsByAnswer (channel retry : ℕ) (outcome : Result (Unit {0}) ZeroCopySendError)
      (before after : SendingPort) : Type 0 where
    pub full : SeesObstacle channel FullQueue before after
    pub answer : BackpressureToReceiverAction
    pub allowed : Allows retry answer
    pub final : ends_turns strategy answer ≡ true
    pub leads : outcome ≡ outcome_of answer

  -- Turns, the first of which has this number. Each finds the queue full and goes on after an answer of the handler, or
  -- without asking it where an answer was to retry until the send is delivered. Then a look or an answer ends them
  abbrev pub TakesTurns : ℕ → ℕ → Bool → List (Option BackpressureToReceiverAction)
      → Result (Unit {0}) ZeroCopySendError → SendingPort → SendingPort → Type 0
  TakesTurns channel retry false [] outcome before after = EndsByLook channel outcome before after
  TakesTurns channel retry true [] outcome before after =
      EndsByLook channel outcome before after ⊎ EndsByAnswer channel retry outcome before after
  TakesTurns channel retry true (Some answer ∷ turns) outcome before after =
      (next : SendingPort) × SeesObstacle channel FullQueue before next × Allows retry answer
      × (ends_turns strategy answer ≡ false)
      × TakesTurns channel (next_retry retry) (asks_again answer) turns outcome next after
  TakesTurns channel retry true (None ∷ turns) outcome before after = ⊥
  TakesTurns channel retry false (Some answer ∷ turns) outcome before after = ⊥
  TakesTurns channel retry false (None ∷ turns) outcome before after =
      (next : SendingPort) × SeesObstacle channel FullQueue before next
      × TakesTurns channel retry false turns outcome next after

  -- some turns, the first of which asks the handler
  abbrev pub SomeTurns : ℕ → Result (Unit {0}) ZeroCopySendError → SendingPort → SendingPort → Type 0
  SomeTurns channel outcome before after =
      (turns : List (Option BackpressureToReceiverAction)) × TakesTurns channel 0 true turns outcome before after

  -- ---- the whole call

  -- before a send without overflow: the first look finds room, or it finds none and turns follow
  abbrev pub AwaitsRoom : ℕ → Result (Unit {0}) ZeroCopySendError → SendingPort → SendingPort → Type 0
  AwaitsRoom channel outcome before after =
      ((outcome ≡ passes) × OnChannel channel SeesRoom before after)
      ⊎ ((first : SendingPort) × OnChannel channel SeesFull before first × SomeTurns channel outcome first after)

  -- a send follows, unless a look or an answer refused it
  pub record SendsAfterAwaiting (channel pointer sample_size : ℕ) (answer : Result (Option ℕ) ZeroCopySendError)
      (before after : SendingPort) : Type 0 where
    pub outcome : Result (Unit {0}) ZeroCopySendError
    pub last : SendingPort
    pub awaits : AwaitsRoom channel outcome before last
    pub send : MatchResult outcome
        (λ done. OnChannel channel (TriesToSend false pointer sample_size answer) last after)
        (λ error. (answer ≡ Err error) × (after ≡ last))

  -- with overflow the call is one try to send
  abbrev pub SendsBlocking : ℕ → Bool → ℕ → ℕ → Result (Option ℕ) ZeroCopySendError → SendingPort → SendingPort
      → Type 0
  SendsBlocking channel true pointer sample_size answer before after =
      OnChannel channel (TriesToSend true pointer sample_size answer) before after
  SendsBlocking channel false pointer sample_size answer before after =
      SendsAfterAwaiting channel pointer sample_size answer before after
