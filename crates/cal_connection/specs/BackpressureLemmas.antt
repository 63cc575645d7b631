-- What the turns of a blocking send lead to.
use Rattle.std.specs.Prelude.{◌≡◌, ℕ, ◌<◌, ◌^◌, Bool, true, false, not, List, [], ◌∷◌, Result, Err, if◌then◌else◌}
use Rattle.std.proofs.Common.{refl, sym, ap, ◌∙◌, subst, inl, inr}
use Rattle.std.proofs.lemmas.Bool.{cases_Bool}
use Rattle.cal_storage.specs.declared.handle.Handle.{Handle}
use Rattle.cal_storage.specs.Contents.{Contents, Has}
use Rattle.cal_connection.specs.declared.backpressure.BackpressureToReceiverAction.{BackpressureToReceiverAction}
use Rattle.cal_connection.specs.declared.backpressure.Obstacle.{Obstacle}
use Rattle.cal_connection.specs.declared.backpressure.Obstacle.TheVariants.{Nothing, NoReceiver, ClosedChannel, FullQueue}
use Rattle.cal_connection.specs.declared.errors.ZeroCopySendError.{ZeroCopySendError}
use Rattle.cal_connection.specs.Backpressure.{obstacle, passes, asks_again, next_retry, EndsTurns, AnswersObstacle, SomeAnswersEnd}
use Rattle.cal_connection.specs.declared.errors.ZeroCopySendError.TheVariants.{UnableToDeliver}
use Rattle.cal_connection.specs.Channel.{ChannelEntry, is_refused, after_send}
use Rattle.cal_connection.specs.Port.{PortEntry, port_at, settings_at, channel_of, with_channel_of}
use Rattle.cal_connection.specs.RegistryLemmas.{with_channel_of-present}

module _ (Allows : ℕ → BackpressureToReceiverAction → Type 0) (strategy : BackpressureToReceiverAction) where
  -- an answer after which the sender asks again comes before those that end the turns
  pub EndsTurns-cons : (retry : ℕ) (answer : BackpressureToReceiverAction) (answers : List BackpressureToReceiverAction)
      (fails : Bool) → Allows retry answer → asks_again answer ≡ true →
      EndsTurns Allows strategy (next_retry retry) answers fails →
      EndsTurns Allows strategy retry (answer ∷ answers) fails
  EndsTurns-cons retry answer [] fails allowed again ends = absurd ends
  EndsTurns-cons retry answer (next ∷ answers) fails allowed again ends = (allowed, again, ends)

  -- where nothing is answered before the send, its answer is the answer
  pub AnswersObstacle-sent : {A : Type 0} (at : Obstacle) (sent : Result A ZeroCopySendError) →
      AnswersObstacle Allows strategy at passes passes → AnswersObstacle Allows strategy at sent sent
  AnswersObstacle-sent Nothing sent is = refl
  AnswersObstacle-sent NoReceiver sent is = absurd (cc)
  AnswersObstacle-sent ClosedChannel sent is = absurd (cc)
  AnswersObstacle-sent FullQueue sent is = by_mark is.0 is.1 is.2
    where
      by_mark : (fails : Bool) → SomeAnswersEnd Allows strategy fails →
          passes ≡ (if fails then Err UnableToDeliver else passes) → AnswersObstacle Allows strategy FullQueue sent sent
      by_mark true ends same = absurd (cc)
      by_mark false ends same = (false, ends, refl)

  -- what is answered before the send is the answer
  pub AnswersObstacle-refused : {A : Type 0} (at : Obstacle) (sent : Result A ZeroCopySendError)
      (error : ZeroCopySendError) → AnswersObstacle Allows strategy at passes (Err error) →
      AnswersObstacle Allows strategy at sent (Err error)
  AnswersObstacle-refused Nothing sent error is = absurd (cc)
  AnswersObstacle-refused NoReceiver sent error is = cc
  AnswersObstacle-refused ClosedChannel sent error is = cc
  AnswersObstacle-refused FullQueue sent error is = by_mark is.0 is.1 is.2
    where
      by_mark : (fails : Bool) → SomeAnswersEnd Allows strategy fails →
          Err error ≡ (if fails then Err UnableToDeliver else passes) →
          AnswersObstacle Allows strategy FullQueue sent (Err error)
      by_mark true ends same = (true, ends, cc)
      by_mark false ends same = absurd (cc)

  -- and then the queue is full and doesn't overflow, so a send would have left the registry as it was
  pub unsent : (contents : Contents PortEntry) (handle : Handle) (channel pointer sample_size : ℕ)
      (error : ZeroCopySendError) → Has contents handle →
      AnswersObstacle Allows strategy (obstacle (port_at contents handle) channel) passes (Err error) →
      contents ≡ with_channel_of contents handle channel
      (after_send (settings_at contents handle).enable_safe_overflow (channel_of contents handle channel) pointer
      sample_size)
  unsent contents handle channel pointer sample_size error has answered =
      let overflow : Bool = (settings_at contents handle).enable_safe_overflow in
      let found : ChannelEntry = channel_of contents handle channel in
      elim (cases_Bool (is_refused overflow found)) [
        | inl refused ↦
            sym (with_channel_of-present contents handle channel has)
            ∙ ap (with_channel_of contents handle channel) (sym (if_true (is_refused overflow found) found _ refused))
        | inr room ↦ absurd (sent_first room answered)
      ]
    where
      if_true : {X : Type 0} (b : Bool) (x y : X) → b ≡ true → (if b then x else y) ≡ x
      if_true b x y h = rw h refl

      sent_first : is_refused (settings_at contents handle).enable_safe_overflow (channel_of contents handle channel) ≡
          false →
          AnswersObstacle Allows strategy (obstacle (port_at contents handle) channel) passes (Err error) → ⊥
      sent_first room = rw room (λ same. absurd (cc))

  -- the same, of what was found in the way and what was answered
  pub unsent-found : (contents : Contents PortEntry) (handle : Handle) (channel pointer sample_size : ℕ)
      (found : Obstacle) (answer : Result (Unit {0}) ZeroCopySendError) (error : ZeroCopySendError) →
      Has contents handle →
      found ≡ obstacle (port_at contents handle) channel → answer ≡ Err error →
      AnswersObstacle Allows strategy found passes answer →
      contents ≡ with_channel_of contents handle channel
      (after_send (settings_at contents handle).enable_safe_overflow (channel_of contents handle channel) pointer
      sample_size)
  unsent-found contents handle channel pointer sample_size found answer error has is was answered =
      unsent contents handle channel pointer sample_size error has
      (subst (λ (at : Obstacle). AnswersObstacle Allows strategy at passes (Err error)) is
      (subst (λ (r : Result (Unit {0}) ZeroCopySendError). AnswersObstacle Allows strategy found passes r) was
      answered))

pub not_false : (b : Bool) → not b ≡ false → b ≡ true
not_false true is = refl
not_false false is = absurd (cc)

-- an answer that was given in a turn after which the sender asks again comes before those that end the turns
pub EndsTurns-asked : (Post : ℕ → ℕ → BackpressureToReceiverAction → Type 0) (strategy : BackpressureToReceiverAction)
    (retry ticks following : ℕ) (answer : BackpressureToReceiverAction) (answers : List BackpressureToReceiverAction)
    (fails : Bool) → ticks < 2 ^ 64 → Post retry ticks answer → asks_again answer ≡ true →
    following ≡ next_retry retry →
    EndsTurns (λ n a. (t : ℕ) × (t < 2 ^ 64) × Post n t a) strategy following answers fails →
    EndsTurns (λ n a. (t : ℕ) × (t < 2 ^ 64) × Post n t a) strategy retry (answer ∷ answers) fails
EndsTurns-asked Post strategy retry ticks following answer answers fails small given again is ends =
    EndsTurns-cons (λ n a. (t : ℕ) × (t < 2 ^ 64) × Post n t a) strategy retry answer answers fails
    (ticks, small, given) again
    (subst (λ m. EndsTurns (λ n a. (t : ℕ) × (t < 2 ^ 64) × Post n t a) strategy m answers fails) is ends)
