-- The turns of a blocking send, from what each look and each answer did.
use Rattle.std.specs.Prelude.{◌≡◌, ℕ, ◌/◌, Bool, true, false, List, [], ◌∷◌, slice_get, unwrap_or, Option, Some, None, Result}
use Rattle.std.proofs.Common.{refl, sym, ap, ◌∙◌, subst, inl, inr, not}
use Rattle.std.proofs.lemmas.Bool.{false≢true}
use Rattle.cal_alloc.specs.PointerOffset.{offset_of, segment_of}
use Rattle.cal_queue.specs.StateTable.{after_step, channel_index, load_step, port_index}
use Rattle.cal_connection.specs.Backpressure.{asks_again, ends_turns, next_retry}
use Rattle.cal_connection.specs.Channel.{is_used}
use Rattle.cal_connection.specs.Words.{is_closed, is_connected}
use Rattle.cal_connection.specs.declared.backpressure.BackpressureToReceiverAction.{BackpressureToReceiverAction}
use Rattle.cal_connection.specs.declared.backpressure.Obstacle.{Obstacle}
use Rattle.cal_connection.specs.declared.backpressure.Obstacle.TheVariants.{FullQueue}
use Rattle.cal_connection.specs.declared.errors.ZeroCopySendError.{ZeroCopySendError}
use Rattle.cal_connection.specs.declared.segment_details.SegmentDetails.{SegmentDetails}
use Rattle.cal_connection.specs.declared.settings.ConnectionSettings.{ConnectionSettings}
use Rattle.cal_shared.specs.Channels.{SendingChannel}
use Rattle.cal_shared.specs.Port.{AtWords, OnChannel, Pair, SendingPort, pair_of_sender, with_states}
use Rattle.cal_shared.specs.PortLemmas.{map-OnChannel}
use Rattle.cal_shared.specs.Sending.{IsSendable, IsWithin, SeesFull, SeesRoom, TriesToSend, used_samples}
use Rattle.cal_shared.specs.Turns.{EndsByAnswer, EndsByLook, LooksAtQueue, SeesObstacle, SendsAfterAwaiting, SendsBlocking, ShowsObstacle, SomeTurns, TakesTurns, after_looks}
use Rattle.cal_shared.specs.Words.{LoadsWord}

-- ---- tests

not_not : (b : Bool) → b ≡ not (not b)
not_not true = refl
not_not false = refl

-- ---- one look

after_looks-made : (channel port_word word : ℕ) (before middle after : SendingPort)
    → middle ≡ with_states before (after_step before.states (load_step port_index port_word))
    → after ≡ with_states middle (after_step middle.states (load_step (channel_index channel) word))
    → after ≡ after_looks channel port_word word before
after_looks-made channel port_word word before middle after first second =
    second
    ∙ ap (λ (p : SendingPort). with_states p (after_step p.states (load_step (channel_index channel) word))) first

-- a load of each word, and then what follows of what they showed
pub SeesObstacle-made : (channel : ℕ) (obstacle : Obstacle) (connected closed : Bool)
    (before middle shown after : SendingPort)
    → (first : AtWords (LoadsWord port_index is_connected connected) before middle)
    → (second : AtWords (LoadsWord (channel_index channel) is_closed closed) middle shown)
    → ((port_word word : ℕ) → connected ≡ is_connected port_word → closed ≡ is_closed word →
    ShowsObstacle obstacle port_word word)
    → LooksAtQueue channel obstacle shown after → SeesObstacle channel obstacle before after
SeesObstacle-made channel obstacle connected closed before middle shown after first second shows looks = record {
  port_word = first.steps.seen;
  word = second.steps.seen;
  shown = shows first.steps.seen second.steps.seen first.steps.answers second.steps.answers;
  queue =
      subst (λ (p : SendingPort). LooksAtQueue channel obstacle p after)
      (after_looks-made channel first.steps.seen second.steps.seen before middle shown
      (first.only ∙ ap (with_states before) first.steps.step)
      (second.only ∙ ap (with_states middle) second.steps.step)) looks;
}

-- a look leaves the samples in use
pub used_samples-SeesRoom : (channel : ℕ) (before after : SendingPort) → OnChannel channel SeesRoom before after
    → used_samples after ≡ used_samples before
used_samples-SeesRoom channel before after on =
    map-OnChannel (λ (c : SendingChannel). c.segments) channel SeesRoom before after
    (λ x y sees. ap (λ (c : SendingChannel). c.segments) sees.step) on

pub used_samples-SeesFull : (channel : ℕ) (before after : SendingPort) → OnChannel channel SeesFull before after
    → used_samples after ≡ used_samples before
used_samples-SeesFull channel before after on =
    map-OnChannel (λ (c : SendingChannel). c.segments) channel SeesFull before after
    (λ x y sees. ap (λ (c : SendingChannel). c.segments) sees.step) on

-- what may be sent may be sent after looks
pub IsSendable-kept : (before after : SendingPort) (channel pointer sample_size : ℕ)
    → pair_of_sender after ≡ pair_of_sender before → used_samples after ≡ used_samples before
    → IsSendable before channel pointer sample_size → IsSendable after channel pointer sample_size
IsSendable-kept before after channel pointer sample_size pair used sendable = record {
  within =
      subst (λ (settings : ConnectionSettings). IsWithin settings channel pointer sample_size)
      (sym (ap (λ (p : Pair). p.settings) pair)) sendable.within;
  unused =
      subst
      (λ (samples : List (List SegmentDetails)).
      is_used (unwrap_or (slice_get samples channel) []) (segment_of pointer) (offset_of pointer / sample_size) ≡ false)
      (sym used) sendable.unused;
}

-- ---- turns

module _ (Allows : ℕ → BackpressureToReceiverAction → Type 0) (strategy : BackpressureToReceiverAction)
    (channel : ℕ) where
  pub TakesTurns-look : (retry : ℕ) (asks : Bool) (outcome : Result (Unit {0}) ZeroCopySendError)
      (before after : SendingPort) → EndsByLook channel outcome before after
      → TakesTurns Allows strategy channel retry asks [] outcome before after
  TakesTurns-look retry true outcome before after ends = inl ends
  TakesTurns-look retry false outcome before after ends = ends

  -- whatever turns follow from here on, some turns lead from the first port to where they end
  abbrev pub Continues : SendingPort → ℕ → Bool → SendingPort → Type 0
  Continues first retry asks now =
      (turns : List (Option BackpressureToReceiverAction)) (outcome : Result (Unit {0}) ZeroCopySendError)
      (after : SendingPort) → TakesTurns Allows strategy channel retry asks turns outcome now after
      → SomeTurns Allows strategy channel outcome first after

  pub Continues-at_start : (first : SendingPort) → Continues first 0 true first
  Continues-at_start first turns outcome after takes = (turns, takes)

  -- a turn in which the handler wasn't asked
  pub Continues-waited : (first now next : SendingPort) (retry : ℕ) → SeesObstacle channel FullQueue now next
      → Continues first retry false now → Continues first retry false next
  Continues-waited first now next retry full so_far turns outcome after takes =
      so_far (None ∷ turns) outcome after (next, full, takes)

  -- a turn after whose answer the turns go on
  pub Continues-asked : (first now next : SendingPort) (retry following : ℕ) (answer : BackpressureToReceiverAction)
      (again : Bool) → SeesObstacle channel FullQueue now next → Allows retry answer
      → ends_turns strategy answer ≡ false → following ≡ next_retry retry → again ≡ asks_again answer
      → Continues first retry true now → Continues first following again next
  Continues-asked first now next retry following answer again full allowed goes_on is asks so_far turns outcome after
      takes =
      so_far (Some answer ∷ turns) outcome after (
        next,
        full,
        allowed,
        goes_on,
        subst (λ (n : ℕ). TakesTurns Allows strategy channel n (asks_again answer) turns outcome next after) is
            (subst (λ (b : Bool). TakesTurns Allows strategy channel following b turns outcome next after) asks takes),
      )

  pub SomeTurns-by_look : (first now after : SendingPort) (retry : ℕ) (asks : Bool)
      (outcome : Result (Unit {0}) ZeroCopySendError) → EndsByLook channel outcome now after
      → Continues first retry asks now → SomeTurns Allows strategy channel outcome first after
  SomeTurns-by_look first now after retry asks outcome ends so_far =
      so_far [] outcome after (TakesTurns-look retry asks outcome now after ends)

  pub SomeTurns-by_answer : (first now after : SendingPort) (retry : ℕ)
      (outcome : Result (Unit {0}) ZeroCopySendError)
      → EndsByAnswer Allows strategy channel retry outcome now after
      → Continues first retry true now → SomeTurns Allows strategy channel outcome first after
  SomeTurns-by_answer first now after retry outcome ends so_far = so_far [] outcome after (inr ends)

  -- ---- the same, by whether the handler is asked no more

  pub Continues-while_waiting : (first now next : SendingPort) (retry : ℕ) (waits : Bool) → waits ≡ true
      → SeesObstacle channel FullQueue now next → Continues first retry (not waits) now
      → Continues first retry (not waits) next
  Continues-while_waiting first now next retry waits is full so_far =
      subst (λ (b : Bool). Continues first retry (not b) next) (sym is)
      (Continues-waited first now next retry full
      (subst (λ (b : Bool). Continues first retry (not b) now) is so_far))

  pub Continues-after_asking : (first now next : SendingPort) (retry following : ℕ)
      (answer : BackpressureToReceiverAction) (waits again : Bool) → waits ≡ false
      → SeesObstacle channel FullQueue now next → Allows retry answer → ends_turns strategy answer ≡ false
      → following ≡ next_retry retry → again ≡ asks_again answer → Continues first retry (not waits) now
      → Continues first following (not (not again)) next
  Continues-after_asking first now next retry following answer waits again is full allowed goes_on counted asks so_far =
      subst (λ (b : Bool). Continues first following b next) (not_not again)
      (Continues-asked first now next retry following answer again full allowed goes_on counted asks
      (subst (λ (b : Bool). Continues first retry (not b) now) is so_far))

  pub SomeTurns-answered : (first now after : SendingPort) (retry : ℕ) (waits : Bool)
      (outcome : Result (Unit {0}) ZeroCopySendError) → waits ≡ false
      → EndsByAnswer Allows strategy channel retry outcome now after
      → Continues first retry (not waits) now → SomeTurns Allows strategy channel outcome first after
  SomeTurns-answered first now after retry waits outcome is ends so_far =
      SomeTurns-by_answer first now after retry outcome ends
      (subst (λ (b : Bool). Continues first retry (not b) now) is so_far)

-- ---- the whole call

module _ (Allows : ℕ → BackpressureToReceiverAction → Type 0) (strategy : BackpressureToReceiverAction)
    (channel pointer sample_size : ℕ) (answer : Result (Option ℕ) ZeroCopySendError) (before after : SendingPort) where
  pub SendsBlocking-overflowing : (overflow : Bool) → overflow ≡ true
      → OnChannel channel (TriesToSend overflow pointer sample_size answer) before after
      → SendsBlocking Allows strategy channel overflow pointer sample_size answer before after
  SendsBlocking-overflowing true is sends = sends
  SendsBlocking-overflowing false is sends = absurd (false≢true is)

  pub SendsBlocking-awaited : (overflow : Bool) → overflow ≡ false
      → SendsAfterAwaiting Allows strategy channel pointer sample_size answer before after
      → SendsBlocking Allows strategy channel overflow pointer sample_size answer before after
  SendsBlocking-awaited true is sends = absurd (false≢true (sym is))
  SendsBlocking-awaited false is sends = sends
