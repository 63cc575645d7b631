-- The steps of the calls at the words that both ports share: which words they saw and wrote, and what is answered by
-- them.
use Rattle.std.specs.Prelude.{◌≡◌, ℕ, ◌==◌, Bool, ◌⊎◌, MatchBool}
use Rattle.cal_queue.specs.StateAnswers.{LeftMark, LeftOther, WasAbsent}
use Rattle.cal_queue.specs.StateTable.{after_step, channel_index, exchange_step, load_step}
use Rattle.cal_queue.specs.declared.state_table.pass.StatePass.{StatePass}
use Rattle.cal_connection.specs.Words.{closed, is_closed, with_hint}

-- one load of a word, of which the answer is computed
pub record LoadsWord {A : Type 0} (index : ℕ) (answer_of : ℕ → A) (answer : A) (before after : StatePass) : Type 0 where
  pub seen : ℕ
  pub step : after ≡ after_step before (load_step index seen)
  pub answers : answer ≡ answer_of seen

-- one exchange of a word for another, where it is the one expected, and whether it was
pub record Exchanged (index expected word : ℕ) (won : Bool) (before after : StatePass) : Type 0 where
  pub seen : ℕ
  pub step : after ≡ after_step before (exchange_step index expected word seen)
  pub won_where_expected : won ≡ (seen == expected)

-- the same, where that isn't answered
pub record ExchangesWord (index expected word : ℕ) (before after : StatePass) : Type 0 where
  pub seen : ℕ
  pub step : after ≡ after_step before (exchange_step index expected word seen)

-- one exchange of the closed word for a state, which acted where it saw the closed word
pub record SetsState (channel state : ℕ) (acted : Bool) (before after : StatePass) : Type 0 where
  pub seen : ℕ
  pub step : after ≡ after_step before (exchange_step (channel_index channel) closed state seen)
  pub acted_if_closed : acted ≡ is_closed seen

-- one exchange of a state for that state with the hint bit
abbrev pub SetsHint : ℕ → ℕ → StatePass → StatePass → Type 0
SetsHint channel state = ExchangesWord (channel_index channel) state (with_hint state)

-- one exchange of a state for the closed word. Where it saw another word, a second one follows, of that state with the
-- hint bit
pub record ClosesChannel (channel state : ℕ) (before after : StatePass) : Type 0 where
  pub seen : ℕ
  pub first : StatePass
  pub step : first ≡ after_step before (exchange_step (channel_index channel) state closed seen)
  pub second : MatchBool (seen == state) (after ≡ first)
      (ExchangesWord (channel_index channel) (with_hint state) closed first after)

-- the port of this bit leaves: the last one marks the word, one that leaves the other takes its bit away, and one that
-- isn't there changes nothing
abbrev pub Leaves : ℕ → Bool → StatePass → StatePass → Type 0
Leaves bit marked before after =
    MatchBool marked (LeftMark bit before after) (LeftOther bit before after ⊎ WasAbsent bit before after)
