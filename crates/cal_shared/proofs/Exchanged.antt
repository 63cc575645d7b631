-- What an exchange of a word did, by its answer.
use Rattle.std.specs.Prelude.{◌≡◌, ◌≢◌, ℕ, ◌==◌, Bool, true, false, ◌⊎◌, IfErr, MatchBool, MatchResult, OnOk, Result, Ok, Err, is_ok}
use Rattle.std.specs.Bool.{OnFalse, OnTrue}
use Rattle.std.proofs.Common.{refl, sym, ap, ◌∙◌, subst, inl, inr}
use Rattle.std.proofs.lemmas.Bool.Decides.{eqb_tells}
use Rattle.cal_queue.specs.StateAnswers.{LeftMark, LeftOther, WasAbsent}
use Rattle.cal_queue.specs.StateTable.{after_step, channel_index, exchange_step, load_step, write_step}
use Rattle.cal_queue.specs.declared.state_table.pass.StatePass.{StatePass}
use Rattle.cal_connection.specs.Words.{closed, with_hint}
use Rattle.cal_shared.specs.Words.{ClosesChannel, Exchanged, ExchangesWord, Leaves, SetsHint, SetsState}

module _ (index expected word : ℕ) (before after : StatePass) where
  exchange_step-won : exchange_step index expected word expected ≡ write_step index expected word
  exchange_step-won = elim (eqb_tells expected expected) [
    | inl same ↦ rw same.0 refl
    | inr apart ↦ absurd (apart.1 refl)
  ]

  exchange_step-lost : (seen : ℕ) → seen ≢ expected
      → exchange_step index expected word seen ≡ load_step index seen
  exchange_step-lost seen other = elim (eqb_tells seen expected) [
    | inl same ↦ absurd (other same.1)
    | inr apart ↦ rw apart.0 refl
  ]

  is_expected : true ≡ (expected == expected)
  is_expected = elim (eqb_tells expected expected) [
    | inl same ↦ sym same.0
    | inr apart ↦ absurd (apart.1 refl)
  ]

  is_other : (seen : ℕ) → seen ≢ expected → false ≡ (seen == expected)
  is_other seen other = elim (eqb_tells seen expected) [
    | inl same ↦ absurd (other same.1)
    | inr apart ↦ sym apart.0
  ]

  pub Exchanged-by_answer : (answer : Result ℕ ℕ)
      → OnOk answer (after ≡ after_step before (write_step index expected word))
      → MatchResult answer (λ seen. seen ≡ expected) (λ seen. seen ≢ expected)
      → IfErr answer (λ seen. after ≡ after_step before (load_step index seen))
      → Exchanged index expected word (is_ok answer) before after
  Exchanged-by_answer (Ok seen) won is lost = record {
    seen = expected;
    step = won ∙ ap (after_step before) (sym exchange_step-won);
    won_where_expected = is_expected;
  }
  Exchanged-by_answer (Err seen) won other lost = record {
    seen = seen;
    step = lost ∙ ap (after_step before) (sym (exchange_step-lost seen other));
    won_where_expected = is_other seen other;
  }

  pub ExchangesWord-from : (won : Bool) → Exchanged index expected word won before after
      → ExchangesWord index expected word before after
  ExchangesWord-from won exchanged = record { seen = exchanged.seen; step = exchanged.step }

-- how a port left, by its answer
pub Leaves-by_answer : (bit : ℕ) (marked : Bool) (before after : StatePass)
    → OnTrue marked (LeftMark bit before after)
    → OnFalse marked (LeftOther bit before after ⊎ WasAbsent bit before after) → Leaves bit marked before after
Leaves-by_answer bit true before after mark other = mark
Leaves-by_answer bit false before after mark other = other

-- a channel was closed by one exchange, or by a second where the first was lost
module _ (channel state : ℕ) (before first after : StatePass) (won : Bool)
    (exchanged : Exchanged (channel_index channel) state closed won before first) where
  by_won : MatchBool won (after ≡ first) (ExchangesWord (channel_index channel) (with_hint state) closed first after)
      → ClosesChannel channel state before after
  by_won second = record {
    seen = exchanged.seen;
    first = first;
    step = exchanged.step;
    second =
        subst
        (λ (b : Bool).
        MatchBool b (after ≡ first) (ExchangesWord (channel_index channel) (with_hint state) closed first after))
        exchanged.won_where_expected second;
  }

  pub ClosesChannel-once : won ≡ true → after ≡ first → ClosesChannel channel state before after
  ClosesChannel-once is same =
      by_won (subst
      (λ (b : Bool).
      MatchBool b (after ≡ first) (ExchangesWord (channel_index channel) (with_hint state) closed first after))
      (sym is) same)

  pub ClosesChannel-twice : won ≡ false
      → ExchangesWord (channel_index channel) (with_hint state) closed first after
      → ClosesChannel channel state before after
  ClosesChannel-twice is second =
      by_won (subst
      (λ (b : Bool).
      MatchBool b (after ≡ first) (ExchangesWord (channel_index channel) (with_hint state) closed first after))
      (sym is) second)

-- a state was set where the closed word was seen
pub SetsState-exchanged : (channel channel' state state' : ℕ) (acted : Bool) (before after : StatePass)
    → channel' ≡ channel → state' ≡ state
    → Exchanged (channel_index channel') closed state' acted before after → SetsState channel state acted before after
SetsState-exchanged channel channel' state state' acted before after on to exchanged =
    subst (λ (c : ℕ). SetsState c state acted before after) on
    (subst (λ (s : ℕ). SetsState channel' s acted before after) to (record {
      seen = exchanged.seen;
      step = exchanged.step;
      acted_if_closed = exchanged.won_where_expected;
    }))

-- the hint was set where the state was seen
pub SetsHint-exchanged : (channel channel' state state' hinted : ℕ) (won : Bool) (before after : StatePass)
    → channel' ≡ channel → state' ≡ state → hinted ≡ with_hint state'
    → Exchanged (channel_index channel') state' hinted won before after → SetsHint channel state before after
SetsHint-exchanged channel channel' state state' hinted won before after on to with exchanged =
    subst (λ (c : ℕ). SetsHint c state before after) on
    (subst (λ (s : ℕ). SetsHint channel' s before after) to
    (subst (λ (h : ℕ). ExchangesWord (channel_index channel') state' h before after) with
    (record { seen = exchanged.seen; step = exchanged.step })))

pub ClosesChannel-named : (channel channel' state state' : ℕ) (before after : StatePass)
    → channel' ≡ channel → state' ≡ state → ClosesChannel channel' state' before after
    → ClosesChannel channel state before after
ClosesChannel-named channel channel' state state' before after on to closes =
    subst (λ (c : ℕ). ClosesChannel c state before after) on
    (subst (λ (s : ℕ). ClosesChannel channel' s before after) to closes)
