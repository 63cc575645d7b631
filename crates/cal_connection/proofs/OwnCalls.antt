-- A channel replies to its own calls as if there were no others.
use Rattle.std.proofs.Common.{◌≡◌, ℕ, List, [], ◌∷◌, refl, sym, ap, ◌∙◌, subst, inl, inr}
use Rattle.std.proofs.lemmas.Bool.{cond-true, cond-false}
use Rattle.std.proofs.lemmas.Bool.Decides.{eqb_tells}
use Rattle.cal_connection.specs.declared.port_call.PortCall.{PortCall}
use Rattle.cal_connection.specs.declared.port_reply.PortReply.{PortReply}
use Rattle.cal_connection.specs.declared.settings.ConnectionSettings.{ConnectionSettings}
use Rattle.cal_connection.specs.Calls.{BothEnds, IsSoundPair, side_at, called_channel, channel_call, reply_on, side_left, reply_to, after_call, replies_to, after_calls, is_on, calls_on, replies_on}
use Rattle.cal_connection.specs.Traffic.{Side}
use Rattle.cal_connection.proofs.BothEnds.{side_at-after_call-same, side_at-after_call-other, IsSoundPair-after_call}

module _ (channel : ℕ) where
  -- two pairs of ends agree on a channel
  pub record AgreeOn (one two : BothEnds) : Type 0 where
    pub sound_one : IsSoundPair one
    pub sound_two : IsSoundPair two
    pub settings : one.port.settings ≡ two.port.settings
    pub side : side_at one channel ≡ side_at two channel

module _ (channel : ℕ) (one two : BothEnds) (call : PortCall) (agree : AgreeOn channel one two) where
  -- a function of the settings and of the channel's side
  same_at : {X : Type 0} (f : ConnectionSettings → Side → X) →
      f one.port.settings (side_at one channel) ≡ f two.port.settings (side_at two channel)
  same_at f =
      ap (λ s. f s (side_at one channel)) agree.settings ∙ ap (f two.port.settings) agree.side

  module _ (names : called_channel call ≡ channel) where
    -- such a function, of the channel that the call names
    same_called : {X : Type 0} (f : ConnectionSettings → Side → X) →
        f one.port.settings (side_at one (called_channel call))
        ≡ f two.port.settings (side_at two (called_channel call))
    same_called f =
        subst (λ c. f one.port.settings (side_at one c) ≡ f two.port.settings (side_at two c)) (sym names)
        (same_at f)

    same_reply : reply_to one call ≡ reply_to two call
    same_reply = same_called (λ s side. reply_on s (called_channel call) side (channel_call call))

    AgreeOn-own : AgreeOn channel (after_call one call) (after_call two call)
    AgreeOn-own = record {
      sound_one = IsSoundPair-after_call one call agree.sound_one;
      sound_two = IsSoundPair-after_call two call agree.sound_two;
      settings = agree.settings;
      side =
          subst (λ c. side_at (after_call one call) c ≡ side_at (after_call two call) c) names
          (side_at-after_call-same one call agree.sound_one
          ∙ same_called (λ s side. side_left s (called_channel call) side (channel_call call))
          ∙ sym (side_at-after_call-same two call agree.sound_two));
    }

  AgreeOn-other : (called_channel call ≡ channel → ⊥) → AgreeOn channel (after_call one call) two
  AgreeOn-other apart = record {
    sound_one = IsSoundPair-after_call one call agree.sound_one;
    sound_two = agree.sound_two;
    settings = agree.settings;
    side = side_at-after_call-other one call channel apart ∙ agree.side;
  }

module _ (channel : ℕ) where
  -- the replies to all calls, seen on the channel, are those to its own calls
  pub own_replies : (one two : BothEnds) (calls : List PortCall) → AgreeOn channel one two →
      replies_on channel calls (replies_to one calls) ≡ replies_to two (calls_on channel calls)
  own_replies one two [] agree = refl
  own_replies one two (call ∷ calls) agree =
      let rest : List PortReply = replies_on channel calls (replies_to (after_call one call) calls) in
      elim (eqb_tells (called_channel call) channel) [
        | inl here ↦
            cond-true (is_on channel call) (reply_to one call ∷ rest) rest here.0
            ∙ ap (λ r. r ∷ rest) (same_reply channel one two call agree here.1)
            ∙ ap (λ rs. reply_to two call ∷ rs)
            (own_replies (after_call one call) (after_call two call) calls
            (AgreeOn-own channel one two call agree here.1))
            ∙ sym (ap (replies_to two)
            (cond-true (is_on channel call) (call ∷ calls_on channel calls) (calls_on channel calls) here.0))
        | inr elsewhere ↦
            cond-false (is_on channel call) (reply_to one call ∷ rest) rest elsewhere.0
            ∙ own_replies (after_call one call) two calls (AgreeOn-other channel one two call agree elsewhere.1)
            ∙ sym (ap (replies_to two)
            (cond-false (is_on channel call) (call ∷ calls_on channel calls) (calls_on channel calls) elsewhere.0))
      ]

  -- and so is what is left of the channel
  pub own_side : (one two : BothEnds) (calls : List PortCall) → AgreeOn channel one two →
      side_at (after_calls one calls) channel ≡ side_at (after_calls two (calls_on channel calls)) channel
  own_side one two [] agree = agree.side
  own_side one two (call ∷ calls) agree =
      elim (eqb_tells (called_channel call) channel) [
        | inl here ↦
            own_side (after_call one call) (after_call two call) calls
            (AgreeOn-own channel one two call agree here.1)
            ∙ sym (ap (λ own. side_at (after_calls two own) channel)
            (cond-true (is_on channel call) (call ∷ calls_on channel calls) (calls_on channel calls) here.0))
        | inr elsewhere ↦
            own_side (after_call one call) two calls (AgreeOn-other channel one two call agree elsewhere.1)
            ∙ sym (ap (λ own. side_at (after_calls two own) channel)
            (cond-false (is_on channel call) (call ∷ calls_on channel calls) (calls_on channel calls) elsewhere.0))
      ]

-- both ends agree with themselves
pub AgreeOn-same : (channel : ℕ) (ends : BothEnds) → IsSoundPair ends → AgreeOn channel ends ends
AgreeOn-same channel ends sound = record { sound_one = sound; sound_two = sound; settings = refl; side = refl }
