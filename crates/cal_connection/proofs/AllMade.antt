-- What follows once all calls of a list were made.
use Rattle.std.proofs.Common.{◌≡◌, ℕ, ◌+◌, ◌≤◌, List, length, sym, ap, ◌∙◌, subst}
use Rattle.cal_storage.specs.Contents.{Contents}
use Rattle.cal_connection.specs.declared.port_call.PortCall.{PortCall}
use Rattle.cal_connection.specs.declared.port_reply.PortReply.{PortReply}
use Rattle.cal_connection.specs.Calls.{BothEnds, IsSoundPair, ends_of, side_at, replies_to, after_calls, calls_on, replies_on}
use Rattle.cal_connection.specs.Port.{PortEntry, ReceiverEnd, channel_at, channel_of}
use Rattle.cal_connection.specs.UsedPairs.{times_used, times_sent, times_back}
use Rattle.cal_connection.proofs.Made.{AreMade, all_told, all_left, entry_left}
use Rattle.cal_connection.proofs.OwnCalls.{AgreeOn-same, own_replies, own_side}
use Rattle.cal_connection.proofs.PairsBalance.{balanced_calls, part_of_sum}

module _ (old : Contents PortEntry) (before : ReceiverEnd) (calls : List PortCall) (now : Contents PortEntry)
    (after : ReceiverEnd) (replies : List PortReply) (made : ℕ)
    (so_far : AreMade old before calls now after replies made) (all : length calls ≤ made)
    (sound : IsSoundPair (ends_of old before)) where
  abbrev ends : BothEnds
  ends = ends_of old before

  told : replies ≡ replies_to ends calls
  told = all_told old before calls now after replies made so_far all

  pub own_told : (channel : ℕ) → replies_on channel calls replies ≡ replies_to ends (calls_on channel calls)
  own_told channel =
      ap (replies_on channel calls) told ∙ own_replies channel ends ends calls (AgreeOn-same channel ends sound)

  pub own_left : (channel : ℕ) →
      side_at (ends_of now after) channel ≡ side_at (after_calls ends (calls_on channel calls)) channel
  own_left channel =
      ap (λ (e : BothEnds). side_at e channel) (all_left old before calls now after replies made so_far all)
      ∙ own_side channel ends ends calls (AgreeOn-same channel ends sound)

  module _ (channel segment index : ℕ) where
    pub pairs_balance : times_used (channel_of now before.handle channel).segments segment index
        + times_back channel segment index ends calls replies
        ≡ times_used (channel_of old before.handle channel).segments segment index
        + times_sent channel segment index ends calls replies
    pairs_balance =
        subst (λ (rs : List PortReply). times_used (channel_of now before.handle channel).segments segment index
        + times_back channel segment index ends calls rs
        ≡ times_used (channel_of old before.handle channel).segments segment index
        + times_sent channel segment index ends calls rs) (sym told)
        (subst (λ (port : PortEntry). times_used (channel_at port channel).segments segment index
        + times_back channel segment index ends calls (replies_to ends calls)
        ≡ times_used (channel_of old before.handle channel).segments segment index
        + times_sent channel segment index ends calls (replies_to ends calls))
        (sym (entry_left old before calls now after replies made so_far all))
        (balanced_calls channel segment index ends calls sound))

    pub pairs_at_most : times_back channel segment index ends calls replies
        ≤ times_used (channel_of old before.handle channel).segments segment index
        + times_sent channel segment index ends calls replies
    pairs_at_most =
        part_of_sum (times_used (channel_of now before.handle channel).segments segment index)
        (times_back channel segment index ends calls replies)
        (times_used (channel_of old before.handle channel).segments segment index
        + times_sent channel segment index ends calls replies) pairs_balance
