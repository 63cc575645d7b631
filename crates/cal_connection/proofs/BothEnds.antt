-- How a channel is read and written at both ends of a connection, and what no call changes.
use Rattle.std.proofs.Common.{◌≡◌, ◌≢◌, ℕ, ◌<◌, ◌≤◌, Bool, true, false, List, length, refl, sym, ap, ◌∙◌, subst, inl, inr}
use Rattle.std.specs.Prelude.{nat_lt, slice_index_or, slice_set, if◌then◌else◌}
use Rattle.std.proofs.lemmas.Bool.{cases_lt, cond-false, and_left, le-ltb}
use Rattle.std.proofs.lemmas.List.{get_or_default, get_or_past, get_or-set_same, get_or-set_other, length-set, set-get_or}
use Rattle.cal_connection.specs.declared.port_call.PortCall.{PortCall}
use Rattle.cal_connection.specs.declared.settings.ConnectionSettings.{ConnectionSettings}
use Rattle.cal_connection.specs.Calls.{BothEnds, IsSoundPair, side_at, with_side, called_channel, channel_call, serves_call, is_suited_on, side_left, after_call}
use Rattle.cal_connection.specs.Channel.{ChannelEntry, shape}
use Rattle.cal_connection.specs.Port.{PortEntry, no_channel, channel_at}
use Rattle.cal_connection.specs.PortLemmas.{IsSoundPort-changed, length-channels}
use Rattle.cal_connection.specs.ShapeLemmas.{shape-after_send, shape-after_receive, shape-after_release, shape-after_reclaim}
use Rattle.cal_connection.specs.Traffic.{ChannelCall, sends, receives, releases, reclaims, Side, side_after}

-- ---- one channel

abbrev ends_with : PortEntry → List ChannelEntry → List ℕ → BothEnds
ends_with port channels counts = record { port = record port { channels = channels }; borrow_counts = counts }

abbrev side_of : ChannelEntry → ℕ → Side
side_of channel count = record { channel = channel; count = count }

module _ (ends : BothEnds) where
  -- what is there, written again, changes nothing
  pub with_side-present : (channel : ℕ) → with_side ends channel (side_at ends channel) ≡ ends
  with_side-present channel =
      ap (λ channels. ends_with ends.port channels (slice_set ends.borrow_counts channel
      (slice_index_or ends.borrow_counts channel 0)))
      (set-get_or ends.port.channels channel no_channel)
      ∙ ap (ends_with ends.port ends.port.channels) (set-get_or ends.borrow_counts channel 0)

  -- another channel is as it was
  pub side_at-with_side-other : (channel other : ℕ) (side : Side) → other ≢ channel →
      side_at (with_side ends channel side) other ≡ side_at ends other
  side_at-with_side-other channel other side apart =
      ap (λ c. side_of c (slice_index_or (slice_set ends.borrow_counts channel side.count) other 0))
      (get_or-set_other ends.port.channels channel other side.channel no_channel apart)
      ∙ ap (side_of (channel_at ends.port other))
      (get_or-set_other ends.borrow_counts channel other side.count 0 apart)

  module _ (sound : IsSoundPair ends) where
    -- what was written is read, where the channel is there
    pub side_at-with_side-same : (channel : ℕ) (side : Side) → channel < ends.port.settings.number_of_channels →
        side_at (with_side ends channel side) channel ≡ side
    side_at-with_side-same channel side there =
        let in_channels : channel < length ends.port.channels =
        subst (λ n. channel < n) (sym (length-channels ends.port sound.sound)) there in
        let in_counts : channel < length ends.borrow_counts =
        subst (λ n. channel < n) (sym sound.counts) there in
        ap (λ c. side_of c (slice_index_or (slice_set ends.borrow_counts channel side.count) channel 0))
        (get_or-set_same ends.port.channels channel side.channel no_channel in_channels)
        ∙ ap (side_of side.channel) (get_or-set_same ends.borrow_counts channel side.count 0 in_counts)

-- ---- calls

-- a call on a channel that isn't there changes nothing
left_absent : (settings : ConnectionSettings) (channel : ℕ) (side : Side) (asked : ChannelCall) →
    settings.number_of_channels ≤ channel → side_left settings channel side asked ≡ side
left_absent settings channel side asked past =
    cond-false (is_suited_on settings channel side asked) _ side
    (and_left (nat_lt channel settings.number_of_channels) (serves_call settings side asked)
    (le-ltb channel settings.number_of_channels past))

-- a call has no effect on how much room a channel has
shape-side_after : (settings : ConnectionSettings) (side : Side) (asked : ChannelCall) →
    shape (side_after settings.enable_safe_overflow settings.max_borrowed_samples side asked).channel
    ≡ shape side.channel
shape-side_after settings side (sends pointer sample_size) =
    shape-after_send settings.enable_safe_overflow side.channel pointer sample_size
shape-side_after settings side receives =
    shape-after_receive settings.max_borrowed_samples side.count side.channel
shape-side_after settings side (releases pointer) = shape-after_release side.channel pointer
shape-side_after settings side reclaims = shape-after_reclaim side.channel

shape-side_left : (settings : ConnectionSettings) (channel : ℕ) (side : Side) (asked : ChannelCall) →
    shape (side_left settings channel side asked).channel ≡ shape side.channel
shape-side_left settings channel side asked = by_test (is_suited_on settings channel side asked)
  where
    by_test : (suits : Bool) →
        (let left : Side = if suits
        then side_after settings.enable_safe_overflow settings.max_borrowed_samples side asked else side in
        shape left.channel ≡ shape side.channel)
    by_test true = shape-side_after settings side asked
    by_test false = refl

module _ (ends : BothEnds) (call : PortCall) where
  abbrev left : Side
  left = side_left ends.port.settings (called_channel call) (side_at ends (called_channel call)) (channel_call call)

  -- a call on another channel
  pub side_at-after_call-other : (channel : ℕ) → called_channel call ≢ channel →
      side_at (after_call ends call) channel ≡ side_at ends channel
  side_at-after_call-other channel apart =
      side_at-with_side-other ends (called_channel call) channel left (λ same. apart (sym same))

  module _ (sound : IsSoundPair ends) where
    -- a call on its channel
    pub side_at-after_call-same : side_at (after_call ends call) (called_channel call) ≡ left
    side_at-after_call-same = elim (cases_lt (called_channel call) ends.port.settings.number_of_channels) [
      | inl there ↦ side_at-with_side-same ends sound (called_channel call) left there
      | inr past ↦
          let stays : left ≡ side_at ends (called_channel call) =
          left_absent ends.port.settings (called_channel call) (side_at ends (called_channel call)) (channel_call call)
          past in
          ap (λ e. side_at e (called_channel call))
          (ap (with_side ends (called_channel call)) stays ∙ with_side-present ends (called_channel call))
          ∙ sym stays
    ]

    found : channel_at ends.port (called_channel call)
        ≡ slice_index_or ends.port.channels (called_channel call) (channel_at ends.port (called_channel call))
    found = elim (cases_lt (called_channel call) (length ends.port.channels)) [
      | inl there ↦
          get_or_default ends.port.channels (called_channel call) no_channel
          (channel_at ends.port (called_channel call)) there
      | inr past ↦
          sym (get_or_past ends.port.channels (called_channel call) (channel_at ends.port (called_channel call)) past)
    ]

    pub IsSoundPair-after_call : IsSoundPair (after_call ends call)
    IsSoundPair-after_call = record {
      sound =
          IsSoundPort-changed ends.port sound.sound (called_channel call)
          (channel_at ends.port (called_channel call)) left.channel found
          (shape-side_left ends.port.settings (called_channel call) (side_at ends (called_channel call))
          (channel_call call));
      counts = length-set ends.borrow_counts (called_channel call) left.count ∙ sound.counts;
    }
