-- A channel of a pair at rest: what went over its two rings.
use Rattle.std.specs.Prelude.{◌≡◌, ℕ, ◌+◌, ◌≤◌, List, [], length, take, Option, Some, None}
use Rattle.cal_queue.specs.Partition.{IsPartition}
use Rattle.cal_queue.specs.RingState.{Bounds, IsReached, Tag, overflowed, received, ring_state, tagged_positions}
use Rattle.cal_connection.specs.Settings.{completion_size}
use Rattle.cal_connection.specs.declared.settings.ConnectionSettings.{ConnectionSettings}
use Rattle.cal_shared.specs.Channels.{ReceivingChannel, SendingChannel}
use Rattle.cal_shared.specs.declared.resting.PortRest.{PortRest}
use Rattle.cal_shared.specs.Port.{ReceivingPort, SendingPort, channel_at}

-- ---- what each port knows of a channel; nothing went over an absent one

abbrev pub sent_of : Option SendingChannel → List ℕ
sent_of None = []
sent_of (Some channel) = channel.submission.sent

abbrev pub overflowed_of : Option SendingChannel → List (ℕ × ℕ)
overflowed_of None = []
overflowed_of (Some channel) = channel.submission.overflowed

abbrev pub reclaimed_of : Option SendingChannel → List ℕ
reclaimed_of None = []
reclaimed_of (Some channel) = channel.completion.got

abbrev pub received_of : Option ReceivingChannel → List (ℕ × ℕ)
received_of None = []
received_of (Some channel) = channel.submission.received

abbrev pub released_of : Option ReceivingChannel → List ℕ
released_of None = []
released_of (Some channel) = channel.completion.put

-- the values sent; the positions that overflowed, each with its value; and the values reclaimed
abbrev pub sent_at : SendingPort → ℕ → List ℕ
sent_at port channel = sent_of (channel_at port channel)

abbrev pub overflowed_at : SendingPort → ℕ → List (ℕ × ℕ)
overflowed_at port channel = overflowed_of (channel_at port channel)

abbrev pub reclaimed_at : SendingPort → ℕ → List ℕ
reclaimed_at port channel = reclaimed_of (channel_at port channel)

-- the positions received, each with its value, and the values released
abbrev pub received_at : ReceivingPort → ℕ → List (ℕ × ℕ)
received_at port channel = received_of (channel_at port channel)

abbrev pub released_at : ReceivingPort → ℕ → List ℕ
released_at port channel = released_of (channel_at port channel)

-- ---- both

-- how much room a channel's rings have
abbrev pub bounds_of : ConnectionSettings → Bounds
bounds_of settings = record { buffer = settings.buffer_size; completion = completion_size settings }

-- one schedule of the channel leads to all that both rings tell
pub record IsOneSchedule (bounds : Bounds) (sent : List ℕ) (gone taken : List (ℕ × ℕ)) (released : List ℕ)
    (reclaimed : ℕ) : Type 0 where
  pub tags : List Tag
  pub reached : IsReached bounds (ring_state sent tags released reclaimed)
  pub gone_tagged : gone ≡ tagged_positions overflowed 0 tags sent
  pub taken_tagged : taken ≡ tagged_positions received 0 tags sent

-- what went over a channel, counted from both of its ends
pub record CountsChannel (sending : SendingChannel) (receiving : ReceivingChannel) (rest : PortRest) : Type 0 where
  pub sent : rest.sent ≡ length sending.submission.sent
  pub received : rest.received ≡ length receiving.submission.received
  pub returned : rest.returned ≡ length sending.submission.overflowed
  pub released : rest.released ≡ length receiving.completion.put
  pub reclaimed : rest.reclaimed ≡ length sending.completion.got
  pub adds_up : rest.sent ≡ rest.received + rest.returned + rest.left
  pub within : rest.left ≤ sending.submission.buffer
  pub released_after_received : rest.released ≤ rest.received
  pub reclaimed_after_released : rest.reclaimed ≤ rest.released
  pub partition : IsPartition sending.submission.sent receiving.submission.received sending.submission.overflowed
  pub reclaimed_first : sending.completion.got ≡ take rest.reclaimed receiving.completion.put
  pub one_schedule : IsOneSchedule
      (record { buffer = sending.submission.buffer; completion = receiving.completion.capacity })
      sending.submission.sent sending.submission.overflowed receiving.submission.received receiving.completion.put
      rest.reclaimed
