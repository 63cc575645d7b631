-- A port of a pair as contracts see it, and what a call changes of it.
use Rattle.std.specs.Prelude.{◌≡◌, ℕ, ◌^◌, ◌<◌, List, map, length, All, Option, Some, slice_get, slice_set}
use Rattle.atomic_table.specs.Seated.{TableId}
use Rattle.cal_queue.specs.declared.state_table.pass.StatePass.{StatePass}
use Rattle.cal_connection.specs.Settings.{IsClamped, completion_size}
use Rattle.cal_connection.specs.declared.settings.ConnectionSettings.{ConnectionSettings}
use Rattle.cal_shared.specs.Channels.{ReceivingChannel, Rings, SendingChannel}

-- what the connection was made with, the table of the words that both ports share, all steps of the port there, and
-- what it has of each channel, by the channels' numbers
pub record Port (E : Type 0) : Type 0 where
  pub settings : ConnectionSettings
  pub words : TableId
  pub states : StatePass
  pub channels : List E

abbrev pub SendingPort : Type 0
SendingPort = Port SendingChannel

abbrev pub ReceivingPort : Type 0
ReceivingPort = Port ReceivingChannel

module _ {E : Type 0} where
  abbrev pub channel_at : Port E → ℕ → Option E
  channel_at port channel = slice_get port.channels channel

  abbrev pub with_channel : Port E → ℕ → E → Port E
  with_channel port channel changed = record port { channels = slice_set port.channels channel changed }

  abbrev pub with_states : Port E → StatePass → Port E
  with_states port states = record port { states = states }

  -- what holds of every port: its channels are as many as its settings say, and have the room that these give them
  pub record IsSoundPort (Fits : ConnectionSettings → E → Type 0) (port : Port E) : Type 0 where
    pub clamped : IsClamped port.settings
    pub few : completion_size port.settings < 2 ^ 32
    pub words : port.states.opening.channels ≡ port.settings.number_of_channels
    pub count : length port.channels ≡ port.settings.number_of_channels
    pub fits : All (Fits port.settings) port.channels

  -- the steps of a call on one channel. Nothing else of the port changes
  pub record OnChannel (channel : ℕ) (Steps : E → E → Type 0) (before after : Port E) : Type 0 where
    pub found : E
    pub there : channel_at before channel ≡ Some found
    pub changed : E
    pub steps : Steps found changed
    pub only : after ≡ with_channel before channel changed

  -- the steps of a call at the words that both ports share. Nothing else of the port changes
  pub record AtWords (Steps : StatePass → StatePass → Type 0) (before after : Port E) : Type 0 where
    pub changed : StatePass
    pub steps : Steps before.states changed
    pub only : after ≡ with_states before changed

-- what both ports of a pair have in common: the settings, the table of words, and the rings of each channel
pub record Pair : Type 0 where
  pub settings : ConnectionSettings
  pub words : TableId
  pub rings : List Rings

abbrev pub pair_of : {E : Type 0} → (E → Rings) → Port E → Pair
pair_of rings_of port =
    record { settings = port.settings; words = port.words; rings = map rings_of port.channels }

abbrev pub pair_of_sender : SendingPort → Pair
pair_of_sender = pair_of (λ (channel : SendingChannel). channel.rings)

abbrev pub pair_of_receiver : ReceivingPort → Pair
pair_of_receiver = pair_of (λ (channel : ReceivingChannel). channel.rings)

-- both are ports of one pair
abbrev pub IsOnePair : SendingPort → ReceivingPort → Type 0
IsOnePair sender receiver = pair_of_sender sender ≡ pair_of_receiver receiver
