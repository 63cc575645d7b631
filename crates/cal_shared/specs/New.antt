-- Ports as they are made: nothing was sent, received, released or reclaimed, no sample is in use, and both ports are
-- connected.
use Rattle.std.specs.Prelude.{◌≡◌, ℕ, List, length, map, All, replicate}
use Rattle.cal_queue.specs.CompletionPass.{new_get_pass, new_put_pass}
use Rattle.cal_queue.specs.StateTable.{new_pass_of}
use Rattle.cal_queue.specs.SubmissionPass.{new_send_pass, new_take_pass}
use Rattle.cal_connection.specs.Channel.{new_segment}
use Rattle.cal_connection.specs.Settings.{completion_size}
use Rattle.cal_connection.specs.declared.settings.ConnectionSettings.{ConnectionSettings}
use Rattle.cal_shared.specs.Channels.{ReceivingChannel, SendingChannel}
use Rattle.cal_shared.specs.Port.{Port}

-- the word of a connection whose two ports are there
abbrev pub both_ports : ℕ
both_ports = 3

pub record IsNewSendingChannel (settings : ConnectionSettings) (channel : SendingChannel) : Type 0 where
  pub submission : channel.submission ≡ new_send_pass settings.buffer_size
  pub completion : channel.completion ≡ new_get_pass (completion_size settings)
  pub segments : channel.segments ≡ replicate settings.number_of_segments (new_segment settings)

pub record IsNewReceivingChannel (settings : ConnectionSettings) (channel : ReceivingChannel) : Type 0 where
  pub submission : channel.submission ≡ new_take_pass settings.buffer_size
  pub completion : channel.completion ≡ new_put_pass (completion_size settings)

-- both ends of so many channels, all new and by the same numbers
pub record AreNewChannels (settings : ConnectionSettings) (count : ℕ) (sending : List SendingChannel)
    (receiving : List ReceivingChannel) : Type 0 where
  pub senders : All (IsNewSendingChannel settings) sending
  pub receivers : All (IsNewReceivingChannel settings) receiving
  pub rings : map (λ (channel : SendingChannel). channel.rings) sending
      ≡ map (λ (channel : ReceivingChannel). channel.rings) receiving
  pub sender_count : length sending ≡ count
  pub receiver_count : length receiving ≡ count

-- a port with these settings, whose channels are all new and begin in this state
pub record IsNewPort {E : Type 0} (IsNew : ConnectionSettings → E → Type 0) (settings : ConnectionSettings)
    (initial : ℕ) (port : Port E) : Type 0 where
  pub same_settings : port.settings ≡ settings
  pub states : port.states ≡ new_pass_of both_ports settings.number_of_channels initial
  pub count : length port.channels ≡ settings.number_of_channels
  pub channels : All (IsNew settings) port.channels
