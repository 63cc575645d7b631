-- The entry of a connection, which both of its ports see, and where it stands in a registry.
use Rattle.std.specs.Prelude.{◌≡◌, ℕ, ◌/◌, ◌%◌, ◌^◌, ◌<◌, Bool, false, List, [], map, replicate, slice_index_or, slice_set}
use Rattle.std.specs.Option.{unwrap_or}
use Rattle.cal_alloc.specs.PointerOffset.{offset_of, segment_of}
use Rattle.cal_storage.specs.declared.handle.Handle.{Handle}
use Rattle.cal_storage.specs.Contents.{Contents, value_of, with_value}
use Rattle.cal_connection.specs.declared.settings.ConnectionSettings.{ConnectionSettings}
use Rattle.cal_connection.specs.Settings.{completion_size, IsClamped}
use Rattle.cal_connection.specs.Channel.{ChannelEntry, empty, new_channel, shape, shape_of, is_used, with_word}
use Rattle.cal_connection.specs.Words.{IsPortWord}

-- the settings, the word that says which ports are there, and the channels by their numbers
pub record PortEntry : Type 0 where
  pub settings : ConnectionSettings
  pub word : ℕ
  pub channels : List ChannelEntry

-- what holds of every entry: its channels have the room that its settings give them
pub record IsSoundPort (port : PortEntry) : Type 0 where
  pub clamped : IsClamped port.settings
  pub fits : completion_size port.settings < 2 ^ 63
  pub word : IsPortWord port.word
  pub shapes : map shape port.channels ≡ replicate port.settings.number_of_channels (shape_of port.settings)

-- ---- channels

-- an absent channel has no room
abbrev pub no_channel : ChannelEntry
no_channel = record { submission = empty 0; completion = empty 0; segments = []; word = 0 }

abbrev pub channel_at : PortEntry → ℕ → ChannelEntry
channel_at port channel = slice_index_or port.channels channel no_channel

abbrev pub with_channel : PortEntry → ℕ → ChannelEntry → PortEntry
with_channel port channel changed = record port { channels = slice_set port.channels channel changed }

-- whether the sample of an offset is in use on a channel
abbrev pub is_in_use : PortEntry → ℕ → ℕ → ℕ → Bool
is_in_use port channel pointer sample_size =
    is_used (channel_at port channel).segments (segment_of pointer) (offset_of pointer / sample_size)

-- An offset and a sample size are within the settings, and the channel is there.
pub record IsWithin (port : PortEntry) (channel pointer sample_size : ℕ) : Type 0 where
  pub there : channel < port.settings.number_of_channels
  pub size : 0 < sample_size
  pub divides : offset_of pointer % sample_size ≡ 0
  pub segment : segment_of pointer < port.settings.number_of_segments
  pub index : offset_of pointer / sample_size < port.settings.number_of_samples

-- An offset may be sent: it is within the settings, and its sample isn't in use on the channel.
pub record IsSendable (port : PortEntry) (channel pointer sample_size : ℕ) : Type 0 where
  pub within : IsWithin port channel pointer sample_size
  pub unused : is_in_use port channel pointer sample_size ≡ false

-- ---- what an entry is made with

abbrev pub new_port : ConnectionSettings → ℕ → ℕ → PortEntry
new_port settings word state = record {
  settings = settings;
  word = word;
  channels = replicate settings.number_of_channels (new_channel settings state);
}

-- ---- in a registry

-- the settings of an entry that isn't there
abbrev pub no_settings : ConnectionSettings
no_settings = record {
  buffer_size = 0;
  enable_safe_overflow = false;
  max_borrowed_samples = 0;
  number_of_samples = 0;
  number_of_segments = 0;
  number_of_channels = 0;
}

abbrev pub no_port : PortEntry
no_port = record { settings = no_settings; word = 0; channels = [] }

-- the entry of a handle
abbrev pub port_at : Contents PortEntry → Handle → PortEntry
port_at contents handle = unwrap_or (value_of contents handle.id) no_port

-- the registry in which the entry of a handle is this one
abbrev pub with_port : Contents PortEntry → Handle → PortEntry → Contents PortEntry
with_port contents handle port = with_value contents handle.id port

-- a channel of a handle's entry
abbrev pub channel_of : Contents PortEntry → Handle → ℕ → ChannelEntry
channel_of contents handle channel = channel_at (port_at contents handle) channel

abbrev pub settings_at : Contents PortEntry → Handle → ConnectionSettings
settings_at contents handle = (port_at contents handle).settings

-- the registry in which that channel is this one, and all else is as it was
abbrev pub with_channel_of : Contents PortEntry → Handle → ℕ → ChannelEntry → Contents PortEntry
with_channel_of contents handle channel changed =
    with_port contents handle (with_channel (port_at contents handle) channel changed)

-- the word of a channel, and the registry in which it is this one
abbrev pub word_of : Contents PortEntry → Handle → ℕ → ℕ
word_of contents handle channel = (channel_of contents handle channel).word

abbrev pub with_word_of : Contents PortEntry → Handle → ℕ → ℕ → Contents PortEntry
with_word_of contents handle channel word =
    with_channel_of contents handle channel (with_word (channel_of contents handle channel) word)

-- what a sender is: its name, and the handle of its entry
pub record SenderEnd : Type 0 where
  pub name : List ℕ
  pub handle : Handle

-- what a receiver is: its name, the handle of its entry, and how many offsets it borrows from each channel
pub record ReceiverEnd : Type 0 where
  pub name : List ℕ
  pub handle : Handle
  pub borrow_counts : List ℕ

abbrev pub count_at : ReceiverEnd → ℕ → ℕ
count_at receiver channel = slice_index_or receiver.borrow_counts channel 0

abbrev pub with_count : ReceiverEnd → ℕ → ℕ → ReceiverEnd
with_count receiver channel count = record receiver { borrow_counts = slice_set receiver.borrow_counts channel count }
