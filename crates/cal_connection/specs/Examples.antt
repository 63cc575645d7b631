-- Worked examples of the steps on one channel: closed values that the definitions compute.
use Rattle.std.specs.Prelude.{ℕ, true}
use Rattle.cal_alloc.specs.PointerOffset.{pointer_offset}
use Rattle.cal_connection.specs.Channel.{ChannelEntry, new_channel, after_acquire, after_send, after_receive, after_release}
use Rattle.cal_connection.specs.declared.settings.ConnectionSettings.{ConnectionSettings}

-- one channel with a queue of one offset, two segments of two samples each, and one offset to be borrowed
abbrev pub small_settings : ConnectionSettings
small_settings = record {
  buffer_size = 1;
  enable_safe_overflow = true;
  max_borrowed_samples = 1;
  number_of_samples = 2;
  number_of_segments = 2;
  number_of_channels = 1;
}

abbrev pub unused_channel : ChannelEntry
unused_channel = new_channel small_settings 0

-- the second sample of eight bytes of segment 1, and its first one
abbrev pub second : ℕ
second = pointer_offset 8 1

abbrev pub first : ℕ
first = pointer_offset 0 1

-- an offset in a segment that the settings don't have
abbrev pub foreign : ℕ
foreign = pointer_offset 0 2

-- the second sample was sent
abbrev pub after_one_send : ChannelEntry
after_one_send = after_send true unused_channel second 8

-- ... then the first one, by which the second one overflowed
abbrev pub after_overflow : ChannelEntry
after_overflow = after_send true after_one_send first 8

-- the second sample was sent, received and released
abbrev pub after_one_release : ChannelEntry
after_one_release = after_release (after_receive 1 0 after_one_send) second

-- a receiver returned an offset that nobody sent
abbrev pub after_foreign_release : ChannelEntry
after_foreign_release = after_release unused_channel foreign

-- the first sample was sent, and then all samples were taken out of use
abbrev pub after_first_send : ChannelEntry
after_first_send = after_send true unused_channel first 8

abbrev pub after_first_acquired : ChannelEntry
after_first_acquired = after_acquire after_first_send
