-- What a pair of ports is made with, and when that is too large for it.
use Rattle.std.specs.Prelude.{◌^◌, Bool, ◌||◌, nat_le, max}
use Rattle.cal_connection.specs.declared.settings.ConnectionSettings.{ConnectionSettings}
use Rattle.cal_connection.specs.Settings.{completion_size, is_too_large}
use Rattle.cal_shared.specs.declared.port_settings.PortSettings.{PortSettings}

-- the settings of the connection: a zero counts as one
abbrev pub connection_settings : PortSettings → ConnectionSettings
connection_settings asked = record {
  buffer_size = max asked.buffer 1;
  enable_safe_overflow = asked.overflow;
  max_borrowed_samples = max asked.borrow 1;
  number_of_samples = max asked.samples 1;
  number_of_segments = max asked.segments 1;
  number_of_channels = max asked.channels 1;
}

-- any connection would be too large, or a completion ring would have room for 2^32 offsets or more. A submission ring
-- is smaller
abbrev pub is_pair_too_large : ConnectionSettings → Bool
is_pair_too_large settings = is_too_large settings || nat_le (2 ^ 32) (completion_size settings)
