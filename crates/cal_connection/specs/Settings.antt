-- The settings of a connection: how large its parts are, and how two settings differ.
use Rattle.std.specs.Prelude.{ℕ, ◌+◌, ◌*◌, ◌^◌, ◌≤◌, Bool, not, ◌||◌, ◌==◌, nat_le, Option, Some, None, if◌then◌else◌}
use Rattle.std.proofs.Math.Bool.{beq}
use Rattle.cal_connection.specs.declared.settings.ConnectionSettings.{ConnectionSettings}
use Rattle.cal_connection.specs.declared.errors.ZeroCopyCreationError.{ZeroCopyCreationError}
use Rattle.cal_connection.specs.declared.errors.ZeroCopyCreationError.TheVariants.{
  IncompatibleBufferSize,
  IncompatibleMaxBorrowedSamplesPerChannelSetting,
  IncompatibleOverflowSetting,
  IncompatibleNumberOfSamples,
  IncompatibleNumberOfSegments,
  IncompatibleNumberOfChannels,
}

-- how many offsets the completion queue of a channel holds
abbrev pub completion_size : ConnectionSettings → ℕ
completion_size settings = settings.buffer_size + settings.max_borrowed_samples + 1

-- the completion queue, or the lists of used entries together, have 2^63 places or more
abbrev pub is_too_large : ConnectionSettings → Bool
is_too_large settings =
    nat_le (2 ^ 63) (completion_size settings)
    || nat_le (2 ^ 63) (settings.number_of_samples * settings.number_of_segments * settings.number_of_channels)

-- the first difference of the settings that a connection has from those that are asked for
abbrev pub incompatibility : ConnectionSettings → ConnectionSettings → Option ZeroCopyCreationError
incompatibility found asked =
    if not (found.buffer_size == asked.buffer_size) then Some IncompatibleBufferSize
    else if not (completion_size found == completion_size asked)
    then Some IncompatibleMaxBorrowedSamplesPerChannelSetting
    else if not (beq found.enable_safe_overflow asked.enable_safe_overflow) then Some IncompatibleOverflowSetting
    else if not (found.number_of_samples == asked.number_of_samples) then Some IncompatibleNumberOfSamples
    else if not (found.number_of_segments == asked.number_of_segments) then Some IncompatibleNumberOfSegments
    else if not (found.number_of_channels == asked.number_of_channels) then Some IncompatibleNumberOfChannels
    else None

-- No setting is zero.
pub record IsClamped (settings : ConnectionSettings) : Type 0 where
  pub buffer : 1 ≤ settings.buffer_size
  pub borrow : 1 ≤ settings.max_borrowed_samples
  pub samples : 1 ≤ settings.number_of_samples
  pub segments : 1 ≤ settings.number_of_segments
  pub channels : 1 ≤ settings.number_of_channels
