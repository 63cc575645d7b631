-- Settings as they count, and why a transport can't be made with them.
use Rattle.std.specs.Prelude.{ℕ, ◌+◌, ◌*◌, ◌^◌, ◌<◌, ◌≤◌, ◌≡◌, max, Bool, true, not, ◌||◌, ◌==◌, nat_lt, nat_le, if◌then◌else◌, Option, Some, None}
use Rattle.std.specs.Int.{is_power_of_two}
use Rattle.cal_alloc.specs.Growth.{SegmentLayout, padded_size}
use Rattle.cal_alloc.specs.Limits.{max_memory_size, bucket_limit, max_memory_alignment}
use Rattle.cal_transport.specs.declared.settings.Settings.{Settings}
use Rattle.cal_transport.specs.declared.settings.CreateCause.{CreateCause}
use Rattle.cal_transport.specs.declared.settings.CreateCause.TheVariants.{BadLayout, SizeOutOfRange, SizeIsZero, InternalError}

-- a zero buffer, borrow limit, number of samples, of segments or of channels counts as one
abbrev pub clamped_settings : Settings → Settings
clamped_settings s = record s {
  buffer = max 1 s.buffer;
  borrow = max 1 s.borrow;
  samples = max 1 s.samples;
  segments = max 1 s.segments;
  channels = max 1 s.channels;
}

-- the first segment's buckets
abbrev pub first_layout : Settings → SegmentLayout
first_layout s = record { size = padded_size s.size s.alignment; alignment = s.alignment; count = s.count }

-- how many chunks the completion queue of a channel holds
abbrev pub completion_size : Settings → ℕ
completion_size s = s.buffer + s.borrow + 1

-- the bytes of a segment of these buckets
abbrev pub payload : SegmentLayout → ℕ
payload buckets = buckets.size * buckets.count

-- a segment of these buckets is larger than any can be
abbrev pub is_too_large : SegmentLayout → Bool
is_too_large buckets = nat_lt max_memory_size (payload buckets) || nat_le bucket_limit buckets.count

-- a connection with these settings is larger than any can be
abbrev pub has_too_large_connection : Settings → Bool
has_too_large_connection s =
    nat_le (2 ^ 63) (completion_size s) || nat_le (2 ^ 63) (s.samples * s.segments * s.channels)

-- why no transport can be made with these settings: the first cause that holds
abbrev pub create_cause : Settings → Option CreateCause
create_cause s =
    if not (is_power_of_two s.alignment) then Some BadLayout
    else if is_too_large (first_layout s) || has_too_large_connection (clamped_settings s) then Some SizeOutOfRange
    else if payload (first_layout s) == 0 then Some SizeIsZero
    else if nat_lt max_memory_alignment s.alignment then Some InternalError
    else None

-- what the settings have that a transport can be made with
pub record CanMake (s : Settings) : Type 0 where
  pub alignment : is_power_of_two s.alignment ≡ true
  pub aligned : 1 ≤ s.alignment
  pub supported : s.alignment ≤ max_memory_alignment
  pub size : 1 ≤ s.size
  pub count : 1 ≤ s.count
  pub few : s.count < bucket_limit
  pub payload : payload (first_layout s) ≤ max_memory_size
  pub completions : completion_size (clamped_settings s) < 2 ^ 63
