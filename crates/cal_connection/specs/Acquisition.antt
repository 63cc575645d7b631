-- The offsets of the samples that are in use, as a sender that takes all of them back is told them: by channel, then by
-- segment, then by index, each rising.
use Rattle.std.specs.Prelude.{◌≡◌, ℕ, ◌+◌, ◌*◌, ◌<◌, true, List, [], ◌∷◌, ◌++◌, map}
use Rattle.cal_alloc.specs.Limits.{max_memory_size}
use Rattle.cal_alloc.specs.PointerOffset.{pointer_offset}
use Rattle.cal_queue.specs.UsedChunks.{contains, members, members_from}
use Rattle.cal_connection.specs.declared.segment_details.SegmentDetails.{SegmentDetails}
use Rattle.cal_connection.specs.Channel.{ChannelEntry, segment_at, is_used, after_acquire}
use Rattle.cal_connection.specs.Port.{PortEntry, channel_at}

-- ---- what is told

-- the offset of a sample: its index times the stored sample size
abbrev pub offset_at : ℕ → SegmentDetails → ℕ → ℕ
offset_at segment details index = pointer_offset (index * details.sample_size) segment

-- the offsets of a segment's samples that are in use, and of those from an index on
abbrev pub used_in_segment : ℕ → SegmentDetails → List ℕ
used_in_segment segment details = map (offset_at segment details) (members details.used)

abbrev pub used_from : ℕ → SegmentDetails → ℕ → List ℕ
used_from segment details start = map (offset_at segment details) (members_from details.used start)

-- those of segments, of which the first has this number
abbrev pub used_in_segments : ℕ → List SegmentDetails → List ℕ
used_in_segments segment [] = []
used_in_segments segment (details ∷ rest) = used_in_segment segment details ++ used_in_segments (segment + 1) rest

-- those of channels, one after the other
abbrev pub used_on_channels : List ChannelEntry → List ℕ
used_on_channels [] = []
used_on_channels (channel ∷ rest) = used_in_segments 0 channel.segments ++ used_on_channels rest

abbrev pub used_offsets : PortEntry → List ℕ
used_offsets port = used_on_channels port.channels

-- ---- what can be told

-- Each sample that is in use begins below the limit of memory, by its segment's stored sample size.
pub record FitsSegment (details : SegmentDetails) : Type 0 where
  pub below : (index : ℕ) → contains details.used index ≡ true → index * details.sample_size < max_memory_size

pub record FitsSegments (segments : List SegmentDetails) : Type 0 where
  pub below : (segment index : ℕ) → is_used segments segment index ≡ true →
      index * (segment_at segments segment).sample_size < max_memory_size

pub record IsAcquirable (port : PortEntry) : Type 0 where
  pub below : (channel segment index : ℕ) → is_used (channel_at port channel).segments segment index ≡ true →
      index * (segment_at (channel_at port channel).segments segment).sample_size < max_memory_size

-- ---- what is left

-- no sample is in use on any channel; the queues, the sample sizes and the words stay
abbrev pub after_acquiring : PortEntry → PortEntry
after_acquiring port = record port { channels = map after_acquire port.channels }
