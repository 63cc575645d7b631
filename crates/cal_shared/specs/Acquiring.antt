-- The offsets of the samples that a sender has in use, as it is told them when it takes all of them back: by channel,
-- then by segment, then by index, each rising.
use Rattle.std.specs.Prelude.{◌≡◌, ℕ, ◌*◌, ◌<◌, ◌≤◌, true, List, [], ◌∷◌, ◌++◌, length, map, Some, slice_get}
use Rattle.cal_alloc.specs.Limits.{max_memory_size}
use Rattle.cal_connection.specs.Acquisition.{FitsSegments, used_in_segments}
use Rattle.cal_connection.specs.Channel.{emptied, is_used, segment_at}
use Rattle.cal_shared.specs.Channels.{SendingChannel}
use Rattle.cal_shared.specs.Port.{SendingPort}
use Rattle.cal_shared.specs.Sending.{segments_at}

-- those of channels, one after the other
abbrev pub used_on_channels : List SendingChannel → List ℕ
used_on_channels [] = []
used_on_channels (channel ∷ rest) = used_in_segments 0 channel.segments ++ used_on_channels rest

-- each sample that is in use begins below the limit of memory, by its segment's stored sample size
pub record IsAcquirable (port : SendingPort) : Type 0 where
  pub below : (channel segment index : ℕ) → is_used (segments_at port channel) segment index ≡ true →
      index * (segment_at (segments_at port channel) segment).sample_size < max_memory_size

-- the same of channels, none of which has more segments than there are numbers
pub record FitsChannels (channels : List SendingChannel) : Type 0 where
  pub numbered : (index : ℕ) (channel : SendingChannel) → slice_get channels index ≡ Some channel →
      length channel.segments ≤ 256
  pub fits : (index : ℕ) (channel : SendingChannel) → slice_get channels index ≡ Some channel →
      FitsSegments channel.segments

-- no sample of a channel is in use; its rings and the sample sizes stay
abbrev pub after_acquire : SendingChannel → SendingChannel
after_acquire channel = record channel { segments = map emptied channel.segments }

abbrev pub after_acquiring : SendingPort → SendingPort
after_acquiring port = record port { channels = map after_acquire port.channels }
