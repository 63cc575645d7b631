-- The sample that an offset names is one of the channel that is found at its number.
use Rattle.std.specs.Prelude.{ℕ, ◌/◌, ◌<◌, length}
use Rattle.std.proofs.Common.{sym, subst}
use Rattle.cal_alloc.specs.PointerOffset.{offset_of, segment_of}
use Rattle.cal_queue.specs.UsedChunks.{capacity_of}
use Rattle.cal_connection.specs.Channel.{segment_at}
use Rattle.cal_shared.specs.Channels.{FitsSender}
use Rattle.cal_shared.specs.Port.{SendingPort}
use Rattle.cal_shared.specs.Sending.{IsWithin}
use Rattle.cal_shared.proofs.FittingChannels.{length-segments, samples-segment_at}
use Rattle.cal_shared.proofs.FoundChannel.{Fits-found, Found}

module _ (value : SendingPort) (channel : ℕ) (f : Found FitsSender value channel) (pointer sample_size : ℕ)
    (within : IsWithin value.settings channel pointer sample_size) where
  within-parts : IsWithin f.port.settings channel pointer sample_size
  within-parts =
      subst (λ (p : SendingPort). IsWithin p.settings channel pointer sample_size) (sym f.same) within

  pub segment-named : segment_of pointer < length f.found.segments
  segment-named =
      subst (λ (n : ℕ). segment_of pointer < n) (sym (length-segments f.port.settings f.found (Fits-found f)))
      within-parts.segment

  pub sample-named : offset_of pointer / sample_size
      < capacity_of (segment_at f.found.segments (segment_of pointer)).used
  sample-named =
      subst (λ (n : ℕ). offset_of pointer / sample_size < n)
      (sym (samples-segment_at f.port.settings f.found (Fits-found f) (segment_of pointer) within-parts.segment))
      within-parts.index
