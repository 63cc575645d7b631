use Rattle.cal_alloc.specs.PointerOffset.{pointer_offset, offset_of, segment_of}
use Rattle.cal_storage.specs.Refusals.{finished_version}
use Rattle.cal_resizable.specs.Growth.{made_segment}
use Rattle.cal_resizable.proofs.SegmentLemmas.{GivesChunk-here, GrowsTo-grown, ReturnsChunk-by}
use Rattle.cal_resizable.proofs.chunk_laws.a_call_changes_one_segment.Goals as goal

pub returns : goal.returns
returns g c = record {
  given = λ old new before after layout pointer sound has here fits.
      GivesChunk-here g.A.ShmAllocator g.met.A.ShmAllocator.allocation old new before after layout pointer sound has
      here
      fits;
  grown = λ old before hint sound has below.
      GrowsTo-grown old before (made_segment g.A.ShmAllocator hint) finished_version sound has below;
  returned = λ old new before after pointer sound has some takes.
      ReturnsChunk-by (λ was is. g.A.ShmAllocator.Deallocates was (pointer_offset (offset_of pointer) 0) is) old new
      before after (segment_of pointer) sound has some takes;
}
