use Rattle.cal_alloc.specs.PointerOffset.{pointer_offset, offset_of, segment_of}
use Rattle.cal_resizable.proofs.KeptBytesLemmas.{read-allocated, read-returned}
use Rattle.cal_resizable.proofs.together_laws.a_view_keeps_its_bytes.Goals as goal

pub returns : goal.returns
returns g c = record {
  allocated = λ old new before after view layout pointer read count allocates both.
      read-allocated g.A.ShmAllocator old before view both new after layout pointer allocates read count;
  returned = λ old new before after view pointer read count takes both.
      read-returned (λ was is. g.A.ShmAllocator.Deallocates was (pointer_offset (offset_of pointer) 0) is) old new before
      after (segment_of pointer) takes view both read count;
}
