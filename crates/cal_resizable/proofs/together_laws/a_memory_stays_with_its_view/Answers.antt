use Rattle.cal_alloc.specs.PointerOffset.{pointer_offset, offset_of, segment_of}
use Rattle.cal_resizable.proofs.StayingTogetherLemmas.{AreTogether-allocated, AreTogether-returned, AreTogether-written}
use Rattle.cal_resizable.proofs.together_laws.a_memory_stays_with_its_view.Goals as goal

pub returns : goal.returns
returns g c = record {
  allocated = λ old new before after view layout pointer allocates own spares both.
      AreTogether-allocated g.A.ShmAllocator old new before after layout pointer allocates view own spares both;
  returned = λ old new before after view pointer some takes own spares both.
      AreTogether-returned (λ was is. g.A.ShmAllocator.Deallocates was (pointer_offset (offset_of pointer) 0) is) old
      new before after (segment_of pointer) some takes view both own spares;
  written = λ contents memory view id offset written both.
      AreTogether-written contents memory view id offset written both;
}
