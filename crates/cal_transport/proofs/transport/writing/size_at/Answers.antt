use Rattle.std.proofs.Common.{◌≡◌, IsSome, sym, subst}
use Rattle.cal_alloc.specs.Pool.{Pool}
use Rattle.cal_shm.specs.Segment.{Segment}
use Rattle.cal_resizable.specs.Growth.{OfSegment}
use Rattle.cal_resizable.specs.Slots.{segment_at}
use Rattle.cal_transport.proofs.Segments.{of_shown}
use Rattle.cal_transport.proofs.transport.writing.size_at.Goals as goal

pub bucket_size-requires : goal.bucket_size-requires
bucket_size-requires c = record {
  has = c.requires.has;
  active = subst (λ n. IsSome (segment_at c.args.memory.now.slots n)) (sym c.new.ensures.value) c.requires.active;
}

pub returns : goal.returns
returns c = record {
  size = λ found is.
      of_shown c.args.reg.now c.args.memory.now.slots c.args.segment
      (λ (s : Segment Pool). c.bucket_size.result ≡ s.allocator.buckets.size) found
      (subst (λ n. OfSegment c.args.reg.now c.args.memory.now.slots n
      (λ (s : Segment Pool). c.bucket_size.result ≡ s.allocator.buckets.size)) c.new.ensures.value
      c.bucket_size.ensures.size) is;
}
