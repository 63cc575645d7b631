use Rattle.std.proofs.Common.{◌≡◌, subst, arith}
use Rattle.cal_alloc.specs.Pool.{Pool}
use Rattle.cal_alloc.specs.PointerOffset.{segment_of}
use Rattle.cal_shm.specs.Segment.{Segment}
use Rattle.cal_resizable.specs.Growth.{OfSegment}
use Rattle.cal_transport.proofs.Segments.{of_shown}
use Rattle.cal_transport.proofs.transport.pointing.pointed_entry.Goals as goal

pub nonzero_div-bucket : goal.nonzero_div-bucket
nonzero_div-bucket c =
    let is : c.bucket_size.result ≡ c.requires.points.segment.allocator.buckets.size =
    of_shown c.args.reg.now c.args.memory.now.slots (segment_of c.args.pointer)
    (λ (s : Segment Pool). c.bucket_size.result ≡ s.allocator.buckets.size) c.requires.points.segment
    (subst (λ n. OfSegment c.args.reg.now c.args.memory.now.slots n
    (λ (s : Segment Pool). c.bucket_size.result ≡ s.allocator.buckets.size)) c.segment_id-segment.ensures.value
    c.bucket_size.ensures.size)
    c.requires.points.there in
    let some = c.requires.points.positive in omega arith
