use Rattle.std.proofs.Common.{◌≡◌, ◌∙◌, subst}
use Rattle.cal_alloc.specs.Pool.{Pool}
use Rattle.cal_shm.specs.Segment.{Segment}
use Rattle.cal_resizable.specs.Growth.{OfSegment}
use Rattle.cal_transport.proofs.transport.count.count_segments.Goals as goal

pub returns : goal.returns
returns c = record {
  counted = record {
    active = c.number_of_active_segments.ensures.active;
    mapped = c.number_of_active_segments-2.ensures.mapped;
    current = c.value.ensures.value ∙ c.current_segment-current.ensures.current;
    size = subst (λ n. OfSegment c.args.reg.now c.args.memory.now.slots n
        (λ (segment : Segment Pool). c.bucket_size.result ≡ segment.allocator.buckets.size))
        c.current_segment-current.ensures.current c.bucket_size.ensures.size;
    buckets = subst (λ n. OfSegment c.args.reg.now c.args.memory.now.slots n
        (λ (segment : Segment Pool). c.number_of_buckets.result ≡ segment.allocator.buckets.count))
        c.current_segment-current.ensures.current c.number_of_buckets.ensures.number;
  };
}
