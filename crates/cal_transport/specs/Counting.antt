-- What a memory and its view tell of their segments.
use Rattle.std.specs.Prelude.{◌≡◌}
use Rattle.cal_alloc.specs.Pool.{Pool}
use Rattle.cal_storage.specs.Contents.{Contents}
use Rattle.cal_shm.specs.Segment.{Segment}
use Rattle.cal_resizable.specs.Growth.{OfSegment}
use Rattle.cal_resizable.specs.Memory.{MemoryState}
use Rattle.cal_resizable.specs.Slots.{number_held}
use Rattle.cal_resizable.specs.View.{View}
use Rattle.cal_transport.specs.declared.reply.Count.{Count}

-- the numbers of segments that they hold, and the current segment with its buckets
pub record IsCounted (contents : Contents (Segment Pool)) (memory : MemoryState) (view : View) (count : Count) :
    Type 0 where
  pub active : count.active ≡ number_held memory.slots
  pub mapped : count.mapped ≡ number_held view.slots
  pub current : count.current ≡ memory.current
  pub size : OfSegment contents memory.slots memory.current (λ segment. count.size ≡ segment.allocator.buckets.size)
  pub buckets : OfSegment contents memory.slots memory.current
      (λ segment. count.buckets ≡ segment.allocator.buckets.count)
