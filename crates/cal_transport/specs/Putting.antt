-- What a write of bytes into a segment of a memory does.
use Rattle.std.specs.Prelude.{◌≡◌, ◌≢◌, ℕ, List, Some}
use Rattle.cal_alloc.specs.Pool.{Pool}
use Rattle.cal_storage.specs.Contents.{Contents}
use Rattle.cal_shm.specs.Segment.{Segment}
use Rattle.cal_resizable.specs.Chunks.{segment_value}
use Rattle.cal_resizable.specs.Memory.{MemoryState}
use Rattle.cal_resizable.specs.Together.{AreTogether}
use Rattle.cal_resizable.specs.View.{View}
use Rattle.cal_transport.specs.Step.{with_bytes}

-- bytes stand in the payload of the segment of a number from a place on; every other segment is as it was
pub record PutsBytes (memory : MemoryState) (view : View) (old : Contents (Segment Pool)) (number place : ℕ)
    (bytes : List ℕ) (new : Contents (Segment Pool)) : Type 0 where
  pub together : AreTogether new memory view
  pub others : (other : ℕ) → other ≢ number →
      segment_value new memory.slots other ≡ segment_value old memory.slots other
  pub here : (segment : Segment Pool) → segment_value old memory.slots number ≡ Some segment →
      segment_value new memory.slots number
      ≡ Some (record segment { payload = with_bytes segment.payload place bytes })
