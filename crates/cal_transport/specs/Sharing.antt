-- What the calls on memory and view do to a transport's view, and to the segments of its memory.
use Rattle.std.specs.Prelude.{◌≡◌, ◌≢◌, ℕ, Bool, ◌==◌, if◌then◌else◌}
use Rattle.cal_alloc.specs.Pool.{Pool}
use Rattle.cal_storage.specs.Contents.{Contents}
use Rattle.cal_shm.specs.Segment.{Segment}
use Rattle.cal_resizable.specs.Chunks.{segment_value}
use Rattle.cal_resizable.specs.Memory.{MemoryState}
use Rattle.cal_resizable.specs.Together.{AreTogether}
use Rattle.cal_resizable.specs.View.{View}
use Rattle.cal_transport.specs.Core.{given_back}
use Rattle.cal_transport.specs.State.{active_at, mapped_at}
use Rattle.cal_transport.specs.Viewing.{opened_after_arrival, mapped_after_arrival, mapped_after_return}

-- an offset of a segment has arrived at the view; the segments of the memory are as they were
pub record Arrives (memory : MemoryState) (old : Contents (Segment Pool)) (before : View) (number : ℕ)
    (new : Contents (Segment Pool)) (after : View) : Type 0 where
  pub together : AreTogether new memory after
  pub segments : (other : ℕ) → segment_value new memory.slots other ≡ segment_value old memory.slots other
  pub opened : after.current ≡ opened_after_arrival before.current (mapped_at before.slots) number
  pub mapped : (other : ℕ) →
      mapped_at after.slots other ≡ mapped_after_arrival before.current (mapped_at before.slots) number other

-- an offset of a segment was given back to the view; the segments of the memory are as they were
pub record GoesBack (memory : MemoryState) (old : Contents (Segment Pool)) (before : View) (number : ℕ)
    (new : Contents (Segment Pool)) (after : View) : Type 0 where
  pub together : AreTogether new memory after
  pub segments : (other : ℕ) → segment_value new memory.slots other ≡ segment_value old memory.slots other
  pub opened : after.current ≡ before.current
  pub mapped : (other : ℕ) →
      mapped_at after.slots other ≡ mapped_after_return before.current (mapped_at before.slots) number other

-- a bucket of a segment was given back to the memory, unless it is kept
pub record FreesUnless (kept : Bool) (view : View) (old : Contents (Segment Pool)) (before : MemoryState)
    (number bucket : ℕ) (new : Contents (Segment Pool)) (after : MemoryState) : Type 0 where
  pub together : AreTogether new after view
  pub current : after.current ≡ before.current
  pub strategy : after.strategy ≡ before.strategy
  pub others : (other : ℕ) → other ≢ number → active_at new after.slots other ≡ active_at old before.slots other
  pub here : active_at new after.slots number
      ≡ (if kept then active_at old before.slots number
      else given_back (number == before.current) bucket (active_at old before.slots number))
