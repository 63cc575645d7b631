-- Which of a pool's buckets are used.
use Rattle.std.specs.Prelude.{ℕ, List, Bool, false, replicate}

-- a mark for each bucket, true where it is used, and whether buckets can be taken yet
pub record BucketMarks : Type 0 where
  pub used : List Bool
  pub is_ready : Bool

-- so many buckets, all free, of which none can be taken yet
abbrev pub all_free : ℕ → BucketMarks
all_free count = record { used = replicate count false; is_ready = false }
