-- How the words of a chain of free buckets are seen: as a mark for each bucket.
use Rattle.std.specs.Prelude.{ℕ, zero, suc, ◌-◌, ◌≤◌, ◌≡◌, Bool, true, false, List, [], ◌∷◌, ◌++◌, length, get_or, set, replicate, Option, Some, None, Vec, vec_capacity, is_some}
use Rattle.std.specs.declared.alloc.Global.{Global}
use Rattle.cal_alloc.specs.FreeBuckets.{BucketMarks}
use Rattle.cal_alloc.specs.declared.free_buckets.FreeBuckets.TheInside.{Inside}

-- so many buckets of a chain from the first one on, where each bucket's word names the next
abbrev pub chain : ℕ → ℕ → List ℕ → List ℕ
chain zero first next = []
chain (suc rest) first next = first ∷ chain rest (get_or next first 0) next

-- marks of so many buckets, of which the first ones are used
abbrev pub first_used : ℕ → ℕ → List Bool
first_used used count = replicate used true ++ replicate (count - used) false

-- the marks, but those of these buckets free
abbrev pub freed : List Bool → List ℕ → List Bool
freed marks [] = marks
freed marks (bucket ∷ buckets) = set (freed marks buckets) bucket false

-- each of these buckets is used in the marks, and stands here once
abbrev pub AreFreedOnce : List Bool → List ℕ → Type 0
AreFreedOnce marks [] = Unit {0}
AreFreedOnce marks (bucket ∷ buckets) = (get_or (freed marks buckets) bucket false ≡ true) × AreFreedOnce marks buckets

-- the buckets of the chain: as many as have a word and aren't used
abbrev pub free_chain : Inside → List ℕ → List ℕ
free_chain a next = chain (length next - a.number_of_used) a.first_free next

-- a bucket that has a word is used, unless it is in the chain; one that has none is free
abbrev pub marks_by : Inside → Option (Vec ℕ Global) → List Bool
marks_by a None = replicate a.number_of_buckets false
marks_by a (Some next) = freed (first_used (length next.items) a.number_of_buckets) (free_chain a next.items)

abbrev pub marks_of : Inside → BucketMarks
marks_of a = record { used = marks_by a a.next; is_ready = is_some a.next }

-- where the room is reserved: no more buckets are used than have a word, there is room for a word for each, and the
-- chain
-- has each free bucket that has a word once
pub record IsChain (a : Inside) (next : Vec ℕ Global) : Type 0 where
  pub used : a.number_of_used ≤ length next.items
  pub within : length next.items ≤ a.number_of_buckets
  pub room : a.number_of_buckets ≤ vec_capacity next
  pub once : AreFreedOnce (first_used (length next.items) a.number_of_buckets) (free_chain a next.items)

abbrev pub IsChainedBy : Inside → Option (Vec ℕ Global) → Type 0
IsChainedBy a None = a.number_of_used ≡ 0
IsChainedBy a (Some next) = IsChain a next

abbrev pub IsChained : Inside → Type 0
IsChained a = IsChainedBy a a.next
