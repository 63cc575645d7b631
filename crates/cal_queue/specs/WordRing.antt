-- How a ring of words is seen: as the queue of the values that wait in it.
use Rattle.std.specs.Prelude.{ℕ, ◌<◌, ◌≤◌, List, ◌++◌, length, take, drop}
use Rattle.cal_queue.specs.Queue.{Queue}
use Rattle.cal_queue.specs.declared.bounded_queue.BoundedQueue.TheInside.{Inside}

-- so many words from this index on, and after the last word the first
abbrev pub words_from : ℕ → ℕ → List ℕ → List ℕ
words_from index count words = take count (drop index words ++ take index words)

abbrev pub queue_of : Inside → Queue
queue_of a = record { values = words_from a.read a.waiting a.words.items; capacity = length a.words.items }

-- the read index is that of a word, and no more values wait than there are words
pub record IsRing (a : Inside) : Type 0 where
  pub read : a.read < length a.words.items
  pub waiting : a.waiting ≤ length a.words.items
