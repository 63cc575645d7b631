-- What the sender of a submission ring keeps of the values that it sent.
use Rattle.std.specs.Prelude.{◌≡◌, ℕ, ◌+◌, ◌%◌, ◌<◌, ◌≤◌, List, length, slice_index}

-- the copy has the last values sent, one more than the buffer, each at the index of its position's slot
abbrev pub KeepsLast : ℕ → List ℕ → List ℕ → Type 0
KeepsLast buffer sent copy = (length copy ≡ buffer + 1)
    × ((position : ℕ) → position < length sent → length sent ≤ position + buffer + 1
    → slice_index copy (position % (buffer + 1)) ≡ slice_index sent position)
