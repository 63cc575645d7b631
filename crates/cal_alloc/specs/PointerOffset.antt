-- An offset and the segment that it is in, as one number: the offset times 256, plus the segment.
use Rattle.std.specs.Prelude.{ℕ, ◌+◌, ◌*◌, ◌/◌, ◌%◌}

-- the number of an offset in a segment
abbrev pub pointer_offset : ℕ → ℕ → ℕ
pointer_offset offset segment = offset * 256 + segment

-- the offset in bytes, of such a number
abbrev pub offset_of : ℕ → ℕ
offset_of value = value / 256

-- the segment, of such a number
abbrev pub segment_of : ℕ → ℕ
segment_of value = value % 256
