-- The limits of memory, each a number of this project's own.
use Rattle.std.specs.Prelude.{ℕ, ◌^◌}

-- the most bytes that one piece of memory has: an offset takes 56 of a pointer's 64 bits
abbrev pub max_memory_size : ℕ
max_memory_size = 2 ^ 56

-- a pool has fewer buckets than this
abbrev pub bucket_limit : ℕ
bucket_limit = 2 ^ 32

-- the greatest alignment in bytes that memory gives
abbrev pub max_memory_alignment : ℕ
max_memory_alignment = 4096
