-- The arithmetic of rows of equal buckets: padding, and the row that comes next where one doesn't serve. Sizes in
-- bytes.
use Rattle.std.specs.Prelude.{ℕ, zero, suc, ◌+◌, ◌*◌, max, Bool, true, false, ◌&&◌, nat_le, if◌then◌else◌}
use Rattle.std.specs.Int.{next_multiple_of}
use Rattle.cal_alloc.specs.declared.allocation_strategy.AllocationStrategy.{AllocationStrategy}
use Rattle.cal_alloc.specs.declared.allocation_strategy.AllocationStrategy.TheVariants.{BestFit, PowerOfTwo, Static}

-- a row of equal buckets
pub record SegmentLayout : Type 0 where
  pub size : ℕ
  pub alignment : ℕ
  pub count : ℕ

-- a size rounded up to an alignment
abbrev pub padded_size : ℕ → ℕ → ℕ
padded_size size alignment = next_multiple_of size alignment

-- the bucket that a pool cuts for chunks of this layout: an empty chunk counts as one byte
abbrev pub bucket_size_of : ℕ → ℕ → ℕ
bucket_size_of size alignment = padded_size (max 1 size) alignment

-- p, doubled at most as often as the first number says until it is n or more
abbrev pub doubled_to : ℕ → ℕ → ℕ → ℕ
doubled_to zero n p = p
doubled_to (suc times) n p = elim (nat_le n p) [ true ↦ p | false ↦ doubled_to times n (2 * p) ]

-- the least power of two that is n or more
abbrev pub least_power_of_two : ℕ → ℕ
least_power_of_two n = doubled_to n n 1

-- neither the size nor the alignment asked for exceeds a bucket's
abbrev pub fits_bucket : SegmentLayout → ℕ → ℕ → Bool
fits_bucket buckets size alignment = nat_le size buckets.size && nat_le alignment buckets.alignment

-- a strategy raises a number of buckets
abbrev pub raised_count : AllocationStrategy → ℕ → ℕ
raised_count BestFit count = count + 1
raised_count PowerOfTwo count = least_power_of_two (count + 1)
raised_count Static count = count

-- a strategy raises a bucket size, which stays a multiple of the alignment
abbrev pub raised_size : AllocationStrategy → ℕ → ℕ → ℕ
raised_size BestFit size alignment = padded_size size alignment
raised_size PowerOfTwo size alignment = padded_size (least_power_of_two size) alignment
raised_size Static size alignment = size

-- the row after this one: more buckets where each was used, larger ones where the chunk didn't fit
abbrev pub raised_buckets : AllocationStrategy → SegmentLayout → Bool → ℕ → ℕ → SegmentLayout
raised_buckets strategy old all_used size alignment = record {
  size = if fits_bucket old size alignment then old.size else raised_size strategy (max old.size size)
      (max old.alignment alignment);
  alignment = max old.alignment alignment;
  count = if all_used then raised_count strategy old.count else old.count;
}

-- the row that a strategy takes next; a static one keeps its row
abbrev pub grown_buckets : AllocationStrategy → SegmentLayout → Bool → ℕ → ℕ → SegmentLayout
grown_buckets Static old all_used size alignment = old
grown_buckets BestFit old all_used size alignment = raised_buckets BestFit old all_used size alignment
grown_buckets PowerOfTwo old all_used size alignment = raised_buckets PowerOfTwo old all_used size alignment
