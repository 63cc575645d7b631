-- The name under which the segments of one kind of allocator are stored.
use Rattle.std.specs.Prelude.{ℕ, List, ◌++◌, codes}
use Rattle.std.specs.Fmt.{decimal}

-- the allocator's number in decimal stands at the end
abbrev pub segment_type_name : ℕ → List ℕ
segment_type_name unique_id = codes "AllocatorDetails_" ++ decimal unique_id
