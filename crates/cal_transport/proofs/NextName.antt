-- Names stay below the next one where a chunk is added.
use Rattle.std.proofs.Common.{ℕ, ◌+◌, ◌<◌, ◌≡◌, List, [], ◌∷◌, ◌++◌, Some, inl, inr, ap, arith}
use Rattle.std.specs.List.{slice_get}
use Rattle.cal_transport.specs.declared.transport.chunk_entry.ChunkEntry.{ChunkEntry}
use Rattle.cal_transport.specs.ChunkEntry.{AreBelow}
use Rattle.cal_transport.proofs.Lists.{old_or_new}

pub below_next : (entries : List ChunkEntry) (entry : ChunkEntry) (n : ℕ) → AreBelow entries n → entry.name ≡ n →
    AreBelow (entries ++ entry ∷ []) (n + 1)
below_next entries entry n below is i x there = elim (old_or_new entries entry i x there) [
  | inl old ↦ (let b = below i x old in omega arith)
  | inr new ↦ (let same = ap (λ (y : ChunkEntry). y.name) new.1 in omega arith)
]
