-- Runs of an allocator: allocations and deallocations in turn, and the chunks that are out after them.
use Rattle.std.specs.Prelude.{ℕ, zero, suc, ◌+◌, ◌≤◌, ◌≡◌, List, [], ◌∷◌, Some, slice_get}
use Rattle.cal_alloc.specs.Chunks.{IsInChunk}
use Rattle.cal_alloc.specs.PointerOffset.{offset_of}
use Rattle.cal_alloc.specs.SizeAndAlignment.{SizeAndAlignment}

-- a chunk that is out: the layout that it was given out for, and its pointer
pub record OutChunk : Type 0 where
  pub layout : SizeAndAlignment
  pub pointer : ℕ

-- a step of a run: a chunk of this layout is given out at this pointer, or the chunk at this index of those that are
-- out, the last one given out first, is given back
pub data Step : Type 0 where
  gives : SizeAndAlignment → ℕ → Step
  takes_back : ℕ → Step

-- the chunks but the one at this index
abbrev pub without_chunk : ℕ → List OutChunk → List OutChunk
without_chunk index [] = []
without_chunk zero (chunk ∷ chunks) = chunks
without_chunk (suc index) (chunk ∷ chunks) = chunk ∷ without_chunk index chunks

module _ {S : Type 0} (Allocates : S → SizeAndAlignment → ℕ → S → Type 0) (Deallocates : S → ℕ → S → Type 0) where
  -- the steps lead from an allocator, of which these chunks are out, to another, of which those are
  abbrev pub IsRun : S → List OutChunk → List Step → S → List OutChunk → Type 0
  IsRun first out [] last left = (first ≡ last) × (out ≡ left)
  IsRun first out (gives layout pointer ∷ steps) last left =
      (next : S) × (Allocates first layout pointer next ×
      IsRun next (record { layout = layout; pointer = pointer } ∷ out) steps last left)
  IsRun first out (takes_back index ∷ steps) last left =
      (next : S) × ((chunk : OutChunk) × ((slice_get out index ≡ Some chunk)
      × (Deallocates first chunk.pointer next × IsRun next (without_chunk index out) steps last left)))

module _ (size_of : SizeAndAlignment → ℕ) where
  -- a byte of a chunk
  abbrev pub IsByteOf : OutChunk → ℕ → Type 0
  IsByteOf chunk byte = IsInChunk chunk.pointer (size_of chunk.layout) byte

  -- no byte of a chunk is one of another of these
  abbrev pub IsApartFrom : OutChunk → List OutChunk → Type 0
  IsApartFrom chunk [] = Unit {0}
  IsApartFrom chunk (other ∷ others) = ((byte : ℕ) → IsByteOf chunk byte → ¬ IsByteOf other byte) ×
      IsApartFrom chunk others

  -- no two of these chunks have a byte in common: each is apart from all that come after it
  abbrev pub AreApart : List OutChunk → Type 0
  AreApart [] = Unit {0}
  AreApart (chunk ∷ chunks) = IsApartFrom chunk chunks × AreApart chunks

  -- each of these chunks ends within so many bytes
  abbrev pub AreWithin : ℕ → List OutChunk → Type 0
  AreWithin total [] = Unit {0}
  AreWithin total (chunk ∷ chunks) = (offset_of chunk.pointer + size_of chunk.layout ≤ total) × AreWithin total chunks
