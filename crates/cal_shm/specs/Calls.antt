-- What the calls of a segment do to the registry that has it.
use Rattle.std.specs.Prelude.{◌≡◌, ℕ, ◌+◌, ◌≤◌, Option, Some, None, IsSomeAnd, List, length}
use Rattle.cal_storage.specs.Contents.{Contents, value_of, with_value}
use Rattle.cal_alloc.specs.Chunks.{Properties, chunk_size}
use Rattle.cal_alloc.specs.PointerOffset.{offset_of}
use Rattle.cal_alloc.specs.SizeAndAlignment.{SizeAndAlignment}
use Rattle.cal_shm.specs.Segment.{Segment, with_allocator}

-- that many bytes from an offset on lie within a payload
abbrev pub IsInPayload : List ℕ → ℕ → ℕ → Type 0
IsInPayload payload offset count = offset + count ≤ length payload

-- a fact of the value of an id, which is there
abbrev pub OfValue : {T : Type 0} → Contents T → ℕ → (T → Type 0) → Type 0
OfValue contents id fact = IsSomeAnd (value_of contents id) fact

-- what is stored with other bytes in its payload from an offset on
module _ {T : Type 0} (with_bytes : T → ℕ → List ℕ → T) where
  abbrev pub with_written_in : Contents T → ℕ → ℕ → List ℕ → Option T → Contents T
  with_written_in contents id offset written None = contents
  with_written_in contents id offset written (Some segment) = with_value contents id (with_bytes segment offset written)

  -- a registry with other bytes in the payload of the value of an id, from an offset on
  abbrev pub with_written : Contents T → ℕ → ℕ → List ℕ → Contents T
  with_written contents id offset written = with_written_in contents id offset written (value_of contents id)

module _ {A : Type 0} where
  -- The allocator of a segment has changed in this way, and nothing else in the registry has.
  pub record ChangesAllocator (old : Contents (Segment A)) (id : ℕ) (Change : A → A → Type 0)
      (new : Contents (Segment A)) : Type 0 where
    pub segment : Segment A
    pub allocator : A
    pub was : value_of old id ≡ Some segment
    pub change : Change segment.allocator allocator
    pub after : new ≡ with_value old id (with_allocator segment allocator)

  -- the chunk of a layout at a pointer lies within the payload
  abbrev pub IsChunkWithin : (A → Properties) → Segment A → SizeAndAlignment → ℕ → Type 0
  IsChunkWithin properties segment layout pointer =
      IsInPayload segment.payload (offset_of pointer) (chunk_size (properties segment.allocator) layout)
