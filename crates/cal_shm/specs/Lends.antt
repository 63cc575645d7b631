-- What a segment, and a registry that has it, end as whose bytes were lent.
use Rattle.std.specs.Prelude.{ℕ, List}
use Rattle.std.specs.Borrow.{Lends, MutBor, Fml, RattleType, Array, u8}
use Rattle.std.specs.declared.default.Default as default
use Rattle.std.specs.declared.fmt.Debug as debug
use Rattle.cal_alloc.specs.declared.shm_allocator.ShmAllocator as allocator
use Rattle.cal_shm.specs.contracts.allocator_details.AllocatorDetails as details
use Rattle.cal_storage.specs.contracts.registry.Registry as registry
use Rattle.cal_shm.specs.Calls.{with_written}
use Rattle.cal_shm.specs.Segment.{with_bytes}

-- an allocator and its configuration, with what their traits say of them
module _ (A C : RattleType) (calls : allocator.Ghosts A.Denot C.Denot) (shown : debug.Ghosts A.Denot)
    (initial : default.Ghosts C.Denot) (shown_configuration : debug.Ghosts C.Denot) where
  abbrev segment_row : RattleType
  segment_row = details.the_row A C calls shown initial shown_configuration

  -- the bytes from an offset on are the last that were written there
  abbrev pub LendsBytes : MutBor segment_row.Denot → ℕ → MutBor (List ℕ) → Fml
  LendsBytes segment offset bytes =
      Lends segment_row (Array u8 0) segment bytes (λ last. with_bytes segment.now offset last)

module _ (T : RattleType) (with_bytes : T.Denot → ℕ → List ℕ → T.Denot) where
  -- of a registry: those of the value of an id
  abbrev pub LendsBytesOf : MutBor (registry.the_row T).Denot → ℕ → ℕ → MutBor (List ℕ) → Fml
  LendsBytesOf contents id offset bytes =
      Lends (registry.the_row T) (Array u8 0) contents bytes
      (λ last. with_written with_bytes contents.now id offset last)
