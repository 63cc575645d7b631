-- What crates above need of a registry in which bytes of a segment were written.
use Rattle.std.proofs.Common.{◌≡◌, ℕ, List, Option, Some, None, ap, ◌∙◌}
use Rattle.cal_storage.specs.Contents.{Contents, Has, value_of, with_value}
use Rattle.cal_storage.specs.Holding.{KeepsHandles}
use Rattle.cal_storage.specs.HoldingLemmas.{KeepsHandles-same, KeepsHandles-with_value}
use Rattle.cal_storage.specs.ValueLemmas.{Has-with_value, value_of-with_value-same}
use Rattle.cal_storage.specs.declared.Handle.{Handle}
use Rattle.cal_shm.specs.Calls.{with_written, with_written_in}
use Rattle.cal_shm.specs.Segment.{Segment, with_bytes}

module _ {A : Type 0} (contents : Contents (Segment A)) (id offset : ℕ) (written : List ℕ) where
  -- it has the entry of each handle that it had
  pub Has-with_written : (handle : Handle) → Has contents handle →
      Has (with_written with_bytes contents id offset written) handle
  Has-with_written handle has = from (value_of contents id)
    where
      from : (found : Option (Segment A)) → Has (with_written_in with_bytes contents id offset written found) handle
      from None = has
      from (Some segment) = Has-with_value contents id (with_bytes segment offset written) handle has

  -- and every open handle keeps its entry
  pub KeepsHandles-with_written : KeepsHandles contents (with_written with_bytes contents id offset written)
  KeepsHandles-with_written = from (value_of contents id)
    where
      from : (found : Option (Segment A)) →
          KeepsHandles contents (with_written_in with_bytes contents id offset written found)
      from None = KeepsHandles-same contents
      from (Some segment) = KeepsHandles-with_value contents id (with_bytes segment offset written)

  -- the segment has these bytes
  pub value_of-with_written : (segment : Segment A) → value_of contents id ≡ Some segment → (handle : Handle) →
      handle.id ≡ id → Has contents handle →
      value_of (with_written with_bytes contents id offset written) id ≡ Some (with_bytes segment offset written)
  value_of-with_written segment is handle same has =
      ap (λ found. value_of (with_written_in with_bytes contents id offset written found) id) is
      ∙ value_of-with_value-same contents id (with_bytes segment offset written) handle same has
