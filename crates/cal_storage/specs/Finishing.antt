-- What a slot ends as whose entry was being made.
use Rattle.std.specs.Prelude.{◌≡◌, ℕ, Bool, IsSomeAnd, if◌then◌else◌}
use Rattle.cal_storage.specs.declared.entry.Slot.{Slot}
use Rattle.cal_storage.specs.Contents.{entry_in, slot_with_value, slot_with_version}
use Rattle.cal_storage.specs.Refusals.{finished_version}
use Rattle.cal_storage.specs.Initializer.{Calls, Initializes}

module _ {F T : Type 0} (calls : Calls F T) where
  -- the initializer was called on the value that was there; the slot has the value that it left, and where it answered
  -- true
  -- the finished version
  pub record Finishes (initializer : F) (room : ℕ) (old : Slot T) (answer : Bool) (new : Slot T) : Type 0 where
    pub left : T
    pub initialized : IsSomeAnd (entry_in old) (λ entry. Initializes calls initializer entry.value room left answer)
    pub slot : new ≡ (if answer then slot_with_version finished_version (slot_with_value left old)
        else slot_with_value left old)
