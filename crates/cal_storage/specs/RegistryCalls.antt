-- What a creation, and the finish of an entry that was being made, make of a registry.
use Rattle.std.specs.Prelude.{◌≡◌, ℕ, ◌⊎◌, Bool, true, false, Option, Some, None, IsSomeAnd, List, if◌then◌else◌}
use Rattle.cal_storage.specs.Contents.{Contents, Handle, id_at, value_of, after_creation, after_finish, after_withdrawal}
use Rattle.cal_storage.specs.Refusals.{finished_version}
use Rattle.cal_storage.specs.Initializer.{Calls, Initializes}
use Rattle.cal_storage.specs.declared.dynamic_storage.errors.DynamicStorageCreateError as create
use Rattle.cal_storage.specs.declared.dynamic_storage.errors.DynamicStorageOpenError as opening
use Rattle.cal_storage.specs.declared.dynamic_storage.errors.DynamicStorageOpenOrCreateError.{DynamicStorageOpenOrCreateError}
use Rattle.cal_storage.specs.declared.dynamic_storage.errors.DynamicStorageOpenOrCreateError.TheVariants.{DynamicStorageOpenError, DynamicStorageCreateError}
use Rattle.cal_storage.specs.declared.dynamic_storage.errors.DynamicStorageCreateError.TheVariants.{InitializationFailed, NoMemory}

module _ {F T : Type 0} (calls : Calls F T) where
  -- The initializer answered true, and the path, which stood for nothing, stands for a new entry with the value that it
  -- left.
  pub record Creates (initializer : F) (value : T) (room : ℕ) (old : Contents T) (path : List ℕ) (new : Contents T) :
      Type 0 where
    pub left : T
    pub initialized : Initializes calls initializer value room left true
    pub was_free : id_at old path ≡ None
    pub created : new ≡ after_creation old path left finished_version

  -- the initializer answered false
  pub record Refuses (initializer : F) (value : T) (room : ℕ) : Type 0 where
    pub left : T
    pub initialized : Initializes calls initializer value room left false

  -- why a creation failed: its path was refused, it was out of memory, or the initializer answered false
  abbrev pub CreateFails : Option create.DynamicStorageCreateError → F → T → ℕ → create.DynamicStorageCreateError →
      Type 0
  CreateFails refusal initializer value room error =
      (refusal ≡ Some error) ⊎ (error ≡ NoMemory) ⊎ ((error ≡ InitializationFailed) × Refuses initializer value room)

  -- why an opening or creation failed: the opening was refused; or nothing was found, and the creation failed
  abbrev pub OpenOrCreateFails :
      Option opening.DynamicStorageOpenError → Option ℕ → F → T → ℕ → DynamicStorageOpenOrCreateError → Type 0
  OpenOrCreateFails refusal found initializer value room (DynamicStorageOpenError error) = refusal ≡ Some error
  OpenOrCreateFails refusal found initializer value room (DynamicStorageCreateError error) =
      (found ≡ None) × CreateFails None initializer value room error

  -- The initializer was called on the value of an entry. Where it answered true the entry has the value that it left,
  -- and is
  -- finished; else the entry has ended, and its name is gone where it still stood for it.
  pub record FinishesEntry (initializer : F) (room : ℕ) (old : Contents T) (handle : Handle) (answer : Bool)
      (new : Contents T) : Type 0 where
    pub left : T
    pub initialized : IsSomeAnd (value_of old handle.id) (λ value. Initializes calls initializer value room left answer)
    pub contents : new ≡ (if answer then after_finish old handle.id left finished_version
        else after_withdrawal old handle)
