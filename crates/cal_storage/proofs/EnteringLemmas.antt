-- A path that was entered was free.
use Rattle.std.proofs.Common.{◌≡◌, ◌↔◌, ℕ, Option, Some, None, IsSome, Result, Ok, refl}
use Rattle.std.specs.Result.{IsErrOf}
use Rattle.cal_storage.specs.declared.dynamic_storage.errors.DynamicStorageCreateError.{DynamicStorageCreateError}
use Rattle.cal_storage.specs.declared.dynamic_storage.errors.DynamicStorageCreateError.TheVariants.{AlreadyExists}

pub free_of_entered : (found : Option ℕ) (result : Result ℕ DynamicStorageCreateError) (id : ℕ) →
    IsErrOf result AlreadyExists ↔ IsSome found → result ≡ Ok id → found ≡ None
free_of_entered None result id exists is = refl
free_of_entered (Some other) result id exists is = absurd (cc (exists.1 refl))
