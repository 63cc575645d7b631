-- That no connection that can be found is being cleaned up.
use Rattle.std.specs.Prelude.{◌≡◌, ℕ, false, List, Some}
use Rattle.cal_storage.specs.Contents.{Contents, value_at}
use Rattle.cal_connection.specs.Port.{PortEntry}
use Rattle.cal_connection.specs.Words.{IsPortWord, has_bit, mark}

-- the last port hasn't left
pub record IsUnmarked (port : PortEntry) : Type 0 where
  pub word : IsPortWord port.word
  pub unmarked : has_bit port.word mark ≡ false

-- No entry for which a path stands is marked.
pub record NamesAreUnmarked (contents : Contents PortEntry) : Type 0 where
  pub unmarked : (path : List ℕ) (port : PortEntry) → value_at contents path ≡ Some port → IsUnmarked port
