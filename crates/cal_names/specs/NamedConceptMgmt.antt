-- What the management of a kind of concept is said with.
use Rattle.std.specs.Prelude.{◌≡◌, ℕ, Bool, true, false, List, Option, Some, None}
use Rattle.std.specs.Str.{bytes_eq}
use Rattle.std.proofs.Common.{refl, ap, ◌∙◌}
use Rattle.std.proofs.lemmas.Slice.Eq.{bytes_eq-Decides}

-- whether there is a name, and it is this one
abbrev pub is_name : List ℕ → Option (List ℕ) → Bool
is_name name None = false
is_name name (Some other) = bytes_eq other name

-- for the law that a shown path goes with its concept
pub is_name-same : (name : List ℕ) (shown : Option (List ℕ)) → shown ≡ Some name → is_name name shown ≡ true
is_name-same name shown same = ap (is_name name) same ∙ (bytes_eq-Decides name name).1 refl
