-- What is shown of a list of frames.
use Rattle.std.specs.Prelude.{◌≡◌, ◌⊎◌, List, [], ◌∷◌, Option, Some, None}

-- these are some of those, in the same order, and each of those is there once at most
abbrev pub ArePartInOrder : {A : Type 0} → List A → List A → Type 0
ArePartInOrder [] those = Unit {0}
ArePartInOrder (x ∷ these) [] = ⊥
ArePartInOrder (x ∷ these) (y ∷ those) = ((x ≡ y) × ArePartInOrder these those) ⊎ ArePartInOrder (x ∷ these) those

-- the last of a list, if it has any
abbrev pub last_of : {A : Type 0} → List A → Option A
last_of [] = None
last_of (x ∷ []) = Some x
last_of (x ∷ y ∷ ys) = last_of (y ∷ ys)
