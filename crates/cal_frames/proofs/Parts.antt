-- Parts of lists in order, and the last of a list.
use Rattle.std.proofs.Common.{ℕ, zero, suc, ◌≤◌, ◌≡◌, inl, inr, List, [], ◌∷◌, ◌++◌, take, Some, refl, ap, arith}
use Rattle.std.specs.List.{slice_get}
use Rattle.std.proofs.lemmas.Option.{same_Some, none-some}
use Rattle.cal_frames.specs.InOrder.{ArePartInOrder, last_of}

-- a part of a list is one of a longer list, too
pub part_of_more : {A : Type 0} (these those more : List A) → ArePartInOrder these those →
    ArePartInOrder these (those ++ more)
part_of_more [] those more p = tt
part_of_more (x ∷ these) [] more p = absurd p
part_of_more (x ∷ these) (y ∷ those) more p = elim p [
  | inl here ↦ inl (here.0, part_of_more these those more here.1)
  | inr later ↦ inr (part_of_more (x ∷ these) those more later)
]

-- one more on both sides
pub part_and_next : {A : Type 0} (these those : List A) (x : A) → ArePartInOrder these those →
    ArePartInOrder (these ++ x ∷ []) (those ++ x ∷ [])
part_and_next [] [] x p = inl (refl, tt)
part_and_next [] (y ∷ those) x p = inr (part_and_next [] those x tt)
part_and_next (z ∷ these) [] x p = absurd p
part_and_next (z ∷ these) (y ∷ those) x p = elim p [
  | inl here ↦ inl (here.0, part_and_next these those x here.1)
  | inr later ↦ inr (part_and_next (z ∷ these) those x later)
]

-- the last of a list to which something was added
pub last_of_more : {A : Type 0} (xs : List A) (x : A) → last_of (xs ++ x ∷ []) ≡ Some x
last_of_more [] x = refl
last_of_more (y ∷ []) x = refl
last_of_more (y ∷ z ∷ xs) x = last_of_more (z ∷ xs) x

-- the front of a list to an element, and that element
pub take_to : {A : Type 0} (xs : List A) (i : ℕ) (x : A) → slice_get xs i ≡ Some x →
    take (suc i) xs ≡ take i xs ++ x ∷ []
take_to [] i x e = absurd (none-some x e)
take_to (y ∷ xs) zero x e = ap (λ z. z ∷ []) (same_Some y x e)
take_to (y ∷ xs) (suc i) x e = ap (λ zs. y ∷ zs) (take_to xs i x e)

-- a front of a list is a part of what is longer
pub part_of_front : {A : Type 0} (these those : List A) (few more : ℕ) → few ≤ more →
    ArePartInOrder these (take few those) → ArePartInOrder these (take more those)
part_of_front [] those few more le p = tt
part_of_front (x ∷ these) [] zero more le p = absurd p
part_of_front (x ∷ these) [] (suc few) more le p = absurd p
part_of_front (x ∷ these) (y ∷ those) zero more le p = absurd p
part_of_front (x ∷ these) (y ∷ those) (suc few) zero le p = absurd (omega arith)
part_of_front (x ∷ these) (y ∷ those) (suc few) (suc more) le p = elim p [
  | inl here ↦ inl (here.0, part_of_front these those few more (omega arith) here.1)
  | inr later ↦ inr (part_of_front (x ∷ these) those few more (omega arith) later)
]
