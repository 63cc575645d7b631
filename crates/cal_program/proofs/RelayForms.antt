-- Words that are too few for a relay.
use Rattle.std.specs.Prelude.{ℕ, ◌≡◌, ◌<◌, List, [], ◌∷◌, None, length}
use Rattle.std.proofs.Common.{refl, arith}
use Rattle.cal_program.specs.Relay.{relay_form}

pub relay_form-few : (words : List (List ℕ)) → length words < 3 → None ≡ relay_form words
relay_form-few [] few = refl
relay_form-few (a ∷ []) few = refl
relay_form-few (a ∷ b ∷ []) few = refl
relay_form-few (a ∷ b ∷ c ∷ words) few = absurd (omega (arith, few))
