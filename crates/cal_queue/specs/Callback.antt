-- What a contract says of a callback that a call runs once for each of several values.
use Rattle.std.specs.Prelude.{◌≡◌, List, [], ◌∷◌, ◌++◌}
use Rattle.std.specs.Fn.{Mut, Called}
use denote.Param.Always.{always_mut, mut_next}
use Rattle.std.proofs.Common.{refl, subst}
use Rattle.std.specs.List.{FoldsTo}

module _ {F A : Type 0} (calls : Mut F (A × Unit {0}) (Unit {0})) where
  -- calls on these values, one each and in this order, lead the callback from one state to another
  abbrev pub LeadsTo : F → List A → F → Type 0
  LeadsTo first xs last = FoldsTo (λ now x next. Called calls now (x, tt) tt next) first xs last

  -- the callback may be called on each of these values, in every state that the calls on the values
  -- before it lead to
  pub record MayRunOver (first : F) (xs : List A) : Type 0 where
    pub at : (before after : List A) (x : A) (now : F) → xs ≡ before ++ x ∷ after → LeadsTo first before now →
        calls.pre now (x, tt)

  -- calls on these values, one each and in this order, were made
  abbrev pub RunsOver : F → List A → Type 0
  RunsOver first xs = (last : F) × LeadsTo first xs last

module _ {F A : Type 0} (calls : Mut F (A × Unit {0}) (Unit {0})) where
  -- a callback that may always be called stays so, whatever calls are made
  always_mut-after : (first last : F) (xs : List A) → always_mut calls first → LeadsTo calls first xs last →
      always_mut calls last
  always_mut-after first last [] always ends = subst (always_mut calls) ends always
  always_mut-after first last (x ∷ xs) always ran =
      always_mut-after ran.0 last xs (mut_next calls first (x, tt) tt ran.0 ran.0 ran.1 refl always) ran.2

  -- so it may be called on any values
  pub MayRunOver-from_always : (first : F) (xs : List A) → always_mut calls first → MayRunOver calls first xs
  MayRunOver-from_always first xs always = record {
    at = λ before after x now split ran. ((always_mut-after first now before always ran).at ((x, tt) ∷ [])).0;
  }
