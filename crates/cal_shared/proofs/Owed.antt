-- The calls that a walk over several values still owes a callback.
use Rattle.std.proofs.Common.{◌≡◌, List, [], ◌∷◌, ◌++◌, ap, sym, subst, refl, ◌∙◌, append_assoc}
use Rattle.std.specs.Fn.{Mut, Called}
use Rattle.cal_queue.specs.Callback.{LeadsTo, MayRunOver}

module _ {F A : Type 0} (calls : Mut F (A × Unit {0}) (Unit {0})) where
  -- a callback that began as `first` may be called on each of the values that are left, and these calls complete those
  -- on all values
  pub record IsOwed (first : F) (all : List A) (now : F) (rest : List A) : Type 0 where
    pub callable : MayRunOver calls now rest
    pub completes : (last : F) → LeadsTo calls now rest last → LeadsTo calls first all last

module _ {F A : Type 0} (calls : Mut F (A × Unit {0}) (Unit {0})) where
  -- calls on some values, and then on others
  LeadsTo-append : (first middle last : F) (xs ys : List A) → LeadsTo calls first xs middle →
      LeadsTo calls middle ys last → LeadsTo calls first (xs ++ ys) last
  LeadsTo-append first middle last [] ys front back = subst (λ f. LeadsTo calls f ys last) (sym front) back
  LeadsTo-append first middle last (x ∷ xs) ys front back =
      (front.0, front.1, LeadsTo-append front.0 middle last xs ys front.2 back)

  -- the values in front may be called on, and after them those behind
  pub MayRunOver-front : (now : F) (xs rest : List A) → MayRunOver calls now (xs ++ rest) → MayRunOver calls now xs
  MayRunOver-front now xs rest may = record {
    at = λ before after x later split ran. may.at before (after ++ rest) x later
        (ap (λ (ys : List A). ys ++ rest) split ∙ append_assoc before (x ∷ after) rest) ran;
  }

  MayRunOver-behind : (now next : F) (xs rest : List A) → MayRunOver calls now (xs ++ rest) →
      LeadsTo calls now xs next → MayRunOver calls next rest
  MayRunOver-behind now next xs rest may led = record {
    at = λ before after x later split ran. may.at (xs ++ before) after x later
        (ap (λ (ys : List A). xs ++ ys) split ∙ sym (append_assoc xs before (x ∷ after)))
        (LeadsTo-append now next later xs before led ran);
  }

  pub pre-from_MayRunOver : (now : F) (x : A) (rest : List A) → MayRunOver calls now (x ∷ rest) →
      calls.pre now (x, tt)
  pre-from_MayRunOver now x rest may = may.at [] rest x now refl refl

  module _ (first : F) (all : List A) where
    pub IsOwed-at_start : MayRunOver calls first all → IsOwed calls first all first all
    IsOwed-at_start may = record { callable = may; completes = λ last ran. ran }

    -- after calls on the values in front those behind are owed
    pub IsOwed-ran : (now next : F) (xs rest : List A) → IsOwed calls first all now (xs ++ rest) →
        LeadsTo calls now xs next → IsOwed calls first all next rest
    IsOwed-ran now next xs rest owed led = record {
      callable = MayRunOver-behind now next xs rest owed.callable led;
      completes = λ last ran. owed.completes last (LeadsTo-append now next last xs rest led ran);
    }

    pub IsOwed-called : (now next : F) (x : A) (rest : List A) → IsOwed calls first all now (x ∷ rest) →
        Called calls now (x, tt) tt next → IsOwed calls first all next rest
    IsOwed-called now next x rest owed called = IsOwed-ran now next (x ∷ []) rest owed (next, called, refl)

    pub LeadsTo-at_end : (now : F) (rest : List A) → rest ≡ [] → IsOwed calls first all now rest →
        LeadsTo calls first all now
    LeadsTo-at_end now rest none owed =
        owed.completes now (subst (λ (xs : List A). LeadsTo calls now xs now) (sym none) refl)
