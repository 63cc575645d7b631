-- The calls that a walk over a used list still owes, from the lowest number up.
use Rattle.std.proofs.Common.{◌≡◌, ℕ, suc, ◌+◌, ◌-◌, ◌<◌, ◌≤◌, Bool, true, false, cond, List, [], ◌∷◌, length, get_or, set, replicate, ◌≢◌, below_more, get_or-set_same, get_or-set_other, ap, sym, subst, refl, ◌∙◌, arith}
use Rattle.std.proofs.lemmas.List.{same_lists, length-replicate, get_or-replicate, get_or_default}
use Rattle.std.specs.Fn.{Mut, Called}
use Rattle.std.specs.List.{filter, range_with_len}
use Rattle.cal_queue.specs.Callback.{LeadsTo, MayRunOver, RunsOver}
use Rattle.cal_queue.specs.UsedChunks.{contains, members, members_from}
use Rattle.cal_queue.specs.UsedChunkMembers.{members_from-next, members_from-end, members_from-start, members_from-skip}

module _ {F A : Type 0} (calls : Mut F (A × Unit {0}) (Unit {0})) (now : F) (x : A) (xs : List A)
    (may : MayRunOver calls now (x ∷ xs)) where
  -- the first of several calls may be made
  pre-from_MayRunOver : calls.pre now (x, tt)
  pre-from_MayRunOver = may.at [] xs x now refl refl

  -- and after it the others
  MayRunOver-next : (next : F) → Called calls now (x, tt) tt next → MayRunOver calls next xs
  MayRunOver-next next called = record {
    at = λ before after y later split ran. may.at (x ∷ before) after y later (ap (λ (ys : List A). x ∷ ys) split)
        (next, called, ran);
  }

module _ {F : Type 0} (calls : Mut F (ℕ × Unit {0}) (Unit {0})) (first : F) (marks : List Bool) where
  -- a callback that began as `first` may be called at each member from `start` on, and these calls
  -- complete those at all members
  pub record IsOwed (now : F) (start : ℕ) : Type 0 where
    pub callable : MayRunOver calls now (members_from (record { marks = marks }) start)
    pub completes : (last : F) → LeadsTo calls now (members_from (record { marks = marks }) start) last
        → LeadsTo calls first (members (record { marks = marks })) last

module _ {F : Type 0} (calls : Mut F (ℕ × Unit {0}) (Unit {0})) (first : F) (marks : List Bool) where
  pub IsOwed-at_start : MayRunOver calls first (members (record { marks = marks })) → IsOwed calls first marks first 0
  IsOwed-at_start callable =
      let whole = members_from-start marks in record {
        callable = subst (λ (xs : List ℕ). MayRunOver calls first xs) whole callable;
        completes = λ last. subst (λ (xs : List ℕ). LeadsTo calls first xs last) (sym whole);
      }

  pub RunsOver-at_end : (now : F) (start : ℕ) → length marks ≤ start → IsOwed calls first marks now start →
      RunsOver calls first (members (record { marks = marks }))
  RunsOver-at_end now start past owed =
      let none = sym (members_from-end marks start past) in
      (now, owed.completes now (subst (λ (xs : List ℕ). LeadsTo calls now xs now) none refl))

  module _ (now : F) (start : ℕ) (below : start < length marks) (owed : IsOwed calls first marks now start) where
    pub pre-from_IsOwed : get_or marks start false ≡ true → calls.pre now (start, tt)
    pre-from_IsOwed is =
        let next = members_from-next marks start true below is in
        pre-from_MayRunOver calls now start _ (subst (λ (xs : List ℕ). MayRunOver calls now xs) next owed.callable)

    pub IsOwed-called : (later : F) → get_or marks start false ≡ true → Called calls now (start, tt) tt later →
        IsOwed calls first marks later (start + 1)
    IsOwed-called later is called =
        let next = members_from-next marks start true below is in record {
          callable = MayRunOver-next calls now start
              _ (subst (λ (xs : List ℕ). MayRunOver calls now xs) next owed.callable) later called;
          completes = λ last ran. owed.completes last
              (subst (λ (xs : List ℕ). LeadsTo calls now xs last) (sym next) (later, called, ran));
        }

    pub IsOwed-skipped : get_or marks start false ≡ false → IsOwed calls first marks now (start + 1)
    IsOwed-skipped is =
        let next = members_from-next marks start false below is in record {
          callable = subst (λ (xs : List ℕ). MayRunOver calls now xs) next owed.callable;
          completes = λ last ran. owed.completes last
              (subst (λ (xs : List ℕ). LeadsTo calls now xs last) (sym next) ran);
        }

-- numbers that aren't in use are owed no call
module _ {F : Type 0} (calls : Mut F (ℕ × Unit {0}) (Unit {0})) (first : F) (marks : List Bool) (now : F) where
  pub IsOwed-skip : (start end : ℕ) → start ≤ end → end ≤ length marks →
      ((k : ℕ) → start ≤ k → k < end → get_or marks k false ≡ false) → IsOwed calls first marks now start →
      IsOwed calls first marks now end
  IsOwed-skip start end up within none owed =
      let same = members_from-skip marks start end up within none in record {
        callable = subst (λ (xs : List ℕ). MayRunOver calls now xs) same owed.callable;
        completes = λ last ran. owed.completes last (subst (λ (xs : List ℕ). LeadsTo calls now xs last) (sym same) ran);
      }

-- the marks below a place are cleared, and the others are as they were first
pub record IsClearedBelow (first marks : List Bool) (end : ℕ) : Type 0 where
  pub cleared : (k : ℕ) → k < end → get_or marks k false ≡ false
  pub kept : (k : ℕ) → end ≤ k → get_or marks k false ≡ get_or first k false

pub IsClearedBelow-at_start : (marks : List Bool) → IsClearedBelow marks marks 0
IsClearedBelow-at_start marks = record { cleared = λ k below. absurd (omega arith); kept = λ k above. refl }

pub IsClearedBelow-next : (first marks : List Bool) (end : ℕ) → end < length marks → IsClearedBelow first marks end →
    IsClearedBelow first (set marks end false) (end + 1)
IsClearedBelow-next first marks end within so_far = record {
  cleared = below_more _ _
      (λ k below. let other : k ≢ end = omega arith in rw get_or-set_other (so_far.cleared k below))
      (rw get_or-set_same);
  kept = λ k above. let other : k ≢ end = omega arith in rw get_or-set_other (so_far.kept k (omega arith));
}

pub replicate-from_IsClearedBelow : (first marks : List Bool) (end n : ℕ) → n ≤ end → length marks ≡ n →
    IsClearedBelow first marks end → marks ≡ replicate n false
replicate-from_IsClearedBelow first marks end n past long all =
    same_lists _ _ (long ∙ sym (length-replicate n false)) (λ k d below.
    let inside : k < n = omega arith in
    get_or_default marks k d false below ∙ all.cleared k (omega arith) ∙ sym (get_or-replicate n k false d inside))
