-- A list of marks, true where a bucket is used: how many are, and whether all are.
use Rattle.std.proofs.Common.{◌≡◌, ◌<◌, Bool, true, false, cond, List, [], ◌∷◌, length, count_by, refl, sym, arith}
use Rattle.std.specs.List.{list_all}
use Rattle.std.proofs.lemmas.Bool.{false≢true}
use Rattle.std.proofs.lemmas.List.Sums.{sum_by-cons, count_by-le-length}

-- where as many are used as there are, all are
pub list_all-counted : (marks : List Bool) → count_by (λ mark. mark) marks ≡ length marks →
    list_all (λ mark. mark) marks ≡ true
list_all-counted [] e = refl
list_all-counted (true ∷ marks) e =
    list_all-counted marks (omega (arith, e, sum_by-cons (λ mark. cond mark 1 0) true marks))
list_all-counted (false ∷ marks) e =
    absurd (omega (arith, e, sum_by-cons (λ mark. cond mark 1 0) false marks, count_by-le-length (λ mark. mark) marks))

-- where not all are used, fewer are than there are
pub counted-lt-length : (marks : List Bool) → list_all (λ mark. mark) marks ≡ false →
    count_by (λ mark. mark) marks < length marks
counted-lt-length [] e = absurd (false≢true (sym e))
counted-lt-length (true ∷ marks) e =
    omega (arith, counted-lt-length marks e, sum_by-cons (λ mark. cond mark 1 0) true marks)
counted-lt-length (false ∷ marks) e =
    omega (arith, sum_by-cons (λ mark. cond mark 1 0) false marks, count_by-le-length (λ mark. mark) marks)

-- where all are used, as many are as there are
pub counted-list_all : (marks : List Bool) → list_all (λ mark. mark) marks ≡ true →
    count_by (λ mark. mark) marks ≡ length marks
counted-list_all [] e = refl
counted-list_all (true ∷ marks) e =
    omega (arith, counted-list_all marks e, sum_by-cons (λ mark. cond mark 1 0) true marks)
counted-list_all (false ∷ marks) e = absurd (false≢true e)
