-- The members of a used list from a number on, as a walk over them meets them.
use Rattle.std.proofs.Common.{◌≡◌, ℕ, zero, suc, ◌+◌, ◌-◌, ◌<◌, ◌≤◌, Bool, true, false, cond, List, [], ◌∷◌, Option, Some, None, length, get_or, ap, sym, refl, ◌∙◌, arith, ◌⊎◌, inl, inr}
use Rattle.std.proofs.lemmas.Bool.{false≢true, cases_lt}
use Rattle.std.proofs.lemmas.List.{get_or_past}
use Rattle.std.specs.List.{filter, range_with_len, slice_get}
use Rattle.cal_queue.specs.FirstFrom.{IsFirst, IsFirstFrom}
use Rattle.cal_queue.specs.UsedChunks.{contains, members, members_from, next_member}

-- a number is one of them, or isn't
pub members_from-next : (marks : List Bool) (start : ℕ) (mark : Bool) → start < length marks →
    get_or marks start false ≡ mark →
    members_from (record { marks = marks }) start
    ≡ cond mark (start ∷ members_from (record { marks = marks }) (start + 1))
    (members_from (record { marks = marks }) (start + 1))
members_from-next marks start mark below is =
    let test = contains (record { marks = marks }) in
    let rest = members_from (record { marks = marks }) (start + 1) in
    let count : length marks - start ≡ suc (length marks - (start + 1)) = omega arith in
    ap (λ (n : ℕ). filter test (range_with_len start n)) count ∙ ap (λ (c : Bool). cond c (start ∷ rest) rest) is

-- there are none from the capacity on
pub members_from-end : (marks : List Bool) (start : ℕ) → length marks ≤ start →
    members_from (record { marks = marks }) start ≡ []
members_from-end marks start past =
    let count : length marks - start ≡ 0 = omega arith in
    ap (λ (n : ℕ). filter (contains (record { marks = marks })) (range_with_len start n)) count

-- all of them are those from 0 on
pub members_from-start : (marks : List Bool) →
    members (record { marks = marks }) ≡ members_from (record { marks = marks }) 0
members_from-start marks =
    let count : length marks ≡ length marks - 0 = omega arith in
    ap (λ (n : ℕ). filter (contains (record { marks = marks })) (range_with_len 0 n)) count

skip_by : (marks : List Bool) (by start : ℕ) → start + by ≤ length marks →
    ((k : ℕ) → start ≤ k → k < start + by → get_or marks k false ≡ false) →
    members_from (record { marks = marks }) start ≡ members_from (record { marks = marks }) (start + by)
skip_by marks zero start within none = ap (members_from (record { marks = marks })) (omega arith)
skip_by marks (suc by) start within none =
    members_from-next marks start false (omega arith) (none start (omega arith) (omega arith))
    ∙ skip_by marks by (start + 1) (omega arith) (λ k above below. none k (omega arith) (omega arith))
    ∙ ap (members_from (record { marks = marks })) (omega arith)

-- where numbers aren't in use, a walk may go on after them
pub members_from-skip : (marks : List Bool) (start end : ℕ) → start ≤ end → end ≤ length marks →
    ((k : ℕ) → start ≤ k → k < end → get_or marks k false ≡ false) →
    members_from (record { marks = marks }) start ≡ members_from (record { marks = marks }) end
members_from-skip marks start end up within none =
    let there : start + (end - start) ≡ end = omega arith in
    skip_by marks (end - start) start (omega arith) (λ k above below. none k above (omega arith))
    ∙ ap (members_from (record { marks = marks })) there

-- a number in use is below the capacity
pub member-within : (marks : List Bool) (number : ℕ) → get_or marks number false ≡ true → number < length marks
member-within marks number is = from (cases_lt number (length marks))
  where
    from : (number < length marks) ⊎ (length marks ≤ number) → number < length marks
    from (inl within) = within
    from (inr past) = absurd (false≢true (sym (get_or_past marks number false past) ∙ is))

-- the first one from a number on, and those after it
pub members_from-first : (marks : List Bool) (start number : ℕ) →
    IsFirst (contains (record { marks = marks })) start number →
    members_from (record { marks = marks }) start ≡ number ∷ members_from (record { marks = marks }) (number + 1)
members_from-first marks start number first =
    let within = member-within marks number first.passes in
    members_from-skip marks start number first.not_before (omega arith) first.first
    ∙ members_from-next marks number true within first.passes

-- there is none
pub members_from-none : (marks : List Bool) (start : ℕ) → IsFirstFrom (contains (record { marks = marks })) start None →
    members_from (record { marks = marks }) start ≡ []
members_from-none marks start none = from (cases_lt start (length marks))
  where
    from : (start < length marks) ⊎ (length marks ≤ start) → members_from (record { marks = marks }) start ≡ []
    from (inr past) = members_from-end marks start past
    from (inl below) =
        members_from-skip marks start (length marks) (omega arith) (omega arith) (λ k above within. none k above)
        ∙ members_from-end marks (length marks) (omega arith)

-- so the first one is the one that the list tells
pub next_member-is : (marks : List Bool) (start : ℕ) (number : Option ℕ) →
    IsFirstFrom (contains (record { marks = marks })) start number →
    number ≡ next_member (record { marks = marks }) start
next_member-is marks start None none = ap
    (λ (numbers : List ℕ). slice_get numbers 0) (sym (members_from-none marks start none))
next_member-is marks start (Some number) first =
    ap (λ (numbers : List ℕ). slice_get numbers 0) (sym (members_from-first marks start number first))
