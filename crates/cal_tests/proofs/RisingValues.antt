-- Where the values sent rise, the values received rise too.
use Rattle.std.proofs.Common.{◌≡◌, ◌<◌, ℕ, zero, suc, ◌+◌, List, [], ◌∷◌, ◌++◌, map, get_or, slice_get, Some, ap, ◌∙◌, arith}
use Rattle.std.proofs.lemmas.List.{length-map}
use Rattle.std.proofs.lemmas.List.FromFn.{length-range_with_len, get_or-range_with_len}
use Rattle.std.proofs.lemmas.Option.{slice_get-get_or, slice_get_within, get_or_from_slice_get}
use Rattle.std.specs.List.{range_with_len}
use Rattle.cal_queue.specs.Partition.{Rises, AsSent}
use Rattle.cal_tests.specs.Rising.{IsRising}

range-suc : (a n : ℕ) → range_with_len a (suc n) ≡ range_with_len a n ++ (a + n) ∷ []
range-suc a zero = let e : a ≡ a + 0 = omega arith in ap (λ (k : ℕ). k ∷ []) e
range-suc a (suc n) = let e : a + 1 + n ≡ a + suc n = omega arith in
    ap (λ (l : List ℕ). a ∷ l) (range-suc (a + 1) n ∙ ap (λ (k : ℕ). range_with_len (a + 1) n ++ k ∷ []) e)

pub range-more : (n : ℕ) → range_with_len 0 (n + 1) ≡ range_with_len 0 n ++ n ∷ []
range-more n =
    let one : n + 1 ≡ suc n = omega arith in
    let e : 0 + n ≡ n = omega arith in
    ap (λ (k : ℕ). range_with_len 0 k) one ∙ range-suc 0 n ∙ ap (λ (k : ℕ). range_with_len 0 n ++ k ∷ []) e

pub range-rises : (n : ℕ) → IsRising (range_with_len 0 n)
range-rises n i j less below =
    let long = length-range_with_len 0 n in
    let first = get_or-range_with_len 0 n i 0 (omega arith) in
    let second = get_or-range_with_len 0 n j 0 (omega arith) in omega arith

value-at : (entries : List (ℕ × ℕ)) (i : ℕ) (e : ℕ × ℕ) → slice_get entries i ≡ Some e →
    get_or (map (λ (x : ℕ × ℕ). x.1) entries) i 0 ≡ e.1
value-at [] i e is = cc
value-at (x ∷ xs) zero e is = let same : x ≡ e = cc in ap (λ (y : ℕ × ℕ). y.1) same
value-at (x ∷ xs) (suc i) e is = value-at xs i e is

pub received-rises : (sent : List ℕ) (entries : List (ℕ × ℕ)) → IsRising sent → Rises entries → AsSent sent entries →
    IsRising (map (λ (x : ℕ × ℕ). x.1) entries)
received-rises sent entries rising positions values i j less below =
    let long = length-map entries (λ (x : ℕ × ℕ). x.1) in
    let none : ℕ × ℕ = (0, 0) in
    let x : ℕ × ℕ = get_or entries i none in
    let y : ℕ × ℕ = get_or entries j none in
    let at_x : slice_get entries i ≡ Some x = slice_get-get_or entries i none (omega arith) in
    let at_y : slice_get entries j ≡ Some y = slice_get-get_or entries j none (omega arith) in
    let before : x.0 < y.0 = positions i j x y less at_x at_y in
    let sent_x = values i x.0 x.1 at_x in
    let sent_y = values j y.0 y.1 at_y in
    let within = slice_get_within sent y.0 y.1 sent_y in
    let rise = rising x.0 y.0 before within in
    let is_x = get_or_from_slice_get sent x.0 x.1 0 sent_x in
    let is_y = get_or_from_slice_get sent y.0 y.1 0 sent_y in
    let out_x = value-at entries i x at_x in
    let out_y = value-at entries j y at_y in omega arith
