-- The sender's copy of its last values: what a value more does to it, and where the oldest one lies.
use Rattle.std.proofs.Common.{◌≡◌, ◌≢◌, ℕ, suc, ◌+◌, ◌*◌, ◌/◌, ◌%◌, ◌<◌, ◌≤◌, List, [], ◌∷◌, ◌++◌, length, get_or, set, slice_get, Some, refl, sym, ap, ◌∙◌, ⊎_elim, arith, length-append}
use Rattle.std.proofs.lemmas.Bool.{cases_lt}
use Rattle.std.proofs.lemmas.Nat.{mod_below, div-add-mod', mod-mul-add}
use Rattle.std.proofs.lemmas.List.{length-set, get_or-set_same, get_or-set_other, get_or_append_left, get_or_at, get_or_default}
use Rattle.std.proofs.lemmas.Option.{slice_get-get_or}
use Rattle.std.proofs.Math.Nat.{suc-mul}
use Rattle.atomic_table.proofs.Lists.{one_turn}
use Rattle.cal_queue.specs.SubmissionCopy.{KeepsLast}

-- a position that is a whole turn on has the same slot
index-turn : (position n : ℕ) → 0 < n → (position + n) % n ≡ position % n
index-turn position n some =
    let whole = div-add-mod' position n in
    let q : ℕ = position / n in
    let r : ℕ = position % n in
    let more : suc q * n ≡ q * n + n = suc-mul q n ∙ omega arith in
    let x : ℕ = q * n in
    let y : ℕ = suc q * n in
    let whole' : x + r ≡ position = whole in
    let same : position + n ≡ y + r = omega arith in
    ap (λ (k : ℕ). k % n) same ∙ mod-mul-add (suc q) n r (mod_below position n some)

-- no sent value is kept at first
pub KeepsLast-none : (buffer : ℕ) (copy : List ℕ) → length copy ≡ buffer + 1 → KeepsLast buffer [] copy
KeepsLast-none buffer copy size = (size, λ p below near. absurd (omega arith))

-- one more value at its index
pub KeepsLast-more : (buffer : ℕ) (sent copy : List ℕ) (index value : ℕ) → KeepsLast buffer sent copy →
    index ≡ length sent % (buffer + 1)
    → KeepsLast buffer (sent ++ value ∷ []) (set copy index value)
KeepsLast-more buffer sent copy index value keeps is = (
  length-set copy index value ∙ keeps.0,
  λ p below near.
      ⊎_elim (old p near) (last p below) (cases_lt p (length sent)),
)
  where
    long : length (sent ++ value ∷ []) ≡ length sent + 1
    long = length-append sent (value ∷ [])

    old : (p : ℕ) → length (sent ++ value ∷ []) ≤ p + buffer + 1 → p < length sent →
        get_or (set copy index value) (p % (buffer + 1)) 0 ≡ get_or (sent ++ value ∷ []) p 0
    old p near below =
        let size = long in
        let apart : p % (buffer + 1) ≢ index = λ e. let one = one_turn p (length sent) (buffer + 1) (omega arith)
        (omega arith) (e ∙ is) in absurd (omega arith) in
        get_or-set_other copy index (p % (buffer + 1)) value 0 apart ∙ keeps.1 p below (omega arith)
        ∙ sym (get_or_append_left sent (value ∷ []) 0 p below)

    last : (p : ℕ) → p < length (sent ++ value ∷ []) → length sent ≤ p →
        get_or (set copy index value) (p % (buffer + 1)) 0 ≡ get_or (sent ++ value ∷ []) p 0
    last p below past =
        let size = long in
        let here : p ≡ length sent = omega arith in
        let at : p % (buffer + 1) ≡ index = ap (λ (k : ℕ). k % (buffer + 1)) here ∙ sym is in
        let low = mod_below (length sent) (buffer + 1) (omega arith) in
        let within = keeps.0 in
        ap (λ (k : ℕ). get_or (set copy index value) k 0) at ∙ get_or-set_same copy index value 0 (omega arith)
        ∙ sym (ap (λ (k : ℕ). get_or (sent ++ value ∷ []) k 0) here ∙ get_or_at sent value [] 0 (length sent) refl)

-- the oldest value that the copy has lies at the index of the next position
pub KeepsLast-oldest : (buffer : ℕ) (sent copy : List ℕ) (index position : ℕ) → KeepsLast buffer sent copy →
    index ≡ length sent % (buffer + 1) → length sent ≡ position + buffer + 1
    → get_or copy index 0 ≡ get_or sent position 0
KeepsLast-oldest buffer sent copy index position keeps is full =
    let turn : length sent ≡ position + (buffer + 1) = omega arith in
    let at : index ≡ position % (buffer + 1) = is ∙ ap (λ (k : ℕ). k % (buffer + 1)) turn
    ∙ index-turn position (buffer + 1) (omega arith) in
    ap (λ (k : ℕ). get_or copy k 0) at ∙ keeps.1 position (omega arith) (omega arith)

-- so the sender reads it there once a value more was sent into a full ring
pub oldest-read : (buffer : ℕ) (sent copy : List ℕ) (index next position value oldest : ℕ) →
    KeepsLast buffer sent copy → index ≡ length sent % (buffer + 1) → next ≡ (length sent + 1) % (buffer + 1)
    → length sent ≡ position + buffer → oldest ≡ get_or (set copy index value) next oldest
    → (oldest ≡ get_or (sent ++ value ∷ []) position 0) × (slice_get (sent ++ value ∷ []) position ≡ Some oldest)
oldest-read buffer sent copy index next position value oldest keeps is is_next full read =
    let keeps' = KeepsLast-more buffer sent copy index value keeps is in
    let long = length-append sent (value ∷ []) in
    let next' : next ≡ length (sent ++ value ∷ []) % (buffer + 1) = is_next ∙ ap
    (λ (k : ℕ). k % (buffer + 1)) (sym long) in
    let low = mod_below (length sent + 1) (buffer + 1) (omega arith) in
    let size = keeps'.0 in
    let value_is : oldest ≡ get_or (sent ++ value ∷ []) position 0 =
    read ∙ get_or_default (set copy index value) next oldest 0 (omega arith)
    ∙ KeepsLast-oldest buffer (sent ++ value ∷ []) (set copy index value) next position keeps' next'
    (omega arith) in
    (value_is, slice_get-get_or (sent ++ value ∷ []) position 0 (omega arith) ∙ ap (λ (v : ℕ). Some v) (sym value_is))
