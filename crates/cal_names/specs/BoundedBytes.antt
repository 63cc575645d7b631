-- Bytes at the front of a fixed number of bytes, with zeros after them.
use Rattle.std.specs.Prelude.{◌≡◌, ℕ, ◌+◌, ◌-◌, ◌<◌, ◌≤◌, List, ◌++◌, length, take, drop, replicate, slice_index}
use Rattle.std.proofs.Common.{arith, sym, ap, ◌∙◌, take-append-drop, length-take-le, length-drop}
use Rattle.std.proofs.lemmas.List.{ext_get_or, get_or-replicate, get_or-drop, length-replicate}

-- the bytes, and zeros up to this many bytes
abbrev pub padded : ℕ → List ℕ → List ℕ
padded room bytes = bytes ++ replicate (room - length bytes) 0

-- each byte from this index on is zero
abbrev pub IsZeroFrom : ℕ → List ℕ → Type 0
IsZeroFrom from bytes = (k : ℕ) → from ≤ k → slice_index bytes k ≡ 0

-- the zeros after the front are as many as there are bytes left
zeros_after : (room len : ℕ) (bytes : List ℕ) → len ≤ room → length bytes ≡ room → IsZeroFrom len bytes →
    replicate (room - len) 0 ≡ drop len bytes
zeros_after room len bytes fits whole zeros =
    let long : length (drop len bytes) ≡ room - len = length-drop len bytes ∙ ap (λ n. n - len) whole in
    ext_get_or 0 _ _ (length-replicate {A = ℕ} (room - len) 0 ∙ sym long) (λ k inside.
    let below : k < room - len = omega (arith, length-replicate {A = ℕ} (room - len) 0) in
    let past : len ≤ len + k = omega arith in
    get_or-replicate (room - len) k 0 0 below ∙ sym (get_or-drop len bytes k 0 ∙ zeros (len + k) past))

-- the padded front of a list that ends in zeros is that list
pub padded-take : (room len : ℕ) (bytes : List ℕ) → len ≤ room → length bytes ≡ room → IsZeroFrom len bytes →
    padded room (take len bytes) ≡ bytes
padded-take room len bytes fits whole zeros =
    let front : length (take len bytes) ≡ len = length-take-le len bytes (omega arith) in
    ap (λ n. take len bytes ++ replicate (room - n) 0) front
    ∙ ap (λ rest. take len bytes ++ rest) (zeros_after room len bytes fits whole zeros)
    ∙ take-append-drop len bytes
