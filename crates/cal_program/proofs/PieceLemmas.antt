-- Pieces between separators, cut from the front.
use Rattle.std.proofs.Common.{◌≡◌, ℕ, zero, suc, ◌+◌, ◌-◌, ◌<◌, List, [], ◌∷◌, ◌++◌, length, get_or, take, drop, append_assoc, refl, sym, ap, ◌∙◌, arith}
use Rattle.std.proofs.lemmas.Bool.{eq-eqb, ne_eqb}
use Rattle.std.proofs.Math.Seq.{take-length}
use Rattle.std.proofs.lemmas.List.{length-drop, take-append-drop}
use Rattle.cal_program.specs.Words.{pieces, words, lines}

-- no separator is before a place
abbrev pub LacksBefore : ℕ → List ℕ → ℕ → Type 0
LacksBefore separator bytes place = (k : ℕ) → k < place → get_or bytes k 0 ≡ separator → ⊥

pieces-cut : (separator : ℕ) (last : List (List ℕ)) (bytes : List ℕ) (place : ℕ) → place < length bytes →
    LacksBefore separator bytes place → get_or bytes place 0 ≡ separator →
    pieces separator last bytes ≡ take place bytes ∷ pieces separator last (drop (suc place) bytes)
pieces-cut separator last [] place h lacks found = absurd (omega arith)
pieces-cut separator last (byte ∷ bytes) zero h lacks found = rw (eq-eqb byte separator found) refl
pieces-cut separator last (byte ∷ bytes) (suc place) h lacks found =
    let rest = pieces-cut separator last bytes place (omega arith) (λ k lt. lacks (suc k) (omega arith)) found in
    rw (ne_eqb byte separator (lacks 0 (omega arith)), rest) refl

words-whole : (separator : ℕ) (bytes : List ℕ) → LacksBefore separator bytes (length bytes) →
    pieces separator ([] ∷ []) bytes ≡ bytes ∷ []
words-whole separator [] lacks = refl
words-whole separator (byte ∷ bytes) lacks =
    let rest = words-whole separator bytes (λ k lt. lacks (suc k) (omega arith)) in
    rw (ne_eqb byte separator (lacks 0 (omega arith)), rest) refl

lines-whole : (separator byte : ℕ) (bytes : List ℕ) → LacksBefore separator (byte ∷ bytes) (suc (length bytes)) →
    pieces separator [] (byte ∷ bytes) ≡ (byte ∷ bytes) ∷ []
lines-whole separator byte [] lacks = rw (ne_eqb byte separator (lacks 0 (omega arith))) refl
lines-whole separator byte (next ∷ bytes) lacks =
    let rest = lines-whole separator next bytes (λ k lt. lacks (suc k) (omega arith)) in
    rw (ne_eqb byte separator (lacks 0 (omega arith)), rest) refl

pub rest-of : (bytes : List ℕ) (n : ℕ) → take (length bytes - n) (drop n bytes) ≡ drop n bytes
rest-of bytes n = rw (← length-drop n bytes) (take-length (drop n bytes))

-- a piece, and those after the separator
pub pieces-next : (separator : ℕ) (last : List (List ℕ)) (bytes : List ℕ) (place : ℕ) → place < length bytes →
    LacksBefore separator bytes place → get_or bytes place 0 ≡ separator →
    pieces separator last bytes ≡ take place bytes ∷ pieces separator last
    (take (length bytes - (place + 1)) (drop (place + 1) bytes))
pieces-next separator last bytes place h lacks found =
    pieces-cut separator last bytes place h lacks found
    ∙ ap (λ (rest : List ℕ). take place bytes ∷ pieces separator last rest)
    (ap (λ (n : ℕ). drop n bytes) {x = suc place} {y = place + 1} (omega arith) ∙ sym (rest-of bytes (place + 1)))

pub words-last : (bytes : List ℕ) (place : ℕ) → place ≡ length bytes → LacksBefore 32 bytes place →
    words bytes ≡ bytes ∷ []
words-last bytes place e lacks = words-whole 32 bytes (λ k lt. lacks k (omega arith))

pub lines-last : (bytes : List ℕ) (place : ℕ) → 0 < length bytes → place ≡ length bytes → LacksBefore 10 bytes place →
    lines bytes ≡ bytes ∷ []
lines-last [] place h e lacks = absurd (omega arith)
lines-last (byte ∷ bytes) place h e lacks = lines-whole 10 byte bytes (λ k lt. lacks k (omega arith))

-- a front is taken from what is left
pub sent-more : (sent rest bytes : List ℕ) (count : ℕ) → sent ++ rest ≡ bytes →
    (sent ++ take count rest) ++ take (length rest - count) (drop count rest) ≡ bytes
sent-more sent rest bytes count e =
    append_assoc sent (take count rest) (take (length rest - count) (drop count rest))
    ∙ ap (λ (t : List ℕ). sent ++ (take count rest ++ t)) (rest-of rest count)
    ∙ ap (λ (t : List ℕ). sent ++ t) (take-append-drop count rest)
    ∙ e
