-- What a write to a segment's bytes leaves of each bucket.
use Rattle.std.proofs.Common.{ℕ, ◌+◌, ◌-◌, ◌*◌, ◌<◌, ◌≤◌, ◌≡◌, ◌≢◌, ◌⊎◌, inl, inr, List, ◌++◌, length, take, drop, get_or, sym, ap, ◌∙◌, arith, length-append, length-drop}
use Rattle.std.proofs.Math.Nat.{mul-le-mul_left}
use Rattle.std.proofs.lemmas.Bool.{cases_lt}
use Rattle.std.proofs.lemmas.List.{get_or-take, get_or-drop, get_or_append_left, get_or-append_right, length-take}
use Rattle.std.proofs.lemmas.Grind.{same_number_lists}
use Rattle.cal_transport.specs.Step.{with_bytes}
use Rattle.cal_transport.specs.Shown.{bytes_at}

length-front : (m : List ℕ) (a : ℕ) (bytes : List ℕ) → a + length bytes ≤ length m →
    length (take a m ++ bytes) ≡ a + length bytes
length-front m a bytes within = simp (length-append, length-take) (omega arith)

pub length-overwritten : (m : List ℕ) (a : ℕ) (bytes : List ℕ) → a + length bytes ≤ length m →
    length (with_bytes m a bytes) ≡ length m
length-overwritten m a bytes within = simp (length-append, length-take, length-drop) (omega arith)

before_written : (m : List ℕ) (a : ℕ) (bytes : List ℕ) (k : ℕ) → a + length bytes ≤ length m → k < a →
    get_or (with_bytes m a bytes) k 0 ≡ get_or m k 0
before_written m a bytes k within below =
    get_or_append_left (take a m ++ bytes) (drop (a + length bytes) m) 0 k
    (let e = length-front m a bytes within in omega arith)
    ∙ get_or_append_left (take a m) bytes 0 k (let e = length-take a m in omega arith)
    ∙ get_or-take a m k 0 below

inside_written : (m : List ℕ) (a : ℕ) (bytes : List ℕ) (k : ℕ) → a + length bytes ≤ length m → a ≤ k →
    k < a + length bytes →
    get_or (with_bytes m a bytes) k 0 ≡ get_or bytes (k - a) 0
inside_written m a bytes k within from below =
    get_or_append_left (take a m ++ bytes) (drop (a + length bytes) m) 0 k
    (let e = length-front m a bytes within in omega arith)
    ∙ get_or-append_right (take a m) bytes a k 0 (let e = length-take a m in omega arith) from

after_written : (m : List ℕ) (a : ℕ) (bytes : List ℕ) (k : ℕ) → a + length bytes ≤ length m → a + length bytes ≤ k →
    get_or (with_bytes m a bytes) k 0 ≡ get_or m k 0
after_written m a bytes k within from =
    get_or-append_right (take a m ++ bytes) (drop (a + length bytes) m) (a + length bytes) k 0
    (length-front m a bytes within) from
    ∙ get_or-drop (a + length bytes) m (k - (a + length bytes)) 0
    ∙ ap (λ n. get_or m n 0) (let e : a + length bytes + (k - (a + length bytes)) ≡ k = omega arith in e)

pub length-bytes_at : (m : List ℕ) (place size : ℕ) → place + size ≤ length m → length (bytes_at m place size) ≡ size
length-bytes_at m place size within = simp (length-take, length-drop) (omega arith)

get_or-bytes_at : (m : List ℕ) (place size k : ℕ) → k < size →
    get_or (bytes_at m place size) k 0 ≡ get_or m (place + k) 0
get_or-bytes_at m place size k below = get_or-take size (drop place m) k 0 below ∙ get_or-drop place m k 0

-- a write outside a part leaves the part
pub bytes_outside : (m : List ℕ) (a : ℕ) (bytes : List ℕ) (place size : ℕ) → a + length bytes ≤ length m →
    place + size ≤ length m →
    (place + size ≤ a) ⊎ (a + length bytes ≤ place) → bytes_at (with_bytes m a bytes) place size ≡ bytes_at m place size
bytes_outside m a bytes place size within there apart =
    let long = length-overwritten m a bytes within in
    let l = length-bytes_at (with_bytes m a bytes) place size (omega arith) in
    let r = length-bytes_at m place size there in
    same_number_lists (bytes_at (with_bytes m a bytes) place size) (bytes_at m place size) (l ∙ sym r) (λ k below.
    get_or-bytes_at (with_bytes m a bytes) place size k (omega arith)
    ∙ elim apart [
      | inl behind ↦ before_written m a bytes (place + k) within (omega arith)
      | inr ahead ↦ after_written m a bytes (place + k) within (omega arith)
    ]
    ∙ sym (get_or-bytes_at m place size k (omega arith)))

-- a write inside a part writes the part
pub bytes_inside : (m : List ℕ) (at : ℕ) (bytes : List ℕ) (place size : ℕ) → at + length bytes ≤ size →
    place + size ≤ length m →
    bytes_at (with_bytes m (place + at) bytes) place size ≡ with_bytes (bytes_at m place size) at bytes
bytes_inside m at bytes place size within there =
    let inside : place + at + length bytes ≤ length m = omega arith in
    let long = length-overwritten m (place + at) bytes inside in
    let l = length-bytes_at (with_bytes m (place + at) bytes) place size (omega arith) in
    let r = length-bytes_at m place size there in
    let short : at + length bytes ≤ length (bytes_at m place size) = omega arith in
    let s = length-overwritten (bytes_at m place size) at bytes short in
    same_number_lists (bytes_at (with_bytes m (place + at) bytes) place size)
    (with_bytes (bytes_at m place size) at bytes) (l ∙ sym (s ∙ r)) (λ k below.
    get_or-bytes_at (with_bytes m (place + at) bytes) place size k (omega arith)
    ∙ elim (cases_lt k at) [
      | inl before ↦ before_written m (place + at) bytes (place + k) inside (omega arith)
          ∙ sym (get_or-bytes_at m place size k (omega arith))
          ∙ sym (before_written (bytes_at m place size) at bytes k short before)
      | inr from ↦ elim (cases_lt k (at + length bytes)) [
        | inl in_it ↦ inside_written m (place + at) bytes (place + k) inside (omega arith) (omega arith)
            ∙ ap (λ n. get_or bytes n 0) (let e : place + k - (place + at) ≡ k - at = omega arith in e)
            ∙ sym (inside_written (bytes_at m place size) at bytes k short from in_it)
        | inr behind ↦ after_written m (place + at) bytes (place + k) inside (omega arith)
            ∙ sym (get_or-bytes_at m place size k (omega arith))
            ∙ sym (after_written (bytes_at m place size) at bytes k short behind)
      ]
    ])

-- two buckets are apart
pub buckets_disjoint : (size a b : ℕ) → a ≢ b → (a * size + size ≤ b * size) ⊎ (b * size + size ≤ a * size)
buckets_disjoint size a b apart = elim (cases_lt a b) [
  | inl below ↦ inl (let h : a + 1 ≤ b = omega arith in omega (arith, mul-le-mul_left size h))
  | inr above ↦ inr (let h : b + 1 ≤ a = omega arith in omega (arith, mul-le-mul_left size h))
]
