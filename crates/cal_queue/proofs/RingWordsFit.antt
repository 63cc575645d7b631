-- What the stores of a ring's ends do to its words.
use Rattle.std.proofs.Common.{◌≡◌, ◌≢◌, ℕ, ◌+◌, ◌%◌, ◌<◌, ◌≤◌, List, [], ◌∷◌, ◌++◌, length, get_or, set, refl, sym, ap, ◌∙◌, ⊎_elim, arith, length-append}
use Rattle.std.proofs.lemmas.Bool.{cases_lt}
use Rattle.std.proofs.lemmas.Nat.{mod_below}
use Rattle.std.proofs.lemmas.List.{length-set, get_or-set_same, get_or-set_other, get_or_append_left, get_or_at}
use Rattle.atomic_table.proofs.Lists.{one_turn}
use Rattle.cal_queue.specs.RingWords.{WordsFit, slot_of}

pub slot_within : (slots position : ℕ) → 1 ≤ slots → slot_of slots position < slots + 2
slot_within slots position some = let h = mod_below position slots (omega arith) in omega arith

-- positions less than one turn apart have slots of their own
slots_apart : (slots p q : ℕ) → p < q → q < p + slots → slot_of slots p ≢ slot_of slots q
slots_apart slots p q below near e =
    let x : ℕ = p % slots in
    let y : ℕ = q % slots in
    let e' : x + 2 ≡ y + 2 = e in
    let same : x ≡ y = omega arith in
    let one = one_turn p q slots (omega arith) (omega arith) same in omega arith

-- the words of a new ring
pub WordsFit-new : (slots : ℕ) (words : List ℕ) → length words ≡ slots + 2 → get_or words 0 0 ≡ 0 → get_or words 1 0 ≡ 0
    → WordsFit slots words [] 0
WordsFit-new slots words sized read written = record {
  sized = sized;
  read_position = read;
  write_position = written;
  read_within = omega arith;
  in_slots = λ p from below. absurd (omega arith);
}

-- a slot is no position
pub slot-after_store : (slots : ℕ) (words : List ℕ) (index p value : ℕ) → index < 2
    → get_or (set words index value) (slot_of slots p) 0 ≡ get_or words (slot_of slots p) 0
slot-after_store slots words index p value below =
    let n : slot_of slots p ≢ index = omega arith in get_or-set_other words index (slot_of slots p) value 0 n

module _ (slots : ℕ) (words values : List ℕ) (read : ℕ) (fits : WordsFit slots words values read) (value : ℕ) where
  abbrev next_slot : ℕ
  next_slot = slot_of slots (length values)

  abbrev grown : List ℕ
  grown = values ++ value ∷ []

  -- a value stored into the next slot, which is free
  pub WordsFit-slot : 1 ≤ slots → length values < read + slots → WordsFit slots (set words next_slot value) values read
  WordsFit-slot some free = let n : 0 ≢ next_slot = omega arith in
      let n' : 1 ≢ next_slot = omega arith in record {
        sized = length-set words next_slot value ∙ fits.sized;
        read_position = get_or-set_other words next_slot 0 value 0 n ∙ fits.read_position;
        write_position = get_or-set_other words next_slot 1 value 0 n' ∙ fits.write_position;
        read_within = fits.read_within;
        in_slots = λ p from below.
            get_or-set_other words next_slot (slot_of slots p) value 0
            (slots_apart slots p (length values) below (omega arith)) ∙ fits.in_slots p from below;
      }

  -- and it lies there
  pub next_slot-stored : 1 ≤ slots → get_or (set words next_slot value) next_slot 0 ≡ value
  next_slot-stored some =
      let within = slot_within slots (length values) some in
      let sized = fits.sized in get_or-set_same words next_slot value 0 (omega arith)

  one_more : length grown ≡ length values + 1
  one_more = length-append values (value ∷ [])

  pub grown-before : (p : ℕ) → p < length values → get_or grown p 0 ≡ get_or values p 0
  grown-before p below = get_or_append_left values (value ∷ []) 0 p below

  -- the write position stored after it
  pub WordsFit-written : get_or words next_slot 0 ≡ value → WordsFit slots (set words 1 (length values + 1)) grown read
  WordsFit-written stored = let sized = fits.sized in
      let long = one_more in
      let within = fits.read_within in
      let n : 0 ≢ 1 = omega arith in record {
        sized = length-set words 1 (length values + 1) ∙ sized;
        read_position = get_or-set_other words 1 0 (length values + 1) 0 n ∙ fits.read_position;
        write_position = get_or-set_same words 1 (length values + 1) 0 (omega arith) ∙ sym long;
        read_within = omega arith;
        in_slots = λ p from below.
            slot-after_store slots words 1 p (length values + 1) (omega arith)
            ∙ ⊎_elim (λ old. fits.in_slots p from old ∙ sym (grown-before p old))
            (λ past. let last : p ≡ length values = omega arith in
            ap (λ (k : ℕ). get_or words (slot_of slots k) 0) last ∙ stored
            ∙ sym (ap (λ (k : ℕ). get_or grown k 0) last ∙ get_or_at values value [] 0 (length values) refl))
            (cases_lt p (length values));
      }

-- the read position moved on by one
pub WordsFit-read : (slots : ℕ) (words values : List ℕ) (read next shown : ℕ) → WordsFit slots words values read
    → next ≡ read + 1 → shown ≡ next → read < length values → WordsFit slots (set words 0 shown) values next
WordsFit-read slots words values read next shown fits more is below =
    let sized = fits.sized in
    let n : 1 ≢ 0 = omega arith in record {
      sized = length-set words 0 shown ∙ sized;
      read_position = get_or-set_same words 0 shown 0 (omega arith) ∙ is;
      write_position = get_or-set_other words 0 1 shown 0 n ∙ fits.write_position;
      read_within = omega arith;
      in_slots = λ p from inside.
          slot-after_store slots words 0 p shown (omega arith) ∙ fits.in_slots p (omega arith) inside;
    }
