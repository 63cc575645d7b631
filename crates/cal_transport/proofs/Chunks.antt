-- Chunks by their names, in a list whose names rise.
use Rattle.std.proofs.Common.{ℕ, ◌≡◌, ◌≢◌, inl, inr, Bool, true, false, cond, nat_eq, List, Option, Some, None, option_map, refl, sym, ap, ◌∙◌, subst, arith}
use Rattle.std.specs.List.{slice_get, find}
use Rattle.std.proofs.lemmas.Option.{same_Some, none-some}
use Rattle.std.proofs.lemmas.Bool.{cases_lt}
use Rattle.cal_transport.specs.declared.reply.Slot.{Slot}
use Rattle.cal_transport.specs.Ledger.{Ledger, Chunk, chunk_named, if_loaned, loaned_chunk}
use Rattle.cal_transport.specs.Step.{slot_of, slot_named}
use Rattle.cal_transport.specs.Soundness.{AreNamed, IsSentChunk}
use Rattle.cal_transport.proofs.Lists.{same_or_apart}
use Rattle.cal_transport.proofs.Steps.{find_stands, find_first}

-- chunks at two places have two names
pub names_differ : (chunks : List Chunk) (place : ℕ) (i j : ℕ) (a b : Chunk) → AreNamed chunks place →
    slice_get chunks i ≡ Some a → slice_get chunks j ≡ Some b → i ≢ j → a.name ≢ b.name
names_differ chunks place i j a b h first second apart same = elim (cases_lt i j) [
  | inl below ↦ (let lt = h.rising i j a b first second below in omega arith)
  | inr above ↦ (let lt = h.rising j i b a second first (omega arith) in omega arith)
]

-- a chunk of the same name is the same
pub same_place : (chunks : List Chunk) (place : ℕ) (i j : ℕ) (a b : Chunk) → AreNamed chunks place →
    slice_get chunks i ≡ Some a → slice_get chunks j ≡ Some b → a.name ≡ b.name → i ≡ j
same_place chunks place i j a b h first second same = elim (same_or_apart i j) [
  | inl here ↦ here
  | inr apart ↦ absurd (names_differ chunks place i j a b h first second apart same)
]

-- a name leads to the chunk that has it
pub chunk_of_name : (l : Ledger) (place : ℕ) (i : ℕ) (chunk : Chunk) (name : ℕ) → AreNamed l.chunks place →
    slice_get l.chunks i ≡ Some chunk → chunk.name ≡ name → chunk_named l name ≡ Some chunk
chunk_of_name l place i chunk name h stands same =
    subst (λ n. find (λ x. nat_eq x.name n) l.chunks ≡ Some chunk) same
    (find_first l.chunks i chunk stands
    (λ j x there elsewhere. names_differ l.chunks place j i x chunk h there stands elsewhere))

-- a chunk that is loaned
pub record IsLoaned (l : Ledger) (name : ℕ) (chunk : Chunk) : Type 0 where
  pub index : ℕ
  pub stands : slice_get l.chunks index ≡ Some chunk
  pub same_name : chunk.name ≡ name
  pub loaned : chunk.loaned ≡ true

pub loaned_stands : (l : Ledger) (name : ℕ) (chunk : Chunk) → loaned_chunk l name ≡ Some chunk → IsLoaned l name chunk
loaned_stands l name chunk e = go (chunk_named l name) refl e
  where
    marked : (found : Chunk) (b : Bool) → found.loaned ≡ b → cond b (Some found) None ≡ Some chunk →
        (found.loaned ≡ true) × (found ≡ chunk)
    marked found true is q = (is, same_Some found chunk q)
    marked found false is q = absurd (none-some chunk q)

    go : (o : Option Chunk) → chunk_named l name ≡ o → if_loaned o ≡ Some chunk → IsLoaned l name chunk
    go None is q = absurd (none-some chunk q)
    go (Some found) is q =
        let m = marked found found.loaned refl q in
        let s = find_stands l.chunks name found is in
        record {
          index = s.0;
          stands = s.1 ∙ ap Some m.1;
          same_name = ap (λ x. x.name) (sym m.1) ∙ s.2;
          loaned = ap (λ x. x.loaned) (sym m.1) ∙ m.0;
        }

-- where a chunk on its way lies is told
pub record HasSlot (l : Ledger) (name : ℕ) : Type 0 where
  pub slot : Slot
  pub told : slot_named l (Some name) ≡ Some slot
  pub same_name : slot.chunk ≡ name

pub sent_slot : (l : Ledger) (place : ℕ) (name : ℕ) → AreNamed l.chunks place → IsSentChunk l name → HasSlot l name
sent_slot l place name h s = record {
  slot = slot_of l s.chunk;
  told = ap (option_map (slot_of l)) (chunk_of_name l place s.index s.chunk name h s.stands s.same_name);
  same_name = s.same_name;
}
