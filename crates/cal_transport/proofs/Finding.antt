-- The entry that a name leads to is that of its chunk.
use Rattle.std.proofs.Common.{ℕ, suc, zero, ◌≡◌, true, false, cond, List, [], ◌∷◌, map, Option, Some, None, refl, sym, ap, ◌∙◌, subst, arith}
use Rattle.std.specs.List.{slice_get}
use Rattle.std.proofs.lemmas.Option.{same_Some, none-some}
use Rattle.cal_transport.specs.declared.transport.chunk_entry.ChunkEntry.{ChunkEntry}
use Rattle.cal_transport.specs.declared.transport.chunk_entry.Found.{Found}
use Rattle.cal_transport.specs.Ledger.{Ledger, Chunk, chunk_named, if_loaned, loaned_chunk}
use Rattle.cal_transport.specs.Soundness.{AreNamed}
use Rattle.cal_transport.specs.ChunkEntry.{AreRising, HasNoEntry, IsFound}
use Rattle.cal_transport.specs.Core.{Core}
use Rattle.cal_transport.specs.Shown.{Shows, entry_of}
use Rattle.cal_transport.proofs.Steps.{find_stands}
use Rattle.cal_transport.proofs.Settled.{IsSettled}
use Rattle.cal_transport.proofs.Fronts.{named, entry_at}

-- a list that maps to an element at a place has one there
pub stands_under : {A B : Type 0} (f : A → B) (xs : List A) (i : ℕ) (y : B) → slice_get (map f xs) i ≡ Some y →
    (x : A) × (slice_get xs i ≡ Some x) × (y ≡ f x)
stands_under f [] i y e = absurd (none-some y e)
stands_under f (x ∷ xs) zero y e = (x, refl, sym (same_Some (f x) y e))
stands_under f (x ∷ xs) (suc i) y e = stands_under f xs i y e

-- entries rise as names do
pub entries_rise : (p : Core) (l : Ledger) (place : ℕ) → Shows p l → AreNamed l.chunks place → AreRising p.entries
entries_rise p l place shows names i j first second a b below =
    let x = stands_under (entry_of l.histories) l.chunks i first (ap (λ es. slice_get es i) (sym shows.entries) ∙ a) in
    let y = stands_under (entry_of l.histories) l.chunks j second (ap (λ es. slice_get es j) (sym shows.entries) ∙ b) in
    let rise = names.rising i j x.0 y.0 x.1 y.1 below in
    let first_is = ap (λ (e : ChunkEntry). e.name) x.2 in
    let second_is = ap (λ (e : ChunkEntry). e.name) y.2 in omega arith

-- the chunk whose entry was found
pub record IsChunk (l : Ledger) (name index : ℕ) (entry : ChunkEntry) : Type 0 where
  pub chunk : Chunk
  pub stands : slice_get l.chunks index ≡ Some chunk
  pub entry_is : entry ≡ entry_of l.histories chunk
  pub same_name : chunk.name ≡ name
  pub named : chunk_named l name ≡ Some chunk

pub found_chunk : (p : Core) (l : Ledger) (name : ℕ) (found : Found) → IsSettled l → Shows p l →
    IsFound p.entries name found → IsChunk l name found.index found.entry
found_chunk p l name found s shows is =
    let x = stands_under (entry_of l.histories) l.chunks found.index found.entry
    (ap (λ es. slice_get es found.index) (sym shows.entries) ∙ is.0) in
    let same : x.0.name ≡ name = ap (λ (e : ChunkEntry). e.name) (sym x.2) ∙ is.1 in
    record {
      chunk = x.0;
      stands = x.1;
      entry_is = x.2;
      same_name = same;
      named = subst (λ n. chunk_named l n ≡ Some x.0) same (named l s found.index x.0 x.1);
    }

pub found_none : (p : Core) (l : Ledger) (name : ℕ) → Shows p l → HasNoEntry p.entries name →
    chunk_named l name ≡ None
found_none p l name shows none = go (chunk_named l name) refl
  where
    go : (o : Option Chunk) → chunk_named l name ≡ o → chunk_named l name ≡ None
    go None e = e
    go (Some chunk) e =
        let found = find_stands l.chunks name chunk e in
        absurd (none found.0 (entry_of l.histories chunk) (entry_at p l found.0 chunk shows found.1) found.2)

-- a loan is told by the entry
pub loaned_is : (l : Ledger) (name index : ℕ) (entry : ChunkEntry) (c : IsChunk l name index entry) →
    entry.loaned ≡ true → loaned_chunk l name ≡ Some c.chunk
loaned_is l name index entry c loaned =
    ap if_loaned c.named
    ∙ ap (λ b. cond b (Some c.chunk) None) (ap (λ (e : ChunkEntry). e.loaned) (sym c.entry_is) ∙ loaned)

pub unloaned_is : (l : Ledger) (name index : ℕ) (entry : ChunkEntry) (c : IsChunk l name index entry) →
    entry.loaned ≡ false → loaned_chunk l name ≡ None
unloaned_is l name index entry c ended =
    ap if_loaned c.named
    ∙ ap (λ b. cond b (Some c.chunk) None) (ap (λ (e : ChunkEntry). e.loaned) (sym c.entry_is) ∙ ended)

pub unnamed_is : (l : Ledger) (name : ℕ) → chunk_named l name ≡ None → loaned_chunk l name ≡ None
unnamed_is l name none = ap if_loaned none
