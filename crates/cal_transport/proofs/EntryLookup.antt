-- What a binary search by name finds among entries whose names rise.
use Rattle.std.proofs.Common.{◌≡◌, ℕ, zero, suc, ◌<◌, ◌≤◌, false, List, [], ◌∷◌, length, get_or, Some, refl, sym, ap, ◌∙◌, arith}
use Rattle.std.specs.List.{slice_get}
use Rattle.std.specs.List.Sorted.{IsNonDecreasingBy, IsPartitionPoint}
use Rattle.std.specs.Ordering.{nat_cmp, ordering_index}
use Rattle.std.specs.declared.cmp.Ordering.TheVariants.{Less, Greater}
use Rattle.std.proofs.lemmas.Cmp.{ranked}
use Rattle.std.proofs.lemmas.Option.{same_Some, slice_get_within}
use Rattle.std.proofs.lemmas.List.Sorted.{IsNonDecreasingBy-from_default}
use Rattle.std.proofs.lemmas.Bool.Decides.{nat_tests}
use Rattle.cal_transport.specs.declared.transport.chunk_entry.ChunkEntry.{ChunkEntry}
use Rattle.cal_transport.specs.ChunkEntry.{AreRising, HasNoEntry}

pub slice_get-here : {A : Type 0} (xs : List A) (i : ℕ) (d : A) → i < length xs → slice_get xs i ≡ Some (get_or xs i d)
slice_get-here [] i d h = absurd (omega arith)
slice_get-here (x ∷ xs) zero d h = refl
slice_get-here (x ∷ xs) (suc i) d h = slice_get-here xs i d (omega arith)

abbrev no_entry : ChunkEntry
no_entry = record { name = 0; segment = 0; bucket = 0; loaned = false; sent = false; transits = 0 }

abbrev name_at : List ChunkEntry → ℕ → ℕ
name_at entries i = (get_or entries i no_entry).name

names_rise : (entries : List ChunkEntry) (i j : ℕ) → AreRising entries → i < j → j < length entries →
    name_at entries i < name_at entries j
names_rise entries i j rising lt within =
    rising i j (get_or entries i no_entry) (get_or entries j no_entry)
    (slice_get-here entries i no_entry (omega arith)) (slice_get-here entries j no_entry within) lt

-- the comparisons with a name rise along the list, as a binary search asks
comparisons_rise : (entries : List ChunkEntry) (name : ℕ) → AreRising entries →
    IsNonDecreasingBy (λ entry. ordering_index (nat_cmp entry.name name)) entries
comparisons_rise entries name rising =
    IsNonDecreasingBy-from_default (λ entry. ordering_index (nat_cmp entry.name name)) entries no_entry
    (λ i j le within.
    (let names : name_at entries i ≤ name_at entries j =
    grind (arith, names_rise entries i j rising, λ (same : i ≡ j). ap (name_at entries) same) in
    grind (arith, nat_tests)))

pub has_no_entry : (entries : List ChunkEntry) (name at : ℕ) → AreRising entries →
    (IsNonDecreasingBy (λ entry. ordering_index (nat_cmp entry.name name)) entries →
    IsPartitionPoint (λ entry. nat_cmp entry.name name ≡ Less) (λ entry. nat_cmp entry.name name ≡ Greater) entries at)
    →
    HasNoEntry entries name
has_no_entry entries name at rising parted i entry e same =
    let parts = parted (comparisons_rise entries name rising) in
    let within = slice_get_within entries i entry e in
    let here : name_at entries i ≡ name =
    ap (λ (x : ChunkEntry). x.name) (same_Some _ entry (sym (slice_get-here entries i no_entry within) ∙ e)) ∙ same in
    let below : i < at → name_at entries i < name =
    λ lt. ranked _ name _ (sym (parts.0 i no_entry (omega arith) lt)) in
    let above : at ≤ i → name < name_at entries i =
    λ le. ranked _ name _ (sym (parts.1 i no_entry le within)) in
    grind (arith, below, above)
