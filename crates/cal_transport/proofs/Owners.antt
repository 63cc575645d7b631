-- The owner of a bucket, read from the table of its segment.
use Rattle.std.proofs.Common.{ℕ, ◌≡◌, List, [], length, get_or, map, Option, Some, None, Vec, vec_items, IsSome, refl, inl, inr, sym, ap, ◌∙◌, arith}
use Rattle.std.specs.declared.alloc.Global.{Global}
use Rattle.std.specs.List.{slice_get}
use Rattle.std.proofs.Math.ListN.{get_or-map}
use Rattle.std.proofs.lemmas.Bool.{false≢true, cases_lt}
use Rattle.std.proofs.lemmas.List.{get_or_default, get_or_past, length-map}
use Rattle.std.proofs.lemmas.Option.{none-some, same_Some, slice_get-get_or, slice_get_within}
use Rattle.cal_transport.specs.ChunkEntry.{owners_of}

-- the table that was found is that of the segment
pub table_is : (owners : List (Vec ℕ Global)) (segment bucket index : ℕ) (table : Vec ℕ Global) →
    table ≡ get_or owners segment table → slice_get (owners_of owners segment) bucket ≡ Some index →
    owners_of owners segment ≡ vec_items table
table_is owners segment bucket index table is owner = elim (cases_lt segment (length owners)) [
  | inl below ↦
      get_or_default (map vec_items owners) segment [] (vec_items table)
      (let long = length-map owners vec_items in omega arith)
      ∙ get_or-map vec_items owners segment table ∙ ap vec_items (sym is)
  | inr past ↦ absurd (none-some index (sym (ap (λ os. slice_get os bucket)
      (get_or_past (map vec_items owners) segment [] (let long = length-map owners vec_items in omega arith))) ∙ owner))
]

-- what was read there is the owner
pub owner_is : (owners : List (Vec ℕ Global)) (segment bucket index : ℕ) (table : Vec ℕ Global) (found : ℕ) →
    table ≡ get_or owners segment table → found ≡ get_or (vec_items table) bucket found →
    slice_get (owners_of owners segment) bucket ≡ Some index → found ≡ index
owner_is owners segment bucket index table found is read owner =
    let there = ap (λ os. slice_get os bucket) (sym (table_is owners segment bucket index table is owner)) ∙ owner in
    let below = slice_get_within (vec_items table) bucket index there in
    read ∙ same_Some (get_or (vec_items table) bucket found) index
    (sym (slice_get-get_or (vec_items table) bucket found below) ∙ there)

-- what is there has a value
pub some_value : {A : Type 0} (o : Option A) → IsSome o → (x : A) × (o ≡ Some x)
some_value None held = absurd (false≢true held)
some_value (Some x) held = (x, refl)
