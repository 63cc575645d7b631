-- A bucket gets an owner, as the tables' calls say it.
use Rattle.std.proofs.Common.{ℕ, ◌≡◌, ◌<◌, List, [], length, get_or, set, map, Vec, vec_items, inl, inr, sym, ap, ◌∙◌, arith}
use Rattle.std.specs.declared.alloc.Global.{Global}
use Rattle.std.proofs.Math.ListN.{get_or-map}
use Rattle.std.proofs.lemmas.Bool.{cases_lt}
use Rattle.std.proofs.lemmas.List.{get_or_default, get_or_past, length-map, map-set}
use Rattle.cal_transport.specs.Owning.{table_at, with_owner}

module _ (owners : List (Vec ℕ Global)) (segment bucket : ℕ)
    (place : bucket < length (table_at (map vec_items owners) segment)) where
  -- the segment has a table
  pub has_table : segment < length owners
  has_table = elim (cases_lt segment (length owners)) [
    | inl below ↦ below
    | inr past ↦
        let long = length-map owners vec_items in
        let none = ap length (get_or_past (map vec_items owners) segment [] (omega arith)) in
        absurd (omega (arith, place))
  ]

  module _ (table : Vec ℕ Global) (is : table ≡ get_or owners segment table) where
    table_is : table_at (map vec_items owners) segment ≡ vec_items table
    table_is =
        get_or_default (map vec_items owners) segment [] (vec_items table)
        (let long = length-map owners vec_items in let below = has_table in omega arith)
        ∙ get_or-map vec_items owners segment table ∙ ap vec_items (sym is)

    -- and a place for the bucket there
    pub has_place : bucket < length (vec_items table)
    has_place = (let same = ap length table_is in omega (arith, place))

    -- the tables after it was written there
    pub owner_set : (index : ℕ) (written : Vec ℕ Global) → vec_items written ≡ set (vec_items table) bucket index →
        map vec_items (set owners segment written) ≡ with_owner (map vec_items owners) segment bucket index
    owner_set index written written_is =
        map-set vec_items owners segment written
        ∙ ap (set (map vec_items owners) segment)
        (written_is ∙ ap (λ os. set os bucket index) (sym table_is))
