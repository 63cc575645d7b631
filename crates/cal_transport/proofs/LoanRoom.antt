-- The room of a transport for a further table of owners.
use Rattle.std.proofs.Common.{ℕ, ◌+◌, ◌-◌, ◌≤◌, ◌≡◌, length, map, Vec, vec_items, vec_len, vec_capacity, arith}
use Rattle.std.specs.declared.alloc.Global.{Global}
use Rattle.std.proofs.lemmas.List.{length-map}

module _ (owners : Vec (Vec ℕ Global) Global) (more : ℕ) where
  -- it is there while there are fewer tables than there may be segments
  pub table_room : 256 ≤ length (map vec_items owners.items) + (vec_capacity owners - vec_len owners) →
      length (map vec_items owners.items) + more ≤ 256 → vec_len owners + more ≤ vec_capacity owners
  table_room all few =
      let long = length-map owners.items (vec_items {X = ℕ} {Z = Global}) in
      let same = owners.ok in omega arith

  -- and as much less is left as the table takes
  pub tables_left : (after : Vec (Vec ℕ Global) Global) → vec_len owners + more ≤ vec_capacity owners →
      vec_len after ≡ vec_len owners + more → vec_capacity after ≡ vec_capacity owners →
      vec_capacity owners - vec_len owners ≡ vec_capacity after - vec_len after + more
  tables_left after room len capacity = omega arith
