use Rattle.std.proofs.Common.{◌≡◌, ◌+◌, ◌≤◌, ◌∷◌, [], map, vec_items, vec_len, vec_capacity, refl, sym, ap, ◌∙◌, subst, arith}
use Rattle.std.proofs.lemmas.List.{map-append}
use Rattle.cal_transport.specs.Owning.{tables_in, with_table}
use Rattle.cal_transport.proofs.transport.loaning.add_table.Goals as goal

pub push_reserved-requires : goal.push_reserved-requires
push_reserved-requires c =
    let one = ap tables_in c.in-Some.is in
    let room = c.requires.room in omega arith

pub returns-in-Some-clause-owners : goal.returns-in-Some-clause-owners
returns-in-Some-clause-owners c =
    ap (map vec_items) c.push_reserved.ensures.items
    ∙ map-append vec_items c.args.owners.now.items (c.in-Some.table ∷ [])
    ∙ ap (with_table (map vec_items c.args.owners.now.items)) (sym c.in-Some.is)

pub returns-in-Some-clause-len : goal.returns-in-Some-clause-len
returns-in-Some-clause-len c =
    let one = ap tables_in c.in-Some.is in
    let more = c.push_reserved.ensures.len in omega arith

pub returns-in_default-clause-owners : goal.returns-in_default-clause-owners
returns-in_default-clause-owners c = ap (with_table (map vec_items c.args.owners.now.items)) (sym c.in_default.is)

pub returns-in_default-clause-len : goal.returns-in_default-clause-len
returns-in_default-clause-len c = let none = ap tables_in c.in_default.is in omega arith
