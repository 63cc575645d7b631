use Rattle.std.proofs.Common.{◌<◌, length, refl, arith}
use Rattle.std.specs.Vec.{with_item}
use Rattle.cal_transport.proofs.Entering.{has_table, has_place, owner_set}
use Rattle.cal_transport.proofs.transport.loaning.set_owner.Goals as goal

pub overflow_cast-entry : goal.overflow_cast-entry
overflow_cast-entry c =
    let below = has_table c.args.owners.now.items c.args.entry.segment c.args.entry.bucket c.requires.place in
    let long = c.args.owners.now.ok in
    let small = c.args.owners.now.small in omega arith

pub index_mut-requires : goal.index_mut-requires
index_mut-requires c =
    let below = has_table c.args.owners.now.items c.args.entry.segment c.args.entry.bucket c.requires.place in
    let long = c.args.owners.now.ok in omega arith

pub index_mut-requires-2 : goal.index_mut-requires-2
index_mut-requires-2 c =
    let below = has_place c.args.owners.now.items c.args.entry.segment c.args.entry.bucket c.requires.place
    c.index_mut.result.now c.index_mut.ensures.value in
    let long = c.index_mut.result.now.ok in omega arith

pub returns-clause-owners : goal.returns-clause-owners
returns-clause-owners c =
    owner_set c.args.owners.now.items c.args.entry.segment c.args.entry.bucket c.requires.place
    c.index_mut.result.now c.index_mut.ensures.value c.args.index
    (with_item c.index_mut.result.now c.args.entry.bucket c.args.index) refl
