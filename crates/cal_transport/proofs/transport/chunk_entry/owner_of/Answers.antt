use Rattle.std.proofs.Common.{◌∙◌, Some, vec_items, sym, ap, arith}
use Rattle.std.specs.List.{slice_get}
use Rattle.std.proofs.lemmas.Option.{slice_get_within}
use Rattle.cal_transport.specs.ChunkEntry.{owners_of}
use Rattle.cal_transport.proofs.Owners.{some_value, table_is, owner_is}
use Rattle.cal_transport.proofs.transport.chunk_entry.owner_of.Goals as goal

pub index-requires : goal.index-requires
index-requires c =
    let owner = some_value (slice_get (owners_of c.args.owners.now c.args.segment) c.args.bucket) c.requires.owned in
    let table = c.index-owners-segment.result in
    let there = ap (λ os. slice_get os c.args.bucket) (sym (table_is c.args.owners.now c.args.segment c.args.bucket
    owner.0 table c.index-owners-segment.is owner.1)) ∙ owner.1 in
    let below = slice_get_within (vec_items table) c.args.bucket owner.0 there in
    let long = table.ok in omega arith

pub returns : goal.returns
returns c =
    let owner = some_value (slice_get (owners_of c.args.owners.now c.args.segment) c.args.bucket) c.requires.owned in
    record {
      owner = owner.1 ∙ ap Some (sym (owner_is c.args.owners.now c.args.segment c.args.bucket owner.0
          c.index-owners-segment.result c.index.result.now c.index-owners-segment.is c.index.ensures owner.1));
    }
