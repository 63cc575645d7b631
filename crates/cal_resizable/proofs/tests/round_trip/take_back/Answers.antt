-- The chunk is out still once it has left the view, and is no more once it was taken back.
use Rattle.std.proofs.Common.{◌∷◌, refl}
use Rattle.cal_resizable.specs.Chunks.{Chunk}
use Rattle.cal_resizable.proofs.tests.round_trip.take_back.Goals as goal

pub give_back-requires-clause-allocated : goal.give_back-requires-clause-allocated
give_back-requires-clause-allocated g c =
    let out = c.requires.out in
    let chunk : Chunk = record { pointer = c.args.offset; layout = c.args.layout; size = out.0 } in
    c.a_chunk_that_is_out_can_be_used.ensures.allocated c.leave.new.reg c.args.memory.now.slots (chunk ∷ out.1) 0
    chunk refl (c.leave.ensures.out (chunk ∷ out.1) out.2)

pub returns-clause-out : goal.returns-clause-out
returns-clause-out g c = λ size chunks out.
    let chunk : Chunk = record { pointer = c.args.offset; layout = c.args.layout; size = size } in
    c.give_back.ensures.out 0 chunk (chunk ∷ chunks) refl refl (c.leave.ensures.out (chunk ∷ chunks) out)
