-- The chunk is out once it was loaned, and stays so.
use Rattle.std.proofs.Common.{◌∷◌}
use Rattle.cal_resizable.specs.Chunks.{Chunk}
use Rattle.cal_resizable.proofs.tests.round_trip.send.Goals as goal

pub returns-clause-out : goal.returns-clause-out
returns-clause-out g c = λ chunks some out.
    let one = c.in-Ok.ensures.out chunks some out in
    let chunk : Chunk = record { pointer = c.in-Ok.offset; layout = c.args.layout; size = one.0 } in
    (one.0, c.arrive.ensures.out (chunk ∷ chunks) (c.put.ensures.out (chunk ∷ chunks) one.1))
