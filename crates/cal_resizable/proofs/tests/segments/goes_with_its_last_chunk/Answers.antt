-- The first chunk is out still after the second was handed out.
use Rattle.std.proofs.Common.{[], ◌∷◌, refl, arith}
use Rattle.cal_resizable.specs.Chunks.{Chunk}
use Rattle.cal_resizable.proofs.WritingLemmas.{out_counted, out_allocated}
use Rattle.cal_resizable.proofs.tests.segments.goes_with_its_last_chunk.Goals as goal

pub deallocate-requires-clause-chunks : goal.deallocate-requires-clause-chunks
deallocate-requires-clause-chunks g c =
    let R = g.A.ShmAllocator in
    let one = c.in_ok-first.ensures.stays_out [] (omega (arith, c.in_ok-small.ensures.size))
    c.in_ok-memory.ensures.none_out in
    let first : Chunk =
    record { pointer = c.in_ok-first.first.offset; layout = c.in_ok-small.small; size = one.0 } in
    let two = c.in_ok-second.ensures.stays_out (first ∷ []) (omega (arith, c.in_ok-large.ensures.size)) one.1 in
    out_counted R c.allocate-2.new.reg c.allocate-2.new.self.slots _ 1 first refl two.1

pub deallocate-requires-clause-allocated : goal.deallocate-requires-clause-allocated
deallocate-requires-clause-allocated g c =
    let R = g.A.ShmAllocator in
    let one = c.in_ok-first.ensures.stays_out [] (omega (arith, c.in_ok-small.ensures.size))
    c.in_ok-memory.ensures.none_out in
    let first : Chunk =
    record { pointer = c.in_ok-first.first.offset; layout = c.in_ok-small.small; size = one.0 } in
    let two = c.in_ok-second.ensures.stays_out (first ∷ []) (omega (arith, c.in_ok-large.ensures.size)) one.1 in
    out_allocated R c.allocate-2.new.reg c.allocate-2.new.self.slots _ 1 first refl two.1
