use Rattle.std.proofs.Common.{ℕ, ◌≡◌, List, length, replicate, sym, subst}
use Rattle.std.proofs.lemmas.List.{length-replicate}
use Rattle.cal_alloc.specs.Pool.{Pool}
use Rattle.cal_alloc.specs.PointerOffset.{offset_of, segment_of}
use Rattle.cal_shm.specs.Calls.{IsInPayload}
use Rattle.cal_shm.specs.Segment.{Segment}
use Rattle.cal_resizable.specs.Growth.{OfSegment}
use Rattle.cal_resizable.specs.Slots.{id_at_slot}
use Rattle.cal_resizable.specs.Together.{AreTogether}
use Rattle.cal_transport.proofs.Putting.{puts}
use Rattle.cal_transport.proofs.transport.writing.put_zeros.Goals as goal

pub returns : goal.returns
returns c =
    let reg = c.args.reg.now in
    let memory = c.args.memory.now in
    let view = c.args.view.now in
    let number = segment_of c.args.pointer in
    let place = offset_of c.args.pointer in
    let zeros : List ℕ = replicate c.args.count 0 in
    let many : length zeros ≡ c.args.count = length-replicate {A = ℕ} c.args.count 0 in
    record {
      put = puts memory view reg c.write_zeros.new.reg number place zeros c.requires.together
          (subst (λ n. OfSegment reg memory.slots number (λ (s : Segment Pool). IsInPayload s.payload place n))
          (sym many) c.requires.within)
          c.write_zeros.ensures.written
          (subst (λ contents. AreTogether contents memory view) (sym c.write_zeros.ensures.written)
          (c.a_memory_stays_with_its_view.ensures.written reg memory view (id_at_slot memory.slots number) place
          zeros c.requires.together));
    }
