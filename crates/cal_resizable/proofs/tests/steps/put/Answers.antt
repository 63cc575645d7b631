use Rattle.std.proofs.Common.{◌+◌, ◌≡◌, length, subst, sym}
use Rattle.std.specs.List.{slice_range}
use Rattle.cal_alloc.specs.PointerOffset.{offset_of, segment_of}
use Rattle.cal_resizable.specs.Growth.{OfSegment}
use Rattle.cal_resizable.specs.Slots.{id_at_slot}
use Rattle.cal_resizable.specs.Together.{AreTogether}
use Rattle.cal_resizable.proofs.StepLemmas.{written_there}
use Rattle.cal_resizable.proofs.tests.steps.put.Goals as goal

pub returns-clause-written : goal.returns-clause-written
returns-clause-written g c =
    let offset = c.args.offset in
    let bytes = c.args.bytes.now in
    subst (λ contents. OfSegment contents c.args.memory.now.slots (segment_of offset)
    (λ segment. slice_range segment.payload (offset_of offset) (offset_of offset + length bytes) ≡ bytes))
    (sym c.write.ensures.written)
    (written_there c.args.reg.now c.args.memory.now.slots (segment_of offset) (offset_of offset) bytes
    c.requires.within)

pub returns-clause-together : goal.returns-clause-together
returns-clause-together g c =
    subst (λ contents. AreTogether contents c.args.memory.now c.args.view.now) (sym c.write.ensures.written)
    (c.a_memory_stays_with_its_view.ensures.written c.args.reg.now c.args.memory.now c.args.view.now
    (id_at_slot c.args.memory.now.slots (segment_of c.args.offset)) (offset_of c.args.offset) c.args.bytes.now
    c.requires.together)
