use Rattle.std.proofs.Common.{sym, subst}
use Rattle.cal_alloc.specs.PointerOffset.{offset_of, segment_of}
use Rattle.cal_resizable.specs.Slots.{id_at_slot}
use Rattle.cal_resizable.specs.Together.{AreTogether}
use Rattle.cal_transport.proofs.Putting.{puts}
use Rattle.cal_transport.proofs.transport.writing.put_bytes.Goals as goal

pub returns : goal.returns
returns c =
    let reg = c.args.reg.now in
    let memory = c.args.memory.now in
    let view = c.args.view.now in
    let number = segment_of c.args.pointer in
    let place = offset_of c.args.pointer in
    record {
      put = puts memory view reg c.write_bytes.new.reg number place c.args.bytes.now c.requires.together
          c.requires.within
          c.write_bytes.ensures.written
          (subst (λ contents. AreTogether contents memory view) (sym c.write_bytes.ensures.written)
          (c.a_memory_stays_with_its_view.ensures.written reg memory view (id_at_slot memory.slots number) place
          c.args.bytes.now c.requires.together));
    }
