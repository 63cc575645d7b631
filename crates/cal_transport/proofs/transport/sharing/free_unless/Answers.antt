use Rattle.std.proofs.Common.{◌/◌, ◌∙◌, sym, subst}
use Rattle.std.proofs.lemmas.Option.{same_Some}
use Rattle.cal_alloc.specs.Pool.{Pool}
use Rattle.cal_alloc.specs.PointerOffset.{offset_of, segment_of}
use Rattle.cal_shm.specs.Segment.{Segment}
use Rattle.cal_transport.specs.Sharing.{FreesUnless}
use Rattle.cal_transport.proofs.Frees.{frees}
use Rattle.cal_transport.proofs.transport.sharing.free_unless.Goals as goal

pub returns-then-not-kept : goal.returns-then-not-kept
returns-then-not-kept c =
    let freed = c.deallocate_bucket.ensures.freed in
    let returned = c.a_call_changes_one_segment.ensures.returned c.args.reg.now c.deallocate_bucket.new.reg
    c.args.memory.now c.deallocate_bucket.new.self c.args.pointer c.requires.together.memory_sound
    c.requires.together.has_memory c.requires.out freed in
    let together = c.a_memory_stays_with_its_view.ensures.returned c.args.reg.now c.deallocate_bucket.new.reg
    c.args.memory.now c.deallocate_bucket.new.self c.args.view.now c.args.pointer c.requires.out freed
    c.deallocate_bucket.ensures.own c.deallocate_bucket.ensures.spares c.requires.together in
    let gone = frees c.args.reg.now c.deallocate_bucket.new.reg c.args.memory.now c.deallocate_bucket.new.self
    c.args.view.now c.args.pointer freed.held freed.there returned freed.memory together in
    record {
      freed = λ segment is. subst (λ (s : Segment Pool). FreesUnless c.args.kept c.args.view.now c.args.reg.now
          c.args.memory.now (segment_of c.args.pointer) (offset_of c.args.pointer / s.allocator.buckets.size)
          c.deallocate_bucket.new.reg c.deallocate_bucket.new.self)
          (same_Some returned.was segment (sym returned.origin ∙ is))
          (subst (λ b. FreesUnless b c.args.view.now c.args.reg.now c.args.memory.now (segment_of c.args.pointer)
          (offset_of c.args.pointer / returned.was.allocator.buckets.size) c.deallocate_bucket.new.reg
          c.deallocate_bucket.new.self) (sym c.if-not-kept.true) gone);
    }
