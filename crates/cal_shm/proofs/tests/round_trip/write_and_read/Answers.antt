use Rattle.std.proofs.Common.{length, ◌∙◌}
use Rattle.cal_alloc.specs.PointerOffset.{offset_of}
use Rattle.cal_shm.proofs.WrittenBytesLemmas.{has_room, has_after, within_after, allocator_after, keeps_after, read_after}
use Rattle.cal_shm.proofs.tests.round_trip.write_and_read.Goals as goal

pub bytes-requires-clause-there : goal.bytes-requires-clause-there
bytes-requires-clause-there g c =
    let handle = g.M.PayloadHolder.handle c.args.memory.now in
    let offset = offset_of c.in_ok-pointer.pointer.offset in
    has_after c.args.reg.now c.allocate.new.reg c.write.new.reg handle c.requires.there _
    c.in_ok-pointer.ensures.given offset c.args.bytes.now c.write.ensures.written

pub bytes-requires-clause-within : goal.bytes-requires-clause-within
bytes-requires-clause-within g c =
    let handle = g.M.PayloadHolder.handle c.args.memory.now in
    let offset = offset_of c.in_ok-pointer.pointer.offset in
    let within = has_room c.args.reg.now c.allocate.new.reg handle c.requires.there _ c.in_ok-pointer.ensures.given
    g.A.ShmAllocator.properties g.A.ShmAllocator.refusal c.args.layout c.in_ok-pointer.pointer.offset
    (length c.args.bytes.now) (λ allocator. g.met.A.ShmAllocator.served allocator c.args.layout) c.requires.fits
    c.in_ok-pointer.ensures.refused c.in_ok-pointer.ensures.within in
    within_after c.args.reg.now c.allocate.new.reg c.write.new.reg handle c.requires.there _
    c.in_ok-pointer.ensures.given offset c.args.bytes.now c.write.ensures.written within

pub deallocate-requires-clause-there : goal.deallocate-requires-clause-there
deallocate-requires-clause-there g c =
    let handle = g.M.PayloadHolder.handle c.args.memory.now in
    let offset = offset_of c.in_ok-pointer.pointer.offset in
    has_after c.args.reg.now c.allocate.new.reg c.write.new.reg handle c.requires.there _
    c.in_ok-pointer.ensures.given offset c.args.bytes.now c.write.ensures.written

pub deallocate-requires-clause-allocated : goal.deallocate-requires-clause-allocated
deallocate-requires-clause-allocated g c =
    let handle = g.M.PayloadHolder.handle c.args.memory.now in
    let offset = offset_of c.in_ok-pointer.pointer.offset in
    allocator_after c.args.reg.now c.allocate.new.reg c.write.new.reg handle c.requires.there _
    c.in_ok-pointer.ensures.given offset c.args.bytes.now c.write.ensures.written
    (λ allocator. g.A.ShmAllocator.IsAllocated allocator c.in_ok-pointer.pointer.offset)
    c.in_ok-pointer.ensures.allocated

pub returns-in_err-read-clause-keeps : goal.returns-in_err-read-clause-keeps
returns-in_err-read-clause-keeps g c =
    let handle = g.M.PayloadHolder.handle c.args.memory.now in
    let offset = offset_of c.in_ok-pointer.pointer.offset in
    keeps_after c.args.reg.now c.allocate.new.reg c.write.new.reg handle c.requires.there _
    c.in_ok-pointer.ensures.given offset c.args.bytes.now c.write.ensures.written
    c.in_ok-pointer.ensures.keeps c.deallocate.new.reg c.deallocate.ensures.keeps

pub returns-clause-keeps : goal.returns-clause-keeps
returns-clause-keeps g c =
    let handle = g.M.PayloadHolder.handle c.args.memory.now in
    let offset = offset_of c.in_ok-pointer.pointer.offset in
    keeps_after c.args.reg.now c.allocate.new.reg c.write.new.reg handle c.requires.there _
    c.in_ok-pointer.ensures.given offset c.args.bytes.now c.write.ensures.written
    c.in_ok-pointer.ensures.keeps c.deallocate.new.reg c.deallocate.ensures.keeps

pub returns-clause-read : goal.returns-clause-read
returns-clause-read g c =
    let handle = g.M.PayloadHolder.handle c.args.memory.now in
    let offset = offset_of c.in_ok-pointer.pointer.offset in
    let within = has_room c.args.reg.now c.allocate.new.reg handle c.requires.there _ c.in_ok-pointer.ensures.given
    g.A.ShmAllocator.properties g.A.ShmAllocator.refusal c.args.layout c.in_ok-pointer.pointer.offset
    (length c.args.bytes.now) (λ allocator. g.met.A.ShmAllocator.served allocator c.args.layout) c.requires.fits
    c.in_ok-pointer.ensures.refused c.in_ok-pointer.ensures.within in
    c.in_ok-read.ensures.items
    ∙ read_after c.args.reg.now c.allocate.new.reg c.write.new.reg handle c.requires.there _
    c.in_ok-pointer.ensures.given offset c.args.bytes.now c.write.ensures.written within
    c.bytes.result.now c.bytes.ensures.bytes
