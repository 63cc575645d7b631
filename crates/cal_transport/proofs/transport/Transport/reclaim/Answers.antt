use Rattle.std.proofs.Common.{◌≡◌, ◌-◌, ◌/◌, ◌∙◌, ℕ, length, Option, Some, None, Result, Ok, Err, vec_len, vec_capacity, refl, sym, ap, subst, arith}
use Rattle.std.proofs.lemmas.List.{length-set}
use Rattle.cal_alloc.specs.PointerOffset.{offset_of, segment_of}
use Rattle.cal_alloc.specs.Pool.{Pool}
use Rattle.cal_storage.specs.Contents.{Contents}
use Rattle.cal_shm.specs.Segment.{Segment}
use Rattle.cal_connection.specs.declared.errors.ZeroCopyReclaimError.{ZeroCopyReclaimError}
use Rattle.cal_connection.specs.Port.{PortEntry, SenderEnd}
use Rattle.cal_resizable.specs.Chunks.{segment_value}
use Rattle.cal_transport.specs.declared.command.Command.TheVariants as command
use Rattle.cal_transport.specs.declared.reply.Reply.TheVariants.{Reclaimed, Refused}
use Rattle.cal_transport.specs.declared.reply.Refusal.TheVariants as refusal
use Rattle.cal_transport.specs.declared.reply.Slot.{Slot}
use Rattle.cal_transport.specs.ChunkEntry.{owners_of}
use Rattle.cal_transport.specs.Pointed.{PointsTo}
use Rattle.cal_transport.specs.Room.{TakesRoomOfOne}
use Rattle.cal_transport.specs.Sharing.{FreesUnless}
use Rattle.cal_transport.specs.Step.{after_step}
use Rattle.cal_transport.specs.State.{TransportState, Represents, IsLinked, DoesAnywhere}
use Rattle.cal_transport.specs.StateOf.{state_of}
use Rattle.cal_transport.proofs.Standing.{outside, unchanged}
use Rattle.cal_transport.proofs.ReclaimCode.{ReclaimCall, reclaim_outside_does, reclaim_answers, reclaim_none_state, reclaim_none_does, front_leads, front_out, front_used, front_counted, front_in_all, found_index, found_transit, reclaimed_linked, reclaimed_does}
use Rattle.cal_transport.proofs.RoomTaken.{same_spare, makes_none}
use Rattle.cal_transport.proofs.transport.Transport.reclaim.Goals as goal

call_at : (t : TransportState) (n k : ℕ) → n ≡ k → (a b : Result (Option ℕ) ZeroCopyReclaimError) → a ≡ b →
    (registry : Contents PortEntry) (sender : SenderEnd) → ReclaimCall t n a registry sender →
    ReclaimCall t k b registry sender
call_at t n k same a b is registry sender call =
    subst (λ m. ReclaimCall t m b registry sender) same
    (subst (λ r. ReclaimCall t n r registry sender) is call)

pub returns-then-channel-self-clause-step : goal.returns-then-channel-self-clause-step
returns-then-channel-self-clause-step c =
    unchanged c.self.inside c.self.invariant c.args.self.now c.self.view_is (command.Reclaim c.args.channel)
    (Refused refusal.OutsideConnection) tt
    (reclaim_outside_does (state_of c.self.inside) c.args.channel c.if-channel-self.true)

pub returns-then-channel-self-clause-room : goal.returns-then-channel-self-clause-room
returns-then-channel-self-clause-room c = makes_none c.args.self.now c.args.self.now refl (omega arith)

pub unreachable-requires : goal.unreachable-requires
unreachable-requires c =
    let call = call_at (state_of c.self.inside) c.new.result c.args.channel c.new.ensures.value
    c.reclaim-answer.result (Err c.in-Err.field-0) c.in-Err.is c.reclaim-answer.new.reg c.reclaim-answer.new.self
    (record {
      answer_is = c.reclaim-answer.ensures.answer;
      registry_is = c.reclaim-answer.ensures.reclaimed;
      sender_is = c.reclaim-answer.ensures.port;
    }) in
    reclaim_answers (state_of c.self.inside) c.self.invariant.linked c.args.channel c.if-channel-self.false
    c.self.invariant.ledger c.self.invariant.represents c.in-Err.field-0 c.reclaim-answer.new.reg
    c.reclaim-answer.new.self call

pub invariant_of-self : goal.invariant_of-self
invariant_of-self c =
    let call = call_at (state_of c.self.inside) c.new.result c.args.channel c.new.ensures.value
    c.reclaim-answer.result (Ok None) (c.in-Ok.is ∙ ap Ok c.in-None.is) c.reclaim-answer.new.reg
    c.reclaim-answer.new.self (record {
      answer_is = c.reclaim-answer.ensures.answer;
      registry_is = c.reclaim-answer.ensures.reclaimed;
      sender_is = c.reclaim-answer.ensures.port;
    }) in
    let same = reclaim_none_state (state_of c.self.inside) c.self.invariant.linked c.args.channel
    c.if-channel-self.false
    c.reclaim-answer.new.reg c.reclaim-answer.new.self call in
    record {
      ledger = c.self.invariant.ledger;
      represents = subst (λ t. Represents t c.self.invariant.ledger) (sym same) c.self.invariant.represents;
      linked = subst IsLinked (sym same) c.self.invariant.linked;
    }

pub returns-in-None-clause-step : goal.returns-in-None-clause-step
returns-in-None-clause-step c =
    let call = call_at (state_of c.self.inside) c.new.result c.args.channel c.new.ensures.value
    c.reclaim-answer.result (Ok None) (c.in-Ok.is ∙ ap Ok c.in-None.is) c.reclaim-answer.new.reg
    c.reclaim-answer.new.self (record {
      answer_is = c.reclaim-answer.ensures.answer;
      registry_is = c.reclaim-answer.ensures.reclaimed;
      sender_is = c.reclaim-answer.ensures.port;
    }) in
    let same = reclaim_none_state (state_of c.self.inside) c.self.invariant.linked c.args.channel
    c.if-channel-self.false
    c.reclaim-answer.new.reg c.reclaim-answer.new.self call in
    outside c.self.inside c.self.invariant c.args.self.now c.self.view_is (record (state_of c.self.inside) {
      connection_registry = c.reclaim-answer.new.reg;
      sender = c.reclaim-answer.new.self;
    })
    (command.Reclaim c.args.channel) (Reclaimed None) tt
    (subst (λ t. DoesAnywhere (state_of c.self.inside) (command.Reclaim c.args.channel) (Reclaimed None) t) (sym same)
    (reclaim_none_does (state_of c.self.inside) c.self.invariant.linked c.args.channel c.if-channel-self.false
    c.reclaim-answer.new.reg c.reclaim-answer.new.self call))

pub returns-in-None-clause-room : goal.returns-in-None-clause-room
returns-in-None-clause-room c =
    let same : TransportState = record (state_of c.self.inside) {
      connection_registry = c.reclaim-answer.new.reg;
      sender = c.reclaim-answer.new.self;
    } in
    subst (λ t. TakesRoomOfOne t same) c.self.view_is
    (makes_none (state_of c.self.inside) same refl (omega arith))

pub pointed_entry-found-requires-clause-points : goal.pointed_entry-found-requires-clause-points
pointed_entry-found-requires-clause-points c =
    let call = call_at (state_of c.self.inside) c.new.result c.args.channel c.new.ensures.value
    c.reclaim-answer.result (Ok (Some c.in-Some.pointer)) (c.in-Ok.is ∙ ap Ok c.in-Some.is) c.reclaim-answer.new.reg
    c.reclaim-answer.new.self (record {
      answer_is = c.reclaim-answer.ensures.answer;
      registry_is = c.reclaim-answer.ensures.reclaimed;
      sender_is = c.reclaim-answer.ensures.port;
    }) in
    subst (λ es. PointsTo c.self.inside.memory_registry c.self.inside.memory es
    (owners_of c.deref-2.result.now (segment_of c.in-Some.pointer)) c.in-Some.pointer) (sym c.deref.ensures.value)
    (subst (λ os. PointsTo c.self.inside.memory_registry c.self.inside.memory c.self.inside.entries.items
    (owners_of os (segment_of c.in-Some.pointer)) c.in-Some.pointer) (sym c.deref-2.ensures.value)
    (front_leads (state_of c.self.inside) c.self.invariant.linked c.args.channel c.if-channel-self.false
    c.in-Some.pointer c.reclaim-answer.new.reg c.reclaim-answer.new.self call c.self.invariant.ledger
    c.self.invariant.represents).points)

pub leave_channel-kept-requires-clause-index : goal.leave_channel-kept-requires-clause-index
leave_channel-kept-requires-clause-index c =
    let call = call_at (state_of c.self.inside) c.new.result c.args.channel c.new.ensures.value
    c.reclaim-answer.result (Ok (Some c.in-Some.pointer)) (c.in-Ok.is ∙ ap Ok c.in-Some.is) c.reclaim-answer.new.reg
    c.reclaim-answer.new.self (record {
      answer_is = c.reclaim-answer.ensures.answer;
      registry_is = c.reclaim-answer.ensures.reclaimed;
      sender_is = c.reclaim-answer.ensures.port;
    }) in
    let found = subst (λ os. (p : PointsTo c.self.inside.memory_registry c.self.inside.memory
    c.self.inside.entries.items (owners_of os (segment_of c.in-Some.pointer)) c.in-Some.pointer) →
    (c.pointed_entry-found.result.index ≡ p.index) × (c.pointed_entry-found.result.entry ≡ p.entry))
    c.deref-2.ensures.value
    (subst (λ es. (p : PointsTo c.self.inside.memory_registry c.self.inside.memory es
    (owners_of c.deref-2.result.now (segment_of c.in-Some.pointer)) c.in-Some.pointer) →
    (c.pointed_entry-found.result.index ≡ p.index) × (c.pointed_entry-found.result.entry ≡ p.entry))
    c.deref.ensures.value c.pointed_entry-found.ensures.found) in
    let within = found_index (state_of c.self.inside) c.self.invariant.linked c.args.channel c.if-channel-self.false
    c.in-Some.pointer c.reclaim-answer.new.reg c.reclaim-answer.new.self call c.pointed_entry-found.result found
    c.self.invariant.ledger c.self.invariant.represents in
    omega (arith, c.self.inside.entries.ok.0)

pub leave_channel-kept-requires-clause-transit : goal.leave_channel-kept-requires-clause-transit
leave_channel-kept-requires-clause-transit c =
    let call = call_at (state_of c.self.inside) c.new.result c.args.channel c.new.ensures.value
    c.reclaim-answer.result (Ok (Some c.in-Some.pointer)) (c.in-Ok.is ∙ ap Ok c.in-Some.is) c.reclaim-answer.new.reg
    c.reclaim-answer.new.self (record {
      answer_is = c.reclaim-answer.ensures.answer;
      registry_is = c.reclaim-answer.ensures.reclaimed;
      sender_is = c.reclaim-answer.ensures.port;
    }) in
    let found = subst (λ os. (p : PointsTo c.self.inside.memory_registry c.self.inside.memory
    c.self.inside.entries.items (owners_of os (segment_of c.in-Some.pointer)) c.in-Some.pointer) →
    (c.pointed_entry-found.result.index ≡ p.index) × (c.pointed_entry-found.result.entry ≡ p.entry))
    c.deref-2.ensures.value
    (subst (λ es. (p : PointsTo c.self.inside.memory_registry c.self.inside.memory es
    (owners_of c.deref-2.result.now (segment_of c.in-Some.pointer)) c.in-Some.pointer) →
    (c.pointed_entry-found.result.index ≡ p.index) × (c.pointed_entry-found.result.entry ≡ p.entry))
    c.deref.ensures.value c.pointed_entry-found.ensures.found) in
    found_transit (state_of c.self.inside) c.self.invariant.linked c.args.channel c.if-channel-self.false
    c.in-Some.pointer c.reclaim-answer.new.reg c.reclaim-answer.new.self call c.pointed_entry-found.result found
    c.self.invariant.ledger c.self.invariant.represents

pub free_unless-requires-clause-out : goal.free_unless-requires-clause-out
free_unless-requires-clause-out c =
    let call = call_at (state_of c.self.inside) c.new.result c.args.channel c.new.ensures.value
    c.reclaim-answer.result (Ok (Some c.in-Some.pointer)) (c.in-Ok.is ∙ ap Ok c.in-Some.is) c.reclaim-answer.new.reg
    c.reclaim-answer.new.self (record {
      answer_is = c.reclaim-answer.ensures.answer;
      registry_is = c.reclaim-answer.ensures.reclaimed;
      sender_is = c.reclaim-answer.ensures.port;
    }) in
    front_out (state_of c.self.inside) c.self.invariant.linked c.args.channel c.if-channel-self.false
    c.in-Some.pointer c.reclaim-answer.new.reg c.reclaim-answer.new.self call c.self.invariant.ledger
    c.self.invariant.represents

pub free_unless-requires-clause-used : goal.free_unless-requires-clause-used
free_unless-requires-clause-used c =
    let call = call_at (state_of c.self.inside) c.new.result c.args.channel c.new.ensures.value
    c.reclaim-answer.result (Ok (Some c.in-Some.pointer)) (c.in-Ok.is ∙ ap Ok c.in-Some.is) c.reclaim-answer.new.reg
    c.reclaim-answer.new.self (record {
      answer_is = c.reclaim-answer.ensures.answer;
      registry_is = c.reclaim-answer.ensures.reclaimed;
      sender_is = c.reclaim-answer.ensures.port;
    }) in
    front_used (state_of c.self.inside) c.self.invariant.linked c.args.channel c.if-channel-self.false
    c.in-Some.pointer c.reclaim-answer.new.reg c.reclaim-answer.new.self call c.self.invariant.ledger
    c.self.invariant.represents

pub count_less-requires-clause-some : goal.count_less-requires-clause-some
count_less-requires-clause-some c =
    let call = call_at (state_of c.self.inside) c.new.result c.args.channel c.new.ensures.value
    c.reclaim-answer.result (Ok (Some c.in-Some.pointer)) (c.in-Ok.is ∙ ap Ok c.in-Some.is) c.reclaim-answer.new.reg
    c.reclaim-answer.new.self (record {
      answer_is = c.reclaim-answer.ensures.answer;
      registry_is = c.reclaim-answer.ensures.reclaimed;
      sender_is = c.reclaim-answer.ensures.port;
    }) in
    front_counted (state_of c.self.inside) c.self.invariant.linked c.args.channel c.if-channel-self.false
    c.in-Some.pointer c.reclaim-answer.new.reg c.reclaim-answer.new.self call c.self.invariant.ledger
    c.self.invariant.represents

pub overflow_sub-self : goal.overflow_sub-self
overflow_sub-self c =
    let call = call_at (state_of c.self.inside) c.new.result c.args.channel c.new.ensures.value
    c.reclaim-answer.result (Ok (Some c.in-Some.pointer)) (c.in-Ok.is ∙ ap Ok c.in-Some.is) c.reclaim-answer.new.reg
    c.reclaim-answer.new.self (record {
      answer_is = c.reclaim-answer.ensures.answer;
      registry_is = c.reclaim-answer.ensures.reclaimed;
      sender_is = c.reclaim-answer.ensures.port;
    }) in
    let some = front_in_all (state_of c.self.inside) c.self.invariant.linked c.args.channel c.if-channel-self.false
    c.in-Some.pointer c.reclaim-answer.new.reg c.reclaim-answer.new.self call c.self.invariant.ledger
    c.self.invariant.represents in
    omega arith

pub invariant_of-self-2 : goal.invariant_of-self-2
invariant_of-self-2 c =
    let call = call_at (state_of c.self.inside) c.new.result c.args.channel c.new.ensures.value
    c.reclaim-answer.result (Ok (Some c.in-Some.pointer)) (c.in-Ok.is ∙ ap Ok c.in-Some.is) c.reclaim-answer.new.reg
    c.reclaim-answer.new.self (record {
      answer_is = c.reclaim-answer.ensures.answer;
      registry_is = c.reclaim-answer.ensures.reclaimed;
      sender_is = c.reclaim-answer.ensures.port;
    }) in
    let found = subst (λ os. (p : PointsTo c.self.inside.memory_registry c.self.inside.memory
    c.self.inside.entries.items (owners_of os (segment_of c.in-Some.pointer)) c.in-Some.pointer) →
    (c.pointed_entry-found.result.index ≡ p.index) × (c.pointed_entry-found.result.entry ≡ p.entry))
    c.deref-2.ensures.value
    (subst (λ es. (p : PointsTo c.self.inside.memory_registry c.self.inside.memory es
    (owners_of c.deref-2.result.now (segment_of c.in-Some.pointer)) c.in-Some.pointer) →
    (c.pointed_entry-found.result.index ≡ p.index) × (c.pointed_entry-found.result.entry ≡ p.entry))
    c.deref.ensures.value c.pointed_entry-found.ensures.found) in
    let freed = subst (λ b. (segment : Segment Pool) →
    segment_value c.self.inside.memory_registry c.self.inside.memory.slots (segment_of c.in-Some.pointer)
    ≡ Some segment → FreesUnless b c.self.inside.view c.self.inside.memory_registry c.self.inside.memory
    (segment_of c.in-Some.pointer) (offset_of c.in-Some.pointer / segment.allocator.buckets.size)
    c.free_unless.new.reg c.free_unless.new.memory) c.leave_channel-kept.ensures.kept c.free_unless.ensures.freed in
    let does = reclaimed_does (state_of c.self.inside) c.self.invariant.linked c.args.channel c.if-channel-self.false
    c.in-Some.pointer c.reclaim-answer.new.reg c.reclaim-answer.new.self call c.pointed_entry-found.result found
    c.free_unless.new.reg c.free_unless.new.memory freed
    c.leave_channel-kept.new.entries.items c.leave_channel-kept.ensures.written
    c.count_less.new.transits.items c.count_less.ensures.counted
    (vec_capacity c.leave_channel-kept.new.entries - vec_len c.leave_channel-kept.new.entries)
    0 c.self.invariant.ledger c.self.invariant.represents in
    record {
      ledger = after_step c.self.invariant.ledger 0 (command.Reclaim c.args.channel) (Reclaimed (Some (record {
        chunk = c.pointed_entry-found.result.entry.name;
        segment = segment_of c.in-Some.pointer;
        place = offset_of c.in-Some.pointer;
      })));
      represents = does.1;
      linked = reclaimed_linked (state_of c.self.inside) c.self.invariant.linked c.args.channel c.if-channel-self.false
          c.in-Some.pointer c.reclaim-answer.new.reg c.reclaim-answer.new.self call c.pointed_entry-found.result found
          c.free_unless.new.reg c.free_unless.new.memory freed
          c.leave_channel-kept.new.entries.items c.leave_channel-kept.ensures.written
          c.count_less.new.transits.items c.count_less.ensures.counted
          (vec_capacity c.leave_channel-kept.new.entries - vec_len c.leave_channel-kept.new.entries)
          c.self.invariant.ledger c.self.invariant.represents;
    }

pub returns-clause-step : goal.returns-clause-step
returns-clause-step c =
    let call = call_at (state_of c.self.inside) c.new.result c.args.channel c.new.ensures.value
    c.reclaim-answer.result (Ok (Some c.in-Some.pointer)) (c.in-Ok.is ∙ ap Ok c.in-Some.is) c.reclaim-answer.new.reg
    c.reclaim-answer.new.self (record {
      answer_is = c.reclaim-answer.ensures.answer;
      registry_is = c.reclaim-answer.ensures.reclaimed;
      sender_is = c.reclaim-answer.ensures.port;
    }) in
    let found = subst (λ os. (p : PointsTo c.self.inside.memory_registry c.self.inside.memory
    c.self.inside.entries.items (owners_of os (segment_of c.in-Some.pointer)) c.in-Some.pointer) →
    (c.pointed_entry-found.result.index ≡ p.index) × (c.pointed_entry-found.result.entry ≡ p.entry))
    c.deref-2.ensures.value
    (subst (λ es. (p : PointsTo c.self.inside.memory_registry c.self.inside.memory es
    (owners_of c.deref-2.result.now (segment_of c.in-Some.pointer)) c.in-Some.pointer) →
    (c.pointed_entry-found.result.index ≡ p.index) × (c.pointed_entry-found.result.entry ≡ p.entry))
    c.deref.ensures.value c.pointed_entry-found.ensures.found) in
    let freed = subst (λ b. (segment : Segment Pool) →
    segment_value c.self.inside.memory_registry c.self.inside.memory.slots (segment_of c.in-Some.pointer)
    ≡ Some segment → FreesUnless b c.self.inside.view c.self.inside.memory_registry c.self.inside.memory
    (segment_of c.in-Some.pointer) (offset_of c.in-Some.pointer / segment.allocator.buckets.size)
    c.free_unless.new.reg c.free_unless.new.memory) c.leave_channel-kept.ensures.kept c.free_unless.ensures.freed in
    let does = reclaimed_does (state_of c.self.inside) c.self.invariant.linked c.args.channel c.if-channel-self.false
    c.in-Some.pointer c.reclaim-answer.new.reg c.reclaim-answer.new.self call c.pointed_entry-found.result found
    c.free_unless.new.reg c.free_unless.new.memory freed
    c.leave_channel-kept.new.entries.items c.leave_channel-kept.ensures.written
    c.count_less.new.transits.items c.count_less.ensures.counted
    (vec_capacity c.leave_channel-kept.new.entries - vec_len c.leave_channel-kept.new.entries) in
    outside c.self.inside c.self.invariant c.args.self.now c.self.view_is (record (state_of c.self.inside) {
      memory_registry = c.free_unless.new.reg;
      memory = c.free_unless.new.memory;
      connection_registry = c.reclaim-answer.new.reg;
      sender = c.reclaim-answer.new.self;
      entries = c.leave_channel-kept.new.entries.items;
      transits = c.count_less.new.transits.items;
      in_transit = c.self.inside.in_transit - 1;
      spare = vec_capacity c.leave_channel-kept.new.entries - vec_len c.leave_channel-kept.new.entries;
    })
    (command.Reclaim c.args.channel) (Reclaimed (Some c.slot_at.result)) tt
    (subst (λ (s : Slot). DoesAnywhere (state_of c.self.inside) (command.Reclaim c.args.channel) (Reclaimed (Some s))
    (record (state_of c.self.inside) {
      memory_registry = c.free_unless.new.reg;
      memory = c.free_unless.new.memory;
      connection_registry = c.reclaim-answer.new.reg;
      sender = c.reclaim-answer.new.self;
      entries = c.leave_channel-kept.new.entries.items;
      transits = c.count_less.new.transits.items;
      in_transit = c.self.inside.in_transit - 1;
      spare = vec_capacity c.leave_channel-kept.new.entries - vec_len c.leave_channel-kept.new.entries;
    })) (sym c.slot_at.ensures.slot) does)

pub returns-clause-room : goal.returns-clause-room
returns-clause-room c =
    let reclaimed : TransportState = record (state_of c.self.inside) {
      memory_registry = c.free_unless.new.reg;
      memory = c.free_unless.new.memory;
      connection_registry = c.reclaim-answer.new.reg;
      sender = c.reclaim-answer.new.self;
      entries = c.leave_channel-kept.new.entries.items;
      transits = c.count_less.new.transits.items;
      in_transit = c.self.inside.in_transit - 1;
      spare = vec_capacity c.leave_channel-kept.new.entries - vec_len c.leave_channel-kept.new.entries;
    } in
    subst (λ t. TakesRoomOfOne t reclaimed) c.self.view_is
    (makes_none (state_of c.self.inside) reclaimed
    (same_spare c.self.inside.entries c.leave_channel-kept.new.entries c.leave_channel-kept.ensures.room
    (ap length c.leave_channel-kept.ensures.written
    ∙ length-set c.self.inside.entries.items c.pointed_entry-found.result.index _)) (omega arith))
