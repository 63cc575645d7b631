use Rattle.std.proofs.Common.{◌≡◌, ◌<◌, ◌∙◌, ℕ, Option, Some, None, Result, Ok, Err, set, get_or, ◌*◌, ◌+◌, refl, sym, ap, subst, arith}
use Rattle.cal_alloc.specs.PointerOffset.{offset_of, segment_of}
use Rattle.cal_transport.specs.declared.command.Command.TheVariants as command
use Rattle.cal_transport.specs.declared.reply.Reply.TheVariants.{Received, Refused}
use Rattle.cal_transport.specs.declared.reply.Refusal.TheVariants as refusal
use Rattle.cal_connection.specs.declared.errors.ZeroCopyReceiveError.{ZeroCopyReceiveError}
use Rattle.cal_connection.specs.Port.{PortEntry, ReceiverEnd}
use Rattle.cal_storage.specs.Contents.{Contents}
use Rattle.cal_transport.specs.ChunkEntry.{owners_of}
use Rattle.cal_transport.specs.Ledger.{Ledger}
use Rattle.cal_transport.specs.Pointed.{PointsTo}
use Rattle.cal_transport.specs.Room.{TakesRoomOfOne}
use Rattle.cal_transport.specs.State.{TransportState, Represents, IsLinked, DoesAnywhere}
use Rattle.cal_transport.specs.StateOf.{state_of}
use Rattle.cal_queue.specs.UsedChunks.{capacity_of, none_used, after_insertion}
use Rattle.cal_transport.specs.Step.{after_step}
use Rattle.cal_transport.proofs.Standing.{outside, unchanged}
use Rattle.cal_transport.proofs.ReceiveCode.{ReceiveCall, receive_outside_does, receive_limit_state, receive_limit_does, receive_none_state, receive_none_does}
use Rattle.cal_transport.proofs.ReceivedCode.{front_leads, front_active, front_room, front_capacity, found_entry, entry_mark, received_linked, received_does}
use Rattle.cal_transport.proofs.RoomTaken.{makes_none}
use Rattle.cal_transport.proofs.transport.Transport.receive.Goals as goal

call_at : (t : TransportState) (n k : ℕ) → n ≡ k → (a b : Result (Option ℕ) ZeroCopyReceiveError) → a ≡ b →
    (registry : Contents PortEntry) (receiver : ReceiverEnd) → ReceiveCall t n a registry receiver →
    ReceiveCall t k b registry receiver
call_at t n k same a b is registry receiver call =
    subst (λ m. ReceiveCall t m b registry receiver) same
    (subst (λ r. ReceiveCall t n r registry receiver) is call)

pub returns-then-channel-self-clause-step : goal.returns-then-channel-self-clause-step
returns-then-channel-self-clause-step c =
    unchanged c.self.inside c.self.invariant c.args.self.now c.self.view_is (command.Receive c.args.channel)
    (Refused refusal.OutsideConnection) tt
    (receive_outside_does (state_of c.self.inside) c.args.channel c.if-channel-self.true)

pub returns-then-channel-self-clause-room : goal.returns-then-channel-self-clause-room
returns-then-channel-self-clause-room c = makes_none c.args.self.now c.args.self.now refl (omega arith)

pub invariant_of-self : goal.invariant_of-self
invariant_of-self c =
    let call = call_at (state_of c.self.inside) c.new-id.result
    c.args.channel c.new-id.ensures.value c.receive-answer.result (Err c.in-Err.field-0) c.in-Err.is
    c.receive-answer.new.reg
    c.receive-answer.new.self (record {
      answer_is = c.receive-answer.ensures.answer;
      registry_is = c.receive-answer.ensures.received;
      receiver_is = c.receive-answer.ensures.port;
    }) in
    let same = receive_limit_state (state_of c.self.inside) c.self.invariant.linked c.args.channel
    c.if-channel-self.false
    c.receive-answer.new.reg c.receive-answer.new.self c.in-Err.field-0 call in
    record {
      ledger = c.self.invariant.ledger;
      represents = subst (λ t. Represents t c.self.invariant.ledger) (sym same) c.self.invariant.represents;
      linked = subst IsLinked (sym same) c.self.invariant.linked;
    }

pub returns-in-Err-clause-step : goal.returns-in-Err-clause-step
returns-in-Err-clause-step c =
    let call = call_at (state_of c.self.inside) c.new-id.result
    c.args.channel c.new-id.ensures.value c.receive-answer.result (Err c.in-Err.field-0) c.in-Err.is
    c.receive-answer.new.reg
    c.receive-answer.new.self (record {
      answer_is = c.receive-answer.ensures.answer;
      registry_is = c.receive-answer.ensures.received;
      receiver_is = c.receive-answer.ensures.port;
    }) in
    let same = receive_limit_state (state_of c.self.inside) c.self.invariant.linked c.args.channel
    c.if-channel-self.false
    c.receive-answer.new.reg c.receive-answer.new.self c.in-Err.field-0 call in
    outside c.self.inside c.self.invariant c.args.self.now c.self.view_is (record (state_of c.self.inside) {
      connection_registry = c.receive-answer.new.reg;
      receiver = c.receive-answer.new.self;
    })
    (command.Receive c.args.channel) (Refused
    refusal.ReceiveWouldExceedMaxBorrowValue) tt
    (subst (λ t. DoesAnywhere (state_of c.self.inside) (command.Receive c.args.channel) (Refused
    refusal.ReceiveWouldExceedMaxBorrowValue) t)
    (sym same)
    (receive_limit_does (state_of c.self.inside) c.self.invariant.linked c.args.channel c.if-channel-self.false
    c.receive-answer.new.reg c.receive-answer.new.self c.in-Err.field-0 call))

pub returns-in-Err-clause-room : goal.returns-in-Err-clause-room
returns-in-Err-clause-room c =
    let same : TransportState = record (state_of c.self.inside) {
      connection_registry = c.receive-answer.new.reg;
      receiver = c.receive-answer.new.self;
    } in
    subst (λ t. TakesRoomOfOne t same) c.self.view_is
    (makes_none (state_of c.self.inside) same refl (omega arith))

pub invariant_of-self-in-None : goal.invariant_of-self-in-None
invariant_of-self-in-None c =
    let call = call_at (state_of c.self.inside) c.new-id.result
    c.args.channel c.new-id.ensures.value c.receive-answer.result (Ok None) (c.in-Ok.is ∙ ap Ok c.in-None.is)
    c.receive-answer.new.reg
    c.receive-answer.new.self (record {
      answer_is = c.receive-answer.ensures.answer;
      registry_is = c.receive-answer.ensures.received;
      receiver_is = c.receive-answer.ensures.port;
    }) in
    let same = receive_none_state (state_of c.self.inside) c.self.invariant.linked c.args.channel
    c.if-channel-self.false
    c.receive-answer.new.reg c.receive-answer.new.self call in
    record {
      ledger = c.self.invariant.ledger;
      represents = subst (λ t. Represents t c.self.invariant.ledger) (sym same) c.self.invariant.represents;
      linked = subst IsLinked (sym same) c.self.invariant.linked;
    }

pub returns-in-None-clause-step : goal.returns-in-None-clause-step
returns-in-None-clause-step c =
    let call = call_at (state_of c.self.inside) c.new-id.result
    c.args.channel c.new-id.ensures.value c.receive-answer.result (Ok None) (c.in-Ok.is ∙ ap Ok c.in-None.is)
    c.receive-answer.new.reg
    c.receive-answer.new.self (record {
      answer_is = c.receive-answer.ensures.answer;
      registry_is = c.receive-answer.ensures.received;
      receiver_is = c.receive-answer.ensures.port;
    }) in
    let same = receive_none_state (state_of c.self.inside) c.self.invariant.linked c.args.channel
    c.if-channel-self.false
    c.receive-answer.new.reg c.receive-answer.new.self call in
    outside c.self.inside c.self.invariant c.args.self.now c.self.view_is (record (state_of c.self.inside) {
      connection_registry = c.receive-answer.new.reg;
      receiver = c.receive-answer.new.self;
    })
    (command.Receive c.args.channel) (Received None) tt
    (subst (λ t. DoesAnywhere (state_of c.self.inside) (command.Receive c.args.channel) (Received None) t)
    (sym same)
    (receive_none_does (state_of c.self.inside) c.self.invariant.linked c.args.channel c.if-channel-self.false
    c.receive-answer.new.reg c.receive-answer.new.self call))

pub returns-in-None-clause-room : goal.returns-in-None-clause-room
returns-in-None-clause-room c =
    let same : TransportState = record (state_of c.self.inside) {
      connection_registry = c.receive-answer.new.reg;
      receiver = c.receive-answer.new.self;
    } in
    subst (λ t. TakesRoomOfOne t same) c.self.view_is
    (makes_none (state_of c.self.inside) same refl (omega arith))

pub pointed_entry-found-requires-clause-points : goal.pointed_entry-found-requires-clause-points
pointed_entry-found-requires-clause-points c =
    let call = call_at (state_of c.self.inside) c.new-id.result
    c.args.channel c.new-id.ensures.value c.receive-answer.result (Ok (Some c.in-Some.pointer))
    (c.in-Ok.is ∙ ap Ok c.in-Some.is) c.receive-answer.new.reg
    c.receive-answer.new.self (record {
      answer_is = c.receive-answer.ensures.answer;
      registry_is = c.receive-answer.ensures.received;
      receiver_is = c.receive-answer.ensures.port;
    }) in
    subst (λ es. PointsTo c.self.inside.memory_registry c.self.inside.memory es
    (owners_of c.deref-2.result.now (segment_of c.in-Some.pointer)) c.in-Some.pointer) (sym c.deref.ensures.value)
    (subst (λ os. PointsTo c.self.inside.memory_registry c.self.inside.memory c.self.inside.entries.items
    (owners_of os (segment_of c.in-Some.pointer)) c.in-Some.pointer) (sym c.deref-2.ensures.value)
    (front_leads (state_of c.self.inside) c.self.invariant.linked c.args.channel c.if-channel-self.false
    c.in-Some.pointer
    c.receive-answer.new.reg c.receive-answer.new.self call c.self.invariant.ledger c.self.invariant.represents).points)

pub arrive-requires-clause-active : goal.arrive-requires-clause-active
arrive-requires-clause-active c =
    let call = call_at (state_of c.self.inside) c.new-id.result
    c.args.channel c.new-id.ensures.value c.receive-answer.result (Ok (Some c.in-Some.pointer))
    (c.in-Ok.is ∙ ap Ok c.in-Some.is) c.receive-answer.new.reg
    c.receive-answer.new.self (record {
      answer_is = c.receive-answer.ensures.answer;
      registry_is = c.receive-answer.ensures.received;
      receiver_is = c.receive-answer.ensures.port;
    }) in
    front_active (state_of c.self.inside) c.self.invariant.linked c.args.channel c.if-channel-self.false
    c.in-Some.pointer
    c.receive-answer.new.reg c.receive-answer.new.self call c.self.invariant.ledger c.self.invariant.represents

pub arrive-requires-clause-room : goal.arrive-requires-clause-room
arrive-requires-clause-room c =
    let call = call_at (state_of c.self.inside) c.new-id.result
    c.args.channel c.new-id.ensures.value c.receive-answer.result (Ok (Some c.in-Some.pointer))
    (c.in-Ok.is ∙ ap Ok c.in-Some.is) c.receive-answer.new.reg
    c.receive-answer.new.self (record {
      answer_is = c.receive-answer.ensures.answer;
      registry_is = c.receive-answer.ensures.received;
      receiver_is = c.receive-answer.ensures.port;
    }) in
    front_room (state_of c.self.inside) c.self.invariant.linked c.args.channel c.if-channel-self.false c.in-Some.pointer
    c.receive-answer.new.reg c.receive-answer.new.self call c.self.invariant.ledger c.self.invariant.represents
    (omega (arith, c.self.ranges))

pub mark_of-mark-requires : goal.mark_of-mark-requires
mark_of-mark-requires c =
    let call = call_at (state_of c.self.inside) c.new-id.result
    c.args.channel c.new-id.ensures.value c.receive-answer.result (Ok (Some c.in-Some.pointer))
    (c.in-Ok.is ∙ ap Ok c.in-Some.is) c.receive-answer.new.reg
    c.receive-answer.new.self (record {
      answer_is = c.receive-answer.ensures.answer;
      registry_is = c.receive-answer.ensures.received;
      receiver_is = c.receive-answer.ensures.port;
    }) in
    let found = subst (λ os. (p : PointsTo c.self.inside.memory_registry c.self.inside.memory
    c.self.inside.entries.items (owners_of os (segment_of c.in-Some.pointer)) c.in-Some.pointer) →
    (c.pointed_entry-found.result.index ≡ p.index) × (c.pointed_entry-found.result.entry ≡ p.entry))
    c.deref-2.ensures.value
    (subst (λ es. (p : PointsTo c.self.inside.memory_registry c.self.inside.memory es
    (owners_of c.deref-2.result.now (segment_of c.in-Some.pointer)) c.in-Some.pointer) →
    (c.pointed_entry-found.result.index ≡ p.index) × (c.pointed_entry-found.result.entry ≡ p.entry))
    c.deref.ensures.value c.pointed_entry-found.ensures.found) in
    let entry = found_entry (state_of c.self.inside) c.self.invariant.linked c.args.channel c.if-channel-self.false
    c.in-Some.pointer
    c.receive-answer.new.reg c.receive-answer.new.self call c.self.invariant.ledger c.self.invariant.represents
    c.pointed_entry-found.result.index c.pointed_entry-found.result.entry found in
    let mark = entry_mark (state_of c.self.inside) c.self.invariant.linked c.args.channel c.if-channel-self.false
    c.in-Some.pointer
    c.receive-answer.new.reg c.receive-answer.new.self call c.self.invariant.ledger c.self.invariant.represents
    c.pointed_entry-found.result.entry entry in
    let most = c.self.invariant.linked.marks in
    record { small = omega arith }

pub lend-requires-clause-mark : goal.lend-requires-clause-mark
lend-requires-clause-mark c =
    let call = call_at (state_of c.self.inside) c.new-id.result
    c.args.channel c.new-id.ensures.value c.receive-answer.result (Ok (Some c.in-Some.pointer))
    (c.in-Ok.is ∙ ap Ok c.in-Some.is) c.receive-answer.new.reg
    c.receive-answer.new.self (record {
      answer_is = c.receive-answer.ensures.answer;
      registry_is = c.receive-answer.ensures.received;
      receiver_is = c.receive-answer.ensures.port;
    }) in
    let found = subst (λ os. (p : PointsTo c.self.inside.memory_registry c.self.inside.memory
    c.self.inside.entries.items (owners_of os (segment_of c.in-Some.pointer)) c.in-Some.pointer) →
    (c.pointed_entry-found.result.index ≡ p.index) × (c.pointed_entry-found.result.entry ≡ p.entry))
    c.deref-2.ensures.value
    (subst (λ es. (p : PointsTo c.self.inside.memory_registry c.self.inside.memory es
    (owners_of c.deref-2.result.now (segment_of c.in-Some.pointer)) c.in-Some.pointer) →
    (c.pointed_entry-found.result.index ≡ p.index) × (c.pointed_entry-found.result.entry ≡ p.entry))
    c.deref.ensures.value c.pointed_entry-found.ensures.found) in
    let entry = found_entry (state_of c.self.inside) c.self.invariant.linked c.args.channel c.if-channel-self.false
    c.in-Some.pointer
    c.receive-answer.new.reg c.receive-answer.new.self call c.self.invariant.ledger c.self.invariant.represents
    c.pointed_entry-found.result.index c.pointed_entry-found.result.entry found in
    let mark = entry_mark (state_of c.self.inside) c.self.invariant.linked c.args.channel c.if-channel-self.false
    c.in-Some.pointer
    c.receive-answer.new.reg c.receive-answer.new.self call c.self.invariant.ledger c.self.invariant.represents
    c.pointed_entry-found.result.entry entry in
    let capacity = front_capacity (state_of c.self.inside) c.self.invariant.linked c.args.channel
    c.if-channel-self.false c.in-Some.pointer
    c.receive-answer.new.reg c.receive-answer.new.self call c.self.invariant.ledger c.self.invariant.represents in
    subst (λ n. n < capacity_of (get_or c.self.inside.lent.items c.args.channel (none_used 0)))
    (sym c.mark_of-mark.ensures.mark) (subst (λ n. c.pointed_entry-found.result.entry.segment
    * c.self.inside.settings.samples + c.pointed_entry-found.result.entry.bucket < n) (sym capacity) mark)

pub invariant_of-self-2 : goal.invariant_of-self-2
invariant_of-self-2 c =
    let call = call_at (state_of c.self.inside) c.new-id.result
    c.args.channel c.new-id.ensures.value c.receive-answer.result (Ok (Some c.in-Some.pointer))
    (c.in-Ok.is ∙ ap Ok c.in-Some.is) c.receive-answer.new.reg
    c.receive-answer.new.self (record {
      answer_is = c.receive-answer.ensures.answer;
      registry_is = c.receive-answer.ensures.received;
      receiver_is = c.receive-answer.ensures.port;
    }) in
    let found = subst (λ os. (p : PointsTo c.self.inside.memory_registry c.self.inside.memory
    c.self.inside.entries.items (owners_of os (segment_of c.in-Some.pointer)) c.in-Some.pointer) →
    (c.pointed_entry-found.result.index ≡ p.index) × (c.pointed_entry-found.result.entry ≡ p.entry))
    c.deref-2.ensures.value
    (subst (λ es. (p : PointsTo c.self.inside.memory_registry c.self.inside.memory es
    (owners_of c.deref-2.result.now (segment_of c.in-Some.pointer)) c.in-Some.pointer) →
    (c.pointed_entry-found.result.index ≡ p.index) × (c.pointed_entry-found.result.entry ≡ p.entry))
    c.deref.ensures.value c.pointed_entry-found.ensures.found) in
    let entries = λ (l : Ledger) (r : Represents (state_of c.self.inside) l). found_entry
    (state_of c.self.inside) c.self.invariant.linked c.args.channel c.if-channel-self.false c.in-Some.pointer
    c.receive-answer.new.reg c.receive-answer.new.self call l r
    c.pointed_entry-found.result.index c.pointed_entry-found.result.entry found in
    let lent = c.lend.ensures.lent ∙ ap (λ n. set c.self.inside.lent.items c.args.channel
    (after_insertion (get_or c.self.inside.lent.items c.args.channel (none_used 0)) n)) c.mark_of-mark.ensures.mark in
    let does = received_does (state_of c.self.inside) c.self.invariant.linked c.args.channel c.if-channel-self.false
    c.in-Some.pointer
    c.receive-answer.new.reg c.receive-answer.new.self call
    c.arrive.new.reg c.arrive.new.view c.arrive.ensures.arrived c.pointed_entry-found.result.entry c.lend.new.lent.items
    lent entries 0 c.self.invariant.ledger c.self.invariant.represents in
    record {
      ledger = after_step c.self.invariant.ledger 0 (command.Receive c.args.channel) (Received (Some (record {
        chunk = c.pointed_entry-found.result.entry.name;
        segment = segment_of c.in-Some.pointer;
        place = offset_of c.in-Some.pointer;
      })));
      represents = does.1;
      linked = received_linked (state_of c.self.inside) c.self.invariant.linked c.args.channel
          c.if-channel-self.false c.in-Some.pointer
          c.receive-answer.new.reg c.receive-answer.new.self call
          c.arrive.new.reg c.arrive.new.view c.arrive.ensures.arrived c.pointed_entry-found.result.entry
          c.lend.new.lent.items lent;
    }

pub returns-clause-step : goal.returns-clause-step
returns-clause-step c =
    let call = call_at (state_of c.self.inside) c.new-id.result
    c.args.channel c.new-id.ensures.value c.receive-answer.result (Ok (Some c.in-Some.pointer))
    (c.in-Ok.is ∙ ap Ok c.in-Some.is) c.receive-answer.new.reg
    c.receive-answer.new.self (record {
      answer_is = c.receive-answer.ensures.answer;
      registry_is = c.receive-answer.ensures.received;
      receiver_is = c.receive-answer.ensures.port;
    }) in
    let found = subst (λ os. (p : PointsTo c.self.inside.memory_registry c.self.inside.memory
    c.self.inside.entries.items (owners_of os (segment_of c.in-Some.pointer)) c.in-Some.pointer) →
    (c.pointed_entry-found.result.index ≡ p.index) × (c.pointed_entry-found.result.entry ≡ p.entry))
    c.deref-2.ensures.value
    (subst (λ es. (p : PointsTo c.self.inside.memory_registry c.self.inside.memory es
    (owners_of c.deref-2.result.now (segment_of c.in-Some.pointer)) c.in-Some.pointer) →
    (c.pointed_entry-found.result.index ≡ p.index) × (c.pointed_entry-found.result.entry ≡ p.entry))
    c.deref.ensures.value c.pointed_entry-found.ensures.found) in
    let entries = λ (l : Ledger) (r : Represents (state_of c.self.inside) l). found_entry
    (state_of c.self.inside) c.self.invariant.linked c.args.channel c.if-channel-self.false c.in-Some.pointer
    c.receive-answer.new.reg c.receive-answer.new.self call l r
    c.pointed_entry-found.result.index c.pointed_entry-found.result.entry found in
    let lent = c.lend.ensures.lent ∙ ap (λ n. set c.self.inside.lent.items c.args.channel
    (after_insertion (get_or c.self.inside.lent.items c.args.channel (none_used 0)) n)) c.mark_of-mark.ensures.mark in
    let does = received_does (state_of c.self.inside) c.self.invariant.linked c.args.channel c.if-channel-self.false
    c.in-Some.pointer
    c.receive-answer.new.reg c.receive-answer.new.self call
    c.arrive.new.reg c.arrive.new.view c.arrive.ensures.arrived c.pointed_entry-found.result.entry c.lend.new.lent.items
    lent entries in
    outside c.self.inside c.self.invariant c.args.self.now c.self.view_is (record (state_of c.self.inside) {
      memory_registry = c.arrive.new.reg;
      view = c.arrive.new.view;
      connection_registry = c.receive-answer.new.reg;
      receiver = c.receive-answer.new.self;
      lent = c.lend.new.lent.items;
    })
    (command.Receive c.args.channel) (Received (Some (record {
      chunk = c.pointed_entry-found.result.entry.name;
      segment = c.value.result;
      place = c.offset.result;
    }))) tt
    (subst (λ n. DoesAnywhere (state_of c.self.inside) (command.Receive c.args.channel) (Received (Some (record {
      chunk = c.pointed_entry-found.result.entry.name;
      segment = n;
      place = c.offset.result;
    }))) (record (state_of c.self.inside) {
      memory_registry = c.arrive.new.reg;
      view = c.arrive.new.view;
      connection_registry = c.receive-answer.new.reg;
      receiver = c.receive-answer.new.self;
      lent = c.lend.new.lent.items;
    })) (sym (c.value.ensures.value ∙ c.segment_id.ensures.value))
    (subst (λ n. DoesAnywhere (state_of c.self.inside) (command.Receive c.args.channel) (Received (Some (record {
      chunk = c.pointed_entry-found.result.entry.name;
      segment = segment_of c.in-Some.pointer;
      place = n;
    }))) (record (state_of c.self.inside) {
      memory_registry = c.arrive.new.reg;
      view = c.arrive.new.view;
      connection_registry = c.receive-answer.new.reg;
      receiver = c.receive-answer.new.self;
      lent = c.lend.new.lent.items;
    })) (sym c.offset.ensures.value) does))

pub returns-clause-room : goal.returns-clause-room
returns-clause-room c =
    let received : TransportState = record (state_of c.self.inside) {
      memory_registry = c.arrive.new.reg;
      view = c.arrive.new.view;
      connection_registry = c.receive-answer.new.reg;
      receiver = c.receive-answer.new.self;
      lent = c.lend.new.lent.items;
    } in
    subst (λ t. TakesRoomOfOne t received) c.self.view_is
    (makes_none (state_of c.self.inside) received refl (omega arith))
