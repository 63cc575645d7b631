use Rattle.std.proofs.Common.{◌≡◌, ◌+◌, ◌-◌, ◌/◌, ◌∙◌, ℕ, length, Option, Some, None, Result, Ok, Err, vec_len, vec_capacity, refl, sym, ap, subst, arith}
use Rattle.std.proofs.lemmas.List.{length-set}
use Rattle.std.proofs.lemmas.Option.{slice_get_within}
use Rattle.std.proofs.lemmas.Result.{err_from_is_err_and}
use Rattle.cal_alloc.specs.Pool.{Pool}
use Rattle.cal_alloc.specs.PointerOffset.{offset_of, segment_of}
use Rattle.cal_storage.specs.Contents.{Contents}
use Rattle.cal_shm.specs.Segment.{Segment}
use Rattle.cal_connection.specs.declared.errors.ZeroCopySendError.{ZeroCopySendError}
use Rattle.cal_connection.specs.Port.{PortEntry, SenderEnd, IsSendable, port_at}
use Rattle.cal_resizable.specs.Chunks.{segment_value}
use Rattle.cal_transport.specs.declared.command.Command.TheVariants as command
use Rattle.cal_transport.specs.declared.reply.Reply.TheVariants.{Sent, Refused}
use Rattle.cal_transport.specs.declared.reply.Refusal.TheVariants as refusal
use Rattle.cal_transport.specs.declared.reply.Slot.{Slot}
use Rattle.cal_transport.specs.ChunkEntry.{owners_of}
use Rattle.cal_transport.specs.Pointed.{PointsTo}
use Rattle.cal_transport.specs.Room.{TakesRoomOfOne}
use Rattle.cal_transport.specs.Sample.{IsSample}
use Rattle.cal_transport.specs.Sharing.{FreesUnless}
use Rattle.cal_transport.specs.Step.{after_step}
use Rattle.cal_transport.specs.State.{TransportState, Represents, IsLinked, DoesAnywhere}
use Rattle.cal_transport.specs.StateOf.{state_of}
use Rattle.cal_transport.proofs.Standing.{outside}
use Rattle.cal_transport.proofs.RoomTaken.{same_spare, makes_none}
use Rattle.cal_transport.proofs.SendRefusals.{send_within}
use Rattle.cal_transport.proofs.SendCode.{all_counted, channel_counted, entry_counted}
use Rattle.cal_transport.proofs.SentCode.{SendCall, send_full_state, send_full_does, sent_linked, sent_does}
use Rattle.cal_transport.proofs.OverflowCode.{oldest_leads, oldest_out, oldest_used, leaving_index, leaving_transit, over_linked, over_does}
use Rattle.cal_transport.proofs.transport.Transport.send.Goals as goal

call_at : (t : TransportState) (n k pointer size : ℕ) → n ≡ k → (a b : Result (Option ℕ) ZeroCopySendError) → a ≡ b →
    (registry : Contents PortEntry) (sender : SenderEnd) → SendCall t n pointer size a registry sender →
    SendCall t k pointer size b registry sender
call_at t n k pointer size same a b is registry sender call =
    subst (λ m. SendCall t m pointer size b registry sender) same
    (subst (λ r. SendCall t n pointer size r registry sender) is call)

pub returns-in_err-sample-clause-step : goal.returns-in_err-sample-clause-step
returns-in_err-sample-clause-step c =
    let p = err_from_is_err_and c.from_residual.result c.from_residual.ensures.1 in
    rw (p.1, p.2) c.in_err-sample.ensures.sample

pub returns-in_err-sample-clause-room : goal.returns-in_err-sample-clause-room
returns-in_err-sample-clause-room c = makes_none c.args.self.now c.args.self.now refl (omega arith)

pub try_send-answer-requires-clause-sendable : goal.try_send-answer-requires-clause-sendable
try_send-answer-requires-clause-sendable c =
    let is = subst (λ t. IsSample t c.args.channel c.args.chunk c.in_ok-sample.sample) (sym c.self.view_is)
    c.in_ok-sample.ensures.sample in
    subst (λ n. IsSendable (port_at c.self.inside.connection_registry c.self.inside.sender.handle) n
    c.in_ok-sample.sample.pointer c.in_ok-sample.sample.size) (sym c.new.ensures.value)
    (record {
      within = send_within (state_of c.self.inside) c.args.channel c.args.chunk c.in_ok-sample.sample.found is.found
          is.loaned
          c.self.invariant.linked is.channel is.segment is.bucket c.in_ok-sample.sample.pointer
          c.in_ok-sample.sample.size
          is.pointer is.size
          c.self.invariant.ledger c.self.invariant.represents;
      unused = is.unused;
    })

pub invariant_of-self : goal.invariant_of-self
invariant_of-self c =
    let is = subst (λ t. IsSample t c.args.channel c.args.chunk c.in_ok-sample.sample) (sym c.self.view_is)
    c.in_ok-sample.ensures.sample in
    let call = call_at (state_of c.self.inside) c.new.result c.args.channel c.in_ok-sample.sample.pointer
    c.in_ok-sample.sample.size c.new.ensures.value c.try_send-answer.result (Err c.in-Err.field-0)
    c.in-Err.is
    c.try_send-answer.new.reg c.try_send-answer.new.self (record {
      answer_is = c.try_send-answer.ensures.answer;
      registry_is = c.try_send-answer.ensures.sent;
      sender_is = c.try_send-answer.ensures.port;
    }) in
    let same = send_full_state (state_of c.self.inside) c.self.invariant.linked c.args.channel c.args.chunk
    c.in_ok-sample.sample is
    c.in-Err.field-0 c.try_send-answer.new.reg c.try_send-answer.new.self call c.self.invariant.ledger
    c.self.invariant.represents in
    record {
      ledger = c.self.invariant.ledger;
      represents = subst (λ t. Represents t c.self.invariant.ledger) (sym same) c.self.invariant.represents;
      linked = subst IsLinked (sym same) c.self.invariant.linked;
    }

pub returns-in-Err-clause-step : goal.returns-in-Err-clause-step
returns-in-Err-clause-step c =
    let is = subst (λ t. IsSample t c.args.channel c.args.chunk c.in_ok-sample.sample) (sym c.self.view_is)
    c.in_ok-sample.ensures.sample in
    let call = call_at (state_of c.self.inside) c.new.result c.args.channel c.in_ok-sample.sample.pointer
    c.in_ok-sample.sample.size c.new.ensures.value c.try_send-answer.result (Err c.in-Err.field-0)
    c.in-Err.is
    c.try_send-answer.new.reg c.try_send-answer.new.self (record {
      answer_is = c.try_send-answer.ensures.answer;
      registry_is = c.try_send-answer.ensures.sent;
      sender_is = c.try_send-answer.ensures.port;
    }) in
    let same = send_full_state (state_of c.self.inside) c.self.invariant.linked c.args.channel c.args.chunk
    c.in_ok-sample.sample is
    c.in-Err.field-0 c.try_send-answer.new.reg c.try_send-answer.new.self call c.self.invariant.ledger
    c.self.invariant.represents in
    outside c.self.inside c.self.invariant c.args.self.now c.self.view_is (record (state_of c.self.inside) {
      connection_registry = c.try_send-answer.new.reg;
      sender = c.try_send-answer.new.self;
    })
    (command.Send c.args.channel c.args.chunk) (Refused refusal.ReceiveBufferFull) tt
    (subst (λ t. DoesAnywhere (state_of c.self.inside) (command.Send c.args.channel c.args.chunk)
    (Refused refusal.ReceiveBufferFull) t) (sym same)
    (send_full_does (state_of c.self.inside) c.self.invariant.linked c.args.channel c.args.chunk
    c.in_ok-sample.sample is
    c.in-Err.field-0 c.try_send-answer.new.reg c.try_send-answer.new.self call))

pub returns-in-Err-clause-room : goal.returns-in-Err-clause-room
returns-in-Err-clause-room c =
    subst (λ t. TakesRoomOfOne t (record (state_of c.self.inside) {
      connection_registry = c.try_send-answer.new.reg;
      sender = c.try_send-answer.new.self;
    })) c.self.view_is
    (makes_none (state_of c.self.inside) (record (state_of c.self.inside) {
      connection_registry = c.try_send-answer.new.reg;
      sender = c.try_send-answer.new.self;
    }) refl (omega arith))

pub enter_channel-requires-clause-index : goal.enter_channel-requires-clause-index
enter_channel-requires-clause-index c =
    let is = subst (λ t. IsSample t c.args.channel c.args.chunk c.in_ok-sample.sample) (sym c.self.view_is)
    c.in_ok-sample.ensures.sample in
    let within = slice_get_within c.self.inside.entries.items c.in_ok-sample.sample.found.index
    c.in_ok-sample.sample.found.entry
    is.found.0 in
    omega (arith, c.self.inside.entries.ok.0)

pub enter_channel-requires-clause-small : goal.enter_channel-requires-clause-small
enter_channel-requires-clause-small c =
    let is = subst (λ t. IsSample t c.args.channel c.args.chunk c.in_ok-sample.sample) (sym c.self.view_is)
    c.in_ok-sample.ensures.sample in
    entry_counted (state_of c.self.inside) c.self.invariant.linked c.args.channel c.args.chunk c.in_ok-sample.sample is
    c.self.invariant.ledger c.self.invariant.represents

pub count_more-requires-clause-small : goal.count_more-requires-clause-small
count_more-requires-clause-small c =
    let is = subst (λ t. IsSample t c.args.channel c.args.chunk c.in_ok-sample.sample) (sym c.self.view_is)
    c.in_ok-sample.ensures.sample in
    channel_counted (state_of c.self.inside) c.self.invariant.linked c.args.channel c.args.chunk
    c.in_ok-sample.sample is
    c.self.invariant.ledger c.self.invariant.represents

pub overflow_add-self : goal.overflow_add-self
overflow_add-self c =
    let is = subst (λ t. IsSample t c.args.channel c.args.chunk c.in_ok-sample.sample) (sym c.self.view_is)
    c.in_ok-sample.ensures.sample in
    let few = all_counted (state_of c.self.inside) c.self.invariant.linked c.args.channel c.args.chunk
    c.in_ok-sample.sample
    is c.self.invariant.ledger c.self.invariant.represents in
    omega arith

pub invariant_of-self-in-None : goal.invariant_of-self-in-None
invariant_of-self-in-None c =
    let is = subst (λ t. IsSample t c.args.channel c.args.chunk c.in_ok-sample.sample) (sym c.self.view_is)
    c.in_ok-sample.ensures.sample in
    let call = call_at (state_of c.self.inside) c.new.result c.args.channel c.in_ok-sample.sample.pointer
    c.in_ok-sample.sample.size c.new.ensures.value c.try_send-answer.result (Ok None) (c.in-Ok.is ∙ ap Ok
    c.in-None.is)
    c.try_send-answer.new.reg c.try_send-answer.new.self (record {
      answer_is = c.try_send-answer.ensures.answer;
      registry_is = c.try_send-answer.ensures.sent;
      sender_is = c.try_send-answer.ensures.port;
    }) in
    let does = sent_does (state_of c.self.inside) c.self.invariant.linked c.args.channel c.args.chunk
    c.in_ok-sample.sample is
    c.try_send-answer.new.reg c.try_send-answer.new.self call c.enter_channel.new.entries.items
    c.enter_channel.ensures.written
    c.count_more.new.transits.items c.count_more.ensures.counted
    (vec_capacity c.enter_channel.new.entries - vec_len c.enter_channel.new.entries) 0 c.self.invariant.ledger
    c.self.invariant.represents in
    record {
      ledger = after_step c.self.invariant.ledger 0 (command.Send c.args.channel c.args.chunk) (Sent None);
      represents = does.1;
      linked = sent_linked (state_of c.self.inside) c.self.invariant.linked c.args.channel c.args.chunk
          c.in_ok-sample.sample
          is
          c.try_send-answer.new.reg c.try_send-answer.new.self call c.enter_channel.new.entries.items
          c.enter_channel.ensures.written
          c.count_more.new.transits.items c.count_more.ensures.counted
          (vec_capacity c.enter_channel.new.entries - vec_len c.enter_channel.new.entries) c.self.invariant.ledger
          c.self.invariant.represents;
    }

pub returns-in-None-clause-step : goal.returns-in-None-clause-step
returns-in-None-clause-step c =
    let is = subst (λ t. IsSample t c.args.channel c.args.chunk c.in_ok-sample.sample) (sym c.self.view_is)
    c.in_ok-sample.ensures.sample in
    let call = call_at (state_of c.self.inside) c.new.result c.args.channel c.in_ok-sample.sample.pointer
    c.in_ok-sample.sample.size c.new.ensures.value c.try_send-answer.result (Ok None) (c.in-Ok.is ∙ ap Ok
    c.in-None.is)
    c.try_send-answer.new.reg c.try_send-answer.new.self (record {
      answer_is = c.try_send-answer.ensures.answer;
      registry_is = c.try_send-answer.ensures.sent;
      sender_is = c.try_send-answer.ensures.port;
    }) in
    outside c.self.inside c.self.invariant c.args.self.now c.self.view_is (record (state_of c.self.inside) {
      connection_registry = c.try_send-answer.new.reg;
      sender = c.try_send-answer.new.self;
      entries = c.enter_channel.new.entries.items;
      transits = c.count_more.new.transits.items;
      in_transit = c.self.inside.in_transit + 1;
      spare = vec_capacity c.enter_channel.new.entries - vec_len c.enter_channel.new.entries;
    })
    (command.Send c.args.channel c.args.chunk) (Sent None) tt
    (sent_does (state_of c.self.inside) c.self.invariant.linked c.args.channel c.args.chunk c.in_ok-sample.sample is
    c.try_send-answer.new.reg c.try_send-answer.new.self call c.enter_channel.new.entries.items
    c.enter_channel.ensures.written
    c.count_more.new.transits.items c.count_more.ensures.counted
    (vec_capacity c.enter_channel.new.entries - vec_len c.enter_channel.new.entries))

pub returns-in-None-clause-room : goal.returns-in-None-clause-room
returns-in-None-clause-room c =
    let sent : TransportState = record (state_of c.self.inside) {
      connection_registry = c.try_send-answer.new.reg;
      sender = c.try_send-answer.new.self;
      entries = c.enter_channel.new.entries.items;
      transits = c.count_more.new.transits.items;
      in_transit = c.self.inside.in_transit + 1;
      spare = vec_capacity c.enter_channel.new.entries - vec_len c.enter_channel.new.entries;
    } in
    subst (λ t. TakesRoomOfOne t sent) c.self.view_is
    (makes_none (state_of c.self.inside) sent
    (same_spare c.self.inside.entries c.enter_channel.new.entries c.enter_channel.ensures.room
    (ap length c.enter_channel.ensures.written
    ∙ length-set c.self.inside.entries.items c.in_ok-sample.sample.found.index _)) (omega arith))

pub pointed_entry-leaving-requires-clause-points : goal.pointed_entry-leaving-requires-clause-points
pointed_entry-leaving-requires-clause-points c =
    let is = subst (λ t. IsSample t c.args.channel c.args.chunk c.in_ok-sample.sample) (sym c.self.view_is)
    c.in_ok-sample.ensures.sample in
    let call = call_at (state_of c.self.inside) c.new.result c.args.channel c.in_ok-sample.sample.pointer
    c.in_ok-sample.sample.size c.new.ensures.value c.try_send-answer.result (Ok (Some c.in-Some.oldest))
    (c.in-Ok.is ∙ ap Ok c.in-Some.is)
    c.try_send-answer.new.reg c.try_send-answer.new.self (record {
      answer_is = c.try_send-answer.ensures.answer;
      registry_is = c.try_send-answer.ensures.sent;
      sender_is = c.try_send-answer.ensures.port;
    }) in
    subst (λ es. PointsTo c.self.inside.memory_registry c.self.inside.memory es
    (owners_of c.deref-2.result.now (segment_of c.in-Some.oldest)) c.in-Some.oldest) (sym c.deref.ensures.value)
    (subst (λ os. PointsTo c.self.inside.memory_registry c.self.inside.memory c.self.inside.entries.items
    (owners_of os (segment_of c.in-Some.oldest)) c.in-Some.oldest) (sym c.deref-2.ensures.value)
    (oldest_leads (state_of c.self.inside) c.self.invariant.linked c.args.channel c.args.chunk c.in_ok-sample.sample is
    c.in-Some.oldest c.try_send-answer.new.reg c.try_send-answer.new.self call c.self.invariant.ledger
    c.self.invariant.represents).points)

pub take_place-kept-requires-clause-joining : goal.take_place-kept-requires-clause-joining
take_place-kept-requires-clause-joining c =
    let is = subst (λ t. IsSample t c.args.channel c.args.chunk c.in_ok-sample.sample) (sym c.self.view_is)
    c.in_ok-sample.ensures.sample in
    let within = slice_get_within c.self.inside.entries.items c.in_ok-sample.sample.found.index
    c.in_ok-sample.sample.found.entry
    is.found.0 in
    omega (arith, c.self.inside.entries.ok.0)

pub take_place-kept-requires-clause-small : goal.take_place-kept-requires-clause-small
take_place-kept-requires-clause-small c =
    let is = subst (λ t. IsSample t c.args.channel c.args.chunk c.in_ok-sample.sample) (sym c.self.view_is)
    c.in_ok-sample.ensures.sample in
    entry_counted (state_of c.self.inside) c.self.invariant.linked c.args.channel c.args.chunk c.in_ok-sample.sample is
    c.self.invariant.ledger c.self.invariant.represents

pub take_place-kept-requires-clause-leaving : goal.take_place-kept-requires-clause-leaving
take_place-kept-requires-clause-leaving c =
    let is = subst (λ t. IsSample t c.args.channel c.args.chunk c.in_ok-sample.sample) (sym c.self.view_is)
    c.in_ok-sample.ensures.sample in
    let call = call_at (state_of c.self.inside) c.new.result c.args.channel c.in_ok-sample.sample.pointer
    c.in_ok-sample.sample.size c.new.ensures.value c.try_send-answer.result (Ok (Some c.in-Some.oldest))
    (c.in-Ok.is ∙ ap Ok c.in-Some.is)
    c.try_send-answer.new.reg c.try_send-answer.new.self (record {
      answer_is = c.try_send-answer.ensures.answer;
      registry_is = c.try_send-answer.ensures.sent;
      sender_is = c.try_send-answer.ensures.port;
    }) in
    let found = subst (λ os. (p : PointsTo c.self.inside.memory_registry c.self.inside.memory
    c.self.inside.entries.items (owners_of os (segment_of c.in-Some.oldest)) c.in-Some.oldest) →
    (c.pointed_entry-leaving.result.index ≡ p.index) × (c.pointed_entry-leaving.result.entry ≡ p.entry))
    c.deref-2.ensures.value
    (subst (λ es. (p : PointsTo c.self.inside.memory_registry c.self.inside.memory es
    (owners_of c.deref-2.result.now (segment_of c.in-Some.oldest)) c.in-Some.oldest) →
    (c.pointed_entry-leaving.result.index ≡ p.index) × (c.pointed_entry-leaving.result.entry ≡ p.entry))
    c.deref.ensures.value c.pointed_entry-leaving.ensures.found) in
    let within = leaving_index (state_of c.self.inside) c.self.invariant.linked c.args.channel c.args.chunk
    c.in_ok-sample.sample is
    c.in-Some.oldest c.try_send-answer.new.reg c.try_send-answer.new.self call c.pointed_entry-leaving.result found
    c.self.invariant.ledger c.self.invariant.represents in
    omega (arith, c.self.inside.entries.ok.0)

pub take_place-kept-requires-clause-transit : goal.take_place-kept-requires-clause-transit
take_place-kept-requires-clause-transit c =
    let is = subst (λ t. IsSample t c.args.channel c.args.chunk c.in_ok-sample.sample) (sym c.self.view_is)
    c.in_ok-sample.ensures.sample in
    let call = call_at (state_of c.self.inside) c.new.result c.args.channel c.in_ok-sample.sample.pointer
    c.in_ok-sample.sample.size c.new.ensures.value c.try_send-answer.result (Ok (Some c.in-Some.oldest))
    (c.in-Ok.is ∙ ap Ok c.in-Some.is)
    c.try_send-answer.new.reg c.try_send-answer.new.self (record {
      answer_is = c.try_send-answer.ensures.answer;
      registry_is = c.try_send-answer.ensures.sent;
      sender_is = c.try_send-answer.ensures.port;
    }) in
    let found = subst (λ os. (p : PointsTo c.self.inside.memory_registry c.self.inside.memory
    c.self.inside.entries.items (owners_of os (segment_of c.in-Some.oldest)) c.in-Some.oldest) →
    (c.pointed_entry-leaving.result.index ≡ p.index) × (c.pointed_entry-leaving.result.entry ≡ p.entry))
    c.deref-2.ensures.value
    (subst (λ es. (p : PointsTo c.self.inside.memory_registry c.self.inside.memory es
    (owners_of c.deref-2.result.now (segment_of c.in-Some.oldest)) c.in-Some.oldest) →
    (c.pointed_entry-leaving.result.index ≡ p.index) × (c.pointed_entry-leaving.result.entry ≡ p.entry))
    c.deref.ensures.value c.pointed_entry-leaving.ensures.found) in
    leaving_transit (state_of c.self.inside) c.self.invariant.linked c.args.channel c.args.chunk
    c.in_ok-sample.sample is
    c.in-Some.oldest c.try_send-answer.new.reg c.try_send-answer.new.self call c.pointed_entry-leaving.result found
    c.self.invariant.ledger c.self.invariant.represents

pub free_unless-requires-clause-out : goal.free_unless-requires-clause-out
free_unless-requires-clause-out c =
    let is = subst (λ t. IsSample t c.args.channel c.args.chunk c.in_ok-sample.sample) (sym c.self.view_is)
    c.in_ok-sample.ensures.sample in
    let call = call_at (state_of c.self.inside) c.new.result c.args.channel c.in_ok-sample.sample.pointer
    c.in_ok-sample.sample.size c.new.ensures.value c.try_send-answer.result (Ok (Some c.in-Some.oldest))
    (c.in-Ok.is ∙ ap Ok c.in-Some.is)
    c.try_send-answer.new.reg c.try_send-answer.new.self (record {
      answer_is = c.try_send-answer.ensures.answer;
      registry_is = c.try_send-answer.ensures.sent;
      sender_is = c.try_send-answer.ensures.port;
    }) in
    oldest_out (state_of c.self.inside) c.self.invariant.linked c.args.channel c.args.chunk c.in_ok-sample.sample is
    c.in-Some.oldest c.try_send-answer.new.reg c.try_send-answer.new.self call c.self.invariant.ledger
    c.self.invariant.represents

pub free_unless-requires-clause-used : goal.free_unless-requires-clause-used
free_unless-requires-clause-used c =
    let is = subst (λ t. IsSample t c.args.channel c.args.chunk c.in_ok-sample.sample) (sym c.self.view_is)
    c.in_ok-sample.ensures.sample in
    let call = call_at (state_of c.self.inside) c.new.result c.args.channel c.in_ok-sample.sample.pointer
    c.in_ok-sample.sample.size c.new.ensures.value c.try_send-answer.result (Ok (Some c.in-Some.oldest))
    (c.in-Ok.is ∙ ap Ok c.in-Some.is)
    c.try_send-answer.new.reg c.try_send-answer.new.self (record {
      answer_is = c.try_send-answer.ensures.answer;
      registry_is = c.try_send-answer.ensures.sent;
      sender_is = c.try_send-answer.ensures.port;
    }) in
    oldest_used (state_of c.self.inside) c.self.invariant.linked c.args.channel c.args.chunk c.in_ok-sample.sample is
    c.in-Some.oldest c.try_send-answer.new.reg c.try_send-answer.new.self call c.self.invariant.ledger
    c.self.invariant.represents

pub invariant_of-self-2 : goal.invariant_of-self-2
invariant_of-self-2 c =
    let is = subst (λ t. IsSample t c.args.channel c.args.chunk c.in_ok-sample.sample) (sym c.self.view_is)
    c.in_ok-sample.ensures.sample in
    let call = call_at (state_of c.self.inside) c.new.result c.args.channel c.in_ok-sample.sample.pointer
    c.in_ok-sample.sample.size c.new.ensures.value c.try_send-answer.result (Ok (Some c.in-Some.oldest))
    (c.in-Ok.is ∙ ap Ok c.in-Some.is)
    c.try_send-answer.new.reg c.try_send-answer.new.self (record {
      answer_is = c.try_send-answer.ensures.answer;
      registry_is = c.try_send-answer.ensures.sent;
      sender_is = c.try_send-answer.ensures.port;
    }) in
    let found = subst (λ os. (p : PointsTo c.self.inside.memory_registry c.self.inside.memory
    c.self.inside.entries.items (owners_of os (segment_of c.in-Some.oldest)) c.in-Some.oldest) →
    (c.pointed_entry-leaving.result.index ≡ p.index) × (c.pointed_entry-leaving.result.entry ≡ p.entry))
    c.deref-2.ensures.value
    (subst (λ es. (p : PointsTo c.self.inside.memory_registry c.self.inside.memory es
    (owners_of c.deref-2.result.now (segment_of c.in-Some.oldest)) c.in-Some.oldest) →
    (c.pointed_entry-leaving.result.index ≡ p.index) × (c.pointed_entry-leaving.result.entry ≡ p.entry))
    c.deref.ensures.value c.pointed_entry-leaving.ensures.found) in
    let freed = subst (λ b. (segment : Segment Pool) →
    segment_value c.self.inside.memory_registry c.self.inside.memory.slots (segment_of c.in-Some.oldest)
    ≡ Some segment → FreesUnless b c.self.inside.view c.self.inside.memory_registry c.self.inside.memory
    (segment_of c.in-Some.oldest) (offset_of c.in-Some.oldest / segment.allocator.buckets.size)
    c.free_unless.new.reg c.free_unless.new.memory) c.take_place-kept.ensures.kept c.free_unless.ensures.freed in
    let does = over_does (state_of c.self.inside) c.self.invariant.linked c.args.channel c.args.chunk
    c.in_ok-sample.sample is
    c.in-Some.oldest c.try_send-answer.new.reg c.try_send-answer.new.self call c.pointed_entry-leaving.result found
    c.free_unless.new.reg c.free_unless.new.memory freed
    c.take_place-kept.new.entries.items c.take_place-kept.ensures.written
    (vec_capacity c.take_place-kept.new.entries - vec_len c.take_place-kept.new.entries)
    0 c.self.invariant.ledger c.self.invariant.represents in
    record {
      ledger = after_step c.self.invariant.ledger 0 (command.Send c.args.channel c.args.chunk)
          (Sent (Some (record {
            chunk = c.pointed_entry-leaving.result.entry.name;
            segment = segment_of c.in-Some.oldest;
            place = offset_of c.in-Some.oldest;
          })));
      represents = does.1;
      linked = over_linked (state_of c.self.inside) c.self.invariant.linked c.args.channel c.args.chunk
          c.in_ok-sample.sample
          is
          c.in-Some.oldest c.try_send-answer.new.reg c.try_send-answer.new.self call c.pointed_entry-leaving.result
          found
          c.free_unless.new.reg c.free_unless.new.memory freed
          c.take_place-kept.new.entries.items c.take_place-kept.ensures.written
          (vec_capacity c.take_place-kept.new.entries - vec_len c.take_place-kept.new.entries)
          c.self.invariant.ledger c.self.invariant.represents;
    }

pub returns-clause-step : goal.returns-clause-step
returns-clause-step c =
    let is = subst (λ t. IsSample t c.args.channel c.args.chunk c.in_ok-sample.sample) (sym c.self.view_is)
    c.in_ok-sample.ensures.sample in
    let call = call_at (state_of c.self.inside) c.new.result c.args.channel c.in_ok-sample.sample.pointer
    c.in_ok-sample.sample.size c.new.ensures.value c.try_send-answer.result (Ok (Some c.in-Some.oldest))
    (c.in-Ok.is ∙ ap Ok c.in-Some.is)
    c.try_send-answer.new.reg c.try_send-answer.new.self (record {
      answer_is = c.try_send-answer.ensures.answer;
      registry_is = c.try_send-answer.ensures.sent;
      sender_is = c.try_send-answer.ensures.port;
    }) in
    let found = subst (λ os. (p : PointsTo c.self.inside.memory_registry c.self.inside.memory
    c.self.inside.entries.items (owners_of os (segment_of c.in-Some.oldest)) c.in-Some.oldest) →
    (c.pointed_entry-leaving.result.index ≡ p.index) × (c.pointed_entry-leaving.result.entry ≡ p.entry))
    c.deref-2.ensures.value
    (subst (λ es. (p : PointsTo c.self.inside.memory_registry c.self.inside.memory es
    (owners_of c.deref-2.result.now (segment_of c.in-Some.oldest)) c.in-Some.oldest) →
    (c.pointed_entry-leaving.result.index ≡ p.index) × (c.pointed_entry-leaving.result.entry ≡ p.entry))
    c.deref.ensures.value c.pointed_entry-leaving.ensures.found) in
    let freed = subst (λ b. (segment : Segment Pool) →
    segment_value c.self.inside.memory_registry c.self.inside.memory.slots (segment_of c.in-Some.oldest)
    ≡ Some segment → FreesUnless b c.self.inside.view c.self.inside.memory_registry c.self.inside.memory
    (segment_of c.in-Some.oldest) (offset_of c.in-Some.oldest / segment.allocator.buckets.size)
    c.free_unless.new.reg c.free_unless.new.memory) c.take_place-kept.ensures.kept c.free_unless.ensures.freed in
    let does = over_does (state_of c.self.inside) c.self.invariant.linked c.args.channel c.args.chunk
    c.in_ok-sample.sample is
    c.in-Some.oldest c.try_send-answer.new.reg c.try_send-answer.new.self call c.pointed_entry-leaving.result found
    c.free_unless.new.reg c.free_unless.new.memory freed
    c.take_place-kept.new.entries.items c.take_place-kept.ensures.written
    (vec_capacity c.take_place-kept.new.entries - vec_len c.take_place-kept.new.entries) in
    outside c.self.inside c.self.invariant c.args.self.now c.self.view_is (record (state_of c.self.inside) {
      memory_registry = c.free_unless.new.reg;
      memory = c.free_unless.new.memory;
      connection_registry = c.try_send-answer.new.reg;
      sender = c.try_send-answer.new.self;
      entries = c.take_place-kept.new.entries.items;
      spare = vec_capacity c.take_place-kept.new.entries - vec_len c.take_place-kept.new.entries;
    })
    (command.Send c.args.channel c.args.chunk) (Sent (Some c.slot_at.result)) tt
    (subst (λ (s : Slot). DoesAnywhere (state_of c.self.inside) (command.Send c.args.channel c.args.chunk) (Sent (Some
    s))
    (record (state_of c.self.inside) {
      memory_registry = c.free_unless.new.reg;
      memory = c.free_unless.new.memory;
      connection_registry = c.try_send-answer.new.reg;
      sender = c.try_send-answer.new.self;
      entries = c.take_place-kept.new.entries.items;
      spare = vec_capacity c.take_place-kept.new.entries - vec_len c.take_place-kept.new.entries;
    })) (sym c.slot_at.ensures.slot) does)

pub returns-clause-room : goal.returns-clause-room
returns-clause-room c =
    let over : TransportState = record (state_of c.self.inside) {
      memory_registry = c.free_unless.new.reg;
      memory = c.free_unless.new.memory;
      connection_registry = c.try_send-answer.new.reg;
      sender = c.try_send-answer.new.self;
      entries = c.take_place-kept.new.entries.items;
      spare = vec_capacity c.take_place-kept.new.entries - vec_len c.take_place-kept.new.entries;
    } in
    subst (λ t. TakesRoomOfOne t over) c.self.view_is
    (makes_none (state_of c.self.inside) over
    (same_spare c.self.inside.entries c.take_place-kept.new.entries c.take_place-kept.ensures.room
    (ap length c.take_place-kept.ensures.written ∙ length-set _ c.pointed_entry-leaving.result.index _
    ∙ length-set c.self.inside.entries.items c.in_ok-sample.sample.found.index _)) (omega arith))
