use Rattle.std.proofs.Common.{◌≡◌, ◌<◌, ◌≤◌, ◌∙◌, ◌*◌, ◌+◌, ◌&&◌, nat_lt, ℕ, Result, Ok, Err, set, get_or, refl, sym, ap, subst, arith}
use Rattle.cal_queue.specs.UsedChunks.{contains, capacity_of, none_used, after_removal}
use Rattle.cal_storage.specs.Contents.{Contents}
use Rattle.cal_connection.specs.declared.errors.ZeroCopyReleaseError.{ZeroCopyReleaseError}
use Rattle.cal_connection.specs.Port.{PortEntry, ReceiverEnd, count_at}
use Rattle.cal_transport.specs.declared.command.Command.TheVariants as command
use Rattle.cal_transport.specs.declared.reply.Reply.TheVariants.{Released, Refused}
use Rattle.cal_transport.specs.declared.reply.Refusal.TheVariants as refusal
use Rattle.cal_transport.specs.ChunkEntry.{AreRising, HasNoEntry, IsFound}
use Rattle.cal_transport.specs.Room.{TakesRoomOfOne}
use Rattle.cal_transport.specs.Step.{after_step}
use Rattle.cal_transport.specs.State.{TransportState, core_of, Represents, IsLinked, DoesAnywhere}
use Rattle.cal_transport.specs.StateOf.{state_of}
use Rattle.cal_transport.proofs.Standing.{outside, unchanged}
use Rattle.cal_transport.proofs.Finding.{entries_rise}
use Rattle.cal_transport.proofs.ReleaseCode.{ReleaseCall, release_outside_does, release_unknown_does, release_unlent_does, marks_many, transit_mark, lent_mark, place, pointer_by, counts_it, registered, release_full_state, release_full_does, released_linked, released_does}
use Rattle.cal_transport.proofs.RoomTaken.{makes_none}
use Rattle.cal_transport.proofs.transport.Transport.release.Goals as goal

call_at : (t : TransportState) (n k : ℕ) → n ≡ k → (pointer : ℕ) (a b : Result (Unit {0}) ZeroCopyReleaseError) →
    a ≡ b → (registry : Contents PortEntry) (receiver : ReceiverEnd) → ReleaseCall t n pointer a registry receiver →
    ReleaseCall t k pointer b registry receiver
call_at t n k same pointer a b is registry receiver call =
    subst (λ m. ReleaseCall t m pointer b registry receiver) same
    (subst (λ r. ReleaseCall t n pointer r registry receiver) is call)

pub returns-then-channel-self-clause-step : goal.returns-then-channel-self-clause-step
returns-then-channel-self-clause-step c =
    unchanged c.self.inside c.self.invariant c.args.self.now c.self.view_is
    (command.Release c.args.channel c.args.chunk) (Refused refusal.OutsideConnection) tt
    (release_outside_does (state_of c.self.inside) c.args.channel c.args.chunk c.if-channel-self.true)

pub returns-then-channel-self-clause-room : goal.returns-then-channel-self-clause-room
returns-then-channel-self-clause-room c = makes_none c.args.self.now c.args.self.now refl (omega arith)

pub find_entry-requires : goal.find_entry-requires
find_entry-requires c = record {
  rising = subst AreRising (sym c.deref.ensures.value)
      (entries_rise (core_of (state_of c.self.inside)) c.self.invariant.ledger c.self.invariant.represents.place
      c.self.invariant.represents.shows c.self.invariant.represents.sound.names);
}

pub returns-in-None-clause-step : goal.returns-in-None-clause-step
returns-in-None-clause-step c = unchanged c.self.inside c.self.invariant c.args.self.now c.self.view_is
    (command.Release c.args.channel c.args.chunk) (Refused refusal.NotBorrowed) tt
    (release_unknown_does (state_of c.self.inside) c.self.invariant.linked c.args.channel c.if-channel-self.false
    c.args.chunk
    (subst (λ es. HasNoEntry es c.args.chunk) c.deref.ensures.value c.in-None.ensures.found))

pub returns-in-None-clause-room : goal.returns-in-None-clause-room
returns-in-None-clause-room c = makes_none c.args.self.now c.args.self.now refl (omega arith)

pub is_lent-requires-clause-mark : goal.is_lent-requires-clause-mark
is_lent-requires-clause-mark c =
    let is = subst (λ es. IsFound es c.args.chunk c.in-Some.found) c.deref.ensures.value c.in-Some.ensures.found in
    subst (λ us. 0 < c.in-Some.found.entry.transits → c.in-Some.found.entry.segment * c.self.inside.settings.samples
    + c.in-Some.found.entry.bucket < capacity_of (get_or us c.args.channel (none_used 0))) (sym c.deref-2.ensures.value)
    (λ some. subst (λ n. c.in-Some.found.entry.segment * c.self.inside.settings.samples
    + c.in-Some.found.entry.bucket < n)
    (sym (marks_many (state_of c.self.inside) c.self.invariant.linked c.args.channel c.if-channel-self.false
    c.args.chunk
    c.in-Some.found is c.self.invariant.ledger c.self.invariant.represents))
    (transit_mark (state_of c.self.inside) c.self.invariant.linked c.args.channel c.if-channel-self.false c.args.chunk
    c.in-Some.found is c.self.invariant.ledger c.self.invariant.represents some))

pub is_lent-requires-clause-small : goal.is_lent-requires-clause-small
is_lent-requires-clause-small c =
    let is = subst (λ es. IsFound es c.args.chunk c.in-Some.found) c.deref.ensures.value c.in-Some.ensures.found in
    let many = marks_many (state_of c.self.inside) c.self.invariant.linked c.args.channel c.if-channel-self.false
    c.args.chunk
    c.in-Some.found is c.self.invariant.ledger c.self.invariant.represents in
    let few = c.self.invariant.linked.marks in
    subst (λ us. capacity_of (get_or us c.args.channel (none_used 0)) ≤ 9223372036854775808)
    (sym c.deref-2.ensures.value) (omega arith)

pub returns-then-not-is_lent-clause-step : goal.returns-then-not-is_lent-clause-step
returns-then-not-is_lent-clause-step c =
    let is = subst (λ es. IsFound es c.args.chunk c.in-Some.found) c.deref.ensures.value c.in-Some.ensures.found in
    let told = subst (λ us. c.is_lent.result ≡ (nat_lt 0 c.in-Some.found.entry.transits
    && contains (get_or us c.args.channel (none_used 0)) (c.in-Some.found.entry.segment * c.self.inside.settings.samples
    + c.in-Some.found.entry.bucket))) c.deref-2.ensures.value c.is_lent.ensures.lent in
    unchanged c.self.inside c.self.invariant c.args.self.now c.self.view_is
    (command.Release c.args.channel c.args.chunk) (Refused refusal.NotBorrowed) tt
    (release_unlent_does (state_of c.self.inside) c.self.invariant.linked c.args.channel
    c.if-channel-self.false c.args.chunk
    c.in-Some.found is
    (sym told ∙ c.if-not-is_lent.true))

pub returns-then-not-is_lent-clause-room : goal.returns-then-not-is_lent-clause-room
returns-then-not-is_lent-clause-room c = makes_none c.args.self.now c.args.self.now refl (omega arith)

pub pointer_at-pointer-requires-clause-place : goal.pointer_at-pointer-requires-clause-place
pointer_at-pointer-requires-clause-place c =
    let is = subst (λ es. IsFound es c.args.chunk c.in-Some.found) c.deref.ensures.value c.in-Some.ensures.found in
    let told = subst (λ us. c.is_lent.result ≡ (nat_lt 0 c.in-Some.found.entry.transits
    && contains (get_or us c.args.channel (none_used 0)) (c.in-Some.found.entry.segment * c.self.inside.settings.samples
    + c.in-Some.found.entry.bucket))) c.deref-2.ensures.value c.is_lent.ensures.lent in
    let lent = sym told ∙ c.if-not-is_lent.false in
    (place (state_of c.self.inside) c.self.invariant.linked c.args.channel c.if-channel-self.false c.args.chunk
    c.in-Some.found is lent c.self.invariant.ledger c.self.invariant.represents).place

pub release-answer-requires-clause-borrowed : goal.release-answer-requires-clause-borrowed
release-answer-requires-clause-borrowed c =
    let is = subst (λ es. IsFound es c.args.chunk c.in-Some.found) c.deref.ensures.value c.in-Some.ensures.found in
    let told = subst (λ us. c.is_lent.result ≡ (nat_lt 0 c.in-Some.found.entry.transits
    && contains (get_or us c.args.channel (none_used 0)) (c.in-Some.found.entry.segment * c.self.inside.settings.samples
    + c.in-Some.found.entry.bucket))) c.deref-2.ensures.value c.is_lent.ensures.lent in
    let lent = sym told ∙ c.if-not-is_lent.false in
    subst (λ n. 0 < count_at c.self.inside.receiver n) (sym c.new-id.ensures.value)
    (counts_it (state_of c.self.inside) c.self.invariant.linked c.args.channel c.if-channel-self.false c.args.chunk
    c.in-Some.found is lent c.self.invariant.ledger c.self.invariant.represents)

pub invariant_of-self : goal.invariant_of-self
invariant_of-self c =
    let is = subst (λ es. IsFound es c.args.chunk c.in-Some.found) c.deref.ensures.value c.in-Some.ensures.found in
    let told = subst (λ us. c.is_lent.result ≡ (nat_lt 0 c.in-Some.found.entry.transits
    && contains (get_or us c.args.channel (none_used 0)) (c.in-Some.found.entry.segment * c.self.inside.settings.samples
    + c.in-Some.found.entry.bucket))) c.deref-2.ensures.value c.is_lent.ensures.lent in
    let lent = sym told ∙ c.if-not-is_lent.false in
    let call = call_at (state_of c.self.inside) c.new-id.result c.args.channel c.new-id.ensures.value
    c.pointer_at-pointer.result c.release-answer.result (Err c.in-Err.field-0) c.in-Err.is c.release-answer.new.reg
    c.release-answer.new.self (record {
      answer_is = c.release-answer.ensures.answer;
      registry_is = c.release-answer.ensures.released;
      receiver_is = c.release-answer.ensures.port;
    }) in
    let same = release_full_state (state_of c.self.inside) c.self.invariant.linked c.args.channel
    c.if-channel-self.false c.args.chunk
    c.in-Some.found is lent
    c.pointer_at-pointer.result c.release-answer.new.reg c.release-answer.new.self c.in-Err.field-0 call in
    record {
      ledger = c.self.invariant.ledger;
      represents = subst (λ t. Represents t c.self.invariant.ledger) (sym same) c.self.invariant.represents;
      linked = subst IsLinked (sym same) c.self.invariant.linked;
    }

pub returns-in-Err-clause-step : goal.returns-in-Err-clause-step
returns-in-Err-clause-step c =
    let is = subst (λ es. IsFound es c.args.chunk c.in-Some.found) c.deref.ensures.value c.in-Some.ensures.found in
    let told = subst (λ us. c.is_lent.result ≡ (nat_lt 0 c.in-Some.found.entry.transits
    && contains (get_or us c.args.channel (none_used 0)) (c.in-Some.found.entry.segment * c.self.inside.settings.samples
    + c.in-Some.found.entry.bucket))) c.deref-2.ensures.value c.is_lent.ensures.lent in
    let lent = sym told ∙ c.if-not-is_lent.false in
    let call = call_at (state_of c.self.inside) c.new-id.result c.args.channel c.new-id.ensures.value
    c.pointer_at-pointer.result c.release-answer.result (Err c.in-Err.field-0) c.in-Err.is c.release-answer.new.reg
    c.release-answer.new.self (record {
      answer_is = c.release-answer.ensures.answer;
      registry_is = c.release-answer.ensures.released;
      receiver_is = c.release-answer.ensures.port;
    }) in
    let same = release_full_state (state_of c.self.inside) c.self.invariant.linked c.args.channel
    c.if-channel-self.false c.args.chunk
    c.in-Some.found is lent
    c.pointer_at-pointer.result c.release-answer.new.reg c.release-answer.new.self c.in-Err.field-0 call in
    outside c.self.inside c.self.invariant c.args.self.now c.self.view_is (record (state_of c.self.inside) {
      connection_registry = c.release-answer.new.reg;
      receiver = c.release-answer.new.self;
    })
    (command.Release c.args.channel c.args.chunk) (Refused refusal.RetrieveBufferFull) tt
    (subst (λ t. DoesAnywhere (state_of c.self.inside) (command.Release c.args.channel c.args.chunk)
    (Refused refusal.RetrieveBufferFull) t) (sym same)
    (release_full_does (state_of c.self.inside) c.self.invariant.linked c.args.channel c.if-channel-self.false
    c.args.chunk
    c.in-Some.found is lent
    c.pointer_at-pointer.result c.release-answer.new.reg c.release-answer.new.self c.in-Err.field-0 call))

pub returns-in-Err-clause-room : goal.returns-in-Err-clause-room
returns-in-Err-clause-room c =
    let same : TransportState = record (state_of c.self.inside) {
      connection_registry = c.release-answer.new.reg;
      receiver = c.release-answer.new.self;
    } in
    subst (λ t. TakesRoomOfOne t same) c.self.view_is
    (makes_none (state_of c.self.inside) same refl (omega arith))

pub go_back-requires-clause-registered : goal.go_back-requires-clause-registered
go_back-requires-clause-registered c =
    let is = subst (λ es. IsFound es c.args.chunk c.in-Some.found) c.deref.ensures.value c.in-Some.ensures.found in
    let told = subst (λ us. c.is_lent.result ≡ (nat_lt 0 c.in-Some.found.entry.transits
    && contains (get_or us c.args.channel (none_used 0)) (c.in-Some.found.entry.segment * c.self.inside.settings.samples
    + c.in-Some.found.entry.bucket))) c.deref-2.ensures.value c.is_lent.ensures.lent in
    let lent = sym told ∙ c.if-not-is_lent.false in
    let pointer_is = pointer_by (state_of c.self.inside) c.self.invariant.linked c.args.channel
    c.if-channel-self.false c.args.chunk
    c.in-Some.found is lent
    c.pointer_at-pointer.result c.pointer_at-pointer.ensures.pointer in
    registered (state_of c.self.inside) c.self.invariant.linked c.args.channel c.if-channel-self.false c.args.chunk
    c.in-Some.found is lent c.pointer_at-pointer.result c.self.invariant.ledger c.self.invariant.represents
    (pointer_is c.self.invariant.ledger c.self.invariant.represents)

pub mark_of-mark-requires : goal.mark_of-mark-requires
mark_of-mark-requires c =
    let is = subst (λ es. IsFound es c.args.chunk c.in-Some.found) c.deref.ensures.value c.in-Some.ensures.found in
    let told = subst (λ us. c.is_lent.result ≡ (nat_lt 0 c.in-Some.found.entry.transits
    && contains (get_or us c.args.channel (none_used 0)) (c.in-Some.found.entry.segment * c.self.inside.settings.samples
    + c.in-Some.found.entry.bucket))) c.deref-2.ensures.value c.is_lent.ensures.lent in
    let lent = sym told ∙ c.if-not-is_lent.false in
    let mark = lent_mark (state_of c.self.inside) c.self.invariant.linked c.args.channel c.if-channel-self.false
    c.args.chunk
    c.in-Some.found is lent c.self.invariant.ledger c.self.invariant.represents in
    let most = c.self.invariant.linked.marks in
    record { small = omega arith }

pub invariant_of-self-2 : goal.invariant_of-self-2
invariant_of-self-2 c =
    let is = subst (λ es. IsFound es c.args.chunk c.in-Some.found) c.deref.ensures.value c.in-Some.ensures.found in
    let told = subst (λ us. c.is_lent.result ≡ (nat_lt 0 c.in-Some.found.entry.transits
    && contains (get_or us c.args.channel (none_used 0)) (c.in-Some.found.entry.segment * c.self.inside.settings.samples
    + c.in-Some.found.entry.bucket))) c.deref-2.ensures.value c.is_lent.ensures.lent in
    let lent = sym told ∙ c.if-not-is_lent.false in
    let call = call_at (state_of c.self.inside) c.new-id.result c.args.channel c.new-id.ensures.value
    c.pointer_at-pointer.result c.release-answer.result (Ok c.in-Ok.field-0) c.in-Ok.is c.release-answer.new.reg
    c.release-answer.new.self (record {
      answer_is = c.release-answer.ensures.answer;
      registry_is = c.release-answer.ensures.released;
      receiver_is = c.release-answer.ensures.port;
    }) in
    let pointer_is = pointer_by (state_of c.self.inside) c.self.invariant.linked c.args.channel
    c.if-channel-self.false c.args.chunk
    c.in-Some.found is lent
    c.pointer_at-pointer.result c.pointer_at-pointer.ensures.pointer in
    let lent_is = c.unlend.ensures.lent ∙ ap (λ n. set c.self.inside.lent.items c.args.channel
    (after_removal (get_or c.self.inside.lent.items c.args.channel (none_used 0)) n)) c.mark_of-mark.ensures.mark in
    let does = released_does (state_of c.self.inside) c.self.invariant.linked c.args.channel c.if-channel-self.false
    c.args.chunk
    c.in-Some.found is lent
    c.pointer_at-pointer.result c.release-answer.new.reg c.release-answer.new.self call c.go_back.new.reg
    c.go_back.new.view c.go_back.ensures.gone c.unlend.new.lent.items lent_is pointer_is 0 c.self.invariant.ledger
    c.self.invariant.represents in
    record {
      ledger = after_step c.self.invariant.ledger 0 (command.Release c.args.channel c.args.chunk) Released;
      represents = does.1;
      linked = released_linked (state_of c.self.inside) c.self.invariant.linked c.args.channel
          c.if-channel-self.false c.args.chunk
          c.in-Some.found is lent
          c.pointer_at-pointer.result c.release-answer.new.reg c.release-answer.new.self call
          c.go_back.new.reg c.go_back.new.view c.go_back.ensures.gone c.unlend.new.lent.items lent_is;
    }

pub returns-clause-step : goal.returns-clause-step
returns-clause-step c =
    let is = subst (λ es. IsFound es c.args.chunk c.in-Some.found) c.deref.ensures.value c.in-Some.ensures.found in
    let told = subst (λ us. c.is_lent.result ≡ (nat_lt 0 c.in-Some.found.entry.transits
    && contains (get_or us c.args.channel (none_used 0)) (c.in-Some.found.entry.segment * c.self.inside.settings.samples
    + c.in-Some.found.entry.bucket))) c.deref-2.ensures.value c.is_lent.ensures.lent in
    let lent = sym told ∙ c.if-not-is_lent.false in
    let call = call_at (state_of c.self.inside) c.new-id.result c.args.channel c.new-id.ensures.value
    c.pointer_at-pointer.result c.release-answer.result (Ok c.in-Ok.field-0) c.in-Ok.is c.release-answer.new.reg
    c.release-answer.new.self (record {
      answer_is = c.release-answer.ensures.answer;
      registry_is = c.release-answer.ensures.released;
      receiver_is = c.release-answer.ensures.port;
    }) in
    let pointer_is = pointer_by (state_of c.self.inside) c.self.invariant.linked c.args.channel
    c.if-channel-self.false c.args.chunk
    c.in-Some.found is lent
    c.pointer_at-pointer.result c.pointer_at-pointer.ensures.pointer in
    let lent_is = c.unlend.ensures.lent ∙ ap (λ n. set c.self.inside.lent.items c.args.channel
    (after_removal (get_or c.self.inside.lent.items c.args.channel (none_used 0)) n)) c.mark_of-mark.ensures.mark in
    let does = released_does (state_of c.self.inside) c.self.invariant.linked c.args.channel c.if-channel-self.false
    c.args.chunk
    c.in-Some.found is lent
    c.pointer_at-pointer.result c.release-answer.new.reg c.release-answer.new.self call c.go_back.new.reg
    c.go_back.new.view c.go_back.ensures.gone c.unlend.new.lent.items lent_is pointer_is in
    outside c.self.inside c.self.invariant c.args.self.now c.self.view_is (record (state_of c.self.inside) {
      memory_registry = c.go_back.new.reg;
      view = c.go_back.new.view;
      connection_registry = c.release-answer.new.reg;
      receiver = c.release-answer.new.self;
      lent = c.unlend.new.lent.items;
    })
    (command.Release c.args.channel c.args.chunk) Released tt
    does

pub returns-clause-room : goal.returns-clause-room
returns-clause-room c =
    let released : TransportState = record (state_of c.self.inside) {
      memory_registry = c.go_back.new.reg;
      view = c.go_back.new.view;
      connection_registry = c.release-answer.new.reg;
      receiver = c.release-answer.new.self;
      lent = c.unlend.new.lent.items;
    } in
    subst (λ t. TakesRoomOfOne t released) c.self.view_is
    (makes_none (state_of c.self.inside) released refl (omega arith))
