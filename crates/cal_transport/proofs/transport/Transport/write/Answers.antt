use Rattle.std.proofs.Common.{◌∙◌, ◌+◌, length, sym, subst, arith}
use Rattle.std.proofs.lemmas.Bool.{ltb-true, ltb-false, eqb-true, eqb-false}
use Rattle.cal_transport.specs.declared.command.Command.TheVariants as command
use Rattle.cal_transport.specs.declared.reply.Reply.TheVariants.{Written, Refused}
use Rattle.cal_transport.specs.declared.reply.Refusal.TheVariants as refusal
use Rattle.cal_transport.specs.ChunkEntry.{AreRising, HasNoEntry, IsFound}
use Rattle.cal_transport.specs.State.{core_of}
use Rattle.cal_transport.specs.StateOf.{state_of}
use Rattle.cal_transport.specs.Step.{after_step}
use Rattle.cal_transport.proofs.Standing.{outside, unchanged}
use Rattle.cal_transport.proofs.Changing.{not_true, not_false}
use Rattle.cal_transport.proofs.Finding.{entries_rise}
use Rattle.cal_transport.proofs.WriteCode.{write_unknown_does, write_ended_does, write_sent_does, write_held, write_outside_does, write_none_does, write_place, write_payload, written_linked, written_does}
use Rattle.cal_transport.proofs.transport.Transport.write.Goals as goal

pub find_entry-requires : goal.find_entry-requires
find_entry-requires c = record {
  rising = subst AreRising (sym c.deref.ensures.value)
      (entries_rise (core_of (state_of c.self.inside)) c.self.invariant.ledger c.self.invariant.represents.place
      c.self.invariant.represents.shows c.self.invariant.represents.sound.names);
}

pub returns-in-None-clause-step : goal.returns-in-None-clause-step
returns-in-None-clause-step c =
    unchanged c.self.inside c.self.invariant c.args.self.now c.self.view_is
    (command.Write c.args.chunk c.args.at c.args.bytes.now) (Refused refusal.NotLoaned) tt
    (write_unknown_does (state_of c.self.inside) c.args.chunk c.args.at c.args.bytes.now
    (subst (λ es. HasNoEntry es c.args.chunk) c.deref.ensures.value c.in-None.ensures.found))

pub returns-then-not-found-clause-step : goal.returns-then-not-found-clause-step
returns-then-not-found-clause-step c =
    let is = subst (λ es. IsFound es c.args.chunk c.in-Some.found) c.deref.ensures.value c.in-Some.ensures.found in
    unchanged c.self.inside c.self.invariant c.args.self.now c.self.view_is
    (command.Write c.args.chunk c.args.at c.args.bytes.now) (Refused refusal.NotLoaned) tt
    (write_ended_does (state_of c.self.inside) c.args.chunk c.args.at c.args.bytes.now c.in-Some.found is
    (not_true c.in-Some.found.entry.loaned c.if-not-found.true))

pub returns-then-found-clause-step : goal.returns-then-found-clause-step
returns-then-found-clause-step c =
    let is = subst (λ es. IsFound es c.args.chunk c.in-Some.found) c.deref.ensures.value c.in-Some.ensures.found in
    let loaned = not_false c.in-Some.found.entry.loaned c.if-not-found.false in
    unchanged c.self.inside c.self.invariant c.args.self.now c.self.view_is
    (command.Write c.args.chunk c.args.at c.args.bytes.now) (Refused refusal.WriteAfterSend) tt
    (write_sent_does (state_of c.self.inside) c.args.chunk c.args.at c.args.bytes.now c.in-Some.found is loaned
    c.if-found.true)

pub size_at-size-requires-clause-has : goal.size_at-size-requires-clause-has
size_at-size-requires-clause-has c = c.self.invariant.linked.together.has_memory

pub size_at-size-requires-clause-active : goal.size_at-size-requires-clause-active
size_at-size-requires-clause-active c =
    let is = subst (λ es. IsFound es c.args.chunk c.in-Some.found) c.deref.ensures.value c.in-Some.ensures.found in
    let loaned = not_false c.in-Some.found.entry.loaned c.if-not-found.false in
    write_held (state_of c.self.inside) c.args.chunk c.args.at c.args.bytes.now c.in-Some.found is loaned
    c.self.invariant.ledger c.self.invariant.represents

pub returns-then-exceeds_bucket-clause-step : goal.returns-then-exceeds_bucket-clause-step
returns-then-exceeds_bucket-clause-step c =
    let is = subst (λ es. IsFound es c.args.chunk c.in-Some.found) c.deref.ensures.value c.in-Some.ensures.found in
    let loaned = not_false c.in-Some.found.entry.loaned c.if-not-found.false in
    let past = ltb-true c.size_at-size.result (c.args.at + length c.args.bytes.now)
    (sym c.if-exceeds_bucket.ensures.passes) in
    unchanged c.self.inside c.self.invariant c.args.self.now c.self.view_is
    (command.Write c.args.chunk c.args.at c.args.bytes.now) (Refused refusal.OutsideChunk) tt
    (write_outside_does (state_of c.self.inside) c.args.chunk c.args.at c.args.bytes.now c.in-Some.found is loaned
    c.if-found.false c.size_at-size.result c.size_at-size.ensures.size past)

pub returns-then-is_empty-clause-step : goal.returns-then-is_empty-clause-step
returns-then-is_empty-clause-step c =
    let is = subst (λ es. IsFound es c.args.chunk c.in-Some.found) c.deref.ensures.value c.in-Some.ensures.found in
    let loaned = not_false c.in-Some.found.entry.loaned c.if-not-found.false in
    let within = ltb-false c.size_at-size.result (c.args.at + length c.args.bytes.now)
    (sym c.if-exceeds_bucket.ensures.passes) in
    unchanged c.self.inside c.self.invariant c.args.self.now c.self.view_is
    (command.Write c.args.chunk c.args.at c.args.bytes.now) Written tt
    (write_none_does (state_of c.self.inside) c.args.chunk c.args.at c.args.bytes.now c.in-Some.found is loaned
    c.if-found.false c.size_at-size.result c.size_at-size.ensures.size within
    (eqb-true (length c.args.bytes.now) 0 (sym c.if-is_empty.ensures)))

pub overflow_mul-place : goal.overflow_mul-place
overflow_mul-place c =
    let is = subst (λ es. IsFound es c.args.chunk c.in-Some.found) c.deref.ensures.value c.in-Some.ensures.found in
    let loaned = not_false c.in-Some.found.entry.loaned c.if-not-found.false in
    let within = ltb-false c.size_at-size.result (c.args.at + length c.args.bytes.now)
    (sym c.if-exceeds_bucket.ensures.passes) in
    let small = write_place (state_of c.self.inside) c.args.chunk c.args.at c.args.bytes.now c.in-Some.found is loaned
    c.if-found.false c.size_at-size.result c.size_at-size.ensures.size within
    c.self.invariant.ledger c.self.invariant.represents
    (eqb-false (length c.args.bytes.now) 0 (sym c.if-is_empty.ensures)) in
    omega arith

pub overflow_add-place : goal.overflow_add-place
overflow_add-place c =
    let is = subst (λ es. IsFound es c.args.chunk c.in-Some.found) c.deref.ensures.value c.in-Some.ensures.found in
    let loaned = not_false c.in-Some.found.entry.loaned c.if-not-found.false in
    let within = ltb-false c.size_at-size.result (c.args.at + length c.args.bytes.now)
    (sym c.if-exceeds_bucket.ensures.passes) in
    let small = write_place (state_of c.self.inside) c.args.chunk c.args.at c.args.bytes.now c.in-Some.found is loaned
    c.if-found.false c.size_at-size.result c.size_at-size.ensures.size within
    c.self.invariant.ledger c.self.invariant.represents
    (eqb-false (length c.args.bytes.now) 0 (sym c.if-is_empty.ensures)) in
    omega arith

pub from_offset_and_segment_id-pointer-requires : goal.from_offset_and_segment_id-pointer-requires
from_offset_and_segment_id-pointer-requires c =
    let is = subst (λ es. IsFound es c.args.chunk c.in-Some.found) c.deref.ensures.value c.in-Some.ensures.found in
    let loaned = not_false c.in-Some.found.entry.loaned c.if-not-found.false in
    let within = ltb-false c.size_at-size.result (c.args.at + length c.args.bytes.now)
    (sym c.if-exceeds_bucket.ensures.passes) in
    record {
      below = write_place (state_of c.self.inside) c.args.chunk c.args.at c.args.bytes.now c.in-Some.found is loaned
          c.if-found.false c.size_at-size.result c.size_at-size.ensures.size within
          c.self.invariant.ledger c.self.invariant.represents
          (eqb-false (length c.args.bytes.now) 0 (sym c.if-is_empty.ensures));
    }

pub put_bytes-requires-clause-together : goal.put_bytes-requires-clause-together
put_bytes-requires-clause-together c = c.self.invariant.linked.together

pub put_bytes-requires-clause-within : goal.put_bytes-requires-clause-within
put_bytes-requires-clause-within c =
    let is = subst (λ es. IsFound es c.args.chunk c.in-Some.found) c.deref.ensures.value c.in-Some.ensures.found in
    let loaned = not_false c.in-Some.found.entry.loaned c.if-not-found.false in
    let within = ltb-false c.size_at-size.result (c.args.at + length c.args.bytes.now)
    (sym c.if-exceeds_bucket.ensures.passes) in
    write_payload (state_of c.self.inside) c.args.chunk c.args.at c.args.bytes.now c.in-Some.found is loaned
    c.if-found.false c.size_at-size.result c.size_at-size.ensures.size within
    c.from_offset_and_segment_id-pointer.result
    (c.from_offset_and_segment_id-pointer.ensures.segment_back ∙ c.new.ensures.value)
    c.from_offset_and_segment_id-pointer.ensures.offset_back
    c.self.invariant.ledger c.self.invariant.represents

pub invariant_of-self : goal.invariant_of-self
invariant_of-self c =
    let is = subst (λ es. IsFound es c.args.chunk c.in-Some.found) c.deref.ensures.value c.in-Some.ensures.found in
    let loaned = not_false c.in-Some.found.entry.loaned c.if-not-found.false in
    let within = ltb-false c.size_at-size.result (c.args.at + length c.args.bytes.now)
    (sym c.if-exceeds_bucket.ensures.passes) in
    record {
      ledger = after_step c.self.invariant.ledger 0 (command.Write c.args.chunk c.args.at c.args.bytes.now) Written;
      represents = (written_does (state_of c.self.inside) c.args.chunk c.args.at c.args.bytes.now c.in-Some.found is
          loaned c.if-found.false c.size_at-size.result c.size_at-size.ensures.size within
          c.from_offset_and_segment_id-pointer.result
          (c.from_offset_and_segment_id-pointer.ensures.segment_back ∙ c.new.ensures.value)
          c.from_offset_and_segment_id-pointer.ensures.offset_back
          c.put_bytes.new.reg c.put_bytes.ensures.put 0 c.self.invariant.ledger c.self.invariant.represents).1;
      linked = written_linked (state_of c.self.inside) c.args.chunk c.args.at c.args.bytes.now c.in-Some.found is
          loaned c.if-found.false c.size_at-size.result c.size_at-size.ensures.size within
          c.from_offset_and_segment_id-pointer.result
          (c.from_offset_and_segment_id-pointer.ensures.segment_back ∙ c.new.ensures.value)
          c.from_offset_and_segment_id-pointer.ensures.offset_back
          c.put_bytes.new.reg c.put_bytes.ensures.put c.self.invariant.linked;
    }

pub returns-clause-step : goal.returns-clause-step
returns-clause-step c =
    let is = subst (λ es. IsFound es c.args.chunk c.in-Some.found) c.deref.ensures.value c.in-Some.ensures.found in
    let loaned = not_false c.in-Some.found.entry.loaned c.if-not-found.false in
    let within = ltb-false c.size_at-size.result (c.args.at + length c.args.bytes.now)
    (sym c.if-exceeds_bucket.ensures.passes) in
    outside c.self.inside c.self.invariant c.args.self.now c.self.view_is
    (record (state_of c.self.inside) { memory_registry = c.put_bytes.new.reg })
    (command.Write c.args.chunk c.args.at c.args.bytes.now) Written tt
    (written_does (state_of c.self.inside) c.args.chunk c.args.at c.args.bytes.now c.in-Some.found is loaned
    c.if-found.false c.size_at-size.result c.size_at-size.ensures.size within
    c.from_offset_and_segment_id-pointer.result
    (c.from_offset_and_segment_id-pointer.ensures.segment_back ∙ c.new.ensures.value)
    c.from_offset_and_segment_id-pointer.ensures.offset_back
    c.put_bytes.new.reg c.put_bytes.ensures.put)
