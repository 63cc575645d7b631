use Rattle.std.proofs.Common.{◌-◌, vec_len, vec_capacity, sym, subst, arith}
use Rattle.std.proofs.lemmas.Option.{slice_get_within}
use Rattle.cal_transport.specs.declared.command.Command.TheVariants as command
use Rattle.cal_transport.specs.declared.reply.Reply.TheVariants.{Discarded, Refused}
use Rattle.cal_transport.specs.declared.reply.Refusal.TheVariants as refusal
use Rattle.cal_transport.specs.ChunkEntry.{AreRising, HasNoEntry, IsFound}
use Rattle.cal_transport.specs.Step.{after_step}
use Rattle.cal_transport.specs.State.{core_of}
use Rattle.cal_transport.specs.StateOf.{state_of}
use Rattle.cal_transport.proofs.Standing.{outside, unchanged}
use Rattle.cal_transport.proofs.Changing.{not_true, not_false}
use Rattle.cal_transport.proofs.Finding.{entries_rise}
use Rattle.cal_transport.proofs.DiscardCode.{discard_unknown_does, discard_unloaned_does, place, discard_out, discard_used, discarded_linked, discarded_does}
use Rattle.cal_transport.proofs.transport.Transport.discard.Goals as goal

pub find_entry-requires : goal.find_entry-requires
find_entry-requires c = record {
  rising = subst AreRising (sym c.deref.ensures.value)
      (entries_rise (core_of (state_of c.self.inside)) c.self.invariant.ledger c.self.invariant.represents.place
      c.self.invariant.represents.shows c.self.invariant.represents.sound.names);
}

pub returns-in-None-clause-step : goal.returns-in-None-clause-step
returns-in-None-clause-step c =
    unchanged c.self.inside c.self.invariant c.args.self.now c.self.view_is (command.Discard c.args.chunk)
    (Refused refusal.NotLoaned) tt
    (discard_unknown_does (state_of c.self.inside) c.self.invariant.linked c.args.chunk
    (subst (λ es. HasNoEntry es c.args.chunk) c.deref.ensures.value c.in-None.ensures.found))

pub returns-then-not-found-clause-step : goal.returns-then-not-found-clause-step
returns-then-not-found-clause-step c =
    let is = subst (λ es. IsFound es c.args.chunk c.in-Some.found) c.deref.ensures.value c.in-Some.ensures.found in
    unchanged c.self.inside c.self.invariant c.args.self.now c.self.view_is (command.Discard c.args.chunk)
    (Refused refusal.NotLoaned) tt
    (discard_unloaned_does (state_of c.self.inside) c.self.invariant.linked c.args.chunk c.in-Some.found is
    (not_true c.in-Some.found.entry.loaned c.if-not-found.true))

pub pointer_at-pointer-requires-clause-place : goal.pointer_at-pointer-requires-clause-place
pointer_at-pointer-requires-clause-place c =
    let is = subst (λ es. IsFound es c.args.chunk c.in-Some.found) c.deref.ensures.value c.in-Some.ensures.found in
    (place (state_of c.self.inside) c.self.invariant.linked c.args.chunk c.in-Some.found is (not_false
    c.in-Some.found.entry.loaned c.if-not-found.false)
    c.self.invariant.ledger c.self.invariant.represents).place

pub free_unless-requires-clause-out : goal.free_unless-requires-clause-out
free_unless-requires-clause-out c =
    let is = subst (λ es. IsFound es c.args.chunk c.in-Some.found) c.deref.ensures.value c.in-Some.ensures.found in
    discard_out (state_of c.self.inside) c.self.invariant.linked c.args.chunk c.in-Some.found is (not_false
    c.in-Some.found.entry.loaned c.if-not-found.false)
    c.pointer_at-pointer.result c.pointer_at-pointer.ensures.pointer
    c.self.invariant.ledger c.self.invariant.represents

pub free_unless-requires-clause-used : goal.free_unless-requires-clause-used
free_unless-requires-clause-used c =
    let is = subst (λ es. IsFound es c.args.chunk c.in-Some.found) c.deref.ensures.value c.in-Some.ensures.found in
    discard_used (state_of c.self.inside) c.self.invariant.linked c.args.chunk c.in-Some.found is (not_false
    c.in-Some.found.entry.loaned c.if-not-found.false)
    c.pointer_at-pointer.result c.pointer_at-pointer.ensures.pointer
    c.self.invariant.ledger c.self.invariant.represents

pub end_loan-requires : goal.end_loan-requires
end_loan-requires c =
    let is = subst (λ es. IsFound es c.args.chunk c.in-Some.found) c.deref.ensures.value c.in-Some.ensures.found in
    record {
      index =
          (let within = slice_get_within c.self.inside.entries.items c.in-Some.found.index c.in-Some.found.entry is.0 in
          omega (arith, c.self.inside.entries.ok.0));
    }

pub invariant_of-self : goal.invariant_of-self
invariant_of-self c =
    let is = subst (λ es. IsFound es c.args.chunk c.in-Some.found) c.deref.ensures.value c.in-Some.ensures.found in
    let does = discarded_does (state_of c.self.inside) c.self.invariant.linked c.args.chunk c.in-Some.found is
    (not_false c.in-Some.found.entry.loaned c.if-not-found.false) c.pointer_at-pointer.result
    c.pointer_at-pointer.ensures.pointer
    c.free_unless.new.reg c.free_unless.new.memory c.free_unless.ensures.freed
    c.end_loan.new.entries.items c.end_loan.ensures.written
    (vec_capacity c.end_loan.new.entries - vec_len c.end_loan.new.entries)
    0 c.self.invariant.ledger c.self.invariant.represents in
    record {
      ledger = after_step c.self.invariant.ledger 0 (command.Discard c.args.chunk) Discarded;
      represents = does.1;
      linked = discarded_linked (state_of c.self.inside) c.self.invariant.linked c.args.chunk c.in-Some.found is
          (not_false c.in-Some.found.entry.loaned c.if-not-found.false) c.pointer_at-pointer.result
          c.pointer_at-pointer.ensures.pointer
          c.free_unless.new.reg c.free_unless.new.memory c.free_unless.ensures.freed
          c.end_loan.new.entries.items c.end_loan.ensures.written
          (vec_capacity c.end_loan.new.entries - vec_len c.end_loan.new.entries)
          c.self.invariant.ledger c.self.invariant.represents;
    }

pub returns-clause-step : goal.returns-clause-step
returns-clause-step c =
    let is = subst (λ es. IsFound es c.args.chunk c.in-Some.found) c.deref.ensures.value c.in-Some.ensures.found in
    outside c.self.inside c.self.invariant c.args.self.now c.self.view_is (record (state_of c.self.inside) {
      memory_registry = c.free_unless.new.reg;
      memory = c.free_unless.new.memory;
      entries = c.end_loan.new.entries.items;
      spare = vec_capacity c.end_loan.new.entries - vec_len c.end_loan.new.entries;
    })
    (command.Discard c.args.chunk) Discarded tt
    (discarded_does (state_of c.self.inside) c.self.invariant.linked c.args.chunk c.in-Some.found is
    (not_false c.in-Some.found.entry.loaned c.if-not-found.false) c.pointer_at-pointer.result
    c.pointer_at-pointer.ensures.pointer
    c.free_unless.new.reg c.free_unless.new.memory c.free_unless.ensures.freed
    c.end_loan.new.entries.items c.end_loan.ensures.written
    (vec_capacity c.end_loan.new.entries - vec_len c.end_loan.new.entries))
