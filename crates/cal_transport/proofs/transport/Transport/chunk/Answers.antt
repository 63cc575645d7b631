use Rattle.std.proofs.Common.{◌*◌, ◌∙◌, Some, None, sym, subst, arith}
use Rattle.cal_transport.specs.ChunkEntry.{AreRising, HasNoEntry, IsFound}
use Rattle.cal_transport.specs.State.{core_of}
use Rattle.cal_transport.specs.StateOf.{state_of}
use Rattle.cal_transport.proofs.AccessCode.{told_unknown, told_dead, told_held, told_small, told_live}
use Rattle.cal_transport.proofs.InsideDoes.{TellsChunk}
use Rattle.cal_transport.proofs.Standing.{inside_now}
use Rattle.cal_transport.proofs.Finding.{entries_rise}
use Rattle.cal_transport.proofs.transport.Transport.chunk.Goals as goal

pub find_entry-requires : goal.find_entry-requires
find_entry-requires c = record {
  rising = subst AreRising (sym c.deref.ensures.value)
      (entries_rise (core_of (state_of c.self.inside)) c.self.invariant.ledger c.self.invariant.represents.place
      c.self.invariant.represents.shows c.self.invariant.represents.sound.names);
}

pub returns-in-None : goal.returns-in-None
returns-in-None c = record {
  told = λ l stands. (subst (λ t. TellsChunk t c.args.chunk None) c.self.view_is
      (told_unknown (state_of c.self.inside) c.args.chunk
      (subst (λ es. HasNoEntry es c.args.chunk) c.deref.ensures.value c.in-None.ensures.found)))
      l (inside_now c.self.inside c.self.invariant c.args.self.now c.self.view_is l stands);
}

pub returns-then-not-lives : goal.returns-then-not-lives
returns-then-not-lives c =
    let is = subst (λ es. IsFound es c.args.chunk c.in-Some.found) c.deref.ensures.value c.in-Some.ensures.found in
    record {
      told = λ l stands. (subst (λ t. TellsChunk t c.args.chunk None) c.self.view_is
          (told_dead (state_of c.self.inside) c.args.chunk c.in-Some.found is
          (sym c.lives.ensures.lives ∙ c.if-not-lives.true)))
          l (inside_now c.self.inside c.self.invariant c.args.self.now c.self.view_is l stands);
    }

pub size_at-size-requires-clause-has : goal.size_at-size-requires-clause-has
size_at-size-requires-clause-has c = c.self.invariant.linked.together.has_memory

pub size_at-size-requires-clause-active : goal.size_at-size-requires-clause-active
size_at-size-requires-clause-active c =
    let is = subst (λ es. IsFound es c.args.chunk c.in-Some.found) c.deref.ensures.value c.in-Some.ensures.found in
    told_held (state_of c.self.inside) c.args.chunk c.in-Some.found is
    (sym c.lives.ensures.lives ∙ c.if-not-lives.false) c.self.invariant.ledger c.self.invariant.represents

pub overflow_mul-place : goal.overflow_mul-place
overflow_mul-place c =
    let is = subst (λ es. IsFound es c.args.chunk c.in-Some.found) c.deref.ensures.value c.in-Some.ensures.found in
    let small = told_small (state_of c.self.inside) c.args.chunk c.in-Some.found is
    (sym c.lives.ensures.lives ∙ c.if-not-lives.false) c.self.invariant.ledger c.self.invariant.represents
    c.size_at-size.result c.size_at-size.ensures.size in omega arith

pub returns : goal.returns
returns c =
    let is = subst (λ es. IsFound es c.args.chunk c.in-Some.found) c.deref.ensures.value c.in-Some.ensures.found in
    record {
      told = λ l stands. (subst (λ t. TellsChunk t c.args.chunk (Some (record {
        segment = c.in-Some.found.entry.segment;
        place = c.in-Some.found.entry.bucket * c.size_at-size.result;
        loaned = c.in-Some.found.entry.loaned;
        sent = c.in-Some.found.entry.sent;
      }))) c.self.view_is
          (told_live (state_of c.self.inside) c.args.chunk c.in-Some.found is
          (sym c.lives.ensures.lives ∙ c.if-not-lives.false) c.size_at-size.result c.size_at-size.ensures.size))
          l (inside_now c.self.inside c.self.invariant c.args.self.now c.self.view_is l stands);
    }
