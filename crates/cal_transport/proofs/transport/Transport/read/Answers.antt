use Rattle.std.proofs.Common.{◌≡◌, ◌<◌, ◌≤◌, ◌∙◌, ◌*◌, ◌+◌, ◌-◌, ◌&&◌, nat_lt, length, take, drop, get_or, sym, ap, subst, arith}
use Rattle.std.proofs.lemmas.Bool.{ltb-true, ltb-false}
use Rattle.cal_queue.specs.UsedChunks.{contains, capacity_of, none_used}
use Rattle.cal_transport.specs.declared.command.Command.TheVariants as command
use Rattle.cal_transport.specs.declared.reply.Reply.TheVariants.{Shown, Refused}
use Rattle.cal_transport.specs.declared.reply.Refusal.TheVariants as refusal
use Rattle.cal_transport.specs.ChunkEntry.{AreRising, HasNoEntry, IsFound}
use Rattle.cal_transport.specs.State.{core_of}
use Rattle.cal_transport.specs.StateOf.{state_of}
use Rattle.cal_transport.proofs.Standing.{unchanged}
use Rattle.cal_transport.proofs.Finding.{entries_rise}
use Rattle.cal_transport.proofs.ReadCode.{read_outside_does, read_unknown_does, read_unlent_does, read_held, read_place, read_mapped, read_payload, read_long, read_does, read_past_does}
use Rattle.cal_transport.proofs.ReleaseCode.{marks_many, transit_mark}
use Rattle.cal_transport.proofs.transport.Transport.read.Goals as goal

pub returns-then-channel-self : goal.returns-then-channel-self
returns-then-channel-self c = record {
  step = unchanged c.self.inside c.self.invariant c.args.self.now c.self.view_is
      (command.Read c.args.channel c.args.chunk c.args.at c.args.length) (Refused refusal.OutsideConnection) tt
      (read_outside_does (state_of c.self.inside) c.self.invariant.linked c.args.channel c.args.chunk c.args.at
      c.args.length c.if-channel-self.true);
}

pub find_entry-requires : goal.find_entry-requires
find_entry-requires c = record {
  rising = subst AreRising (sym c.deref.ensures.value)
      (entries_rise (core_of (state_of c.self.inside)) c.self.invariant.ledger c.self.invariant.represents.place
      c.self.invariant.represents.shows c.self.invariant.represents.sound.names);
}

pub returns-in-None : goal.returns-in-None
returns-in-None c = record {
  step = unchanged c.self.inside c.self.invariant c.args.self.now c.self.view_is
      (command.Read c.args.channel c.args.chunk c.args.at c.args.length) (Refused refusal.NotBorrowed) tt
      (read_unknown_does (state_of c.self.inside) c.self.invariant.linked c.args.channel c.args.chunk c.args.at
      c.args.length c.if-channel-self.false
      (subst (λ es. HasNoEntry es c.args.chunk) c.deref.ensures.value c.in-None.ensures.found));
}

pub is_lent-requires-clause-channel : goal.is_lent-requires-clause-channel
is_lent-requires-clause-channel c =
    omega (arith, ap length c.deref-2.ensures.value, c.self.invariant.linked.lent, c.if-channel-self.false)

pub is_lent-requires-clause-mark : goal.is_lent-requires-clause-mark
is_lent-requires-clause-mark c =
    let is = subst (λ es. IsFound es c.args.chunk c.in-Some.found) c.deref.ensures.value c.in-Some.ensures.found in
    subst (λ us. 0 < c.in-Some.found.entry.transits → c.in-Some.found.entry.segment * c.self.inside.settings.samples
    + c.in-Some.found.entry.bucket < capacity_of (get_or us c.args.channel (none_used 0))) (sym c.deref-2.ensures.value)
    (λ some. subst (λ n. c.in-Some.found.entry.segment * c.self.inside.settings.samples
    + c.in-Some.found.entry.bucket < n)
    (sym (marks_many (state_of c.self.inside) c.self.invariant.linked c.args.channel c.if-channel-self.false
    c.args.chunk
    c.in-Some.found is c.self.invariant.ledger c.self.invariant.represents))
    (transit_mark (state_of c.self.inside) c.self.invariant.linked c.args.channel c.if-channel-self.false c.args.chunk
    c.in-Some.found is c.self.invariant.ledger c.self.invariant.represents some))

pub is_lent-requires-clause-small : goal.is_lent-requires-clause-small
is_lent-requires-clause-small c =
    let is = subst (λ es. IsFound es c.args.chunk c.in-Some.found) c.deref.ensures.value c.in-Some.ensures.found in
    let many = marks_many (state_of c.self.inside) c.self.invariant.linked c.args.channel c.if-channel-self.false
    c.args.chunk
    c.in-Some.found is c.self.invariant.ledger c.self.invariant.represents in
    let few = c.self.invariant.linked.marks in
    subst (λ us. capacity_of (get_or us c.args.channel (none_used 0)) ≤ 9223372036854775808)
    (sym c.deref-2.ensures.value) (omega arith)

pub returns-then-not-is_lent : goal.returns-then-not-is_lent
returns-then-not-is_lent c =
    let is = subst (λ es. IsFound es c.args.chunk c.in-Some.found) c.deref.ensures.value c.in-Some.ensures.found in
    let told = subst (λ us. c.is_lent.result ≡ (nat_lt 0 c.in-Some.found.entry.transits
    && contains (get_or us c.args.channel (none_used 0)) (c.in-Some.found.entry.segment * c.self.inside.settings.samples
    + c.in-Some.found.entry.bucket))) c.deref-2.ensures.value c.is_lent.ensures.lent in
    record {
      step = unchanged c.self.inside c.self.invariant c.args.self.now c.self.view_is
          (command.Read c.args.channel c.args.chunk c.args.at c.args.length) (Refused refusal.NotBorrowed) tt
          (read_unlent_does (state_of c.self.inside) c.self.invariant.linked c.args.channel c.args.chunk c.args.at
          c.args.length c.if-channel-self.false c.in-Some.found is (sym told ∙ c.if-not-is_lent.true));
    }

pub size_at-size-requires-clause-has : goal.size_at-size-requires-clause-has
size_at-size-requires-clause-has c = c.self.invariant.linked.together.has_memory

pub size_at-size-requires-clause-active : goal.size_at-size-requires-clause-active
size_at-size-requires-clause-active c =
    let is = subst (λ es. IsFound es c.args.chunk c.in-Some.found) c.deref.ensures.value c.in-Some.ensures.found in
    let told = subst (λ us. c.is_lent.result ≡ (nat_lt 0 c.in-Some.found.entry.transits
    && contains (get_or us c.args.channel (none_used 0)) (c.in-Some.found.entry.segment * c.self.inside.settings.samples
    + c.in-Some.found.entry.bucket))) c.deref-2.ensures.value c.is_lent.ensures.lent in
    let lent = sym told ∙ c.if-not-is_lent.false in
    read_held (state_of c.self.inside) c.self.invariant.linked c.args.channel c.args.chunk
    c.args.at c.args.length c.if-channel-self.false c.in-Some.found is lent
    c.self.invariant.ledger c.self.invariant.represents

pub returns-then-exceeds_bucket : goal.returns-then-exceeds_bucket
returns-then-exceeds_bucket c =
    let is = subst (λ es. IsFound es c.args.chunk c.in-Some.found) c.deref.ensures.value c.in-Some.ensures.found in
    let told = subst (λ us. c.is_lent.result ≡ (nat_lt 0 c.in-Some.found.entry.transits
    && contains (get_or us c.args.channel (none_used 0)) (c.in-Some.found.entry.segment * c.self.inside.settings.samples
    + c.in-Some.found.entry.bucket))) c.deref-2.ensures.value c.is_lent.ensures.lent in
    let lent = sym told ∙ c.if-not-is_lent.false in
    record {
      step = unchanged c.self.inside c.self.invariant c.args.self.now c.self.view_is
          (command.Read c.args.channel c.args.chunk c.args.at c.args.length) (Refused refusal.OutsideChunk) tt
          (read_past_does (state_of c.self.inside) c.self.invariant.linked c.args.channel c.args.chunk
          c.args.at c.args.length c.if-channel-self.false c.in-Some.found is lent
          c.size_at-size.result c.size_at-size.ensures.size
          (ltb-true c.size_at-size.result (c.args.at + c.args.length)
          (sym c.if-exceeds_bucket.ensures.passes)));
    }

pub pointer_at-pointer-requires-clause-has : goal.pointer_at-pointer-requires-clause-has
pointer_at-pointer-requires-clause-has c = c.self.invariant.linked.together.has_memory

pub pointer_at-pointer-requires-clause-place : goal.pointer_at-pointer-requires-clause-place
pointer_at-pointer-requires-clause-place c =
    let is = subst (λ es. IsFound es c.args.chunk c.in-Some.found) c.deref.ensures.value c.in-Some.ensures.found in
    let told = subst (λ us. c.is_lent.result ≡ (nat_lt 0 c.in-Some.found.entry.transits
    && contains (get_or us c.args.channel (none_used 0)) (c.in-Some.found.entry.segment * c.self.inside.settings.samples
    + c.in-Some.found.entry.bucket))) c.deref-2.ensures.value c.is_lent.ensures.lent in
    let lent = sym told ∙ c.if-not-is_lent.false in
    read_place (state_of c.self.inside) c.self.invariant.linked c.args.channel c.args.chunk
    c.args.at c.args.length c.if-channel-self.false c.in-Some.found is lent
    c.self.invariant.ledger c.self.invariant.represents

pub viewed_bytes-bytes-requires-clause-together : goal.viewed_bytes-bytes-requires-clause-together
viewed_bytes-bytes-requires-clause-together c = c.self.invariant.linked.together

pub viewed_bytes-bytes-requires-clause-mapped : goal.viewed_bytes-bytes-requires-clause-mapped
viewed_bytes-bytes-requires-clause-mapped c =
    let is = subst (λ es. IsFound es c.args.chunk c.in-Some.found) c.deref.ensures.value c.in-Some.ensures.found in
    let told = subst (λ us. c.is_lent.result ≡ (nat_lt 0 c.in-Some.found.entry.transits
    && contains (get_or us c.args.channel (none_used 0)) (c.in-Some.found.entry.segment * c.self.inside.settings.samples
    + c.in-Some.found.entry.bucket))) c.deref-2.ensures.value c.is_lent.ensures.lent in
    let lent = sym told ∙ c.if-not-is_lent.false in
    read_mapped (state_of c.self.inside) c.self.invariant.linked c.args.channel c.args.chunk
    c.args.at c.args.length c.if-channel-self.false c.in-Some.found is lent
    c.pointer_at-pointer.result c.pointer_at-pointer.ensures.pointer
    c.self.invariant.ledger c.self.invariant.represents

pub viewed_bytes-bytes-requires-clause-within : goal.viewed_bytes-bytes-requires-clause-within
viewed_bytes-bytes-requires-clause-within c =
    let is = subst (λ es. IsFound es c.args.chunk c.in-Some.found) c.deref.ensures.value c.in-Some.ensures.found in
    let told = subst (λ us. c.is_lent.result ≡ (nat_lt 0 c.in-Some.found.entry.transits
    && contains (get_or us c.args.channel (none_used 0)) (c.in-Some.found.entry.segment * c.self.inside.settings.samples
    + c.in-Some.found.entry.bucket))) c.deref-2.ensures.value c.is_lent.ensures.lent in
    let lent = sym told ∙ c.if-not-is_lent.false in
    read_payload (state_of c.self.inside) c.self.invariant.linked c.args.channel c.args.chunk
    c.args.at c.args.length c.if-channel-self.false c.in-Some.found is lent
    c.pointer_at-pointer.result c.pointer_at-pointer.ensures.pointer c.size_at-size.result c.size_at-size.ensures.size
    c.self.invariant.ledger c.self.invariant.represents

pub overflow_add-result : goal.overflow_add-result
overflow_add-result c =
    let within = ltb-false c.size_at-size.result (c.args.at + c.args.length) (sym c.if-exceeds_bucket.ensures.passes) in
    omega arith

pub slice_bounds-result-count : goal.slice_bounds-result-count
slice_bounds-result-count c = omega arith

pub slice_bounds-result-end : goal.slice_bounds-result-end
slice_bounds-result-end c =
    let is = subst (λ es. IsFound es c.args.chunk c.in-Some.found) c.deref.ensures.value c.in-Some.ensures.found in
    let told = subst (λ us. c.is_lent.result ≡ (nat_lt 0 c.in-Some.found.entry.transits
    && contains (get_or us c.args.channel (none_used 0)) (c.in-Some.found.entry.segment * c.self.inside.settings.samples
    + c.in-Some.found.entry.bucket))) c.deref-2.ensures.value c.is_lent.ensures.lent in
    let lent = sym told ∙ c.if-not-is_lent.false in
    let within = ltb-false c.size_at-size.result (c.args.at + c.args.length) (sym c.if-exceeds_bucket.ensures.passes) in
    let long = read_long (state_of c.self.inside) c.self.invariant.linked c.args.channel c.args.chunk
    c.args.at c.args.length c.if-channel-self.false c.in-Some.found is lent
    c.pointer_at-pointer.result c.pointer_at-pointer.ensures.pointer c.size_at-size.result
    c.size_at-size.ensures.size c.viewed_bytes-bytes.result.now c.viewed_bytes-bytes.ensures.bytes
    c.self.invariant.ledger c.self.invariant.represents in
    omega arith

pub returns : goal.returns
returns c =
    let is = subst (λ es. IsFound es c.args.chunk c.in-Some.found) c.deref.ensures.value c.in-Some.ensures.found in
    let told = subst (λ us. c.is_lent.result ≡ (nat_lt 0 c.in-Some.found.entry.transits
    && contains (get_or us c.args.channel (none_used 0)) (c.in-Some.found.entry.segment * c.self.inside.settings.samples
    + c.in-Some.found.entry.bucket))) c.deref-2.ensures.value c.is_lent.ensures.lent in
    let lent = sym told ∙ c.if-not-is_lent.false in
    record {
      step = unchanged c.self.inside c.self.invariant c.args.self.now c.self.view_is
          (command.Read c.args.channel c.args.chunk c.args.at c.args.length)
          (Shown (take (c.args.at + c.args.length - c.args.at) (drop c.args.at c.viewed_bytes-bytes.result.now))) tt
          (read_does (state_of c.self.inside) c.self.invariant.linked c.args.channel c.args.chunk
          c.args.at c.args.length c.if-channel-self.false c.in-Some.found is lent
          c.pointer_at-pointer.result c.pointer_at-pointer.ensures.pointer c.size_at-size.result
          c.size_at-size.ensures.size c.viewed_bytes-bytes.result.now c.viewed_bytes-bytes.ensures.bytes
          (ltb-false c.size_at-size.result (c.args.at + c.args.length)
          (sym c.if-exceeds_bucket.ensures.passes)));
    }
