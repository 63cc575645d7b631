use Rattle.std.proofs.Common.{◌≡◌, ◌<◌, ◌∙◌, ◌&&◌, nat_lt, ℕ, true, IsSome, sym, ap, subst}
use Rattle.std.proofs.lemmas.Bool.{and_parts, ltb-true}
use Rattle.cal_alloc.specs.Pool.{Pool}
use Rattle.cal_shm.specs.Segment.{Segment}
use Rattle.cal_connection.specs.Port.{port_at, is_in_use, IsWithin}
use Rattle.cal_resizable.specs.Growth.{OfSegment}
use Rattle.cal_resizable.specs.Slots.{segment_at}
use Rattle.cal_transport.specs.declared.command.Command.TheVariants as command
use Rattle.cal_transport.specs.declared.reply.Reply.TheVariants.{Refused}
use Rattle.cal_transport.specs.declared.reply.Refusal.TheVariants as refusal
use Rattle.cal_transport.specs.ChunkEntry.{AreRising, HasNoEntry, IsFound}
use Rattle.cal_transport.specs.Sample.{IsSample}
use Rattle.cal_transport.specs.State.{core_of}
use Rattle.cal_transport.specs.StateOf.{state_of}
use Rattle.cal_transport.proofs.Standing.{unchanged}
use Rattle.cal_transport.proofs.Changing.{not_true, not_false}
use Rattle.cal_transport.proofs.Finding.{entries_rise}
use Rattle.cal_transport.proofs.Segments.{shown_held}
use Rattle.cal_transport.proofs.SendRefusals.{send_unknown_does, send_unloaned_does, send_no_channel_does, send_unnamable_does, send_place, send_within, send_again_does}
use Rattle.cal_transport.proofs.transport.Transport.sample_to_send.Goals as goal

named : (a n b m : ℕ) → (nat_lt a n && nat_lt b m) ≡ true → (a < n) × (b < m)
named a n b m both =
    let parts = and_parts (nat_lt a n) (nat_lt b m) both in (ltb-true a n parts.0, ltb-true b m parts.1)

pub find_entry-requires : goal.find_entry-requires
find_entry-requires c = record {
  rising = subst AreRising (sym c.deref.ensures.value)
      (entries_rise (core_of (state_of c.self.inside)) c.self.invariant.ledger c.self.invariant.represents.place
      c.self.invariant.represents.shows c.self.invariant.represents.sound.names);
}

pub returns-in-None : goal.returns-in-None
returns-in-None c = record {
  sample = unchanged c.self.inside c.self.invariant c.args.self.now c.self.view_is
      (command.Send c.args.channel c.args.chunk) (Refused refusal.NotLoaned) tt
      (send_unknown_does (state_of c.self.inside) c.args.channel c.args.chunk
      (subst (λ es. HasNoEntry es c.args.chunk) c.deref.ensures.value c.in-None.ensures.found));
}

pub returns-then-not-found : goal.returns-then-not-found
returns-then-not-found c =
    let is = subst (λ es. IsFound es c.args.chunk c.in-Some.found) c.deref.ensures.value c.in-Some.ensures.found in
    record {
      sample = unchanged c.self.inside c.self.invariant c.args.self.now c.self.view_is
          (command.Send c.args.channel c.args.chunk) (Refused refusal.NotLoaned) tt
          (send_unloaned_does (state_of c.self.inside) c.args.channel c.args.chunk c.in-Some.found is
          (not_true c.in-Some.found.entry.loaned c.if-not-found.true));
    }

pub returns-then-channel-self : goal.returns-then-channel-self
returns-then-channel-self c =
    let is = subst (λ es. IsFound es c.args.chunk c.in-Some.found) c.deref.ensures.value c.in-Some.ensures.found in
    record {
      sample = unchanged c.self.inside c.self.invariant c.args.self.now c.self.view_is
          (command.Send c.args.channel c.args.chunk) (Refused refusal.OutsideConnection) tt
          (send_no_channel_does (state_of c.self.inside) c.args.channel c.args.chunk c.in-Some.found is
          (not_false c.in-Some.found.entry.loaned c.if-not-found.false) c.if-channel-self.true);
    }

pub returns-then-not-is_within : goal.returns-then-not-is_within
returns-then-not-is_within c =
    let is = subst (λ es. IsFound es c.args.chunk c.in-Some.found) c.deref.ensures.value c.in-Some.ensures.found in
    record {
      sample = unchanged c.self.inside c.self.invariant c.args.self.now c.self.view_is
          (command.Send c.args.channel c.args.chunk) (Refused refusal.OutsideConnection) tt
          (send_unnamable_does (state_of c.self.inside) c.args.channel c.args.chunk c.in-Some.found is
          (not_false c.in-Some.found.entry.loaned c.if-not-found.false) (sym c.is_within.ensures.within ∙
          c.if-not-is_within.true));
    }

pub pointer_at-pointer-requires-clause-place : goal.pointer_at-pointer-requires-clause-place
pointer_at-pointer-requires-clause-place c =
    let is = subst (λ es. IsFound es c.args.chunk c.in-Some.found) c.deref.ensures.value c.in-Some.ensures.found in
    (send_place (state_of c.self.inside) c.args.channel c.args.chunk c.in-Some.found is (not_false
    c.in-Some.found.entry.loaned c.if-not-found.false)
    c.self.invariant.ledger c.self.invariant.represents).place

pub bucket_size-size-requires-clause-active : goal.bucket_size-size-requires-clause-active
bucket_size-size-requires-clause-active c =
    let is = subst (λ es. IsFound es c.args.chunk c.in-Some.found) c.deref.ensures.value c.in-Some.ensures.found in
    let place = send_place (state_of c.self.inside) c.args.channel c.args.chunk c.in-Some.found is
    (not_false c.in-Some.found.entry.loaned c.if-not-found.false) c.self.invariant.ledger c.self.invariant.represents in
    subst (λ n. IsSome (segment_at c.self.inside.memory.slots n)) (sym c.new.ensures.value)
    (shown_held c.self.inside.memory_registry c.self.inside.memory.slots c.in-Some.found.entry.segment
    place.place.segment place.place.there)

pub is_in_use-requires-clause-within : goal.is_in_use-requires-clause-within
is_in_use-requires-clause-within c =
    let is = subst (λ es. IsFound es c.args.chunk c.in-Some.found) c.deref.ensures.value c.in-Some.ensures.found in
    let both = named c.in-Some.found.entry.segment c.self.inside.settings.segments c.in-Some.found.entry.bucket
    c.self.inside.settings.samples (sym c.is_within.ensures.within ∙ c.if-not-is_within.false) in
    let size = subst (λ n. OfSegment c.self.inside.memory_registry c.self.inside.memory.slots n
    (λ (s : Segment Pool). c.bucket_size-size.result ≡ s.allocator.buckets.size)) c.new.ensures.value
    c.bucket_size-size.ensures.size in
    subst (λ n. IsWithin (port_at c.self.inside.connection_registry c.self.inside.sender.handle) n
    c.pointer_at-pointer.result c.bucket_size-size.result) (sym c.new-sent_on.ensures.value)
    (send_within (state_of c.self.inside) c.args.channel c.args.chunk c.in-Some.found is (not_false
    c.in-Some.found.entry.loaned c.if-not-found.false)
    c.self.invariant.linked c.if-channel-self.false both.0 both.1 c.pointer_at-pointer.result
    c.bucket_size-size.result c.pointer_at-pointer.ensures.pointer size
    c.self.invariant.ledger c.self.invariant.represents)

pub returns-then-is_in_use : goal.returns-then-is_in_use
returns-then-is_in_use c =
    let is = subst (λ es. IsFound es c.args.chunk c.in-Some.found) c.deref.ensures.value c.in-Some.ensures.found in
    let both = named c.in-Some.found.entry.segment c.self.inside.settings.segments c.in-Some.found.entry.bucket
    c.self.inside.settings.samples (sym c.is_within.ensures.within ∙ c.if-not-is_within.false) in
    let size = subst (λ n. OfSegment c.self.inside.memory_registry c.self.inside.memory.slots n
    (λ (s : Segment Pool). c.bucket_size-size.result ≡ s.allocator.buckets.size)) c.new.ensures.value
    c.bucket_size-size.ensures.size in
    let used = ap (λ n. is_in_use (port_at c.self.inside.connection_registry c.self.inside.sender.handle) n
    c.pointer_at-pointer.result c.bucket_size-size.result) (sym c.new-sent_on.ensures.value)
    ∙ sym c.is_in_use.ensures.value ∙ c.if-is_in_use.true in
    record {
      sample = unchanged c.self.inside c.self.invariant c.args.self.now c.self.view_is
          (command.Send c.args.channel c.args.chunk) (Refused refusal.AlreadyInTransit) tt
          (send_again_does (state_of c.self.inside) c.args.channel c.args.chunk c.in-Some.found is
          (not_false c.in-Some.found.entry.loaned c.if-not-found.false) c.self.invariant.linked
          c.if-channel-self.false both.0 both.1
          c.pointer_at-pointer.result c.bucket_size-size.result c.pointer_at-pointer.ensures.pointer size used);
    }

pub returns : goal.returns
returns c =
    let is = subst (λ es. IsFound es c.args.chunk c.in-Some.found) c.deref.ensures.value c.in-Some.ensures.found in
    let both = named c.in-Some.found.entry.segment c.self.inside.settings.segments c.in-Some.found.entry.bucket
    c.self.inside.settings.samples (sym c.is_within.ensures.within ∙ c.if-not-is_within.false) in
    let size = subst (λ n. OfSegment c.self.inside.memory_registry c.self.inside.memory.slots n
    (λ (s : Segment Pool). c.bucket_size-size.result ≡ s.allocator.buckets.size)) c.new.ensures.value
    c.bucket_size-size.ensures.size in
    let unused = ap (λ n. is_in_use (port_at c.self.inside.connection_registry c.self.inside.sender.handle) n
    c.pointer_at-pointer.result c.bucket_size-size.result) (sym c.new-sent_on.ensures.value)
    ∙ sym c.is_in_use.ensures.value ∙ c.if-is_in_use.false in
    record {
      sample = subst (λ t. IsSample t c.args.channel c.args.chunk (record {
        found = c.in-Some.found;
        pointer = c.pointer_at-pointer.result;
        size = c.bucket_size-size.result;
      })) c.self.view_is
          (record {
            found = is;
            loaned = (not_false c.in-Some.found.entry.loaned c.if-not-found.false);
            channel = c.if-channel-self.false;
            segment = both.0;
            bucket = both.1;
            pointer = c.pointer_at-pointer.ensures.pointer;
            size = size;
            unused = unused;
          });
    }
