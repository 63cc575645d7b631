use Rattle.std.proofs.Common.{◌≡◌, ◌≤◌, ◌<◌, ◌+◌, ◌-◌, ◌*◌, ◌++◌, ◌∷◌, List, [], length, get_or, map, vec_items, Some, ℕ, false, IsSome, refl, sym, ap, ◌∙◌, subst, arith, length-append, append_assoc}
use Rattle.std.specs.List.{slice_get}
use Rattle.cal_queue.specs.FirstFrom.{IsFirst}
use Rattle.cal_resizable.specs.Slots.{segment_at}
use Rattle.cal_transport.specs.declared.reply.Reply.{Reply}
use Rattle.cal_transport.specs.declared.reply.Reply.TheVariants.{Transit}
use Rattle.cal_transport.specs.ChunkEntry.{LeadsToEntry, owners_of}
use Rattle.cal_transport.specs.Ledger.{Ledger}
use Rattle.cal_transport.specs.State.{TransportState, Represents}
use Rattle.cal_transport.specs.StateOf.{state_of}
use Rattle.cal_transport.specs.TransitLines.{line_of, lines_below, lines_in}
use Rattle.cal_transport.proofs.TransitCode.{in_use, few_buckets, held, leads_there, place_fits, inside_samples, has_room, line_is, one_more, to_end, told}
use Rattle.cal_transport.proofs.transport.Transport.segment_transit.Goals as goal

-- the clauses are over the number of the channel
first_at : (t : TransportState) (n k segment start bucket : ℕ) → n ≡ k → IsFirst (in_use t n segment) start bucket →
    IsFirst (in_use t k segment) start bucket
first_at t n k segment start bucket same first =
    subst (λ m. IsFirst (in_use t m segment) start bucket) same first

longer : (before now : List Reply) (told : Reply) → now ≡ before ++ told ∷ [] → length now ≡ length before + 1
longer before now told is = ap length is ∙ length-append before (told ∷ [])

pub bucket_size-size-requires-clause-active : goal.bucket_size-size-requires-clause-active
bucket_size-size-requires-clause-active c =
    let t = state_of c.self.inside in
    let inside = subst (λ (u : TransportState). c.args.channel < u.settings.channels) (sym c.self.view_is)
    c.requires.channel in
    let first = first_at t c.new-channel_id.result c.args.channel c.args.segment c.loop-bucket.from c.in-Some.bucket
    c.new-channel_id.ensures.value c.in-Some.ensures.first in
    held t c.args.channel c.args.segment inside c.self.invariant.ledger c.self.invariant.represents c.in-Some.bucket
    first.passes

pub entry_at-found-requires : goal.entry_at-found-requires
entry_at-found-requires c =
    let t = state_of c.self.inside in
    let inside = subst (λ (u : TransportState). c.args.channel < u.settings.channels) (sym c.self.view_is)
    c.requires.channel in
    let first = first_at t c.new-channel_id.result c.args.channel c.args.segment c.loop-bucket.from c.in-Some.bucket
    c.new-channel_id.ensures.value c.in-Some.ensures.first in
    record {
      leads = subst (λ es. LeadsToEntry es (owners_of c.deref-in-Some.result.now c.value.result) c.in-Some.bucket)
          (sym c.deref.ensures.value)
          (subst (λ os. LeadsToEntry c.self.inside.entries.items (owners_of os c.value.result) c.in-Some.bucket)
          (sym c.deref-in-Some.ensures.value)
          (subst (λ n. LeadsToEntry c.self.inside.entries.items (owners_of c.self.inside.owners.items n)
          c.in-Some.bucket) (sym c.value.ensures.value)
          (leads_there t c.args.channel c.args.segment inside c.self.invariant.ledger c.self.invariant.represents
          c.in-Some.bucket first.passes)));
    }

pub overflow_mul-bucket : goal.overflow_mul-bucket
overflow_mul-bucket c =
    let t = state_of c.self.inside in
    let inside = subst (λ (u : TransportState). c.args.channel < u.settings.channels) (sym c.self.view_is)
    c.requires.channel in
    let first = first_at t c.new-channel_id.result c.args.channel c.args.segment c.loop-bucket.from c.in-Some.bucket
    c.new-channel_id.ensures.value c.in-Some.ensures.first in
    let fits = place_fits t c.args.channel c.args.segment inside c.self.invariant.ledger c.self.invariant.represents
    c.in-Some.bucket c.bucket_size-size.result first.passes c.bucket_size-size.ensures.size in
    omega arith

pub push-requires : goal.push-requires
push-requires c =
    let t = state_of c.self.inside in
    let inside = subst (λ (u : TransportState). c.args.channel < u.settings.channels) (sym c.self.view_is)
    c.requires.channel in
    let first = first_at t c.new-channel_id.result c.args.channel c.args.segment c.loop-bucket.from c.in-Some.bucket
    c.new-channel_id.ensures.value c.in-Some.ensures.first in
    let stands = subst (λ u. Represents u c.self.invariant.ledger) c.self.view_is c.self.invariant.represents in
    record {
      room = has_room t c.args.channel c.args.segment inside c.self.invariant.ledger c.self.invariant.represents
          c.loop-bucket.from c.in-Some.bucket c.loop-bucket.into.spare c.args.into.now.spare c.args.into.now.items
          c.loop-bucket.into.items first (c.loop-bucket.invariant.listed c.self.invariant.ledger stands)
          c.loop-bucket.invariant.total (c.requires.room c.self.invariant.ledger stands);
    }

pub overflow_add-from : goal.overflow_add-from
overflow_add-from c =
    let t = state_of c.self.inside in
    let inside = subst (λ (u : TransportState). c.args.channel < u.settings.channels) (sym c.self.view_is)
    c.requires.channel in
    let first = first_at t c.new-channel_id.result c.args.channel c.args.segment c.loop-bucket.from c.in-Some.bucket
    c.new-channel_id.ensures.value c.in-Some.ensures.first in
    let below = few_buckets t c.args.channel c.args.segment inside c.self.invariant.ledger
    c.self.invariant.represents c.in-Some.bucket first.passes in
    omega arith

pub loop-bucket-smaller : goal.loop-bucket-smaller
loop-bucket-smaller c =
    let t = state_of c.self.inside in
    let inside = subst (λ (u : TransportState). c.args.channel < u.settings.channels) (sym c.self.view_is)
    c.requires.channel in
    let first = first_at t c.new-channel_id.result c.args.channel c.args.segment c.loop-bucket.from c.in-Some.bucket
    c.new-channel_id.ensures.value c.in-Some.ensures.first in
    let below = subst (λ (u : TransportState). c.in-Some.bucket < u.settings.samples) c.self.view_is
    (inside_samples t c.args.channel c.args.segment inside c.self.invariant.ledger
    c.self.invariant.represents c.in-Some.bucket first.passes) in
    let up = first.not_before in
    omega arith

pub loop-bucket-preserved : goal.loop-bucket-preserved
loop-bucket-preserved c =
    let t = state_of c.self.inside in
    let inside = subst (λ (u : TransportState). c.args.channel < u.settings.channels) (sym c.self.view_is)
    c.requires.channel in
    let first = first_at t c.new-channel_id.result c.args.channel c.args.segment c.loop-bucket.from c.in-Some.bucket
    c.new-channel_id.ensures.value c.in-Some.ensures.first in
    let owner = subst (λ n. slice_get (get_or (map vec_items c.self.inside.owners.items) n []) c.in-Some.bucket
    ≡ Some c.entry_at-found.result.index) c.value.ensures.value
    (subst (λ os. slice_get (owners_of os c.value.result) c.in-Some.bucket ≡ Some c.entry_at-found.result.index)
    c.deref-in-Some.ensures.value c.entry_at-found.ensures.owner) in
    let entry = subst (λ es. slice_get es c.entry_at-found.result.index ≡ Some c.entry_at-found.result.entry)
    c.deref.ensures.value c.entry_at-found.ensures.entry in
    record {
      listed = λ m r. (
          let stands = subst (λ u. Represents u m) (sym c.self.view_is) r in
          let line = line_is t c.args.channel c.args.segment inside m stands c.in-Some.bucket c.bucket_size-size.result
          c.entry_at-found.result.index c.entry_at-found.result.entry first.passes c.bucket_size-size.ensures.size owner
          entry in
          c.push.ensures.items
          ∙ ap (λ n. c.loop-bucket.into.items ++ Transit c.args.channel (record {
            chunk = c.entry_at-found.result.entry.name;
            segment = n;
            place = c.in-Some.bucket * c.bucket_size-size.result;
          }) ∷ []) c.value-in-Some.ensures.value
          ∙ ap (λ told. c.loop-bucket.into.items ++ told ∷ []) line
          ∙ ap (λ so_far. so_far ++ line_of m c.args.channel (told t c.args.channel c.args.segment inside m stands
          c.in-Some.bucket first.passes).chunk ∷ []) (c.loop-bucket.invariant.listed m r)
          ∙ append_assoc c.args.into.now.items (lines_below m c.args.channel c.args.segment c.loop-bucket.from)
          (line_of m c.args.channel (told t c.args.channel c.args.segment inside m stands c.in-Some.bucket
          first.passes).chunk ∷ [])
          ∙ ap (λ told. c.args.into.now.items ++ told)
          (sym (one_more t c.args.channel c.args.segment inside m stands c.loop-bucket.from c.in-Some.bucket first)));
      total = (
          let long = longer c.loop-bucket.into.items c.push.new.self.items _ c.push.ensures.items in
          let was = c.loop-bucket.invariant.total in
          let less = c.push.ensures.room in
          let some = has_room t c.args.channel c.args.segment inside c.self.invariant.ledger c.self.invariant.represents
          c.loop-bucket.from c.in-Some.bucket c.loop-bucket.into.spare c.args.into.now.spare c.args.into.now.items
          c.loop-bucket.into.items first (c.loop-bucket.invariant.listed c.self.invariant.ledger
          (subst (λ u. Represents u c.self.invariant.ledger) c.self.view_is c.self.invariant.represents))
          c.loop-bucket.invariant.total (c.requires.room c.self.invariant.ledger
          (subst (λ u. Represents u c.self.invariant.ledger) c.self.view_is c.self.invariant.represents)) in omega
          arith);
      within = (
          let below = subst (λ (u : TransportState). c.in-Some.bucket < u.settings.samples) c.self.view_is
          (inside_samples t c.args.channel c.args.segment inside c.self.invariant.ledger c.self.invariant.represents
          c.in-Some.bucket first.passes) in omega arith);
    }

pub returns-clause-listed : goal.returns-clause-listed
returns-clause-listed c =
    let t = state_of c.self.inside in
    let inside = subst (λ (u : TransportState). c.args.channel < u.settings.channels) (sym c.self.view_is)
    c.requires.channel in
    λ m r. c.loop-bucket.invariant.listed m r
    ∙ ap (λ told. c.args.into.now.items ++ told)
    (sym (to_end t c.args.channel c.args.segment inside m (subst (λ u. Represents u m) (sym c.self.view_is) r)
    c.loop-bucket.from
    (subst (λ n. (j : ℕ) → c.loop-bucket.from ≤ j → in_use t n c.args.segment j ≡ false) c.new-channel_id.ensures.value
    c.in_default.ensures.first)))
