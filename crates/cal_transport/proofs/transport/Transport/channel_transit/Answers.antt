use Rattle.std.proofs.Common.{◌≡◌, ◌≤◌, ◌<◌, ◌+◌, ◌++◌, length, map, vec_items, min, ap, sym, ◌∙◌, subst, arith}
use Rattle.std.specs.List.{flat_map}
use Rattle.std.proofs.lemmas.List.{length-map}
use Rattle.cal_transport.specs.Ledger.{numbers_below}
use Rattle.cal_transport.specs.State.{TransportState, Represents}
use Rattle.cal_transport.specs.StateOf.{state_of}
use Rattle.cal_transport.specs.TransitLines.{lines_in, lines_on}
use Rattle.cal_transport.proofs.TransitChannels.{told_next, room_next, segments_many, by_segments, all_segments}
use Rattle.cal_transport.proofs.transport.Transport.channel_transit.Goals as goal

pub segment_transit-requires-clause-room : goal.segment_transit-requires-clause-room
segment_transit-requires-clause-room c = λ l r.
    (let t = state_of c.self.inside in
    let stands = subst (λ u. Represents u l) (sym c.self.view_is) r in
    let many = segments_many t c.self.invariant.linked l stands in
    let table = length-map c.self.inside.owners.items vec_items in
    let told = c.len.ensures in
    let least = c.min-segments.ensures in
    let below = c.loop-segment-test.true in
    subst (λ n. length (lines_in l c.args.channel n) ≤ c.loop-segment.into.spare) (sym c.new.ensures.value)
    (room_next (lines_in l c.args.channel) c.loop-segment.segment (length l.segments) c.loop-segment.into.spare
    c.args.into.now.spare c.args.into.now.items c.loop-segment.into.items (c.loop-segment.invariant.listed l r)
    c.loop-segment.invariant.total (omega arith)
    (subst (λ lines. length lines ≤ c.args.into.now.spare) (by_segments t c.self.invariant.linked l c.args.channel)
    (c.requires.room l r))))

pub loop-segment-preserved : goal.loop-segment-preserved
loop-segment-preserved c = record {
  listed = λ m r. told_next (lines_in m c.args.channel) c.loop-segment.segment c.args.into.now.items
      c.loop-segment.into.items c.segment_transit.new.into.items (c.loop-segment.invariant.listed m r)
      (c.segment_transit.ensures.listed m r
      ∙ ap (λ n. c.loop-segment.into.items ++ lines_in m c.args.channel n) c.new.ensures.value);
  total = c.segment_transit.ensures.room ∙ c.loop-segment.invariant.total;
}

pub returns-clause-listed : goal.returns-clause-listed
returns-clause-listed c = λ l r.
    (let t = state_of c.self.inside in
    let stands = subst (λ u. Represents u l) (sym c.self.view_is) r in
    let inside = subst (λ (u : TransportState). c.args.channel < u.settings.channels) (sym c.self.view_is)
    c.requires.channel in
    let table = length-map c.self.inside.owners.items vec_items in
    let told = c.len.ensures in
    let least = c.min-segments.ensures in
    let past = c.loop-segment-test.false in
    let most = c.loop-segment.auto.segment-end in
    c.loop-segment.invariant.listed l r
    ∙ ap (λ lines. c.args.into.now.items ++ lines)
    (sym (all_segments t c.self.invariant.linked l stands c.args.channel inside c.loop-segment.segment (omega arith))))
