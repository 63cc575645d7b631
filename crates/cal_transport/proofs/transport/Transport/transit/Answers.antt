use Rattle.std.proofs.Common.{◌≡◌, ◌≤◌, ◌<◌, ◌+◌, ◌++◌, length, get_or, ap, sym, ◌∙◌, subst, arith}
use Rattle.std.specs.List.{flat_map}
use Rattle.std.proofs.lemmas.List.{append-nil, get_or_default}
use Rattle.cal_transport.specs.declared.reply.Reply.{Reply}
use Rattle.cal_transport.specs.Replies.{ReplyList}
use Rattle.cal_transport.specs.Ledger.{numbers_below}
use Rattle.cal_transport.specs.Run.{transit_list}
use Rattle.cal_transport.specs.State.{TransportState, Represents}
use Rattle.cal_transport.specs.StateOf.{state_of}
use Rattle.cal_transport.specs.TransitLines.{lines_on}
use Rattle.cal_transport.proofs.Standing.{inside_now}
use Rattle.cal_transport.proofs.TransitChannels.{told_next, told_none, room_next, channels_many, all_few, none_at_all, none_on}
use Rattle.cal_transport.proofs.transport.Transport.transit.Goals as goal
use Rattle.cal_transport.proofs.transport.Transport.transit.Goals.{then-index-gt0, else-index-gt0}

pub returns-then-self-eq0 : goal.returns-then-self-eq0
returns-then-self-eq0 c = record {
  listed = λ l r.
      sym (append-nil c.args.into.now.items)
      ∙ ap (λ told. c.args.into.now.items ++ told)
      (sym (none_at_all (state_of c.self.inside) c.self.invariant.linked l
      (subst (λ u. Represents u l) (sym c.self.view_is)
      (inside_now c.self.inside c.self.invariant c.args.self.now c.self.view_is l r)) c.if-self-eq0.true));
}

pub channel_transit-requires-clause-room : goal.channel_transit-requires-clause-room
channel_transit-requires-clause-room c = λ l r.
    (let t = state_of c.self.inside in
    let stands = subst (λ u. Represents u l) (sym c.self.view_is) r in
    let many = channels_many t c.self.invariant.linked l stands in
    let few = all_few t c.self.invariant.linked l stands in
    let room = subst (λ (u : TransportState). u.in_transit ≤ c.args.into.now.spare) (sym c.self.view_is)
    c.requires.room in
    let below = c.loop-channel-test.true in
    room_next (lines_on l) c.loop-channel.channel (length l.histories) c.loop-channel.into.spare c.args.into.now.spare
    c.args.into.now.items c.loop-channel.into.items (c.loop-channel.invariant.listed l r)
    c.loop-channel.invariant.total (omega arith) (omega arith))

pub loop-channel-preserved : goal.loop-channel-preserved
loop-channel-preserved c = elim c.if-index-gt0.branch [
  | then-index-gt0 w ↦ record {
    listed = λ m r.
        ap (λ (into : ReplyList Reply). into.items) w.into-is
        ∙ told_next (lines_on m) c.loop-channel.channel c.args.into.now.items c.loop-channel.into.items
        w.channel_transit.new.into.items (c.loop-channel.invariant.listed m r) (w.channel_transit.ensures.listed m r);
    total = ap (λ (into : ReplyList Reply). into.spare + length into.items) w.into-is
        ∙ w.channel_transit.ensures.room ∙ c.loop-channel.invariant.total;
  }
  | else-index-gt0 w ↦ record {
    listed = λ m r. (
        let t = state_of c.self.inside in
        let stands = subst (λ u. Represents u m) (sym c.self.view_is) r in
        let none = none_on t c.self.invariant.linked m stands c.loop-channel.channel c.loop-channel-test.true
        (get_or_default c.self.inside.transits.items c.loop-channel.channel 0 c.index.result.now
        (let long = c.self.invariant.linked.transits in let below = c.loop-channel-test.true in omega arith)
        ∙ sym c.index.ensures ∙ (let not_more = w.if-index-gt0 in omega arith)) in
        ap (λ (into : ReplyList Reply). into.items) w.into-is
        ∙ told_none (lines_on m) c.loop-channel.channel c.args.into.now.items c.loop-channel.into.items
        (c.loop-channel.invariant.listed m r) none);
    total = ap (λ (into : ReplyList Reply). into.spare + length into.items) w.into-is
        ∙ c.loop-channel.invariant.total;
  }
]

pub returns : goal.returns
returns c = record {
  listed = λ l r. (
      let t = state_of c.self.inside in
      let inside = inside_now c.self.inside c.self.invariant c.args.self.now c.self.view_is l r in
      let stands = subst (λ u. Represents u l) (sym c.self.view_is) inside in
      let many = channels_many t c.self.invariant.linked l stands in
      let past = c.loop-channel-test.false in
      let most = c.loop-channel.auto.channel-end in
      c.loop-channel.invariant.listed l inside
      ∙ ap (λ n. c.args.into.now.items ++ flat_map (lines_on l) (numbers_below n))
      (let e : c.loop-channel.channel ≡ length l.histories = omega arith in e));
}
