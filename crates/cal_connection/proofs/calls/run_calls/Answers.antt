use Rattle.std.proofs.Common.{◌+◌, ◌≤◌, length, sym, subst, ◌∙◌, arith}
use Rattle.std.proofs.lemmas.List.{drop_more}
use Rattle.cal_connection.specs.Calls.{IsSoundPair, ends_of}
use Rattle.cal_connection.specs.Port.{IsSoundPort}
use Rattle.cal_connection.proofs.AllMade.{own_told, own_left, pairs_balance, pairs_at_most}
use Rattle.cal_connection.proofs.Made.{AreMade, AreMade-next}
use Rattle.cal_connection.proofs.calls.run_calls.Goals as goal

pub loop-call-preserved : goal.loop-call-preserved
loop-call-preserved g c = record {
  made =
      subst (λ rs. AreMade c.args.reg.now c.args.receiver.now c.args.calls.now c.run_call.new.reg
      c.run_call.new.receiver rs (c.loop-call.call-index + 1)) (sym c.push_reserved.ensures.items)
      (AreMade-next c.args.reg.now c.args.receiver.now c.args.calls.now c.loop-call.reg c.loop-call.receiver
      c.loop-call.replies.items c.loop-call.call-index c.loop-call.invariant.made _ c.run_call.result
      c.run_call.new.reg c.run_call.new.receiver
      (drop_more c.args.calls.now c.loop-call.call-index _ c.loop-call-test.true) c.run_call.ensures.made);
  joined = c.run_call.ensures.joined;
  sender = c.run_call.ensures.port ∙ c.loop-call.invariant.sender;
  room = subst (λ n. length c.args.calls.now ≤ n) (sym c.push_reserved.ensures.capacity) c.loop-call.invariant.room;
}

pub returns-clause-own_replies : goal.returns-clause-own_replies
returns-clause-own_replies g c =
    let sound : IsSoundPair (ends_of c.args.reg.now c.args.receiver.now) = record {
      sound = subst IsSoundPort c.management_data.ensures.port c.settings.ensures.sound;
      counts = c.requires.joined.counts;
    } in
    own_told c.args.reg.now c.args.receiver.now c.args.calls.now c.loop-call.reg c.loop-call.receiver
    c.loop-call.replies.items c.loop-call.call-index c.loop-call.invariant.made (omega arith) sound

pub returns-clause-own_channel : goal.returns-clause-own_channel
returns-clause-own_channel g c =
    let sound : IsSoundPair (ends_of c.args.reg.now c.args.receiver.now) = record {
      sound = subst IsSoundPort c.management_data.ensures.port c.settings.ensures.sound;
      counts = c.requires.joined.counts;
    } in
    own_left c.args.reg.now c.args.receiver.now c.args.calls.now c.loop-call.reg c.loop-call.receiver
    c.loop-call.replies.items c.loop-call.call-index c.loop-call.invariant.made (omega arith) sound

pub returns-clause-pairs : goal.returns-clause-pairs
returns-clause-pairs g c =
    let sound : IsSoundPair (ends_of c.args.reg.now c.args.receiver.now) = record {
      sound = subst IsSoundPort c.management_data.ensures.port c.settings.ensures.sound;
      counts = c.requires.joined.counts;
    } in
    pairs_balance c.args.reg.now c.args.receiver.now c.args.calls.now c.loop-call.reg c.loop-call.receiver
    c.loop-call.replies.items c.loop-call.call-index c.loop-call.invariant.made (omega arith) sound

pub returns-clause-sent_before : goal.returns-clause-sent_before
returns-clause-sent_before g c =
    let sound : IsSoundPair (ends_of c.args.reg.now c.args.receiver.now) = record {
      sound = subst IsSoundPort c.management_data.ensures.port c.settings.ensures.sound;
      counts = c.requires.joined.counts;
    } in
    pairs_at_most c.args.reg.now c.args.receiver.now c.args.calls.now c.loop-call.reg c.loop-call.receiver
    c.loop-call.replies.items c.loop-call.call-index c.loop-call.invariant.made (omega arith) sound
