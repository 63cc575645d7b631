use Rattle.std.proofs.Common.{refl, sym, ap, ◌∙◌, subst}
use Rattle.std.specs.Prelude.{Bool, MatchBool}
use Rattle.cal_connection.specs.declared.backpressure.Obstacle.TheVariants.{ClosedChannel, FullQueue, NoReceiver, Nothing}
use Rattle.cal_shared.specs.Port.{OnChannel}
use Rattle.cal_shared.specs.Sending.{SeesFull, SeesRoom, used_samples}
use Rattle.cal_shared.proofs.TurnSteps.{SeesObstacle-made}
use Rattle.cal_shared.proofs.blocking.SharedPort+SendingEnd.look.Goals as goal

pub returns-then-not-is_connected : goal.returns-then-not-is_connected
returns-then-not-is_connected c = record {
  seen = SeesObstacle-made c.args.channel_id NoReceiver c.is_connected-is_connected.result
      c.is_channel_closed-is_closed.result c.args.self.now c.is_connected-is_connected.new.self
      c.is_channel_closed-is_closed.new.self c.is_channel_closed-is_closed.new.self c.is_connected-is_connected.ensures.loaded
      c.is_channel_closed-is_closed.ensures.loaded
      (λ port_word word connected closed. sym connected ∙ c.if-not-is_connected.true)
      refl;
  pair = c.is_channel_closed-is_closed.ensures.pair ∙ c.is_connected-is_connected.ensures.pair;
  samples = ap used_samples c.is_channel_closed-is_closed.ensures.loaded.only
      ∙ ap used_samples c.is_connected-is_connected.ensures.loaded.only;
}

pub returns-then-is_closed : goal.returns-then-is_closed
returns-then-is_closed c = record {
  seen = SeesObstacle-made c.args.channel_id ClosedChannel c.is_connected-is_connected.result
      c.is_channel_closed-is_closed.result c.args.self.now c.is_connected-is_connected.new.self
      c.is_channel_closed-is_closed.new.self c.is_channel_closed-is_closed.new.self c.is_connected-is_connected.ensures.loaded
      c.is_channel_closed-is_closed.ensures.loaded
      (λ port_word word connected closed. (sym connected ∙ c.if-not-is_connected.false, sym closed ∙ c.if-is_closed.true))
      refl;
  pair = c.is_channel_closed-is_closed.ensures.pair ∙ c.is_connected-is_connected.ensures.pair;
  samples = ap used_samples c.is_channel_closed-is_closed.ensures.loaded.only
      ∙ ap used_samples c.is_connected-is_connected.ensures.loaded.only;
}

pub returns-then-has_room : goal.returns-then-has_room
returns-then-has_room c = record {
  seen = SeesObstacle-made c.args.channel_id Nothing c.is_connected-is_connected.result
      c.is_channel_closed-is_closed.result c.args.self.now c.is_connected-is_connected.new.self
      c.is_channel_closed-is_closed.new.self c.has_room.new.self c.is_connected-is_connected.ensures.loaded
      c.is_channel_closed-is_closed.ensures.loaded
      (λ port_word word connected closed. (sym connected ∙ c.if-not-is_connected.false, sym closed ∙ c.if-is_closed.false))
      (subst
      (λ (b : Bool).
      MatchBool b
      (OnChannel c.args.channel_id SeesRoom c.is_channel_closed-is_closed.new.self c.has_room.new.self)
      (OnChannel c.args.channel_id SeesFull c.is_channel_closed-is_closed.new.self c.has_room.new.self))
      c.if-has_room.true c.has_room.ensures.looked);
  pair = c.has_room.ensures.pair
      ∙ c.is_channel_closed-is_closed.ensures.pair ∙ c.is_connected-is_connected.ensures.pair;
  samples = c.has_room.ensures.samples
      ∙ ap used_samples c.is_channel_closed-is_closed.ensures.loaded.only
      ∙ ap used_samples c.is_connected-is_connected.ensures.loaded.only;
}

pub returns : goal.returns
returns c = record {
  seen = SeesObstacle-made c.args.channel_id FullQueue c.is_connected-is_connected.result
      c.is_channel_closed-is_closed.result c.args.self.now c.is_connected-is_connected.new.self
      c.is_channel_closed-is_closed.new.self c.has_room.new.self c.is_connected-is_connected.ensures.loaded
      c.is_channel_closed-is_closed.ensures.loaded
      (λ port_word word connected closed. (sym connected ∙ c.if-not-is_connected.false, sym closed ∙ c.if-is_closed.false))
      (subst
      (λ (b : Bool).
      MatchBool b
      (OnChannel c.args.channel_id SeesRoom c.is_channel_closed-is_closed.new.self c.has_room.new.self)
      (OnChannel c.args.channel_id SeesFull c.is_channel_closed-is_closed.new.self c.has_room.new.self))
      c.if-has_room.false c.has_room.ensures.looked);
  pair = c.has_room.ensures.pair
      ∙ c.is_channel_closed-is_closed.ensures.pair ∙ c.is_connected-is_connected.ensures.pair;
  samples = c.has_room.ensures.samples
      ∙ ap used_samples c.is_channel_closed-is_closed.ensures.loaded.only
      ∙ ap used_samples c.is_connected-is_connected.ensures.loaded.only;
}
