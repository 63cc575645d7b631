use Rattle.std.proofs.Common.{◌<◌, refl, sym, ap, ◌∙◌, subst, inl, inr}
use Rattle.cal_connection.specs.declared.settings.ConnectionSettings.{ConnectionSettings}
use Rattle.std.specs.Prelude.{Bool, MatchBool}
use Rattle.cal_shared.specs.Port.{OnChannel, Pair}
use Rattle.cal_shared.specs.Sending.{SeesFull, SeesRoom}
use Rattle.cal_shared.proofs.blocking.SharedPort+SendingEnd.await_room.Goals as goal

pub returns-then-has_room-clause-awaited : goal.returns-then-has_room-clause-awaited
returns-then-has_room-clause-awaited g c =
    inl (
      refl,
      subst
          (λ (b : Bool).
          MatchBool b (OnChannel c.args.channel_id SeesRoom c.args.self.now c.has_room.new.self)
          (OnChannel c.args.channel_id SeesFull c.args.self.now c.has_room.new.self)) c.if-has_room.true
          c.has_room.ensures.looked,
    )

pub take_turns-requires-clause-channel : goal.take_turns-requires-clause-channel
take_turns-requires-clause-channel g c =
    subst (λ (s : ConnectionSettings). c.args.channel_id < s.number_of_channels)
    (sym (ap (λ (p : Pair). p.settings) c.has_room.ensures.pair)) c.requires.channel

pub returns : goal.returns
returns g c = record {
  awaited = inr (
    c.has_room.new.self,
    subst
        (λ (b : Bool).
        MatchBool b (OnChannel c.args.channel_id SeesRoom c.args.self.now c.has_room.new.self)
        (OnChannel c.args.channel_id SeesFull c.args.self.now c.has_room.new.self)) c.if-has_room.false
        c.has_room.ensures.looked,
    c.take_turns.ensures.turns,
  );
  pair = c.take_turns.ensures.pair ∙ c.has_room.ensures.pair;
  samples = c.take_turns.ensures.samples ∙ c.has_room.ensures.samples;
}
