use Rattle.std.proofs.Common.{◌≡◌, refl, sym, ap, ◌∙◌, subst}
use Rattle.std.specs.Prelude.{Bool, false, Err}
use Rattle.std.proofs.lemmas.Result.{err_from_is_err_and}
use Rattle.cal_shared.specs.Port.{OnChannel, Pair}
use Rattle.cal_shared.specs.Sending.{TriesToSend}
use Rattle.cal_shared.specs.Turns.{passes}
use Rattle.cal_shared.proofs.TurnSteps.{IsSendable-kept, SendsBlocking-awaited, SendsBlocking-overflowing}
use Rattle.cal_shared.proofs.blocking.SharedPort+SendingEnd.blocking_send.Goals as goal

pub returns-then-has_enabled_safe_overflow-clause-sent : goal.returns-then-has_enabled_safe_overflow-clause-sent
returns-then-has_enabled_safe_overflow-clause-sent g c =
    SendsBlocking-overflowing _ c.args.action c.args.channel_id c.args.ptr c.args.sample_size c.try_send.result
    c.args.self.now c.try_send.new.self c.args.self.now.settings.enable_safe_overflow
    (sym c.has_enabled_safe_overflow.ensures.value ∙ c.if-has_enabled_safe_overflow.true) c.try_send.ensures.sent

pub returns-in_err-await_room : goal.returns-in_err-await_room
returns-in_err-await_room g c =
    let p = err_from_is_err_and c.from_residual.result c.from_residual.ensures.1 in
    let is : c.from_residual.result ≡ Err c.in_err-await_room.field-0.0 = cc (p.1, p.2) in
    record {
      sent = SendsBlocking-awaited _ c.args.action c.args.channel_id c.args.ptr c.args.sample_size
          c.from_residual.result c.args.self.now c.await_room.new.self c.args.self.now.settings.enable_safe_overflow
          (sym c.has_enabled_safe_overflow.ensures.value ∙ c.if-has_enabled_safe_overflow.false) (record {
            outcome = Err c.in_err-await_room.field-0.0;
            last = c.await_room.new.self;
            awaits = c.in_err-await_room.ensures.awaited;
            send = (is, refl);
          });
      pair = c.await_room.ensures.pair;
    }

pub try_send-requires-2 : goal.try_send-requires-2
try_send-requires-2 g c = record {
  sendable = IsSendable-kept c.args.self.now c.await_room.new.self c.args.channel_id c.args.ptr c.args.sample_size
      c.await_room.ensures.pair c.await_room.ensures.samples c.requires.sendable;
}

pub returns : goal.returns
returns g c =
    let off : c.args.self.now.settings.enable_safe_overflow ≡ false =
    sym c.has_enabled_safe_overflow.ensures.value ∙ c.if-has_enabled_safe_overflow.false in
    let still : c.await_room.new.self.settings.enable_safe_overflow ≡ false =
    ap (λ (p : Pair). p.settings.enable_safe_overflow) c.await_room.ensures.pair ∙ off in
    record {
      sent = SendsBlocking-awaited _ c.args.action c.args.channel_id c.args.ptr c.args.sample_size c.try_send-2.result
          c.args.self.now c.try_send-2.new.self c.args.self.now.settings.enable_safe_overflow off (record {
            outcome = passes;
            last = c.await_room.new.self;
            awaits = c.in_ok-await_room.ensures.awaited;
            send = subst
                (λ (b : Bool).
                OnChannel c.args.channel_id (TriesToSend b c.args.ptr c.args.sample_size c.try_send-2.result)
                c.await_room.new.self c.try_send-2.new.self) still c.try_send-2.ensures.sent;
          });
      pair = c.try_send-2.ensures.pair ∙ c.await_room.ensures.pair;
    }
