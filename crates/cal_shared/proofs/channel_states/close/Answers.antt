use Rattle.std.proofs.Common.{refl, subst}
use Rattle.std.specs.Prelude.{ℕ}
use Rattle.cal_queue.specs.StateSeats.{pass}
use Rattle.cal_queue.specs.StateTable.{channel_index}
use Rattle.cal_connection.specs.Words.{closed}
use Rattle.cal_shared.specs.Words.{Exchanged, ExchangesWord}
use Rattle.cal_shared.proofs.Exchanged.{ClosesChannel-once, ClosesChannel-twice}
use Rattle.cal_shared.proofs.channel_states.close.Goals as goal

pub returns-then-closed-clause-closed : goal.returns-then-closed-clause-closed
returns-then-closed-clause-closed c =
    ClosesChannel-once c.args.channel c.args.state _ _ _ c.exchange-closed.result c.exchange-closed.ensures.exchanged
    c.if-closed.true refl

pub returns-clause-closed : goal.returns-clause-closed
returns-clause-closed c =
    let second : Exchanged (channel_index c.args.channel) c.with_hint-hinted.result closed c.exchange-closed_then.result
    (pass c.exchange-closed.new.states) (pass c.exchange-closed_then.new.states) =
    c.exchange-closed_then.ensures.exchanged in
    ClosesChannel-twice c.args.channel c.args.state _ _ _ c.exchange-closed.result c.exchange-closed.ensures.exchanged
    c.if-closed.false
    (subst
    (λ (h : ℕ).
    ExchangesWord (channel_index c.args.channel) h closed (pass c.exchange-closed.new.states)
    (pass c.exchange-closed_then.new.states)) c.with_hint-hinted.ensures.value
    (record { seen = second.seen; step = second.step }))
