use Rattle.std.proofs.Common.{sym, ap, subst}
use Rattle.std.specs.Prelude.{Bool}
use Rattle.cal_queue.specs.StateSeats.{pass}
use Rattle.cal_queue.specs.StateTable.{channel_index}
use Rattle.cal_queue.specs.declared.state_table.pass.StatePass.{StatePass}
use Rattle.cal_shared.specs.Words.{Exchanged}
use Rattle.cal_shared.proofs.Exchanged.{Exchanged-by_answer}
use Rattle.cal_shared.proofs.channel_states.exchange.Goals as goal

pub returns-clause-exchanged : goal.returns-clause-exchanged
returns-clause-exchanged c =
    subst
    (λ (won : Bool).
    Exchanged (channel_index c.args.channel) c.args.expected c.args.word won (pass c.args.states.now)
    (pass c.exchange_channel.new.self)) (sym c.is_ok.ensures.value)
    (Exchanged-by_answer (channel_index c.args.channel) c.args.expected c.args.word (pass c.args.states.now)
    (pass c.exchange_channel.new.self) c.exchange_channel.result c.exchange_channel.ensures.won
    c.exchange_channel.ensures.word c.exchange_channel.ensures.lost)

pub returns-clause-opening : goal.returns-clause-opening
returns-clause-opening c =
    ap (λ (p : StatePass). p.opening) (Exchanged-by_answer (channel_index c.args.channel) c.args.expected c.args.word
    (pass c.args.states.now) (pass c.exchange_channel.new.self) c.exchange_channel.result
    c.exchange_channel.ensures.won c.exchange_channel.ensures.word c.exchange_channel.ensures.lost).step
