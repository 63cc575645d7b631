use Rattle.std.proofs.Common.{sym, subst, ◌∙◌}
use Rattle.std.proofs.lemmas.Bool.{false≢true}
use Rattle.cal_connection.specs.Port.{PortEntry, IsSendable}
use Rattle.cal_connection.proofs.Made.{unmade_send}
use Rattle.cal_connection.proofs.calls.send.Goals as goal

pub returns-then-not-may_send-clause-made : goal.returns-then-not-may_send-clause-made
returns-then-not-may_send-clause-made g c = λ receiver has same.
    unmade_send c.args.reg.now receiver has c.args.sender.now.handle same c.args.channel c.args.ptr c.args.sample_size
    (λ sendable.
    false≢true (sym c.if-not-may_send.true
    ∙ c.may_send.ensures.all (subst (λ (port : PortEntry). IsSendable port c.args.channel c.args.ptr c.args.sample_size)
    (sym c.management_data.ensures.port) sendable)))
