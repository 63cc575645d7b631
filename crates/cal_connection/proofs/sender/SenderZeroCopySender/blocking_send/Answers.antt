use Rattle.std.proofs.Common.{◌≡◌, ap, ◌∙◌}
use Rattle.cal_connection.specs.Backpressure.{obstacle}
use Rattle.cal_connection.specs.BackpressureLemmas.{unsent-found}
use Rattle.cal_connection.specs.Port.{port_at}
use Rattle.cal_connection.proofs.sender.SenderZeroCopySender.blocking_send.Goals as goal

pub returns-in_err-face-clause-sent : goal.returns-in_err-face-clause-sent
returns-in_err-face-clause-sent g c =
    let is : c.obstacle-obstacle.result ≡ obstacle (port_at c.args.reg.now c.args.self.now.handle) c.args.channel_id =
    c.obstacle-obstacle.ensures.value ∙ ap (λ port. obstacle port c.value.result) c.management_data.ensures.port
    ∙ ap (obstacle (port_at c.args.reg.now c.args.self.now.handle)) c.value.ensures.value in
    unsent-found _ c.args.action c.args.reg.now c.args.self.now.handle c.args.channel_id c.args.ptr c.args.sample_size
    c.obstacle-obstacle.result c.face.result c.in_err-face.field-0.0 c.requires.there is c.in_err-face.was
    c.face.ensures.answer
