use Rattle.std.proofs.lemmas.Result.{err_from_is_err_and}
use Rattle.cal_transport.proofs.RunningState.{read_ran_out}
use Rattle.cal_transport.proofs.transport.Transport.show.Goals as goal

pub returns-in_err-new-in-Ok-clause-error : goal.returns-in_err-new-in-Ok-clause-error
returns-in_err-new-in-Ok-clause-error c =
    let p = err_from_is_err_and c.from_residual.result c.from_residual.ensures.1 in
    rw p.1
    (read_ran_out c.args.self.now c.args.channel c.args.chunk c.args.at c.args.length c.in-Ok.bytes.now
    c.in-Ok.ensures.step c.in-Ok.len_at_least)
