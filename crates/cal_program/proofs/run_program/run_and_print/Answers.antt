-- What is due of a made run shows few bytes.
use Rattle.cal_program.proofs.RequestLemmas.{due-told}
use Rattle.cal_program.proofs.run_program.run_and_print.Goals as goal

pub print_outcome-requires : goal.print_outcome-requires
print_outcome-requires g c =
    let due = c.due_outcome-due.result in
    record {
      told = due-told c.args.request (g.R.Source.state c.args.source.now)
          (g.R.Source.state c.due_outcome-due.new.source)
          due.status due.replies.items due.end c.requires.few c.due_outcome-due.ensures;
    }
