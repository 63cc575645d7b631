use Rattle.cal_queue.proofs.StateSteps.{splits}
use Rattle.cal_queue.proofs.state_table.steps.split.Goals as goal

pub split_seat-requires : goal.split_seat-requires
split_seat-requires c = (c.requires.seated, c.requires.wide, splits c.args.table.now.shared.key _ _)
