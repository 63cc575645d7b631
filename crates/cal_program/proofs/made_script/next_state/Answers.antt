-- A product that wraps and a sum that wraps are one remainder.
use Rattle.cal_program.proofs.MadeLemmas.{next_state-wrapping}
use Rattle.cal_program.proofs.made_script.next_state.Goals as goal

pub returns : goal.returns
returns c = record { value = cc (next_state-wrapping c.args.state) }
