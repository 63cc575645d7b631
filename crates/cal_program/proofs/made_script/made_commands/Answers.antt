-- One more round is appended.
use Rattle.cal_program.proofs.MadeLemmas.{state_after-next, made_commands-next}
use Rattle.cal_program.proofs.made_script.made_commands.Goals as goal

pub loop-index-preserved : goal.loop-index-preserved
loop-index-preserved c = record {
  state = state_after-next c.args.number c.loop-index.index c.loop-index.state c.next_state-state.result
      c.loop-index.invariant.state c.next_state-state.ensures.value;
  list = made_commands-next c.args.number c.loop-index.index c.loop-index.state c.next_state-state.result
      c.of-draw.result c.loop-index.commands.items c.push_round.new.commands.items c.loop-index.invariant.state
      c.next_state-state.ensures.value c.of-draw.ensures.value c.loop-index.invariant.list
      c.in_ok-push_round.ensures.round;
}
