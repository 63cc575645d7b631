use Rattle.cal_program.proofs.MadeLemmas.{round_of-pushed}
use Rattle.cal_program.proofs.made_script.push_round.Goals as goal

pub returns : goal.returns
returns c = record {
  round = round_of-pushed c.args.draw c.args.chunk c.args.commands.now.items c.push_way_there.new.commands.items
      c.push_way_back.new.commands.items c.in_ok-push_way_there.ensures.there c.in_ok-push_way_back.ensures.back;
}
