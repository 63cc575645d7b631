use Rattle.cal_program.proofs.MadeLemmas.{way_back-pushed}
use Rattle.cal_program.proofs.made_script.push_way_back.Goals as goal

pub returns : goal.returns
returns c = record {
  back = way_back-pushed c.args.draw c.args.chunk c.args.commands.now.items c.push.new.self.items
      c.push-2.new.self.items c.push-3.new.self.items c.push-4.new.self.items c.in_ok-push.ensures.items
      c.in_ok-push-2.ensures.items c.in_ok-push-3.ensures.items c.in_ok-push-4.ensures.items;
}
