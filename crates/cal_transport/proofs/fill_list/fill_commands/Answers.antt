-- What is appended one after another is the list.
use Rattle.cal_transport.proofs.RoundLists.{put_together}
use Rattle.cal_transport.proofs.fill_list.fill_commands.Goals as goal

pub returns : goal.returns
returns c = record {
  list = put_together c.args.buffer c.args.borrow c.new-commands.result.items c.push_rounds.new.commands.items
      c.push_rounds-2.new.commands.items c.push_rounds-3.new.commands.items c.push_exchange.new.commands.items
      c.push_rounds-4.new.commands.items c.push_rounds-5.new.commands.items c.new-commands.ensures.items
      c.in_ok-push_rounds.ensures.rounds c.in_ok-push_rounds-2.ensures.rounds c.in_ok-push_rounds-3.ensures.rounds
      c.in_ok-push_exchange.ensures.exchange c.in_ok-push_rounds-4.ensures.rounds c.in_ok-push_rounds-5.ensures.rounds;
}
