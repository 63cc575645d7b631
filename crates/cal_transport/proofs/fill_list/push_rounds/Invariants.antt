use Rattle.std.proofs.Common.{◌≡◌, ◌++◌}
use Rattle.std.specs.List.{flat_map}
use Rattle.cal_transport.specs.FillList.{names_from}
use Rattle.cal_transport.specs.Rounds.{round_of}
use Rattle.cal_transport.proofs.fill_list.push_rounds.Given as goal

abbrev pub invariant-loop-index : goal.invariant-loop-index
invariant-loop-index l =
    l.commands.items ≡ l.initial.commands.items ++ flat_map (round_of l.round) (names_from l.first l.index)
