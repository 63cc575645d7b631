use Rattle.std.proofs.Common.{◌≤◌, sym, ap, ◌∙◌, subst, arith}
use Rattle.cal_queue.specs.StateSeats.{pass}
use Rattle.cal_shared.specs.Acquiring.{FitsChannels, IsAcquirable}
use Rattle.cal_shared.specs.Port.{SendingPort, pair_of_sender}
use Rattle.cal_shared.proofs.FittingChannels.{FitsChannels-acquirable, IsSoundPort-with_acquired, pair_of-acquired}
use Rattle.cal_shared.proofs.shared_sender.SharedPort+SendingEnd.acquire_used_offsets.Goals as goal

pub call_on_channels-requires-clause-fits : goal.call_on_channels-requires-clause-fits
call_on_channels-requires-clause-fits g c =
    let port : SendingPort = record {
      settings = c.self.inside.settings;
      words = c.self.inside.states.seat.table_id;
      states = pass c.self.inside.states;
      channels = c.self.inside.channels.items;
    } in
    let few : c.self.inside.settings.number_of_segments ≤ 256 = omega arith in
    subst FitsChannels (sym c.deref.ensures.value)
    (FitsChannels-acquirable port c.self.invariant few
    (subst IsAcquirable (sym c.self.view_is) c.requires.acquirable))

pub invariant_of-self : goal.invariant_of-self
invariant_of-self g c =
    let port : SendingPort = record {
      settings = c.self.inside.settings;
      words = c.self.inside.states.seat.table_id;
      states = pass c.self.inside.states;
      channels = c.self.inside.channels.items;
    } in
    IsSoundPort-with_acquired port c.self.invariant c.empty_channels.new.channels.items
    c.empty_channels.ensures.emptied

pub returns-clause-pair : goal.returns-clause-pair
returns-clause-pair g c =
    let port : SendingPort = record {
      settings = c.self.inside.settings;
      words = c.self.inside.states.seat.table_id;
      states = pass c.self.inside.states;
      channels = c.self.inside.channels.items;
    } in
    pair_of-acquired port c.empty_channels.new.channels.items c.empty_channels.ensures.emptied
    ∙ ap pair_of_sender c.self.view_is
