-- How a transport's fields are seen.
use Rattle.std.specs.Prelude.{◌-◌, map, vec_items, vec_len, vec_capacity}
use Rattle.cal_transport.specs.declared.transport.Transport.TheInside.{Inside}
use Rattle.cal_transport.specs.Ledger.{Ledger}
use Rattle.cal_transport.specs.State.{TransportState, Represents, IsLinked}

abbrev pub state_of : Inside → TransportState
state_of t = record {
  settings = t.settings;
  memory_registry = t.memory_registry;
  memory = t.memory;
  view = t.view;
  connection_registry = t.connection_registry;
  sender = t.sender;
  receiver = t.receiver;
  entries = t.entries.items;
  lent = t.lent.items;
  transits = t.transits.items;
  owners = map vec_items t.owners.items;
  in_transit = t.in_transit;
  spare = vec_capacity t.entries - vec_len t.entries;
  spare_tables = vec_capacity t.owners - vec_len t.owners;
}

-- what every transport keeps: it stands for some ledger, and its parts belong together
pub record IsKept (t : Inside) : Type 0 where
  pub ledger : Ledger
  pub represents : Represents (state_of t) ledger
  pub linked : IsLinked (state_of t)
