use Rattle.std.proofs.Common.{◌-◌, ◌≤◌, map, vec_items, vec_len, vec_capacity, refl, sym, subst, arith}
use Rattle.cal_transport.specs.Ledger.{first_ledger}
use Rattle.cal_transport.specs.Opening.{CanOpen}
use Rattle.cal_transport.specs.State.{TransportState}
use Rattle.cal_transport.proofs.Standing.{stands_first}
use Rattle.cal_transport.proofs.Openable.{can_open}
use Rattle.cal_transport.proofs.NewTransport.{IsNewState, linked, represents_first}
use Rattle.cal_transport.proofs.transport.Transport.make.Goals as goal

pub lent_lists-requires : goal.lent_lists-requires
lent_lists-requires c = record {
  can = subst CanOpen (sym c.clamped-settings.ensures.value) (can_open c.args.settings.now c.requires.made);
}

pub new_memory-requires-clause-can : goal.new_memory-requires-clause-can
new_memory-requires-clause-can c =
    subst CanOpen (sym c.clamped-settings.ensures.value) (can_open c.args.settings.now c.requires.made)

pub new_memory-requires-clause-new : goal.new_memory-requires-clause-new
new_memory-requires-clause-new c = c.new-memory_registry.ensures.empty

pub new_view-requires : goal.new_view-requires
new_view-requires c = record { alone = c.in_ok-memory.ensures.made }

pub new_ports-requires-clause-new : goal.new_ports-requires-clause-new
new_ports-requires-clause-new c = c.new-connection_registry.ensures.empty

pub new_ports-requires-clause-can : goal.new_ports-requires-clause-can
new_ports-requires-clause-can c =
    subst CanOpen (sym c.clamped-settings.ensures.value) (can_open c.args.settings.now c.requires.made)

pub invariant_of-result : goal.invariant_of-result
invariant_of-result c =
    let t : TransportState = record {
      settings = c.clamped-settings.result;
      memory_registry = c.new_view.new.reg;
      memory = c.in_ok-memory.memory;
      view = c.in_ok-view.view;
      connection_registry = c.new_ports.new.reg;
      sender = c.in_ok-ports.ports.0;
      receiver = c.in_ok-ports.ports.1;
      entries = c.in_ok-entries.entries.items;
      lent = c.in_ok-lent.lent.items;
      transits = c.in_ok-transits.transits.items;
      owners = map vec_items c.in_ok-owners.owners.items;
      in_transit = 0;
      spare = vec_capacity c.in_ok-entries.entries - vec_len c.in_ok-entries.entries;
      spare_tables = vec_capacity c.in_ok-owners.owners - vec_len c.in_ok-owners.owners;
    } in
    let new : IsNewState t = record {
      can = subst CanOpen (sym c.clamped-settings.ensures.value) (can_open c.args.settings.now c.requires.made);
      parts = c.in_ok-view.ensures.together;
      ports = c.in_ok-ports.ensures.made;
      lent = c.in_ok-lent.ensures.none;
      transits = c.in_ok-transits.ensures.items_if_clones_equal (λ y e. e);
      owners = c.in_ok-owners.ensures.first;
      tables = c.in_ok-owners.ensures.room;
      entries = c.in_ok-entries.ensures.items;
      in_transit = refl;
    } in
    record {
      ledger = first_ledger c.args.settings.now;
      represents = represents_first t new c.args.settings.now c.clamped-settings.ensures.value c.requires.made;
      linked = linked t new;
    }

pub returns-clause-first : goal.returns-clause-first
returns-clause-first c =
    let t : TransportState = record {
      settings = c.clamped-settings.result;
      memory_registry = c.new_view.new.reg;
      memory = c.in_ok-memory.memory;
      view = c.in_ok-view.view;
      connection_registry = c.new_ports.new.reg;
      sender = c.in_ok-ports.ports.0;
      receiver = c.in_ok-ports.ports.1;
      entries = c.in_ok-entries.entries.items;
      lent = c.in_ok-lent.lent.items;
      transits = c.in_ok-transits.transits.items;
      owners = map vec_items c.in_ok-owners.owners.items;
      in_transit = 0;
      spare = vec_capacity c.in_ok-entries.entries - vec_len c.in_ok-entries.entries;
      spare_tables = vec_capacity c.in_ok-owners.owners - vec_len c.in_ok-owners.owners;
    } in
    let new : IsNewState t = record {
      can = subst CanOpen (sym c.clamped-settings.ensures.value) (can_open c.args.settings.now c.requires.made);
      parts = c.in_ok-view.ensures.together;
      ports = c.in_ok-ports.ensures.made;
      lent = c.in_ok-lent.ensures.none;
      transits = c.in_ok-transits.ensures.items_if_clones_equal (λ y e. e);
      owners = c.in_ok-owners.ensures.first;
      tables = c.in_ok-owners.ensures.room;
      entries = c.in_ok-entries.ensures.items;
      in_transit = refl;
    } in
    stands_first t c.args.settings.now c.requires.made
    (represents_first t new c.args.settings.now c.clamped-settings.ensures.value c.requires.made)

pub returns-clause-none : goal.returns-clause-none
returns-clause-none c = c.in_ok-entries.ensures.items

pub returns-clause-nothing : goal.returns-clause-nothing
returns-clause-nothing c = refl

pub returns-clause-room : goal.returns-clause-room
returns-clause-room c =
    let room = c.in_ok-entries.ensures.capacity in let none = c.in_ok-entries.ensures.len in omega arith
