use Rattle.std.proofs.Common.{◌≡◌, Some, None, is_some, sym, ap, ◌∙◌}
use Rattle.cal_alloc.specs.Pool.{Pool}
use Rattle.cal_shm.specs.Segment.{Segment}
use Rattle.cal_resizable.specs.Growth.{next_number_of_buckets}
use Rattle.cal_transport.proofs.Segments.{of_shown}
use Rattle.cal_transport.proofs.transport.loaning.next_owners.Goals as goal

pub next_number_of_buckets-requires : goal.next_number_of_buckets-requires
next_number_of_buckets-requires c = record { has = c.requires.has }

pub returns-in-None : goal.returns-in-None
returns-in-None c = record {
  table = λ segment is. sym (of_shown c.args.reg.now c.args.memory.now.slots c.args.memory.now.current
      (λ (s : Segment Pool). None ≡ next_number_of_buckets c.args.memory.now.strategy c.args.memory.now.current
      c.args.layout s.allocator) segment c.in-None.ensures.number is);
}

pub returns-in-Ok : goal.returns-in-Ok
returns-in-Ok c = record {
  table = λ segment is. sym (of_shown c.args.reg.now c.args.memory.now.slots c.args.memory.now.current
      (λ (s : Segment Pool). Some c.in-Some.count ≡ next_number_of_buckets c.args.memory.now.strategy
      c.args.memory.now.current c.args.layout s.allocator) segment c.in-Some.ensures.number is)
      ∙ ap Some (sym c.in-Ok.ensures.len ∙ c.in-Ok.table.ok.0);
}

pub returns-in-Err : goal.returns-in-Err
returns-in-Err c = record {
  table = λ segment is. ap is_some (sym (of_shown c.args.reg.now c.args.memory.now.slots c.args.memory.now.current
      (λ (s : Segment Pool). Some c.in-Some.count ≡ next_number_of_buckets c.args.memory.now.strategy
      c.args.memory.now.current c.args.layout s.allocator) segment c.in-Some.ensures.number is));
}
