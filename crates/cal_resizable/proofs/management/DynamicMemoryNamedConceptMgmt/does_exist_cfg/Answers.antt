use Rattle.std.proofs.Common.{Ok, sym, ap, ◌∙◌}
use Rattle.std.specs.Map.{keys_of}
use Rattle.cal_resizable.proofs.ManagementLemmas.{exists-whole, exists-nowhere}
use Rattle.cal_resizable.proofs.management.DynamicMemoryNamedConceptMgmt.does_exist_cfg.Goals as goal

pub returns-in-Some : goal.returns-in-Some
returns-in-Some g c = record {
  found = c.has_segment.ensures.found
      ∙ ap (λ found. Ok found) (exists-whole (g.Shm.Configuration.NamedConceptConfiguration.settings c.args.cfg.now)
      c.args.name.now c.as_bytes-bytes.ensures.rule c.in-Some.segment
      (sym c.management_segment_name.ensures.name ∙ c.in-Some.is) (keys_of c.args.reg.now.names));
}

pub returns-in-None : goal.returns-in-None
returns-in-None g c = record {
  found = ap (λ found. Ok found)
      (sym (exists-nowhere (g.Shm.Configuration.NamedConceptConfiguration.settings c.args.cfg.now) c.args.name.now
      c.as_bytes-bytes.ensures.rule (sym c.management_segment_name.ensures.name ∙ c.in-None.is)
      (keys_of c.args.reg.now.names)));
}
