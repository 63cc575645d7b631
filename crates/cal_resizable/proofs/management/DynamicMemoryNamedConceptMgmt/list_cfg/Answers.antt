use Rattle.std.proofs.Common.{ap, ◌∙◌}
use Rattle.std.specs.List.{filter_map}
use Rattle.std.specs.Map.{keys_of}
use Rattle.cal_resizable.specs.SegmentNames.{managed_name}
use Rattle.cal_resizable.proofs.ManagementLemmas.{listed-whole}
use Rattle.cal_resizable.proofs.management.DynamicMemoryNamedConceptMgmt.list_cfg.Goals as goal

pub returns-in-Ok-memories_of-clause-names : goal.returns-in-Ok-memories_of-clause-names
returns-in-Ok-memories_of-clause-names g c =
    c.in-Ok-memories_of.ensures.names ∙ ap (filter_map managed_name) (c.as_slice.ensures.value ∙ c.in-Ok.ensures.names)
    ∙ listed-whole (g.Shm.Configuration.NamedConceptConfiguration.settings c.args.cfg.now)
    (keys_of c.args.reg.now.names)
