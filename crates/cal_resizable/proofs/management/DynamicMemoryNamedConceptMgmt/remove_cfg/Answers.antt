use Rattle.std.proofs.Common.{ap, ◌∙◌}
use Rattle.std.specs.List.{list_any}
use Rattle.std.specs.Map.{keys_of}
use Rattle.cal_storage.specs.Refusals.{after_name_removal}
use Rattle.cal_resizable.specs.Management.{belongs_to, after_removals, paths_without}
use Rattle.cal_resizable.proofs.ManagementLemmas.{found-whole, removals-whole}
use Rattle.cal_resizable.proofs.management.DynamicMemoryNamedConceptMgmt.remove_cfg.Goals as goal

pub returns-in-Ok-clause-found : goal.returns-in-Ok-clause-found
returns-in-Ok-clause-found g c =
    c.remove_all.ensures.found
    ∙ ap (list_any (belongs_to c.args.name.now)) (c.as_slice.ensures.value ∙ c.in-Ok.ensures.names)
    ∙ found-whole (g.Shm.Configuration.NamedConceptConfiguration.settings c.args.cfg.now) c.args.name.now
    (keys_of c.args.reg.now.names)

pub returns-in-Ok-clause-gone : goal.returns-in-Ok-clause-gone
returns-in-Ok-clause-gone g c =
    let settings = g.Shm.Configuration.NamedConceptConfiguration.settings c.args.cfg.now in
    c.remove_all.ensures.gone
    ∙ ap (λ listed. after_removals (paths_without settings) c.args.name.now listed (keys_of c.args.reg.now.names))
    (c.as_slice.ensures.value ∙ c.in-Ok.ensures.names)
    ∙ removals-whole settings c.args.name.now (keys_of c.args.reg.now.names)

pub returns-in-Ok-clause-registry : goal.returns-in-Ok-clause-registry
returns-in-Ok-clause-registry g c =
    let settings = g.Shm.Configuration.NamedConceptConfiguration.settings c.args.cfg.now in
    c.remove_all.ensures.removed
    ∙ ap (λ listed. after_removals (after_name_removal settings) c.args.name.now listed c.args.reg.now)
    (c.as_slice.ensures.value ∙ c.in-Ok.ensures.names)
