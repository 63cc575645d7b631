use Rattle.cal_resizable.proofs.ViewOpenLemmas.{new-IsView}
use Rattle.cal_resizable.proofs.view.DynamicView.new.Goals as goal

pub invariant_of-result : goal.invariant_of-result
invariant_of-result g c =
    new-IsView c.args.name (g.Shm.Configuration.NamedConceptConfiguration.settings c.args.config)
    (g.Shm.PayloadHolder.handle c.args.management) c.args.segments c.as_bytes-bytes.ensures.rule c.requires.managed
    c.requires.fits c.requires.handle c.requires.empty
