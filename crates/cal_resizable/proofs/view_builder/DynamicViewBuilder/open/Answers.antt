use Rattle.std.proofs.Common.{sym, subst}
use Rattle.cal_resizable.proofs.ViewOpenLemmas.{managed_is, new-HasView}
use Rattle.cal_storage.specs.Holding.{JoinsHandles}
use Rattle.cal_resizable.proofs.view_builder.DynamicViewBuilder.open.Goals as goal

pub new-requires-in-Ok-open-clause-managed : goal.new-requires-in-Ok-open-clause-managed
new-requires-in-Ok-open-clause-managed g c =
    (managed_is c.self.inside.name c.in-Some.name (sym c.in-Some.ensures.name)).0

pub returns-in-Ok-open-clause-has : goal.returns-in-Ok-open-clause-has
returns-in-Ok-open-clause-has g c =
    new-HasView c.open.new.reg c.new-in-Ok-open.result _ _ (g.Shm.PayloadHolder.handle c.in-Ok-open.management)
    c.new-in-Ok-open.ensures.view c.new-in-Ok-open.ensures.handle c.in-Ok-open.ensures.holds.0

pub returns-in-Ok-open-clause-joins : goal.returns-in-Ok-open-clause-joins
returns-in-Ok-open-clause-joins g c =
    subst (JoinsHandles c.args.reg.now c.open.new.reg) (sym c.new-in-Ok-open.ensures.handle) c.in-Ok-open.ensures.joins
