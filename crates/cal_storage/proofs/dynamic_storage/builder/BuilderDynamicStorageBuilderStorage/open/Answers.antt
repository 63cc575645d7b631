use Rattle.std.proofs.Common.{refl, false}
use Rattle.cal_storage.specs.HoldingLemmas.{after_opening-Holds}
use Rattle.cal_storage.proofs.dynamic_storage.builder.BuilderDynamicStorageBuilderStorage.open.Goals as goal

pub returns-clause-holds : goal.returns-clause-holds
returns-clause-holds g c =
    after_opening-Holds c.args.reg.now c.open.new.self c.in_ok-id.ensures.sound c.in-Ok.path
    (record { id = c.in_ok-id.id; path = c.in-Ok.path; is_owner = false })
    c.in_ok-id.ensures.id c.in_ok-id.ensures.opened refl
