use Rattle.cal_storage.specs.HoldingLemmas.{after_close-LeavesSharers}
use Rattle.cal_storage.proofs.dynamic_storage.storage.StorageDynamicStorage.close.Goals as goal

pub returns-clause-leaves_sharers : goal.returns-clause-leaves_sharers
returns-clause-leaves_sharers g c =
    after_close-LeavesSharers c.args.reg.now c.close.new.self c.close.ensures.sound c.args.self.handle c.requires
    c.close.ensures.closed
