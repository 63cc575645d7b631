use Rattle.std.proofs.Common.{refl}
use Rattle.cal_storage.proofs.entry.Slot.finish.Goals as goal

pub returns-then-is_finished : goal.returns-then-is_finished
returns-then-is_finished g c =
    rw c.in-Kept.is (record {
      left = c.initialize-is_finished.new.value;
      initialized = c.initialize-is_finished.ensures;
      slot = rw c.if-is_finished.true refl;
    })

pub returns-else-is_finished : goal.returns-else-is_finished
returns-else-is_finished g c =
    rw c.in-Kept.is (record {
      left = c.initialize-is_finished.new.value;
      initialized = c.initialize-is_finished.ensures;
      slot = rw c.if-is_finished.false refl;
    })
