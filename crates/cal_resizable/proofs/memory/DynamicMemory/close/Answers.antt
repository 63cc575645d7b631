use Rattle.cal_resizable.proofs.ClosingLemmas.{closing-memory, memory-leaves, memory-sharers}
use Rattle.cal_resizable.proofs.memory.DynamicMemory.close.Goals as goal

pub close_all-requires : goal.close_all-requires
close_all-requires g c =
    closing-memory c.args.reg.now c.close.new.reg _ _ c.self.view_is c.self.invariant c.requires.has
    c.close.ensures.keeps_others

pub returns-clause-leaves : goal.returns-clause-leaves
returns-clause-leaves g c =
    memory-leaves c.args.reg.now c.close.new.reg c.close_all.new.reg c.close.ensures.sound _ _ c.self.view_is
    c.self.invariant c.requires.has c.close.ensures.closed c.close_all.ensures.closed

pub returns-clause-sharers : goal.returns-clause-sharers
returns-clause-sharers g c =
    memory-sharers c.args.reg.now c.close.new.reg c.close_all.new.reg c.close.ensures.sound _ _ c.self.view_is
    c.self.invariant c.requires.has c.close.ensures.closed c.close_all.ensures.closed
