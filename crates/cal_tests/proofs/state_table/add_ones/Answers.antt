use Rattle.std.proofs.Common.{arith, refl}
use Rattle.cal_tests.proofs.StepWrites.{adds-looked, adds-wrote, channels-kept, writes-looked, writes-wrote}
use Rattle.cal_tests.proofs.state_table.add_ones.Goals as goal

pub loop-preserved-in-Ok : goal.loop-preserved-in-Ok
loop-preserved-in-Ok g c = record {
  writes = writes-wrote _ _ _ _ _ _ c.in-Ok.ensures.won c.loop.invariant.writes;
  adds = adds-wrote _ _ _ _ c.loop.invariant.adds c.in-Ok.ensures.won refl;
  channel = channels-kept _ _ _ c.in-Ok.ensures.won c.loop.invariant.channel;
  within = omega arith;
}

pub loop-preserved : goal.loop-preserved
loop-preserved g c = record {
  writes = writes-looked _ _ _ _ _ c.in-Err.ensures.lost c.loop.invariant.writes;
  adds = adds-looked _ _ _ c.loop.invariant.adds c.in-Err.ensures.lost;
  channel = channels-kept _ _ _ c.in-Err.ensures.lost c.loop.invariant.channel;
  within = c.loop.invariant.within;
}
