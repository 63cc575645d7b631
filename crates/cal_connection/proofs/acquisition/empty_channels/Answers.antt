use Rattle.std.proofs.Common.{arith}
use Rattle.cal_connection.specs.Channel.{after_acquire}
use Rattle.cal_connection.specs.Port.{no_channel}
use Rattle.cal_connection.proofs.Changed.{map-from_IsChangedBelow}
use Rattle.cal_connection.proofs.acquisition.empty_channels.Goals as goal

pub returns : goal.returns
returns c = record {
  emptied = map-from_IsChangedBelow after_acquire no_channel c.args.channels.now.items c.loop-index.channels.items
      c.loop-index.index (omega arith) c.loop-index.invariant.so_far;
}
