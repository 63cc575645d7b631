use Rattle.std.proofs.lemmas.List.{get_or-set_other}
use Rattle.cal_connection.specs.Port.{no_channel}
use Rattle.cal_connection.proofs.laws.a_call_leaves_other_channels.Goals as goal

pub returns : goal.returns
returns c = record {
  others = λ port channel other changed apart.
      get_or-set_other port.channels channel other changed no_channel apart;
}
