use Rattle.std.proofs.Common.{ap, ◌∙◌}
use Rattle.std.proofs.lemmas.Bool.{cond-false}
use Rattle.cal_connection.specs.Calls.{side_at, with_side, called_channel, is_suited}
use Rattle.cal_connection.proofs.BothEnds.{with_side-present}
use Rattle.cal_connection.proofs.Suited.{unsuited, unsuited_only, unsuited_always}
use Rattle.cal_connection.proofs.call_laws.a_call_is_unsuited_where_its_condition_fails.Goals as goal

pub returns : goal.returns
returns c = record {
  unsuited = λ ends call. (unsuited_only ends call, unsuited_always ends call);
  unchanged = λ ends call apart.
      ap (with_side ends (called_channel call))
      (cond-false (is_suited ends call) _ (side_at ends (called_channel call)) (unsuited ends call apart))
      ∙ with_side-present ends (called_channel call);
}
