use Rattle.std.proofs.Common.{◌<◌}
use Rattle.cal_resizable.specs.Slots.{segment_at}
use Rattle.cal_resizable.proofs.KeepingLemmas.{some_and}
use Rattle.cal_resizable.proofs.TogetherLemmas.{arrived_values, given_back_values}
use Rattle.cal_resizable.proofs.together_laws.a_view_leaves_the_segments.Goals as goal

pub returns : goal.returns
returns g c = record {
  arrived = λ contents memory view number other both active.
      arrived_values contents memory view number both active other;
  given_back = λ contents memory view number other both registered.
      let is = some_and (λ held. 0 < held.count) (segment_at view.slots number) registered in
      given_back_values contents memory view number both is.0 is.1 other;
}
