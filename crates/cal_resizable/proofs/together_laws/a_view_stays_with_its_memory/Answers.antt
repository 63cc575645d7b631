use Rattle.std.proofs.Common.{◌<◌}
use Rattle.cal_resizable.specs.Slots.{segment_at}
use Rattle.cal_resizable.proofs.KeepingLemmas.{some_and}
use Rattle.cal_resizable.proofs.TogetherLemmas.{arrived_together, given_back_together}
use Rattle.cal_resizable.proofs.together_laws.a_view_stays_with_its_memory.Goals as goal

pub returns : goal.returns
returns g c = record {
  arrived = λ contents memory view number both active. arrived_together contents memory view number both active;
  given_back = λ contents memory view number both registered.
      let is = some_and (λ held. 0 < held.count) (segment_at view.slots number) registered in
      given_back_together contents memory view number both is.0 is.1;
}
