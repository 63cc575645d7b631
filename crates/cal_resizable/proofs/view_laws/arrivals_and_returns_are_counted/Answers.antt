use Rattle.std.proofs.Common.{◌<◌}
use Rattle.cal_resizable.specs.Slots.{segment_at}
use Rattle.cal_resizable.proofs.CountLemmas.{count-arrived, count-arrived-other, found-arrived, count-returned, count-returned-other}
use Rattle.cal_resizable.proofs.KeepingLemmas.{some_and}
use Rattle.cal_resizable.proofs.view_laws.arrivals_and_returns_are_counted.Goals as goal

pub returns : goal.returns
returns g c = record {
  arrived = λ checks contents view number is small not_refused.
      count-arrived contents view number is small (found-arrived checks contents view number not_refused);
  arrived_elsewhere = λ contents view number other apart. count-arrived-other contents view number other apart;
  returned = λ view number registered.
      let is = some_and (λ held. 0 < held.count) (segment_at view.slots number) registered in
      count-returned view number is.0 is.1 is.2;
  returned_elsewhere = λ view number other apart. count-returned-other view number other apart;
}
