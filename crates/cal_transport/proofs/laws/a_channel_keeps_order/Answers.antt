-- What is told of a channel is sound.
use Rattle.cal_transport.proofs.Telling.{told_sound}
use Rattle.cal_transport.proofs.laws.a_channel_keeps_order.Goals as goal

pub returns : goal.returns
returns c = record {
  in_order = λ settings commands replies channel none steps.
      (told_sound settings commands replies channel none steps).in_order;
  once = λ settings commands replies channel none steps.
      (told_sound settings commands replies channel none steps).orderly;
  limits = λ settings commands replies channel none steps.
      (told_sound settings commands replies channel none steps).limits;
}
