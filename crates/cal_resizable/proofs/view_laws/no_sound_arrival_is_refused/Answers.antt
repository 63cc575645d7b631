use Rattle.cal_resizable.proofs.ViewLawLemmas.{mapped_arrival, sound_arrival}
use Rattle.cal_resizable.proofs.view_laws.no_sound_arrival_is_refused.Goals as goal

pub returns : goal.returns
returns g c = record { mapped = mapped_arrival; sound = sound_arrival }
