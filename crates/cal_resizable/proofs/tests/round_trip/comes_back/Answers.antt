use Rattle.std.proofs.Common.{arith}
use Rattle.cal_resizable.proofs.tests.round_trip.comes_back.Goals as goal

pub goes_there_and_back-requires-clause-view_room : goal.goes_there_and_back-requires-clause-view_room
goes_there_and_back-requires-clause-view_room g c = λ number. omega (arith, c.in_ok-view.ensures.none_registered number)
