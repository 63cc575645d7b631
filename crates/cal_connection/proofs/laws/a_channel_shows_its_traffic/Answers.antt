use Rattle.cal_connection.specs.TrafficLemmas.{Shows-new, Shows-calls}
use Rattle.cal_connection.proofs.laws.a_channel_shows_its_traffic.Goals as goal

pub returns : goal.returns
returns c = record { new = Shows-new; kept = Shows-calls }
