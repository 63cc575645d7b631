use Rattle.cal_connection.specs.RegistryLemmas.{with_channel_of-present}
use Rattle.cal_connection.proofs.laws.a_channel_that_stays_leaves_the_registry.Goals as goal

pub returns : goal.returns
returns c = record { unchanged = with_channel_of-present }
