use Rattle.cal_shared.proofs.Answered.{AtWords-computed}
use Rattle.cal_shared.proofs.shared_port.SharedPort.is_channel_closed.Goals as goal

pub returns-clause-loaded : goal.returns-clause-loaded
returns-clause-loaded g c =
    AtWords-computed _ c.channel_state.result _ _ _ _ c.channel_state.ensures.loaded c.is_closed.ensures.value
