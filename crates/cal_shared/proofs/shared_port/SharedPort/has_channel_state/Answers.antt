use Rattle.std.proofs.Common.{ℕ, ap, ◌∙◌}
use Rattle.cal_connection.specs.Words.{has_state}
use Rattle.cal_shared.proofs.Answered.{AtWords-computed}
use Rattle.cal_shared.proofs.shared_port.SharedPort.has_channel_state.Goals as goal

pub returns-clause-loaded : goal.returns-clause-loaded
returns-clause-loaded g c =
    AtWords-computed _ c.channel_state.result (λ (word : ℕ). has_state word c.args.state) _ _ _
    c.channel_state.ensures.loaded
    (c.has_state.ensures.value ∙ ap (λ (state : ℕ). has_state c.channel_state.result state) c.value.ensures.value)
