use Rattle.std.proofs.Common.{ℕ, ap, ◌∙◌}
use Rattle.cal_connection.specs.Words.{has_hint}
use Rattle.cal_shared.proofs.Answered.{AtWords-computed}
use Rattle.cal_shared.proofs.shared_port.SharedPort.has_disconnect_hint.Goals as goal

pub returns-clause-loaded : goal.returns-clause-loaded
returns-clause-loaded g c =
    AtWords-computed _ c.channel_state.result (λ (word : ℕ). has_hint word c.args.state) _ _ _
    c.channel_state.ensures.loaded
    (c.has_hint.ensures.value ∙ ap (λ (state : ℕ). has_hint c.channel_state.result state) c.value.ensures.value)
