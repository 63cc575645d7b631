-- The settings of a made script have no cause, so memory may run out while its commands are made.
use Rattle.std.proofs.Common.{refl, subst}
use Rattle.cal_program.specs.Script.{ParsedScript}
use Rattle.cal_program.specs.Outcome.{IsOutcomeOfScript}
use Rattle.cal_program.proofs.MadeLemmas.{made_settings-fine}
use Rattle.cal_program.proofs.run_program.outcome_of_made_script.Goals as goal

pub returns-in-Ok : goal.returns-in-Ok
returns-in-Ok c =
    let due = c.outcome_of_script.result in
    subst (λ (script : ParsedScript). IsOutcomeOfScript script due.status due.replies.items due.end)
    c.in-Ok.ensures.script c.outcome_of_script.ensures

pub returns-in-Err : goal.returns-in-Err
returns-in-Err c =
    rw (c.without_replies.ensures.status, c.without_replies.ensures.none, c.without_replies.ensures.nothing)
    (made_settings-fine, tt, refl)
