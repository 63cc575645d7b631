use Rattle.std.proofs.Common.{◌≡◌, List, ℕ, Some, sym, ap, ◌∙◌}
use Rattle.cal_transport.specs.declared.command.Command.{Command}
use Rattle.cal_program.specs.Script.{command_of}
use Rattle.cal_program.proofs.ScriptLemmas.{completes, completes-more}
use Rattle.cal_program.proofs.script.commands.Goals as goal

pub loop-line-preserved : goal.loop-line-preserved
loop-line-preserved c =
    let front = c.loop-line.commands.items in
    let found : command_of c.in-Some.line.now ≡ Some c.in-Some-found.command = sym c.in-Ok.ensures
    ∙ c.in-Some-found.is in
    ap (λ (items : List Command). completes items c.next_line.new.self) c.in-Ok-push.ensures.items
    ∙ sym (completes-more front c.in-Some-found.command c.in-Some.line.now c.next_line.new.self found)
    ∙ ap (λ (lines : List (List ℕ)). completes front lines) (sym c.in-Some.ensures)
    ∙ c.loop-line.invariant
