-- The commands of lines, one after another.
use Rattle.std.proofs.Common.{◌≡◌, ℕ, ◌+◌, List, [], ◌∷◌, ◌++◌, length, Some, None, Result, Ok, Err, refl, sym, ap, ◌∙◌, append_assoc, arith}
use Rattle.std.proofs.lemmas.List.{length-append, append-nil}
use Rattle.cal_transport.specs.declared.command.Command.{Command}
use Rattle.cal_program.specs.Script.{command_of, commands_of, before_others}

-- commands before the others, unless one of them is bad
abbrev pub after_front : List Command → Result (List Command) ℕ → Result (List Command) ℕ
after_front front (Ok commands) = Ok (front ++ commands)
after_front front (Err line) = Err line

-- what the lines that are left complete
abbrev pub completes : List Command → List (List ℕ) → Result (List Command) ℕ
completes front lines = after_front front (commands_of (2 + length front) lines)

front-step : (front : List Command) (command : Command) (found : Result (List Command) ℕ) →
    after_front front (before_others command found) ≡ after_front (front ++ command ∷ []) found
front-step front command (Ok commands) = ap Ok (sym (append_assoc front (command ∷ []) commands))
front-step front command (Err line) = refl

pub completes-none : (lines : List (List ℕ)) → completes [] lines ≡ commands_of 2 lines
completes-none lines = elim (commands_of 2 lines) as (λ found. after_front [] found ≡ found)
    [ Ok commands ↦ refl | Err line ↦ refl ]

pub completes-more : (front : List Command) (command : Command) (line : List ℕ) (lines : List (List ℕ)) →
    command_of line ≡ Some command → completes front (line ∷ lines) ≡ completes (front ++ command ∷ []) lines
completes-more front command line lines e =
    rw e
    (front-step front command (commands_of (2 + length front + 1) lines)
    ∙ ap (λ (n : ℕ). after_front (front ++ command ∷ []) (commands_of n lines)) {x = 2 + length front + 1}
    {y = 2 + length (front ++ command ∷ [])}
    (omega (arith, length-append front (command ∷ []))))

pub completes-bad : (front : List Command) (line : List ℕ) (lines : List (List ℕ)) → command_of line ≡ None →
    completes front (line ∷ lines) ≡ Err (2 + length front)
completes-bad front line lines e = rw e refl

pub completes-all : (front : List Command) → completes front [] ≡ Ok front
completes-all front = ap Ok (append-nil front)
