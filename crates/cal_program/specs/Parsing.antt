-- What a parser may answer: what the script says, the first bad line, or that memory ran out.
use Rattle.std.specs.Prelude.{◌≡◌, ℕ, List, Result, Ok, Err, Vec}
use Rattle.std.specs.declared.alloc.Global.{Global}
use Rattle.cal_transport.specs.declared.command.Command.{Command}
use Rattle.cal_program.specs.declared.script.ParseError.{ParseError}
use Rattle.cal_program.specs.declared.script.ParseError.TheVariants.{BadLine, NoMemory}
use Rattle.cal_program.specs.Script.{ParsedScript, script_of, commands_of}

abbrev pub Parses : List ℕ → Result ParsedScript ParseError → Type 0
Parses bytes (Ok script) = script_of bytes ≡ Ok script
Parses bytes (Err (BadLine number)) = script_of bytes ≡ Err number
Parses bytes (Err NoMemory) = Unit {0}

-- the same of the lines after the first
abbrev pub ParsesCommands : List (List ℕ) → Result (Vec Command Global) ParseError → Type 0
ParsesCommands lines (Ok commands) = commands_of 2 lines ≡ Ok commands.items
ParsesCommands lines (Err (BadLine number)) = commands_of 2 lines ≡ Err number
ParsesCommands lines (Err NoMemory) = Unit {0}
