-- What the program says of itself, beside its runs.
use Rattle.std.specs.Prelude.{ℕ, if◌then◌else◌, List, Option, Some, None, codes}
use Rattle.cal_program.specs.Words.{is_only_word}

-- the one word asks for the help or for the version
abbrev pub information_of : List ℕ → List ℕ → List (List ℕ) → Option (List ℕ)
information_of help version words =
    if is_only_word (codes "--help") words then Some help
    else if is_only_word (codes "--version") words then Some version
    else None
