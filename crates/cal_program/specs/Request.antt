-- What the words of a command line ask for.
use Rattle.std.specs.Prelude.{ℕ, ◌≤◌, if◌then◌else◌, List, [], ◌∷◌, Option, Some, None, codes, bytes_eq}
use Rattle.cal_program.specs.declared.request.Request.{Request}
use Rattle.cal_program.specs.declared.request.Request.TheVariants.{Run, Make}
use Rattle.cal_program.specs.Words.{◌>>=◌, number_of, at_most}

-- a made run has at most this many rounds
abbrev pub rounds_limit : ℕ
rounds_limit = 10000

-- the word `run`
abbrev pub run_request : List ℕ → Option Request
run_request word = if bytes_eq word (codes "run") then Some Run else None

-- the two numbers of a made run
abbrev pub made_request : List ℕ → List ℕ → Option Request
made_request number rounds = do
  number ← number_of number
  rounds ← number_of rounds
  rounds ← at_most rounds_limit rounds
  Some (Make number rounds)

-- the word `make`, and two numbers
abbrev pub make_request : List ℕ → List ℕ → List ℕ → Option Request
make_request word number rounds =
    if bytes_eq word (codes "make") then made_request number rounds else None

-- what the words ask for, if they have a form
abbrev pub request_of : List (List ℕ) → Option Request
request_of (word ∷ []) = run_request word
request_of (word ∷ number ∷ rounds ∷ []) = make_request word number rounds
request_of words = None

-- what was asked for has few rounds, if it has some
abbrev pub HasFewRounds : Option Request → Type 0
HasFewRounds (Some (Make number rounds)) = rounds ≤ rounds_limit
HasFewRounds request = Unit {0}
