-- Small registries of numbers, for the worked examples.
use Rattle.std.specs.Prelude.{ℕ, ◌-◌, ◌^◌, true, false, codes, List, [], ◌∷◌}
use Rattle.cal_storage.specs.declared.entry.Entry.{Entry}
use Rattle.cal_storage.specs.declared.entry.Slot.TheVariants.{Kept}
use Rattle.cal_storage.specs.Changes.{Change, creates, opens, removes, closes, after_all}
use Rattle.cal_storage.specs.Contents.{Contents, Handle, nothing_registered}

abbrev pub some_path : List ℕ
some_path = codes "/tmp/iox2_numbers.dyn"

-- the version of a finished entry
abbrev pub whole : ℕ
whole = 9003

-- the first entry that is made, by its owner and by another
abbrev pub owner : Handle
owner = record { id = 0; path = some_path; is_owner = true }

abbrev pub guest : Handle
guest = record { id = 0; path = some_path; is_owner = false }

-- an entry with a value and a number of holders
abbrev pub number : ℕ → ℕ → Entry ℕ
number value holders = record { path = some_path; value = value; version = whole; holders = holders }

-- what a new registry has after a run
abbrev pub after_run : List (Change ℕ) → Contents ℕ
after_run changes = after_all nothing_registered changes

-- one makes an entry
abbrev pub made : List (Change ℕ)
made = creates some_path 444 whole ∷ []

-- one makes an entry, its name is removed, and another makes an entry under it
abbrev pub made_anew : List (Change ℕ)
made_anew = creates some_path 444 whole ∷ removes some_path ∷ creates some_path 873 whole ∷ []

-- one makes an entry, another opens it, and its name is removed
abbrev pub held_by_two : List (Change ℕ)
held_by_two = creates some_path 444 whole ∷ opens 0 ∷ removes some_path ∷ []

-- one begins an entry
abbrev pub begun : List (Change ℕ)
begun = creates some_path 444 0 ∷ []

-- one begins an entry, its name is removed, and another makes an entry under it
abbrev pub begun_and_made_anew : List (Change ℕ)
begun_and_made_anew = creates some_path 444 0 ∷ removes some_path ∷ creates some_path 873 whole ∷ []

-- one makes an entry, another opens it, the first gives up its ownership, and both close
abbrev pub closed_by_guests : List (Change ℕ)
closed_by_guests = creates some_path 873 whole ∷ opens 0 ∷ closes guest ∷ closes guest ∷ []

-- an entry with no name, whose count of holders has reached the greatest number
abbrev pub full : Contents ℕ
full = record { names = []; slots = Kept (number 444 (2 ^ 64 - 1)) ∷ [] }
