-- What a view has mapped after an offset arrives or is given back, by the numbers of segments.
use Rattle.std.specs.Prelude.{ℕ, ◌+◌, ◌-◌, Bool, true, not, ◌==◌, nat_lt, Option, Some, None, is_some, option_map, if◌then◌else◌}

-- a number is the one that is told, if one is
abbrev pub is_told : Option ℕ → ℕ → Bool
is_told None number = not true
is_told (Some other) number = other == number

-- a segment that is mapped only while an offset is registered in it
abbrev pub while_counted : Option ℕ → Option ℕ
while_counted None = None
while_counted (Some count) = if nat_lt 0 count then Some count else None

-- an offset of a segment arrives: one more is registered there. Where the segment isn't mapped it is opened, and the
-- one that was opened last before is unmapped where no offset is registered in it.
abbrev pub opened_after_arrival : Option ℕ → (ℕ → Option ℕ) → ℕ → Option ℕ
opened_after_arrival last mapped segment = if is_some (mapped segment) then last else Some segment

abbrev pub mapped_after_arrival : Option ℕ → (ℕ → Option ℕ) → ℕ → ℕ → Option ℕ
mapped_after_arrival last mapped segment other =
    if is_some (mapped segment)
    then (if other == segment then option_map (λ count. count + 1) (mapped other) else mapped other)
    else if other == segment then Some 1
    else if is_told last other then while_counted (mapped other)
    else mapped other

-- an offset of a segment is given back: it is unmapped where that was the last one, unless it was opened last
abbrev pub mapped_after_return : Option ℕ → (ℕ → Option ℕ) → ℕ → ℕ → Option ℕ
mapped_after_return last mapped segment other =
    if other == segment then (if is_told last segment then option_map (λ count. count - 1) (mapped segment)
    else while_counted (option_map (λ count. count - 1) (mapped segment)))
    else mapped other
