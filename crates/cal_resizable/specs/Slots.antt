-- The segments that a growing memory or a view of one holds, by their numbers.
use Rattle.std.specs.Prelude.{◌≡◌, ◌≢◌, ℕ, ◌+◌, ◌-◌, ◌<◌, ◌^◌, ◌==◌, Option, Some, None, List, [], ◌∷◌, replicate, slice_index_or, slice_set, if◌then◌else◌}
pub use Rattle.cal_storage.specs.declared.handle.Handle.{Handle}
use Rattle.cal_storage.specs.Contents.{Contents, Has, after_close}
use Rattle.cal_storage.specs.Holding.{Holds, IsNamed}

-- a segment that is held: its handle, and how often it is counted
pub record HeldSegment : Type 0 where
  pub handle : Handle
  pub count : ℕ

-- a slot for each number
abbrev pub Slots : Type 0
Slots = List (Option HeldSegment)

-- so many slots, all empty
abbrev pub empty_slots : ℕ → Slots
empty_slots number = replicate number None

-- the segment of a number, if it is held
abbrev pub segment_at : Slots → ℕ → Option HeldSegment
segment_at slots number = slice_index_or slots number None

-- the id of the segment in a slot, 0 where there is none
abbrev pub id_in : Option HeldSegment → ℕ
id_in None = 0
id_in (Some held) = held.handle.id

abbrev pub id_at_slot : Slots → ℕ → ℕ
id_at_slot slots number = id_in (segment_at slots number)

-- how many segments a slot holds
abbrev pub number_in : Option HeldSegment → ℕ
number_in None = 0
number_in (Some held) = 1

-- how many segments are held
abbrev pub number_held : Slots → ℕ
number_held [] = 0
number_held (slot ∷ slots) = number_in slot + number_held slots

-- a slot whose segment, if there is one, is counted once more, and once less
abbrev pub counted_more : Option HeldSegment → Option HeldSegment
counted_more None = None
counted_more (Some segment) = Some (record segment { count = segment.count + 1 })

abbrev pub counted_less : Option HeldSegment → Option HeldSegment
counted_less None = None
counted_less (Some segment) = Some (record segment { count = segment.count - 1 })

-- the slots with the segment of a number counted once more, and once less
abbrev pub with_more : Slots → ℕ → Slots
with_more slots number = slice_set slots number (counted_more (segment_at slots number))

abbrev pub with_less : Slots → ℕ → Slots
with_less slots number = slice_set slots number (counted_less (segment_at slots number))

-- the slots with a segment, which isn't counted yet, under a number
abbrev pub with_segment : Slots → ℕ → Handle → Slots
with_segment slots number handle = slice_set slots number (Some (record { handle = handle; count = 0 }))

-- the slots without the segment of a number
abbrev pub without_segment : Slots → ℕ → Slots
without_segment slots number = slice_set slots number None

-- a fact of each segment that is held, by its number
abbrev pub EachHeld : Slots → (ℕ → HeldSegment → Type 0) → Type 0
EachHeld slots fact = (number : ℕ) (held : HeldSegment) → segment_at slots number ≡ Some held → fact number held

-- a fact of the handle of the management segment, and of that of each segment that is held
pub record EachHandle (management : Handle) (slots : Slots) (fact : Handle → Type 0) : Type 0 where
  pub of_management : fact management
  pub of_segments : EachHeld slots (λ number held. fact held.handle)

-- no two numbers hold the same entry
abbrev pub AreApart : Slots → Type 0
AreApart slots =
    (first second : ℕ) (one other : HeldSegment) → first ≢ second → segment_at slots first ≡ Some one →
    segment_at slots second ≡ Some other → one.handle.id ≢ other.handle.id

-- a handle isn't on the segment of a slot that is to be retired, since it isn't counted
abbrev pub IsSpared : Option HeldSegment → Handle → Type 0
IsSpared slot handle = (held : HeldSegment) → slot ≡ Some held → held.count ≡ 0 → handle.id ≢ held.handle.id

-- an id is that of a segment that is held
pub record IsHeldId (slots : Slots) (id : ℕ) : Type 0 where
  pub number : ℕ
  pub held : HeldSegment
  pub there : segment_at slots number ≡ Some held
  pub same : held.handle.id ≡ id

-- how often the segment of a slot is counted
abbrev pub count_in : Option HeldSegment → ℕ
count_in None = 0
count_in (Some held) = held.count

abbrev pub count_at : Slots → ℕ → ℕ
count_at slots number = count_in (segment_at slots number)

-- the slots without the segment of a number where it isn't counted
abbrev pub without_unused : Slots → ℕ → Slots
without_unused slots number = if count_at slots number == 0 then without_segment slots number else slots

module _ {T : Type 0} where
  -- a registry after the handle in a slot was closed where it isn't counted
  abbrev pub after_retiring : Contents T → Option HeldSegment → Contents T
  after_retiring contents None = contents
  after_retiring contents (Some held) = if held.count == 0 then after_close contents held.handle else contents

  -- An open handle still has its entry, no holder of it is lost, and its path still stands for it.
  pub record LeavesHandle (old new : Contents T) (handle : Handle) : Type 0 where
    pub has : Has old handle → Has new handle
    pub holds : (count : ℕ) → 0 < count → count < 2 ^ 64 → Holds old count handle → Holds new count handle
    pub named : IsNamed old handle → IsNamed new handle

  -- Every handle is left as it was, but for those on a segment that isn't held any more: of its holders one is lost, so
  -- every other open handle on it still has the entry.
  pub record SparesHandles (old new : Contents T) (before after : Slots) : Type 0 where
    pub others : (handle : Handle) → (IsHeldId before handle.id → IsHeldId after handle.id) →
        LeavesHandle old new handle
    pub sharers : (count : ℕ) (handle : Handle) → 0 < count → count + 1 < 2 ^ 64 →
        Holds old (count + 1) handle → Holds new count handle
