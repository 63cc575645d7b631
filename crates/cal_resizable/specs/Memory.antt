-- What a growing memory has, and what every one keeps.
use Rattle.std.specs.Prelude.{◌≡◌, ◌≢◌, ℕ, ◌<◌, ◌≤◌, true, false, IsSome, List, ◌++◌, length, codes}
use Rattle.cal_alloc.specs.declared.allocation_strategy.AllocationStrategy.{AllocationStrategy}
use Rattle.cal_names.specs.ConceptSettings.{ConceptSettings, file_path_for}
use Rattle.cal_names.specs.FileName.{IsFileName}
use Rattle.cal_storage.specs.Contents.{Contents, Has}
use Rattle.cal_storage.specs.Holding.{Holds, IsNamed}
use Rattle.cal_storage.specs.Refusals.{is_too_long}
use Rattle.cal_resizable.specs.SegmentNames.{number_end}
use Rattle.cal_resizable.specs.Slots.{Handle, Slots, HeldSegment, segment_at, AreApart, EachHeld, EachHandle}

-- the name, what makes the paths of the segments, how the memory grows, the handle of the management segment, the
-- number of the current segment, and the active segments, each counted once for each chunk of it that is out
pub record MemoryState : Type 0 where
  pub name : List ℕ
  pub settings : ConceptSettings
  pub strategy : AllocationStrategy
  pub management : Handle
  pub current : ℕ
  pub slots : Slots

-- the path of the segment of a number, and of the management segment
abbrev pub segment_path : ConceptSettings → List ℕ → ℕ → List ℕ
segment_path settings name number = file_path_for settings (name ++ number_end number)

abbrev pub management_path : ConceptSettings → List ℕ → List ℕ
management_path settings name = file_path_for settings (name ++ codes "__mgmt")

-- An active segment of that number, of a memory with these settings, this name, this management segment and this
-- current number: no later segment is active, an earlier one has a chunk, the memory owns it, it has the path of its
-- number, and it isn't the management segment.
pub record IsActive (settings : ConceptSettings) (name : List ℕ) (management current number : ℕ) (held : HeldSegment) :
    Type 0 where
  pub not_later : number ≤ current
  pub used : number ≢ current → 0 < held.count
  pub owner : held.handle.is_owner ≡ true
  pub path : held.handle.path ≡ segment_path settings name number
  pub apart : held.handle.id ≢ management

-- What every growing memory keeps. The active segments are the current one and those with a chunk, no number is above
-- the current one's, and no two segments are the same entry. The memory owns each of them, and each has the path of its
-- number.
pub record IsSoundMemory (memory : MemoryState) : Type 0 where
  pub places : length memory.slots ≡ 256
  pub below : memory.current < 256
  pub current : IsSome (segment_at memory.slots memory.current)
  pub active : EachHeld memory.slots
      (IsActive memory.settings memory.name memory.management.id memory.current)
  pub apart : AreApart memory.slots
  pub owner : memory.management.is_owner ≡ true
  pub path : memory.management.path ≡ management_path memory.settings memory.name
  pub name : IsFileName (memory.name ++ codes "__mgmt")
  pub fits : is_too_long memory.settings (memory.name ++ codes "__mgmt") ≡ false

module _ {T : Type 0} where
  -- a registry has the entries of a memory: of its management segment and of each active one
  abbrev pub HasAll : Contents T → MemoryState → Type 0
  HasAll contents memory = EachHandle memory.management memory.slots (Has contents)

  -- and counts a holder for each of them at least
  abbrev pub HoldsAll : Contents T → MemoryState → Type 0
  HoldsAll contents memory = EachHandle memory.management memory.slots (Holds contents 1)

  -- and the paths of all of them stand for them
  abbrev pub NamesAll : Contents T → MemoryState → Type 0
  NamesAll contents memory = EachHandle memory.management memory.slots (IsNamed contents)

  -- What a call leaves of the memory's own entries: the registry has those of the memory as it is then, and where it
  -- counted a holder for each of them, or all paths stood for them, so it is after the call.
  pub record KeepsOwn (old : Contents T) (before : MemoryState) (new : Contents T) (after : MemoryState) : Type 0 where
    pub has : HasAll new after
    pub holds : HoldsAll old before → HoldsAll new after
    pub names : NamesAll old before → NamesAll new after
