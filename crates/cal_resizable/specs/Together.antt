-- A growing memory and a view of it over one registry.
use Rattle.std.specs.Prelude.{◌≡◌, ℕ, ◌<◌, ◌≤◌, Some, None}
use Rattle.cal_storage.specs.declared.entry.Entry.{Entry}
use Rattle.cal_storage.specs.Contents.{Contents, id_at, entry_of}
use Rattle.cal_storage.specs.Holding.{Holds}
use Rattle.cal_storage.specs.Refusals.{finished_version}
use Rattle.cal_resizable.specs.Memory.{MemoryState, IsSoundMemory, HasAll, HoldsAll, NamesAll, segment_path}
use Rattle.cal_resizable.specs.Slots.{Slots, HeldSegment, segment_at, EachHeld}
use Rattle.cal_resizable.specs.View.{View, IsView, HasView}

module _ {T : Type 0} where
  -- each entry of a registry is finished
  abbrev pub AllFinished : Contents T → Type 0
  AllFinished contents =
      (id : ℕ) (entry : Entry T) → entry_of contents id ≡ Some entry → entry.version ≡ finished_version

  -- A segment that a memory and a view both have under a number is the same entry, which both of them hold.
  abbrev pub ShareSegments : Contents T → Slots → Slots → Type 0
  ShareSegments contents ours theirs =
      (number : ℕ) (one other : HeldSegment) → segment_at ours number ≡ Some one →
      segment_at theirs number ≡ Some other → (other.handle.id ≡ one.handle.id) × Holds contents 2 one.handle

  -- no path of a segment that is still to come stands for anything
  abbrev pub NoneLater : Contents T → MemoryState → Type 0
  NoneLater contents memory =
      (number : ℕ) → memory.current < number → number < 256 →
      id_at contents (segment_path memory.settings memory.name number) ≡ None

  -- The registry has the entries of a memory, which no view has opened yet. It counts a holder for each, and their
  -- paths stand for them. Every entry is finished, and no path of a segment that is still to come stands for anything.
  pub record IsAlone (contents : Contents T) (memory : MemoryState) : Type 0 where
    pub sound : IsSoundMemory memory
    pub has : HasAll contents memory
    pub holds : HoldsAll contents memory
    pub names : NamesAll contents memory
    pub finished : AllFinished contents
    pub later : NoneLater contents memory

  -- The registry has the entries of a memory and of a view of it. It counts a holder for each of the memory's, and the
  -- paths of these stand for them; what both have they share. Every entry is finished. No path of a segment that is
  -- still to come stands for anything, and the view has none.
  pub record AreTogether (contents : Contents T) (memory : MemoryState) (view : View) : Type 0 where
    pub memory_sound : IsSoundMemory memory
    pub view_sound : IsView view
    pub name : view.name ≡ memory.name
    pub settings : view.settings ≡ memory.settings
    pub has_memory : HasAll contents memory
    pub has_view : HasView contents view
    pub holds : HoldsAll contents memory
    pub names : NamesAll contents memory
    pub finished : AllFinished contents
    pub share : ShareSegments contents memory.slots view.slots
    pub later : NoneLater contents memory
    pub mapped : EachHeld view.slots (λ number held. number ≤ memory.current)
