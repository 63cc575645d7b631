-- What a contract says of an initializer, which is shown a value that is to be stored, and an allocator over the room
-- beside it.
use Rattle.std.specs.Prelude.{◌≡◌, ℕ, Bool, true}
use Rattle.std.specs.Fn.{Mut, Called}
use Rattle.std.specs.Borrow.{MutBor}
use Rattle.cal_alloc.specs.Bump.{Bump, new_bump}
use Rattle.cal_alloc.specs.Limits.{max_memory_alignment}

-- the allocator that an initializer is shown: nothing of its room is taken, and `init` has answered Ok
abbrev pub fresh_allocator : ℕ → Bump
fresh_allocator room = record (new_bump max_memory_alignment room) { is_ready = true }

-- the calls of an initializer of type F: it takes a value and an allocator, and answers a test
abbrev pub Calls : Type 0 → Type 0 → Type 1
Calls F T = Mut F (MutBor T × (MutBor Bump × Unit {0})) (Bool × (MutBor T × (MutBor Bump × Unit {0})))

module _ {F T : Type 0} (calls : Calls F T) where
  -- an initializer may be called on this value and that much room
  abbrev pub MayInitialize : F → T → ℕ → Type 0
  MayInitialize initializer value room =
      (shown : MutBor T) (allocator : MutBor Bump) → shown.now ≡ value → allocator.now ≡ fresh_allocator room →
      calls.pre initializer (shown, (allocator, tt))

  -- an initializer that was called so left that value, and answered this
  pub record Initializes (initializer : F) (value : T) (room : ℕ) (left : T) (answer : Bool) : Type 0 where
    pub shown : MutBor T
    pub allocator : MutBor Bump
    pub shows : shown.now ≡ value
    pub fresh : allocator.now ≡ fresh_allocator room
    pub after : MutBor T
    pub allocator_after : MutBor Bump
    pub initializer_after : F
    pub called : Called calls initializer (shown, (allocator, tt)) (answer, (after, (allocator_after, tt)))
        initializer_after
    pub leaves : after.now ≡ left
