-- Memory that is set up by a bump allocator's hint serves the layout that was asked for.
use Rattle.std.proofs.Common.{◌≡◌, ◌≢◌, ℕ, ◌+◌, ◌^◌, ◌<◌, ◌≤◌, Bool, true, false, nat_le, if◌then◌else◌, Some, None, refl, sym, ap, arith, ◌⊎◌, inl, inr}
use Rattle.std.specs.Int.{next_multiple_of}
use Rattle.std.proofs.lemmas.Bool.{cases_lt}
use Rattle.std.proofs.Math.Nat.{mod_self, zero-mod, sub-zero}
use Rattle.cal_alloc.specs.Bump.{Bump, bump_refusal}
use Rattle.cal_alloc.specs.Hints.{bump_hint, raised_payload}
use Rattle.cal_alloc.specs.SizeAndAlignment.{SizeAndAlignment}
use Rattle.cal_alloc.specs.declared.allocation_strategy.AllocationStrategy.{AllocationStrategy}
use Rattle.cal_alloc.specs.declared.allocation_strategy.AllocationStrategy.TheVariants.{BestFit, PowerOfTwo, Static}
use Rattle.cal_alloc.specs.declared.bump_allocator.Config.{Config}
use Rattle.cal_alloc.specs.declared.shm_allocator.SharedMemorySetupHint.{SharedMemorySetupHint}
use Rattle.cal_alloc.specs.declared.shm_allocator.ShmAllocationError.TheVariants.{SizeIsZero}
use Rattle.cal_alloc.proofs.Powers.{least_power_of_two-ge}

-- what isn't refused for its size isn't empty
pub not_empty : (bump : Bump) (layout : SizeAndAlignment) → layout.alignment ≤ 8 →
    bump_refusal bump layout ≢ Some SizeIsZero → 0 < layout.size
not_empty bump layout low asked = from (cases_lt 0 layout.size)
  where
    from : (0 < layout.size) ⊎ (layout.size ≤ 0) → 0 < layout.size
    from (inl some) = some
    from (inr none) = absurd (asked (grind arith))

-- the first chunk begins at 0
first_place : (alignment : ℕ) → next_multiple_of 0 alignment ≡ 0
first_place alignment = rw (zero-mod, sub-zero, mod_self) refl

-- a new bump allocator serves what isn't larger than its memory
pub new_bump-served : (total memory_alignment : ℕ) (layout : SizeAndAlignment) → layout.alignment ≤ 8 →
    0 < layout.size → layout.size ≤ total →
    bump_refusal (record { total = total; used = 0; memory_alignment = memory_alignment; is_ready = true }) layout ≡
    None
new_bump-served total memory_alignment layout low some within = let first = first_place layout.alignment in grind arith

-- a strategy that isn't static makes room
pub raised_payload-ge : (strategy : AllocationStrategy) (payload size : ℕ) → strategy ≢ Static →
    size ≤ raised_payload strategy payload size
raised_payload-ge BestFit payload size growing = omega arith
raised_payload-ge PowerOfTwo payload size growing = omega (arith, least_power_of_two-ge (payload + size))
raised_payload-ge Static payload size growing = absurd (growing refl)

-- a hint's payload is the size that it was made of
pub hint-payload : (size : ℕ) (hint : SharedMemorySetupHint Config) → bump_hint size ≡ Some hint →
    hint.payload_size ≡ size
hint-payload size hint given = from (nat_le size (2 ^ 56)) given
  where
    proposed : SharedMemorySetupHint Config
    proposed = record { payload_size = size; config = record {} }

    from : (in_range : Bool) → (if in_range then Some proposed else None) ≡ Some hint → hint.payload_size ≡ size
    from true e = let same : proposed ≡ hint = cc in
        sym (ap (λ (h : SharedMemorySetupHint Config). h.payload_size) same)
    from false e = absurd cc

-- so the allocator that is made by the hint serves the layout
pub bump_hint_serves : (bump : Bump) (layout : SizeAndAlignment) (size : ℕ) (hint : SharedMemorySetupHint Config) →
    layout.alignment ≤ 8 → bump_refusal bump layout ≢ Some SizeIsZero → layout.size ≤ size →
    bump_hint size ≡ Some hint → (memory_alignment : ℕ) →
    bump_refusal (record { total = hint.payload_size; used = 0; memory_alignment = memory_alignment; is_ready = true })
    layout ≡ None
bump_hint_serves bump layout size hint low asked within given memory_alignment =
    rw (hint-payload size hint given)
    (new_bump-served size memory_alignment layout low (not_empty bump layout low asked) within)
