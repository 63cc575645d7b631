-- The laws of allocators, at a bump allocator.
use Rattle.std.proofs.Common.{◌≡◌, ℕ, ◌+◌, ◌%◌, ◌<◌, ◌≤◌, IsTrue, nat_le, true, Some, None, refl, ap, ◌∙◌, arith, ◌⊎◌, inl, inr}
use Rattle.std.proofs.lemmas.Bool.{cases_lt}
use Rattle.cal_alloc.specs.Chunks.{chunk_size, IsInChunk, TakesChunk, IsNew, IsInitialized, IsAllocation, IsDeallocation}
use Rattle.std.specs.Int.{is_power_of_two}
use Rattle.std.proofs.lemmas.Nat.{pow_pos}
use Rattle.cal_alloc.specs.Multiples.{two_to, whole_multiple, next_multiple_of-multiple}
use Rattle.cal_alloc.specs.PointerOffset.{offset_of}
use Rattle.cal_alloc.specs.SizeAndAlignment.{SizeAndAlignment}
use Rattle.cal_alloc.specs.Bump.{Bump, IsSoundBump, new_bump, next_offset, bump_refusal, bump_properties, GivesNextOffset, IsBelowUsed, IsAllocatedBelowUsed, IsPaddingBefore}
use Rattle.cal_alloc.specs.declared.shm_allocator.ShmAllocationError.TheVariants.{SizeIsZero}
use Rattle.cal_alloc.specs.Limits.{max_memory_size}

-- ---- a new bump allocator

pub new_bump-IsNew : (memory_alignment memory_size : ℕ) →
    IsNew (bump_properties (new_bump memory_alignment memory_size))
    (IsBelowUsed (new_bump memory_alignment memory_size)) memory_alignment memory_size
new_bump-IsNew memory_alignment memory_size = record {
  total = omega arith;
  alignment = refl;
  not_ready = refl;
  free = λ byte below. omega arith;
}

-- to make a bump allocator ready leaves its used length
pub initialized_bump-IsInitialized : (old : Bump) →
    IsInitialized (bump_properties old) (bump_properties (record old { is_ready = true })) (IsBelowUsed old)
    (IsBelowUsed (record old { is_ready = true }))
initialized_bump-IsInitialized old = record { properties = refl; bytes = λ byte. (λ below. below, λ below. below) }

-- ---- a chunk that is given out

-- where a layout is served it isn't empty, and fits behind what is used
pub record Fits (bump : Bump) (layout : SizeAndAlignment) : Type 0 where
  pub not_empty : 0 < layout.size
  pub within : next_offset bump layout + layout.size ≤ bump.total

pub served-Fits : (bump : Bump) (layout : SizeAndAlignment) → bump_refusal bump layout ≡ None → Fits bump layout
served-Fits bump layout served = record { not_empty = grind arith; within = grind arith }

-- a chunk begins at its pointer, which isn't below what was used
pub given_start : (old : Bump) (layout : SizeAndAlignment) (pointer : ℕ) (new : Bump) →
    GivesNextOffset old layout pointer new →
    (offset_of pointer ≡ next_offset old layout) × (old.used ≤ next_offset old layout)
given_start old layout pointer new gives = let at_start = gives.at_start in (omega arith, omega arith)

-- and ends where the used bytes end then
pub given_end : (old : Bump) (layout : SizeAndAlignment) (pointer : ℕ) (new : Bump) →
    GivesNextOffset old layout pointer new → new.used ≡ next_offset old layout + layout.size
given_end old layout pointer new gives = ap (λ (bump : Bump). bump.used) gives.after

-- its bytes
pub given_bytes : (old : Bump) (layout : SizeAndAlignment) (pointer : ℕ) (new : Bump) →
    GivesNextOffset old layout pointer new →
    TakesChunk (IsBelowUsed old) (IsBelowUsed new) (IsPaddingBefore old pointer) pointer
    (chunk_size (bump_properties old) layout)
given_bytes old layout pointer new gives =
    let start = given_start old layout pointer new gives in
    let end = given_end old layout pointer new gives in
    record {
      was_free = λ byte inside below. omega (arith, start.0, start.1, inside.0, below);
      is_used_after = λ byte inside. omega (arith, start.0, end, inside.1);
      others_used = λ byte below. omega (arith, start.1, end, below);
      others_free = λ byte outside kept below. by_cases byte start.0 end outside kept below (cases_lt byte old.used)
          (cases_lt byte (offset_of pointer));
      padding_free = λ byte skipped below. omega (arith, skipped.0, below);
    }
  where
    by_cases : (byte : ℕ) → offset_of pointer ≡ next_offset old layout →
        new.used ≡ next_offset old layout + layout.size → ¬ IsInChunk pointer layout.size byte →
        ¬ IsPaddingBefore old pointer byte → byte < new.used → (byte < old.used) ⊎ (old.used ≤ byte) →
        (byte < offset_of pointer) ⊎ (offset_of pointer ≤ byte) → byte < old.used
    by_cases byte start end outside kept below (inl used) _ = used
    by_cases byte start end outside kept below (inr behind) (inl before) = absurd (kept (behind, before))
    by_cases byte start end outside kept below (inr behind) (inr from_start) =
        absurd (outside (from_start, omega (arith, start, end, below)))

pub GivesNextOffset-IsAllocation : (old : Bump) (layout : SizeAndAlignment) (pointer : ℕ) (new : Bump) →
    GivesNextOffset old layout pointer new →
    IsAllocation (bump_properties old) (bump_properties new) (IsBelowUsed old) (IsBelowUsed new)
    (IsAllocatedBelowUsed old) (IsAllocatedBelowUsed new) (IsPaddingBefore old pointer) layout pointer
GivesNextOffset-IsAllocation old layout pointer new gives =
    let start = given_start old layout pointer new gives in
    let end = given_end old layout pointer new gives in
    let fits = served-Fits old layout gives.served in
    record {
      properties = ap bump_properties gives.after;
      segment = rw gives.at_start (omega arith);
      within = omega (arith, start.0, fits.within);
      bytes = given_bytes old layout pointer new gives;
      out = omega (arith, start.0, end, fits.not_empty);
      others_allocated = λ other out. omega (arith, start.1, end, out);
    }

-- ---- a chunk that is given back

pub same-IsDeallocation : (old : Bump) (pointer : ℕ) (new : Bump) → new ≡ old →
    IsDeallocation (bump_properties old) (bump_properties new) (IsBelowUsed old) (IsBelowUsed new)
    (IsAllocatedBelowUsed old) (IsAllocatedBelowUsed new) pointer
same-IsDeallocation old pointer new same = record {
  properties = ap bump_properties same;
  bytes = λ layout. record {
    others_used = λ byte outside below. rw same below;
    no_more = λ byte below.
        rw same at below;
  };
  others_allocated = λ other apart out. rw same out;
}

-- ---- refusals

-- a chunk that is given for a layout is as large
pub bump_served : (old : Bump) (layout : SizeAndAlignment) → bump_refusal old layout ≡ None →
    layout.size ≤ chunk_size (bump_properties old) layout
bump_served old layout served = omega arith

-- where a layout is refused for being empty, it is
pub bump_refused_empty : (old : Bump) (layout : SizeAndAlignment) → bump_refusal old layout ≡ Some SizeIsZero →
    layout.size ≡ 0
bump_refused_empty old layout refused = grind arith

-- ---- where used bytes lie, and alignments

-- a used byte is below the total
pub bump_used_below_total : (old : Bump) (byte : ℕ) → IsSoundBump old → IsBelowUsed old byte →
    byte < (bump_properties old).total
bump_used_below_total old byte sound used = let within = sound.used in omega arith

-- a chunk begins at a multiple of its alignment
pub bump_aligned : (old : Bump) (layout : SizeAndAlignment) (pointer : ℕ) (new : Bump) →
    bump_refusal old layout ≡ None →
    IsTrue (is_power_of_two layout.alignment) → GivesNextOffset old layout pointer new →
    offset_of pointer % layout.alignment ≡ 0
bump_aligned old layout pointer new served power gives =
    let fine = two_to layout.alignment power in
    let positive : 0 < layout.alignment = rw fine.1 (pow_pos fine.0) in
    let start = given_start old layout pointer new gives in
    let multiple = next_multiple_of-multiple old.used layout.alignment positive in
    whole_multiple multiple.0 layout.alignment (offset_of pointer) positive (start.0 ∙ multiple.1)

-- a bump allocator is within the limit of memory
pub bump_fits_limit : (size : ℕ) → IsTrue (nat_le size max_memory_size) → size ≤ max_memory_size
bump_fits_limit size fits = grind arith
