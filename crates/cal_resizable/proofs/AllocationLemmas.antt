-- What an allocation answers, from what its steps answer.
use Rattle.std.proofs.Common.{◌≡◌, ℕ, ◌+◌, ◌⊎◌, Option, Some, None, IsSomeAnd, IfSome, Result, Ok, ◌++◌, option_map, sym, ap, ◌∙◌, subst, inl, inr}
use Rattle.cal_alloc.specs.SizeAndAlignment.{SizeAndAlignment}
use Rattle.cal_alloc.specs.declared.shm_allocator.SharedMemorySetupHint.{SharedMemorySetupHint}
use Rattle.cal_alloc.specs.declared.shm_allocator.ShmAllocationError.{ShmAllocationError}
use Rattle.cal_alloc.specs.declared.shm_allocator.ShmAllocator as allocator
use Rattle.cal_storage.specs.Contents.{Contents, value_of}
use Rattle.cal_shm.specs.Segment.{Segment}
use Rattle.cal_shm.specs.declared.errors.SharedMemoryCreateError.{SharedMemoryCreateError}
use Rattle.cal_shm.specs.declared.errors.SharedMemoryCreateError.TheVariants.{NoMemory}
use Rattle.cal_shm.specs.Calls.{OfValue}
use Rattle.cal_resizable.specs.Growth.{OfSegment, AllocatesHere, AllocatesAfter, AllocatesBy, Allocates, growth_plan, plan_refusal, chunk_refusal, allocation_refusal, segment_plan, segment_refusal}
use Rattle.cal_resizable.specs.Memory.{MemoryState}
use Rattle.cal_resizable.specs.SegmentNames.{number_end}
use Rattle.cal_resizable.specs.Slots.{Handle, Slots, HeldSegment, segment_at}
use Rattle.cal_resizable.specs.declared.errors.ResizableShmAllocationError.{ResizableShmAllocationError}
use Rattle.cal_resizable.specs.declared.errors.ResizableShmAllocationError.TheVariants as error
use Rattle.cal_resizable.proofs.KeepingLemmas.{held_is}

both : {X : Type 0} (option : Option X) (P Q R : X → Type 0) → IsSomeAnd option P → IsSomeAnd option Q →
    ((x : X) → P x → Q x → R x) → IsSomeAnd option R
both None P Q R p q then = p
both (Some x) P Q R p q then = then x p q

module _ {T : Type 0} (contents : Contents T) (slots : Slots) (number : ℕ) where
  pub of_both : (P Q R : T → Type 0) → OfSegment contents slots number P → OfSegment contents slots number Q →
      ((segment : T) → P segment → Q segment → R segment) → OfSegment contents slots number R
  of_both P Q R p q then = both (segment_at slots number)
      (λ held. OfValue contents held.handle.id P) (λ held. OfValue contents held.handle.id Q)
      (λ held. OfValue contents held.handle.id R) p q
      (λ held one other. both (value_of contents held.handle.id) P Q R one other then)

  pub of_one : (P R : T → Type 0) → OfSegment contents slots number P →
      ((segment : T) → P segment → R segment) → OfSegment contents slots number R
  of_one P R p then = of_both P P R p p (λ segment one _. then segment one)

  pub of_handle : (handle : Handle) →
      option_map (λ (held : HeldSegment). held.handle) (segment_at slots number) ≡ Some handle →
      (P : T → Type 0) → OfValue contents handle.id P → OfSegment contents slots number P
  of_handle handle is P holds =
      let held = held_is (segment_at slots number) handle is in
      subst (λ slot. IsSomeAnd slot (λ h. OfValue contents h.handle.id P)) (sym held.1)
      (subst (λ (h : Handle). OfValue contents h.id P) (sym held.2) holds)

module _ {A C : Type 0} (rules : allocator.Ghosts A C) (old : Contents (Segment A)) (memory : MemoryState)
    (layout : SizeAndAlignment) where
  abbrev pub OfCurrent : (Segment A → Type 0) → Type 0
  OfCurrent fact = OfSegment old memory.slots memory.current fact

  -- ---- the current segment serves
  module _ (served : OfCurrent (λ segment. None ≡ rules.refusal segment.allocator layout)) where
    pub allocates_now : (pointer : ℕ) (new : Contents (Segment A)) (after : MemoryState) →
        AllocatesHere rules old memory layout pointer new after → Allocates rules old memory layout pointer new after
    allocates_now pointer new after here =
        of_one old memory.slots memory.current (λ segment. None ≡ rules.refusal segment.allocator layout)
        (λ segment. AllocatesAfter rules old memory layout pointer new after segment.allocator
        (rules.refusal segment.allocator layout))
        served
        (λ segment is.
        subst (AllocatesAfter rules old memory layout pointer new after segment.allocator) is here)

    pub not_refused_now : (P : ResizableShmAllocationError → Type 0) →
        OfCurrent (λ segment. IfSome (allocation_refusal rules old memory layout segment) P)
    not_refused_now P =
        of_one old memory.slots memory.current (λ segment. None ≡ rules.refusal segment.allocator layout)
        (λ segment. IfSome (allocation_refusal rules old memory layout segment) P) served
        (λ segment is.
        subst (λ refusal. IfSome (chunk_refusal rules old memory layout segment.allocator refusal) P) is tt)

  -- ---- the current segment refuses, and growth was planned
  module _ (refusal : ShmAllocationError)
      (refused : OfCurrent (λ segment. Some refusal ≡ rules.refusal segment.allocator layout))
      (plan : Result (SharedMemorySetupHint C) ResizableShmAllocationError)
      (planned : OfCurrent (λ segment. plan ≡ growth_plan rules memory.strategy memory.current layout
      segment.allocator refusal)) where
    -- the cause is that of the plan
    by_plan : OfCurrent
        (λ segment. plan_refusal rules old memory plan ≡ allocation_refusal rules old memory layout segment)
    by_plan = of_both old memory.slots memory.current
        (λ segment. Some refusal ≡ rules.refusal segment.allocator layout)
        (λ segment. plan ≡ growth_plan rules memory.strategy memory.current layout segment.allocator refusal)
        (λ segment. plan_refusal rules old memory plan ≡ allocation_refusal rules old memory layout segment)
        refused planned
        (λ segment is is_plan.
        ap (plan_refusal rules old memory) is_plan
        ∙ ap (chunk_refusal rules old memory layout segment.allocator) is)

    pub refused_by_plan : (P : ResizableShmAllocationError → Type 0) → IfSome (plan_refusal rules old memory plan) P →
        OfCurrent (λ segment. IfSome (allocation_refusal rules old memory layout segment) P)
    refused_by_plan P holds =
        of_one old memory.slots memory.current
        (λ segment. plan_refusal rules old memory plan ≡ allocation_refusal rules old memory layout segment)
        (λ segment. IfSome (allocation_refusal rules old memory layout segment) P) by_plan
        (λ segment is. subst (λ cause. IfSome cause P) is holds)

    pub error_by_plan : (is_error no_memory : ResizableShmAllocationError) →
        (plan_refusal rules old memory plan ≡ Some is_error) ⊎ (is_error ≡ no_memory) →
        OfCurrent (λ segment. (allocation_refusal rules old memory layout segment ≡ Some is_error)
        ⊎ (is_error ≡ no_memory))
    error_by_plan is_error no_memory either =
        of_one old memory.slots memory.current
        (λ segment. plan_refusal rules old memory plan ≡ allocation_refusal rules old memory layout segment)
        (λ segment. (allocation_refusal rules old memory layout segment ≡ Some is_error) ⊎ (is_error ≡ no_memory))
        by_plan
        (λ segment is. elim either [ inl cause ↦ inl (sym is ∙ cause) | inr none ↦ inr none ])

    pub allocates_by_plan : (pointer : ℕ) (new : Contents (Segment A)) (after : MemoryState) →
        AllocatesBy rules old memory layout pointer new after plan → Allocates rules old memory layout pointer new after
    allocates_by_plan pointer new after by =
        of_both old memory.slots memory.current
        (λ segment. Some refusal ≡ rules.refusal segment.allocator layout)
        (λ segment. plan ≡ growth_plan rules memory.strategy memory.current layout segment.allocator refusal)
        (λ segment. AllocatesAfter rules old memory layout pointer new after segment.allocator
        (rules.refusal segment.allocator layout))
        refused planned
        (λ segment is is_plan.
        subst (AllocatesAfter rules old memory layout pointer new after segment.allocator) is
        (subst (AllocatesBy rules old memory layout pointer new after) is_plan by))

  -- ---- the next segment is made by a hint
  module _ (hint : SharedMemorySetupHint C) where
    abbrev pub cause : Option SharedMemoryCreateError
    cause = segment_refusal rules old
        (segment_plan rules memory.settings (memory.name ++ number_end (memory.current + 1)) hint) hint

    -- what is known of the cause, where there is one
    pub refused_by_hint : (P : ResizableShmAllocationError → Type 0) (Q : SharedMemoryCreateError → Type 0) →
        IfSome cause Q → ((is : SharedMemoryCreateError) → Q is → P (error.SharedMemoryCreateError is)) →
        IfSome (plan_refusal rules old memory (Ok hint)) P
    refused_by_hint P Q holds then = from cause holds
      where
        from : (found : Option SharedMemoryCreateError) → IfSome found Q →
            IfSome (option_map error.SharedMemoryCreateError found) P
        from None holds = tt
        from (Some is) holds = then is holds

    pub error_by_hint : (e : SharedMemoryCreateError) → (cause ≡ Some e) ⊎ (e ≡ NoMemory) →
        (plan_refusal rules old memory (Ok hint) ≡ Some (error.SharedMemoryCreateError e))
        ⊎ (error.SharedMemoryCreateError e ≡ error.SharedMemoryCreateError NoMemory)
    error_by_hint e either = elim either [
      | inl is ↦ inl (ap (option_map error.SharedMemoryCreateError) is)
      | inr none ↦ inr (ap error.SharedMemoryCreateError none)
    ]
