-- What the memory's call says of a loan, by its answer.
use Rattle.std.proofs.Common.{ℕ, ◌<◌, ◌≡◌, ◌⊎◌, inl, inr, true, Option, Some, None, is_some, IsSome, Result, Ok, Err, Vec, refl, sym, ap, ◌∙◌, subst}
use Rattle.std.specs.Prelude.{IfSome, IfOk, OnOk, OnErr}
use Rattle.std.specs.Int.{is_power_of_two}
use Rattle.cal_alloc.specs.Pool.{Pool, pool_refusal, pool_properties}
use Rattle.cal_alloc.specs.PointerOffset.{segment_of}
use Rattle.cal_alloc.specs.SizeAndAlignment.{SizeAndAlignment}
use Rattle.cal_alloc.specs.declared.pool_allocator.Config.{Config}
use Rattle.cal_alloc.specs.declared.shm_allocator.SharedMemorySetupHint.{SharedMemorySetupHint}
use Rattle.cal_storage.specs.Contents.{Contents}
use Rattle.cal_shm.specs.Calls.{IsChunkWithin}
use Rattle.cal_shm.specs.Segment.{Segment}
use Rattle.cal_shm.specs.declared.shm_pointer.ShmPointer.{ShmPointer}
use Rattle.cal_shm.specs.declared.errors.SharedMemoryCreateError.TheVariants as create
use Rattle.cal_resizable.specs.Chunks.{segment_value, GrowsTo}
use Rattle.cal_resizable.specs.Growth.{OfSegment, allocation_refusal, Allocates, AllocatesAfter, made_segment, grown_contents, grown_memory, next_number_of_buckets}
use Rattle.cal_resizable.specs.Memory.{MemoryState, KeepsOwn}
use Rattle.cal_resizable.specs.Slots.{SparesHandles}
use Rattle.cal_resizable.specs.Together.{AreTogether}
use Rattle.cal_resizable.specs.declared.errors.ResizableShmAllocationError.{ResizableShmAllocationError}
use Rattle.cal_resizable.specs.declared.errors.ResizableShmAllocationError.TheVariants as error
use Rattle.cal_transport.specs.declared.reply.Refusal.{Refusal}
use Rattle.std.specs.declared.alloc.Global.{Global}
use Rattle.cal_transport.specs.Owning.{IsTableFor}
use Rattle.cal_transport.specs.State.{TransportState}
use Rattle.cal_transport.specs.Ledger.{Ledger}
use Rattle.cal_transport.specs.Cause.{current_segment}
use Rattle.cal_transport.specs.ChunkEntry.{AreBelow}
use Rattle.cal_transport.specs.LoanCause.{loan_cause}
use Rattle.cal_transport.specs.State.{IsLinked, Represents}
use Rattle.cal_transport.proofs.LoanCauses.{AreAlike, has_current, alike}
use Rattle.cal_transport.proofs.LoanDone.{Between, between}
use Rattle.cal_transport.proofs.PoolRules.{pool_rules}
use Rattle.cal_transport.proofs.Segments.{of_shown}
use Rattle.cal_transport.proofs.Settled.{settled}

-- the answer is an error
pub record ErrorCall {P : Type 0} (t : TransportState) (layout : SizeAndAlignment)
    (r : Result P ResizableShmAllocationError) (e : ResizableShmAllocationError) : Type 0 where
  pub is : r ≡ Err e
  pub refused : OfSegment t.memory_registry t.memory.slots t.memory.current (λ s.
      IfSome (allocation_refusal pool_rules t.memory_registry t.memory layout s) (λ other. r ≡ Err other))
  pub why : OfSegment t.memory_registry t.memory.slots t.memory.current (λ s.
      (allocation_refusal pool_rules t.memory_registry t.memory layout s ≡ Some e)
      ⊎ (e ≡ error.SharedMemoryCreateError create.NoMemory))
  pub serves : OfSegment t.memory_registry t.memory.slots t.memory.current (λ s.
      IsSome (pool_refusal s.allocator layout))

pub refusing : {P : Type 0} (t : TransportState) (layout : SizeAndAlignment)
    (r : Result P ResizableShmAllocationError) (e : ResizableShmAllocationError) → ErrorCall t layout r e →
    (segment : Segment Pool) → segment_value t.memory_registry t.memory.slots t.memory.current ≡ Some segment →
    (o : Option ResizableShmAllocationError) →
    allocation_refusal pool_rules t.memory_registry t.memory layout segment ≡ o →
    ((other : ResizableShmAllocationError) → o ≡ Some other → other ≡ e)
    × ((o ≡ Some e) ⊎ (e ≡ error.SharedMemoryCreateError create.NoMemory))
    × (is_some (pool_refusal segment.allocator layout) ≡ true)
refusing t layout r e call segment there o o_is = (
  same,
  either (of_shown t.memory_registry t.memory.slots t.memory.current (λ s.
      (allocation_refusal pool_rules t.memory_registry t.memory layout s ≡ Some e)
      ⊎ (e ≡ error.SharedMemoryCreateError create.NoMemory)) segment call.why there),
  of_shown t.memory_registry t.memory.slots t.memory.current (λ s. IsSome (pool_refusal s.allocator layout)) segment
      call.serves there,
)
  where
    told : IfSome o (λ other. r ≡ Err other)
    told = subst (λ p. IfSome p (λ other. r ≡ Err other)) o_is
        (of_shown t.memory_registry t.memory.slots t.memory.current (λ s.
        IfSome (allocation_refusal pool_rules t.memory_registry t.memory layout s) (λ other. r ≡ Err other)) segment
        call.refused there)

    same : (other : ResizableShmAllocationError) → o ≡ Some other → other ≡ e
    same other is =
        let said = subst (λ p. IfSome p (λ x. r ≡ Err x)) is told in
        let both : Err other ≡ r = sym said in
        let whole = both ∙ call.is in cc

    either : (allocation_refusal pool_rules t.memory_registry t.memory layout segment ≡ Some e)
        ⊎ (e ≡ error.SharedMemoryCreateError create.NoMemory) →
        (o ≡ Some e) ⊎ (e ≡ error.SharedMemoryCreateError create.NoMemory)
    either (inl is) = inl (sym o_is ∙ is)
    either (inr none) = inr none

-- the answer is a pointer: nothing was refused
pub unrefused : {P : Type 0} (t : TransportState) (layout : SizeAndAlignment)
    (r : Result P ResizableShmAllocationError) (pointer : P) → r ≡ Ok pointer →
    OfSegment t.memory_registry t.memory.slots t.memory.current (λ s.
    IfSome (allocation_refusal pool_rules t.memory_registry t.memory layout s) (λ other. r ≡ Err other)) →
    (segment : Segment Pool) → segment_value t.memory_registry t.memory.slots t.memory.current ≡ Some segment →
    allocation_refusal pool_rules t.memory_registry t.memory layout segment ≡ None
unrefused t layout r pointer is refused segment there =
    go (allocation_refusal pool_rules t.memory_registry t.memory layout segment)
    (of_shown t.memory_registry t.memory.slots t.memory.current (λ s.
    IfSome (allocation_refusal pool_rules t.memory_registry t.memory layout s) (λ other. r ≡ Err other)) segment
    refused there)
  where
    go : (o : Option ResizableShmAllocationError) → IfSome o (λ other. r ≡ Err other) → o ≡ None
    go None said = refl
    go (Some other) said = absurd (let both = sym is ∙ said in cc)

-- so the ledger has no cause
pub no_cause : (t : TransportState) (linked : IsLinked t) (size alignment : ℕ) →
    is_power_of_two alignment ≡ true → ((segment : Segment Pool) →
    segment_value t.memory_registry t.memory.slots t.memory.current ≡ Some segment →
    allocation_refusal pool_rules t.memory_registry t.memory (record { size = size; alignment = alignment }) segment
    ≡ None) → (l : Ledger) → Represents t l → loan_cause (current_segment l) size alignment ≡ None
no_cause t linked size alignment power none l r =
    let here = has_current t l (settled l r.place r.sound) r.shows in
    go (loan_cause (current_segment l) size alignment)
    (subst (AreAlike (loan_cause (current_segment l) size alignment)) (none here.segment here.there)
    (alike t l (settled l r.place r.sound) r.shows linked (record { size = size; alignment = alignment }) power
    here.segment here.there))
  where
    go : (o : Option Refusal) → AreAlike o None → o ≡ None
    go None both = refl
    go (Some why) both = absurd both

-- the calls on the memory, where a pointer was handed out
pub record PointerCalls (t : TransportState) (size alignment pointer : ℕ) (handed : Contents (Segment Pool))
    (memory : MemoryState) (table : Option (Vec ℕ Global)) : Type 0 where
  pub allocated : OfSegment t.memory_registry t.memory.slots t.memory.current (λ s.
      AllocatesAfter pool_rules t.memory_registry t.memory (record { size = size; alignment = alignment }) pointer
      handed memory s.allocator (pool_refusal s.allocator (record { size = size; alignment = alignment })))
  pub within : OfSegment handed memory.slots (segment_of pointer) (λ s.
      IsChunkWithin pool_properties s (record { size = size; alignment = alignment }) pointer)
  pub together : AreTogether handed memory t.view
  pub growth : (hint : SharedMemorySetupHint Config) → t.memory.current < 255 →
      GrowsTo t.memory_registry t.memory (made_segment pool_rules hint)
      (grown_contents pool_rules t.memory_registry t.memory hint) (grown_memory t.memory_registry t.memory)
  pub tabled : (segment : Segment Pool) →
      segment_value t.memory_registry t.memory.slots t.memory.current ≡ Some segment →
      IsTableFor (next_number_of_buckets t.memory.strategy t.memory.current
      (record { size = size; alignment = alignment }) segment.allocator) (Ok table)

-- what the call on the memory ensures of its answer, where that may be a pointer
pub record HandsOut (t : TransportState) (layout : SizeAndAlignment)
    (r : Result ShmPointer ResizableShmAllocationError) (handed : Contents (Segment Pool)) (memory : MemoryState) :
    Type 0 where
  pub refused : OfSegment t.memory_registry t.memory.slots t.memory.current (λ s.
      IfSome (allocation_refusal pool_rules t.memory_registry t.memory layout s) (λ other. r ≡ Err other))
  pub allocated : IfOk r (λ p. Allocates pool_rules t.memory_registry t.memory layout p.offset handed memory)
  pub within : IfOk r (λ p. OfSegment handed memory.slots (segment_of p.offset) (λ s.
      IsChunkWithin pool_properties s layout p.offset))
  pub own : OnOk r (KeepsOwn t.memory_registry t.memory handed memory)
  pub spares : OnOk r (SparesHandles t.memory_registry handed t.memory.slots memory.slots)

-- the laws of memory that a loan cites
pub record LoanLaws (t : TransportState) (layout : SizeAndAlignment) (handed : Contents (Segment Pool))
    (memory : MemoryState) : Type 0 where
  pub growth : (hint : SharedMemorySetupHint Config) → t.memory.current < 255 →
      GrowsTo t.memory_registry t.memory (made_segment pool_rules hint)
      (grown_contents pool_rules t.memory_registry t.memory hint) (grown_memory t.memory_registry t.memory)
  pub stays : (pointer : ℕ) → Allocates pool_rules t.memory_registry t.memory layout pointer handed memory →
      KeepsOwn t.memory_registry t.memory handed memory →
      SparesHandles t.memory_registry handed t.memory.slots memory.slots → AreTogether handed memory t.view

pub pointer_calls : (t : TransportState) (size alignment : ℕ) (layout : SizeAndAlignment) →
    layout ≡ (record { size = size; alignment = alignment }) →
    (r : Result ShmPointer ResizableShmAllocationError) (p : ShmPointer) → r ≡ Ok p →
    (handed : Contents (Segment Pool)) (memory : MemoryState) (table : Option (Vec ℕ Global)) →
    HandsOut t layout r handed memory → LoanLaws t layout handed memory →
    ((segment : Segment Pool) → segment_value t.memory_registry t.memory.slots t.memory.current ≡ Some segment →
    IsTableFor (next_number_of_buckets t.memory.strategy t.memory.current layout segment.allocator) (Ok table)) →
    PointerCalls t size alignment p.offset handed memory table
pointer_calls t size alignment layout layout_is r p is handed memory table out laws tabled =
    let given : Allocates pool_rules t.memory_registry t.memory layout p.offset handed memory =
    subst (λ a. IfOk a (λ q. Allocates pool_rules t.memory_registry t.memory layout q.offset handed memory)) is
    out.allocated in
    let own : KeepsOwn t.memory_registry t.memory handed memory =
    subst (λ a. OnOk a (KeepsOwn t.memory_registry t.memory handed memory)) is out.own in
    let spares : SparesHandles t.memory_registry handed t.memory.slots memory.slots =
    subst (λ a. OnOk a (SparesHandles t.memory_registry handed t.memory.slots memory.slots)) is out.spares in
    record {
      allocated = subst (λ lay. Allocates pool_rules t.memory_registry t.memory lay p.offset handed memory) layout_is
          given;
      within = subst (λ lay. OfSegment handed memory.slots (segment_of p.offset) (λ s.
          IsChunkWithin pool_properties s lay p.offset)) layout_is
          (subst (λ a. IfOk a (λ q. OfSegment handed memory.slots (segment_of q.offset) (λ s.
          IsChunkWithin pool_properties s layout q.offset))) is out.within);
      together = laws.stays p.offset given own spares;
      growth = laws.growth;
      tabled = subst (λ lay. (segment : Segment Pool) →
          segment_value t.memory_registry t.memory.slots t.memory.current ≡ Some segment →
          IsTableFor (next_number_of_buckets t.memory.strategy t.memory.current lay segment.allocator) (Ok table))
          layout_is tabled;
    }

pub between_calls : (t : TransportState) (linked : IsLinked t) (size alignment : ℕ) →
    is_power_of_two alignment ≡ true → (l : Ledger) → Represents t l → (pointer : ℕ)
    (handed : Contents (Segment Pool)) (memory : MemoryState) (table : Option (Vec ℕ Global)) →
    PointerCalls t size alignment pointer handed memory table → Between t size alignment pointer handed memory table
between_calls t linked size alignment power l r pointer handed memory table calls =
    let here = has_current t l (settled l r.place r.sound) r.shows in
    between t linked size alignment power here.segment here.there pointer handed memory calls.together.memory_sound
    calls.growth table
    (of_shown t.memory_registry t.memory.slots t.memory.current (λ s.
    AllocatesAfter pool_rules t.memory_registry t.memory (record { size = size; alignment = alignment }) pointer
    handed memory s.allocator (pool_refusal s.allocator (record { size = size; alignment = alignment })))
    here.segment calls.allocated here.there)
    (calls.tabled here.segment here.there)

-- a loan up to the pointer: the calls lead to a state from which its bucket was handed out, and no ledger has a cause
pub record IsHanded (t : TransportState) (name size alignment pointer : ℕ) (handed : Contents (Segment Pool))
    (memory : MemoryState) (table : Option (Vec ℕ Global)) : Type 0 where
  pub linked : IsLinked t
  pub below : AreBelow t.entries name
  pub calls : PointerCalls t size alignment pointer handed memory table
  pub between : Between t size alignment pointer handed memory table
  pub none : (l : Ledger) → Represents t l → loan_cause (current_segment l) size alignment ≡ None

pub is_handed : (t : TransportState) (name size alignment : ℕ) → IsLinked t → AreBelow t.entries name →
    (l : Ledger) → Represents t l → (layout : SizeAndAlignment) → is_power_of_two alignment ≡ true →
    layout ≡ (record { size = size; alignment = alignment }) →
    (r : Result ShmPointer ResizableShmAllocationError) (p : ShmPointer) → r ≡ Ok p →
    (handed : Contents (Segment Pool)) (memory : MemoryState) (table : Option (Vec ℕ Global)) →
    HandsOut t layout r handed memory → LoanLaws t layout handed memory →
    ((segment : Segment Pool) → segment_value t.memory_registry t.memory.slots t.memory.current ≡ Some segment →
    IsTableFor (next_number_of_buckets t.memory.strategy t.memory.current layout segment.allocator) (Ok table)) →
    IsHanded t name size alignment p.offset handed memory table
is_handed t name size alignment linked below l r layout power layout_is answer p is handed memory table out laws
    tabled =
    let calls = pointer_calls t size alignment layout layout_is answer p is handed memory table out laws tabled in
    record {
      linked = linked;
      below = below;
      calls = calls;
      between = between_calls t linked size alignment power l r p.offset handed memory table calls;
      none = no_cause t linked size alignment power (λ segment there. subst (λ lay.
          allocation_refusal pool_rules t.memory_registry t.memory lay segment ≡ None) layout_is
          (unrefused t layout answer p is out.refused segment there));
    }

-- after an error memory and registry are what they were
pub refused_same : {P : Type 0} (t : TransportState) (r : Result P ResizableShmAllocationError)
    (e : ResizableShmAllocationError) → r ≡ Err e → (registry : Contents (Segment Pool)) (memory : MemoryState) →
    OnErr r (registry ≡ t.memory_registry) → OnErr r (memory ≡ t.memory) →
    record t { memory_registry = registry; memory = memory } ≡ t
refused_same t r e is registry memory same_registry same_memory =
    ap (λ c. record t { memory_registry = c; memory = memory })
    (subst (λ a. OnErr a (registry ≡ t.memory_registry)) is same_registry)
    ∙ ap (λ n. record t { memory = n }) (subst (λ a. OnErr a (memory ≡ t.memory)) is same_memory)
