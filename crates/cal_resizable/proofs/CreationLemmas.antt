-- What is known of a memory that was just made.
use Rattle.std.proofs.Common.{◌≡◌, ◌≢◌, ℕ, Bool, true, false, not, ◌==◌, if◌then◌else◌, Option, Some, None, Result, Ok, Err, IfOk, IfSome, List, ◌++◌, codes, length, refl, sym, ap, ◌∙◌, subst, arith}
use Rattle.std.specs.Option.{option_or}
use Rattle.std.proofs.lemmas.List.{length-set}
use Rattle.std.proofs.lemmas.Option.{none-some, same_Some}
use Rattle.cal_alloc.specs.declared.allocation_strategy.AllocationStrategy.{AllocationStrategy}
use Rattle.cal_alloc.specs.declared.shm_allocator.SharedMemorySetupHint.{SharedMemorySetupHint}
use Rattle.cal_alloc.specs.declared.shm_allocator.ShmAllocator as allocator
use Rattle.cal_names.specs.ConceptSettings.{ConceptSettings, file_path_for}
use Rattle.cal_names.specs.FileName.{IsFileName}
use Rattle.cal_storage.specs.Contents.{Contents, Has, id_at, after_creation, after_close, new_handle}
use Rattle.cal_storage.specs.ContentsLaws.{KeepsEntries}
use Rattle.cal_storage.specs.Holding.{Holds, KeepsHandles}
use Rattle.cal_storage.specs.HoldingLemmas.{KeepsHandles-after_creation}
use Rattle.cal_storage.specs.Refusals.{finished_version, is_too_long}
use Rattle.cal_storage.specs.ValueLemmas.{after_close-after_creation}
use Rattle.cal_shm.specs.Plan.{SegmentPlan}
use Rattle.cal_shm.specs.Refusals.{create_refusal, name_refusal, alignment_refusal}
use Rattle.cal_shm.specs.Segment.{Segment}
use Rattle.cal_shm.specs.declared.errors.SharedMemoryCreateError.{SharedMemoryCreateError}
use Rattle.cal_shm.specs.declared.errors.SharedMemoryCreateError.TheVariants as create
use Rattle.cal_resizable.specs.Creation.{MemoryPlan, MakesMemory, CreatesMemory, one_byte, first_memory, memory_of, management_handle, first_handle, managed_contents, first_contents, management_refusal, first_refusal, segments_refusal}
use Rattle.cal_resizable.specs.Growth.{segment_plan, segment_refusal, made_segment}
use Rattle.cal_resizable.specs.SegmentNames.{number_end}
use Rattle.cal_resizable.specs.Memory.{MemoryState, IsSoundMemory, IsActive, segment_path, management_path}
use Rattle.cal_resizable.specs.Slots.{Handle, Slots, HeldSegment, empty_slots, segment_at, with_segment, count_in, count_at, EachHeld, EachHandle, LeavesHandle}
use Rattle.cal_resizable.proofs.GrowthLemmas.{not_new, leaves_created}
use Rattle.cal_resizable.proofs.MemoryLemmas.{is_some-from}
use Rattle.cal_resizable.proofs.SlotLemmas.{length-replicate, segment_at-empty, segment_at-set-same, EachHeld-set}

-- ---- refusals

pub none-refused : {E X : Type 0} (refusal : Option E) (x : X) → IfSome refusal (λ error. Ok x ≡ Err error) →
    refusal ≡ None
none-refused None x same = refl
none-refused (Some error) x same = absurd (cc)

if_none : {E : Type 0} (test : Bool) (e : E) (rest : Option E) → (if test then Some e else rest) ≡ None →
    (test ≡ false) × (rest ≡ None)
if_none true e rest is = absurd (none-some e (sym is))
if_none false e rest is = (refl, is)

or_none : {E : Type 0} (first rest : Option E) → option_or first rest ≡ None → (first ≡ None) × (rest ≡ None)
or_none None rest is = (refl, is)
or_none (Some e) rest is = absurd (none-some e (sym is))

pub then_refused : {E : Type 0} (first rest second : Option E) → first ≡ None → rest ≡ second →
    option_or first rest ≡ second
then_refused first rest second none is = ap (λ o. option_or o rest) none ∙ is

-- what is made has a path that fits
pub created-fits : {A : Type 0} (fits : Bool) (max_alignment : ℕ) (contents : Contents (Segment A))
    (plan : SegmentPlan) → create_refusal fits max_alignment contents plan ≡ None →
    is_too_long plan.settings plan.name ≡ false
created-fits fits max_alignment contents plan none =
    let sized = if_none (plan.options.size == 0) create.SizeIsZero _ none in
    let fitting = if_none (not fits) create.SizeOutOfRange _ sized.1 in
    let named = or_none (name_refusal contents plan.settings plan.name) (alignment_refusal max_alignment) fitting.1 in
    let short = if_none (is_too_long plan.settings plan.name) create.PathTooLong _ named.0 in
    short.0

-- ---- the memory over its first segment

module _ (management first : Handle) (slots : Slots) (slots_is : slots ≡ with_segment (empty_slots 256) 0 first) where
  abbrev first_held : HeldSegment
  first_held = record { handle = first; count = 0 }

  each_first : (fact : ℕ → HeldSegment → Type 0) → fact 0 first_held → EachHeld slots fact
  each_first fact here = subst (λ s. EachHeld s fact) (sym slots_is)
      (EachHeld-set (empty_slots 256) 0 (Some first_held) fact
      (omega (arith, length-replicate {X = Option HeldSegment} 256 None))
      (λ held is. subst (fact 0) (same_Some _ held is) here)
      (λ other held apart at. absurd (none-some held (sym (segment_at-empty 256 other) ∙ at))))

  first_at : segment_at slots 0 ≡ Some first_held
  first_at = ap (λ s. segment_at s 0) slots_is
      ∙ segment_at-set-same (empty_slots 256) 0 (Some first_held)
      (omega (arith, length-replicate {X = Option HeldSegment} 256 None))

  only_first : (number : ℕ) (held : HeldSegment) → segment_at slots number ≡ Some held → number ≡ 0
  only_first = each_first (λ number held. number ≡ 0) refl

  pub first_empty : count_at slots 0 ≡ 0
  first_empty = ap count_in first_at

  pub EachHandle-first : (fact : Handle → Type 0) → fact management → fact first → EachHandle management slots fact
  EachHandle-first fact managed here =
      record { of_management = managed; of_segments = each_first (λ number held. fact held.handle) here }

  pub IsSoundMemory-first : (name : List ℕ) (settings : ConceptSettings) (strategy : AllocationStrategy) →
      IsFileName (name ++ codes "__mgmt") → is_too_long settings (name ++ codes "__mgmt") ≡ false →
      management.is_owner ≡ true → management.path ≡ management_path settings name → first.is_owner ≡ true →
      first.path ≡ segment_path settings name 0 → first.id ≢ management.id →
      IsSoundMemory (first_memory name settings strategy management slots)
  IsSoundMemory-first name settings strategy rule fits owner path first_owner first_path apart = record {
    places = ap length slots_is ∙ length-set (empty_slots 256) 0 (Some first_held)
        ∙ length-replicate {X = Option HeldSegment} 256 None;
    below = omega arith;
    current = is_some-from (segment_at slots 0) first_held first_at;
    active = each_first (IsActive settings name management.id 0) (record {
      not_later = omega arith;
      used = λ differ. absurd (differ refl);
      owner = first_owner;
      path = first_path;
      apart = apart;
    });
    apart = λ one other held also differ at_one at_other.
        absurd (differ (only_first one held at_one ∙ sym (only_first other also at_other)));
    owner = owner;
    path = path;
    name = rule;
    fits = fits;
  }

-- ---- the registry over both creations

module _ {T : Type 0} (old mid new : Contents T) (path : List ℕ) (value : T) (version : ℕ)
    (free : id_at old path ≡ None) (made : mid ≡ after_creation old path value version) (management : Handle)
    (management_is : management ≡ new_handle old path true) where
  -- what was made is taken back
  pub taken_back : new ≡ after_close mid management → KeepsEntries old new
  taken_back closed =
      subst (KeepsEntries old)
      (sym (closed ∙ ap (λ m. after_close m management) made
      ∙ ap (after_close (after_creation old path value version)) management_is))
      (after_close-after_creation old path value version free)

  module _ (other : List ℕ) (second : T) (other_version : ℕ) (other_free : id_at mid other ≡ None)
      (also_made : new ≡ after_creation mid other second other_version) where
    pub left_by_second : (handle : Handle) → LeavesHandle mid new handle
    left_by_second = leaves_created mid new other second other_version other_free also_made

    pub KeepsHandles-both : KeepsHandles old new
    KeepsHandles-both count handle some small holds =
        subst (λ contents. Holds contents count handle) (sym also_made)
        (KeepsHandles-after_creation mid other second other_version count handle some small
        (subst (λ contents. Holds contents count handle) (sym made)
        (KeepsHandles-after_creation old path value version count handle some small holds)))

-- ---- both segments of a memory

module _ {A C : Type 0} (rules : allocator.Ghosts A C) (old mid new : Contents (Segment A)) (plan : MemoryPlan)
    (hint other : SharedMemorySetupHint C) (name first_name : List ℕ) (name_is : name ≡ plan.name ++ codes "__mgmt")
    (first_is : first_name ≡ plan.name ++ number_end 0) (management first : Handle)
    (created : mid ≡ after_creation old (file_path_for plan.settings name) (made_segment rules hint) finished_version)
    (handle_is : management ≡ new_handle old (file_path_for plan.settings name) true) where
  managed_is : mid ≡ managed_contents rules old plan hint
  managed_is = created
      ∙ ap (λ n. after_creation old (file_path_for plan.settings n) (made_segment rules hint) finished_version) name_is

  management_is : management ≡ management_handle old plan
  management_is = handle_is ∙ ap (λ n. new_handle old (file_path_for plan.settings n) true) name_is

  -- where the management segment isn't refused, the cause is that of segment 0
  pub refusal_then : (rest : Option SharedMemoryCreateError) →
      segment_refusal rules old (segment_plan rules plan.settings name hint) hint ≡ None →
      segment_refusal rules mid (segment_plan rules plan.settings first_name other) other ≡ rest →
      segments_refusal rules old plan hint other ≡ rest
  refusal_then rest none is =
      then_refused (management_refusal rules old plan hint)
      (first_refusal rules (managed_contents rules old plan hint) plan other) rest
      (ap (λ n. segment_refusal rules old (segment_plan rules plan.settings n hint) hint) (sym name_is) ∙ none)
      (ap (λ m. first_refusal rules m plan other) (sym managed_is)
      ∙ ap (λ n. segment_refusal rules mid (segment_plan rules plan.settings n other) other) (sym first_is) ∙ is)

  module _
      (also : new ≡ after_creation mid (file_path_for plan.settings first_name) (made_segment rules other)
      finished_version)
      (first_handle_is : first ≡ new_handle mid (file_path_for plan.settings first_name) true) (slots : Slots)
      (slots_is : slots ≡ with_segment (empty_slots 256) 0 first) where
    first_is_new : first ≡ first_handle (managed_contents rules old plan hint) plan
    first_is_new = first_handle_is
        ∙ ap (λ n. new_handle mid (file_path_for plan.settings n) true) first_is
        ∙ ap (λ m. first_handle m plan) managed_is

    pub MakesMemory-both : (memory : MemoryState) →
        memory ≡ first_memory plan.name plan.settings plan.strategy management slots →
        MakesMemory rules old plan hint other new memory
    MakesMemory-both memory memory_is = record {
      registry = also
          ∙ ap (λ n. after_creation mid (file_path_for plan.settings n) (made_segment rules other) finished_version)
          first_is
          ∙ ap (λ m. first_contents rules m plan other) managed_is;
      is = memory_is
          ∙ ap (λ s. first_memory plan.name plan.settings plan.strategy management s)
          (slots_is ∙ ap (with_segment (empty_slots 256) 0) first_is_new)
          ∙ ap (λ h. memory_of plan h (first_handle (managed_contents rules old plan hint) plan)) management_is;
    }

    pub IsSoundMemory-both : IsFileName (plan.name ++ codes "__mgmt") →
        segment_refusal rules old (segment_plan rules plan.settings name hint) hint ≡ None → Has mid management →
        id_at mid (file_path_for plan.settings first_name) ≡ None →
        IsSoundMemory (first_memory plan.name plan.settings plan.strategy management slots)
    IsSoundMemory-both rule none has free =
        IsSoundMemory-first management first slots slots_is plan.name plan.settings plan.strategy rule
        (subst (λ n. is_too_long plan.settings n ≡ false) name_is
        (created-fits _ _ old (segment_plan rules plan.settings name hint) none))
        (ap (λ (h : Handle). h.is_owner) management_is) (ap (λ (h : Handle). h.path) management_is)
        (ap (λ (h : Handle). h.is_owner) first_is_new) (ap (λ (h : Handle). h.path) first_is_new)
        (λ same. not_new mid management has (sym same ∙ ap (λ (h : Handle). h.id) first_handle_is))

-- where a memory is made from what is proposed, it is made by the plan
pub CreatesMemory-by : {A C E : Type 0} (rules : allocator.Ghosts A C) (old : Contents (Segment A)) (plan : MemoryPlan)
    (new : Contents (Segment A)) (management first : SharedMemorySetupHint C) →
    rules.initial_setup_hint plan.layout plan.number_of_chunks ≡ Some first →
    rules.initial_setup_hint one_byte 1 ≡ Some management → (result : Result MemoryState E) →
    IfOk result (MakesMemory rules old plan management first new) → IfOk result (CreatesMemory rules old plan new)
CreatesMemory-by rules old plan new management first is also (Err error) makes = tt
CreatesMemory-by rules old plan new management first is also (Ok memory) makes = record {
  management = management;
  first = first;
  first_hint = is;
  management_hint = also;
  makes = makes;
}
