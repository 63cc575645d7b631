-- Memory over a new registry is made, where there is room for it, and has one segment.
use Rattle.std.proofs.Common.{◌≡◌, ◌≢◌, ℕ, zero, suc, ◌+◌, ◌-◌, ◌*◌, ◌/◌, ◌%◌, ◌^◌, ◌<◌, ◌≤◌, ◌==◌, max, Bool, true, false, cond, not, ◌&&◌, nat_lt, nat_le, nat_eq, Option, Some, None, is_some, List, [], ◌∷◌, ◌++◌, codes, length, get_or, replicate, refl, sym, ap, ◌∙◌, subst, inl, inr, ◌⊎◌, arith, length-append}
use Rattle.std.specs.Option.{option_or}
use Rattle.std.specs.Prelude.{IsTrue}
use Rattle.std.proofs.Math.Nat.{sub-zero, mod_self, mul_comm, mul-div_cancel, mul-le-mul_left}
use Rattle.std.proofs.lemmas.Bool.Decides.{nat_tests}
use Rattle.std.proofs.lemmas.Option.{none-some, same_Some}
use Rattle.std.proofs.lemmas.List.{append_cancel_left, append_cancel_right, length-replicate}
use Rattle.cal_alloc.specs.Growth.{SegmentLayout, padded_size, bucket_size_of}
use Rattle.cal_alloc.specs.Hints.{pool_setup_hint}
use Rattle.cal_alloc.specs.Pool.{Pool, buckets_within, pool_fits, new_pool}
use Rattle.cal_alloc.specs.SizeAndAlignment.{SizeAndAlignment}
use Rattle.cal_alloc.specs.declared.pool_allocator.Config.{Config}
use Rattle.cal_alloc.specs.declared.shm_allocator.SharedMemorySetupHint.{SharedMemorySetupHint}
use Rattle.cal_alloc.specs.declared.shm_allocator.ShmAllocator as shm_allocator
use Rattle.cal_names.specs.ConceptSettings.{ConceptSettings, file_name_for, file_path_for, type_part}
use Rattle.cal_names.specs.FileName.{IsFileName, as_file_name, is_file_name, is_file_name-decides}
use Rattle.cal_names.specs.FilePath.{separator}
use Rattle.cal_storage.specs.Contents.{Contents, id_at, nothing_registered}
use Rattle.cal_storage.specs.NameLemmas.{is_path-apart}
use Rattle.cal_storage.specs.Refusals.{is_too_long, finished_version}
use Rattle.cal_storage.specs.SoundnessLemmas.{id_at-after_creation-other}
use Rattle.cal_shm.specs.Plan.{SegmentPlan, path_of}
use Rattle.cal_shm.specs.Refusals.{create_refusal, name_refusal, alignment_refusal}
use Rattle.cal_shm.specs.Segment.{Segment, new_segment}
use Rattle.cal_shm.specs.declared.errors.SharedMemoryCreateError.{SharedMemoryCreateError}
use Rattle.cal_shm.specs.declared.errors.SharedMemoryCreateError.TheVariants as create
use Rattle.cal_resizable.specs.Creation.{MemoryPlan, CreatesMemory, one_byte, first_contents, first_handle, creation_refusal, refusal_by, segments_refusal, first_refusal, managed_contents}
use Rattle.cal_resizable.specs.Growth.{segment_refusal, segment_plan, new_allocator, made_segment}
use Rattle.cal_resizable.specs.Chunks.{value_in}
use Rattle.cal_resizable.specs.Memory.{MemoryState, management_path, segment_path}
use Rattle.cal_resizable.specs.SegmentNameLemmas.{decimal-small, segment_of_name-again, segment_of_name-management}
use Rattle.cal_resizable.specs.SegmentNames.{number_end, segment_of_name, management_segment_name}
use Rattle.cal_resizable.specs.Slots.{empty_slots, with_segment, count_in}
use Rattle.cal_shm.specs.Configuration.{default_parts as shm_parts}
use Rattle.cal_shm.specs.TypeName.{segment_type_name}
use Rattle.cal_transport.specs.declared.settings.Settings.{Settings}
use Rattle.cal_transport.specs.Opening.{HasFirstSegment, first_segment, memory_plan, transport_name}
use Rattle.cal_transport.specs.Settings.{CanMake, first_layout, payload}
use Rattle.cal_transport.specs.State.{active_of, active_at}
use Rattle.cal_transport.proofs.Growing.{padded_whole}
use Rattle.cal_transport.proofs.NewTransport.{everywhere}
use Rattle.cal_transport.proofs.Paths.{fits_path}

-- ---- paths

file_path_for-injective : (settings : ConceptSettings) (a b : List ℕ) →
    file_path_for settings a ≡ file_path_for settings b → a ≡ b
file_path_for-injective settings a b same =
    let front : List ℕ = settings.prefix ++ type_part settings.type_name in
    append_cancel_left front a b
    (append_cancel_right (front ++ a) (front ++ b) settings.suffix
    (append_cancel_left (settings.path_hint ++ separator settings.path_hint) (file_name_for settings a)
    (file_name_for settings b) same))

management_apart : (settings : ConceptSettings) (name : List ℕ) → IsFileName name →
    management_path settings name ≢ segment_path settings name 0
management_apart settings name rule same =
    let names : name ++ codes "__mgmt" ≡ name ++ number_end 0 =
    file_path_for-injective settings (name ++ codes "__mgmt") (name ++ number_end 0) same in
    none-some (name, 0)
    (sym (segment_of_name-management name) ∙ ap segment_of_name names ∙ segment_of_name-again name 0 rule (omega arith))

pub named : IsFileName transport_name
named = (is_file_name-decides transport_name).0 refl

-- ---- what isn't refused

create_none : {A : Type 0} (fits : Bool) (alignment : ℕ) (contents : Contents (Segment A)) (plan : SegmentPlan) →
    fits ≡ true → (plan.options.size == 0) ≡ false → is_too_long plan.settings plan.name ≡ false →
    id_at contents (path_of plan) ≡ None → nat_lt 4096 alignment ≡ false →
    create_refusal fits alignment contents plan ≡ None
create_none fits alignment contents plan fit some short free supported =
    ap (λ b. cond b (Some create.SizeIsZero) (cond (not fits) (Some create.SizeOutOfRange)
    (option_or (name_refusal contents plan.settings plan.name) (alignment_refusal alignment)))) some
    ∙ ap (λ b. cond (not b) (Some create.SizeOutOfRange)
    (option_or (name_refusal contents plan.settings plan.name) (alignment_refusal alignment))) fit
    ∙ ap (λ b. option_or (cond b (Some create.PathTooLong) (cond (is_some (id_at contents (path_of plan)))
    (Some create.AlreadyExists) None)) (alignment_refusal alignment)) short
    ∙ ap (λ o. option_or (cond (is_some o) (Some create.AlreadyExists) None) (alignment_refusal alignment)) free
    ∙ ap (λ b. cond b (Some create.InternalError) None) supported

module _ {A C : Type 0} (rules : shm_allocator.Ghosts A C) where
  -- what an allocator proposes can be made
  pub record IsServable (hint : SharedMemorySetupHint C) : Type 0 where
    pub some : (hint.payload_size == 0) ≡ false
    pub fits : rules.fits hint.payload_size hint.config ≡ true
    pub supported : nat_lt 4096 (rules.properties (new_allocator rules hint)).max_alignment ≡ false

  module _ (plan : MemoryPlan) (management first : SharedMemorySetupHint C)
      (management_is : rules.initial_setup_hint one_byte 1 ≡ Some management)
      (first_is : rules.initial_setup_hint plan.layout plan.number_of_chunks ≡ Some first)
      (management_serves : IsServable management) (first_serves : IsServable first) (rule : IsFileName plan.name)
      (managed : is_some (management_segment_name plan.name) ≡ true)
      (management_short : is_too_long plan.settings (plan.name ++ codes "__mgmt") ≡ false)
      (first_short : is_too_long plan.settings (plan.name ++ number_end 0) ≡ false) where
    abbrev contents : Contents (Segment A)
    contents = managed_contents rules nothing_registered plan management

    managing : segment_refusal rules nothing_registered
        (segment_plan rules plan.settings (plan.name ++ codes "__mgmt") management) management ≡ None
    managing =
        create_none {A = A} (rules.fits management.payload_size management.config)
        (rules.properties (new_allocator rules management)).max_alignment nothing_registered
        (segment_plan rules plan.settings (plan.name ++ codes "__mgmt") management) management_serves.fits
        management_serves.some management_short refl management_serves.supported

    first_made : segment_refusal rules contents
        (segment_plan rules plan.settings (plan.name ++ number_end 0) first) first ≡ None
    first_made =
        create_none {A = A} (rules.fits first.payload_size first.config)
        (rules.properties (new_allocator rules first)).max_alignment contents
        (segment_plan rules plan.settings (plan.name ++ number_end 0) first) first_serves.fits first_serves.some
        first_short
        (id_at-after_creation-other nothing_registered (management_path plan.settings plan.name)
        (made_segment rules management) finished_version (segment_path plan.settings plan.name 0)
        (is_path-apart (management_path plan.settings plan.name) (segment_path plan.settings plan.name 0)
        (management_apart plan.settings plan.name rule)))
        first_serves.supported

    pub not_refused : creation_refusal rules nothing_registered plan ≡ None
    not_refused =
        ap (λ o. refusal_of o (rules.initial_setup_hint one_byte 1)) first_is
        ∙ ap (refusal_of (Some first)) management_is
        ∙ ap (λ b. cond b (segments_refusal rules nothing_registered plan management first) (Some create.PathTooLong))
        managed
        ∙ ap (λ o. option_or o (first_refusal rules contents plan first)) managing
        ∙ first_made
      where
        refusal_of : Option (SharedMemorySetupHint C) → Option (SharedMemorySetupHint C) →
            Option SharedMemoryCreateError
        refusal_of = refusal_by rules nothing_registered plan

-- ---- a pool's segments

-- the rules are those of pools
pub record ArePools (rules : shm_allocator.Ghosts Pool Config) : Type 0 where
  pub setup : (layout : SizeAndAlignment) (count : ℕ) →
      rules.initial_setup_hint layout count ≡ pool_setup_hint layout count
  pub fits : (size : ℕ) (config : Config) → rules.fits size config ≡ pool_fits size config.bucket_layout
  pub made : (alignment size : ℕ) (config : Config) →
      rules.new_uninit alignment size config ≡ new_pool alignment size config.bucket_layout
  pub aligned : (pool : Pool) → (rules.properties pool).max_alignment ≡ pool.buckets.alignment
  pub ready : (pool : Pool) → rules.after_init pool ≡ (record pool { is_ready = true })

-- what was padded is padded
padded_again : (n alignment : ℕ) → n % alignment ≡ 0 → padded_size n alignment ≡ n
padded_again n alignment whole =
    let nothing : n + (alignment - 0) % alignment ≡ n = rw (sub-zero alignment, mod_self alignment) (plus n) in
    ap (λ r. n + (alignment - r) % alignment) whole ∙ nothing
  where
    plus : (m : ℕ) → m + 0 ≡ m
    plus m = omega arith

module _ (s : Settings) (can : CanMake s) where
  abbrev padded : ℕ
  padded = padded_size s.size s.alignment

  above : 1 ≤ padded
  above = let one = can.size in omega arith

  small : padded ≤ 2 ^ 56
  small = let h = mul-le-mul_left padded can.count in let whole = can.payload in omega arith

  abbrev first_hint : SharedMemorySetupHint Config
  first_hint = record {
    payload_size = padded * s.count;
    config = record { bucket_layout = record { size = padded; alignment = s.alignment } };
  }

  proposed : pool_setup_hint (record { size = s.size; alignment = s.alignment }) s.count ≡ Some first_hint
  proposed = ap (λ b. cond b (Some first_hint) None) in_range
    where
      in_range : (nat_le (padded * s.count) (2 ^ 56) && (nat_lt s.count (2 ^ 32) && nat_lt padded (2 ^ 64))) ≡ true
      in_range =
          let whole = can.payload in let few = can.few in let low = small in
          all (padded * s.count) whole few low
        where
          all : (whole : ℕ) → whole ≤ 2 ^ 56 → s.count < 2 ^ 32 → padded ≤ 2 ^ 56 →
              (nat_le whole (2 ^ 56) && (nat_lt s.count (2 ^ 32) && nat_lt padded (2 ^ 64))) ≡ true
          all whole a b c = grind (arith, nat_tests)

  bucket : bucket_size_of padded s.alignment ≡ padded
  bucket =
      ap (λ n. padded_size n s.alignment) (let one = above in largest padded one)
      ∙ padded_again padded s.alignment (padded_whole s.size s.alignment (let a = can.aligned in omega arith))
    where
      largest : (n : ℕ) → 1 ≤ n → max 1 n ≡ n
      largest n one = omega arith

  cut : buckets_within (padded * s.count) first_hint.config.bucket_layout ≡ first_layout s
  cut =
      let B : ℕ → ℕ → SegmentLayout = λ size count. record { size = size; alignment = s.alignment; count = count } in
      ap (λ n. B n (padded * s.count / n)) bucket
      ∙ ap (B padded) (ap (λ n. n / padded) (mul_comm padded s.count) ∙ mul-div_cancel s.count above)

  fits_first : pool_fits (padded * s.count) first_hint.config.bucket_layout ≡ true
  fits_first =
      ap (λ (b : SegmentLayout). nat_le (padded * s.count) (2 ^ 56)
      && (nat_lt b.size (2 ^ 64) && nat_lt b.count (2 ^ 32))) cut
      ∙ all (padded * s.count) can.payload can.few small
    where
      all : (whole : ℕ) → whole ≤ 2 ^ 56 → s.count < 2 ^ 32 → padded ≤ 2 ^ 56 →
          (nat_le whole (2 ^ 56) && (nat_lt padded (2 ^ 64) && nat_lt s.count (2 ^ 32))) ≡ true
      all whole a b c = grind (arith, nat_tests)

  some_first : (padded * s.count == 0) ≡ false
  some_first = let one = mul-le-mul_left padded can.count in let a = above in not_zero (padded * s.count) (omega arith)
    where
      not_zero : (n : ℕ) → 1 ≤ n → (n == 0) ≡ false
      not_zero n one = grind (arith, nat_tests)

  aligned_first : nat_lt 4096 s.alignment ≡ false
  aligned_first = let most = can.supported in grind (arith, nat_tests)

  -- the hint for one byte
  abbrev one_hint : SharedMemorySetupHint Config
  one_hint = record {
    payload_size = 1;
    config = record { bucket_layout = record { size = 1; alignment = 1 } };
  }

  module _ (rules : shm_allocator.Ghosts Pool Config) (pools : ArePools rules) where
    serves_one : IsServable rules one_hint
    serves_one = record {
      some = refl;
      fits = pools.fits 1 one_hint.config;
      supported = ap (nat_lt 4096) (pools.aligned (rules.new_uninit 4096 1 one_hint.config)
          ∙ ap (λ (p : Pool). p.buckets.alignment) (pools.made 4096 1 one_hint.config));
    }

    serves_first : IsServable rules first_hint
    serves_first = record {
      some = some_first;
      fits = pools.fits (padded * s.count) first_hint.config ∙ fits_first;
      supported = ap (nat_lt 4096) (pools.aligned (rules.new_uninit 4096 (padded * s.count) first_hint.config)
          ∙ ap (λ (p : Pool). p.buckets.alignment) (pools.made 4096 (padded * s.count) first_hint.config))
          ∙ aligned_first;
    }

    pub memory_not_refused : creation_refusal rules nothing_registered (memory_plan s) ≡ None
    memory_not_refused =
        not_refused rules (memory_plan s) one_hint first_hint (pools.setup one_byte 1)
        (pools.setup (record { size = s.size; alignment = s.alignment }) s.count ∙ proposed) serves_one serves_first
        named refl (fits_path shm_parts (segment_type_name 0) (transport_name ++ codes "__mgmt") (omega arith))
        (fits_path shm_parts (segment_type_name 0) (transport_name ++ number_end 0)
        (omega (arith, ap length (decimal-small 0 (omega arith)))))

    -- want of memory is all that is left
    pub memory_error : (old : Contents (Segment Pool)) (error : SharedMemoryCreateError) →
        old ≡ nothing_registered →
        (creation_refusal rules old (memory_plan s) ≡ Some error) ⊎ (error ≡ create.NoMemory) →
        error ≡ create.NoMemory
    memory_error old error new (inl refused) =
        absurd (none-some error
        (sym (ap (λ c. creation_refusal rules c (memory_plan s)) new ∙ memory_not_refused) ∙ refused))
    memory_error old error new (inr is) = is

    -- the first segment is as the settings say
    made_first : made_segment rules first_hint
        ≡ new_segment (first_segment s).pool (payload (first_layout s))
    made_first =
        ap (λ pool. new_segment pool (padded * s.count))
        (pools.ready (rules.new_uninit 4096 (padded * s.count) first_hint.config)
        ∙ ap (λ (p : Pool). record p { is_ready = true }) (pools.made 4096 (padded * s.count) first_hint.config)
        ∙ ap (λ (b : SegmentLayout). record {
          buckets = b;
          memory_alignment = 4096;
          used = replicate b.count false;
          is_ready = true;
        }) cut)

    module _ (new : Contents (Segment Pool)) (memory : MemoryState)
        (created : CreatesMemory rules nothing_registered (memory_plan s) new memory) where
      first_is : created.first ≡ first_hint
      first_is =
          same_Some created.first first_hint
          (sym created.first_hint ∙ pools.setup (record { size = s.size; alignment = s.alignment }) s.count ∙ proposed)

      abbrev managed : Contents (Segment Pool)
      managed = managed_contents rules nothing_registered (memory_plan s) created.management

      pub has_first : HasFirstSegment s new memory
      has_first =
          let makes = created.makes in
          subst (λ c. HasFirstSegment s c memory) (sym makes.registry)
          (subst (HasFirstSegment s (first_contents rules managed (memory_plan s) created.first)) (sym makes.is)
          (record {
            name = refl;
            settings = refl;
            strategy = refl;
            current = refl;
            first = ap (λ segment. active_of (Some segment) 0) (ap (made_segment rules) first_is ∙ made_first);
            others = λ number apart. empty number apart;
          }))
        where
          empty : (number : ℕ) → number ≢ 0 →
              active_at (first_contents rules managed (memory_plan s) created.first)
              (with_segment (empty_slots 256) 0 (first_handle managed (memory_plan s))) number ≡ None
          empty zero apart = absurd (apart refl)
          empty (suc n) apart =
              ap (λ slot. active_of (value_in (first_contents rules managed (memory_plan s) created.first) slot)
              (count_in slot)) (everywhere 255 n None)
