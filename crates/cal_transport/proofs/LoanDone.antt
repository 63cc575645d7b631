-- A loan that hands a bucket out, from what the calls on the memory say.
use Rattle.std.proofs.Common.{ℕ, ◌+◌, ◌-◌, ◌/◌, ◌<◌, ◌≤◌, ◌≡◌, ◌≢◌, Bool, true, false, cond, not, ◌&&◌, nat_eq, List, [], ◌∷◌, ◌++◌, length, set, replicate, Option, Some, None, is_some, IsSome, option_map, Result, Ok, Err, Vec, refl, sym, ap, ◌∙◌, subst, arith, length-append}
use Rattle.std.specs.declared.alloc.Global.{Global}
use Rattle.std.specs.Int.{is_power_of_two}
use Rattle.std.proofs.lemmas.Bool.{true≢false, eqb-false}
use Rattle.std.proofs.lemmas.List.{length-set}
use Rattle.std.proofs.lemmas.Option.{none-some, same_Some}
use Rattle.cal_alloc.specs.Growth.{SegmentLayout}
use Rattle.cal_alloc.specs.Hints.{pool_resize_hint}
use Rattle.cal_alloc.specs.Pool.{Pool, pool_refusal, pool_properties, buckets_within}
use Rattle.cal_alloc.specs.PointerOffset.{offset_of, segment_of, pointer_offset}
use Rattle.cal_alloc.specs.SizeAndAlignment.{SizeAndAlignment}
use Rattle.cal_alloc.specs.declared.pool_allocator.Config.{Config}
use Rattle.cal_alloc.specs.declared.shm_allocator.SharedMemorySetupHint.{SharedMemorySetupHint}
use Rattle.cal_alloc.specs.declared.shm_allocator.ShmAllocationError.{ShmAllocationError}
use Rattle.cal_storage.specs.Contents.{Contents}
use Rattle.cal_shm.specs.Calls.{IsInPayload, IsChunkWithin}
use Rattle.cal_shm.specs.Segment.{Segment, with_allocator}
use Rattle.cal_resizable.specs.Chunks.{segment_value, GrowsTo}
use Rattle.cal_resizable.specs.Growth.{OfSegment, may_help, grows, growth_plan, hint_or_error, AllocatesBy, AllocatesAfter, made_segment, grown_contents, grown_memory, next_number_of_buckets}
use Rattle.cal_resizable.specs.Memory.{MemoryState, IsSoundMemory}
use Rattle.cal_resizable.specs.Slots.{segment_at, count_at}
use Rattle.cal_resizable.specs.declared.errors.ResizableShmAllocationError.{ResizableShmAllocationError}
use Rattle.cal_resizable.specs.declared.errors.ResizableShmAllocationError.TheVariants as error
use Rattle.cal_transport.specs.declared.command.Command.TheVariants as command
use Rattle.cal_transport.specs.declared.reply.Slot.{Slot}
use Rattle.cal_transport.specs.declared.reply.Reply.TheVariants.{Loaned}
use Rattle.cal_transport.specs.declared.transport.chunk_entry.ChunkEntry.{ChunkEntry}
use Rattle.cal_transport.specs.Ledger.{Ledger, layout_at}
use Rattle.cal_transport.specs.Cause.{current_segment}
use Rattle.cal_transport.specs.ChunkEntry.{AreBelow}
use Rattle.cal_transport.specs.LoanCause.{is_static, serves, next_segment, loan_cause}
use Rattle.cal_transport.specs.Owning.{IsTableFor, with_table, with_owner, table_at, tables_in}
use Rattle.cal_transport.specs.Putting.{PutsBytes}
use Rattle.cal_transport.specs.Settings.{is_too_large}
use Rattle.cal_transport.specs.Shown.{ShowsActive, Shows, Tracks}
use Rattle.cal_transport.specs.State.{TransportState, active_of, core_of, IsLinked, Represents, Does}
use Rattle.cal_transport.specs.Step.{grown_ledger, with_loan_at}
use Rattle.cal_transport.proofs.Growing.{sound_grown}
use Rattle.cal_transport.proofs.GrowthStep.{with_next, grown_shows, grown_tracks}
use Rattle.cal_transport.proofs.Handed.{Hands, hands}
use Rattle.cal_transport.proofs.LoanCauses.{seen_as, shown_current, next_makeable, next_hint, growing_is}
use Rattle.cal_transport.proofs.LoanCode.{sound_at, loan_done_does}
use Rattle.cal_transport.proofs.LoanGrowth.{grows_at}
use Rattle.cal_transport.proofs.LoanLent.{new_entry, owes, lent_shows_loan, lent_tracks_loan}
use Rattle.cal_transport.proofs.NextBuckets.{AreMakeable, hint_for, fresh, cut}
use Rattle.cal_transport.proofs.PoolCauses.{serves_is}
use Rattle.cal_transport.proofs.PoolRules.{pool_rules}
use Rattle.cal_transport.proofs.Segments.{of_shown, from_shown, shown_held}
use Rattle.cal_transport.proofs.Settled.{settled}
use Rattle.cal_transport.proofs.Stands.{done}

-- ---- the plan of a growth

-- a plan that makes a segment
record Plans (growing last : Bool) (o : Option (SharedMemorySetupHint Config)) (hint : SharedMemorySetupHint Config) :
    Type 0 where
  growing_is : growing ≡ true
  last_is : last ≡ false
  hint_is : o ≡ Some hint

plan_ok : (helps growing last : Bool) (o : Option (SharedMemorySetupHint Config)) (why : ShmAllocationError)
    (hint : SharedMemorySetupHint Config) →
    cond (not (helps && (growing && true))) (Err (error.ShmAllocationError why))
    (cond last (Err error.MaxReallocationsReached) (hint_or_error pool_rules o)) ≡ Ok hint →
    Plans growing last o hint
plan_ok true true false (Some other) why hint is = record {
  growing_is = refl;
  last_is = refl;
  hint_is = (let q = is in cc);
}
plan_ok true true false None why hint is = absurd (let q = is in cc)
plan_ok true true true o why hint is = absurd (let q = is in cc)
plan_ok true false last o why hint is = absurd (let q = is in cc)
plan_ok false growing last o why hint is = absurd (let q = is in cc)

-- how many buckets a proposal has
abbrev count_of : Option (SharedMemorySetupHint Config) → Option ℕ
count_of o = option_map (λ hint. (buckets_within hint.payload_size hint.config.bucket_layout).count) o

-- the state that has grown, or the same one
abbrev pub between_state : TransportState → Contents (Segment Pool) → MemoryState → Option (Vec ℕ Global) →
    TransportState
between_state t contents grown table = record t {
  memory_registry = contents;
  memory = grown;
  owners = with_table t.owners table;
}

-- the state from which a bucket is handed out, where the memory has grown if it had to
pub record Between (t : TransportState) (size alignment pointer : ℕ) (handed : Contents (Segment Pool))
    (memory : MemoryState) (table : Option (Vec ℕ Global)) : Type 0 where
  pub contents : Contents (Segment Pool)
  pub grown : MemoryState
  pub given : Hands contents grown pointer handed memory
  pub strategy : grown.strategy ≡ t.memory.strategy
  pub tabled : length (with_table t.owners table) ≡ grown.current + 1
  pub few : length t.owners + tables_in table ≤ 256
  pub shows : (l : Ledger) → Represents t l →
      Shows (core_of (between_state t contents grown table)) (grown_ledger l size alignment)
  pub tracks : (l : Ledger) → Represents t l →
      Tracks (core_of (between_state t contents grown table)) (grown_ledger l size alignment)

module _ (t : TransportState) (linked : IsLinked t) (size alignment : ℕ) (power : is_power_of_two alignment ≡ true)
    (segment : Segment Pool)
    (there : segment_value t.memory_registry t.memory.slots t.memory.current ≡ Some segment) (pointer : ℕ)
    (handed : Contents (Segment Pool)) (memory : MemoryState) (sound : IsSoundMemory memory)
    (growth : (hint : SharedMemorySetupHint Config) → t.memory.current < 255 →
    GrowsTo t.memory_registry t.memory (made_segment pool_rules hint)
    (grown_contents pool_rules t.memory_registry t.memory hint) (grown_memory t.memory_registry t.memory)) where
  abbrev layout : SizeAndAlignment
  layout = record { size = size; alignment = alignment }

  abbrev number : ℕ
  number = t.memory.current

  abbrev next : Ledger → SegmentLayout
  next l = next_segment (current_segment l) size alignment

  served : (l : Ledger) (r : Represents t l) → serves (current_segment l) size alignment
      ≡ not (is_some (pool_refusal segment.allocator layout))
  served l r = serves_is l (seen_as t segment) (shown_current t l (settled l r.place r.sound) r.shows segment there)
      layout

  -- the memory serves the loan as it is
  stays : (table : Option (Vec ℕ Global)) → pool_refusal segment.allocator layout ≡ None →
      Hands t.memory_registry t.memory pointer handed memory → IsTableFor None (Ok table) →
      Between t size alignment pointer handed memory table
  stays (Some table) none given tab = absurd (none-some (length table.items) tab)
  stays None none given tab = record {
    contents = t.memory_registry;
    grown = t.memory;
    given = given;
    strategy = refl;
    tabled = linked.owners;
    few = (let many = linked.owners in let below = linked.together.memory_sound.below in omega arith);
    shows = λ l r. subst (λ b. Shows (core_of t) (cond b l (with_next l (next l))))
        (sym (served l r ∙ ap (λ o. not (is_some o)) none)) r.shows;
    tracks = λ l r. subst (λ b. Tracks (core_of t) (cond b l (with_next l (next l))))
        (sym (served l r ∙ ap (λ o. not (is_some o)) none)) r.tracks;
  }

  -- the memory has grown by a hint
  module _ (why : ShmAllocationError) (refused : pool_refusal segment.allocator layout ≡ Some why)
      (hint : SharedMemorySetupHint Config) (growing : grows t.memory.strategy ≡ true)
      (last : nat_eq number 255 ≡ false)
      (hint_is : pool_resize_hint segment.allocator layout t.memory.strategy ≡ Some hint) where
    abbrev contents : Contents (Segment Pool)
    contents = grown_contents pool_rules t.memory_registry t.memory hint

    abbrev grown : MemoryState
    grown = grown_memory t.memory_registry t.memory

    not_last : number < 255
    not_last = let apart = eqb-false number 255 last in
        let below = linked.together.memory_sound.below in omega (arith, apart)

    not_static : (l : Ledger) (r : Represents t l) → is_static l.settings.strategy ≡ false
    not_static l r = turned (is_static l.settings.strategy)
        (sym (growing_is t l (settled l r.place r.sound) r.shows linked layout power segment there) ∙ growing)
      where
        turned : (b : Bool) → not b ≡ true → b ≡ false
        turned true e = absurd (true≢false (sym e))
        turned false e = refl

    makes : (l : Ledger) (r : Represents t l) → AreMakeable (next l)
    makes l r = next_makeable t l (settled l r.place r.sound) r.shows linked layout power segment there
        (not_static l r)

    hint_for_next : (l : Ledger) (r : Represents t l) → hint ≡ hint_for (next l)
    hint_for_next l r = go (is_too_large (next l))
        (sym hint_is ∙ next_hint t l (settled l r.place r.sound) r.shows linked layout power segment there
        (not_static l r))
      where
        go : (b : Bool) → Some hint ≡ cond (not b) (Some (hint_for (next l))) None → hint ≡ hint_for (next l)
        go false e = same_Some hint (hint_for (next l)) e
        go true e = absurd (none-some hint (sym e))

    module _ (table : Vec ℕ Global) (counted : Some (buckets_within hint.payload_size hint.config.bucket_layout).count
        ≡ Some (length table.items)) where
      long : (l : Ledger) (r : Represents t l) → length table.items ≡ (next l).count
      long l r =
          sym (same_Some (buckets_within hint.payload_size hint.config.bucket_layout).count (length table.items)
          counted)
          ∙ ap (λ (h : SharedMemorySetupHint Config). (buckets_within h.payload_size h.config.bucket_layout).count)
          (hint_for_next l r)
          ∙ ap (λ (b : SegmentLayout). b.count) (cut (next l) (makes l r))

      inside : number < length t.memory.slots
      inside = let all = linked.together.memory_sound.places in let below = not_last in omega arith

      grows_to : (l : Ledger) (r : Represents t l) →
          GrowsTo t.memory_registry t.memory (made_segment pool_rules (hint_for (next l))) contents grown
      grows_to l r = subst (λ h. GrowsTo t.memory_registry t.memory (made_segment pool_rules h) contents grown)
          (hint_for_next l r) (growth hint not_last)

      unserved : (l : Ledger) (r : Represents t l) → serves (current_segment l) size alignment ≡ false
      unserved l r = served l r ∙ ap (λ o. not (is_some o)) refused

      grew : Hands contents grown pointer handed memory →
          Between t size alignment pointer handed memory (Some table)
      grew given = record {
        contents = contents;
        grown = grown;
        given = given;
        strategy = refl;
        tabled = length-append t.owners (table.items ∷ []) ∙ ap (λ n. n + 1) linked.owners;
        few = (let many = linked.owners in let below = not_last in omega arith);
        shows = λ l r. subst (λ b. Shows (core_of (between_state t contents grown (Some table)))
            (cond b l (with_next l (next l)))) (sym (unserved l r))
            (grown_shows (core_of t) (core_of (between_state t contents grown (Some table))) l
            (settled l r.place r.sound) (next l) (fresh (next l) (makes l r))
            (grows_at t (next l) (makes l r) contents grown (grows_to l r) table.items (long l r) linked.owners inside)
            r.shows r.tracks);
        tracks = λ l r. subst (λ b. Tracks (core_of (between_state t contents grown (Some table)))
            (cond b l (with_next l (next l)))) (sym (unserved l r))
            (grown_tracks (core_of t) (core_of (between_state t contents grown (Some table))) l
            (settled l r.place r.sound) (next l) (fresh (next l) (makes l r))
            (grows_at t (next l) (makes l r) contents grown (grows_to l r) table.items (long l r) linked.owners inside)
            r.shows r.tracks);
      }

    by_table : (table : Option (Vec ℕ Global)) → Hands contents grown pointer handed memory →
        IsTableFor (Some (buckets_within hint.payload_size hint.config.bucket_layout).count) (Ok table) →
        Between t size alignment pointer handed memory table
    by_table None given tab = absurd (none-some (buckets_within hint.payload_size hint.config.bucket_layout).count
        (sym tab))
    by_table (Some table) given tab = grew table tab given

  -- what the calls say leads to one of both
  pub between : (table : Option (Vec ℕ Global)) →
      AllocatesAfter pool_rules t.memory_registry t.memory layout pointer handed memory segment.allocator
      (pool_refusal segment.allocator layout) →
      IsTableFor (next_number_of_buckets t.memory.strategy t.memory.current layout segment.allocator) (Ok table) →
      Between t size alignment pointer handed memory table
  between table = by_refusal (pool_refusal segment.allocator layout) refl
    where
      by_plan : (why : ShmAllocationError) → pool_refusal segment.allocator layout ≡ Some why →
          (plan : Result (SharedMemorySetupHint Config) ResizableShmAllocationError) →
          growth_plan pool_rules t.memory.strategy number layout segment.allocator why ≡ plan →
          AllocatesBy pool_rules t.memory_registry t.memory layout pointer handed memory plan →
          IsTableFor (cond (grows t.memory.strategy && not (nat_eq number 255))
          (count_of (pool_resize_hint segment.allocator layout t.memory.strategy)) None) (Ok table) →
          Between t size alignment pointer handed memory table
      by_plan why e (Err other) is given tab = absurd given
      by_plan why e (Ok hint) is given tab =
          let p = plan_ok (may_help why) (grows t.memory.strategy) (nat_eq number 255)
          (pool_resize_hint segment.allocator layout t.memory.strategy) why hint is in
          by_table why e hint p.growing_is p.last_is p.hint_is table
          (hands (grown_contents pool_rules t.memory_registry t.memory hint)
          (grown_memory t.memory_registry t.memory) layout pointer handed memory given sound)
          (subst (λ o. IsTableFor (count_of o) (Ok table)) p.hint_is
          (subst (λ b. IsTableFor (cond (true && not b)
          (count_of (pool_resize_hint segment.allocator layout t.memory.strategy)) None) (Ok table)) p.last_is
          (subst (λ b. IsTableFor (cond (b && not (nat_eq number 255))
          (count_of (pool_resize_hint segment.allocator layout t.memory.strategy)) None) (Ok table)) p.growing_is
          tab)))

      by_refusal : (o : Option ShmAllocationError) → pool_refusal segment.allocator layout ≡ o →
          AllocatesAfter pool_rules t.memory_registry t.memory layout pointer handed memory segment.allocator
          (pool_refusal segment.allocator layout) →
          IsTableFor (next_number_of_buckets t.memory.strategy number layout segment.allocator) (Ok table) →
          Between t size alignment pointer handed memory table
      by_refusal None e given tab =
          stays table e
          (hands t.memory_registry t.memory layout pointer handed memory
          (subst (AllocatesAfter pool_rules t.memory_registry t.memory layout pointer handed memory segment.allocator)
          e given) sound)
          (subst (λ o. IsTableFor (cond (is_some o && (grows t.memory.strategy && not (nat_eq number 255)))
          (count_of (pool_resize_hint segment.allocator layout t.memory.strategy)) None) (Ok table)) e tab)
      by_refusal (Some why) e given tab =
          by_plan why e (growth_plan pool_rules t.memory.strategy number layout segment.allocator why) refl
          (subst (AllocatesAfter pool_rules t.memory_registry t.memory layout pointer handed memory segment.allocator)
          e given)
          (subst (λ o. IsTableFor (cond (is_some o && (grows t.memory.strategy && not (nat_eq number 255)))
          (count_of (pool_resize_hint segment.allocator layout t.memory.strategy)) None) (Ok table)) e tab)

-- ---- the state after the loan

module _ (t : TransportState) (linked : IsLinked t) (name size alignment : ℕ) (below : AreBelow t.entries name)
    (pointer : ℕ) (handed : Contents (Segment Pool)) (memory : MemoryState) (table : Option (Vec ℕ Global))
    (b : Between t size alignment pointer handed memory table) where
  left_size : (with_allocator b.given.was b.given.left).allocator.buckets.size ≡ b.given.was.allocator.buckets.size
  left_size = ap (λ (p : Pool). p.buckets.size) b.given.given.after

  -- the segment of the bucket, which was handed out
  handed_there : segment_value handed memory.slots (segment_of pointer)
      ≡ Some (with_allocator b.given.was b.given.left)
  handed_there = ap (segment_value handed memory.slots) b.given.carries ∙ b.given.becomes

  pub handed_held : IsSome (segment_at memory.slots (segment_of pointer))
  handed_held = shown_held handed memory.slots (segment_of pointer) (with_allocator b.given.was b.given.left)
      handed_there

  module _ (bucket_size : ℕ) (size_is : (s : Segment Pool) →
      segment_value handed memory.slots (segment_of pointer) ≡ Some s → bucket_size ≡ s.allocator.buckets.size) where
    size_there : bucket_size ≡ b.given.was.allocator.buckets.size
    size_there = size_is (with_allocator b.given.was b.given.left) handed_there ∙ left_size

    pub some_size : 0 < bucket_size
    some_size = let some = b.given.given.sound.not_empty in let same = size_there in omega arith

    -- the bucket lies in the payload
    pub clears_within : OfSegment handed memory.slots (segment_of pointer)
        (λ s. IsChunkWithin pool_properties s (record { size = size; alignment = alignment }) pointer) →
        OfSegment handed memory.slots (segment_of pointer)
        (λ s. IsInPayload s.payload (offset_of pointer) bucket_size)
    clears_within within =
        from_shown handed memory.slots (segment_of pointer)
        (λ s. IsInPayload s.payload (offset_of pointer) bucket_size)
        (with_allocator b.given.was b.given.left) handed_there
        (subst (λ n. offset_of pointer + n ≤ length b.given.was.payload)
        (sym (size_is (with_allocator b.given.was b.given.left) handed_there))
        (of_shown handed memory.slots (segment_of pointer)
        (λ s. IsChunkWithin pool_properties s (record { size = size; alignment = alignment }) pointer)
        (with_allocator b.given.was b.given.left) within handed_there))

    abbrev pub bucket : ℕ
    bucket = offset_of pointer / bucket_size

    bucket_there : bucket ≡ offset_of pointer / b.given.was.allocator.buckets.size
    bucket_there = ap (λ n. offset_of pointer / n) size_there

    owner_there : bucket < b.given.was.allocator.buckets.count
    owner_there =
        subst (λ n. n < b.given.was.allocator.buckets.count)
        (ap (λ n. n / b.given.was.allocator.buckets.size) (within_segment (offset_of pointer)) ∙ sym bucket_there)
        b.given.given.exists
      where
        within_segment : (offset : ℕ) → offset_of (pointer_offset offset 0) ≡ offset
        within_segment offset = omega arith

    -- the table of its segment has a place for its owner
    pub owner_place : (l : Ledger) → Represents t l →
        bucket < length (table_at (with_table t.owners table) (segment_of pointer))
    owner_place l r =
        let after = grown_ledger l size alignment in
        let shown = b.shows l r in
        let there = (subst (ShowsActive after b.grown.current)
        (ap (λ o. active_of o (count_at b.grown.slots b.grown.current)) b.given.origin)
        (shown.active b.grown.current)).1 in
        let long : length (table_at (with_table t.owners table) (segment_of pointer))
        ≡ b.given.was.allocator.buckets.count =
        ap (λ n. length (table_at (with_table t.owners table) n)) (b.given.carries ∙ shown.current)
        ∙ (b.tracks l r).table
        ∙ ap (λ n. (layout_at after n).count) (sym shown.current)
        ∙ ap (λ (s : SegmentLayout). s.count) (sym there.layout) in
        subst (λ n. bucket < n) (sym long) owner_there

    module _ (cleared : Contents (Segment Pool))
        (put : PutsBytes memory t.view handed (segment_of pointer) (offset_of pointer) (replicate bucket_size 0)
        cleared)
        (spare tables : ℕ) where
      abbrev m : TransportState
      m = between_state t b.contents b.grown table

      put_there : PutsBytes memory t.view handed (segment_of pointer) (offset_of pointer)
          (replicate b.given.was.allocator.buckets.size 0) cleared
      put_there = subst (λ n. PutsBytes memory t.view handed (segment_of pointer) (offset_of pointer) (replicate n 0)
          cleared) size_there put

      -- the transport with these entries and tables of owners
      abbrev pub loaned_state : List ChunkEntry → List (List ℕ) → TransportState
      loaned_state entries owners = record t {
        memory_registry = cleared;
        memory = memory;
        entries = entries;
        owners = owners;
        spare = spare;
        spare_tables = tables;
      }

      abbrev pub entries_then : List ChunkEntry
      entries_then = t.entries ++ new_entry name (segment_of pointer) bucket ∷ []

      abbrev pub owners_then : List (List ℕ)
      owners_then = with_owner (with_table t.owners table) (segment_of pointer) bucket (length t.entries)

      current_kept : memory.current ≡ b.grown.current
      current_kept = ap (λ (n : MemoryState). n.current) b.given.memory

      owners_long : length owners_then ≡ memory.current + 1
      owners_long =
          length-set (with_table t.owners table) (segment_of pointer)
          (set (table_at (with_table t.owners table) (segment_of pointer)) bucket (length t.entries))
          ∙ b.tabled ∙ ap (λ n. n + 1) (sym current_kept)

      tables_long : (o : Option (Vec ℕ Global)) → length (with_table t.owners o) ≡ length t.owners + tables_in o
      tables_long None = omega arith
      tables_long (Some more) = length-append t.owners (more.items ∷ [])

      linked_then : t.spare_tables ≡ tables + tables_in table → IsLinked (loaned_state entries_then owners_then)
      linked_then room = record {
        together = put.together;
        strategy = ap (λ (n : MemoryState). n.strategy) b.given.memory ∙ b.strategy ∙ linked.strategy;
        ports = linked.ports;
        counts = linked.counts;
        lent = linked.lent;
        transits = linked.transits;
        owners = owners_long;
        tables = (let now = owners_long in let one = b.tabled in let two = tables_long table in
            let same = current_kept in let all = linked.tables in omega arith);
        marks = linked.marks;
        pairs = linked.pairs;
      }

      abbrev pub slot : Slot
      slot = record { chunk = name; segment = segment_of pointer; place = offset_of pointer }

      does_then : ((l : Ledger) → Represents t l → loan_cause (current_segment l) size alignment ≡ None) →
          Does t name (command.Loan size alignment) (Loaned slot) (loaned_state entries_then owners_then)
      does_then none = loan_done_does t name below size alignment (loaned_state entries_then owners_then)
          (Loaned slot) (λ l r. (
          let after = sound_grown l name size alignment (sound_at t name below l r) (none l r) in
          let g = settled (grown_ledger l size alignment) name after in
          let tabled : b.grown.current < length (with_table t.owners table) = (let e = b.tabled in omega arith) in
          done (core_of (loaned_state entries_then owners_then)) l
          (with_loan_at (grown_ledger l size alignment) name (offset_of pointer)) name
          (command.Loan size alignment) (Loaned slot) (none l r)
          (owes m pointer handed memory b.given cleared put_there name bucket bucket_there spare tables
          (grown_ledger l size alignment) g after.names (b.shows l r) (b.tracks l r) tabled)
          refl
          (lent_shows_loan m pointer handed memory b.given cleared put_there name bucket bucket_there spare tables
          (grown_ledger l size alignment) g after.names (b.shows l r) (b.tracks l r) tabled)
          (lent_tracks_loan m pointer handed memory b.given cleared put_there name bucket bucket_there spare tables
          (grown_ledger l size alignment) g after.names (b.shows l r) (b.tracks l r) tabled)))

      module _ (entries : List ChunkEntry) (entries_are : entries ≡ entries_then) (owners : List (List ℕ))
          (owners_are : owners ≡ owners_then) where
        pub loaned_linked : t.spare_tables ≡ tables + tables_in table → IsLinked (loaned_state entries owners)
        loaned_linked room =
            subst (λ es. IsLinked (loaned_state es owners)) (sym entries_are)
            (subst (λ os. IsLinked (loaned_state entries_then os)) (sym owners_are) (linked_then room))

        pub loaned_does : ((l : Ledger) → Represents t l → loan_cause (current_segment l) size alignment ≡ None) →
            (answered : Slot) → answered ≡ slot →
            Does t name (command.Loan size alignment) (Loaned answered) (loaned_state entries owners)
        loaned_does none answered answered_is =
            subst (λ a. Does t name (command.Loan size alignment) (Loaned a) (loaned_state entries owners))
            (sym answered_is)
            (subst (λ es. Does t name (command.Loan size alignment) (Loaned slot) (loaned_state es owners))
            (sym entries_are)
            (subst (λ os. Does t name (command.Loan size alignment) (Loaned slot) (loaned_state entries_then os))
            (sym owners_are) (does_then none)))
