-- A loan, from what the calls on the memory say.
use Rattle.std.proofs.Common.{ℕ, ◌+◌, ◌≡◌, ◌≢◌, ◌⊎◌, inl, inr, Bool, true, false, cond, not, ◌&&◌, nat_eq, Option, Some, None, is_some, IsSome, option_map, Err, refl, sym, ap, ◌∙◌, subst}
use Rattle.std.specs.Prelude.{IsTrue}
use Rattle.std.specs.Int.{is_power_of_two}
use Rattle.std.proofs.lemmas.Bool.{true≢false, and_from}
use Rattle.cal_alloc.specs.Hints.{pool_resize_hint}
use Rattle.cal_alloc.specs.Pool.{Pool, pool_refusal, buckets_within}
use Rattle.cal_alloc.specs.SizeAndAlignment.{SizeAndAlignment}
use Rattle.cal_alloc.specs.declared.pool_allocator.Config.{Config}
use Rattle.cal_alloc.specs.declared.shm_allocator.SharedMemorySetupHint.{SharedMemorySetupHint}
use Rattle.cal_alloc.specs.declared.shm_allocator.ShmAllocationError.{ShmAllocationError}
use Rattle.cal_shm.specs.Segment.{Segment}
use Rattle.cal_shm.specs.declared.errors.SharedMemoryCreateError.TheVariants as create
use Rattle.cal_resizable.specs.Chunks.{segment_value}
use Rattle.cal_resizable.specs.Growth.{grows, allocation_refusal, next_number_of_buckets}
use Rattle.cal_resizable.specs.declared.errors.ResizableShmAllocationError.{ResizableShmAllocationError}
use Rattle.cal_resizable.specs.declared.errors.ResizableShmAllocationError.TheVariants as error
use Rattle.cal_transport.specs.declared.command.Command.TheVariants as command
use Rattle.cal_transport.specs.declared.reply.Reply.{Reply}
use Rattle.cal_transport.specs.declared.reply.Reply.TheVariants.{Refused}
use Rattle.cal_transport.specs.declared.reply.Refusal.{Refusal}
use Rattle.cal_transport.specs.declared.reply.Refusal.TheVariants as refusal
use Rattle.cal_transport.specs.declared.transport.loaning.LoanError.TheVariants as answer
use Rattle.cal_transport.specs.Ledger.{Ledger, current}
use Rattle.cal_transport.specs.Cause.{current_segment}
use Rattle.cal_transport.specs.ChunkEntry.{AreBelow}
use Rattle.cal_transport.proofs.InsideDoes.{LoanDoes, LoanRunsOut}
use Rattle.cal_transport.specs.LoanCause.{is_static, static_cause, growth_cause, serves, next_segment, loan_cause, needs_segment}
use Rattle.cal_transport.specs.LoanErrors.{CanCome, loan_answer, pool_answer}
use Rattle.cal_transport.specs.Shown.{entry_of}
use Rattle.cal_transport.specs.Soundness.{IsSoundLedger}
use Rattle.cal_transport.specs.State.{TransportState, core_of, IsLinked, Represents, Does}
use Rattle.cal_transport.proofs.Fronts.{entry_at}
use Rattle.cal_transport.proofs.LoanCauses.{AreAlike, HasCurrent, seen_as, has_current, alike, even, growing_is}
use Rattle.cal_transport.proofs.PoolCauses.{static_is, serves_is}
use Rattle.cal_transport.proofs.PoolRules.{pool_rules}
use Rattle.cal_transport.proofs.Settled.{settled}
use Rattle.cal_transport.proofs.Sound.{sound_step}
use Rattle.cal_transport.proofs.Stands.{Steps, refused}

-- ---- every ledger that the transport stands for, at the place of the loan

module _ (t : TransportState) (name : ℕ) (below : AreBelow t.entries name) where
  pub sound_at : (l : Ledger) → Represents t l → IsSoundLedger l name
  sound_at l r = record {
    room = r.sound.room;
    segments = r.sound.segments;
    names = record {
      rising = r.sound.names.rising;
      before = λ i a there. below i (entry_of l.histories a) (entry_at (core_of t) l i a r.shows there);
    };
    within = r.sound.within;
    apart = r.sound.apart;
    channels = r.sound.channels;
    histories = r.sound.histories;
    known = r.sound.known;
    opened = r.sound.opened;
  }

  module _ (size alignment : ℕ) where
    -- a reply that answers the loan
    pub loan_done_does : (new : TransportState) (reply : Reply) → ((l : Ledger) (r : Represents t l) →
        Steps (core_of new) l name (command.Loan size alignment) reply) →
        Does t name (command.Loan size alignment) reply new
    loan_done_does new reply steps l r = (
      (steps l r).step,
      record {
        place = name + 1;
        sound = sound_step l name (command.Loan size alignment) reply (sound_at l r) (steps l r).step;
        shows = (steps l r).shows;
        tracks = (steps l r).tracks;
      },
    )

    pub loan_refused_does : (why : Refusal) → ((l : Ledger) → Represents t l →
        loan_cause (current_segment l) size alignment ≡ Some why) →
        Does t name (command.Loan size alignment) (Refused why) t
    loan_refused_does why cause = loan_done_does t (Refused why) (λ l r.
        refused (core_of t) l name (command.Loan size alignment) why r.shows r.tracks (cause l r))

    module _ (linked : IsLinked t) (power : is_power_of_two alignment ≡ true) where
      abbrev layout : SizeAndAlignment
      layout = record { size = size; alignment = alignment }

      abbrev here : (l : Ledger) (r : Represents t l) → HasCurrent t l
      here l r = has_current t l (settled l r.place r.sound) r.shows

      alike_at : (l : Ledger) (r : Represents t l) → AreAlike (loan_cause (current_segment l) size alignment)
          (allocation_refusal pool_rules t.memory_registry t.memory layout (here l r).segment)
      alike_at l r = alike t l (settled l r.place r.sound) r.shows linked layout power (here l r).segment
          (here l r).there

      -- ---- an answer that is an error

      -- a refusal of the memory is the ledger's
      cause_told : (l : Ledger) → (o : Option Refusal) (e : ResizableShmAllocationError) → AreAlike o (Some e) →
          (why : Refusal) × (o ≡ Some why) × CanCome e × (loan_answer e ≡ answer.Refused why)
      cause_told l None e both = absurd both
      cause_told l (Some why) e both = (why, refl, both.0, both.1)

      told : (l : Ledger) (r : Represents t l) (e : ResizableShmAllocationError) →
          allocation_refusal pool_rules t.memory_registry t.memory layout (here l r).segment ≡ Some e →
          (why : Refusal) × (loan_cause (current_segment l) size alignment ≡ Some why) × CanCome e
          × (loan_answer e ≡ answer.Refused why)
      told l r e is = cause_told l (loan_cause (current_segment l) size alignment) e
          (subst (AreAlike (loan_cause (current_segment l) size alignment)) is (alike_at l r))

      -- a further segment is needed where the pool refuses and memory grows
      needs : (l : Ledger) (r : Represents t l) → serves (current_segment l) size alignment ≡ false →
          is_static l.settings.strategy ≡ false → IsTrue (needs_segment (current_segment l) size alignment)
      needs l r unserved growing =
          and_from (is_power_of_two alignment && not (is_static l.settings.strategy))
          (not (serves (current_segment l) size alignment))
          (and_from (is_power_of_two alignment) (not (is_static l.settings.strategy)) power (ap not growing))
          (ap not unserved)

      unserved_at : (l : Ledger) (r : Represents t l) →
          is_some (pool_refusal (here l r).segment.allocator layout) ≡ true →
          serves (current_segment l) size alignment ≡ false
      unserved_at l r refused =
          serves_is l (seen_as t (here l r).segment) (here l r).was layout ∙ ap not refused

      -- memory ran out for the table of the next segment's buckets
      pub table_runs_out : ((segment : Segment Pool) →
          segment_value t.memory_registry t.memory.slots t.memory.current ≡ Some segment →
          IsSome (next_number_of_buckets t.memory.strategy t.memory.current layout segment.allocator)) →
          LoanRunsOut t size alignment t
      table_runs_out some = record {
        wanted = λ l r. (
            let parts = asked (pool_refusal (here l r).segment.allocator layout) (grows t.memory.strategy)
            (nat_eq t.memory.current 255)
            (pool_resize_hint (here l r).segment.allocator layout t.memory.strategy)
            (some (here l r).segment (here l r).there) in
            needs l r (unserved_at l r parts.0)
            (turned (is_static l.settings.strategy)
            (sym (growing_is t l (settled l r.place r.sound) r.shows linked layout power (here l r).segment
            (here l r).there) ∙ parts.1)));
        same = λ l r. r;
      }
        where
          turned : (b : Bool) → not b ≡ true → b ≡ false
          turned true e = absurd (true≢false (sym e))
          turned false e = refl

          asked : (o : Option ShmAllocationError) (g last : Bool) (h : Option (SharedMemorySetupHint Config)) →
              is_some (cond (is_some o && (g && not last)) (option_map (λ hint. (buckets_within hint.payload_size
              hint.config.bucket_layout).count) h) None) ≡ true → (is_some o ≡ true) × (g ≡ true)
          asked None g last h e = absurd (true≢false (sym e))
          asked (Some why) true last h e = (refl, refl)
          asked (Some why) false last h e = absurd (true≢false (sym e))

      module _ (e : ResizableShmAllocationError) (refusing : (segment : Segment Pool) →
          segment_value t.memory_registry t.memory.slots t.memory.current ≡ Some segment →
          (o : Option ResizableShmAllocationError) →
          allocation_refusal pool_rules t.memory_registry t.memory layout segment ≡ o →
          ((other : ResizableShmAllocationError) → o ≡ Some other → other ≡ e)
          × ((o ≡ Some e) ⊎ (e ≡ error.SharedMemoryCreateError create.NoMemory))
          × (is_some (pool_refusal segment.allocator layout) ≡ true)) where
        -- what the memory's answer can be
        pub error_comes : (l : Ledger) (r : Represents t l) → CanCome e
        error_comes l r = go (refusing (here l r).segment (here l r).there
            (allocation_refusal pool_rules t.memory_registry t.memory layout (here l r).segment) refl).1
          where
            go : (allocation_refusal pool_rules t.memory_registry t.memory layout (here l r).segment ≡ Some e)
                ⊎ (e ≡ error.SharedMemoryCreateError create.NoMemory) → CanCome e
            go (inl is) = (told l r e is).2
            go (inr none) = subst CanCome (sym none) tt

        runs_out : e ≡ error.SharedMemoryCreateError create.NoMemory → LoanRunsOut t size alignment t
        runs_out none = record {
          wanted = λ l r. (
              let all = refusing (here l r).segment (here l r).there
              (allocation_refusal pool_rules t.memory_registry t.memory layout (here l r).segment) refl in
              needs l r (unserved_at l r all.2) (growing l r (is_static l.settings.strategy) refl
              (pool_refusal (here l r).segment.allocator layout) refl all.2));
          same = λ l r. r;
        }
          where
            -- a static memory says its pool's refusal
            growing : (l : Ledger) (r : Represents t l) (b : Bool) → is_static l.settings.strategy ≡ b →
                (o : Option ShmAllocationError) → pool_refusal (here l r).segment.allocator layout ≡ o →
                is_some (pool_refusal (here l r).segment.allocator layout) ≡ true →
                is_static l.settings.strategy ≡ false
            growing l r false is o e2 some = is
            growing l r true is None e2 some = absurd (true≢false (sym some ∙ ap is_some e2))
            growing l r true is (Some why) e2 some =
                absurd (no_answer (allocation_refusal pool_rules t.memory_registry t.memory layout
                (here l r).segment) refl
                (subst (λ o. AreAlike o (allocation_refusal pool_rules t.memory_registry t.memory layout
                (here l r).segment)) (cause l r is why e2) (alike_at l r)))
              where
                cause : (l : Ledger) (r : Represents t l) → is_static l.settings.strategy ≡ true →
                    (why : ShmAllocationError) → pool_refusal (here l r).segment.allocator layout ≡ Some why →
                    loan_cause (current_segment l) size alignment ≡ Some (pool_answer why)
                cause l r is why e2 =
                    even t l (settled l r.place r.sound) r.shows linked layout power (here l r).segment
                    (here l r).there
                    ∙ ap (λ b. cond b (static_cause (current_segment l) size alignment)
                    (cond (serves (current_segment l) size alignment) None
                    (growth_cause (current_segment l) (next_segment (current_segment l) size alignment)))) is
                    ∙ static_is l (seen_as t (here l r).segment) (here l r).was layout ∙ ap (option_map pool_answer) e2

                no_answer : (o : Option ResizableShmAllocationError) →
                    allocation_refusal pool_rules t.memory_registry t.memory layout (here l r).segment ≡ o →
                    AreAlike (Some (pool_answer why)) o → ⊥
                no_answer None is both = both
                no_answer (Some other) is both =
                    let same = (refusing (here l r).segment (here l r).there (Some other) is).0 other refl in
                    let said : answer.NoMemory ≡ answer.Refused (pool_answer why) =
                    sym (ap loan_answer (same ∙ none)) ∙ both.1 in
                    let q = said in cc

        -- each error of the memory is the answer of a step, or memory ran out
        pub error_does : (l : Ledger) → Represents t l → LoanDoes t name size alignment (Err (loan_answer e)) t
        error_does l r = go (refusing (here l r).segment (here l r).there
            (allocation_refusal pool_rules t.memory_registry t.memory layout (here l r).segment) refl).1
          where
            same_refused : (a b : Refusal) → answer.Refused a ≡ answer.Refused b → a ≡ b
            same_refused a b is = let q = is in cc

            again : (why : Refusal) → loan_answer e ≡ answer.Refused why → (k : Ledger) (q : Represents t k) →
                loan_cause (current_segment k) size alignment ≡ Some why
            again why named k q = by (refusing (here k q).segment (here k q).there
                (allocation_refusal pool_rules t.memory_registry t.memory layout (here k q).segment) refl).1
              where
                by : (allocation_refusal pool_rules t.memory_registry t.memory layout (here k q).segment ≡ Some e)
                    ⊎ (e ≡ error.SharedMemoryCreateError create.NoMemory) →
                    loan_cause (current_segment k) size alignment ≡ Some why
                by (inl is) =
                    let other = told k q e is in
                    other.1 ∙ ap Some (same_refused other.0 why (sym other.3 ∙ named))
                by (inr none) =
                    let said : answer.NoMemory ≡ answer.Refused why = sym (ap loan_answer none) ∙ named in
                    absurd (let w = said in cc)

            go : (allocation_refusal pool_rules t.memory_registry t.memory layout (here l r).segment ≡ Some e)
                ⊎ (e ≡ error.SharedMemoryCreateError create.NoMemory) →
                LoanDoes t name size alignment (Err (loan_answer e)) t
            go (inl is) =
                let first = told l r e is in
                subst (λ a. LoanDoes t name size alignment (Err a) t) (sym first.3)
                (loan_refused_does first.0 (λ k q. again first.0 first.3 k q))
            go (inr none) = subst (λ x. LoanDoes t name size alignment (Err (loan_answer x)) t) (sym none)
                (runs_out none)

-- an alignment that is no power of two is the first cause
pub bad_layout_cause : (l : Ledger) (size alignment : ℕ) → is_power_of_two alignment ≡ false →
    loan_cause (current_segment l) size alignment ≡ Some refusal.BadLayout
bad_layout_cause l size alignment bad = by_power (is_power_of_two alignment) bad
    (cond (is_static l.settings.strategy) (static_cause (current_segment l) size alignment)
    (cond (serves (current_segment l) size alignment) None
    (growth_cause (current_segment l) (next_segment (current_segment l) size alignment))))
  where
    by_power : (p : Bool) → p ≡ false → (rest : Option Refusal) →
        cond (not p) (Some refusal.BadLayout) rest ≡ Some refusal.BadLayout
    by_power p e rest = ap (λ q. cond (not q) (Some refusal.BadLayout) rest) e
