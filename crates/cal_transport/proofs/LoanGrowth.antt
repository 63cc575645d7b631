-- A memory has grown for a loan: the transport shows the ledger with the next segment.
use Rattle.std.proofs.Common.{ℕ, ◌+◌, ◌-◌, ◌<◌, ◌≡◌, ◌≢◌, Bool, true, false, cond, nat_eq, nat_lt, List, [], ◌∷◌, ◌++◌, length, get_or, Option, Some, None, inl, inr, refl, sym, ap, ◌∙◌, arith, length-append}
use Rattle.std.proofs.lemmas.Bool.{cases_lt, eqb-true, eqb-false, lt-ltb}
use Rattle.std.proofs.lemmas.Bool.Decides.{nat_tests}
use Rattle.std.proofs.lemmas.List.{get_or_append_left, get_or_past, get_or_push, get_or-set_same, get_or-set_other}
use Rattle.std.proofs.lemmas.Option.{none-some, same_Some}
use Rattle.cal_alloc.specs.Growth.{SegmentLayout}
use Rattle.cal_alloc.specs.Pool.{Pool}
use Rattle.cal_storage.specs.Contents.{Contents}
use Rattle.cal_shm.specs.Segment.{Segment}
use Rattle.cal_resizable.specs.Chunks.{segment_value, value_in, GrowsTo}
use Rattle.cal_resizable.specs.Growth.{made_segment}
use Rattle.cal_resizable.specs.Memory.{MemoryState}
use Rattle.cal_resizable.specs.Slots.{Slots, segment_at, count_at, count_in, without_segment, without_unused}
use Rattle.cal_transport.specs.Core.{ActiveSegment, if_active}
use Rattle.cal_transport.specs.State.{TransportState, active_of, active_at, core_of}
use Rattle.cal_transport.proofs.GrowthStep.{GrowsAt}
use Rattle.cal_transport.proofs.NextBuckets.{AreMakeable, hint_for, fresh, is_fresh}
use Rattle.cal_transport.proofs.PoolRules.{pool_rules}

module _ (t : TransportState) (b : SegmentLayout) (m : AreMakeable b) (contents : Contents (Segment Pool))
    (grown : MemoryState)
    (g : GrowsTo t.memory_registry t.memory (made_segment pool_rules (hint_for b)) contents grown)
    (table : List ℕ) (long : length table ≡ b.count) (tabled : length t.owners ≡ t.memory.current + 1)
    (within : t.memory.current < length t.memory.slots) where
  abbrev pub grown_state : TransportState
  grown_state = record t { memory_registry = contents; memory = grown; owners = t.owners ++ table ∷ [] }

  abbrev number : ℕ
  number = t.memory.current

  abbrev left : Slots
  left = without_unused t.memory.slots number

  -- a segment but the new one, as it is left
  kept_at : (other : ℕ) → other ≢ number + 1 → active_at contents grown.slots other
      ≡ active_at t.memory_registry left other
  kept_at other apart =
      ap (λ o. active_of o (count_at grown.slots other)) (g.others.values other apart)
      ∙ ap (λ o. active_of (segment_value t.memory_registry left other) (count_in o)) (g.others.slots other apart)

  former : (shown : ActiveSegment) → active_at t.memory_registry t.memory.slots number ≡ Some shown →
      active_at contents grown.slots number ≡ if_active false shown
  former shown has =
      kept_at number (λ e. absurd (omega arith)) ∙ by_count (nat_eq (count_at t.memory.slots number) 0) refl
    where
      counted : (o : Option (Segment Pool)) → active_of o (count_at t.memory.slots number) ≡ Some shown →
          count_at t.memory.slots number ≡ shown.chunks
      counted None q = absurd (none-some shown q)
      counted (Some found) q = ap (λ (a : ActiveSegment). a.chunks) (same_Some (record {
        pool = found.allocator;
        payload = found.payload;
        chunks = count_at t.memory.slots number;
      }) shown q)

      chunks_are : count_at t.memory.slots number ≡ shown.chunks
      chunks_are = counted (segment_value t.memory_registry t.memory.slots number) has

      by_count : (none : Bool) → nat_eq (count_at t.memory.slots number) 0 ≡ none →
          active_at t.memory_registry left number ≡ if_active false shown
      by_count true e =
          let zero = eqb-true (count_at t.memory.slots number) 0 e in
          let same = chunks_are in
          ap (λ c. active_at t.memory_registry (cond c (without_segment t.memory.slots number) t.memory.slots) number) e
          ∙ ap (λ o. active_of (segment_value t.memory_registry (without_segment t.memory.slots number) number)
          (count_in o)) (get_or-set_same t.memory.slots number None None within)
          ∙ gone
          ∙ sym (ap (λ c. cond c (Some shown) None) (none_lt shown.chunks (omega arith)))
        where
          none_lt : (n : ℕ) → n ≡ 0 → nat_lt 0 n ≡ false
          none_lt n is = grind (arith, nat_tests)

          gone : active_of (segment_value t.memory_registry (without_segment t.memory.slots number) number) 0 ≡ None
          gone = ap (λ o. active_of (value_in t.memory_registry o) 0)
              (get_or-set_same t.memory.slots number None None within)
      by_count false e =
          let some = eqb-false (count_at t.memory.slots number) 0 e in
          let same = chunks_are in
          ap (λ c. active_at t.memory_registry (cond c (without_segment t.memory.slots number) t.memory.slots) number) e
          ∙ has
          ∙ sym (ap (λ c. cond c (Some shown) None) (lt-ltb 0 shown.chunks (omega (arith, some))))

  else_kept : (other : ℕ) → other ≢ number → segment_at left other ≡ segment_at t.memory.slots other
  else_kept other apart = go (nat_eq (count_at t.memory.slots number) 0)
    where
      go : (none : Bool) → segment_at (cond none (without_segment t.memory.slots number) t.memory.slots) other
          ≡ segment_at t.memory.slots other
      go true = get_or-set_other t.memory.slots number other None None apart
      go false = refl

  owners_kept : (segment : ℕ) → segment ≢ number + 1 →
      get_or (t.owners ++ table ∷ []) segment [] ≡ get_or t.owners segment []
  owners_kept segment apart = elim (cases_lt segment (length t.owners)) [
    | inl below ↦ get_or_append_left t.owners (table ∷ []) [] segment below
    | inr past ↦
        let more = length-append t.owners (table ∷ []) in
        get_or_past (t.owners ++ table ∷ []) segment [] (omega (arith, apart))
        ∙ sym (get_or_past t.owners segment [] past)
  ]

  pub grows_at : GrowsAt (core_of t) (core_of grown_state) b (fresh b m)
  grows_at = record {
    settings = refl;
    current = g.current;
    made = ap (λ o. active_of o (count_at grown.slots (number + 1))) g.made_is
        ∙ ap (active_of (Some (made_segment pool_rules (hint_for b)))) g.none_out;
    is_fresh = is_fresh b m;
    former = former;
    others = λ segment apart other. kept_at segment apart
        ∙ ap (λ o. active_of (value_in t.memory_registry o) (count_in o)) (else_kept segment other);
    entries = refl;
    opened_last = refl;
    mapped = λ segment. refl;
    channels = λ k. record { channel = refl; borrowed = refl };
    tracks = λ k. record { lent = refl; transits = refl };
    other_owners = owners_kept;
    table = ap length (get_or_push t.owners table [] (number + 1) tabled) ∙ long;
    in_transit = refl;
  }
