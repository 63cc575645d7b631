-- A bucket of a memory's current segment is handed out, as the call says it.
use Rattle.std.proofs.Common.{ℕ, ◌+◌, ◌*◌, ◌<◌, ◌≡◌, ◌≢◌, false, length, Option, Some, None, IsSomeAnd, option_map, inl, inr, refl, sym, ap, ◌∙◌, subst, arith}
use Rattle.std.proofs.lemmas.List.{get_or-set_same, get_or-set_other, length-set}
use Rattle.std.proofs.lemmas.Option.{none-some}
use Rattle.cal_alloc.specs.Pool.{Pool, GivesFreeBucket, bucket_of}
use Rattle.cal_alloc.specs.PointerOffset.{offset_of, segment_of, pointer_offset}
use Rattle.cal_alloc.specs.SizeAndAlignment.{SizeAndAlignment}
use Rattle.cal_storage.specs.declared.entry.Entry.{Entry}
use Rattle.cal_storage.specs.declared.handle.Handle.{Handle}
use Rattle.cal_storage.specs.Contents.{Contents, entry_of, value_of, with_value}
use Rattle.cal_storage.specs.ValueLemmas.{value_of-with_value-same, value_of-with_value-other}
use Rattle.cal_shm.specs.Segment.{Segment, with_allocator}
use Rattle.cal_resizable.specs.Chunks.{segment_value, value_in}
use Rattle.cal_resizable.specs.Growth.{AllocatesHere, with_chunk}
use Rattle.cal_resizable.specs.Memory.{MemoryState, IsSoundMemory}
use Rattle.cal_resizable.specs.Slots.{Slots, HeldSegment, AreApart, segment_at, count_at, count_in, counted_more, with_more}
use Rattle.cal_transport.specs.State.{active_of, active_at}
use Rattle.cal_transport.proofs.Lists.{same_or_apart}
use Rattle.cal_transport.proofs.PoolRules.{pool_rules}

-- the value of an id that has one, after another was written there
value_written : {T : Type 0} (contents : Contents T) (id : ℕ) (before value : T) → value_of contents id ≡ Some before →
    value_of (with_value contents id value) id ≡ Some value
value_written {T} contents id before value was = go (entry_of contents id) refl was
  where
    go : (o : Option (Entry T)) → entry_of contents id ≡ o →
        option_map (λ (entry : Entry T). entry.value) o ≡ Some before →
        value_of (with_value contents id value) id ≡ Some value
    go None e q = absurd (none-some before q)
    go (Some entry) e q =
        let handle : Handle = record { id = id; path = entry.path; is_owner = false } in
        value_of-with_value-same contents id value handle refl
        (subst (λ (o : Option (Entry T)). IsSomeAnd o (λ (found : Entry T). found.path ≡ entry.path)) (sym e) refl)

-- ---- slots in which one segment is counted once more

-- each slot holds the segment that it held
record HoldsStill (slots : Slots) (number other : ℕ) (held : HeldSegment) : Type 0 where
  now : HeldSegment
  there : segment_at (with_more slots number) other ≡ Some now
  same : now.handle.id ≡ held.handle.id

module _ (slots : Slots) (number : ℕ) (within : number < length slots) where
  more_here : segment_at (with_more slots number) number ≡ counted_more (segment_at slots number)
  more_here = get_or-set_same slots number (counted_more (segment_at slots number)) None within

  more_else : (other : ℕ) → other ≢ number → segment_at (with_more slots number) other ≡ segment_at slots other
  more_else other apart = get_or-set_other slots number other (counted_more (segment_at slots number)) None apart

  still : (other : ℕ) (held : HeldSegment) → segment_at slots other ≡ Some held → HoldsStill slots number other held
  still other held there = elim (same_or_apart other number) [
    | inl same ↦ record {
      now = record held { count = held.count + 1 };
      there = ap (segment_at (with_more slots number)) same ∙ more_here
          ∙ ap counted_more (ap (segment_at slots) (sym same) ∙ there);
      same = refl;
    }
    | inr apart ↦ record { now = held; there = more_else other apart ∙ there; same = refl }
  ]

  -- segments that are apart then were apart before
  apart_before : AreApart (with_more slots number) → AreApart slots
  apart_before apart first second one other differ here there e =
      let a = still first one here in let b = still second other there in
      apart first second a.now b.now differ a.there b.there (a.same ∙ e ∙ sym b.same)

-- ---- the bucket

-- the current segment handed out the bucket at a pointer, and every other segment is as it was
pub record Hands (old : Contents (Segment Pool)) (before : MemoryState) (pointer : ℕ) (new : Contents (Segment Pool))
    (after : MemoryState) : Type 0 where
  pub was : Segment Pool
  pub left : Pool
  pub origin : segment_value old before.slots before.current ≡ Some was
  pub given : GivesFreeBucket was.allocator (pointer_offset (offset_of pointer) 0) left
  pub carries : segment_of pointer ≡ before.current
  pub becomes : segment_value new after.slots before.current ≡ Some (with_allocator was left)
  pub memory : after ≡ with_chunk before
  pub one_more : count_at after.slots before.current ≡ count_at before.slots before.current + 1
  pub others : (other : ℕ) → other ≢ before.current →
      active_at new after.slots other ≡ active_at old before.slots other

module _ (old : Contents (Segment Pool)) (before : MemoryState) (layout : SizeAndAlignment) (pointer : ℕ)
    (new : Contents (Segment Pool)) (after : MemoryState)
    (here : AllocatesHere pool_rules old before layout pointer new after) (sound : IsSoundMemory after) where
  abbrev id : ℕ
  id = here.held.handle.id

  abbrev left_segment : Segment Pool
  left_segment = with_allocator here.given.segment here.given.allocator

  slots_is : after.slots ≡ with_more before.slots before.current
  slots_is = ap (λ (m : MemoryState). m.slots) here.counted

  small : before.current < 256
  small = let below = sound.below in let same = ap (λ (m : MemoryState). m.current) here.counted in omega arith

  within : before.current < length before.slots
  within =
      let places = sound.places in
      let same = ap length slots_is in
      let long = length-set before.slots before.current (counted_more (segment_at before.slots before.current)) in
      let below = small in omega arith

  -- the pointer in its segment is the allocator's
  chunk_is : here.chunk ≡ pointer_offset (offset_of pointer) 0
  chunk_is =
      here.given.change.at_start
      ∙ ap (λ n. pointer_offset n 0)
      (sym (ap offset_of (here.carries ∙ ap (λ n. pointer_offset n before.current)
      (ap offset_of here.given.change.at_start ∙ start_again
      (bucket_of here.given.segment.allocator here.chunk * here.given.segment.allocator.buckets.size)))
      ∙ back (bucket_of here.given.segment.allocator here.chunk * here.given.segment.allocator.buckets.size)
      before.current small))
    where
      start_again : (offset : ℕ) → offset_of (pointer_offset offset 0) ≡ offset
      start_again offset = omega arith

      back : (offset segment : ℕ) → segment < 256 → offset_of (pointer_offset offset segment) ≡ offset
      back offset segment below = omega arith

  carried : segment_of pointer ≡ before.current
  carried = ap segment_of here.carries ∙ back (offset_of here.chunk) before.current small
    where
      back : (offset segment : ℕ) → segment < 256 → segment_of (pointer_offset offset segment) ≡ segment
      back offset segment below = omega arith

  held_now : segment_at after.slots before.current ≡ counted_more (Some here.held)
  held_now = ap (λ slots. segment_at slots before.current) slots_is ∙ more_here before.slots before.current within
      ∙ ap counted_more here.is_current

  others : (other : ℕ) → other ≢ before.current → active_at new after.slots other ≡ active_at old before.slots other
  others other apart =
      ap (λ slots. active_of (value_in new (segment_at slots other)) (count_in (segment_at slots other))) slots_is
      ∙ ap (λ o. active_of (value_in new o) (count_in o)) (more_else before.slots before.current within other apart)
      ∙ by_slot (segment_at before.slots other) refl
    where
      by_slot : (o : Option HeldSegment) → segment_at before.slots other ≡ o →
          active_of (value_in new o) (count_in o) ≡ active_of (value_in old o) (count_in o)
      by_slot None e = refl
      by_slot (Some held) e =
          let away = apart_before before.slots before.current within (subst AreApart slots_is sound.apart) other
          before.current held here.held apart e here.is_current in
          ap (λ v. active_of v held.count)
          (ap (λ c. value_of c held.handle.id) here.given.after
          ∙ value_of-with_value-other old id left_segment held.handle.id away)

  pub hands : Hands old before pointer new after
  hands = record {
    was = here.given.segment;
    left = here.given.allocator;
    origin = ap (value_in old) here.is_current ∙ here.given.was;
    given = subst (λ n. GivesFreeBucket here.given.segment.allocator n here.given.allocator) chunk_is
        here.given.change;
    carries = carried;
    becomes = ap (value_in new) held_now ∙ ap (λ c. value_of c id) here.given.after
        ∙ value_written old id here.given.segment left_segment here.given.was;
    memory = here.counted;
    one_more = ap count_in held_now ∙ ap (λ o. count_in o + 1) (sym here.is_current);
    others = others;
  }
