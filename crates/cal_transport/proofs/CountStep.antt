-- A count, from what the memory and the view say.
use Rattle.std.proofs.Common.{ℕ, zero, suc, ◌+◌, ◌-◌, ◌<◌, ◌≤◌, ◌≡◌, Bool, true, false, cond, not, ◌&&◌, ◌||◌, nat_eq, nat_lt, List, [], ◌∷◌, length, get_or, Option, Some, None, IsSomeAnd, option_map, inl, inr, refl, sym, ap, ◌∙◌, subst, arith}
use Rattle.std.specs.List.{slice_get, filter}
use Rattle.std.proofs.lemmas.Bool.{cases_lt, true≢false, eq-eqb, lt-ltb, and_from, or_left}
use Rattle.std.proofs.lemmas.Bool.Decides.{nat_tests}
use Rattle.std.proofs.lemmas.List.{get_or_past}
use Rattle.cal_alloc.specs.Growth.{SegmentLayout}
use Rattle.cal_alloc.specs.Pool.{Pool}
use Rattle.cal_storage.specs.declared.entry.Entry.{Entry}
use Rattle.cal_storage.specs.declared.handle.Handle.{Handle}
use Rattle.cal_storage.specs.Contents.{Contents, Has, entry_of, value_of}
use Rattle.cal_shm.specs.Segment.{Segment}
use Rattle.cal_resizable.specs.Chunks.{value_in}
use Rattle.cal_resizable.specs.Growth.{OfSegment}
use Rattle.cal_resizable.specs.Slots.{Slots, HeldSegment, segment_at, number_in, number_held, count_at as slots_count}
use Rattle.cal_transport.specs.declared.command.Command.TheVariants as command
use Rattle.cal_transport.specs.declared.reply.Reply.{Reply}
use Rattle.cal_transport.specs.declared.reply.Reply.TheVariants.{Counted}
use Rattle.cal_transport.specs.declared.reply.Count.{Count}
use Rattle.cal_transport.specs.Ledger.{Ledger, layout_at, current, is_unused, is_mapped, active_segments, mapped_segments, numbers_below}
use Rattle.cal_transport.specs.Weights.{total, one_if}
use Rattle.cal_transport.specs.Step.{count_of}
use Rattle.cal_transport.specs.Counting.{IsCounted}
use Rattle.cal_transport.specs.Core.{ActiveSegment}
use Rattle.cal_transport.specs.Shown.{is_active, ShowsActive, ShowsMapped}
use Rattle.cal_transport.specs.State.{TransportState, core_of, active_of, active_at, mapped_at, IsLinked, Represents, DoesAnywhere}
use Rattle.cal_transport.proofs.Settled.{IsSettled, settled}
use Rattle.cal_transport.proofs.Totals.{total_append}
use Rattle.cal_transport.proofs.ListedCounts.{length_filter, total_places}
use Rattle.cal_transport.proofs.Segments.{of_shown}
use Rattle.cal_transport.proofs.Seen.{is_seen}
use Rattle.cal_transport.proofs.Fronts.{has_segment}
use Rattle.cal_transport.proofs.Represented.{IsPlaceless, stands}
use Rattle.cal_transport.proofs.Stands.{done}

-- ---- sums over numbers

-- two functions that agree below a number have the same sum there
total_below : (f g : ℕ → ℕ) (n : ℕ) → ((k : ℕ) → k < n → f k ≡ g k) →
    total f (numbers_below n) ≡ total g (numbers_below n)
total_below f g zero agree = refl
total_below f g (suc n) agree =
    let before = total_below f g n (λ k below. agree k (omega arith)) in
    let last = agree n (omega arith) in
    let a = total_append f (numbers_below n) n in let b = total_append g (numbers_below n) n in omega arith

-- where a function is zero between two numbers, nothing is added between them
total_gap : (f : ℕ → ℕ) (start end : ℕ) → start ≤ end → ((k : ℕ) → start ≤ k → k < end → f k ≡ 0) →
    total f (numbers_below end) ≡ total f (numbers_below start)
total_gap f start zero up none = ap (λ k. total f (numbers_below k)) (let e : 0 ≡ start = omega arith in e)
total_gap f start (suc end) up none = elim (cases_lt end start) [
  | inl below ↦ ap (λ k. total f (numbers_below k)) (let e : suc end ≡ start = omega arith in e)
  | inr past ↦ let last = total_append f (numbers_below end) end in
      let zero_there = none end past (omega arith) in
      let rest = total_gap f start end past (λ k above below. none k above (omega arith)) in omega arith
]

total_ends : (f : ℕ → ℕ) (m n : ℕ) → ((k : ℕ) → m ≤ k → f k ≡ 0) → ((k : ℕ) → n ≤ k → f k ≡ 0) →
    total f (numbers_below m) ≡ total f (numbers_below n)
total_ends f m n past beyond = elim (cases_lt m n) [
  | inl below ↦ sym (total_gap f m n (omega arith) (λ k above less. past k above))
  | inr above ↦ total_gap f n m above (λ k there less. beyond k there)
]

-- ---- slots

held_total : (slots : Slots) → number_held slots ≡ total number_in slots
held_total [] = refl
held_total (slot ∷ slots) = ap (λ n. number_in slot + n) (held_total slots)

-- the segments that are held are those that a test tells, none of which is at this number or above
held_are : (slots : Slots) (tells : ℕ → Bool) (n : ℕ) →
    ((k : ℕ) → k < n → number_in (segment_at slots k) ≡ one_if (tells k)) →
    ((k : ℕ) → n ≤ k → number_in (segment_at slots k) ≡ 0) →
    number_held slots ≡ length (filter tells (numbers_below n))
held_are slots tells n below past =
    held_total slots
    ∙ sym (total_places number_in slots None)
    ∙ total_ends (λ k. number_in (segment_at slots k)) (length slots) n
    (λ k above. ap number_in (get_or_past slots k None above)) past
    ∙ total_below (λ k. number_in (segment_at slots k)) (λ k. one_if (tells k)) n below
    ∙ sym (length_filter tells (numbers_below n))

-- an entry that is there has a value
record HasValue (contents : Contents (Segment Pool)) (id : ℕ) : Type 0 where
  pub value : Segment Pool
  pub is : value_of contents id ≡ Some value

has_value : (contents : Contents (Segment Pool)) (handle : Handle) → Has contents handle → HasValue contents handle.id
has_value contents handle = go (entry_of contents handle.id) refl
  where
    go : (o : Option (Entry (Segment Pool))) → entry_of contents handle.id ≡ o →
        IsSomeAnd o (λ entry. entry.path ≡ handle.path) → HasValue contents handle.id
    go None none holds = absurd holds
    go (Some entry) is holds = record {
      value = entry.value;
      is = ap (option_map (λ (e : Entry (Segment Pool)). e.value)) is;
    }

-- ---- the count

module _ (t : TransportState) (linked : IsLinked t) (l : Ledger) (r : Represents t l) where
  memory_held : (k : ℕ) → number_in (segment_at t.memory.slots k) ≡ one_if (is_active l k)
  memory_held k = go (segment_at t.memory.slots k) refl
    where
      go : (o : Option HeldSegment) → segment_at t.memory.slots k ≡ o → number_in o ≡ one_if (is_active l k)
      go None none =
          sym (ap one_if (subst (ShowsActive l k)
          (ap (λ o. active_of (value_in t.memory_registry o) (slots_count t.memory.slots k)) none) (r.shows.active k)))
      go (Some held) is =
          let v = has_value t.memory_registry held.handle (linked.together.has_memory.of_segments k held is) in
          sym (ap one_if (subst (ShowsActive l k)
          (ap (λ o. active_of (value_in t.memory_registry o) (slots_count t.memory.slots k)) is
          ∙ ap (λ o. active_of o (slots_count t.memory.slots k)) v.is) (r.shows.active k)).0)

  view_held : (k : ℕ) → number_in (segment_at t.view.slots k) ≡ one_if (is_mapped l k)
  view_held k = go (segment_at t.view.slots k) refl
    where
      go : (o : Option HeldSegment) → segment_at t.view.slots k ≡ o → number_in o ≡ one_if (is_mapped l k)
      go None none =
          sym (ap one_if (subst (ShowsMapped l k) (ap (option_map (λ (held : HeldSegment). held.count)) none)
          (r.shows.mapped k)))
      go (Some held) is =
          sym (ap one_if (subst (ShowsMapped l k) (ap (option_map (λ (held : HeldSegment). held.count)) is)
          (r.shows.mapped k)).0)

  some : 1 ≤ length l.segments
  some = r.sound.segments.some

  view_past : (k : ℕ) → length l.segments ≤ k → number_in (segment_at t.view.slots k) ≡ 0
  view_past k past = go (segment_at t.view.slots k) refl
    where
      go : (o : Option HeldSegment) → segment_at t.view.slots k ≡ o → number_in o ≡ 0
      go None none = refl
      go (Some held) is =
          let few = linked.together.mapped k held is in
          let at : t.memory.current ≡ length l.segments - 1 = r.shows.current in
          let one = some in absurd (omega arith)

  pub active_is : number_held t.memory.slots ≡ length (active_segments l)
  active_is =
      held_are t.memory.slots (λ segment. nat_eq segment (current l) || not (is_unused l segment)) (length l.segments)
      (λ k below. memory_held k ∙ ap (λ b. one_if (b && (nat_eq k (current l) || not (is_unused l k))))
      (lt-ltb k (length l.segments) below))
      (λ k past. memory_held k ∙ ap (λ b. one_if (b && (nat_eq k (current l) || not (is_unused l k))))
      (let none : nat_lt k (length l.segments) ≡ false = grind (arith, nat_tests) in none))

  pub mapped_is : number_held t.view.slots ≡ length (mapped_segments l)
  mapped_is = held_are t.view.slots (is_mapped l) (length l.segments) (λ k below. view_held k) view_past

  current_active : is_active l (current l) ≡ true
  current_active =
      let one = some in
      and_from (nat_lt (current l) (length l.segments))
      (nat_eq (current l) (current l) || not (is_unused l (current l)))
      (lt-ltb (current l) (length l.segments) (omega arith))
      (or_left (nat_eq (current l) (current l)) (not (is_unused l (current l))) (eq-eqb (current l) (current l) refl))

  -- the current segment has the ledger's layout
  layout_is : (fact : SegmentLayout → Type 0) → OfSegment t.memory_registry t.memory.slots t.memory.current
      (λ (segment : Segment Pool). fact segment.allocator.buckets) → fact (layout_at l (current l))
  layout_is fact holds =
      let had = has_segment (core_of t) l (current l) r.shows current_active in
      let seen = is_seen t.memory_registry t.memory (current l) had.shown had.has in
      subst fact (ap (λ (q : Pool). q.buckets) seen.pool ∙ had.shows.layout)
      (of_shown t.memory_registry t.memory.slots (current l)
      (λ (segment : Segment Pool). fact segment.allocator.buckets)
      seen.segment
      (subst (λ n. OfSegment t.memory_registry t.memory.slots n (λ (segment : Segment Pool). fact
      segment.allocator.buckets)) r.shows.current holds)
      seen.there)

made : ℕ → ℕ → ℕ → ℕ → ℕ → Count
made a m c s b = record { active = a; mapped = m; current = c; size = s; buckets = b }

counted : (t : TransportState) → IsLinked t → (count : Count) → IsCounted t.memory_registry t.memory t.view count →
    (l : Ledger) → Represents t l →
    count ≡ count_of l
unfolding made
counted t linked count is l r =
    let size = layout_is t linked l r (λ (b : SegmentLayout). count.size ≡ b.size) is.size in
    let buckets = layout_is t linked l r (λ (b : SegmentLayout). count.buckets ≡ b.count) is.buckets in
    ap (λ n. made n count.mapped count.current count.size count.buckets) (is.active ∙ active_is t linked l r)
    ∙ ap (λ n. made (length (active_segments l)) n count.current count.size count.buckets)
    (is.mapped ∙ mapped_is t linked l r)
    ∙ ap (λ n. made (length (active_segments l)) (length (mapped_segments l)) n count.size count.buckets)
    (is.current ∙ r.shows.current)
    ∙ ap (λ n. made (length (active_segments l)) (length (mapped_segments l)) (current l) n count.buckets) size
    ∙ ap (λ n. made (length (active_segments l)) (length (mapped_segments l)) (current l) (layout_at l (current l)).size
    n) buckets

placeless : (l : Ledger) (reply : Reply) → IsPlaceless l command.Count reply
placeless l reply None a b = refl
placeless l reply (Some why) a b = refl

pub count_does : (t : TransportState) → IsLinked t → (count : Count) →
    IsCounted t.memory_registry t.memory t.view count →
    DoesAnywhere t command.Count (Counted count) t
count_does t linked count is place l r =
    stands t l command.Count (Counted count) r.place place r.sound (placeless l (Counted count))
    (λ any. done (core_of t) l l any command.Count (Counted count) refl
    (ap Counted (counted t linked count is l r)) refl r.shows r.tracks)
