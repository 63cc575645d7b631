-- Which chunks of a growing memory stay out.
use Rattle.std.proofs.Common.{◌≡◌, ◌≢◌, ℕ, zero, suc, ◌+◌, ◌<◌, ◌≤◌, ◌==◌, Some, List, [], ◌∷◌, refl, sym, ap, ◌∙◌, subst, inl, inr, arith, lit<, ne_eqb, eq-eqb}
use Rattle.std.specs.List.{AllByRecursion, slice_get}
use Rattle.std.proofs.lemmas.Bool.{cases_eq}
use Rattle.std.proofs.lemmas.Option.{none-some, same_Some}
use Rattle.cal_alloc.specs.Chunks.{Properties, IsInChunk, IsAllocation, IsDeallocation, chunk_size}
use Rattle.cal_alloc.specs.PointerOffset.{pointer_offset, offset_of, segment_of}
use Rattle.cal_alloc.specs.SizeAndAlignment.{SizeAndAlignment}
use Rattle.cal_alloc.specs.declared.shm_allocator.ShmAllocator as shm_allocator
use Rattle.cal_storage.specs.Contents.{Contents}
use Rattle.cal_shm.specs.Calls.{IsInPayload}
use Rattle.cal_shm.specs.Segment.{Segment, with_allocator}
use Rattle.cal_resizable.specs.Chunks.{Chunk, AreDisjoint, NoneOverlap, one_where, number_within, without_chunk, value_in, segment_value, GrowsTo, GivesChunk, ReturnsChunk, IsOut, AreOut, AddsSized, RemovesChunk}
use Rattle.cal_resizable.specs.Memory.{MemoryState}
use Rattle.cal_resizable.specs.Slots.{Slots, segment_at, count_in, count_at, without_unused}
use Rattle.cal_resizable.proofs.ChunkLemmas.{offset_back}
use Rattle.cal_resizable.proofs.CountLemmas.{count-without_unused, counted-without_unused}
use Rattle.cal_resizable.proofs.KeepingLemmas.{some_counted}
use Rattle.cal_resizable.proofs.MemoryLemmas.{is_some-from}

-- ---- lists of chunks

module _ {X : Type 0} where
  pub all-map : (P Q : X → Type 0) (xs : List X) → ((x : X) → P x → Q x) → AllByRecursion P xs → AllByRecursion Q xs
  all-map P Q [] step all = tt
  all-map P Q (x ∷ xs) step all = (step x all.0, all-map P Q xs step all.1)

  pub all-both : (P Q R : X → Type 0) (xs : List X) → ((x : X) → P x → Q x → R x) → AllByRecursion P xs →
      AllByRecursion Q xs → AllByRecursion R xs
  all-both P Q R [] step ps qs = tt
  all-both P Q R (x ∷ xs) step ps qs = (step x ps.0 qs.0, all-both P Q R xs step ps.1 qs.1)

  pub all-at : (P : X → Type 0) (xs : List X) (index : ℕ) (x : X) → slice_get xs index ≡ Some x →
      AllByRecursion P xs → P x
  all-at P [] index x at all = absurd (none-some x at)
  all-at P (first ∷ xs) zero x at all = subst P (same_Some first x at) all.0
  all-at P (first ∷ xs) (suc index) x at all = all-at P xs index x at all.1

all-without : (P : Chunk → Type 0) (chunks : List Chunk) (index : ℕ) → AllByRecursion P chunks →
    AllByRecursion P (without_chunk index chunks)
all-without P [] index all = tt
all-without P (chunk ∷ chunks) zero all = all.1
all-without P (chunk ∷ chunks) (suc index) all = (all.0, all-without P chunks index all.1)

overlap-without : (chunks : List Chunk) (index : ℕ) → NoneOverlap chunks → NoneOverlap (without_chunk index chunks)
overlap-without [] index apart = tt
overlap-without (chunk ∷ chunks) zero apart = apart.1
overlap-without (chunk ∷ chunks) (suc index) apart =
    (all-without (AreDisjoint chunk) chunks index apart.0, overlap-without chunks index apart.1)

disjoint-flip : (one other : Chunk) → AreDisjoint one other → AreDisjoint other one
disjoint-flip one other apart same byte in_other in_one = apart (sym same) byte in_one in_other

-- the chunk at an index and each of the others
disjoint-at : (chunks : List Chunk) (index : ℕ) (chunk : Chunk) → slice_get chunks index ≡ Some chunk →
    NoneOverlap chunks → AllByRecursion (AreDisjoint chunk) (without_chunk index chunks)
disjoint-at [] index chunk at apart = tt
disjoint-at (first ∷ chunks) zero chunk at apart =
    subst (λ (c : Chunk). AllByRecursion (AreDisjoint c) chunks) (same_Some first chunk at) apart.0
disjoint-at (first ∷ chunks) (suc index) chunk at apart = (
  disjoint-flip first chunk (all-at (AreDisjoint first) chunks index chunk at apart.0),
  disjoint-at chunks index chunk at apart.1,
)

one_if : (number other : ℕ) → number ≡ other → one_where (number == other) ≡ 1
one_if number other same = ap one_where (eq-eqb number other same)

none_if : (number other : ℕ) → number ≢ other → one_where (number == other) ≡ 0
none_if number other apart = ap one_where (ne_eqb number other apart)

within_first : (chunk : Chunk) (chunks : List Chunk) → 0 < number_within (segment_of chunk.pointer) (chunk ∷ chunks)
within_first chunk chunks = omega (arith, one_if (segment_of chunk.pointer) (segment_of chunk.pointer) refl)

-- each chunk is counted
each_counted : (whole chunks : List Chunk) →
    ((number : ℕ) → number_within number chunks ≤ number_within number whole) →
    AllByRecursion (λ chunk. 0 < number_within (segment_of chunk.pointer) whole) chunks
each_counted whole [] fewer = tt
each_counted whole (chunk ∷ chunks) fewer = (
  omega (arith, within_first chunk chunks, fewer (segment_of chunk.pointer)),
  each_counted whole chunks (λ number. omega (arith, fewer number)),
)

pub counted-at : (chunks : List Chunk) (index : ℕ) (chunk : Chunk) → slice_get chunks index ≡ Some chunk →
    0 < number_within (segment_of chunk.pointer) chunks
counted-at chunks index chunk at =
    all-at (λ (c : Chunk). 0 < number_within (segment_of c.pointer) chunks) chunks index chunk at
    (each_counted chunks chunks (λ number. omega arith))

counted-without : (chunks : List Chunk) (index : ℕ) (chunk : Chunk) (number : ℕ) →
    slice_get chunks index ≡ Some chunk →
    number_within number chunks
    ≡ one_where (segment_of chunk.pointer == number) + number_within number (without_chunk index chunks)
counted-without [] index chunk number at = absurd (none-some chunk at)
counted-without (first ∷ chunks) zero chunk number at =
    ap (λ (c : Chunk). one_where (segment_of c.pointer == number) + number_within number chunks)
    (same_Some first chunk at)
counted-without (first ∷ chunks) (suc index) chunk number at =
    omega (arith, counted-without chunks index chunk number at)

-- a byte of a chunk, told by its place in its segment
in_segment : (pointer size byte : ℕ) → IsInChunk pointer size byte →
    IsInChunk (pointer_offset (offset_of pointer) 0) size byte
in_segment pointer size byte inside =
    subst (λ offset. (offset ≤ byte) × (byte < offset + size)) (sym (offset_back (offset_of pointer) 0 (lit< tt)))
    inside

from_segment : (pointer size byte : ℕ) → IsInChunk (pointer_offset (offset_of pointer) 0) size byte →
    IsInChunk pointer size byte
from_segment pointer size byte inside =
    subst (λ offset. (offset ≤ byte) × (byte < offset + size)) (offset_back (offset_of pointer) 0 (lit< tt)) inside

-- ---- chunks that stay out

module _ {A : Type 0} (properties : A → Properties) (IsByteUsed IsAllocated : A → ℕ → Type 0) where
  -- where the segment of a chunk is as it was
  same-IsOut : (old new : Contents (Segment A)) (before after : Slots) (chunk : Chunk) →
      segment_value new after (segment_of chunk.pointer) ≡ segment_value old before (segment_of chunk.pointer) →
      IsOut properties IsByteUsed IsAllocated old before chunk → IsOut properties IsByteUsed IsAllocated new after chunk
  same-IsOut old new before after chunk is out = record {
    segment = out.segment;
    there = is ∙ out.there;
    allocated = out.allocated;
    sized = out.sized;
    not_empty = out.not_empty;
    large = out.large;
    taken = out.taken;
    within = out.within;
  }

  -- chunks that are out lie in segments that are counted
  out_and_counted : (contents : Contents (Segment A)) (slots : Slots) (chunks : List Chunk) →
      AreOut properties IsByteUsed IsAllocated contents slots chunks →
      AllByRecursion (λ chunk. IsOut properties IsByteUsed IsAllocated contents slots chunk ×
      (0 < count_at slots (segment_of chunk.pointer)))
      chunks
  out_and_counted contents slots chunks out =
      all-both (IsOut properties IsByteUsed IsAllocated contents slots)
      (λ chunk. 0 < number_within (segment_of chunk.pointer) chunks)
      (λ chunk. IsOut properties IsByteUsed IsAllocated contents slots chunk ×
      (0 < count_at slots (segment_of chunk.pointer))) chunks
      (λ chunk is counted. (is, omega (arith, counted, out.counted (segment_of chunk.pointer))))
      out.each (each_counted chunks chunks (λ number. omega arith))

  pub AreOut-elsewhere : (old new : Contents (Segment A)) (slots : Slots) (chunks : List Chunk) →
      ((number : ℕ) → segment_value new slots number ≡ segment_value old slots number) →
      AreOut properties IsByteUsed IsAllocated old slots chunks → AreOut properties IsByteUsed IsAllocated new slots
      chunks
  AreOut-elsewhere old new slots chunks same out = record {
    each = all-map (IsOut properties IsByteUsed IsAllocated old slots) (IsOut properties IsByteUsed IsAllocated new
        slots) chunks
        (λ chunk. same-IsOut old new slots slots chunk (same (segment_of chunk.pointer))) out.each;
    apart = out.apart;
    counted = out.counted;
  }

  -- ---- over growth
  module _ (old new : Contents (Segment A)) (before after : MemoryState) (made : Segment A)
      (grows : GrowsTo old before made new after) where
    abbrev next : ℕ
    next = before.current + 1

    abbrev kept : Slots
    kept = without_unused before.slots before.current

    grown_count : (number : ℕ) → count_at after.slots number ≡ count_at before.slots number
    grown_count number = elim (cases_eq number next) [
      | inl same ↦
          ap (count_at after.slots) same ∙ grows.none_out ∙ sym (ap count_in grows.was_none)
          ∙ ap (count_at before.slots) (sym same)
      | inr apart ↦
          ap count_in (grows.others.slots number apart) ∙ count-without_unused before.slots before.current number
    ]

    grown_out : (chunk : Chunk) →
        IsOut properties IsByteUsed IsAllocated old before.slots chunk ×
        (0 < count_at before.slots (segment_of chunk.pointer)) →
        IsOut properties IsByteUsed IsAllocated new after.slots chunk
    grown_out chunk is =
        let number : ℕ = segment_of chunk.pointer in
        let apart : number ≢ next = λ same.
        let none : count_at before.slots number ≡ 0 = ap (count_at before.slots) same ∙ ap count_in grows.was_none in
        absurd (omega (arith, none, is.1)) in
        same-IsOut old new before.slots after.slots chunk
        (grows.others.values number apart
        ∙ ap (λ slot. value_in old slot) (counted-without_unused before.slots before.current number is.1)) is.0

    pub AreOut-grown : (chunks : List Chunk) → AreOut properties IsByteUsed IsAllocated old before.slots chunks →
        AreOut properties IsByteUsed IsAllocated new after.slots chunks
    AreOut-grown chunks out = record {
      each = all-map
          (λ chunk. IsOut properties IsByteUsed IsAllocated old before.slots chunk ×
          (0 < count_at before.slots (segment_of chunk.pointer)))
          (IsOut properties IsByteUsed IsAllocated new after.slots) chunks grown_out
          (out_and_counted old before.slots chunks out);
      apart = out.apart;
      counted = λ number. grown_count number ∙ out.counted number;
    }

-- ---- over an allocation

module _ {A C : Type 0} (rules : shm_allocator.Ghosts A C) (allocation : (old : A) (layout : SizeAndAlignment)
    (pointer : ℕ) (new : A) → rules.Allocates old layout pointer new →
    IsAllocation (rules.properties old) (rules.properties new) (rules.IsByteUsed old) (rules.IsByteUsed new)
    (rules.IsAllocated old) (rules.IsAllocated new) (rules.IsPadding old pointer) layout pointer)
    (old new : Contents (Segment A)) (before after : Slots) (number : ℕ) (layout : SizeAndAlignment) (pointer : ℕ)
    (gives : GivesChunk rules old before number layout pointer new after) where
  abbrev place : ℕ
  place = pointer_offset (offset_of pointer) 0

  abbrev segment : Segment A
  segment = with_allocator gives.was gives.left

  law : IsAllocation (rules.properties gives.was.allocator) (rules.properties gives.left)
      (rules.IsByteUsed gives.was.allocator) (rules.IsByteUsed gives.left) (rules.IsAllocated gives.was.allocator)
      (rules.IsAllocated gives.left) (rules.IsPadding gives.was.allocator place) layout place
  law = allocation gives.was.allocator layout place gives.left gives.given

  at_pointer : segment_value new after (segment_of pointer) ≡ Some segment
  at_pointer = ap (segment_value new after) gives.carries ∙ gives.becomes

  -- the segment of a chunk that was out, where that is the one that gave another
  was_there : (chunk : Chunk) (out : IsOut rules.properties rules.IsByteUsed rules.IsAllocated old before chunk) →
      segment_of chunk.pointer ≡ number →
      out.segment ≡ gives.was
  was_there chunk out same =
      same_Some out.segment gives.was (sym out.there ∙ ap (segment_value old before) same ∙ gives.origin)

  given_out : (chunk : Chunk) → IsOut rules.properties rules.IsByteUsed rules.IsAllocated old before chunk →
      IsOut rules.properties rules.IsByteUsed rules.IsAllocated new after chunk
  given_out chunk out = elim (cases_eq (segment_of chunk.pointer) number) [
    | inl same ↦
        let is : out.segment ≡ gives.was = was_there chunk out same in
        record {
          segment = segment;
          there = ap (segment_value new after) same ∙ gives.becomes;
          allocated = law.others_allocated (pointer_offset (offset_of chunk.pointer) 0)
              (subst (λ (s : Segment A). rules.IsAllocated s.allocator (pointer_offset (offset_of chunk.pointer) 0)) is
              out.allocated);
          sized = ap (λ p. chunk_size p chunk.layout) law.properties
              ∙ subst (λ (s : Segment A). chunk_size (rules.properties s.allocator) chunk.layout ≡ chunk.size) is
              out.sized;
          not_empty = out.not_empty;
          large = out.large;
          taken = λ byte inside. law.bytes.others_used byte
              (subst (λ (s : Segment A). rules.IsByteUsed s.allocator byte) is (out.taken byte inside));
          within = subst (λ (s : Segment A). IsInPayload s.payload (offset_of chunk.pointer) chunk.size) is out.within;
        }
    | inr apart ↦
        same-IsOut rules.properties rules.IsByteUsed rules.IsAllocated old new before after chunk
        (gives.others.values (segment_of chunk.pointer) apart) out
  ]

  module _ (size : ℕ) (sized_left : chunk_size (rules.properties gives.left) layout ≡ size) (some : 0 < size)
      (large : layout.size ≤ size) where
    abbrev given_chunk : Chunk
    given_chunk = record { pointer = pointer; layout = layout; size = size }

    sized_was : chunk_size (rules.properties gives.was.allocator) layout ≡ size
    sized_was = ap (λ p. chunk_size p layout) (sym law.properties) ∙ sized_left

    inside_was : (byte : ℕ) → IsInChunk pointer size byte →
        IsInChunk place (chunk_size (rules.properties gives.was.allocator) layout) byte
    inside_was byte inside =
        subst (λ s. IsInChunk place s byte) (sym sized_was) (in_segment pointer size byte inside)

    chunk_out : IsOut rules.properties rules.IsByteUsed rules.IsAllocated new after given_chunk
    chunk_out = record {
      segment = segment;
      there = at_pointer;
      allocated = law.out;
      sized = sized_left;
      not_empty = some;
      large = large;
      taken = λ byte inside. law.bytes.is_used_after byte (inside_was byte inside);
      within = subst (λ s. IsInPayload gives.was.payload (offset_of pointer) s) sized_was gives.within;
    }

    disjoint_given : (chunk : Chunk) → IsOut rules.properties rules.IsByteUsed rules.IsAllocated old before chunk →
        AreDisjoint given_chunk chunk
    disjoint_given chunk out same byte inside in_chunk =
        law.bytes.was_free byte (inside_was byte inside)
        (subst (λ (s : Segment A). rules.IsByteUsed s.allocator byte)
        (was_there chunk out (sym same ∙ gives.carries)) (out.taken byte in_chunk))

    given_count : (chunks : List Chunk) → AreOut rules.properties rules.IsByteUsed rules.IsAllocated old before chunks →
        (n : ℕ) →
        count_at after n ≡ number_within n (given_chunk ∷ chunks)
    given_count chunks out n = elim (cases_eq n number) [
      | inl same ↦
          let once : one_where (segment_of pointer == n) ≡ 1 =
          one_if (segment_of pointer) n (gives.carries ∙ sym same) in
          omega (
            arith,
            once,
            ap (count_at after) same,
            gives.one_more,
            out.counted number,
            ap (λ m. number_within m chunks) same,
          )
      | inr apart ↦
          let not_here : one_where (segment_of pointer == n) ≡ 0 =
          none_if (segment_of pointer) n (λ same. apart (sym same ∙ gives.carries)) in
          omega (arith, not_here, ap count_in (gives.others.slots n apart), out.counted n)
    ]

    AreOut-given : (chunks : List Chunk) → AreOut rules.properties rules.IsByteUsed rules.IsAllocated old before chunks
        →
        AreOut rules.properties rules.IsByteUsed rules.IsAllocated new after (given_chunk ∷ chunks)
    AreOut-given chunks out = record {
      each = (
        chunk_out,
        all-map (IsOut rules.properties rules.IsByteUsed rules.IsAllocated old before)
            (IsOut rules.properties rules.IsByteUsed rules.IsAllocated new after) chunks given_out out.each,
      );
      apart = (
        all-map (IsOut rules.properties rules.IsByteUsed rules.IsAllocated old before) (AreDisjoint given_chunk)
            chunks disjoint_given out.each,
        out.apart,
      );
      counted = given_count chunks out;
    }

  pub AddsSized-given : AddsSized rules.properties rules.IsByteUsed rules.IsAllocated old before layout pointer new
      after
  AddsSized-given size chunks is at sized some large out =
      let same : is ≡ segment = same_Some is segment (sym at ∙ at_pointer) in
      AreOut-given size
      (subst (λ (s : Segment A). chunk_size (rules.properties s.allocator) layout ≡ size) same sized) some large chunks
      out

-- ---- over a return

module _ {A : Type 0} (properties : A → Properties) (IsByteUsed IsAllocated : A → ℕ → Type 0)
    (Deallocates : A → ℕ → A → Type 0) (deallocation : (old : A) (pointer : ℕ) (new : A) → Deallocates old pointer new →
    IsDeallocation (properties old) (properties new) (IsByteUsed old) (IsByteUsed new) (IsAllocated old)
    (IsAllocated new) pointer)
    (old new : Contents (Segment A)) (before after : Slots) (pointer : ℕ)
    (returns : ReturnsChunk (λ was is. Deallocates was (pointer_offset (offset_of pointer) 0) is) old before
    (segment_of pointer) new after) where
  abbrev number : ℕ
  number = segment_of pointer

  abbrev return_place : ℕ
  return_place = pointer_offset (offset_of pointer) 0

  return_law : IsDeallocation (properties returns.was.allocator) (properties returns.left)
      (IsByteUsed returns.was.allocator) (IsByteUsed returns.left)
      (IsAllocated returns.was.allocator) (IsAllocated returns.left) return_place
  return_law = deallocation returns.was.allocator return_place returns.left returns.change

  module _ (index : ℕ) (chunk : Chunk) (chunks : List Chunk) (at : slice_get chunks index ≡ Some chunk)
      (is_pointer : chunk.pointer ≡ pointer) (out : AreOut properties IsByteUsed IsAllocated old before chunks) where
    abbrev rest : List Chunk
    rest = without_chunk index chunks

    returned : IsOut properties IsByteUsed IsAllocated old before chunk
    returned = all-at (IsOut properties IsByteUsed IsAllocated old before) chunks index chunk at out.each

    left_count : (n : ℕ) → count_at after n ≡ number_within n rest
    left_count n = elim (cases_eq n number) [
      | inl same ↦
          let once : one_where (segment_of chunk.pointer == n) ≡ 1 =
          one_if (segment_of chunk.pointer) n (ap segment_of is_pointer ∙ sym same) in
          omega (
            arith,
            once,
            counted-without chunks index chunk n at,
            ap (count_at after) same,
            ap (count_at before) same,
            returns.one_less,
            out.counted n,
          )
      | inr apart ↦
          let not_here : one_where (segment_of chunk.pointer == n) ≡ 0 =
          none_if (segment_of chunk.pointer) n (λ same. apart (sym same ∙ ap segment_of is_pointer)) in
          omega (
            arith,
            not_here,
            counted-without chunks index chunk n at,
            ap count_in (returns.others.slots n apart),
            out.counted n,
          )
    ]

    -- what is known of another chunk
    abbrev Other : Chunk → Type 0
    Other other = IsOut properties IsByteUsed IsAllocated old before other × AreDisjoint chunk other

    not_in_chunk : (other : Chunk) → AreDisjoint chunk other → segment_of other.pointer ≡ number → (byte : ℕ) →
        IsInChunk other.pointer other.size byte →
        ¬ IsInChunk return_place (chunk_size (properties returns.was.allocator) chunk.layout) byte
    not_in_chunk other apart same byte inside in_place =
        let is : returned.segment ≡ returns.was =
        same_Some returned.segment returns.was
        (sym returned.there ∙ ap (λ p. segment_value old before (segment_of p)) is_pointer ∙ returns.origin) in
        let sized : chunk_size (properties returns.was.allocator) chunk.layout ≡ chunk.size =
        subst (λ (s : Segment A). chunk_size (properties s.allocator) chunk.layout ≡ chunk.size) is
        returned.sized in
        let in_pointer : IsInChunk pointer chunk.size byte =
        from_segment pointer chunk.size byte (subst (λ s. IsInChunk return_place s byte) sized in_place) in
        apart (ap segment_of is_pointer ∙ sym same) byte
        (subst (λ p. IsInChunk p chunk.size byte) (sym is_pointer) in_pointer) inside

    other_start : (other : Chunk) → AreDisjoint chunk other → 0 < other.size → segment_of other.pointer ≡ number →
        offset_of (pointer_offset (offset_of other.pointer) 0) ≢ offset_of return_place
    other_start other apart some same is =
        let starts : offset_of other.pointer ≡ offset_of pointer =
        sym (offset_back (offset_of other.pointer) 0 (lit< tt)) ∙ is ∙ offset_back (offset_of pointer) 0 (lit< tt) in
        let in_chunk : IsInChunk chunk.pointer chunk.size (offset_of other.pointer) =
        subst (λ p. IsInChunk p chunk.size (offset_of other.pointer)) (sym is_pointer)
        (subst (λ offset. IsInChunk pointer chunk.size offset) (sym starts)
        (omega arith, omega (arith, returned.not_empty))) in
        apart (ap segment_of is_pointer ∙ sym same) (offset_of other.pointer) in_chunk
        (omega arith, omega (arith, some))

    left_out : (other : Chunk) → Other other → 0 < number_within (segment_of other.pointer) rest →
        IsOut properties IsByteUsed IsAllocated new after other
    left_out other is counted = elim (cases_eq (segment_of other.pointer) number) [
      | inl same ↦
          let was : IsOut properties IsByteUsed IsAllocated old before other = is.0 in
          let same_segment : was.segment ≡ returns.was =
          same_Some was.segment returns.was (sym was.there ∙ ap (segment_value old before) same ∙ returns.origin) in
          let held = some_counted (segment_at after number)
          (omega (arith, counted, left_count (segment_of other.pointer), ap (count_at after) same)) in
          record {
            segment = with_allocator returns.was returns.left;
            there = ap (segment_value new after) same
                ∙ returns.still (is_some-from (segment_at after number) held.0 held.1);
            allocated = return_law.others_allocated (pointer_offset (offset_of other.pointer) 0)
                (other_start other is.1 was.not_empty same)
                (subst (λ (s : Segment A). IsAllocated s.allocator
                (pointer_offset (offset_of other.pointer) 0)) same_segment was.allocated);
            sized = ap (λ p. chunk_size p other.layout) return_law.properties
                ∙ subst (λ (s : Segment A). chunk_size (properties s.allocator) other.layout ≡ other.size)
                same_segment was.sized;
            not_empty = was.not_empty;
            large = was.large;
            taken = λ byte inside.
                let bytes = return_law.bytes chunk.layout in
                bytes.others_used byte (not_in_chunk other is.1 same byte inside)
                (subst (λ (s : Segment A). IsByteUsed s.allocator byte) same_segment (was.taken byte inside));
            within = subst (λ (s : Segment A). IsInPayload s.payload (offset_of other.pointer) other.size) same_segment
                was.within;
          }
      | inr apart ↦
          same-IsOut properties IsByteUsed IsAllocated old new before after other
          (returns.others.values (segment_of other.pointer) apart) is.0
    ]

    others : AllByRecursion Other rest
    others = all-both (IsOut properties IsByteUsed IsAllocated old before) (AreDisjoint chunk) Other rest
        (λ other is apart. (is, apart))
        (all-without (IsOut properties IsByteUsed IsAllocated old before) chunks index out.each)
        (disjoint-at chunks index chunk at out.apart)

    AreOut-returned : AreOut properties IsByteUsed IsAllocated new after rest
    AreOut-returned = record {
      each = all-both Other (λ other. 0 < number_within (segment_of other.pointer) rest)
          (IsOut properties IsByteUsed IsAllocated new after) rest
          left_out others (each_counted rest rest (λ n. omega arith));
      apart = overlap-without chunks index out.apart;
      counted = left_count;
    }

  pub RemovesChunk-returned : RemovesChunk properties IsByteUsed IsAllocated old before pointer new after
  RemovesChunk-returned index chunk chunks at is_pointer out = AreOut-returned index chunk chunks at is_pointer out
