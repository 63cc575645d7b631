-- Over every run of an allocator the chunks that are out stay apart.
use Rattle.std.proofs.Common.{◌≡◌, ℕ, zero, suc, ◌+◌, ◌≤◌, List, [], ◌∷◌, Some, ◌∙◌, subst}
use Rattle.std.specs.List.{slice_get}
use Rattle.std.proofs.lemmas.Option.{same_Some}
use Rattle.cal_alloc.specs.Chunks.{Properties, chunk_size, TakesChunk, FreesChunk, IsAllocation, IsDeallocation}
use Rattle.cal_alloc.specs.PointerOffset.{offset_of}
use Rattle.cal_alloc.specs.Runs.{OutChunk, Step, gives, takes_back, without_chunk, IsRun, IsByteOf, IsApartFrom, AreApart, AreWithin}
use Rattle.cal_alloc.specs.SizeAndAlignment.{SizeAndAlignment}

module _ (size_of : SizeAndAlignment → ℕ) where
  -- each byte of each of these chunks is used
  abbrev AreUsed : (ℕ → Type 0) → List OutChunk → Type 0
  AreUsed Used [] = Unit {0}
  AreUsed Used (chunk ∷ chunks) = ((byte : ℕ) → IsByteOf size_of chunk byte → Used byte) × AreUsed Used chunks

module _ (size_of : SizeAndAlignment → ℕ) where
  AreUsed-more : (Before After : ℕ → Type 0) → ((byte : ℕ) → Before byte → After byte) → (chunks : List OutChunk) →
      AreUsed size_of Before chunks → AreUsed size_of After chunks
  AreUsed-more Before After more [] used = tt
  AreUsed-more Before After more (chunk ∷ chunks) used =
      (λ byte inside. more byte (used.0 byte inside), AreUsed-more Before After more chunks used.1)

  -- a chunk of which no byte was used is apart from those whose bytes were
  apart-from_used : (Used : ℕ → Type 0) (chunk : OutChunk) → ((byte : ℕ) → IsByteOf size_of chunk byte → ¬ Used byte) →
      (chunks : List OutChunk) → AreUsed size_of Used chunks → IsApartFrom size_of chunk chunks
  apart-from_used Used chunk free [] used = tt
  apart-from_used Used chunk free (other ∷ others) used =
      (λ byte inside in_other. free byte inside (used.0 byte in_other), apart-from_used Used chunk free others used.1)

  -- what stays used, where the bytes of one chunk may be freed
  module _ (Before After : ℕ → Type 0) (freed : OutChunk) (others_used : (byte : ℕ) → ¬ IsByteOf size_of freed byte →
      Before byte → After byte) where
    AreUsed-apart : (chunks : List OutChunk) → IsApartFrom size_of freed chunks → AreUsed size_of Before chunks →
        AreUsed size_of After chunks
    AreUsed-apart [] apart used = tt
    AreUsed-apart (chunk ∷ chunks) apart used = (
      λ byte inside. others_used byte (λ in_freed. apart.0 byte in_freed inside) (used.0 byte inside),
      AreUsed-apart chunks apart.1 used.1,
    )

  -- two of several chunks
  apart-at : (chunk : OutChunk) (chunks : List OutChunk) (index : ℕ) (other : OutChunk) →
      slice_get chunks index ≡ Some other →
      IsApartFrom size_of chunk chunks → (byte : ℕ) → IsByteOf size_of chunk byte → ¬ IsByteOf size_of other byte
  apart-at chunk [] index other there apart = absurd (cc there)
  apart-at chunk (first ∷ chunks) zero other there apart =
      subst (λ (c : OutChunk). (byte : ℕ) → IsByteOf size_of chunk byte → ¬ IsByteOf size_of c byte)
      (same_Some first other there) apart.0
  apart-at chunk (first ∷ chunks) (suc index) other there apart = apart-at chunk chunks index other there apart.1

  -- those that are left where one of several is given back
  AreUsed-without : (Before After : ℕ → Type 0) (chunks : List OutChunk) (index : ℕ) (freed : OutChunk) →
      slice_get chunks index ≡ Some freed → ((byte : ℕ) → ¬ IsByteOf size_of freed byte → Before byte → After byte) →
      AreApart size_of chunks → AreUsed size_of Before chunks → AreUsed size_of After (without_chunk index chunks)
  AreUsed-without Before After [] index freed there others apart used = tt
  AreUsed-without Before After (chunk ∷ chunks) zero freed there others apart used =
      AreUsed-apart Before After freed others chunks
      (subst (λ (c : OutChunk). IsApartFrom size_of c chunks) (same_Some chunk freed there) apart.0) used.1
  AreUsed-without Before After (chunk ∷ chunks) (suc index) freed there others apart used = (
    λ byte inside. others byte (apart-at chunk chunks index freed there apart.0 byte inside) (used.0 byte inside),
    AreUsed-without Before After chunks index freed there others apart.1 used.1,
  )

  apart-without : (chunk : OutChunk) (chunks : List OutChunk) (index : ℕ) → IsApartFrom size_of chunk chunks →
      IsApartFrom size_of chunk (without_chunk index chunks)
  apart-without chunk [] index apart = tt
  apart-without chunk (first ∷ chunks) zero apart = apart.1
  apart-without chunk (first ∷ chunks) (suc index) apart = (apart.0, apart-without chunk chunks index apart.1)

  AreApart-without : (chunks : List OutChunk) (index : ℕ) → AreApart size_of chunks →
      AreApart size_of (without_chunk index chunks)
  AreApart-without [] index apart = tt
  AreApart-without (chunk ∷ chunks) zero apart = apart.1
  AreApart-without (chunk ∷ chunks) (suc index) apart =
      (apart-without chunk chunks index apart.0, AreApart-without chunks index apart.1)

  AreWithin-without : (total : ℕ) (chunks : List OutChunk) (index : ℕ) → AreWithin size_of total chunks →
      AreWithin size_of total (without_chunk index chunks)
  AreWithin-without total [] index within = tt
  AreWithin-without total (chunk ∷ chunks) zero within = within.1
  AreWithin-without total (chunk ∷ chunks) (suc index) within =
      (within.0, AreWithin-without total chunks index within.1)

-- what holds of the chunks that are out of an allocator, all along a run
pub record AreOut (properties before : Properties) (Used : ℕ → Type 0) (chunks : List OutChunk) : Type 0 where
  pub same : properties ≡ before
  pub apart : AreApart (chunk_size before) chunks
  pub within : AreWithin (chunk_size before) before.total chunks
  pub used : AreUsed (chunk_size before) Used chunks

module _ {S : Type 0} (Allocates : S → SizeAndAlignment → ℕ → S → Type 0) (Deallocates : S → ℕ → S → Type 0)
    (properties : S → Properties) (IsByteUsed IsAllocated : S → ℕ → Type 0) (IsPadding : S → ℕ → ℕ → Type 0)
    (before : Properties) where
  module _ (allocation : (old : S) (layout : SizeAndAlignment) (pointer : ℕ) (new : S) →
      Allocates old layout pointer new →
      IsAllocation (properties old) (properties new) (IsByteUsed old) (IsByteUsed new) (IsAllocated old)
      (IsAllocated new) (IsPadding old pointer) layout pointer) (deallocation : (old : S) (pointer : ℕ) (new : S) →
      Deallocates old pointer new →
      IsDeallocation (properties old) (properties new) (IsByteUsed old) (IsByteUsed new) (IsAllocated old)
      (IsAllocated new) pointer) where
    AreOut-allocation : (old : S) (layout : SizeAndAlignment) (pointer : ℕ) (new : S) (chunks : List OutChunk) →
        Allocates old layout pointer new → AreOut (properties old) before (IsByteUsed old) chunks →
        AreOut (properties new) before (IsByteUsed new) (record { layout = layout; pointer = pointer } ∷ chunks)
    AreOut-allocation old layout pointer new chunks allocates out =
        let law = allocation old layout pointer new allocates in
        let bytes = subst (λ (p : Properties). TakesChunk (IsByteUsed old) (IsByteUsed new) (IsPadding old pointer)
        pointer (chunk_size p layout))
        out.same law.bytes in
        let within = subst (λ (p : Properties). offset_of pointer + chunk_size p layout ≤ p.total) out.same
        law.within in
        record {
          same = law.properties ∙ out.same;
          apart = (
            apart-from_used (chunk_size before) (IsByteUsed old) (record { layout = layout; pointer = pointer })
                bytes.was_free chunks
                out.used,
            out.apart,
          );
          within = (within, out.within);
          used = (
            bytes.is_used_after,
            AreUsed-more (chunk_size before) (IsByteUsed old) (IsByteUsed new) bytes.others_used chunks out.used,
          );
        }

    AreOut-deallocation : (old : S) (new : S) (chunks : List OutChunk) (index : ℕ) (chunk : OutChunk) →
        slice_get chunks index ≡ Some chunk → Deallocates old chunk.pointer new →
        AreOut (properties old) before (IsByteUsed old) chunks →
        AreOut (properties new) before (IsByteUsed new) (without_chunk index chunks)
    AreOut-deallocation old new chunks index chunk there deallocates out =
        let law = deallocation old chunk.pointer new deallocates in
        let bytes = subst (λ (p : Properties).
        FreesChunk (IsByteUsed old) (IsByteUsed new) chunk.pointer (chunk_size p chunk.layout))
        out.same (law.bytes chunk.layout) in
        record {
          same = law.properties ∙ out.same;
          apart = AreApart-without (chunk_size before) chunks index out.apart;
          within = AreWithin-without (chunk_size before) before.total chunks index out.within;
          used =
              AreUsed-without (chunk_size before) (IsByteUsed old) (IsByteUsed new) chunks index chunk there
              bytes.others_used out.apart
              out.used;
        }

    pub AreOut-run : (first : S) (out : List OutChunk) (steps : List Step) (last : S) (left : List OutChunk) →
        IsRun Allocates Deallocates first out steps last left →
        AreOut (properties first) before (IsByteUsed first) out →
        AreOut (properties last) before (IsByteUsed last) left
    AreOut-run first out [] last left run holds =
        subst (λ (s : S). AreOut (properties s) before (IsByteUsed s) left) run.0
        (subst (λ (cs : List OutChunk). AreOut (properties first) before (IsByteUsed first) cs) run.1 holds)
    AreOut-run first out (gives layout pointer ∷ steps) last left run holds =
        AreOut-run run.0 (record { layout = layout; pointer = pointer } ∷ out) steps last left run.1.1
        (AreOut-allocation first layout pointer run.0 out run.1.0 holds)
    AreOut-run first out (takes_back index ∷ steps) last left run holds =
        AreOut-run run.0 (without_chunk index out) steps last left run.1.1.1.1
        (AreOut-deallocation first run.0 out index run.1.0 run.1.1.0 run.1.1.1.0 holds)
