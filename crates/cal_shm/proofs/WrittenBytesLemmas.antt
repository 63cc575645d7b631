-- What is read of the bytes that were written in a payload.
use Rattle.std.proofs.Common.{◌≡◌, ℕ, ◌+◌, ◌-◌, ◌≤◌, List, ◌++◌, length, take, drop, Option, Some, None, IsSomeAnd, ap, sym, subst, refl, ◌∙◌, arith}
use Rattle.std.proofs.Math.Seq.{take-append_seam, drop-append_seam}
use Rattle.std.proofs.lemmas.List.{length-append, length-take-le, length-drop, take_all}
use Rattle.std.specs.List.{slice_range}
use Rattle.cal_alloc.specs.Chunks.{Properties, chunk_size}
use Rattle.cal_alloc.specs.PointerOffset.{offset_of}
use Rattle.cal_alloc.specs.SizeAndAlignment.{SizeAndAlignment}
use Rattle.cal_alloc.specs.declared.shm_allocator.ShmAllocationError.{ShmAllocationError}
use Rattle.cal_storage.specs.Contents.{Contents, Has, value_of}
use Rattle.cal_storage.specs.Holding.{KeepsHandles}
use Rattle.cal_storage.specs.HoldingLemmas.{KeepsHandles-is}
use Rattle.cal_storage.specs.ValueLemmas.{Has-with_value, value_of-with_value-same}
use Rattle.cal_storage.specs.declared.Handle.{Handle}
use Rattle.cal_shm.specs.Calls.{OfValue, IsInPayload, IsChunkWithin, ChangesAllocator, with_written}
use Rattle.cal_shm.specs.Segment.{Segment, overwritten, with_allocator, with_bytes}
use Rattle.cal_shm.specs.WrittenLemmas.{Has-with_written, KeepsHandles-with_written, value_of-with_written}

module _ (bytes written : List ℕ) (offset : ℕ) (fits : offset + length written ≤ length bytes) where
  abbrev front : List ℕ
  front = take offset bytes

  abbrev back : List ℕ
  back = drop (length written) (drop offset bytes)

  length-front : length front ≡ offset
  length-front = length-take-le offset bytes (omega (arith, fits))

  length-whole : length (front ++ (written ++ back)) ≡ length bytes
  length-whole = omega (
    arith,
    fits,
    length-front,
    length-append front (written ++ back),
    length-append written back,
    length-drop (length written) (drop offset bytes),
    length-drop offset bytes,
  )

  overwritten-whole : overwritten bytes offset written ≡ front ++ (written ++ back)
  overwritten-whole = take_all (length bytes) (front ++ (written ++ back)) (omega (arith, length-whole))

  -- the number of bytes stays
  pub overwritten-length : length (overwritten bytes offset written) ≡ length bytes
  overwritten-length = ap length overwritten-whole ∙ length-whole

  -- and what was written is read
  pub overwritten-read : slice_range (overwritten bytes offset written) offset (offset + length written) ≡ written
  overwritten-read =
      let rest : drop offset (front ++ (written ++ back)) ≡ written ++ back =
      subst (λ n. drop n (front ++ (written ++ back)) ≡ written ++ back) length-front
      (drop-append_seam front (written ++ back)) in
      let same : (offset + length written) - offset ≡ length written = omega arith in
      ap (λ xs. slice_range xs offset (offset + length written)) overwritten-whole
      ∙ ap (λ n. take n (drop offset (front ++ (written ++ back)))) same
      ∙ ap (take (length written)) rest
      ∙ take-append_seam written back

module _ {A : Type 0} (contents : Contents (Segment A)) (handle : Handle) (offset : ℕ) (written : List ℕ)
    (has : Has contents handle) where
  -- what is known of a segment in which bytes were written
  pub of_written : (fact : Segment A → Type 0) → OfValue contents handle.id (λ segment.
      fact (with_bytes segment offset written)) →
      OfValue (with_written with_bytes contents handle.id offset written) handle.id fact
  of_written fact = from (value_of contents handle.id) refl
    where
      from : (found : Option (Segment A)) → value_of contents handle.id ≡ found →
          IsSomeAnd found (λ segment. fact (with_bytes segment offset written)) →
          OfValue (with_written with_bytes contents handle.id offset written) handle.id fact
      from None is holds = absurd holds
      from (Some segment) is holds =
          subst (λ found. IsSomeAnd found fact)
          (sym (value_of-with_written contents handle.id offset written segment is handle refl has)) holds

  -- it has the allocator that it had
  pub allocator_stays : (fact : A → Type 0) → OfValue contents handle.id (λ segment. fact segment.allocator) →
      OfValue (with_written with_bytes contents handle.id offset written) handle.id (λ segment. fact segment.allocator)
  allocator_stays fact = of_written (λ segment. fact segment.allocator)

  -- and as many bytes
  pub payload_stays : (at count : ℕ) → OfValue contents handle.id
      (λ segment. IsInPayload segment.payload offset (length written)) →
      OfValue contents handle.id (λ segment. IsInPayload segment.payload at count) →
      OfValue (with_written with_bytes contents handle.id offset written) handle.id
      (λ segment. IsInPayload segment.payload at count)
  payload_stays at count within = λ inside. of_written (λ segment. IsInPayload segment.payload at count)
      (both (value_of contents handle.id) within inside)
    where
      both : (found : Option (Segment A)) → IsSomeAnd found
          (λ segment. IsInPayload segment.payload offset (length written)) →
          IsSomeAnd found (λ segment. IsInPayload segment.payload at count) →
          IsSomeAnd found (λ segment. IsInPayload (overwritten segment.payload offset written) at count)
      both None fits is = absurd fits
      both (Some segment) fits is = omega (arith, is, overwritten-length segment.payload written offset fits)

  -- what is read there is what was written
  pub read_back : (lent : List ℕ) → OfValue contents handle.id
      (λ segment. IsInPayload segment.payload offset (length written)) →
      OfValue (with_written with_bytes contents handle.id offset written) handle.id
      (λ segment. lent ≡ slice_range segment.payload offset (offset + length written)) → lent ≡ written
  read_back lent within = from (value_of contents handle.id) refl within
    where
      from : (found : Option (Segment A)) → value_of contents handle.id ≡ found →
          IsSomeAnd found (λ segment. IsInPayload segment.payload offset (length written)) →
          OfValue (with_written with_bytes contents handle.id offset written) handle.id
          (λ segment. lent ≡ slice_range segment.payload offset (offset + length written)) → lent ≡ written
      from None is fits read = absurd fits
      from (Some segment) is fits read =
          subst (λ found. IsSomeAnd found
          (λ segment. lent ≡ slice_range segment.payload offset (offset + length written)))
          (value_of-with_written contents handle.id offset written segment is handle refl has) read
          ∙ overwritten-read segment.payload written offset fits

module _ {A : Type 0} (old new : Contents (Segment A)) (handle : Handle) (has : Has old handle)
    (Change : A → A → Type 0) (given : ChangesAllocator old handle.id Change new) where
  -- what is known of a segment whose allocator has changed
  of_changed : (fact : Segment A → Type 0) → fact (with_allocator given.segment given.allocator) →
      OfValue new handle.id fact
  of_changed fact holds =
      subst (λ contents. OfValue contents handle.id fact) (sym given.after)
      (subst (λ found. IsSomeAnd found fact)
      (sym (value_of-with_value-same old handle.id (with_allocator given.segment given.allocator) handle refl has))
      holds)

  -- a chunk that was given out for a layout has room for as many bytes as the layout
  pub has_room : (properties : A → Properties) (refusal : A → SizeAndAlignment → Option ShmAllocationError)
      (layout : SizeAndAlignment) (pointer count : ℕ) →
      ((allocator : A) → refusal allocator layout ≡ None → layout.size ≤ chunk_size (properties allocator) layout) →
      count ≤ layout.size → OfValue old handle.id (λ segment. None ≡ refusal segment.allocator layout) →
      OfValue old handle.id (λ segment. IsChunkWithin properties segment layout pointer) →
      OfValue new handle.id (λ segment. IsInPayload segment.payload (offset_of pointer) count)
  has_room properties refusal layout pointer count served fits free within =
      let free_here : None ≡ refusal given.segment.allocator layout =
      subst (λ found. IsSomeAnd found (λ segment. None ≡ refusal segment.allocator layout)) given.was free in
      let within_here : IsChunkWithin properties given.segment layout pointer =
      subst (λ found. IsSomeAnd found (λ segment. IsChunkWithin properties segment layout pointer)) given.was
      within in
      of_changed (λ segment. IsInPayload segment.payload (offset_of pointer) count)
      (omega (arith, fits, served given.segment.allocator (sym free_here), within_here))

-- A chunk was given out in a segment, and bytes were written in it.
module _ {A : Type 0} (old middle new : Contents (Segment A)) (handle : Handle) (has : Has old handle)
    (Change : A → A → Type 0) (given : ChangesAllocator old handle.id Change middle) (offset : ℕ) (written : List ℕ)
    (is : new ≡ with_written with_bytes middle handle.id offset written) where
  has_middle : Has middle handle
  has_middle =
      subst (λ contents. Has contents handle) (sym given.after)
      (Has-with_value old handle.id (with_allocator given.segment given.allocator) handle has)

  -- the entry of the handle is there
  pub has_after : Has new handle
  has_after =
      subst (λ contents. Has contents handle) (sym is)
      (Has-with_written middle handle.id offset written handle has_middle)

  -- what is out stays out
  pub allocator_after : (fact : A → Type 0) → OfValue middle handle.id (λ segment. fact segment.allocator) →
      OfValue new handle.id (λ segment. fact segment.allocator)
  allocator_after fact there =
      subst (λ contents. OfValue contents handle.id (λ segment. fact segment.allocator)) (sym is)
      (allocator_stays middle handle offset written has_middle fact there)

  -- every open handle keeps its entry, also over what comes next
  pub keeps_after : KeepsHandles old middle → (last : Contents (Segment A)) → KeepsHandles new last →
      KeepsHandles old last
  keeps_after first last next count holder some below holds =
      next count holder some below
      (KeepsHandles-is middle new (with_written with_bytes middle handle.id offset written) is
      (KeepsHandles-with_written middle handle.id offset written) count holder some below
      (first count holder some below holds))

  module _ (within : OfValue middle handle.id (λ segment. IsInPayload segment.payload offset (length written))) where
    pub within_after : OfValue new handle.id (λ segment. IsInPayload segment.payload offset (length written))
    within_after =
        subst (λ contents. OfValue contents handle.id
        (λ segment. IsInPayload segment.payload offset (length written))) (sym is)
        (payload_stays middle handle offset written has_middle offset (length written) within within)

    -- what was written is read
    pub read_after : (lent : List ℕ) → OfValue new handle.id
        (λ segment. lent ≡ slice_range segment.payload offset (offset + length written)) → lent ≡ written
    read_after lent read =
        read_back middle handle offset written has_middle lent within
        (subst (λ contents. OfValue contents handle.id
        (λ segment. lent ≡ slice_range segment.payload offset (offset + length written))) is read)
