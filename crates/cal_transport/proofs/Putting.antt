-- What a segment of a memory has after bytes were written into it, as the calls say it.
use Rattle.std.proofs.Common.{ℕ, ◌+◌, ◌-◌, ◌≤◌, ◌≡◌, ◌≢◌, List, ◌++◌, length, take, drop, Option, Some, None, IsSomeAnd, refl, sym, ap, ◌∙◌, arith}
use Rattle.std.specs.List.{slice_range}
use Rattle.std.proofs.lemmas.List.{append_assoc, length-append, length-take-le, length-drop, take_all, drop-drop}
use Rattle.std.proofs.lemmas.Option.{none-some}
use Rattle.cal_alloc.specs.Pool.{Pool}
use Rattle.cal_storage.specs.Contents.{Contents, value_of}
use Rattle.cal_storage.specs.ValueLemmas.{value_of-with_value-other}
use Rattle.cal_shm.specs.Calls.{OfValue, IsInPayload, with_written, with_written_in}
use Rattle.cal_shm.specs.Segment.{Segment, overwritten}
use Rattle.cal_shm.specs.Segment as segment
use Rattle.cal_shm.specs.WrittenLemmas.{value_of-with_written}
use Rattle.cal_resizable.specs.Chunks.{segment_value, value_in}
use Rattle.cal_resizable.specs.Growth.{OfSegment}
use Rattle.cal_resizable.specs.Memory.{MemoryState}
use Rattle.cal_resizable.specs.Slots.{Slots, HeldSegment, segment_at, id_at_slot, id_in}
use Rattle.cal_resizable.specs.Together.{AreTogether}
use Rattle.cal_resizable.specs.View.{View}
use Rattle.cal_transport.specs.Step.{with_bytes}
use Rattle.cal_transport.specs.Putting.{PutsBytes}
use Rattle.cal_transport.proofs.Segments.{of_shown}

-- bytes that lie within a payload are put over what stands there
pub overwritten_is : (m : List ℕ) (a : ℕ) (bytes : List ℕ) → a + length bytes ≤ length m →
    overwritten m a bytes ≡ with_bytes m a bytes
overwritten_is m a bytes fits =
    take_all (length m) (take a m ++ (bytes ++ drop (length bytes) (drop a m))) whole
    ∙ ap (λ rest. take a m ++ (bytes ++ rest)) (drop-drop (length bytes) a m)
    ∙ sym (append_assoc (take a m) bytes (drop (a + length bytes) m))
  where
    whole : length (take a m ++ (bytes ++ drop (length bytes) (drop a m))) ≤ length m
    whole = omega (
      arith,
      fits,
      length-take-le a m (omega (arith, fits)),
      length-append (take a m) (bytes ++ drop (length bytes) (drop a m)),
      length-append bytes (drop (length bytes) (drop a m)),
      length-drop (length bytes) (drop a m),
      length-drop a m,
    )

-- as many bytes are lent as were asked for
module _ {A : Type 0} (contents : Contents (Segment A)) (slots : Slots) (number place count : ℕ) (bytes : List ℕ) where
  pub lent_long : OfSegment contents slots number (λ s. IsInPayload s.payload place count) →
      OfSegment contents slots number (λ s. bytes ≡ slice_range s.payload place (place + count)) →
      length bytes ≡ count
  lent_long = go (segment_at slots number)
    where
      at_value : (o : Option (Segment A)) → IsSomeAnd o (λ s. IsInPayload s.payload place count) →
          IsSomeAnd o (λ s. bytes ≡ slice_range s.payload place (place + count)) → length bytes ≡ count
      at_value None within is = absurd within
      at_value (Some s) within is =
          ap length is
          ∙ length-take-le (place + count - place) (drop place s.payload)
          (let long = length-drop place s.payload in omega arith)
          ∙ (let e : place + count - place ≡ count = omega arith in e)

      go : (o : Option HeldSegment) →
          IsSomeAnd o (λ held. OfValue contents held.handle.id (λ s. IsInPayload s.payload place count)) →
          IsSomeAnd o (λ held. OfValue contents held.handle.id
          (λ s. bytes ≡ slice_range s.payload place (place + count))) → length bytes ≡ count
      go None within is = absurd within
      go (Some held) within is = at_value (value_of contents held.handle.id) within is

-- a segment that is held, with its value
pub record IsHeldAt (contents : Contents (Segment Pool)) (memory : MemoryState) (number : ℕ) (found : Segment Pool) :
    Type 0 where
  pub held : HeldSegment
  pub there : segment_at memory.slots number ≡ Some held
  pub value : value_of contents held.handle.id ≡ Some found

pub held_at : (contents : Contents (Segment Pool)) (memory : MemoryState) (number : ℕ) (found : Segment Pool) →
    segment_value contents memory.slots number ≡ Some found → IsHeldAt contents memory number found
held_at contents memory number found is = go (segment_at memory.slots number) refl is
  where
    go : (o : Option HeldSegment) → segment_at memory.slots number ≡ o → value_in contents o ≡ Some found →
        IsHeldAt contents memory number found
    go None e q = absurd (none-some found q)
    go (Some held) e q = record { held = held; there = e; value = q }

module _ (memory : MemoryState) (view : View) (old new : Contents (Segment Pool)) (number place : ℕ) (bytes : List ℕ)
    (together : AreTogether old memory view)
    (within : OfSegment old memory.slots number (λ s. IsInPayload s.payload place (length bytes)))
    (written : new ≡ with_written segment.with_bytes old (id_at_slot memory.slots number) place bytes)
    (stays : AreTogether new memory view) where
  here : (found : Segment Pool) → segment_value old memory.slots number ≡ Some found →
      segment_value new memory.slots number
      ≡ Some (record found { payload = with_bytes found.payload place bytes })
  here found is =
      let at = held_at old memory number found is in
      let same : id_at_slot memory.slots number ≡ at.held.handle.id = ap id_in at.there in
      ap (value_in new) at.there
      ∙ ap (λ c. value_of c at.held.handle.id)
      (written ∙ ap (λ id. with_written segment.with_bytes old id place bytes) same)
      ∙ value_of-with_written old at.held.handle.id place bytes found at.value at.held.handle refl
      (together.has_memory.of_segments number at.held at.there)
      ∙ ap (λ m. Some (record found { payload = m }))
      (overwritten_is found.payload place bytes
      (of_shown old memory.slots number (λ s. IsInPayload s.payload place (length bytes)) found within is))

  others : (other : ℕ) → other ≢ number →
      segment_value new memory.slots other ≡ segment_value old memory.slots other
  others other apart = go (segment_at memory.slots other) refl
    where
      at_slot : (o : Option HeldSegment) → segment_at memory.slots number ≡ o →
          IsSomeAnd o (λ held. IsSomeAnd (value_of old held.handle.id) (λ s. IsInPayload s.payload place
          (length bytes))) → (held : HeldSegment) → segment_at memory.slots other ≡ Some held →
          value_of new held.handle.id ≡ value_of old held.handle.id
      at_slot None e fits held there = absurd fits
      at_slot (Some one) e fits held there =
          ap (λ c. value_of c held.handle.id)
          (written ∙ ap (λ id. with_written segment.with_bytes old id place bytes) (ap id_in e))
          ∙ at_value (value_of old one.handle.id)
        where
          at_value : (o : Option (Segment Pool)) →
              value_of (with_written_in segment.with_bytes old one.handle.id place bytes o) held.handle.id
              ≡ value_of old held.handle.id
          at_value None = refl
          at_value (Some found) = value_of-with_value-other old one.handle.id (segment.with_bytes found place bytes)
              held.handle.id (together.memory_sound.apart other number held one apart there e)

      go : (o : Option HeldSegment) → segment_at memory.slots other ≡ o →
          segment_value new memory.slots other ≡ segment_value old memory.slots other
      go None e = ap (value_in new) e ∙ sym (ap (value_in old) e)
      go (Some held) e = ap (value_in new) e
          ∙ at_slot (segment_at memory.slots number) refl within held e ∙ sym (ap (value_in old) e)

  pub puts : PutsBytes memory view old number place bytes new
  puts = record { together = stays; others = others; here = here }
