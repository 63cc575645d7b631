-- A segment of a memory, as its clauses say it and as its number shows it.
use Rattle.std.proofs.Common.{ℕ, ◌≡◌, Option, Some, None, IsSome, is_some, IsSomeAnd, true, refl, sym, subst}
use Rattle.std.proofs.lemmas.Option.{same_Some, none-some}
use Rattle.cal_storage.specs.Contents.{Contents, value_of}
use Rattle.cal_shm.specs.Calls.{OfValue}
use Rattle.cal_resizable.specs.Chunks.{segment_value, value_in}
use Rattle.cal_resizable.specs.Growth.{OfSegment}
use Rattle.cal_resizable.specs.Slots.{Slots, HeldSegment, segment_at}

module _ {T : Type 0} (contents : Contents T) (slots : Slots) (number : ℕ) where
  -- what holds of the segment of a number holds of the one that is shown
  pub of_shown : (fact : T → Type 0) (segment : T) → OfSegment contents slots number fact →
      segment_value contents slots number ≡ Some segment → fact segment
  of_shown fact segment = go (segment_at slots number)
    where
      at_value : (o : Option T) → IsSomeAnd o fact → o ≡ Some segment → fact segment
      at_value None holds is = absurd holds
      at_value (Some found) holds is = subst fact (same_Some found segment is) holds

      go : (o : Option HeldSegment) → IsSomeAnd o (λ held. OfValue contents held.handle.id fact) →
          value_in contents o ≡ Some segment → fact segment
      go None holds is = absurd holds
      go (Some held) holds is = at_value (value_of contents held.handle.id) holds is

  -- and the other way round
  pub from_shown : (fact : T → Type 0) (segment : T) → segment_value contents slots number ≡ Some segment →
      fact segment → OfSegment contents slots number fact
  from_shown fact segment = go (segment_at slots number)
    where
      go : (o : Option HeldSegment) → value_in contents o ≡ Some segment → fact segment →
          IsSomeAnd o (λ held. OfValue contents held.handle.id fact)
      go None is holds = absurd (none-some segment is)
      go (Some held) is holds =
          subst (λ (o : Option T). IsSomeAnd o fact) (sym is) holds

  -- a segment that is shown is held
  pub shown_held : (segment : T) → segment_value contents slots number ≡ Some segment →
      IsSome (segment_at slots number)
  shown_held segment = go (segment_at slots number)
    where
      go : (o : Option HeldSegment) → value_in contents o ≡ Some segment → is_some o ≡ true
      go None is = absurd (none-some segment is)
      go (Some held) is = refl
