-- Samples that aren't in use stay so where another one comes into use, and where any goes out of it.
use Rattle.std.specs.Prelude.{ℕ, ◌≡◌, ◌≢◌, ◌/◌, Bool, true, false, List, [], ◌∷◌, Option, Some, None, slice_index_or, slice_set, if◌then◌else◌}
use Rattle.std.proofs.Common.{zero, suc, refl, sym, ap, ◌∙◌, subst}
use Rattle.std.proofs.lemmas.List.{get_or-set_other}
use Rattle.cal_alloc.specs.PointerOffset.{offset_of, segment_of}
use Rattle.cal_connection.specs.Channel.{after_return, contains, is_used, names_used_entry, segment_at, with_entry, without_entry, without_used, with_used}
use Rattle.cal_connection.specs.declared.segment_details.SegmentDetails.{SegmentDetails}

-- a mark that is false stays so where any mark becomes false
false-set_false : (marks : List Bool) (i k : ℕ) → slice_index_or marks k false ≡ false →
    slice_index_or (slice_set marks i false) k false ≡ false
false-set_false [] i k h = h
false-set_false (mark ∷ marks) zero zero h = refl
false-set_false (mark ∷ marks) zero (suc k) h = h
false-set_false (mark ∷ marks) (suc i) zero h = h
false-set_false (mark ∷ marks) (suc i) (suc k) h = false-set_false marks i k h

-- a sample stays out of use where a segment is set to one in which it is out of use
unused-set : (segments : List SegmentDetails) (i s k : ℕ) (details : SegmentDetails) →
    (i ≡ s → contains details.used k ≡ false) → is_used segments s k ≡ false →
    is_used (slice_set segments i details) s k ≡ false
unused-set [] i s k details there h = h
unused-set (first ∷ segments) zero zero k details there h = there refl
unused-set (first ∷ segments) zero (suc s) k details there h = h
unused-set (first ∷ segments) (suc i) zero k details there h = h
unused-set (first ∷ segments) (suc i) (suc s) k details there h =
    unused-set segments i s k details (λ (same : i ≡ s). there (ap suc same)) h

-- a sample that another one isn't stays out of use where that one comes into use
pub unused-with_entry : (segments : List SegmentDetails) (pointer sample_size s k : ℕ) →
    k ≢ offset_of pointer / sample_size → is_used segments s k ≡ false →
    is_used (with_entry segments pointer sample_size) s k ≡ false
unused-with_entry segments pointer sample_size s k apart h =
    let i = segment_of pointer in
    let index = offset_of pointer / sample_size in
    unused-set segments i s k (with_used (segment_at segments i) sample_size index)
    (λ (same : i ≡ s).
    get_or-set_other (segment_at segments i).used.marks index k true false apart
    ∙ subst (λ (n : ℕ). is_used segments n k ≡ false) (sym same) h)
    h

unused-without_entry : (segments : List SegmentDetails) (pointer s k : ℕ) → is_used segments s k ≡ false →
    is_used (without_entry segments pointer) s k ≡ false
unused-without_entry segments pointer s k h =
    let i = segment_of pointer in
    unused-set segments i s k (without_used (segment_at segments i) (offset_of pointer))
    (λ (same : i ≡ s).
    false-set_false (segment_at segments i).used.marks (offset_of pointer / (segment_at segments i).sample_size) k
    (subst (λ (n : ℕ). is_used segments n k ≡ false) (sym same) h))
    h

unused-returned : (names : Bool) (segments : List SegmentDetails) (pointer s k : ℕ) → is_used segments s k ≡ false →
    is_used (if names then without_entry segments pointer else segments) s k ≡ false
unused-returned true segments pointer s k h = unused-without_entry segments pointer s k h
unused-returned false segments pointer s k h = h

-- a sample stays out of use whatever comes back
pub unused-after_return : (segments : List SegmentDetails) (back : Option ℕ) (s k : ℕ) →
    is_used segments s k ≡ false → is_used (after_return segments back) s k ≡ false
unused-after_return segments None s k h = h
unused-after_return segments (Some pointer) s k h =
    unused-returned (names_used_entry segments pointer) segments pointer s k h
