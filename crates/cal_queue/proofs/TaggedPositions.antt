-- The positions with a tag: how many there are, that they rise, and that each position with a tag is among those of one
-- tag.
use Rattle.std.proofs.Common.{◌≡◌, ℕ, zero, suc, ◌+◌, ◌<◌, ◌≤◌, List, [], ◌∷◌, length, slice_get, get_or, Some, refl, sym, ap, ◌∙◌, inl, inr, ◌⊎◌, ⊎_elim, arith}
use Rattle.std.proofs.lemmas.Option.{slice_get-get_or, slice_get_within}
use Rattle.cal_queue.specs.RingState.{Tag, received, overflowed, tagged_positions}
use Rattle.cal_queue.specs.Partition.{Rises, HasPosition, AsSent, IsPartition}

-- each position with a tag left in one way or in the other
pub tagged-counts : (first : ℕ) (tags : List Tag) (values : List ℕ) → length tags ≤ length values
    → length (tagged_positions received first tags values) + length (tagged_positions overflowed first tags values) ≡
    length tags
tagged-counts first [] values fits = refl
tagged-counts first (t ∷ ts) [] fits = absurd (omega arith)
tagged-counts first (received ∷ ts) (v ∷ vs) fits = let rest = tagged-counts (first + 1) ts vs (omega arith) in
    omega arith
tagged-counts first (overflowed ∷ ts) (v ∷ vs) fits = let rest = tagged-counts (first + 1) ts vs (omega arith) in
    omega arith

-- what an entry tells: the tag and the value at its position
pub record Tells (tag : Tag) (first : ℕ) (tags : List Tag) (values : List ℕ) (entry : ℕ × ℕ) : Type 0 where
  pub offset : ℕ
  pub position : entry.0 ≡ first + offset
  pub tag_there : slice_get tags offset ≡ Some tag
  pub value_there : slice_get values offset ≡ Some entry.1

first_tells : (tag : Tag) (first : ℕ) (ts : List Tag) (v : ℕ) (vs : List ℕ) (entry : ℕ × ℕ) →
    Some (first, v) ≡ Some entry → Tells tag first (tag ∷ ts) (v ∷ vs) entry
first_tells tag first ts v vs entry is =
    let same : (first, v) ≡ entry = cc in record {
      offset = 0;
      position = sym (ap (λ (e : ℕ × ℕ). e.0) same) ∙ omega arith;
      tag_there = refl;
      value_there = ap (λ (e : ℕ × ℕ). Some e.1) same;
    }

later_tells : (tag : Tag) (first : ℕ) (t : Tag) (ts : List Tag) (v : ℕ) (vs : List ℕ) (entry : ℕ × ℕ) →
    Tells tag (first + 1) ts vs entry → Tells tag first (t ∷ ts) (v ∷ vs) entry
later_tells tag first t ts v vs entry tells = record {
  offset = suc tells.offset;
  position = let p = tells.position in omega arith;
  tag_there = tells.tag_there;
  value_there = tells.value_there;
}

pub tagged-tells : (tag : Tag) (first : ℕ) (tags : List Tag) (values : List ℕ) (i : ℕ) (entry : ℕ × ℕ) →
    slice_get (tagged_positions tag first tags values) i ≡ Some entry → Tells tag first tags values entry
tagged-tells tag first [] values i entry is = cc
tagged-tells tag first (t ∷ ts) [] i entry is = cc
tagged-tells received first (received ∷ ts) (v ∷ vs) zero entry is = first_tells received first ts v vs entry is
tagged-tells received first (received ∷ ts) (v ∷ vs) (suc i) entry is =
    later_tells received first received ts v vs entry (tagged-tells received (first + 1) ts vs i entry is)
tagged-tells received first (overflowed ∷ ts) (v ∷ vs) i entry is = later_tells received first overflowed ts v vs entry
    (tagged-tells received (first + 1) ts vs i entry is)
tagged-tells overflowed first (received ∷ ts) (v ∷ vs) i entry is = later_tells overflowed first received ts v vs entry
    (tagged-tells overflowed (first + 1) ts vs i entry is)
tagged-tells overflowed first (overflowed ∷ ts) (v ∷ vs) zero entry is = first_tells overflowed first ts v vs entry is
tagged-tells overflowed first (overflowed ∷ ts) (v ∷ vs) (suc i) entry is =
    later_tells overflowed first overflowed ts v vs entry (tagged-tells overflowed (first + 1) ts vs i entry is)

-- an entry of the rest has a position after the first
behind : (tag : Tag) (first : ℕ) (ts : List Tag) (v : ℕ) (vs : List ℕ) (j : ℕ) (x y : ℕ × ℕ) →
    Some (first, v) ≡ Some x → slice_get (tagged_positions tag (first + 1) ts vs) j ≡ Some y → x.0 < y.0
behind tag first ts v vs j x y is there =
    let same : (first, v) ≡ x = cc in
    let here = ap (λ (e : ℕ × ℕ). e.0) same in
    let tells = tagged-tells tag (first + 1) ts vs j y there in
    let p = tells.position in omega arith

tagged-rises : (tag : Tag) (first : ℕ) (tags : List Tag) (values : List ℕ) →
    Rises (tagged_positions tag first tags values)
tagged-rises tag first [] values i j x y less at there = cc
tagged-rises tag first (t ∷ ts) [] i j x y less at there = cc
tagged-rises tag first (t ∷ ts) (v ∷ vs) i zero x y less at there = absurd (omega arith)
tagged-rises received first (received ∷ ts) (v ∷ vs) zero (suc j) x y less at there =
    behind received first ts v vs j x y at there
tagged-rises received first (received ∷ ts) (v ∷ vs) (suc i) (suc j) x y less at there =
    tagged-rises received (first + 1) ts vs i j x y (omega arith) at there
tagged-rises received first (overflowed ∷ ts) (v ∷ vs) i (suc j) x y less at there =
    tagged-rises received (first + 1) ts vs i (suc j) x y less at there
tagged-rises overflowed first (received ∷ ts) (v ∷ vs) i (suc j) x y less at there =
    tagged-rises overflowed (first + 1) ts vs i (suc j) x y less at there
tagged-rises overflowed first (overflowed ∷ ts) (v ∷ vs) zero (suc j) x y less at there =
    behind overflowed first ts v vs j x y at there
tagged-rises overflowed first (overflowed ∷ ts) (v ∷ vs) (suc i) (suc j) x y less at there =
    tagged-rises overflowed (first + 1) ts vs i j x y (omega arith) at there

-- one entry before, or none
further : (l : List (ℕ × ℕ)) (x : ℕ × ℕ) (position : ℕ) → HasPosition l position → HasPosition (x ∷ l) position
further l x position has = (suc has.0, has.1, has.2)

tagged-has : (tag : Tag) (first : ℕ) (tags : List Tag) (values : List ℕ) (offset position : ℕ) →
    length tags ≤ length values → slice_get tags offset ≡ Some tag → position ≡ first + offset
    → HasPosition (tagged_positions tag first tags values) position
tagged-has tag first [] values offset position fits is at = cc
tagged-has tag first (t ∷ ts) [] offset position fits is at = absurd (omega arith)
tagged-has received first (received ∷ ts) (v ∷ vs) zero position fits is at = let here : first ≡ position =
    omega arith in (0, v, ap (λ (k : ℕ). Some (k, v)) here)
tagged-has received first (received ∷ ts) (v ∷ vs) (suc d) position fits is at =
    further (tagged_positions received (first + 1) ts vs) (first, v) position
    (tagged-has received (first + 1) ts vs d position (omega arith) is (omega arith))
tagged-has received first (overflowed ∷ ts) (v ∷ vs) zero position fits is at = cc
tagged-has received first (overflowed ∷ ts) (v ∷ vs) (suc d) position fits is at =
    tagged-has received (first + 1) ts vs d position (omega arith) is (omega arith)
tagged-has overflowed first (received ∷ ts) (v ∷ vs) zero position fits is at = cc
tagged-has overflowed first (received ∷ ts) (v ∷ vs) (suc d) position fits is at =
    tagged-has overflowed (first + 1) ts vs d position (omega arith) is (omega arith)
tagged-has overflowed first (overflowed ∷ ts) (v ∷ vs) zero position fits is at = let here : first ≡ position =
    omega arith in (0, v, ap (λ (k : ℕ). Some (k, v)) here)
tagged-has overflowed first (overflowed ∷ ts) (v ∷ vs) (suc d) position fits is at =
    further (tagged_positions overflowed (first + 1) ts vs) (first, v) position
    (tagged-has overflowed (first + 1) ts vs d position (omega arith) is (omega arith))

module _ (tags : List Tag) (sent : List ℕ) (fits : length tags ≤ length sent) where
  abbrev of : Tag → List (ℕ × ℕ)
  of tag = tagged_positions tag 0 tags sent

  as_sent : (tag : Tag) → AsSent sent (of tag)
  as_sent tag i position value at =
      let tells = tagged-tells tag 0 tags sent i (position, value) at in
      let p = tells.position in
      let here : position ≡ tells.offset = omega arith in
      ap (λ (k : ℕ). slice_get sent k) here ∙ tells.value_there

  tag_at : (tag : Tag) (position : ℕ) → HasPosition (of tag) position → slice_get tags position ≡ Some tag
  tag_at tag position has =
      let tells = tagged-tells tag 0 tags sent has.0 (position, has.1) has.2 in
      let p = tells.position in
      let here : position ≡ tells.offset = omega arith in
      ap (λ (k : ℕ). slice_get tags k) here ∙ tells.tag_there

  has_one : (position : ℕ) (t : Tag) → slice_get tags position ≡ Some t →
      HasPosition (of received) position ⊎ HasPosition (of overflowed) position
  has_one position received is = inl (tagged-has received 0 tags sent position position fits is (omega arith))
  has_one position overflowed is = inr (tagged-has overflowed 0 tags sent position position fits is (omega arith))

  -- so what was sent is spread over what was received and what overflowed
  pub tagged-partition : IsPartition sent (of received) (of overflowed)
  tagged-partition =
      let counts = tagged-counts 0 tags sent fits in record {
        received_rise = tagged-rises received 0 tags sent;
        overflowed_rise = tagged-rises overflowed 0 tags sent;
        received_as_sent = as_sent received;
        overflowed_as_sent = as_sent overflowed;
        disjoint = λ position here there. let one = tag_at received position here in
            let other = tag_at overflowed position there in cc;
        first_positions = λ position below.
            has_one position (get_or tags position received) (slice_get-get_or tags position received (omega arith));
        no_others = λ position has. ⊎_elim
            (λ h. let within = slice_get_within tags position received (tag_at received position h) in omega arith)
            (λ h. let within = slice_get_within tags position overflowed (tag_at overflowed position h) in omega arith)
            has;
        within_sent = omega arith;
      }
