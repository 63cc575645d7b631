-- Schedules that go on by one event, and the positions with a tag where one more is sent or leaves the queue.
use Rattle.std.proofs.Common.{◌≡◌, ℕ, suc, ◌+◌, ◌<◌, ◌≤◌, Bool, true, false, List, [], ◌∷◌, ◌++◌, length, get_or, Option, Some, None, IsSome, if◌then◌else◌, refl, ap, ◌∙◌, sym, subst, arith}
use Rattle.cal_queue.specs.RingState.{Tag, RingState, Bounds, Event, MayHappen, after_event, IsSchedule, IsReached, is_same_tag, tagged_positions}

pub IsSchedule-more : (b : Bounds) (c d : RingState) (events : List Event) (e : Event) → IsSchedule b c events d →
    MayHappen b d e → IsSchedule b c (events ++ e ∷ []) (after_event d e)
IsSchedule-more b c d [] e is may =
    (subst (λ (x : RingState). MayHappen b x e) (sym is) may, ap (λ (x : RingState). after_event x e) is)
IsSchedule-more b c d (x ∷ xs) e is may = (is.0, IsSchedule-more b (after_event c x) d xs e is.1 may)

pub IsReached-more : (b : Bounds) (c : RingState) (e : Event) → IsReached b c → MayHappen b c e →
    IsReached b (after_event c e)
IsReached-more b c e reached may = (reached.0 ++ e ∷ [], IsSchedule-more b _ c reached.0 e reached.1 may)

-- the value of an option that has one
pub value_of : (o : Option ℕ) → IsSome o → (value : ℕ) × (o ≡ Some value)
value_of (Some value) some = (value, refl)
value_of None some = cc

-- a value more that was sent has no tag yet
pub tagged_positions-sent : (tag : Tag) (first : ℕ) (tags : List Tag) (values : List ℕ) (value : ℕ) →
    length tags ≤ length values
    → tagged_positions tag first tags (values ++ value ∷ []) ≡ tagged_positions tag first tags values
tagged_positions-sent tag first [] values value fits = refl
tagged_positions-sent tag first (t ∷ ts) [] value fits = absurd (omega arith)
tagged_positions-sent tag first (t ∷ ts) (x ∷ xs) value fits =
    ap (λ (l : List (ℕ × ℕ)). if is_same_tag t tag then (first, x) ∷ l else l)
    (tagged_positions-sent tag (first + 1) ts xs value (omega arith))

-- what one tag more adds
abbrev pub one_tagged : Tag → ℕ → Tag → ℕ → List (ℕ × ℕ)
one_tagged tag position t value = if is_same_tag t tag then (position, value) ∷ [] else []

pushed : (b : Bool) (x : ℕ × ℕ) (l more : List (ℕ × ℕ)) →
    (if b then x ∷ (l ++ more) else l ++ more) ≡ (if b then x ∷ l else l) ++ more
pushed true x l more = refl
pushed false x l more = refl

pub tagged_positions-tag : (tag : Tag) (first : ℕ) (tags : List Tag) (t : Tag) (values : List ℕ) →
    length tags < length values
    → tagged_positions tag first (tags ++ t ∷ []) values ≡ tagged_positions tag first tags values ++ one_tagged tag
    (first + length tags) t (get_or values (length tags) 0)
tagged_positions-tag tag first tags t [] fits = absurd (omega arith)
tagged_positions-tag tag first [] t (x ∷ xs) fits =
    let here : first ≡ first + 0 = omega arith in ap (λ (k : ℕ). one_tagged tag k t x) here
tagged_positions-tag tag first (u ∷ us) t (x ∷ xs) fits =
    let rest = tagged_positions-tag tag (first + 1) us t xs (omega arith) in
    let place : first + 1 + length us ≡ first + suc (length us) = omega arith in
    let last = get_or xs (length us) 0 in
    ap (λ (l : List (ℕ × ℕ)). if is_same_tag u tag then (first, x) ∷ l else l) rest
    ∙ pushed (is_same_tag u tag) (first, x) (tagged_positions tag (first + 1) us xs)
    (one_tagged tag (first + 1 + length us) t last)
    ∙ ap (λ (k : ℕ). (if is_same_tag u tag then (first, x) ∷ tagged_positions tag (first + 1) us xs
    else tagged_positions tag (first + 1) us xs) ++ one_tagged tag k t last) place
