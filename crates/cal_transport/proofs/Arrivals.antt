-- What a view has mapped after an offset has arrived or was given back, as its calls say it.
use Rattle.std.proofs.Common.{ℕ, ◌+◌, ◌-◌, ◌<◌, ◌≡◌, ◌≢◌, Bool, true, false, cond, nat_eq, nat_lt, length, set, Option, Some, None, is_some, option_map, IsSome, inl, inr, refl, sym, ap, ◌∙◌, subst, arith}
use Rattle.std.proofs.lemmas.Bool.{true≢false, false≢true, cases_lt, eq-eqb, ne_eqb, eqb-true, eqb-false}
use Rattle.std.proofs.lemmas.Bool.Decides.{nat_tests}
use Rattle.std.proofs.lemmas.List.{get_or-set_same, get_or-set_other, get_or_past, length-set}
use Rattle.cal_alloc.specs.Pool.{Pool}
use Rattle.cal_storage.specs.Contents.{Contents, is_id, id_at, found_handle}
use Rattle.cal_shm.specs.Segment.{Segment}
use Rattle.cal_resizable.specs.Chunks.{segment_value}
use Rattle.cal_resizable.specs.Memory.{MemoryState}
use Rattle.cal_resizable.specs.Together.{AreTogether}
use Rattle.cal_resizable.specs.Slots.{Slots, HeldSegment, segment_at, count_in, count_at, counted_more, counted_less, with_more, with_less, without_segment, without_unused}
use Rattle.cal_resizable.specs.View.{View, IsView, view_after_arrival, with_found, mapping, registering, unregistering, without_unused_of, segment_path}
use Rattle.cal_transport.specs.State.{mapped_at}
use Rattle.cal_transport.specs.Sharing.{Arrives}
use Rattle.cal_transport.specs.Viewing.{is_told, while_counted, opened_after_arrival, mapped_after_arrival, mapped_after_return}
use Rattle.cal_transport.proofs.Lists.{same_or_apart}

abbrev count_of : Option HeldSegment → Option ℕ
count_of o = option_map (λ (held : HeldSegment). held.count) o

mapped_some : (o : Option HeldSegment) → is_some (count_of o) ≡ is_some o
mapped_some None = refl
mapped_some (Some held) = refl

-- what a written slot holds
set_here : (slots : Slots) (number : ℕ) (slot : Option HeldSegment) → number < length slots →
    segment_at (set slots number slot) number ≡ slot
set_here slots number slot within = get_or-set_same slots number slot None within

set_else : (slots : Slots) (number other : ℕ) (slot : Option HeldSegment) → other ≢ number →
    segment_at (set slots number slot) other ≡ segment_at slots other
set_else slots number other slot apart = get_or-set_other slots number other slot None apart

-- ---- one more, one less

more_is : (o : Option HeldSegment) → count_of (counted_more o) ≡ option_map (λ n. n + 1) (count_of o)
more_is None = refl
more_is (Some held) = refl

less_is : (o : Option HeldSegment) → count_of (counted_less o) ≡ option_map (λ n. n - 1) (count_of o)
less_is None = refl
less_is (Some held) = refl

mapped_more : (slots : Slots) (number other : ℕ) → number < length slots → mapped_at (with_more slots number) other
    ≡ cond (nat_eq other number) (option_map (λ n. n + 1) (mapped_at slots other)) (mapped_at slots other)
mapped_more slots number other within = elim (same_or_apart other number) [
  | inl same ↦
      ap (λ n. mapped_at (with_more slots number) n) same
      ∙ ap count_of (set_here slots number (counted_more (segment_at slots number)) within)
      ∙ more_is (segment_at slots number)
      ∙ ap (λ n. option_map (λ m. m + 1) (mapped_at slots n)) (sym same)
      ∙ sym (ap (λ b. cond b (option_map (λ n. n + 1) (mapped_at slots other)) (mapped_at slots other))
      (eq-eqb other number same))
  | inr apart ↦
      ap count_of (set_else slots number other (counted_more (segment_at slots number)) apart)
      ∙ sym (ap (λ b. cond b (option_map (λ n. n + 1) (mapped_at slots other)) (mapped_at slots other))
      (ne_eqb other number apart))
]

-- ---- a segment that goes while it isn't counted

unless_counted : (o : Option HeldSegment) → cond (nat_eq (count_in o) 0) None (count_of o) ≡ while_counted (count_of o)
unless_counted None = refl
unless_counted (Some held) = tells held.count
  where
    tells : (n : ℕ) → cond (nat_eq n 0) None (Some n) ≡ cond (nat_lt 0 n) (Some n) None
    tells n = elim (same_or_apart n 0) [
      | inl none ↦ ap (λ b. cond b None (Some n)) (eq-eqb n 0 none)
          ∙ sym (ap (λ b. cond b (Some n) None) (let low : nat_lt 0 n ≡ false = grind (arith, nat_tests) in low))
      | inr some ↦ ap (λ b. cond b None (Some n)) (ne_eqb n 0 some)
          ∙ sym (ap (λ b. cond b (Some n) None) (let high : nat_lt 0 n ≡ true = grind (arith, nat_tests) in high))
    ]

unused_here : (slots : Slots) (number : ℕ) → number < length slots →
    mapped_at (without_unused slots number) number ≡ while_counted (mapped_at slots number)
unused_here slots number within = by_test (nat_eq (count_at slots number) 0) refl
  where
    by_test : (b : Bool) → nat_eq (count_at slots number) 0 ≡ b →
        mapped_at (cond b (without_segment slots number) slots) number ≡ while_counted (mapped_at slots number)
    by_test true e =
        ap count_of (set_here slots number None within)
        ∙ sym (ap (λ c. cond c None (mapped_at slots number)) e)
        ∙ unless_counted (segment_at slots number)
    by_test false e =
        sym (ap (λ c. cond c None (mapped_at slots number)) e) ∙ unless_counted (segment_at slots number)

unused_else : (slots : Slots) (number other : ℕ) → other ≢ number →
    mapped_at (without_unused slots number) other ≡ mapped_at slots other
unused_else slots number other apart = by_test (nat_eq (count_at slots number) 0)
  where
    by_test : (b : Bool) → mapped_at (cond b (without_segment slots number) slots) other ≡ mapped_at slots other
    by_test true = ap count_of (set_else slots number other None apart)
    by_test false = refl

-- ---- an arrival

-- the segment was mapped
pub arrived_mapped : (view : View) (number other : ℕ) → number < length view.slots →
    is_some (segment_at view.slots number) ≡ true → mapped_at (registering view number).slots other
    ≡ mapped_after_arrival view.current (mapped_at view.slots) number other
arrived_mapped view number other within is =
    mapped_more view.slots number other within
    ∙ sym (ap (λ m. cond m
    (cond (nat_eq other number) (option_map (λ n. n + 1) (mapped_at view.slots other)) (mapped_at view.slots other))
    (cond (nat_eq other number) (Some 1)
    (cond (is_told view.current other) (while_counted (mapped_at view.slots other)) (mapped_at view.slots other))))
    (mapped_some (segment_at view.slots number) ∙ is))

pub opened_mapped : (view : View) (number : ℕ) → is_some (segment_at view.slots number) ≡ true →
    view.current ≡ opened_after_arrival view.current (mapped_at view.slots) number
opened_mapped view number is =
    sym (ap (λ m. cond m view.current (Some number)) (mapped_some (segment_at view.slots number) ∙ is))

-- it was not
module _ (view : View) (number id : ℕ) (within : number < length view.slots)
    (un : is_some (segment_at view.slots number) ≡ false)
    (current : (n : ℕ) → view.current ≡ Some n → (n ≢ number) × (n < length view.slots)) where
  abbrev found : Slots
  found = with_found view number id

  long : length found ≡ length view.slots
  long = length-set view.slots number (Some (record { handle = found_handle (segment_path view number) id; count = 0 }))

  -- what is mapped once the former current one has gone where it wasn't counted
  left_here : (o : Option ℕ) → view.current ≡ o → mapped_at (without_unused_of found o) number ≡ Some 0
  left_here None e = ap count_of (set_here view.slots number _ within)
  left_here (Some n) e =
      unused_else found n number (λ same. (current n e).0 (sym same)) ∙ ap count_of (set_here view.slots number _
      within)

  left_else : (o : Option ℕ) (other : ℕ) → view.current ≡ o → other ≢ number →
      mapped_at (without_unused_of found o) other
      ≡ cond (is_told o other) (while_counted (mapped_at view.slots other)) (mapped_at view.slots other)
  left_else None other e apart = ap count_of (set_else view.slots number other _ apart)
  left_else (Some n) other e apart = elim (same_or_apart other n) [
    | inl same ↦
        let in_it : n < length found = subst (λ m. n < m) (sym long) (current n e).1 in
        ap (mapped_at (without_unused found n)) same ∙ unused_here found n in_it
        ∙ ap while_counted (ap count_of (set_else view.slots number n _ (current n e).0))
        ∙ ap (λ m. while_counted (mapped_at view.slots m)) (sym same)
        ∙ sym (ap (λ b. cond b (while_counted (mapped_at view.slots other)) (mapped_at view.slots other))
        (eq-eqb n other (sym same)))
    | inr elsewhere ↦
        unused_else found n other elsewhere ∙ ap count_of (set_else view.slots number other _ apart)
        ∙ sym (ap (λ b. cond b (while_counted (mapped_at view.slots other)) (mapped_at view.slots other))
        (ne_eqb n other (λ q. elsewhere (sym q))))
  ]

  abbrev left : Slots
  left = without_unused_of found view.current

  left_long : (o : Option ℕ) → length (without_unused_of found o) ≡ length view.slots
  left_long None = long
  left_long (Some n) = by_test (nat_eq (count_at found n) 0)
    where
      by_test : (b : Bool) → length (cond b (without_segment found n) found) ≡ length view.slots
      by_test true = length-set found n None ∙ long
      by_test false = long

  pub arrived_new : (other : ℕ) → mapped_at (registering (mapping view number (Some id)) number).slots other
      ≡ mapped_after_arrival view.current (mapped_at view.slots) number other
  arrived_new other =
      mapped_more left number other (subst (λ m. number < m) (sym (left_long view.current)) within)
      ∙ by_same (nat_eq other number) refl
      ∙ sym (ap (λ m. cond m
      (cond (nat_eq other number) (option_map (λ n. n + 1) (mapped_at view.slots other)) (mapped_at view.slots other))
      (cond (nat_eq other number) (Some 1)
      (cond (is_told view.current other) (while_counted (mapped_at view.slots other)) (mapped_at view.slots other))))
      (mapped_some (segment_at view.slots number) ∙ un))
    where
      by_same : (same : Bool) → nat_eq other number ≡ same →
          cond same (option_map (λ n. n + 1) (mapped_at left other)) (mapped_at left other)
          ≡ cond same (Some 1)
          (cond (is_told view.current other) (while_counted (mapped_at view.slots other)) (mapped_at view.slots other))
      by_same true e =
          ap (λ n. option_map (λ m. m + 1) (mapped_at left n)) (eqb-true other number e)
          ∙ ap (option_map (λ m. m + 1)) (left_here view.current refl)
      by_same false e = left_else view.current other refl (eqb-false other number e)

  pub opened_new : Some number ≡ opened_after_arrival view.current (mapped_at view.slots) number
  opened_new = sym (ap (λ m. cond m view.current (Some number)) (mapped_some (segment_at view.slots number) ∙ un))

-- ---- a return

told_is_id : (o : Option ℕ) (number : ℕ) → is_id o number ≡ is_told o number
told_is_id None number = refl
told_is_id (Some n) number = refl

module _ (view : View) (number : ℕ) (within : number < length view.slots) where
  abbrev lower : Slots
  lower = with_less view.slots number

  abbrev one_less : Option ℕ
  one_less = option_map (λ n. n - 1) (mapped_at view.slots number)

  lower_here : mapped_at lower number ≡ one_less
  lower_here = ap count_of (set_here view.slots number (counted_less (segment_at view.slots number)) within)
      ∙ less_is (segment_at view.slots number)

  lower_else : (other : ℕ) → other ≢ number → mapped_at lower other ≡ mapped_at view.slots other
  lower_else other apart =
      ap count_of (set_else view.slots number other (counted_less (segment_at view.slots number)) apart)

  lower_within : number < length lower
  lower_within = subst (λ m. number < m)
      (sym (length-set view.slots number (counted_less (segment_at view.slots number)))) within

  here_told : (told : Bool) → mapped_at (without_unused_of lower (cond told None (Some number))) number
      ≡ cond told one_less (while_counted one_less)
  here_told true = lower_here
  here_told false = unused_here lower number lower_within ∙ ap while_counted lower_here

  else_told : (other : ℕ) (told : Bool) → other ≢ number →
      mapped_at (without_unused_of lower (cond told None (Some number))) other ≡ mapped_at view.slots other
  else_told other true apart = lower_else other apart
  else_told other false apart = unused_else lower number other apart ∙ lower_else other apart

  gone_here : mapped_at (unregistering view number).slots number
      ≡ mapped_after_return view.current (mapped_at view.slots) number number
  gone_here =
      ap (λ b. mapped_at (without_unused_of lower (cond b None (Some number))) number) (told_is_id view.current number)
      ∙ here_told (is_told view.current number)
      ∙ sym (ap (λ b. cond b (cond (is_told view.current number) one_less (while_counted one_less))
      (mapped_at view.slots number)) (eq-eqb number number refl))

  gone_else : (other : ℕ) → other ≢ number → mapped_at (unregistering view number).slots other
      ≡ mapped_after_return view.current (mapped_at view.slots) number other
  gone_else other apart =
      ap (λ b. mapped_at (without_unused_of lower (cond b None (Some number))) other) (told_is_id view.current number)
      ∙ else_told other (is_told view.current number) apart
      ∙ sym (ap (λ b. cond b (cond (is_told view.current number) one_less (while_counted one_less))
      (mapped_at view.slots other)) (ne_eqb other number apart))

  pub gone_back : (other : ℕ) → mapped_at (unregistering view number).slots other
      ≡ mapped_after_return view.current (mapped_at view.slots) number other
  gone_back other = elim (same_or_apart other number) [
    | inl same ↦ subst (λ n. mapped_at (unregistering view number).slots n
        ≡ mapped_after_return view.current (mapped_at view.slots) number n) (sym same) gone_here
    | inr apart ↦ gone_else other apart
  ]

-- ---- what an arrival is seen as

held_within : (slots : Slots) (number : ℕ) → IsSome (segment_at slots number) → number < length slots
held_within slots number held = elim (cases_lt number (length slots)) [
  | inl below ↦ below
  | inr past ↦ absurd (false≢true (sym (ap is_some (get_or_past slots number None past)) ∙ held))
]

pub arrives : (memory : MemoryState) (old new : Contents (Segment Pool)) (view after : View) (number : ℕ) →
    IsView view → number < 256 → IsSome (id_at old (segment_path view number)) →
    after ≡ view_after_arrival old view number → AreTogether new memory after →
    ((other : ℕ) → segment_value new memory.slots other ≡ segment_value old memory.slots other) →
    Arrives memory old view number new after
arrives memory old new view after number sound small path_found is together segments =
    go (is_some (segment_at view.slots number)) (id_at old (segment_path view number)) refl refl path_found
  where
    within : number < length view.slots
    within = subst (λ n. number < n) (sym sound.slots) small

    arrived_as : (last : Option ℕ) (slots : Slots) → after.current ≡ last → after.slots ≡ slots →
        last ≡ opened_after_arrival view.current (mapped_at view.slots) number →
        ((other : ℕ) → mapped_at slots other ≡ mapped_after_arrival view.current (mapped_at view.slots) number other) →
        Arrives memory old view number new after
    arrived_as last slots opened_is slots_are opened mapped = record {
      together = together;
      segments = segments;
      opened = opened_is ∙ opened;
      mapped = λ other. ap (λ s. mapped_at s other) slots_are ∙ mapped other;
    }

    go : (held : Bool) (id : Option ℕ) → is_some (segment_at view.slots number) ≡ held →
        id_at old (segment_path view number) ≡ id → IsSome id → Arrives memory old view number new after
    go held None is_held id_is none = absurd (false≢true none)
    go true (Some id) is_held id_is some =
        let now : after ≡ registering view number = is
        ∙ ap (λ b. cond b (registering view number)
        (registering (mapping view number (id_at old (segment_path view number))) number)) is_held in
        arrived_as view.current (registering view number).slots (ap (λ (v : View). v.current) now)
        (ap (λ (v : View). v.slots) now) (opened_mapped view number is_held)
        (λ other. arrived_mapped view number other within is_held)
    go false (Some id) is_held id_is some =
        let now : after ≡ registering (mapping view number (Some id)) number = is
        ∙ ap (λ b. cond b (registering view number)
        (registering (mapping view number (id_at old (segment_path view number))) number)) is_held
        ∙ ap (λ o. registering (mapping view number o) number) id_is in
        let current = λ (n : ℕ) (told : view.current ≡ Some n). (
        let held_n = sound.current n told in
        let apart : n ≢ number = λ same. true≢false (sym held_n
        ∙ ap (λ m. is_some (segment_at view.slots m)) same ∙ is_held) in
        let both : (n ≢ number) × (n < length view.slots) = (apart, held_within view.slots n held_n) in both) in
        arrived_as (Some number) (registering (mapping view number (Some id)) number).slots
        (ap (λ (v : View). v.current) now) (ap (λ (v : View). v.slots) now)
        (opened_new view number id within is_held current)
        (arrived_new view number id within is_held current)
