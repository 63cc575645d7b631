-- Names with the ids that they stand for: a look-up, the order and the keys after one is entered or taken out.
use Rattle.std.proofs.Common.{◌≡◌, ℕ, Bool, true, false, cond, not, ◌||◌, ◌⊎◌, List, [], ◌∷◌, Option, Some, None, is_some, filter, Ordering, Less, Equal, Greater, nat_cmp, is_eq, refl, sym, ap, ◌∙◌, inl, inr, true≢false}
use Rattle.std.proofs.lemmas.Bool.{cases_Bool, cond-true, cond-false}
use Rattle.std.proofs.lemmas.Cmp.{nat_list_cmp_total, tied_itself}
use Rattle.std.proofs.lemmas.Map.{lookup-remove_entry}
use Rattle.std.proofs.lemmas.Map.Keys.{IsDistinct-from_sorted}
use Rattle.std.specs.BTreeMap.{insert_entry}
use Rattle.std.specs.Cmp.{eq_by_cmp_equiv}
use Rattle.std.specs.Cmp.Lexicographic.{slice_cmp, texts_ties, bytes_decides}
use Rattle.std.specs.List.{AllByRecursion, list_any}
use Rattle.std.specs.List.Sorted.{IsStrictlySortedBy}
use Rattle.std.specs.Map.{keys_of, lookup, remove_entry}
use Rattle.std.specs.Ordering.{match_ordering, ordering_reverse}
use Rattle.cal_storage.specs.Contents.{is_path}

abbrev Names : Type 0
Names = List (List ℕ × ℕ)

abbrev pub entered : Names → List ℕ → ℕ → Names
entered es path id = insert_entry (slice_cmp nat_cmp) es path id

-- ---- equal paths

pub is_path-same : (path : List ℕ) → is_path path path ≡ true
is_path-same path = ap is_eq (tied_itself nat_list_cmp_total path)

pub is_path-true : (path other : List ℕ) → is_path path other ≡ true → path ≡ other
is_path-true path other h = (bytes_decides path other).0 (texts_ties path other ∙ h)

pub is_path-flip : (path other : List ℕ) → is_path path other ≡ is_path other path
is_path-flip path other = (eq_by_cmp_equiv nat_list_cmp_total).symm path other

pub is_path-apart : (path other : List ℕ) → (path ≡ other → ⊥) → is_path path other ≡ false
is_path-apart path other apart =
    elim (cases_Bool (is_path path other)) [ inl h ↦ absurd (apart (is_path-true path other h)) | inr h ↦ h ]

pub cases_path : (path other : List ℕ) → (path ≡ other) ⊎ (is_path path other ≡ false)
cases_path path other =
    elim (cases_Bool (is_path path other)) [ inl h ↦ inl (is_path-true path other h) | inr h ↦ inr h ]

-- ---- a look-up after a name is entered

module _ (path : List ℕ) (id : ℕ) where
  at_entry : (q : List ℕ) (e : List ℕ × ℕ) (es : Names) (order : Ordering) → slice_cmp nat_cmp path e.0 ≡ order
      → lookup (is_path q) (entered es path id) ≡ cond (is_path path q) (Some id) (lookup (is_path q) es)
      → lookup (is_path q) (match_ordering order ((path, id) ∷ e ∷ es) ((e.0, id) ∷ es) (e ∷ entered es path id)) ≡
      cond (is_path path q) (Some id) (lookup (is_path q) (e ∷ es))
  at_entry q e es Less h rest = ap (λ b. cond b (Some id) (lookup (is_path q) (e ∷ es))) (is_path-flip q path)
  at_entry q e es Equal h rest =
      let same : is_path path q ≡ is_path q e.0 = is_path-flip path q
      ∙ ap (is_path q) (is_path-true path e.0 (ap is_eq h)) in
      rw same (elim (is_path q e.0)
      as (λ b. cond b (Some id) (lookup (is_path q) es) ≡
      cond b (Some id) (cond b (Some e.1) (lookup (is_path q) es))) [ true ↦ refl | false ↦ refl ])
  at_entry q e es Greater h rest =
      elim (cases_path q e.0) [
        | inl same ↦
            let here : is_path q e.0 ≡ true = ap (is_path q) (sym same) ∙ is_path-same q in
            let apart : is_path path q ≡ false = ap (is_path path) same ∙ ap is_eq h in
            cond-true (is_path q e.0) _ _ here ∙ sym (cond-true (is_path q e.0) _ _ here)
            ∙ sym (cond-false (is_path path q) _ _ apart)
        | inr apart ↦ cond-false (is_path q e.0) _ _ apart ∙ rest
            ∙ ap (cond (is_path path q) (Some id)) (sym (cond-false (is_path q e.0) (Some e.1) _ apart))
      ]

  pub lookup-insert_entry : (es : Names) (q : List ℕ) →
      lookup (is_path q) (insert_entry (slice_cmp nat_cmp) es path id) ≡ cond (is_path path q) (Some id)
      (lookup (is_path q) es)
  lookup-insert_entry [] q = ap (λ b. cond b (Some id) None) (is_path-flip q path)
  lookup-insert_entry (e ∷ es) q = at_entry q e es (slice_cmp nat_cmp path e.0) refl (lookup-insert_entry es q)

  pub lookup-insert_entry-same : (es : Names) →
      lookup (is_path path) (insert_entry (slice_cmp nat_cmp) es path id) ≡ Some id
  lookup-insert_entry-same es = lookup-insert_entry es path ∙ cond-true (is_path path path) _ _ (is_path-same path)

  pub lookup-insert_entry-other : (es : Names) (q : List ℕ) → is_path path q ≡ false →
      lookup (is_path q) (insert_entry (slice_cmp nat_cmp) es path id) ≡ lookup (is_path q) es
  lookup-insert_entry-other es q apart = lookup-insert_entry es q ∙ cond-false (is_path path q) _ _ apart

  -- ---- the name that was entered is taken out again

  taken_back : (e : List ℕ × ℕ) (es : Names) (order : Ordering) → slice_cmp nat_cmp path e.0 ≡ order →
      is_path path e.0 ≡ false → remove_entry (is_path path) (entered es path id) ≡ es
      → remove_entry (is_path path)
      (match_ordering order ((path, id) ∷ e ∷ es) ((e.0, id) ∷ es) (e ∷ entered es path id)) ≡ e ∷ es
  taken_back e es Less h apart rest = cond-true (is_path path path) _ _ (is_path-same path)
  taken_back e es Equal h apart rest = absurd (true≢false (sym (ap is_eq h) ∙ apart))
  taken_back e es Greater h apart rest = cond-false (is_path path e.0) _ _ apart ∙ ap (λ l. e ∷ l) rest

  none_in_rest : (e : List ℕ × ℕ) (rest : Option ℕ) (b : Bool) → cond b (Some e.1) rest ≡ None →
      (b ≡ false) × (rest ≡ None)
  none_in_rest e rest true h = absurd (true≢false (ap is_some h))
  none_in_rest e rest false h = (refl, h)

  pub remove-insert : (es : Names) → lookup (is_path path) es ≡ None →
      remove_entry (is_path path) (insert_entry (slice_cmp nat_cmp) es path id) ≡ es
  remove-insert [] h = cond-true (is_path path path) _ _ (is_path-same path)
  remove-insert (e ∷ es) h =
      let parts = none_in_rest e (lookup (is_path path) es) (is_path path e.0) h in
      taken_back e es (slice_cmp nat_cmp path e.0) refl parts.0 (remove-insert es parts.1)

-- ---- a look-up after a name is taken out

module _ (path : List ℕ) (es : Names) (sorted : IsStrictlySortedBy (slice_cmp nat_cmp) (keys_of es)) where
  pub lookup-remove_entry-at : (q : List ℕ) →
      lookup (is_path q) (remove_entry (is_path path) es) ≡ cond (is_path path q) None (lookup (is_path q) es)
  lookup-remove_entry-at q =
      let laws = eq_by_cmp_equiv nat_list_cmp_total in
      lookup-remove_entry laws (is_path path)
      (λ x y h. laws.congr path x y h) q es (IsDistinct-from_sorted (slice_cmp nat_cmp) (keys_of es) sorted)

  pub lookup-remove_entry-same : lookup (is_path path) (remove_entry (is_path path) es) ≡ None
  lookup-remove_entry-same = lookup-remove_entry-at path ∙ cond-true (is_path path path) _ _ (is_path-same path)

  pub lookup-remove_entry-other : (q : List ℕ) → is_path path q ≡ false →
      lookup (is_path q) (remove_entry (is_path path) es) ≡ lookup (is_path q) es
  lookup-remove_entry-other q apart = lookup-remove_entry-at q ∙ cond-false (is_path path q) _ _ apart

-- ---- what holds of each path, and the order of the paths

module _ (P : List ℕ → Type 0) where
  pub all_keys-remove_entry : (test : List ℕ → Bool) (es : Names) → AllByRecursion P (keys_of es) →
      AllByRecursion P (keys_of (remove_entry test es))
  all_keys-remove_entry test [] h = tt
  all_keys-remove_entry test (e ∷ es) h =
      elim (test e.0) as (λ b. AllByRecursion P (keys_of (cond b es (e ∷ remove_entry test es))))
      [ true ↦ h.1 | false ↦ (h.0, all_keys-remove_entry test es h.1) ]

  all_at_entry : (path : List ℕ) (id : ℕ) (e : List ℕ × ℕ) (es : Names) (order : Ordering) → P path →
      AllByRecursion P (keys_of (e ∷ es)) → AllByRecursion P (keys_of (entered es path id))
      → AllByRecursion P (keys_of
      (match_ordering order ((path, id) ∷ e ∷ es) ((e.0, id) ∷ es) (e ∷ entered es path id)))
  all_at_entry path id e es Less p h rest = (p, h)
  all_at_entry path id e es Equal p h rest = h
  all_at_entry path id e es Greater p h rest = (h.0, rest)

  pub all_keys-insert_entry : (path : List ℕ) (id : ℕ) (es : Names) → P path → AllByRecursion P (keys_of es) →
      AllByRecursion P (keys_of (insert_entry (slice_cmp nat_cmp) es path id))
  all_keys-insert_entry path id [] p h = (p, tt)
  all_keys-insert_entry path id (e ∷ es) p h = all_at_entry path id e es (slice_cmp nat_cmp path e.0) p h
      (all_keys-insert_entry path id es p h.1)

pub sorted-remove_entry : (test : List ℕ → Bool) (es : Names) → IsStrictlySortedBy (slice_cmp nat_cmp) (keys_of es) →
    IsStrictlySortedBy (slice_cmp nat_cmp) (keys_of (remove_entry test es))
unfolding IsStrictlySortedBy
sorted-remove_entry test [] h = tt
sorted-remove_entry test (e ∷ es) h =
    elim (test e.0) as (λ b. IsStrictlySortedBy (slice_cmp nat_cmp) (keys_of (cond b es (e ∷ remove_entry test es)))) [
      | true ↦ h.1
      | false ↦ (
        all_keys-remove_entry (λ y. slice_cmp nat_cmp e.0 y ≡ Less) test es h.0,
        sorted-remove_entry test es h.1,
      )
    ]

below_rest : (path first : List ℕ) (ks : List (List ℕ)) → slice_cmp nat_cmp path first ≡ Less →
    AllByRecursion (λ y. slice_cmp nat_cmp first y ≡ Less) ks → AllByRecursion (λ y. slice_cmp nat_cmp path y ≡ Less) ks
below_rest path first [] h a = tt
below_rest path first (k ∷ ks) h a = (nat_list_cmp_total.trans path first k h a.0, below_rest path first ks h a.1)

above_first : (path first : List ℕ) → slice_cmp nat_cmp path first ≡ Greater → slice_cmp nat_cmp first path ≡ Less
above_first path first h = nat_list_cmp_total.antisymm first path ∙ ap ordering_reverse h

module _ (path : List ℕ) (id : ℕ) where
  sorted_at_entry : (e : List ℕ × ℕ) (es : Names) (order : Ordering) → slice_cmp nat_cmp path e.0 ≡ order →
      IsStrictlySortedBy (slice_cmp nat_cmp) (keys_of (e ∷ es)) →
      IsStrictlySortedBy (slice_cmp nat_cmp) (keys_of (entered es path id))
      → IsStrictlySortedBy (slice_cmp nat_cmp)
      (keys_of (match_ordering order ((path, id) ∷ e ∷ es) ((e.0, id) ∷ es) (e ∷ entered es path id)))
  unfolding IsStrictlySortedBy
  sorted_at_entry e es Less h s rest = ((h, below_rest path e.0 (keys_of es) h s.0), s)
  sorted_at_entry e es Equal h s rest = s
  sorted_at_entry e es Greater h s rest =
      (all_keys-insert_entry (λ y. slice_cmp nat_cmp e.0 y ≡ Less) path id es (above_first path e.0 h) s.0, rest)

  pub sorted-insert_entry : (es : Names) → IsStrictlySortedBy (slice_cmp nat_cmp) (keys_of es) →
      IsStrictlySortedBy (slice_cmp nat_cmp) (keys_of (insert_entry (slice_cmp nat_cmp) es path id))
  unfolding IsStrictlySortedBy
  sorted-insert_entry [] s = (tt, tt)
  sorted-insert_entry (e ∷ es) s = sorted_at_entry e es (slice_cmp nat_cmp path e.0) refl s (sorted-insert_entry es s.1)

-- ---- the keys that a test lets go

module _ (goes : List ℕ → Bool) where
  pub filter-keeps_all : (keys : List (List ℕ)) → AllByRecursion (λ key. goes key ≡ false) keys →
      filter (λ key. not (goes key)) keys ≡ keys
  filter-keeps_all [] h = refl
  filter-keeps_all (key ∷ keys) h = cond-true (not (goes key)) _ _ (ap not h.0) ∙ ap
      (λ l. key ∷ l) (filter-keeps_all keys h.1)

  pub list_any-none : (keys : List (List ℕ)) → AllByRecursion (λ key. goes key ≡ false) keys →
      list_any goes keys ≡ false
  list_any-none [] h = refl
  list_any-none (key ∷ keys) h = ap (λ b. b || list_any goes keys) h.0 ∙ list_any-none keys h.1

  module _ (path : List ℕ) where
    abbrev pub GoesAt : List (List ℕ) → Type 0
    GoesAt keys = AllByRecursion (λ key. goes key ≡ is_path path key) keys

    -- no key behind the one that goes is its like
    none_behind : (key : List ℕ) (keys : List (List ℕ)) → path ≡ key →
        AllByRecursion (λ y. slice_cmp nat_cmp key y ≡ Less) keys → GoesAt keys →
        AllByRecursion (λ y. goes y ≡ false) keys
    none_behind key [] same below agrees = tt
    none_behind key (y ∷ ys) same below agrees =
        (agrees.0 ∙ ap (λ p. is_path p y) same ∙ ap is_eq below.0, none_behind key ys same below.1 agrees.1)

    pub keys-remove_entry : (es : Names) → IsStrictlySortedBy (slice_cmp nat_cmp) (keys_of es) → GoesAt (keys_of es) →
        keys_of (remove_entry (is_path path) es) ≡ filter (λ key. not (goes key)) (keys_of es)
    unfolding IsStrictlySortedBy
    keys-remove_entry [] sorted agrees = refl
    keys-remove_entry (e ∷ es) sorted agrees =
        elim (cases_Bool (is_path path e.0)) [
          | inl h ↦
              ap keys_of (cond-true (is_path path e.0) es _ h)
              ∙ sym (filter-keeps_all (keys_of es)
              (none_behind e.0 (keys_of es) (is_path-true path e.0 h) sorted.0 agrees.1))
              ∙ sym (cond-false (not (goes e.0)) _ _ (ap not (agrees.0 ∙ h)))
          | inr h ↦
              ap keys_of (cond-false (is_path path e.0) es _ h)
              ∙ ap (λ l. e.0 ∷ l) (keys-remove_entry es sorted.1 agrees.1)
              ∙ sym (cond-true (not (goes e.0)) _ _ (ap not (agrees.0 ∙ h)))
        ]

    pub list_any-keys : (es : Names) → GoesAt (keys_of es) →
        list_any goes (keys_of es) ≡ is_some (lookup (is_path path) es)
    list_any-keys [] agrees = refl
    list_any-keys (e ∷ es) agrees =
        ap (λ b. b || list_any goes (keys_of es)) agrees.0
        ∙ ap (λ b. is_path path e.0 || b) (list_any-keys es agrees.1)
        ∙ elim (is_path path e.0)
        as (λ b. (b || is_some (lookup (is_path path) es)) ≡ is_some (cond b (Some e.1) (lookup (is_path path) es)))
        [ true ↦ refl | false ↦ refl ]
