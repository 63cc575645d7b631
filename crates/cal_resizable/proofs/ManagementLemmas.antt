-- That removing the segments that were listed takes all paths of a memory, and no other.
use Rattle.std.specs.Prelude.{◌≡◌, ℕ, ◌++◌, Bool, true, false, not, ◌&&◌, ◌||◌, cond, List, [], ◌∷◌, Option, Some, None, codes, if◌then◌else◌}
use Rattle.std.specs.List.{list_any, filter, filter_map, cons_option, AllByRecursion}
use Rattle.std.specs.Option.{option_and_then}
use Rattle.std.specs.Str.{bytes_eq}
use Rattle.std.proofs.Common.{refl, sym, ap, ◌∙◌, subst, true≢false}
use Rattle.std.proofs.lemmas.Option.{none-some, same_Some}
use Rattle.std.proofs.lemmas.Slice.Eq.{bytes_eq-Decides}
use Rattle.cal_names.specs.ConceptSettings.{ConceptSettings, extracted_name_at}
use Rattle.cal_names.specs.Extraction.{extracted_name_at-exact}
use Rattle.cal_names.specs.FileName.{IsFileName, is_file_name, as_file_name, as_file_name_yes}
use Rattle.cal_names.specs.NamedConceptMgmt.{is_name, is_name-same}
use Rattle.cal_storage.specs.Managing.{goes_with}
use Rattle.cal_resizable.specs.Management.{belongs_to, is_of_memory, shown_memory, goes_with_memory, after_removals, paths_without}
use Rattle.cal_resizable.specs.SegmentNames.{managed_name, management_segment_name}
use Rattle.cal_resizable.specs.SegmentNameLemmas.{managed_name-exact}

-- ---- tests

-- a conjunction or a disjunction, as a whole
or_assoc : (a b c : Bool) → ((a || b) || c) ≡ (a || (b || c))
or_assoc true b c = refl
or_assoc false b c = refl

or_false : (a : Bool) → (a || false) ≡ a
or_false true = refl
or_false false = refl

and_false : (a : Bool) → (a && false) ≡ false
and_false true = refl
and_false false = refl

and_or : (a b c : Bool) → ((a && b) || (a && c)) ≡ (a && (b || c))
and_or true b c = refl
and_or false b c = refl

-- two tests that hold together are the same
same_tests : (a b : Bool) → (a ≡ true → b ≡ true) → (b ≡ true → a ≡ true) → a ≡ b
same_tests true b forth back = sym (forth refl)
same_tests false true forth back = back refl
same_tests false false forth back = refl

module _ {X : Type 0} where
  any-same : (p q : X → Bool) → ((x : X) → p x ≡ q x) → (xs : List X) → list_any p xs ≡ list_any q xs
  any-same p q same [] = refl
  any-same p q same (x ∷ xs) =
      ap (λ b. b || list_any p xs) (same x) ∙ ap (λ b. q x || b) (any-same p q same xs)

  any-none : (p : X → Bool) → ((x : X) → p x ≡ false) → (xs : List X) → list_any p xs ≡ false
  any-none p none [] = refl
  any-none p none (x ∷ xs) = ap (λ b. b || list_any p xs) (none x) ∙ any-none p none xs

  filter-same : (p q : X → Bool) (xs : List X) → AllByRecursion (λ x. p x ≡ q x) xs → filter p xs ≡ filter q xs
  filter-same p q [] same = refl
  filter-same p q (x ∷ xs) same =
      ap (λ b. cond b (x ∷ filter p xs) (filter p xs)) same.0
      ∙ ap (λ l. cond (q x) (x ∷ l) l) (filter-same p q xs same.1)

  filter-all : (xs : List X) → filter (λ _. true) xs ≡ xs
  filter-all [] = refl
  filter-all (x ∷ xs) = ap (λ l. x ∷ l) (filter-all xs)

  -- what neither of two tests lets go
  filter-twice : (p q : X → Bool) (xs : List X) →
      filter (λ x. not (q x)) (filter (λ x. not (p x)) xs) ≡ filter (λ x. not (p x || q x)) xs
  filter-twice p q [] = refl
  filter-twice p q (x ∷ xs) =
      elim (p x) as (λ b. filter (λ y. not (q y)) (cond (not b) (x ∷ filter (λ y. not (p y)) xs)
      (filter (λ y. not (p y)) xs))
      ≡ cond (not (b || q x)) (x ∷ filter (λ y. not (p y || q y)) xs) (filter (λ y. not (p y || q y)) xs)) [
        | true ↦ filter-twice p q xs
        | false ↦ ap (λ l. cond (not (q x)) (x ∷ l) l) (filter-twice p q xs)
      ]

-- ---- one listed segment after another

module _ {S : Type 0} (remove : List ℕ → S → S) (memory : List ℕ) where
  -- one more of the list was removed, or isn't the memory's
  pub removals-more : (segment : List ℕ) (rest rest_before : List (List ℕ)) (now new whole : S) →
      rest_before ≡ segment ∷ rest → new ≡ (if belongs_to memory segment then remove segment now else now) →
      after_removals remove memory rest_before now ≡ whole → after_removals remove memory rest new ≡ whole
  removals-more segment rest rest_before now new whole in_turn step before =
      ap (after_removals remove memory rest) step
      ∙ sym (ap (λ l. after_removals remove memory l now) in_turn) ∙ before

  -- nothing is left of the list
  pub removals-end : (rest : List (List ℕ)) (now whole : S) → rest ≡ [] →
      after_removals remove memory rest now ≡ whole → now ≡ whole
  removals-end rest now whole ended before =
      sym (ap (λ l. after_removals remove memory l now) ended) ∙ before

module _ (memory : List ℕ) where
  pub found-more : (segment : List ℕ) (rest rest_before : List (List ℕ)) (found belongs whole : Bool) →
      rest_before ≡ segment ∷ rest → belongs ≡ belongs_to memory segment →
      (found || list_any (belongs_to memory) rest_before) ≡ whole →
      ((found || belongs) || list_any (belongs_to memory) rest) ≡ whole
  found-more segment rest rest_before found belongs whole in_turn is before =
      or_assoc found belongs (list_any (belongs_to memory) rest)
      ∙ ap (λ b. found || (b || list_any (belongs_to memory) rest)) is
      ∙ sym (ap (λ l. found || list_any (belongs_to memory) l) in_turn) ∙ before

  pub found-end : (rest : List (List ℕ)) (found whole : Bool) → rest ≡ [] →
      (found || list_any (belongs_to memory) rest) ≡ whole → found ≡ whole
  found-end rest found whole ended before =
      sym (or_false found) ∙ sym (ap (λ l. found || list_any (belongs_to memory) l) ended) ∙ before

-- ---- all paths of a memory, and no other

module _ (settings : ConceptSettings) (memory : List ℕ) where
  -- whether a path goes with one of the memory's segments among those listed
  abbrev goes_in : List (List ℕ) → List ℕ → Bool
  goes_in listed path = list_any (λ segment. belongs_to memory segment && goes_with settings segment path) listed

  removals-filter : (listed paths : List (List ℕ)) →
      after_removals (paths_without settings) memory listed paths ≡ filter (λ path. not (goes_in listed path)) paths
  removals-filter [] paths = sym (filter-all paths)
  removals-filter (segment ∷ listed) paths =
      elim (belongs_to memory segment) as (λ b. after_removals (paths_without settings) memory listed
      (if b then paths_without settings segment paths else paths)
      ≡ filter (λ path. not ((b && goes_with settings segment path) || goes_in listed path)) paths) [
        | true ↦ removals-filter listed (paths_without settings segment paths)
            ∙ filter-twice (goes_with settings segment) (goes_in listed) paths
        | false ↦ removals-filter listed paths
      ]

  -- of the names listed the one that a path shows is the memory's or not
  named-alone : (shown : List ℕ) (listed : List (List ℕ)) →
      list_any (λ segment. belongs_to memory segment && bytes_eq shown segment) listed
      ≡ (belongs_to memory shown && list_any (bytes_eq shown) listed)
  named-alone shown [] = sym (and_false (belongs_to memory shown))
  named-alone shown (segment ∷ listed) =
      ap (λ b. b || list_any (λ s. belongs_to memory s && bytes_eq shown s) listed)
      (one (bytes_eq shown segment) (bytes_eq-Decides shown segment).0)
      ∙ ap (λ b. (belongs_to memory shown && bytes_eq shown segment) || b) (named-alone shown listed)
      ∙ and_or (belongs_to memory shown) (bytes_eq shown segment) (list_any (bytes_eq shown) listed)
    where
      one : (test : Bool) → (test ≡ true → shown ≡ segment) →
          (belongs_to memory segment && test) ≡ (belongs_to memory shown && test)
      one true same = ap (λ s. belongs_to memory s && true) (sym (same refl))
      one false same = and_false (belongs_to memory segment) ∙ sym (and_false (belongs_to memory shown))

  -- a path whose segment, if it shows one, is listed goes with one that is listed where it goes with the memory
  goes_in-whole : (listed : List (List ℕ)) (shown : Option (List ℕ)) →
      ((segment : List ℕ) → shown ≡ Some segment → list_any (bytes_eq segment) listed ≡ true) →
      list_any (λ segment. belongs_to memory segment && is_name segment shown) listed ≡ is_of_memory memory shown
  goes_in-whole listed None is = any-none (λ segment. belongs_to memory segment && false)
      (λ segment. and_false (belongs_to memory segment)) listed
  goes_in-whole listed (Some segment) is =
      named-alone segment listed
      ∙ ap (λ b. belongs_to memory segment && b) (is segment refl)
      ∙ elim (belongs_to memory segment) as (λ b. (b && true) ≡ b) [ true ↦ refl | false ↦ refl ]

  abbrev IsListed : List (List ℕ) → List ℕ → Type 0
  IsListed listed path =
      (segment : List ℕ) → extracted_name_at settings path ≡ Some segment → list_any (bytes_eq segment) listed ≡ true

  listed-first : (segment : List ℕ) (shown : Option (List ℕ)) (rest : List (List ℕ)) → shown ≡ Some segment →
      list_any (bytes_eq segment) (cons_option shown rest) ≡ true
  listed-first segment None rest is = absurd (none-some segment is)
  listed-first segment (Some first) rest is =
      ap (λ b. b || list_any (bytes_eq segment) rest)
      ((bytes_eq-Decides segment first).1 (sym (same_Some first segment is)))

  listed-later : (segment : List ℕ) (shown : Option (List ℕ)) (rest : List (List ℕ)) →
      list_any (bytes_eq segment) rest ≡ true → list_any (bytes_eq segment) (cons_option shown rest) ≡ true
  listed-later segment None rest is = is
  listed-later segment (Some first) rest is =
      ap (λ b. bytes_eq segment first || b) is
      ∙ elim (bytes_eq segment first) as (λ b. (b || true) ≡ true) [ true ↦ refl | false ↦ refl ]

  all-listed : (paths listed : List (List ℕ)) →
      ((segment : List ℕ) → list_any (bytes_eq segment) (filter_map (extracted_name_at settings) paths) ≡ true →
      list_any (bytes_eq segment) listed ≡ true) → AllByRecursion (IsListed listed) paths
  all-listed [] listed within = tt
  all-listed (path ∷ paths) listed within = (
    λ segment is. within segment (listed-first segment (extracted_name_at settings path)
        (filter_map (extracted_name_at settings) paths) is),
    all-listed paths listed (λ segment later. within segment
        (listed-later segment (extracted_name_at settings path) (filter_map (extracted_name_at settings) paths) later)),
  )

  each-whole : (paths listed : List (List ℕ)) → AllByRecursion (IsListed listed) paths →
      AllByRecursion (λ path. not (goes_in listed path) ≡ not (goes_with_memory settings memory path)) paths
  each-whole [] listed are = tt
  each-whole (path ∷ paths) listed are = (
    ap not (goes_in-whole listed (extracted_name_at settings path) are.0),
    each-whole paths listed are.1,
  )

  -- removing what was listed takes every path of the memory, and no other
  pub removals-whole : (paths : List (List ℕ)) →
      after_removals (paths_without settings) memory (filter_map (extracted_name_at settings) paths) paths
      ≡ filter (λ path. not (goes_with_memory settings memory path)) paths
  removals-whole paths =
      let listed : List (List ℕ) = filter_map (extracted_name_at settings) paths in
      removals-filter listed paths
      ∙ filter-same _ _ paths (each-whole paths listed (all-listed paths listed (λ segment is. is)))

  -- one of the listed segments is the memory's where a path goes with it
  pub found-whole : (paths : List (List ℕ)) →
      list_any (belongs_to memory) (filter_map (extracted_name_at settings) paths)
      ≡ list_any (goes_with_memory settings memory) paths
  found-whole [] = refl
  found-whole (path ∷ paths) =
      first (extracted_name_at settings path) (filter_map (extracted_name_at settings) paths)
      ∙ ap (λ b. goes_with_memory settings memory path || b) (found-whole paths)
    where
      first : (shown : Option (List ℕ)) (rest : List (List ℕ)) →
          list_any (belongs_to memory) (cons_option shown rest)
          ≡ (is_of_memory memory shown || list_any (belongs_to memory) rest)
      first None rest = refl
      first (Some segment) rest = refl

-- the memories that the listed segments manage are those that the paths show
pub listed-whole : (settings : ConceptSettings) (paths : List (List ℕ)) →
    filter_map managed_name (filter_map (extracted_name_at settings) paths)
    ≡ filter_map (shown_memory settings) paths
listed-whole settings [] = refl
listed-whole settings (path ∷ paths) =
    first (extracted_name_at settings path) (filter_map (extracted_name_at settings) paths)
    ∙ ap (cons_option (shown_memory settings path)) (listed-whole settings paths)
  where
    first : (shown : Option (List ℕ)) (rest : List (List ℕ)) →
        filter_map managed_name (cons_option shown rest)
        ≡ cons_option (option_and_then managed_name shown) (filter_map managed_name rest)
    first None rest = refl
    first (Some segment) rest = refl

-- ---- the management segment

-- a file name is the bytes
as_file_name-same : (bytes name : List ℕ) → as_file_name bytes ≡ Some name → bytes ≡ name
as_file_name-same bytes name is = from (is_file_name bytes) is
  where
    from : (test : Bool) → (if test then Some bytes else None) ≡ Some name → bytes ≡ name
    from true is = same_Some bytes name is
    from false is = absurd (none-some name is)

is_name-true : (name : List ℕ) (shown : Option (List ℕ)) → is_name name shown ≡ true → shown ≡ Some name
is_name-true name None is = absurd (true≢false (sym is))
is_name-true name (Some other) is = ap (λ (n : List ℕ). Some n) ((bytes_eq-Decides other name).0 is)

module _ (settings : ConceptSettings) (memory : List ℕ) (rule : IsFileName memory) where
  managed-test : (segment : List ℕ) → management_segment_name memory ≡ Some segment → (shown : Option (List ℕ)) →
      is_name segment shown ≡ is_name memory (option_and_then managed_name shown)
  managed-test segment is None = refl
  managed-test segment is (Some other) =
      let whole : memory ++ codes "__mgmt" ≡ segment = as_file_name-same (memory ++ codes "__mgmt") segment is in
      same_tests (bytes_eq other segment) (is_name memory (managed_name other))
      (λ same. is_name-same memory (managed_name other)
      ((managed_name-exact other memory).1 (rule, (bytes_eq-Decides other segment).0 same ∙ sym whole)))
      (λ managed. (bytes_eq-Decides other segment).1
      (((managed_name-exact other memory).0 (is_name-true memory (managed_name other) managed)).1 ∙ whole))

  -- the memory is shown where the name of its management segment is
  pub exists-whole : (segment : List ℕ) → management_segment_name memory ≡ Some segment → (paths : List (List ℕ)) →
      list_any (λ path. is_name segment (extracted_name_at settings path)) paths
      ≡ list_any (λ path. is_name memory (shown_memory settings path)) paths
  exists-whole segment is paths =
      any-same _ _ (λ path. managed-test segment is (extracted_name_at settings path)) paths

  -- a memory whose management segment has no file name is shown nowhere
  pub exists-nowhere : management_segment_name memory ≡ None → (paths : List (List ℕ)) →
      list_any (λ path. is_name memory (shown_memory settings path)) paths ≡ false
  exists-nowhere none paths = any-none _ (λ path. nowhere path (extracted_name_at settings path) refl) paths
    where
      no_file_name : (other : List ℕ) → IsFileName other → managed_name other ≡ Some memory → ⊥
      no_file_name other is managed = none-some (memory ++ codes "__mgmt")
          (sym none ∙ as_file_name_yes (memory ++ codes "__mgmt")
          (subst IsFileName ((managed_name-exact other memory).0 managed).1 is))

      nowhere : (path : List ℕ) (shown : Option (List ℕ)) → extracted_name_at settings path ≡ shown →
          is_name memory (option_and_then managed_name shown) ≡ false
      nowhere path None is = refl
      nowhere path (Some other) is =
          same_tests (is_name memory (managed_name other)) false
          (λ managed. absurd (no_file_name other ((extracted_name_at-exact settings path other).0 is).0
          (is_name-true memory (managed_name other) managed)))
          (λ h. absurd (true≢false (sym h)))
