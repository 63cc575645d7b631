-- A name's path among the names of a registry: the one that goes with the name is the one that `path_for` makes.
use Rattle.std.proofs.Common.{◌≡◌, ℕ, ◌↔◌, inl, inr, Bool, true, false, not, Option, Some, None, Result, Ok, Err, is_some, List, [], ◌∷◌, filter, sym, ap, ◌∙◌}
use Rattle.std.proofs.lemmas.Bool.{cases_Bool}
use Rattle.std.proofs.lemmas.Slice.Eq.{bytes_eq-Decides}
use Rattle.std.specs.List.{AllByRecursion, list_any}
use Rattle.std.specs.Map.{keys_of, remove_entry}
use Rattle.cal_names.specs.FilePath.{IsFilePath}
use Rattle.cal_names.specs.NamedConceptMgmt.{is_name, is_name-same}
use Rattle.cal_storage.specs.Contents.{Contents, id_at, is_path}
use Rattle.cal_storage.specs.Soundness.{IsSound}
use Rattle.cal_storage.specs.NameLemmas.{keys-remove_entry, list_any-keys, filter-keeps_all, list_any-none, is_path-same, cases_path}

is_name-true : (name : List ℕ) (shown : Option (List ℕ)) → is_name name shown ≡ true → shown ≡ Some name
is_name-true name None is = absurd (cc)
is_name-true name (Some other) is = ap Some ((bytes_eq-Decides other name).0 is)

module _ (shown : List ℕ → Option (List ℕ)) (name : List ℕ) where
  abbrev goes : List ℕ → Bool
  goes key = is_name name (shown key)

  abbrev Inverse : {E : Type 0} → Result (List ℕ) E → Type 0
  Inverse made = (other : List ℕ) → IsFilePath other → (shown other ≡ Some name) ↔ (made ≡ Ok other)

  module _ {E : Type 0} (path : List ℕ) (inverse : Inverse {E = E} (Ok path)) where
    goes-is_path : (key : List ℕ) → IsFilePath key → goes key ≡ is_path path key
    goes-is_path key rule = elim (cases_path path key) [
      | inl same ↦ is_name-same name (shown key) ((inverse key rule).1 (ap Ok same))
          ∙ sym (ap (is_path path) (sym same) ∙ is_path-same path)
      | inr apart ↦ elim (cases_Bool (goes key)) [
        | inl is ↦
            let same : path ≡ key = cc ((inverse key rule).0 (is_name-true name (shown key) is)) in
            absurd (cc (apart, ap (is_path path) (sym same) ∙ is_path-same path))
        | inr not_this ↦ not_this ∙ sym apart
      ]
    ]

    all_agree : (keys : List (List ℕ)) → AllByRecursion IsFilePath keys →
        AllByRecursion (λ key. goes key ≡ is_path path key) keys
    all_agree [] rules = tt
    all_agree (key ∷ keys) rules = (goes-is_path key rules.0, all_agree keys rules.1)

    pub found_at : {T : Type 0} (contents : Contents T) → IsSound contents →
        is_some (id_at contents path) ≡ list_any goes (keys_of contents.names)
    found_at contents sound =
        sym (list_any-keys goes path contents.names (all_agree (keys_of contents.names) sound.paths))

    pub gone_at : {T : Type 0} (contents : Contents T) → IsSound contents →
        keys_of (remove_entry (is_path path) contents.names) ≡ filter (λ key. not (goes key)) (keys_of contents.names)
    gone_at contents sound = keys-remove_entry goes path contents.names sound.ordered
        (all_agree (keys_of contents.names) sound.paths)

  module _ {E : Type 0} (error : E) (inverse : Inverse (Err error)) where
    goes_not : (key : List ℕ) → IsFilePath key → goes key ≡ false
    goes_not key rule = elim (cases_Bool (goes key)) [
      | inl is ↦ absurd (cc ((inverse key rule).0 (is_name-true name (shown key) is)))
      | inr not_this ↦ not_this
    ]

    none_goes : (keys : List (List ℕ)) → AllByRecursion IsFilePath keys → AllByRecursion (λ key. goes key ≡ false) keys
    none_goes [] rules = tt
    none_goes (key ∷ keys) rules = (goes_not key rules.0, none_goes keys rules.1)

    pub found_nowhere : {T : Type 0} (contents : Contents T) → IsSound contents →
        false ≡ list_any goes (keys_of contents.names)
    found_nowhere contents sound =
        sym (list_any-none goes (keys_of contents.names) (none_goes (keys_of contents.names) sound.paths))

    pub gone_nowhere : {T : Type 0} (contents : Contents T) → IsSound contents → keys_of contents.names ≡ filter
        (λ key. not (goes key)) (keys_of contents.names)
    gone_nowhere contents sound =
        sym (filter-keeps_all goes (keys_of contents.names) (none_goes (keys_of contents.names) sound.paths))
