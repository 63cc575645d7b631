-- How growing memories are found, listed and removed: by the paths of their segments.
use Rattle.std.specs.Prelude.{◌≡◌, ℕ, Bool, true, false, not, ◌||◌, List, [], ◌∷◌, Option, Some, None, if◌then◌else◌}
use Rattle.std.specs.List.{filter, filter_map}
use Rattle.std.specs.Map.{keys_of}
use Rattle.std.specs.Option.{option_and_then, option_map}
use Rattle.std.proofs.Common.{ap}
use Rattle.std.proofs.lemmas.Option.{none-some}
use Rattle.cal_names.specs.ConceptSettings.{ConceptSettings, extracted_name_at}
use Rattle.cal_names.specs.NamedConceptMgmt.{is_name, is_name-same}
use Rattle.cal_storage.specs.Contents.{Contents}
use Rattle.cal_storage.specs.Managing.{goes_with}
use Rattle.cal_storage.specs.Refusals.{after_name_removal}
use Rattle.cal_resizable.specs.SegmentNames.{managed_name, segment_of_name}

-- whether a segment's name is one of the memory of a name: of its management segment, or of another
abbrev pub belongs_to : List ℕ → List ℕ → Bool
belongs_to memory segment =
    is_name memory (managed_name segment) || is_name memory (option_map (λ found. found.0) (segment_of_name segment))

-- whether there is a segment's name, and it is one of the memory of a name
abbrev pub is_of_memory : List ℕ → Option (List ℕ) → Bool
is_of_memory memory None = false
is_of_memory memory (Some segment) = belongs_to memory segment

-- the name of the memory that a path shows, where it stands for a management segment
abbrev pub shown_memory : ConceptSettings → List ℕ → Option (List ℕ)
shown_memory settings path = option_and_then managed_name (extracted_name_at settings path)

-- whether a path goes with the memory of a name: where it stands for one of its segments
abbrev pub goes_with_memory : ConceptSettings → List ℕ → List ℕ → Bool
goes_with_memory settings memory path = is_of_memory memory (extracted_name_at settings path)

-- what is left after the segments of a memory among the names of a list were removed in turn, by what is left after one
-- was removed
abbrev pub after_removals : {S : Type 0} → (List ℕ → S → S) → List ℕ → List (List ℕ) → S → S
after_removals remove memory [] state = state
after_removals remove memory (segment ∷ segments) state =
    after_removals remove memory segments (if belongs_to memory segment then remove segment state else state)

-- the paths without that of the segment of a name
abbrev pub paths_without : ConceptSettings → List ℕ → List (List ℕ) → List (List ℕ)
paths_without settings segment paths = filter (λ path. not (goes_with settings segment path)) paths

module _ {T : Type 0} where
  -- the names of the segments that a registry has, in the order of their paths
  abbrev pub segment_names : ConceptSettings → Contents T → List (List ℕ)
  segment_names settings contents = filter_map (extracted_name_at settings) (keys_of contents.names)

  -- a registry after all segments of the memory of a name were removed in the order of their paths
  abbrev pub after_memory_removal : ConceptSettings → List ℕ → Contents T → Contents T
  after_memory_removal settings memory contents =
      after_removals (after_name_removal settings) memory (segment_names settings contents) contents

-- for the law that a path that shows a memory goes with it
pub shown_memory-goes : (settings : ConceptSettings) (path memory : List ℕ) →
    shown_memory settings path ≡ Some memory → goes_with_memory settings memory path ≡ true
shown_memory-goes settings path memory = from (extracted_name_at settings path)
  where
    from : (segment : Option (List ℕ)) → option_and_then managed_name segment ≡ Some memory →
        is_of_memory memory segment ≡ true
    from None shown = absurd (none-some memory shown)
    from (Some segment) shown =
        ap (λ b. b || is_name memory (option_map (λ found. found.0) (segment_of_name segment)))
        (is_name-same memory (managed_name segment) shown)
