-- Which path goes when a name is removed.
use Rattle.std.specs.Prelude.{ℕ, Bool, List}
use Rattle.cal_names.specs.NamedConceptMgmt.{is_name}
use Rattle.cal_names.specs.ConceptSettings.{ConceptSettings, extracted_name_at}

-- the one from which the name is extracted
abbrev pub goes_with : ConceptSettings → List ℕ → List ℕ → Bool
goes_with settings name path = is_name name (extracted_name_at settings path)
